-- Each search of a sound depot is told by its rows.
use Rattle.std.proofs.Common.{◌≡◌, ℕ, suc, Bool, true, false, List, [], ◌∷◌, length, Option, Some, None, Ok, Err, refl, sym, ap, ◌∙◌}
use Rattle.std.specs.Prelude.{◌&&◌, ◌==◌, codes, if◌then◌else◌, find, unwrap_or, option_map, option_and_then, is_some, IfSome, IsSome, slice_get}
use Rattle.std.specs.Option.{option_map_or}
use Rattle.depot_rows.specs.depot_path.Bytes.{same}
use Rattle.depot_rows.specs.depot_path.Path.{is_path, printed, path_of}
use Rattle.depot_rows.proofs.depot_path.Paths.{prints_path}
use Rattle.depot_rows.specs.db_records.declared.key.Key.TheVariants as keys
use Rattle.depot_rows.specs.db_records.declared.record.Record.{Record}
use Rattle.depot_rows.specs.db_records.declared.record.Record.TheVariants as rows
use Rattle.depot_rows.specs.spec_form.Form.{FormValue}
use Rattle.depot_rows.specs.spec_form.Printing.{printed_form}
use Rattle.depot_rows.specs.spec_form.Reading.{form_of}
use Rattle.depot_rows.specs.depot_model.Deeds.{Deed, Opening, Source, Action, Add, Edit, Delete, Branch, Integrate, MoveAdd, MoveDelete, Pending, Landing, SpecKind, ClientForm, LabelForm, ShelfForm, JobForm, FixForm, How, CopyFrom, BranchFrom, DeleteFrom, Ignored, MovedFrom}
use Rattle.depot_rows.specs.depot_model.Latest.{have, labelled, spec, kind_word, count_of}
use Rattle.depot_rows.specs.depot_model.Numbers.{pending, landing, top}
use Rattle.depot_rows.specs.depot_model.Opened.{opened, holder, owed, Resolve}
use Rattle.depot_rows.specs.depot_model.Records.{record_of, working_record, resolve_record, printed_or_empty, rev_record, numbered_record, pending_record, landed_record, shape_of}
use Rattle.depot_rows.specs.depot_model.Revisions.{Revision, revisions, revision, head}
use Rattle.depot_rows.specs.depot_model.Rows.{action_word, how_word}
use Rattle.depot_rows.specs.depot_model.Rules.{IsSound, IsSpelled, lock_of}
use Rattle.depot_rows.specs.depot_model.Steps.Counters.{counter_of, above_zero}
use Rattle.depot_rows.proofs.Keys.{same-is, same-self, number-is}
use Rattle.depot_rows.proofs.Locks.{lock_number, lock-unopened}
use Rattle.depot_rows.proofs.Openings.{lock_shown}
use Rattle.depot_rows.proofs.Spelled.{at_path-here}
use Rattle.depot_facts.proofs.OpenFiles.{ArePaths, are_paths, opened_paths}
use Rattle.depot_facts.proofs.Read.{spelled_reads}
use Rattle.depot_facts.proofs.Resolves.{IsOwed, owed_is}
use Rattle.depot_facts.specs.Contents.{bare}
use Rattle.depot_facts.proofs.Nowhere.{no_have, no_label, no_opening, no_revisions, no_resolve}
use Rattle.depots_alike.proofs.Twins.{Twins}

-- ---- what rows say

abbrev number_in : Option Record → ℕ
number_in (Some (rows.Have r)) = r.rev
number_in (Some (rows.Label r)) = r.rev
number_in (Some (rows.Counter r)) = r.value
number_in _ = 0

have_number : (client text : List ℕ) (n : ℕ) → number_in (numbered_record (λ rev. rows.Have (record { client = client; path = text; rev = rev })) n) ≡ n
have_number client text n = go (n == 0) refl
  where
    go : (b : Bool) → (n == 0) ≡ b → number_in (if b then None else Some (rows.Have (record { client = client; path = text; rev = n }))) ≡ n
    go true e = sym (number-is n 0 e)
    go false e = refl

label_number : (label text : List ℕ) (n : ℕ) → number_in (numbered_record (λ rev. rows.Label (record { label = label; path = text; rev = rev })) n) ≡ n
label_number label text n = go (n == 0) refl
  where
    go : (b : Bool) → (n == 0) ≡ b → number_in (if b then None else Some (rows.Label (record { label = label; path = text; rev = n }))) ≡ n
    go true e = sym (number-is n 0 e)
    go false e = refl

abbrev pub actions : List Action
actions = Add ∷ Edit ∷ Delete ∷ Branch ∷ Integrate ∷ MoveAdd ∷ MoveDelete ∷ []

abbrev pub action_in : List ℕ → Action
action_in word = unwrap_or (find (λ action. same (action_word action) word) actions) Add

pub action_back : (action : Action) → action_in (action_word action) ≡ action
action_back Add = refl
action_back Edit = refl
action_back Delete = refl
action_back Branch = refl
action_back Integrate = refl
action_back MoveAdd = refl
action_back MoveDelete = refl

abbrev pub path_in : List ℕ → Option (List ℕ)
path_in text = elim (path_of text) [ Ok path ↦ Some path | Err fault ↦ None ]

pub path_back : (path : List ℕ) → is_path path ≡ true → path_in (printed path) ≡ Some path
path_back path is = ap (λ read. elim read [ Ok path ↦ Some path | Err fault ↦ None ]) (prints_path path is)

abbrev source_in : ℕ → Option (List ℕ) → Option Source
source_in rev path = option_map (λ p. record { path = p; rev = rev }) path

abbrev opening_in : Option Record → Option Opening
opening_in (Some (rows.Working r)) = Some (record {
  client = r.client;
  path = unwrap_or (path_in r.path) [];
  base = r.base;
  action = action_in r.action;
  file_type = r.file_type;
  change = r.change;
  source = source_in r.source_rev (path_in r.source);
  moved = path_in r.moved;
})
opening_in _ = None

pub moved_back : (moved : Option (List ℕ)) → IfSome moved (λ p. is_path p ≡ true) → path_in (printed_or_empty moved) ≡ moved
moved_back None is = refl
moved_back (Some p) is = path_back p is

source_back : (source : Option Source) → IfSome source (λ s. is_path s.path ≡ true)
    → source_in (elim source [ None ↦ 0 | Some s ↦ s.rev ]) (path_in (elim source [ None ↦ [] | Some s ↦ printed s.path ])) ≡ source
source_back None is = refl
source_back (Some s) is = ap (source_in s.rev) (path_back s.path is)

opening_back : (d : List Deed) (o : Opening) → ArePaths o.path o.moved o.source → opening_in (Some (working_record d o)) ≡ Some o
opening_back d o paths = λ i. Some (record {
  client = o.client;
  path = unwrap_or (path_back o.path paths.own i) [];
  base = o.base;
  action = action_back o.action i;
  file_type = o.file_type;
  change = o.change;
  source = source_back o.source paths.taken i;
  moved = moved_back o.moved paths.other i;
})

abbrev text_in : Option Record → Option (List ℕ)
text_in (Some (rows.Domain r)) = Some r.form
text_in _ = None

abbrev form_in : SpecKind → Option Record → Option FormValue
form_in kind r = option_and_then (λ text. elim (form_of (shape_of kind) text) [ Ok form ↦ Some form | Err fault ↦ None ]) (text_in r)

form_back : (kind : SpecKind) (word name : List ℕ) (form : Option FormValue) → IfSome form (IsSpelled kind)
    → form_in kind (option_map (λ text. rows.Domain (record { kind = word; name = name; form = text })) (option_map printed_form form)) ≡ form
form_back kind word name None is = refl
form_back kind word name (Some form) is = ap (λ read. elim read [ Ok form ↦ Some form | Err fault ↦ None ]) (spelled_reads kind form is)

abbrev pending_in : Option Record → Option Pending
pending_in (Some (rows.Change r)) = if same r.status (codes "pending") then Some (record { change = r.change; user = r.user; client = r.client; moment = r.moment; text = r.text }) else None
pending_in _ = None

abbrev pub landing_in : Option Record → Option Landing
landing_in (Some (rows.Change r)) =
    if same r.status (codes "pending") then None else Some (record { change = r.change; user = r.user; client = r.client; moment = r.moment; text = r.text; entries = [] })
landing_in _ = None

abbrev change_row : Option Pending → Option Landing → Option Record
change_row p l = elim p [ Some p ↦ Some (pending_record p) | None ↦ option_map landed_record l ]

pending_back : (p : Option Pending) (l : Option Landing) → pending_in (change_row p l) ≡ p
pending_back (Some p) l = refl
pending_back None (Some l) = refl
pending_back None None = refl

landing_back : (p : Option Pending) (l : Option Landing) → (IsSome p → IsSome l → ⊥) → landing_in (change_row p l) ≡ option_map bare l
landing_back (Some p) None apart = refl
landing_back (Some p) (Some l) apart = absurd (apart refl refl)
landing_back None (Some l) apart = refl
landing_back None None apart = refl

abbrev hows : List How
hows = CopyFrom ∷ BranchFrom ∷ DeleteFrom ∷ Ignored ∷ MovedFrom ∷ []

abbrev how_in : List ℕ → Option How
how_in word = find (λ how. same (how_word how) word) hows

how_back : (how : Option How) → how_in (option_map_or how_word how []) ≡ how
how_back None = refl
how_back (Some CopyFrom) = refl
how_back (Some BranchFrom) = refl
how_back (Some DeleteFrom) = refl
how_back (Some Ignored) = refl
how_back (Some MovedFrom) = refl

abbrev resolve_in : Option Record → Option Resolve
resolve_in (Some (rows.Resolve r)) = Some (record {
  owing = record { client = r.client; path = unwrap_or (path_in r.path) []; from = unwrap_or (path_in r.from) []; first = r.first; last = r.last };
  how = how_in r.how;
})
resolve_in _ = None

resolve_back : (client p f : List ℕ) (o : Option Resolve) → IfSome o (IsOwed client p f) → is_path p ≡ true → is_path f ≡ true
    → resolve_in (option_map resolve_record o) ≡ o
resolve_back client p f None is path from = refl
resolve_back client p f (Some r) is path from =
    let own : path_in (printed r.owing.path) ≡ Some r.owing.path = path_back r.owing.path (ap is_path is.1 ∙ path) in
    let other : path_in (printed r.owing.from) ≡ Some r.owing.from = path_back r.owing.from (ap is_path is.2 ∙ from) in
    λ i. Some (record {
      owing = record { client = r.owing.client; path = unwrap_or (own i) []; from = unwrap_or (other i) []; first = r.owing.first; last = r.owing.last };
      how = how_back r.how i;
    })

-- who has a lock is known by each client's part in it
own_lock : (x : List ℕ) → lock_number (Some x) x ≡ 1
own_lock x = rw (same-self x) refl

one_of_two : (x y : List ℕ) → lock_number (Some y) x ≡ 1 → y ≡ x
one_of_two x y e = go (same y x) refl e
  where
    go : (b : Bool) → same y x ≡ b → (let n : ℕ = if b then 1 else 0 in n ≡ 1) → y ≡ x
    go true k h = same-is y x k
    go false k h = absurd cc

one_holder : (a b : Option (List ℕ)) → ((client : List ℕ) → lock_number a client ≡ lock_number b client) → a ≡ b
one_holder None None alike = refl
one_holder None (Some y) alike = absurd (let e : lock_number None y ≡ 1 = alike y ∙ own_lock y in let f : ◌≡◌ {A = ℕ} 0 1 = e in cc)
one_holder (Some x) None alike = absurd (let f : ◌≡◌ {A = ℕ} 0 1 = sym (alike x) ∙ own_lock x in cc)
one_holder (Some x) (Some y) alike = ap Some (sym (one_of_two x y (sym (alike x) ∙ own_lock x)))

above_back : (n : ℕ) → unwrap_or (above_zero n) 0 ≡ n
above_back n = go (n == 0) refl
  where
    go : (b : Bool) → (n == 0) ≡ b → unwrap_or (if b then None else Some n) 0 ≡ n
    go true e = sym (number-is n 0 e)
    go false e = refl

abbrev value_in : Option Record → Option ℕ
value_in (Some (rows.Counter r)) = Some r.value
value_in _ = None

value_back : (name : List ℕ) (value : Option ℕ) → value_in (option_map (λ v. rows.Counter (record { name = name; value = v })) value) ≡ value
value_back name None = refl
value_back name (Some v) = refl

same_length : {A : Type 0} (xs ys : List A) → ((k : ℕ) → is_some (slice_get xs k) ≡ is_some (slice_get ys k)) → length xs ≡ length ys
same_length [] [] alike = refl
same_length [] (y ∷ ys) alike = absurd (let e : false ≡ true = alike 0 in cc)
same_length (x ∷ xs) [] alike = absurd (let e : true ≡ false = alike 0 in cc)
same_length (x ∷ xs) (y ∷ ys) alike = ap suc (same_length xs ys (λ k. alike (suc k)))

-- ---- the searches of one depot by its rows

pub by_path : {A : Type 0} (p : List ℕ) (a b : A) → (is_path p ≡ true → a ≡ b) → (is_path p ≡ false → a ≡ b) → a ≡ b
by_path p a b here elsewhere = go (is_path p) refl
  where
    go : (t : Bool) → is_path p ≡ t → a ≡ b
    go true e = here e
    go false e = elsewhere e

module _ (d : List Deed) (sound : IsSound d) where
  have_at : (client p : List ℕ) → is_path p ≡ true → number_in (record_of d (keys.Have client (printed p))) ≡ have d client p
  have_at client p is =
      ap number_in (at_path-here p (λ path. numbered_record (λ rev. rows.Have (record { client = client; path = printed p; rev = rev })) (have d client path)) is)
      ∙ have_number client (printed p) (have d client p)

  label_at : (label p : List ℕ) → is_path p ≡ true → number_in (record_of d (keys.Label label (printed p))) ≡ labelled d label p
  label_at label p is =
      ap number_in (at_path-here p (λ path. numbered_record (λ rev. rows.Label (record { label = label; path = printed p; rev = rev })) (labelled d label path)) is)
      ∙ label_number label (printed p) (labelled d label p)

  opened_at : (client p : List ℕ) → is_path p ≡ true → opening_in (record_of d (keys.Working (printed p) client)) ≡ opened d client p
  opened_at client p is =
      ap opening_in (at_path-here p (λ path. option_map (working_record d) (opened d client path)) is) ∙ go (opened d client p) refl
    where
      go : (o : Option Opening) → opened d client p ≡ o → opening_in (option_map (working_record d) o) ≡ o
      go None e = refl
      go (Some o) e = opening_back d o (are_paths o.path o.moved o.source (opened_paths d sound.paths client p o e))

  owed_at : (client p f : List ℕ) → is_path p ≡ true → is_path f ≡ true → resolve_in (record_of d (keys.Resolve client (printed p) (printed f))) ≡ owed d client p f
  owed_at client p f path from =
      ap resolve_in (at_path-here p _ path ∙ at_path-here f (λ source. option_map resolve_record (owed d client p source)) from)
      ∙ resolve_back client p f (owed d client p f) (owed_is d client p f) path from

  spec_at : (kind : SpecKind) (name : List ℕ) → form_in kind (record_of d (keys.Domain (kind_word kind) name)) ≡ spec d kind name
  spec_at ClientForm name = form_back ClientForm (codes "client") name (spec d ClientForm name) (sound.forms_read ClientForm name)
  spec_at LabelForm name = form_back LabelForm (codes "label") name (spec d LabelForm name) (sound.forms_read LabelForm name)
  spec_at ShelfForm name = form_back ShelfForm (codes "shelf") name (spec d ShelfForm name) (sound.forms_read ShelfForm name)
  spec_at JobForm name = form_back JobForm (codes "job") name (spec d JobForm name) (sound.forms_read JobForm name)
  spec_at FixForm name = form_back FixForm (codes "fix") name (spec d FixForm name) (sound.forms_read FixForm name)

  counter_at : (name : List ℕ) → value_in (record_of d (keys.Counter name)) ≡ counter_of d name
  counter_at name = value_back name (counter_of d name)

  lock_nowhere : (p : List ℕ) → is_path p ≡ false → (client : List ℕ) → lock_number (holder d p) client ≡ 0
  lock_nowhere p not client = lock-unopened d client p (no_opening d sound.paths p not client)

-- ---- the searches of two depots with the same rows

module _ (d e : List Deed) (twins : Twins d e) where
  pub have_same : (client p : List ℕ) → have d client p ≡ have e client p
  have_same client p = by_path p (have d client p) (have e client p)
      (λ is. sym (have_at d twins.left client p is) ∙ ap number_in (twins.rows (keys.Have client (printed p))) ∙ have_at e twins.right client p is)
      (λ not. no_have d twins.left.paths p not client ∙ sym (no_have e twins.right.paths p not client))

  pub labelled_same : (label p : List ℕ) → labelled d label p ≡ labelled e label p
  labelled_same label p = by_path p (labelled d label p) (labelled e label p)
      (λ is. sym (label_at d twins.left label p is) ∙ ap number_in (twins.rows (keys.Label label (printed p))) ∙ label_at e twins.right label p is)
      (λ not. no_label d twins.left.paths p not label ∙ sym (no_label e twins.right.paths p not label))

  pub opened_same : (client p : List ℕ) → opened d client p ≡ opened e client p
  opened_same client p = by_path p (opened d client p) (opened e client p)
      (λ is. sym (opened_at d twins.left client p is) ∙ ap opening_in (twins.rows (keys.Working (printed p) client)) ∙ opened_at e twins.right client p is)
      (λ not. no_opening d twins.left.paths p not client ∙ sym (no_opening e twins.right.paths p not client))

  pub owed_same : (client p f : List ℕ) → owed d client p f ≡ owed e client p f
  owed_same client p f = go (is_path p) refl (is_path f) refl
    where
      nowhere : (is_path p && is_path f) ≡ false → owed d client p f ≡ owed e client p f
      nowhere not = no_resolve d twins.left.paths client p f not ∙ sym (no_resolve e twins.right.paths client p f not)

      go : (a : Bool) → is_path p ≡ a → (b : Bool) → is_path f ≡ b → owed d client p f ≡ owed e client p f
      go true k true l =
          sym (owed_at d twins.left client p f k l) ∙ ap resolve_in (twins.rows (keys.Resolve client (printed p) (printed f))) ∙ owed_at e twins.right client p f k l
      go true k false l = nowhere (λ i. k i && l i)
      go false k b l = nowhere (λ i. k i && is_path f)

  pub holder_same : (p : List ℕ) → holder d p ≡ holder e p
  holder_same p = one_holder (holder d p) (holder e p) (λ client. by_path p (lock_number (holder d p) client) (lock_number (holder e p) client)
      (λ is. sym (lock_shown d client p is) ∙ ap lock_of (twins.rows (keys.Working (printed p) client)) ∙ lock_shown e client p is)
      (λ not. lock_nowhere d twins.left p not client ∙ sym (lock_nowhere e twins.right p not client)))

  pub spec_same : (kind : SpecKind) (name : List ℕ) → spec d kind name ≡ spec e kind name
  spec_same kind name = sym (spec_at d twins.left kind name) ∙ ap (form_in kind) (twins.rows (keys.Domain (kind_word kind) name)) ∙ spec_at e twins.right kind name

  pub counter_same : (name : List ℕ) → counter_of d name ≡ counter_of e name
  counter_same name = sym (counter_at d twins.left name) ∙ ap value_in (twins.rows (keys.Counter name)) ∙ counter_at e twins.right name

  pub top_same : top d ≡ top e
  top_same = sym (above_back (top d)) ∙ ap (λ (n : Option ℕ). unwrap_or n 0) (counter_same (codes "change")) ∙ above_back (top e)

  pub journal_same : count_of d (codes "journal") ≡ count_of e (codes "journal")
  journal_same = counter_same (codes "journal")

  pub pending_same : (n : ℕ) → pending d n ≡ pending e n
  pending_same n =
      sym (pending_back (pending d n) (landing d n)) ∙ ap pending_in (twins.rows (keys.Change n)) ∙ pending_back (pending e n) (landing e n)

  pub landing_same : (n : ℕ) → option_map bare (landing d n) ≡ option_map bare (landing e n)
  landing_same n =
      sym (landing_back (pending d n) (landing d n) (twins.left.landed_or_pending n)) ∙ ap landing_in (twins.rows (keys.Change n))
      ∙ landing_back (pending e n) (landing e n) (twins.right.landed_or_pending n)

  rev_same : (p : List ℕ) (n : ℕ) → is_path p ≡ true → option_map (rev_record n) (revision d p n) ≡ option_map (rev_record n) (revision e p n)
  rev_same p n is =
      sym (at_path-here p (λ x. option_map (rev_record n) (revision d x n)) is) ∙ twins.rows (keys.Rev (printed p) n)
      ∙ at_path-here p (λ x. option_map (rev_record n) (revision e x n)) is

  pub head_same : (p : List ℕ) → head d p ≡ head e p
  head_same p = by_path p (head d p) (head e p)
      (λ is. same_length (revisions d p) (revisions e p) (λ k.
      sym (there k (revision d p (suc k))) ∙ ap is_some (rev_same p (suc k) is) ∙ there k (revision e p (suc k))))
      (λ not. ap length (no_revisions d twins.left.paths p not ∙ sym (no_revisions e twins.right.paths p not)))
    where
      there : (k : ℕ) (r : Option Revision) → is_some (option_map (rev_record (suc k)) r) ≡ is_some r
      there k None = refl
      there k (Some r) = refl
