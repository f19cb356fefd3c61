-- The step that shelves files.
use Rattle.std.proofs.Common.{◌≡◌, ◌≤◌, ◌<◌, ◌^◌, ℕ, zero, suc, Bool, true, false, List, [], ◌∷◌, ◌++◌, length, Option, Some, None, inl, inr, refl, sym, ap, subst, ◌∙◌, arith}
use Rattle.std.specs.Prelude.{◌&&◌, ◌||◌, ◌==◌, not, codes, decimal, map, sum, find, filter, nat_lt, nat_le, IfSome, IsSome, is_some, is_none, option_and_then, option_map, if◌then◌else◌}
use Rattle.std.specs.List.{list_all}
use Rattle.std.proofs.lemmas.Bool.Decides.{nat_tests}
use Rattle.std.proofs.lemmas.Bool.{and_parts, or_right}
use Rattle.hex.specs.Hex.{IsBytes}
use Rattle.depot_rows.specs.depot_path.Bytes.{same}
use Rattle.depot_rows.specs.depot_path.Digits.{number_of}
use Rattle.depot_rows.specs.depot_path.Name.{is_name}
use Rattle.depot_rows.specs.depot_path.Path.{is_path, printed}
use Rattle.depot_rows.specs.spec_form.Form.{FormValue, value_lines}
use Rattle.depot_rows.specs.view_map.Mapping.{path_in}
use Rattle.depot_rows.specs.depot_model.Arguments.{names, opened_by, over_all}
use Rattle.depot_rows.specs.depot_model.Asking.{view, to_open}
use Rattle.depot_rows.specs.depot_model.Opened.{opened}
use Rattle.depot_rows.specs.depot_model.Deeds.{Deed, Spec, ShelfForm, Opening, Source, Pending, Action, Add, Edit, Delete, Branch, Integrate, MoveAdd, MoveDelete}
use Rattle.depot_rows.specs.depot_model.Numbers.{pending, landing, top}
use Rattle.depot_rows.specs.depot_model.Numerals.{is_numeral}
use Rattle.depot_rows.specs.depot_model.Revisions.{head, is_live_action, is_live_at}
use Rattle.depot_rows.specs.depot_model.Rows.{action_word}
use Rattle.depot_rows.specs.depot_model.Rules.{IsSound, IsSpelled, IsOneOf, IsType, is_content_text}
use Rattle.depot_rows.specs.depot_model.Shelves.{shelf_name, kept, kept_form}
use Rattle.depot_rows.specs.depot_model.Step.{Step, nothing, does, after, refuse_if}
use Rattle.depot_rows.specs.depot_model.Steps.Shelving.{block_given, is_shelvable, shelved_row, shelve_opening, shelve_file, size_in, within_forms, opened_in, shelve}
use Rattle.depot_rows.specs.depot_model.Steps.Opening.{is_of, change_refusal, right_refusal}
use Rattle.depot_rows.specs.depot_model.Steps.Reverting.{not_open, is_selected}
use Rattle.depot_rows.specs.depot_model.Steps.Submitting.{source_content, content_at, block_at, block_of, lacks_content}
use Rattle.depot_rows.specs.depot_model.Values.{value_of}
use Rattle.depot_rows.specs.depot_model.declared.command.FileArgument.{FileArgument}
use Rattle.depot_rows.specs.depot_model.declared.refusal.Refusal.{Refusal}
use Rattle.depot_rows.specs.depot_model.declared.refusal.Refusal.TheVariants.{NoSuchChange, NotYours, NotShelvable, AlreadyShelved, NoContent, OverLimit}
use Rattle.depot_rows.specs.depot_model.declared.refusal.Limit.TheVariants.{Files, Shelf as LimitShelf}
use Rattle.depot_rows.specs.depot_model.declared.request.Caller.{Caller}
use Rattle.depot_rows.specs.depot_model.declared.request.Content.{Content}
use Rattle.depot_rows.specs.depot_model.declared.request.Request.{Request}
use Rattle.depot_rows.proofs.ChangeCounter.{change_of, top_value}
use Rattle.depot_rows.proofs.Keys.{number-is}
use Rattle.depot_facts.specs.Fields.{number_of_field, has_value_of, is_number_of}
use Rattle.sound_deeds.specs.Keeping.{ShelfKeeps, KeepsShelf, HasSource, IsTaken}
use Rattle.depot_facts.proofs.OpenFiles.{ArePaths, are_paths}
use Rattle.sound_deeds.proofs.Whole.{one_sound}
use Rattle.sound_form_steps.specs.Contents.{fits_content}
use Rattle.depot_facts.proofs.Fields.{value_back}
use Rattle.sound_form_steps.proofs.Heads.{head_small, live_content}
use Rattle.depot_facts.proofs.KeptForms.{kept_spelled}
use Rattle.sound_file_steps.proofs.Known.{IsKnown, opened_known, not_empty}
use Rattle.depot_facts.proofs.Decimals.{written, numeral_decimal, number_decimal}
use Rattle.depot_facts.proofs.Spelled.{good_name}
use Rattle.depot_facts.proofs.Steps.{AllOf, not_refused, all_filtered, passed, unless_all, over_any}
use Rattle.depot_facts.proofs.Values.{good_path, good_decimal, type_named, good_content, content_is}

-- ---- values that are there

has_lines : (value : List ℕ) → nat_le 1 (length value) ≡ true → nat_lt 0 (length (value_lines value)) ≡ true
has_lines [] e = absurd cc
has_lines (b ∷ value) e = refl

name_some : (name : List ℕ) → is_name name ≡ true → nat_le 1 (length name) ≡ true
name_some [] e = absurd cc
name_some (b ∷ name) e = grind (arith, nat_tests)

-- ---- blocks

bytes_are : (xs : List ℕ) → list_all (λ b. nat_lt b 256) xs ≡ true → IsBytes xs
bytes_are [] e i = omega arith
bytes_are (x ∷ xs) e zero = small x (and_parts (nat_lt x 256) (list_all (λ b. nat_lt b 256) xs) e).0
  where
    small : (y : ℕ) → nat_lt y 256 ≡ true → y < 256
    small y h = grind (arith, nat_tests)
bytes_are (x ∷ xs) e (suc i) = bytes_are xs (and_parts (nat_lt x 256) (list_all (λ b. nat_lt b 256) xs) e).1 i

found_fits : (contents : List Content) (test : Content → Bool) → list_all fits_content contents ≡ true
    → IfSome (option_map (λ (c : Content). c.bytes) (find test contents)) (λ x. IsBytes x × (nat_le (length x) 8388608 ≡ true))
found_fits [] test e = tt
found_fits (c ∷ contents) test e = go (test c) (found_fits contents test (and_parts (fits_content c) (list_all fits_content contents) e).1)
  where
    mine : fits_content c ≡ true
    mine = (and_parts (fits_content c) (list_all fits_content contents) e).0

    go : (b : Bool) → IfSome (option_map (λ (x : Content). x.bytes) (find test contents)) (λ x. IsBytes x × (nat_le (length x) 8388608 ≡ true))
        → IfSome (option_map (λ (x : Content). x.bytes) (if b then Some c else find test contents)) (λ x. IsBytes x × (nat_le (length x) 8388608 ≡ true))
    go true later = (bytes_are c.bytes (and_parts (nat_le (length c.bytes) 8388608) (list_all (λ b. nat_lt b 256) c.bytes) mine).1, (and_parts (nat_le (length c.bytes) 8388608) _ mine).0)
    go false later = later

module _ (d : List Deed) (sound : IsSound d) (request : Request) (contents : list_all fits_content request.contents ≡ true) where
  abbrev caller : Caller
  caller = request.caller

  given_fits : (o : Opening) → IfSome (block_given d request o) (λ x. IsBytes x × (nat_le (length x) 8388608 ≡ true))
  given_fits o = go (is_live_action o.action && is_none (source_content d o)) (path_in (view d o.client) o.path)
    where
      go : (b : Bool) (place : Option (List ℕ))
          → IfSome (if b then option_and_then (block_at request.contents) place else None) (λ x. IsBytes x × (nat_le (length x) 8388608 ≡ true))
      go true None = tt
      go true (Some x) = found_fits request.contents (λ (c : Content). same c.path x) contents
      go false place = tt

  -- where the source is live no block is given
  none_given : (o : Opening) (s : Source) → o.source ≡ Some s → is_live_at d s.path s.rev ≡ true → block_given d request o ≡ None
  none_given o s e live = go (source_content d o) (is_live_action o.action) (ap (λ (x : Option Source). is_some (option_and_then (λ (y : Source). content_at d y.path y.rev) x)) e ∙ live_content d sound s.path s.rev live)
    where
      go : (c : Option (List ℕ)) (a : Bool) → is_some c ≡ true → (if a && is_none c then block_of d request o.client o.path else None) ≡ None
      go None a h = absurd cc
      go (Some c) true h = refl
      go (Some c) false h = refl

  module _ (user : is_name caller.user ≡ true) (client : is_name caller.client ≡ true) (path : List ℕ) (o : Opening) (known : IsKnown d caller.client path o)
      (shelvable : is_shelvable o ≡ true) (there : IsSome (pending d o.change)) (low : o.change ≤ top d) (small : o.change < 2 ^ 64) where
    paths : ArePaths o.path o.moved o.source
    paths = are_paths o.path o.moved o.source known.has

    base_small : o.base < 2 ^ 64
    base_small = head_small d sound o.path known.pathed o.base (known.keeps).base

    type_is : is_name o.file_type ≡ true
    type_is = type_named o.file_type (known.keeps).file_type

    -- the action is one that is shelved
    action_is : (a : Action) → (elim a [ Add ↦ true | Edit ↦ true | Delete ↦ true | _ ↦ false ]) ≡ true
        → (is_name (action_word a) ≡ true) × IsOneOf (codes "add" ∷ codes "edit" ∷ codes "delete" ∷ []) (action_word a)
    action_is Add h = (refl, refl)
    action_is Edit h = (refl, refl)
    action_is Delete h = (refl, refl)
    action_is Branch h = absurd cc
    action_is Integrate h = absurd cc
    action_is MoveAdd h = absurd cc
    action_is MoveDelete h = absurd cc

    abbrev acts : (is_name (action_word o.action) ≡ true) × IsOneOf (codes "add" ∷ codes "edit" ∷ codes "delete" ∷ []) (action_word o.action)
    acts = action_is o.action shelvable

    -- its source
    source_small : (s : Source) → o.source ≡ Some s → (is_path s.path ≡ true) × (1 ≤ s.rev) × (s.rev ≤ head d s.path) × (s.rev < 2 ^ 64)
    source_small s e =
        let is : is_path s.path ≡ true = subst (λ (x : Option Source). IfSome x (λ y. is_path y.path ≡ true)) e paths.taken in
        let taken : IsTaken d s = subst (λ (x : Option Source). IfSome x (IsTaken d)) e (known.keeps).source in
        (is, taken.0, taken.1, head_small d sound s.path is s.rev taken.1)

    spelled : IsSpelled ShelfForm (kept_form caller o (block_given d request o))
    spelled = kept_spelled (printed o.path) (decimal o.change) caller.client caller.user (action_word o.action) o.file_type (decimal o.base) (record {
      path = good_path o.path known.pathed;
      change = good_decimal o.change;
      client = good_name caller.client client;
      user = good_name caller.user user;
      action = good_name (action_word o.action) acts.0;
      file_type = good_name o.file_type type_is;
      base = good_decimal o.base;
      kept = good_name (codes "kept") refl;
    }) o.source (block_given d request o) (λ s e. (good_path s.path (source_small s e).0, good_decimal s.rev)) (λ x. good_content x)

    change_is : is_numeral (value_of (kept_form caller o (block_given d request o)) (codes "Change")) ≡ true
    change_is = ap is_numeral (value_back (decimal o.change)) ∙ numeral_decimal o.change small

    base_is : is_numeral (value_of (kept_form caller o (block_given d request o)) (codes "Base")) ≡ true
    base_is = ap is_numeral (value_back (decimal o.base)) ∙ numeral_decimal o.base base_small

    abbrev made : Option Source → Option (List ℕ) → FormValue
    made source block = kept_form caller (record o { source = source }) block

    from_numeral : (source : Option Source) → ((s : Source) → source ≡ Some s → s.rev < 2 ^ 64) → (block : Option (List ℕ)) → is_number_of (made source block) (codes "FromRev") ≡ true
    from_numeral None few None = refl
    from_numeral None few (Some x) = refl
    from_numeral (Some s) few None = or_right _ _ (ap is_numeral (value_back (decimal s.rev)) ∙ numeral_decimal s.rev (few s refl))
    from_numeral (Some s) few (Some x) = or_right _ _ (ap is_numeral (value_back (decimal s.rev)) ∙ numeral_decimal s.rev (few s refl))

    has_path : (p : List ℕ) → is_path p ≡ true → nat_le 1 (length (printed p)) ≡ true
    has_path p is = go (printed p) (begins p is)
      where
        go : (text : List ℕ) → (text ≡ [] → ⊥) → nat_le 1 (length text) ≡ true
        go [] h = absurd (h refl)
        go (b ∷ text) h = grind (arith, nat_tests)

        begins : (q : List ℕ) → is_path q ≡ true → printed q ≡ [] → ⊥
        begins q k e = not_empty q k e

    source_has : (source : Option Source) (block : Option (List ℕ))
        → ((s : Source) → source ≡ Some s → (is_path s.path ≡ true) × (1 ≤ s.rev) × (s.rev ≤ head d s.path) × (s.rev < 2 ^ 64))
        → ((s : Source) → source ≡ Some s → is_live_at d s.path s.rev ≡ true → block ≡ None) → HasSource d (made source block)
    source_has None None small_source none = inl (refl, refl)
    source_has None (Some x) small_source none = inl (refl, refl)
    source_has (Some s) block small_source none =
        let of = small_source s refl in
        inr (
          s.path,
          of.0,
          from_value block,
          from_there block,
          rev_there block,
          (let e = rev_value block in let l = of.1 in omega (arith, e, l)),
          (let e = rev_value block in let h = of.2 in omega (arith, e, h)),
          λ live. absent block (none s refl (subst (λ (m : ℕ). is_live_at d s.path m ≡ true) (rev_value block) live)),
        )
      where
        small_rev : s.rev < 2 ^ 64
        small_rev = (small_source s refl).3

        from_value : (x : Option (List ℕ)) → value_of (made (Some s) x) (codes "From") ≡ printed s.path
        from_value None = value_back (printed s.path)
        from_value (Some y) = value_back (printed s.path)

        rev_value : (x : Option (List ℕ)) → number_of_field (made (Some s) x) (codes "FromRev") ≡ s.rev
        rev_value None = ap number_of (value_back (decimal s.rev)) ∙ number_decimal s.rev small_rev
        rev_value (Some y) = ap number_of (value_back (decimal s.rev)) ∙ number_decimal s.rev small_rev

        from_there : (x : Option (List ℕ)) → has_value_of (made (Some s) x) (codes "From") ≡ true
        from_there None = has_lines (printed s.path) (has_path s.path (small_source s refl).0)
        from_there (Some y) = has_lines (printed s.path) (has_path s.path (small_source s refl).0)

        rev_there : (x : Option (List ℕ)) → has_value_of (made (Some s) x) (codes "FromRev") ≡ true
        rev_there None = has_lines (decimal s.rev) (written s.rev small_rev).some
        rev_there (Some y) = has_lines (decimal s.rev) (written s.rev small_rev).some

        absent : (x : Option (List ℕ)) → x ≡ None → has_value_of (made (Some s) x) (codes "Content") ≡ false
        absent None e = refl
        absent (Some y) e = absurd cc

    content_has : (source : Option Source) (block : Option (List ℕ)) → IfSome block (λ x. IsBytes x × (nat_le (length x) 8388608 ≡ true))
        → (not (has_value_of (made source block) (codes "Content")) || is_content_text (value_of (made source block) (codes "Content"))) ≡ true
    content_has None None h = refl
    content_has (Some s) None h = refl
    content_has None (Some x) h = or_right (not (has_value_of (made None (Some x)) (codes "Content"))) _ (content_is x h.0 h.1)
    content_has (Some s) (Some x) h = or_right (not (has_value_of (made (Some s) (Some x)) (codes "Content"))) _ (content_is x h.0 h.1)

    change_value : number_of_field (kept_form caller o (block_given d request o)) (codes "Change") ≡ o.change
    change_value = ap number_of (value_back (decimal o.change)) ∙ number_decimal o.change small

    keeps_file : KeepsShelf d o.path (kept_form caller o (block_given d request o))
    keeps_file = record {
      pending = subst (λ (m : ℕ). IsSome (pending d m)) (sym change_value) there;
      whole = λ i. has_lines caller.client (name_some caller.client client) i && (has_lines caller.user (name_some caller.user user) i
          && (has_lines (action_word o.action) (name_some (action_word o.action) acts.0) i && (has_lines o.file_type (name_some o.file_type type_is) i
          && (has_lines (decimal o.base) (written o.base base_small).some i && true))));
      client = ap is_name (value_back caller.client) ∙ client;
      user = ap is_name (value_back caller.user) ∙ user;
      action = subst (λ (w : List ℕ). IsOneOf (codes "add" ∷ codes "edit" ∷ codes "delete" ∷ []) w) (sym (value_back (action_word o.action))) acts.1;
      file_type = subst (λ (w : List ℕ). IsType w) (sym (value_back o.file_type)) (known.keeps).file_type;
      base = subst (λ (m : ℕ). m ≤ head d o.path) (sym (ap number_of (value_back (decimal o.base)) ∙ number_decimal o.base base_small)) (known.keeps).base;
      source = source_has o.source (block_given d request o) source_small (none_given o);
      content = content_has o.source (block_given d request o) (given_fits o);
    }

    shelf_keeps : ShelfKeeps d (shelf_name o.change o.path) (kept_form caller o (block_given d request o))
    shelf_keeps = record {
      path = o.path;
      is_path = known.pathed;
      path_is = value_back (printed o.path);
      named = sym (λ i. value_back (decimal o.change) i ++ 0x20 ∷ value_back (printed o.path) i);
      numbers = λ i. or_right (not (has_value_of (kept_form caller o (block_given d request o)) (codes "Change"))) _ change_is i
          && (or_right (not (has_value_of (kept_form caller o (block_given d request o)) (codes "Base"))) _ base_is i
          && (from_numeral o.source (λ s e. (source_small s e).3) (block_given d request o) i && true));
      change_is = change_is;
      change_fits = subst (λ (m : ℕ). m ≤ top d) (sym change_value) low;
      state = refl;
      kept = λ e. keeps_file;
    }

-- ---- forms one after another

pub record IsShelving (d : List Deed) (deed : Deed) : Type 0 where
  pub name : List ℕ
  pub form : FormValue
  pub is : deed ≡ Spec ShelfForm name form
  pub spelled_form : IsSpelled ShelfForm form
  pub keeps : ShelfKeeps d name form

module _ (d : List Deed) (x : List ℕ) (f : FormValue) where
  kept_still : (path : List ℕ) (form : FormValue) → KeepsShelf d path form → KeepsShelf (Spec ShelfForm x f ∷ d) path form
  kept_still path form k = record {
    pending = k.pending;
    whole = k.whole;
    client = k.client;
    user = k.user;
    action = k.action;
    file_type = k.file_type;
    base = k.base;
    source = k.source;
    content = k.content;
  }

  shelf_still : (name : List ℕ) (form : FormValue) → ShelfKeeps d name form → ShelfKeeps (Spec ShelfForm x f ∷ d) name form
  shelf_still name form k = record {
    path = k.path;
    is_path = k.is_path;
    path_is = k.path_is;
    named = k.named;
    numbers = k.numbers;
    change_is = k.change_is;
    change_fits = k.change_fits;
    state = k.state;
    kept = λ e. kept_still k.path form (k.kept e);
  }

  all_still : (deeds : List Deed) → AllOf (IsShelving d) deeds → AllOf (IsShelving (Spec ShelfForm x f ∷ d)) deeds
  all_still [] m = tt
  all_still (deed ∷ deeds) m = (
    record {
      name = (m.0).name;
      form = (m.0).form;
      is = (m.0).is;
      spelled_form = (m.0).spelled_form;
      keeps = shelf_still (m.0).name (m.0).form (m.0).keeps;
    },
    all_still deeds m.1,
  )

pub shelvings_sound : (d deeds : List Deed) → IsSound d → AllOf (IsShelving d) deeds → IsSound (after d deeds)
shelvings_sound d [] sound m = sound
shelvings_sound d (deed ∷ deeds) sound m =
    let first : Deed = Spec ShelfForm (m.0).name (m.0).form in
    let here : IsSound (first ∷ d) = one_sound d first sound refl ((m.0).spelled_form, (m.0).keeps) tt in
    subst (λ (y : Deed). IsSound (after (y ∷ d) deeds)) (sym (m.0).is) (shelvings_sound (first ∷ d) deeds here (all_still d (m.0).name (m.0).form deeds m.1))

-- ---- shelve

module _ (d : List Deed) (sound : IsSound d) (request : Request) (contents : list_all fits_content request.contents ≡ true) (user : is_name (request.caller).user ≡ true)
    (client : is_name (request.caller).client ≡ true) (n : ℕ) (replaces : Bool) where
  pending_low : change_refusal d request.caller n ≡ None → IsSome (pending d n) × (n ≤ top d) × (n < 2 ^ 64)
  pending_low none = go (pending d n) refl none
    where
      go : (p : Option Pending) → pending d n ≡ p
          → (elim p as (λ _. Option Refusal) [ None ↦ Some (NoSuchChange n) | Some q ↦ refuse_if (not (is_of request.caller q)) (NotYours n) ]) ≡ None
          → IsSome (pending d n) × (n ≤ top d) × (n < 2 ^ 64)
      go None e h = absurd cc
      go (Some p) e h =
          let there : is_some (change_of (pending d n) (landing d n)) ≡ true = ap (λ (o : Option Pending). is_some (change_of o (landing d n))) e in
          let low = (sound.rules).top_is n there in
          let tops = top_value d in
          let most = (sound.rules).top_fits in
          (ap is_some e, omega (arith, low, tops), omega (arith, low, most))

  opening_shelves : change_refusal d request.caller n ≡ None → (path : List ℕ) (o : Opening) → opened d (request.caller).client path ≡ Some o → (o.change == n) ≡ true
      → AllOf (IsShelving d) (shelve_opening d request replaces o).deeds
  opening_shelves free path o e in_change =
      let known : IsKnown d (request.caller).client path o = opened_known d sound (request.caller).client path o e in
      let number : o.change ≡ n = number-is o.change n in_change in
      let bounds = pending_low free in
      let there : IsSome (pending d o.change) = subst (λ (m : ℕ). IsSome (pending d m)) (sym number) bounds.0 in
      let low : o.change ≤ top d = let b = bounds.1 in omega (arith, b, number) in
      let small : o.change < 2 ^ 64 = let b = bounds.2 in omega (arith, b, number) in
      unless_all (IsShelving d)
      (right_refusal to_open d request.caller o.path ∷ refuse_if (not (is_shelvable o)) (NotShelvable o.path)
      ∷ refuse_if (not replaces && is_some (kept d o.change o.path)) (AlreadyShelved o.path) ∷ refuse_if (lacks_content d request o) (NoContent o.path) ∷ [])
      (does (Spec ShelfForm (shelf_name o.change o.path) (kept_form request.caller o (block_given d request o)) ∷ []) (shelved_row o)) (λ none.
      let shelvable : is_shelvable o ≡ true = yes (is_shelvable o) (not_refused (not (is_shelvable o)) (NotShelvable o.path) none.1.0) in (
        record {
          name = shelf_name o.change o.path;
          form = kept_form request.caller o (block_given d request o);
          is = refl;
          spelled_form = spelled d sound request contents user client path o known shelvable there low small;
          keeps = shelf_keeps d sound request contents user client path o known shelvable there low small;
        },
        tt,
      ))
    where
      yes : (b : Bool) → not b ≡ false → b ≡ true
      yes true h = refl
      yes false h = absurd cc

  file_shelves : change_refusal d request.caller n ≡ None → (path : List ℕ) → is_selected (Some n) (opened d (request.caller).client path) ≡ true
      → AllOf (IsShelving d) (shelve_file d request replaces path).deeds
  file_shelves free path chosen = go (opened d (request.caller).client path) refl chosen
    where
      go : (x : Option Opening) → opened d (request.caller).client path ≡ x → is_selected (Some n) x ≡ true
          → AllOf (IsShelving d) (elim x as (λ _. Step) [ None ↦ nothing | Some o ↦ shelve_opening d request replaces o ]).deeds
      go None e h = absurd cc
      go (Some o) e h = opening_shelves free path o e h

  forms_within : (step : Step) → AllOf (IsShelving d) step.deeds → AllOf (IsShelving d) (within_forms step).deeds
  forms_within step h =
      unless_all (IsShelving d) (refuse_if (nat_lt 10000 (length step.deeds)) (OverLimit Files) ∷ refuse_if (nat_lt 16777216 (sum (map size_in step.deeds))) (OverLimit LimitShelf) ∷ []) step (λ none. h)

  abbrev is_there : List ℕ → Bool
  is_there path = is_selected (Some n) (opened d (request.caller).client path)

  pub shelve_sound : (files : List FileArgument) → IsSound (after d (shelve d request n replaces files).deeds)
  shelve_sound files = shelvings_sound d (shelve d request n replaces files).deeds sound
      (unless_all (IsShelving d) (change_refusal d request.caller n ∷ []) (within_forms step) (λ none. forms_within step
      (over_any (IsShelving d) is_there (opened_in d request.caller n) (λ _. shelve_file d request replaces)
      (λ a. all_filtered is_there (names false d request.caller a.spec) (filter is_there (opened_by d (request.caller).client)) (passed is_there (opened_by d (request.caller).client)))
      (λ a x is. file_shelves none.0 x is) not_open (λ a. tt) files)))
    where
      step : Step
      step = over_all (opened_in d request.caller n) not_open (λ _. shelve_file d request replaces) files
