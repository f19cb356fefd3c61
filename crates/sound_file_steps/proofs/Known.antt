-- What is known of a sound depot: its openings, have lists and labels.
use Rattle.std.proofs.Common.{◌≡◌, ◌≤◌, ℕ, zero, suc, Bool, true, false, List, [], ◌∷◌, length, Option, Some, None, Ok, inl, inr, refl, sym, ap, subst, ◌∙◌, arith}
use Rattle.std.specs.Prelude.{◌&&◌, ◌==◌, codes, IfSome, IsSomeAnd, IsTrue, is_some, slice_get, option_map, if◌then◌else◌}
use Rattle.std.specs.List.{list_all}
use Rattle.std.specs.Option.{option_or, option_flatten, option_map_or}
use Rattle.std.proofs.lemmas.Option.{slice_get_within}
use Rattle.std.proofs.lemmas.Bool.{and_parts}
use Rattle.depot_rows.specs.depot_path.Bytes.{same}
use Rattle.depot_rows.specs.depot_path.Path.{is_path, printed, path_of}
use Rattle.depot_rows.proofs.depot_path.Paths.{prints_path}
use Rattle.depot_rows.specs.db_records.declared.key.Key.TheVariants as keys
use Rattle.depot_rows.specs.db_records.declared.record.Record.{Record}
use Rattle.depot_rows.specs.spec_form.Form.{FormValue}
use Rattle.depot_rows.specs.spec_form.Printing.{printed_form}
use Rattle.depot_rows.specs.depot_model.Asking.{is_client, is_label}
use Rattle.depot_rows.specs.depot_model.Deeds.{Deed, Open, Shut, Opening, Source, Action, Add, Edit, Delete, Branch, Integrate, MoveAdd, MoveDelete, ClientForm, LabelForm, Pending, Landing}
use Rattle.depot_rows.specs.depot_model.Latest.{latest, when, spec, have, labelled, is_held}
use Rattle.depot_rows.specs.depot_model.Numbers.{pending, landing}
use Rattle.depot_rows.specs.depot_model.Opened.{opened, opening_said}
use Rattle.depot_rows.specs.depot_model.Records.{record_of, working_record, numbered_record, rev_record, printed_or_empty}
use Rattle.depot_rows.specs.depot_model.Revisions.{Revision, revision, revision_in, revisions, head, is_live, is_live_at}
use Rattle.depot_rows.specs.depot_model.Rows.{action_word}
use Rattle.depot_rows.specs.depot_model.Rules.{Rows, IsSound, IsClient, IsLabel, IsBase, IsSource, IsMoved, IsPath, IsOpenIn, IsPendingOf, HasRev, has_paths, is_move_word}
use Rattle.depot_rows.specs.Effects.{have_row, label_row}
use Rattle.depot_rows.proofs.ChangeCounter.{change_of}
use Rattle.depot_rows.proofs.Keys.{number-is}
use Rattle.depot_rows.proofs.Locks.{IsOf, opened-is}
use Rattle.depot_rows.proofs.Spelled.{at_path-here}
use Rattle.sound_deeds.specs.Keeping.{OpeningKeeps, IsTaken, IsOpenChange, is_move}
use Rattle.sound_deeds.specs.Loose.{IsLooseRow, IsTiedRow}
use Rattle.depot_facts.proofs.OpenFiles.{ArePaths, are_paths}
use Rattle.sound_deeds.proofs.Parts.{loose_of, tied_of}

-- ---- revisions

some_before : {A B : Type 0} (f : A → B) (o : Option A) → is_some (option_map f o) ≡ true → is_some o ≡ true
some_before f None e = e
some_before f (Some x) e = refl

pub record IsWithin (n most : ℕ) : Type 0 where
  pub low : 1 ≤ n
  pub high : n ≤ most

within : (revs : List Revision) (n : ℕ) → is_some (revision_in revs n) ≡ true → IsWithin n (length revs)
within revs zero e = absurd cc
within revs (suc n) e = go (slice_get revs n) refl e
  where
    go : (o : Option Revision) → slice_get revs n ≡ o → is_some o ≡ true → IsWithin (suc n) (length revs)
    go None f h = absurd cc
    go (Some r) f h = let small = slice_get_within revs n r f in record { low = omega arith; high = omega arith }

-- a path's text isn't empty
pub not_empty : (path : List ℕ) → is_path path ≡ true → printed path ≡ [] → ⊥
not_empty path is e = absurd (let reads : path_of [] ≡ Ok path = ap path_of (sym e) ∙ prints_path path is in cc)

no_path : IsPath [] → ⊥
no_path e = absurd cc

module _ (d : List Deed) where
  pub live_within : (path : List ℕ) (n : ℕ) → is_live_at d path n ≡ true → IsWithin n (head d path)
  live_within path n e = within (revisions d path) n (go (revision d path n) e)
    where
      go : (o : Option Revision) → option_map_or is_live o false ≡ true → is_some o ≡ true
      go None h = absurd cc
      go (Some r) h = refl

  pub rev_known : (path : List ℕ) (n : ℕ) → is_path path ≡ true → HasRev (record_of d) (printed path) n → IsWithin n (head d path)
  rev_known path n is h = within (revisions d path) n (some_before (rev_record n) (revision d path n)
      (sym (ap is_some (at_path-here path (λ x. option_map (rev_record n) (revision d x n)) is)) ∙ h))

  pub base_known : (path : List ℕ) (n : ℕ) → is_path path ≡ true → IsBase (record_of d) (printed path) n → n ≤ head d path
  base_known path n is (inl none) = let e : n ≡ 0 = none in omega arith
  base_known path n is (inr some) = (rev_known path n is some).high

  saved_known : {R : Type 0} (made : List ℕ → R) (o : Option FormValue) → is_some (option_map made (option_map printed_form o)) ≡ true → is_some o ≡ true
  saved_known made None e = e
  saved_known made (Some form) e = refl

  pub client_known : (name : List ℕ) → IsClient (record_of d) name → is_client d name ≡ true
  client_known name h = saved_known _ (spec d ClientForm name) h

  pub label_known : (name : List ℕ) → IsLabel (record_of d) name → is_label d name ≡ true
  label_known name h = saved_known _ (spec d LabelForm name) h

  source_known : (source : Option Source) → IfSome source (λ s. is_path s.path ≡ true)
      → IsSource (record_of d) (elim source [ None ↦ [] | Some s ↦ printed s.path ]) (elim source [ None ↦ 0 | Some s ↦ s.rev ]) → IfSome source (IsTaken d)
  source_known None is h = tt
  source_known (Some s) is (inl none) = absurd (not_empty s.path is none.0)
  source_known (Some s) is (inr some) = let of = rev_known s.path s.rev is some.1 in (of.low, of.high)

  open_known : (client : List ℕ) (n : ℕ) → IsOpenIn (record_of d) client n → IsOpenChange d client n
  open_known client n (inl none) = inl none
  open_known client n (inr some) = inr (go (pending d n) (landing d n) some)
    where
      go : (p : Option Pending) (l : Option Landing) → IsSomeAnd (change_of p l) (IsPendingOf client) → IsSomeAnd p (λ x. x.client ≡ client)
      go (Some p) l h = h.1
      go None None h = h
      go None (Some l) h = absurd (let e = ap (λ (w : List ℕ). same w (codes "pending")) h.0 in cc)

move_word : (a : Action) → is_move_word (action_word a) ≡ is_move a
move_word Add = refl
move_word Edit = refl
move_word Delete = refl
move_word Branch = refl
move_word Integrate = refl
move_word MoveAdd = refl
move_word MoveDelete = refl

moved_known : (a : Action) (moved : Option (List ℕ)) → IfSome moved (λ p. is_path p ≡ true) → IsMoved (action_word a) (printed_or_empty moved)
    → is_some moved ≡ is_move a
moved_known a None is (inl move) = absurd (no_path move.1)
moved_known a None is (inr none) = sym none.0 ∙ move_word a
moved_known a (Some p) is (inl move) = sym move.0 ∙ move_word a
moved_known a (Some p) is (inr none) = absurd (not_empty p is none.1)

-- ---- openings

said_has : (c p : List ℕ) (deed : Deed) → has_paths deed ≡ true → (o : Opening) → opening_said c p deed ≡ Some (Some o) → has_paths (Open o) ≡ true
said_has c p (Open x) has o e = go (same x.client c && same x.path p) e
  where
    go : (b : Bool) → when b (Some x) ≡ Some (Some o) → has_paths (Open o) ≡ true
    go true f = let one : x ≡ o = cc in ap (λ (y : Opening). has_paths (Open y)) (sym one) ∙ has
    go false f = absurd cc
said_has c p (Shut held) has o e = go (is_held c p held) e
  where
    go : (b : Bool) → when b (let none : Option Opening = None in none) ≡ Some (Some o) → has_paths (Open o) ≡ true
    go true f = absurd cc
    go false f = absurd cc
said_has c p _ has o e = absurd cc

opened_has : (d : List Deed) → list_all has_paths d ≡ true → (c p : List ℕ) (o : Opening) → opened d c p ≡ Some o → has_paths (Open o) ≡ true
opened_has [] has c p o e = absurd cc
opened_has (deed ∷ d) has c p o e =
    go (opening_said c p deed) refl e (opened_has d (and_parts (has_paths deed) (list_all has_paths d) has).1 c p o)
  where
    go : (s : Option (Option Opening)) → opening_said c p deed ≡ s → option_flatten (option_or s (latest (opening_said c p) d)) ≡ Some o
        → (opened d c p ≡ Some o → has_paths (Open o) ≡ true) → has_paths (Open o) ≡ true
    go None f h later = later h
    go (Some None) f h later = absurd cc
    go (Some (Some x)) f h later = let one : x ≡ o = cc in
        said_has c p deed (and_parts (has_paths deed) (list_all has_paths d) has).0 o (f ∙ ap (λ (y : Opening). Some (Some y)) one)

pub record IsKnown (d : List Deed) (client path : List ℕ) (o : Opening) : Type 0 where
  pub client_is : o.client ≡ client
  pub path_is : o.path ≡ path
  pub has : IsTrue (has_paths (Open o))
  pub pathed : IsTrue (is_path o.path)
  pub keeps : OpeningKeeps d o
  pub ties : IsOpenChange d o.client o.change

pub opened_known : (d : List Deed) → IsSound d → (client path : List ℕ) (o : Opening) → opened d client path ≡ Some o → IsKnown d client path o
opened_known d sound client path o e = record {
  client_is = of.0;
  path_is = of.1;
  has = has;
  pathed = (paths.own);
  keeps = record {
    client = client_known d o.client loose_row.0;
    base = base_known d o.path o.base paths.own loose_row.2;
    file_type = loose_row.4;
    source = source_known d o.source paths.taken loose_row.6;
    moved = moved_known o.action o.moved paths.other loose_row.7;
  };
  ties = open_known d o.client o.change tied_row;
}
  where
    of : IsOf client path o
    of = opened-is d client path o e

    has : has_paths (Open o) ≡ true
    has = opened_has d sound.paths client path o e

    paths : ArePaths o.path o.moved o.source
    paths = are_paths o.path o.moved o.source has

    here : opened d o.client o.path ≡ Some o
    here = (λ i. opened d (of.0 i) (of.1 i)) ∙ e

    row_is : record_of d (keys.Working (printed o.path) o.client) ≡ Some (working_record d o)
    row_is = at_path-here o.path (λ x. option_map (working_record d) (opened d o.client x)) paths.own ∙ ap (option_map (working_record d)) here

    loose_row : IsLooseRow (record_of d) (working_record d o)
    loose_row = subst (λ (r : Option Record). IfSome r (IsLooseRow (record_of d))) row_is ((loose_of d sound).each (keys.Working (printed o.path) o.client))

    tied_row : IsTiedRow (record_of d) (working_record d o)
    tied_row = subst (λ (r : Option Record). IfSome r (IsTiedRow (record_of d))) row_is ((tied_of d sound).each (keys.Working (printed o.path) o.client))

-- ---- have lists and labels

pub record IsHad (d : List Deed) (there : Bool) (path : List ℕ) (n : ℕ) : Type 0 where
  pub within : n ≤ head d path
  pub saved : 1 ≤ n → there ≡ true

numbered_known : (rows : Rows) (made : ℕ → Record) (n : ℕ) → IfSome (numbered_record made n) (IsLooseRow rows) → 1 ≤ n → IsLooseRow rows (made n)
numbered_known rows made n h low = go (n == 0) refl h
  where
    go : (b : Bool) → (n == 0) ≡ b → IfSome (if b then None else Some (made n)) (IsLooseRow rows) → IsLooseRow rows (made n)
    go true e k = absurd (let z : n ≡ 0 = number-is n 0 e in omega arith)
    go false e k = k

zero_or : (n most : ℕ) → (1 ≤ n → n ≤ most) → n ≤ most
zero_or zero most h = omega arith
zero_or (suc n) most h = h (omega arith)

pub have_known : (d : List Deed) → IsSound d → (client path : List ℕ) → is_path path ≡ true → IsHad d (is_client d client) path (have d client path)
have_known d sound client path is = record {
  within = zero_or (have d client path) (head d path) (λ low. (rev_known d path (have d client path) is ((row low).2)).high);
  saved = λ low. client_known d client ((row low).0);
}
  where
    row_is : record_of d (keys.Have client (printed path)) ≡ numbered_record (have_row client (printed path)) (have d client path)
    row_is = at_path-here path (λ x. numbered_record (have_row client (printed path)) (have d client x)) is

    row : 1 ≤ have d client path → IsLooseRow (record_of d) (have_row client (printed path) (have d client path))
    row low = numbered_known (record_of d) (have_row client (printed path)) (have d client path)
        (subst (λ (r : Option Record). IfSome r (IsLooseRow (record_of d))) row_is ((loose_of d sound).each (keys.Have client (printed path)))) low

pub labelled_known : (d : List Deed) → IsSound d → (label path : List ℕ) → is_path path ≡ true → IsHad d (is_label d label) path (labelled d label path)
labelled_known d sound label path is = record {
  within = zero_or (labelled d label path) (head d path) (λ low. (rev_known d path (labelled d label path) is ((row low).2)).high);
  saved = λ low. label_known d label ((row low).0);
}
  where
    row_is : record_of d (keys.Label label (printed path)) ≡ numbered_record (label_row label (printed path)) (labelled d label path)
    row_is = at_path-here path (λ x. numbered_record (label_row label (printed path)) (labelled d label x)) is

    row : 1 ≤ labelled d label path → IsLooseRow (record_of d) (label_row label (printed path) (labelled d label path))
    row low = numbered_known (record_of d) (label_row label (printed path)) (labelled d label path)
        (subst (λ (r : Option Record). IfSome r (IsLooseRow (record_of d))) row_is ((loose_of d sound).each (keys.Label label (printed path)))) low
