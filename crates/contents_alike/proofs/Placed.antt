-- A content of one depot stands at the spot of the row of its revision, as that of the other does.
use Rattle.std.proofs.Common.{◌≡◌, ℕ, zero, suc, Bool, true, false, List, [], Option, Some, None, refl, sym, ap, subst, ◌∙◌}
use Rattle.std.specs.Prelude.{if◌then◌else◌, option_map, option_and_then, is_some, is_none, slice_get}
use Rattle.depot_rows.specs.depot_path.Path.{printed, is_path}
use Rattle.depot_rows.specs.db_records.Key.{key_table}
use Rattle.depot_rows.specs.db_records.declared.key.Key.TheVariants as keys
use Rattle.depot_rows.specs.db_records.declared.record.Record.{Record}
use Rattle.depot_rows.specs.db_records.declared.record.Record.TheVariants.{Rev}
use Rattle.depot_rows.specs.db_records.declared.rows.RevRecord.{RevRecord}
use Rattle.depot_rows.specs.table_changes.Changed.{AllRows}
use Rattle.depot_rows.specs.depot_model.Deeds.{Deed, Action}
use Rattle.depot_rows.specs.depot_model.Records.{rev_record, SameRows}
use Rattle.depot_rows.specs.depot_model.Revisions.{Revision, revisions, revision, is_live_action}
use Rattle.depot_rows.specs.depot_model.Rules.{IsSound}
use Rattle.depot_rows.specs.depot_model.Steps.Submitting.{content_at}
use Rattle.depot_rows.specs.Standing.{Stand}
use Rattle.depot_rows.proofs.Spelled.{at_path-here}
use Rattle.recovery.specs.Standing.{HasContents, HasContent}
use Rattle.recovery.proofs.Landed.{own_content}
use Rattle.depot_facts.specs.Contents.{SameContents}
use Rattle.depot_facts.proofs.Nowhere.{no_revisions}
use Rattle.depots_alike.proofs.Searches.{by_path, action_in, action_back}

pub same_rows_stand : (rows : AllRows) (d e : List Deed) → Stand rows d → Stand rows e → SameRows d e
same_rows_stand rows d e first second key = sym (first.each (key_table key) key refl) ∙ second.each (key_table key) key refl

-- what the rows of two revisions tell alike
abbrev action_word_in : Record → List ℕ
action_word_in (Rev row) = row.action
action_word_in _ = []

same_action : (n : ℕ) (r s : Revision) → rev_record n r ≡ rev_record n s → r.entry.action ≡ s.entry.action
same_action n r s e = sym (action_back r.entry.action) ∙ ap (λ (x : Record). action_in (action_word_in x)) e ∙ action_back s.entry.action

-- contents are there by one test
both_there : (b : Bool) (x y : Option (List ℕ)) → (if b then is_some x else is_none x) ≡ true → (if b then is_some y else is_none y) ≡ true → is_some x ≡ is_some y
both_there true x y e f = e ∙ sym f
both_there false None None e f = refl
both_there false None (Some y) e f = absurd cc
both_there false (Some x) y e f = absurd cc

one_row : (a b : RevRecord) → Some (Rev a) ≡ Some (Rev b) → a ≡ b
one_row a b e = cc

one_record : (a b : Record) → Some a ≡ Some b → a ≡ b
one_record a b e = cc

module _ (file : List ℕ) (rows : AllRows) (d e : List Deed) (has : HasContents file rows d) (have : HasContents file rows e) (same_rows : SameRows d e)
    (left : IsSound d) (right : IsSound e) where
  module _ (path : List ℕ) (n : ℕ) where
    -- the bytes at the spot of the row are both contents
    one_content : (r s : Revision) → revision d path n ≡ Some r → revision e path n ≡ Some s → (x y : List ℕ) → r.entry.content ≡ Some x → s.entry.content ≡ Some y → x ≡ y
    one_content r s there here x y k l =
        let first = has path n r x there k in
        let second = have path n s y here l in
        let one : second.0 ≡ first.0 = one_row second.0 first.0 (sym second.1 ∙ first.1) in
        let other : HasContent file first.0 y = subst (λ (row : RevRecord). HasContent file row y) one second.2 in
        sym (first.2).is ∙ other.is

    contents_of : (r s : Revision) → revision d path n ≡ Some r → revision e path n ≡ Some s → rev_record n r ≡ rev_record n s → r.entry.content ≡ s.entry.content
    contents_of r s there here told = go r.entry.content refl s.entry.content refl
      where
        own : is_some r.entry.content ≡ is_some s.entry.content
        own = both_there (is_live_action r.entry.action) r.entry.content s.entry.content (own_content d path n r left.contents there)
            (ap (λ (a : Action). if is_live_action a then is_some s.entry.content else is_none s.entry.content) (same_action n r s told)
            ∙ own_content e path n s right.contents here)

        go : (x : Option (List ℕ)) → r.entry.content ≡ x → (y : Option (List ℕ)) → s.entry.content ≡ y → r.entry.content ≡ s.entry.content
        go None k None l = k ∙ sym l
        go (Some x) k (Some y) l = k ∙ ap Some (one_content r s there here x y k l) ∙ sym l
        go None k (Some y) l = absurd (let f : false ≡ true = sym (ap is_some k) ∙ own ∙ ap is_some l in cc)
        go (Some x) k None l = absurd (let f : true ≡ false = sym (ap is_some k) ∙ own ∙ ap is_some l in cc)

    -- revisions whose rows are the same
    there : option_map (rev_record n) (revision d path n) ≡ option_map (rev_record n) (revision e path n) → content_at d path n ≡ content_at e path n
    there told = go (revision d path n) refl (revision e path n) refl told
      where
        go : (x : Option Revision) → revision d path n ≡ x → (y : Option Revision) → revision e path n ≡ y
            → option_map (rev_record n) x ≡ option_map (rev_record n) y → content_at d path n ≡ content_at e path n
        go None k None l h = ap (option_and_then (λ (r : Revision). r.entry.content)) (k ∙ sym l)
        go (Some r) k (Some s) l h =
            ap (option_and_then (λ (r : Revision). r.entry.content)) k ∙ contents_of r s k l (one_record (rev_record n r) (rev_record n s) h)
            ∙ sym (ap (option_and_then (λ (r : Revision). r.entry.content)) l)
        go None k (Some s) l h = absurd cc
        go (Some r) k None l h = absurd cc

    rev_same : is_path path ≡ true → option_map (rev_record n) (revision d path n) ≡ option_map (rev_record n) (revision e path n)
    rev_same is =
        sym (at_path-here path (λ x. option_map (rev_record n) (revision d x n)) is) ∙ same_rows (keys.Rev (printed path) n)
        ∙ at_path-here path (λ x. option_map (rev_record n) (revision e x n)) is

  pub same_contents : SameContents d e
  same_contents path n = by_path path (content_at d path n) (content_at e path n) (λ is. there path n (rev_same path n is))
      (λ not. nowhere n (no_revisions d left.paths path not) (no_revisions e right.paths path not))
    where
      nowhere : (m : ℕ) → revisions d path ≡ [] → revisions e path ≡ [] → content_at d path m ≡ content_at e path m
      nowhere zero f g = refl
      nowhere (suc m) f g = ap (λ (revs : List Revision). option_and_then (λ (r : Revision). r.entry.content) (slice_get revs m)) (f ∙ sym g)
