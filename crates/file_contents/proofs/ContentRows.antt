-- The row of a revision tells of its content.
use Rattle.std.proofs.Common.{◌≡◌, ◌⊎◌, ℕ, zero, suc, Bool, true, false, List, [], ◌∷◌, length, Option, Some, None, inl, inr, refl, sym, ap, subst, ◌∙◌}
use Rattle.std.specs.Prelude.{is_some, is_none, if◌then◌else◌, option_map, option_and_then}
use Rattle.std.proofs.lemmas.Option.{same_Some}
use Rattle.depot_rows.specs.depot_path.Path.{printed, is_path}
use Rattle.depot_rows.proofs.depot_path.Paths.{prints_path}
use Rattle.depot_rows.specs.db_records.Record.{is_live}
use Rattle.depot_rows.specs.db_records.declared.key.Key.TheVariants as keys
use Rattle.depot_rows.specs.db_records.declared.record.Record.{Record}
use Rattle.depot_rows.specs.db_records.declared.record.Record.TheVariants as records
use Rattle.depot_rows.specs.db_records.declared.rows.RevRecord.{RevRecord}
use Rattle.depot_rows.specs.db_records.declared.table.TableId.TheVariants as tables
use Rattle.depot_rows.specs.table_store.Rows.{row_at}
use Rattle.depot_rows.specs.table_changes.Changed.{AllRows}
use Rattle.depot_rows.specs.depot_model.Deeds.{Deed, Land, Entry, Action, Add, Edit, Delete, Branch, Integrate, MoveAdd, MoveDelete}
use Rattle.depot_rows.specs.depot_model.Numbers.{landings}
use Rattle.depot_rows.specs.depot_model.Records.{rev_record, unplaced, digest}
use Rattle.depot_rows.specs.depot_model.Revisions.{Revision, revisions, revision, entries_at, is_live_action}
use Rattle.depot_rows.specs.depot_model.Rows.{action_word}
use Rattle.depot_rows.specs.depot_model.Rules.{IsSound, has_its_content, have_their_contents}
use Rattle.depot_rows.specs.depot_model.Steps.Submitting.{content_at}
use Rattle.depot_rows.specs.Standing.{HasRows}
use Rattle.depot_rows.proofs.Entries.{In, of_path}
use Rattle.depot_facts.proofs.Listed.{in_append, in_filter, in_map, get_in, all_in}
use Rattle.depot_facts.proofs.PathTexts.{at_read}
use Rattle.file_contents.specs.Contents.{TellsContent}

-- a revision is an entry of a change that landed
entry_in : (d : List Deed) (x : List ℕ) (r : Revision) → In (revisions d x) r → In (landings d) r.landing × In (r.landing).entries r.entry
entry_in [] x r h = absurd h
entry_in (Land l ∷ d) x r h = go (in_append (revisions d x) (entries_at x l) r h) (λ k. entry_in d x r k)
  where
    go : In (revisions d x) r ⊎ In (entries_at x l) r → (In (revisions d x) r → In (landings d) r.landing × In (r.landing).entries r.entry)
        → In (landings (Land l ∷ d)) r.landing × In (r.landing).entries r.entry
    go (inl k) later = let rest = later k in (inr rest.0, rest.1)
    go (inr k) later =
        let e = in_map (λ (e : Entry). let made : Revision = record { landing = l; entry = e } in made) (of_path x l.entries) r k in
        let f = in_filter _ l.entries e.0 e.1.0 in
        (inl (ap (λ (q : Revision). q.landing) e.1.1), subst (λ (q : Revision). In (q.landing).entries q.entry) e.1.1 f.0)
entry_in (deed ∷ d) x r h = entry_in d x r h

live_word : (a : Action) (row : RevRecord) → row.action ≡ action_word a → is_live (records.Rev row) ≡ is_live_action a
live_word a row e = ap (λ (w : List ℕ). is_live (records.Rev (record row { action = w }))) e ∙ by a
  where
    by : (a : Action) → is_live (records.Rev (record row { action = action_word a })) ≡ is_live_action a
    by Add = refl
    by Edit = refl
    by Delete = refl
    by Branch = refl
    by Integrate = refl
    by MoveAdd = refl
    by MoveDelete = refl

abbrev digest_of : Option (List ℕ) → List ℕ
digest_of c = elim c [ None ↦ [] | Some content ↦ digest content ]

module _ (all : AllRows) (d : List Deed) (path : List ℕ) (n : ℕ) (sound : IsSound d) (has : HasRows all d tables.Rev) (good : is_path path ≡ true) where
  pub said : option_map unplaced (row_at (keys.Rev (printed path) n) (all tables.Rev)) ≡ option_map (rev_record n) (revision d path n)
  said = has (keys.Rev (printed path) n) refl ∙ at_read (printed path) path (λ y. option_map (rev_record n) (revision d y n)) (prints_path path good) refl

  content_rule : (r : Revision) → revision d path n ≡ Some r → has_its_content r.entry ≡ true
  content_rule r e = go n e
    where
      go : (k : ℕ) → revision d path k ≡ Some r → has_its_content r.entry ≡ true
      go zero f = absurd cc
      go (suc k) f =
          let h = entry_in d path r (get_in (revisions d path) k r f) in
          all_in has_its_content (r.landing).entries (all_in have_their_contents (landings d) sound.contents r.landing h.0) r.entry h.1

  pub told : (row : RevRecord) → row_at (keys.Rev (printed path) n) (all tables.Rev) ≡ Some (records.Rev row) → TellsContent row (content_at d path n)
  told row e = go (revision d path n) refl (ap (option_map unplaced) (sym e) ∙ said)
    where
      of_rev : (r : Revision) → revision d path n ≡ Some r → unplaced (records.Rev row) ≡ rev_record n r → TellsContent row (r.entry).content
      of_rev r f is = by (is_live_action (r.entry).action) refl (r.entry).content refl (content_rule r f)
        where
          field : Record → RevRecord
          field (records.Rev y) = y
          field _ = row

          live : is_live (records.Rev row) ≡ is_live_action (r.entry).action
          live = live_word (r.entry).action row (ap (λ (y : Record). (field y).action) is)

          by : (b : Bool) → is_live_action (r.entry).action ≡ b → (c : Option (List ℕ)) → (r.entry).content ≡ c → (if is_live_action (r.entry).action then is_some (r.entry).content else is_none (r.entry).content) ≡ true
              → TellsContent row c
          by true g None h rule = absurd (let no : false ≡ true = (λ i. if sym g i then is_some (sym h i) else is_none (sym h i)) ∙ rule in cc)
          by true g (Some bytes) h rule =
              (live ∙ g, ap (λ (y : Record). (field y).digest) is ∙ ap digest_of h, ap (λ (y : Record). (field y).length) is ∙ ap (λ (c : Option (List ℕ)). elim c [ None ↦ 0 | Some content ↦ length content ]) h)
          by false g None h rule = live ∙ g
          by false g (Some bytes) h rule = absurd (let no : false ≡ true = (λ i. if sym g i then is_some (sym h i) else is_none (sym h i)) ∙ rule in cc)

      go : (o : Option Revision) → revision d path n ≡ o → Some (unplaced (records.Rev row)) ≡ option_map (rev_record n) o → TellsContent row (option_and_then (λ (r : Revision). (r.entry).content) o)
      go None f is = absurd cc
      go (Some r) f is = of_rev r f (same_Some _ _ is)

  pub untold : row_at (keys.Rev (printed path) n) (all tables.Rev) ≡ None → content_at d path n ≡ None
  untold e = go (revision d path n) (ap (option_map unplaced) (sym e) ∙ said)
    where
      go : (o : Option Revision) → None ≡ option_map (rev_record n) o → option_and_then (λ (r : Revision). (r.entry).content) o ≡ None
      go None is = refl
      go (Some r) is = absurd cc
