-- What the changes of a command make of rows: some differ; and where it opens a generation, the counter that tells it alone.
use Rattle.std.proofs.Common.{◌≡◌, ◌≢◌, ◌⊎◌, ℕ, ◌+◌, Bool, true, false, List, [], ◌∷◌, Option, Some, None, Result, Ok, Err, inl, inr, refl, sym, ap, subst, ◌∙◌}
use Rattle.std.specs.Prelude.{codes, map, nat_le, if◌then◌else◌}
use Rattle.std.specs.List.{AllByRecursion}
use Rattle.std.specs.List.Sorted.{IsStrictlySortedBy}
use Rattle.std.specs.declared.cmp.Ordering.TheVariants.{Equal, Less}
use Rattle.depot_rows.specs.db_records.Key.{key_cmp, key_table}
use Rattle.depot_rows.specs.db_records.declared.change.Change.{Change}
use Rattle.depot_rows.specs.db_records.declared.change.Op.{Op}
use Rattle.depot_rows.specs.db_records.declared.change.Op.TheVariants.{Put, Replace}
use Rattle.depot_rows.specs.db_records.declared.key.Key.{Key}
use Rattle.depot_rows.specs.db_records.declared.key.Key.TheVariants as keys
use Rattle.depot_rows.specs.db_records.declared.record.Record.{Record}
use Rattle.depot_rows.specs.db_records.declared.record.Record.TheVariants.{Counter, Rev}
use Rattle.depot_rows.specs.depot_model.Deeds.{Count, Deed}
use Rattle.depot_rows.specs.depot_model.Records.{RowsDiffer, is_at, record_of, unplaced}
use Rattle.depot_rows.specs.depot_model.Rows.{number_field, row}
use Rattle.depot_rows.specs.depot_model.Step.{after, does, refuse_if, unless}
use Rattle.depot_rows.specs.depot_model.Steps.Checkpoint.{checkpoint, generation}
use Rattle.depot_rows.specs.depot_model.declared.command.Command.{Command}
use Rattle.depot_rows.specs.depot_model.declared.command.Command.TheVariants.{Checkpoint}
use Rattle.depot_rows.specs.depot_model.declared.refusal.Limit.TheVariants.{Generation}
use Rattle.depot_rows.specs.depot_model.declared.refusal.Refusal.TheVariants.{OverLimit}
use Rattle.depot_rows.specs.depot_model.declared.request.Request.{Request}
use Rattle.depot_rows.specs.depot_model.declared.request.WordFault.{WordFault}
use Rattle.depot_rows.proofs.Counters.{count-met}
use Rattle.depot_rows.proofs.Keys.{at-is}
use Rattle.depot_rows.specs.Standing.{Stand, row_in}
use Rattle.depot_rows.specs.depot_model.Commands.{step}
use Rattle.row_changes.specs.Differences.{AreDifferences, LeadsTo, change_at, changed_key}
use Rattle.row_texts.proofs.Changes.{own_change}
use Rattle.depot_commit.proofs.Differences.{all_differ, no_changes}
use Rattle.depot_commit.proofs.Laws.{only_checkpoint, told_is_counted}
use Rattle.depot_commit.specs.Opening.{opens, opens_generation}
use Rattle.step_limits.proofs.Whole.{step_from}
use Rattle.depot_rows.specs.table_changes.Changed.{AllRows, changed_by, changed_in}
use Rattle.step_limits.specs.Limits.{generation_in}

-- ---- its deed

abbrev NoneOrNext : List Deed → List Deed → Type 0
NoneOrNext d deeds = (deeds ≡ []) ⊎ (deeds ≡ Count (codes "journal") (Some (generation d + 1)) ∷ [])

checkpoint_deeds : (d : List Deed) → NoneOrNext d (checkpoint d).deeds
checkpoint_deeds d = go (nat_le 4095 (generation d))
  where
    go : (last : Bool) → NoneOrNext d (unless (refuse_if last (OverLimit Generation) ∷ [])
        (does (Count (codes "journal") (Some (generation d + 1)) ∷ []) (row (number_field (codes "journal") (generation d + 1) ∷ [])))).deeds
    go true = inl refl
    go false = inr refl

request_deeds : (request : Request) (d : List Deed) → opens_generation request ≡ true → NoneOrNext d (step d request).deeds
request_deeds request d is = by_asked request.command refl is
  where
    by_asked : (asked : Result Command WordFault) → request.command ≡ asked → opens asked ≡ true → NoneOrNext d (step d request).deeds
    by_asked (Err fault) e opening = absurd (let never : false ≡ true = opening in cc)
    by_asked (Ok command) e opening = step_from (NoneOrNext d) (inl refl) d request Checkpoint (e ∙ ap Ok (only_checkpoint command opening)) (checkpoint_deeds d)

-- ---- its change

-- the counter that tells a generation is put in the place of the one before
abbrev pub next_told : ℕ → Change
next_told generation = record { op = Replace; row = Counter (record { name = codes "journal"; value = generation }) }

-- the place of a content is no part of a counter
counter_is : (r told : Record) (n : ℕ) → told ≡ Counter (record { name = codes "journal"; value = n }) → unplaced r ≡ told → r ≡ told
counter_is (Rev r) told n is same = absurd cc
counter_is _ told n is same = same

module _ (rows : AllRows) (d : List Deed) (m : ℕ) (changes : List Change) (stand : Stand rows d) (differences : AreDifferences rows d (Count (codes "journal") (Some m) ∷ d) changes) where
  abbrev after_it : List Deed
  after_it = Count (codes "journal") (Some m) ∷ d

  abbrev key : Key
  key = keys.Counter (codes "journal")

  abbrev told : Record
  told = Counter (record { name = codes "journal"; value = m })

  at_key : record_of after_it key ≡ Some told
  at_key = count-met (codes "journal") (Some m) d key

  elsewhere : (q : Key) → is_at key q ≡ false → record_of after_it q ≡ record_of d q
  elsewhere q apart = count-met (codes "journal") (Some m) d q ∙ ap (λ (b : Bool). if b then Some told else record_of d q) apart

  key_is : (change : Change) → (record_of after_it (changed_key change) ≡ record_of d (changed_key change) → ⊥) → key ≡ changed_key change
  key_is change differs = go (is_at key (changed_key change)) refl
    where
      go : (b : Bool) → is_at key (changed_key change) ≡ b → key ≡ changed_key change
      go true is = at-is key (changed_key change) is
      go false apart = absurd (differs (elsewhere (changed_key change) apart))

  abbrev IsTelling : Change → Type 0
  IsTelling change = ((change.op ≡ Put) ⊎ (change.op ≡ Replace)) × (change.row ≡ told)

  tells : (change : Change) → key ≡ changed_key change → change_at changes (changed_key change) ≡ Some change → IsTelling change
  tells change is own =
      let leads : LeadsTo (row_in rows key) (record_of after_it key) (change_at changes key) = differences.each key (stand.each (key_table key)) in
      let now : LeadsTo (row_in rows key) (Some told) (change_at changes key) = subst (λ (o : Option Record). LeadsTo (row_in rows key) o (change_at changes key)) at_key leads in
      go (row_in rows key) (subst (LeadsTo (row_in rows key) (Some told)) (ap (change_at changes) is ∙ own) now)
    where
      go : (old : Option Record) → LeadsTo old (Some told) (Some change) → IsTelling change
      go None put = (inl put.0, counter_is change.row told m refl put.1)
      go (Some old) replaced = (inr replaced.1, counter_is change.row told m refl replaced.2)

  told_in : (op : Op) (r : Record) → (op ≡ Put) ⊎ (op ≡ Replace) → r ≡ told → changed_in rows (record { op = op; row = r }) ≡ changed_in rows (next_told m)
  told_in op r (inl put) is = λ i. changed_in rows (record { op = put i; row = is i })
  told_in op r (inr replaced) is = λ i. changed_in rows (record { op = replaced i; row = is i })

  never_less : (other : Key) → key ≡ other → key_cmp key other ≡ Less → ⊥
  never_less other is less =
      let self : key_cmp key key ≡ Less = subst (λ (q : Key). key_cmp key q ≡ Less) (sym is) less in
      let same : key_cmp key key ≡ Equal = refl in
      let both : Equal ≡ Less = sym same ∙ self in
      cc

  apart : (first second : Change) (rest : List Change) → key ≡ changed_key first → key ≡ changed_key second
      → IsStrictlySortedBy key_cmp (changed_key first ∷ changed_key second ∷ map changed_key rest) → ⊥
  unfolding IsStrictlySortedBy
  apart first second rest one other rising =
      never_less (changed_key second) other (subst (λ (q : Key). key_cmp q (changed_key second) ≡ Less) (sym one) rising.0.0)

  pub telling_rows : changes ≢ [] → changed_by rows changes ≡ changed_in rows (next_told m)
  telling_rows some = go changes some (all_differ rows d after_it changes stand differences) (own_change changes differences.rising) differences.rising
    where
      go : (cs : List Change) → cs ≢ [] → AllByRecursion (λ (change : Change). record_of after_it (changed_key change) ≡ record_of d (changed_key change) → ⊥) cs
          → AllByRecursion (λ (change : Change). change_at changes (changed_key change) ≡ Some change) cs → IsStrictlySortedBy key_cmp (map changed_key cs) → changed_by rows cs ≡ changed_in rows (next_told m)
      go [] some differ own rising = absurd (some refl)
      go (c ∷ []) some differ own rising = let t = tells c (key_is c differ.0) own.0 in told_in c.op c.row t.0 t.1
      go (c ∷ next ∷ cs) some differ own rising = absurd (apart c next cs (key_is c differ.0) (key_is next differ.1.0) rising)

-- ---- what the changes of a request make

module _ (rows : AllRows) (d : List Deed) (request : Request) (changes : List Change) (stand : Stand rows d) (differences : AreDifferences rows d (after d (step d request).deeds) changes) (some : changes ≢ []) where
  -- a row differs
  pub made_differ : RowsDiffer d (after d (step d request).deeds)
  made_differ = go changes some (all_differ rows d (after d (step d request).deeds) changes stand differences)
    where
      go : (cs : List Change) → cs ≢ [] → AllByRecursion (λ (change : Change). record_of (after d (step d request).deeds) (changed_key change) ≡ record_of d (changed_key change) → ⊥) cs
          → RowsDiffer d (after d (step d request).deeds)
      go [] some differ = absurd (some refl)
      go (c ∷ cs) some differ = (changed_key c, λ same. differ.0 (sym same))

  -- where a generation is opened, the counter is put
  pub made_opened : opens_generation request ≡ true → changed_by rows changes ≡ changed_in rows (next_told (generation_in d + 1))
  made_opened opening = elim (request_deeds request d opening) [
    | inl none ↦ absurd (some (no_changes rows d (after d (step d request).deeds) changes stand (λ key. ap (λ (deeds : List Deed). record_of (after d deeds) key) (sym none)) differences))
    | inr next ↦
        telling_rows rows d (generation d + 1) changes stand (subst (λ (deeds : List Deed). AreDifferences rows d (after d deeds) changes) next differences) some
        ∙ ap (λ (n : ℕ). changed_in rows (next_told (n + 1))) (sym (told_is_counted d))
  ]
