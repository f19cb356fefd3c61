-- The depot of all rows.
use Rattle.std.proofs.Common.{◌≡◌, Bool, true, false, List, map, Option, Some, None, inl, inr, refl, sym, ap, subst, ◌∙◌}
use Rattle.std.specs.Prelude.{if◌then◌else◌, option_map, flat_map, is_some, IsSome}
use Rattle.depot_rows.specs.db_records.Key.{key_table}
use Rattle.depot_rows.specs.db_records.Record.{key_of}
use Rattle.depot_rows.specs.db_records.Table.{all_tables}
use Rattle.depot_rows.specs.db_records.declared.key.Key.{Key}
use Rattle.depot_rows.specs.db_records.declared.record.Record.{Record}
use Rattle.depot_rows.specs.db_records.declared.record.Record.TheVariants as records
use Rattle.depot_rows.specs.db_records.declared.table.TableId.{TableId}
use Rattle.depot_rows.specs.db_records.declared.table.TableId.TheVariants as tables
use Rattle.depot_rows.specs.table_store.Rows.{is_at, row_at}
use Rattle.depot_rows.specs.table_changes.Changed.{AllRows}
use Rattle.depot_rows.specs.depot_model.Deeds.{Deed}
use Rattle.depot_rows.specs.depot_model.Records.{record_of, unplaced}
use Rattle.depot_rows.specs.depot_model.Rules.{Rows, KeepRules, IsSound}
use Rattle.depot_rows.specs.Standing.{Stand, unplaced_at}
use Rattle.depot_rows.proofs.Entries.{In}
use Rattle.depot_rows.proofs.Keys.{at-is}
use Rattle.depot_facts.proofs.Listed.{flat_in, found_in, map_in}
use Rattle.depots_of_rows.specs.Telling.{all_unplaced, Contents, KeepAllRules, HasTheseContents}
use Rattle.depots_of_rows.proofs.Given.{Given, only}
use Rattle.depots_of_rows.proofs.Side.{Side, Built, sound_by}
use Rattle.depots_of_rows.proofs.Guarded.{guard_all}
use Rattle.depots_of_rows.proofs.Stages.{history, all_changes}
use Rattle.depots_of_rows.proofs.Passing.{settled, passed, in_passed, pass_all}

-- the depot of rows whose keys are listed
pub record Depot (rows : Rows) (contents : Contents) : Type 0 where
  pub deeds : List Deed
  pub rows_are : (q : Key) → record_of deeds q ≡ rows q
  pub side : Side contents deeds

pub depot_of : (rows : Rows) (contents : Contents) → Given rows contents → (ks : List Key) → ((q : Key) → IsSome (rows q) → In ks q) → Depot rows contents
depot_of rows contents g ks listed = record { deeds = all.0; rows_are = λ q. all.1.rows_are q ∙ whole q (rows q) refl; side = all.1.side }
  where
    changes : (d : List Deed) × Built rows contents history d
    changes = all_changes rows contents g ks listed

    guarded : (d : List Deed) × Built rows contents settled d
    guarded = guard_all rows contents g ks listed history changes.0 changes.1

    all : (d : List Deed) × Built rows contents (passed ks) d
    all = pass_all rows contents g ks guarded.0 guarded.1

    whole : (q : Key) (o : Option Record) → rows q ≡ o → only (passed ks) rows q ≡ rows q
    whole q None e = go (passed ks q)
      where
        go : (x : Bool) → (if x then rows q else None) ≡ rows q
        go true = refl
        go false = sym e
    whole q (Some r) e = ap (λ (x : Bool). if x then rows q else None) (in_passed ks q (listed q (ap is_some e)))

-- ---- rows of tables

table_in : (table : TableId) → In all_tables table
table_in tables.Counter = inl refl
table_in tables.Group = inr (inl refl)
table_in tables.Protect = inr (inr (inl refl))
table_in tables.Domain = inr (inr (inr (inl refl)))
table_in tables.Have = inr (inr (inr (inr (inl refl))))
table_in tables.Label = inr (inr (inr (inr (inr (inl refl)))))
table_in tables.Integed = inr (inr (inr (inr (inr (inr (inl refl))))))
table_in tables.Resolve = inr (inr (inr (inr (inr (inr (inr (inl refl)))))))
table_in tables.Working = inr (inr (inr (inr (inr (inr (inr (inr (inl refl))))))))
table_in tables.Change = inr (inr (inr (inr (inr (inr (inr (inr (inr (inl refl)))))))))
table_in tables.Rev = inr (inr (inr (inr (inr (inr (inr (inr (inr (inr (inl refl))))))))))

unplaced_key : (r : Record) → key_of (unplaced r) ≡ key_of r
unplaced_key (records.Rev r) = refl
unplaced_key _ = refl

unplaced_twice : (o : Option Record) → option_map unplaced (option_map unplaced o) ≡ option_map unplaced o
unplaced_twice None = refl
unplaced_twice (Some r) = of r
  where
    of : (r : Record) → Some (unplaced (unplaced r)) ≡ Some (unplaced r)
    of (records.Rev r) = refl
    of _ = refl

module _ (rows : AllRows) where
  abbrev of_table : TableId → List Key
  of_table table = map key_of (rows table)

  abbrev all_keys : List Key
  all_keys = flat_map of_table all_tables

  -- the row that is found at a key
  module _ (q : Key) where
    found : (o : Option Record) → row_at q (rows (key_table q)) ≡ o → IsSome (option_map unplaced o)
        → (r : Record) × (In (rows (key_table q)) r × (key_of r ≡ q) × (o ≡ Some r))
    found None e h = absurd cc
    found (Some r) e h = let f = found_in (is_at q) (rows (key_table q)) r e in (r, (f.0, at-is (key_of r) q f.1, refl))

  listed : (q : Key) → IsSome (all_unplaced rows q) → In all_keys q
  listed q h =
      let f = found q (row_at q (rows (key_table q))) refl h in
      flat_in of_table all_tables (key_table q) q (table_in (key_table q))
      (subst (In (of_table (key_table q))) f.1.1 (map_in key_of (rows (key_table q)) f.0 f.1.0))

  keyed : (q : Key) (r : Record) → all_unplaced rows q ≡ Some r → key_of r ≡ q
  keyed q r e =
      let f = found q (row_at q (rows (key_table q))) refl (ap is_some e) in
      let one : Some (unplaced f.0) ≡ Some r = sym (ap (option_map unplaced) f.1.2) ∙ e in
      let two : unplaced f.0 ≡ r = cc in
      sym (ap key_of two) ∙ unplaced_key f.0 ∙ f.1.1

  pub stands : (contents : Contents) → KeepAllRules contents (all_unplaced rows) → (d : List Deed) × (Stand rows d × HasTheseContents contents d)
  stands contents keep = (built.deeds, (record { sound = sound; each = each }, built.side.these))
    where
      built : Depot (all_unplaced rows) contents
      built = depot_of (all_unplaced rows) contents
          (record { keep = keep.rules; keyed = keyed; flat = λ q. unplaced_twice (row_at q (rows (key_table q))); lines = keep.lines; tell = keep.tell })
          all_keys listed

      sound : IsSound built.deeds
      sound = sound_by contents built.deeds built.side (subst KeepRules (λ i q. sym (built.rows_are q) i) keep.rules)

      each : (table : TableId) (key : Key) → key_table key ≡ table → unplaced_at (rows table) key ≡ record_of built.deeds key
      each table key e = ap (λ (t : TableId). unplaced_at (rows t) key) (sym e) ∙ sym (built.rows_are key)
