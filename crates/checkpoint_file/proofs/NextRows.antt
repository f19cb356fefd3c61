-- What the next generation has: the rows of its checkpoint.
use Rattle.std.proofs.Common.{◌≡◌, ◌≤◌, ℕ, ◌+◌, List, [], ◌++◌, inl, inr, length, refl, sym, ap, subst, ◌∙◌}
use Rattle.std.proofs.lemmas.List.{append-nil}
use Rattle.outside_api.specs.Disk.{Files}
use Rattle.depot_rows.specs.db_records.Table.{all_tables}
use Rattle.depot_rows.specs.db_records.declared.change.Change.{Change}
use Rattle.depot_rows.specs.db_records.declared.key.Key.TheVariants as keys
use Rattle.depot_rows.specs.db_records.declared.record.Record.{Record}
use Rattle.depot_rows.specs.db_records.declared.table.TableId.TheVariants.{Rev}
use Rattle.depot_rows.specs.depot_model.Deeds.{Deed}
use Rattle.depot_rows.specs.depot_path.Path.{printed}
use Rattle.disk_journal.specs.Images.{Committed, HasCommitted, HasEither, with_generation}
use Rattle.recovery.specs.Holding.{ArePuts, HasAllRows, spots_end}
use Rattle.recovery.specs.Rules.{DeletesAreUnplaced}
use Rattle.recovery.specs.Standing.{StandFor}
use Rattle.recovery.proofs.PutsFit.{puts_fit}
use Rattle.depot_rows.specs.table_changes.Changed.{AllFitIn, AllRows, changed_by, no_rows}
use Rattle.depot_rows.specs.table_store.Rows.{IsRising, row_at}
use Rattle.checkpoint_file.specs.Checkpoint.{IsCheckpointOf, puts_of}
use Rattle.checkpoint_file.specs.Generations.{HoldsEither, IsNext, IsOfDepot, StandsForEither, of_generation}
use Rattle.checkpoint_file.specs.Tables.{AreTables}
use Rattle.checkpoint_file.proofs.OneAfterOther.{all_rise, tables_rise}
use Rattle.checkpoint_file.proofs.PutRows.{all_put, put_all, rows_in_puts}

are_puts : (rows : AllRows) → AreTables rows → ArePuts (puts_of rows)
are_puts rows are = record { all_put = all_put rows all_tables; rising = subst IsRising (sym (rows_in_puts rows all_tables)) (tables_rise rows are 0 all_tables all_rise) }

pub next_rows : (was : Committed) (after : AllRows) (text : List ℕ) → IsCheckpointOf (was.generation + 1) after text → HasAllRows (with_generation was text) after
next_rows was after text is =
    let alone : puts_of after ++ [] ≡ puts_of after = append-nil (puts_of after) in
    record {
      puts = puts_of after;
      groups = [];
      are = record { checkpoint = is.text_is; journal = refl; are_puts = are_puts after is.are_tables; are_groups = (is.is_group, tt) };
      fit = subst (AllFitIn no_rows) (sym alone) (puts_fit (puts_of after) (are_puts after is.are_tables));
      rows_are = λ table. sym (ap (λ (changes : List Change). changed_by no_rows changes table) alone ∙ put_all after is.are_tables table);
    }

pub holds_either : (was : Committed) (rows after : AllRows) (text : List ℕ) → HasAllRows was rows → IsCheckpointOf (was.generation + 1) after text → (image : Files) → HasEither was (with_generation was text) image → HoldsEither was rows text after image
holds_either was rows after text has is image (inl committed) = inl (record { committed = committed; has = has })
holds_either was rows after text has is image (inr committed) = inr (record { committed = committed; has = next_rows was after text is })

module _ (was : Committed) (rows : AllRows) (d : List Deed) (archive : Files) (of_depot : IsOfDepot was rows d archive) where
  stands_before : (image : Files) → HasCommitted was image → StandFor d image archive
  stands_before image committed = record {
    was = was;
    committed = committed;
    rows = rows;
    has = of_depot.has;
    stand = of_depot.stand;
    deletes = of_depot.deletes;
    generation = of_depot.generation;
    within = of_depot.within;
    contents = of_depot.contents;
  }

  module _ (text : List ℕ) (next : IsNext was rows d text) where
    pub stands_after : (image : Files) → HasCommitted (with_generation was text) image → StandFor (of_generation (was.generation + 1) d) image archive
    stands_after image committed =
        let same : next.after Rev ≡ rows Rev = next.revisions in
        record {
          was = with_generation was text;
          committed = committed;
          rows = next.after;
          has = next_rows was next.after text next.checkpoint;
          stand = next.stand;
          deletes = subst DeletesAreUnplaced (sym same) of_depot.deletes;
          generation = refl;
          within = subst (λ (l : List Record). spots_end l ≤ length (archive 0)) (sym same) of_depot.within;
          contents = λ path n r bytes is content.
              let old = of_depot.contents path n r bytes is content in
              (old.0, ap (row_at (keys.Rev (printed path) n)) same ∙ old.1, old.2);
        }

    pub stands_either : (image : Files) → HasEither was (with_generation was text) image → StandsForEither (was.generation + 1) d archive image
    stands_either image (inl committed) = inl (stands_before image committed)
    stands_either image (inr committed) = inr (stands_after image committed)
