use Rattle.std.proofs.Common.{◌≡◌, ◌++◌, List, length, map}
use Rattle.std.specs.Prelude.{filter}
use Rattle.std.specs.List.{All}
use Rattle.std.specs.Vec.Iter.{into_iter_items, into_iter_len}
use Rattle.depot_rows.specs.db_records.declared.record.Record.{Record}
use Rattle.depot_rows.specs.db_records.declared.table.TableId.TheVariants as tables
use Rattle.depot_rows.specs.table_changes.Changed.{rows_of}
use Rattle.depot_rows.specs.depot_model.Deeds.{Deed}
use Rattle.named_files.specs.Sets.{ShownReads, is_listed}
use Rattle.newest_revisions.specs.Seen.{AreHeads}
use Rattle.history_query.specs.Choosing.{ChoiceReads, IsChosen}
use Rattle.history_query.proofs.choosing.chosen_among.Given as goal

abbrev pub invariant-loop-path : goal.invariant-loop-path
invariant-loop-path l =
    record {
      heads : (rows : List Record) → AreHeads rows l.fn.heads → AreHeads rows l.heads;
      goes : (d : List Deed) → ShownReads l.shown.caller.now l.shown.asker.now l.shown.listing.now (rows_of l.tables) d → AreHeads (rows_of l.tables tables.Rev) l.fn.heads
          → l.found.paths ++ filter (is_listed l.shown.caller.now d l.argument) (into_iter_items l.path-iterator) ≡ filter (is_listed l.shown.caller.now d l.argument) l.fn.candidates;
      rows : (d : List Deed) → ChoiceReads (rows_of l.tables) d → AreHeads (rows_of l.tables tables.Rev) l.fn.heads
          → All (IsChosen (rows_of l.tables) d l.shown.caller.now l.argument.spec.wanted) (map (λ r. r.now) l.found.rows.items);
      left : into_iter_len l.path-iterator ≡ length (into_iter_items l.path-iterator);
    }
