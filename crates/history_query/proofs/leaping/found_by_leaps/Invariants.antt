use Rattle.std.proofs.Common.{◌≡◌, [], List, false, length}
use Rattle.std.specs.Prelude.{flat_map}
use Rattle.std.specs.Cmp.Lexicographic.{slice_cmp}
use Rattle.std.specs.Ordering.{is_lt, nat_cmp}
use Rattle.depot_rows.specs.db_records.declared.table.TableId.TheVariants as tables
use Rattle.depot_rows.specs.depot_path.Path.{printed}
use Rattle.depot_rows.specs.depot_path.Pattern.{literal}
use Rattle.depot_rows.specs.depot_model.declared.request.Caller.{Caller}
use Rattle.depot_rows.specs.depot_model.Arguments.{submitted}
use Rattle.depot_rows.specs.depot_model.Deeds.{Deed}
use Rattle.depot_rows.specs.depot_model.Rules.{IsSound}
use Rattle.depot_rows.specs.Standing.{HasRows}
use Rattle.depot_rows.specs.table_changes.Changed.{rows_of}
use Rattle.named_files.specs.Asked.{IsAsker}
use Rattle.named_files.specs.Listed.{listed}
use Rattle.named_files.specs.declared.listing.Listing.TheVariants.{Submitted}
use Rattle.history_query.specs.Directories.{all_fitting, directories_of}
use Rattle.history_query.specs.Leaping.{files_from, texts_put}
use Rattle.history_query.proofs.leaping.found_by_leaps.Given as goal

abbrev pub invariant-loop-from : goal.invariant-loop-from
invariant-loop-from l = record {
  late : is_lt (slice_cmp nat_cmp l.from (printed (literal l.pattern))) ≡ false;
  told : (d : List Deed) (caller : Caller) → IsSound d → IsAsker d caller l.asker → HasRows (rows_of l.tables) d tables.Rev
      → texts_put l.found (all_fitting l.pattern (flat_map (directories_of d caller l.pattern) (files_from l.from (submitted d))) [])
      ≡ all_fitting l.pattern (flat_map (directories_of d caller l.pattern) (submitted d)) [];
}

abbrev pub decreases-loop-from : goal.decreases-loop-from
decreases-loop-from l = length (files_from l.from (listed Submitted (rows_of l.tables tables.Rev)))
