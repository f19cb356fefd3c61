use Rattle.std.proofs.Common.{List, take, map}
use Rattle.depot_rows.specs.table_changes.Changed.{rows_of}
use Rattle.depot_rows.specs.depot_model.declared.request.Request.{Request}
use Rattle.depot_rows.specs.depot_model.Deeds.{Deed}
use Rattle.depot_rows.specs.Deed.{opening_of}
use Rattle.submit_core.specs.Entries.{AreFiles}
use Rattle.submit_core.specs.Premises.{AreOpened, Reads}
use Rattle.submit_core.proofs.entries.files_of.Given as goal

abbrev pub invariant-loop-opening : goal.invariant-loop-opening
invariant-loop-opening l =
    (d : List Deed) (request : Request) → Reads (rows_of l.tables) d request l.asker l.contents → AreOpened d request.caller.client l.openings
    → AreFiles (rows_of l.tables) d request l.from (map opening_of (take l.opening-index l.openings)) l.files
