use Rattle.std.proofs.Common.{◌≡◌, List, drop, map}
use Rattle.std.specs.Prelude.{flat_map}
use Rattle.depot_rows.specs.table_changes.Changed.{rows_of}
use Rattle.depot_rows.specs.depot_model.declared.request.Request.{Request}
use Rattle.depot_rows.specs.depot_model.Deeds.{Deed}
use Rattle.depot_rows.specs.depot_model.Steps.Submitting.{file_refusals}
use Rattle.depot_rows.specs.Deed.{opening_of}
use Rattle.reply_rows.specs.Refusing.{first_of}
use Rattle.submit_core.specs.Premises.{AreOpened, Reads}
use Rattle.submit_core.proofs.refusals.files_refusal.Given as goal

abbrev pub invariant-loop-opening : goal.invariant-loop-opening
invariant-loop-opening l =
    (d : List Deed) (request : Request) → Reads (rows_of l.tables) d request l.asker l.contents → AreOpened d request.caller.client l.openings
    → AreOpened d request.caller.client (drop l.opening-index l.openings)
    × (first_of (flat_map (file_refusals d request) (map opening_of (drop l.opening-index l.openings))) ≡ first_of (flat_map (file_refusals d request) (map opening_of l.openings)))
