use Rattle.std.proofs.Common.{[], ◌∷◌, ◌+◌, refl, sym, ap, ◌∙◌}
use Rattle.std.specs.Prelude.{codes}
use Rattle.depot_rows.specs.depot_path.Path.{is_path}
use Rattle.depot_rows.specs.depot_model.Deeds.{Owe}
use Rattle.depot_rows.specs.depot_model.Steps.Syncing.{size_of, sync_row}
use Rattle.depot_rows.specs.declared.deed.Deed.TheVariants as dones
use Rattle.reply_rows.proofs.Joined.{made_done}
use Rattle.have_sync.proofs.Synced.{may_owe}
use Rattle.have_sync.proofs.syncing.owe.Goals as goal

pub returns : goal.returns
returns c = λ all d e asked has.
    let caller = c.args.caller.now in
    let path = c.args.path.now in
    let rev = c.args.found.rev in
    let first = c.args.base + 1 in
    let owing = c.in_ok-owing.owing in
    let bytes = c.as_bytes-bytes.ensures in
    made_done all d e (dones.Owe owing ∷ []) (Owe (record { client = caller.client; path = path; from = path; first = first; last = rev }) ∷ [])
    c.in_ok-row.row (sync_row d caller path rev (codes "owed") (size_of d path rev)) c.in_ok-step.step
    (may_owe e caller path first rev owing (ap is_path (sym bytes.value) ∙ bytes.path) c.in_ok-owing.ensures)
    (c.in_ok-row.ensures d caller asked has) refl c.in_ok-step.ensures
