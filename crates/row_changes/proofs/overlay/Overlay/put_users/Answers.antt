use Rattle.std.proofs.Common.{ap, sym, ◌∙◌, Some}
use Rattle.depot_rows.specs.db_records.declared.key.Key.TheVariants as keys
use Rattle.depot_rows.specs.depot_model.Rules.{Rows}
use Rattle.depot_rows.specs.Effects.{put_at, group_row}
use Rattle.row_changes.specs.Overlay.{seen}
use Rattle.row_changes.proofs.Ended.{users-more}
use Rattle.row_changes.proofs.overlay.Overlay.put_users.Goals as goal

pub loop-user-preserved : goal.loop-user-preserved
loop-user-preserved c = λ rows q. c.in_ok-put_user.ensures rows q
    ∙ ap (λ (f : Rows). put_at (keys.Group c.args.group.now c.user-item.result) (Some (group_row c.args.group.now c.user-item.result)) f q) (λ i k. c.loop-user.invariant rows k i)
    ∙ ap (λ (f : Rows). f q) (sym (users-more c.args.group.now c.args.users.now c.loop-user.user-index c.user-item.result (seen c.args.self.now.touched rows) c.loop-user-test.true c.user-item.is))
