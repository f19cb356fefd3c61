use Rattle.std.proofs.Common.{◌≡◌, take}
use Rattle.depot_rows.specs.db_records.declared.key.Key.{Key}
use Rattle.depot_rows.specs.depot_model.Rules.{Rows}
use Rattle.row_changes.specs.Overlay.{seen}
use Rattle.row_changes.specs.Users.{with_users}
use Rattle.row_changes.proofs.overlay.Overlay.put_users.Given as goal

abbrev pub invariant-loop-user : goal.invariant-loop-user
invariant-loop-user l = (rows : Rows) (q : Key) → seen l.self.touched rows q ≡ with_users l.group (take l.user-index l.users) (seen l.initial.self.touched rows) q
