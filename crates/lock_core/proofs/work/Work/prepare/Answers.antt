use Rattle.std.proofs.Common.{List, sym, subst, refl}
use Rattle.depot_rows.specs.db_records.declared.change.Change.{Change}
use Rattle.depot_rows.specs.table_changes.Changed.{AllFitIn, rows_of}
use Rattle.lock_core.specs.Works.{IsRoomOf}
use Rattle.lock_core.proofs.work.Work.prepare.Goals as goal

pub make_room-requires : goal.make_room-requires
make_room-requires c = let P : List Change → Type 0 = AllFitIn (rows_of c.args.tables.now) in subst P (sym c.as_slice.ensures) c.in_ok-outcome.ensures.fit

pub returns-clause-ok : goal.returns-clause-ok
returns-clause-ok c = (c.in_ok-room.room, refl)

pub returns-clause-room : goal.returns-clause-room
returns-clause-room c = let P : List Change → Type 0 = λ changes. IsRoomOf (rows_of c.args.tables.now) changes c.in_ok-room.room in subst P c.as_slice.ensures c.in_ok-room.ensures
