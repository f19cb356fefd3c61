use Rattle.std.proofs.Common.{ℕ, List, OnOk, subst}
use Rattle.depot_rows.specs.table_changes.Changed.{rows_of}
use Rattle.depot_rows.specs.declared.deed.Deed.TheVariants as deeds
use Rattle.depot_rows.specs.Effects.{effect, counted}
use Rattle.depot_rows.specs.Standing.{row_in}
use Rattle.row_changes.specs.Overlay.{Becomes}
use Rattle.row_changes.proofs.Applied.{done-always, done-here}
use Rattle.row_changes.proofs.overlay.Overlay.apply.Goals as goal

pub returns-in-Spec : goal.returns-in-Spec
returns-in-Spec c =
    rw c.in-Spec.is (done-always c.save.result (Unit {0}) (row_in (rows_of c.args.tables.now)) (effect (deeds.Spec c.in-Spec.kind c.in-Spec.name c.in-Spec.form)) c.args.self.now.touched c.save.new.self.touched c.save.ensures)

pub returns-in-Drop : goal.returns-in-Drop
returns-in-Drop c =
    rw c.in-Drop.is (done-always c.drop_change.result (Unit {0}) (row_in (rows_of c.args.tables.now)) (effect (deeds.Drop c.in-Drop.number)) c.args.self.now.touched c.drop_change.new.self.touched c.drop_change.ensures)

pub returns-in-Got : goal.returns-in-Got
returns-in-Got c =
    rw c.in-Got.is (done-always c.got.result (Unit {0}) (row_in (rows_of c.args.tables.now)) (effect (deeds.Got c.in-Got.held c.in-Got.rev)) c.args.self.now.touched c.got.new.self.touched c.got.ensures)

pub returns-in-Tag : goal.returns-in-Tag
returns-in-Tag c =
    rw c.in-Tag.is (done-always c.tag.result (Unit {0}) (row_in (rows_of c.args.tables.now)) (effect (deeds.Tag c.in-Tag.label c.in-Tag.path c.in-Tag.rev)) c.args.self.now.touched c.tag.new.self.touched c.tag.ensures)

pub returns-in-Owe : goal.returns-in-Owe
returns-in-Owe c =
    rw c.in-Owe.is (done-always c.owe.result (Unit {0}) (row_in (rows_of c.args.tables.now)) (effect (deeds.Owe c.in-Owe.owing)) c.args.self.now.touched c.owe.new.self.touched c.owe.ensures)

pub returns-in-Count : goal.returns-in-Count
returns-in-Count c =
    rw c.in-Count.is (subst (λ (name : List ℕ). OnOk c.count.result (Unit {0} → Becomes (row_in (rows_of c.args.tables.now)) (counted name c.in-Count.value) c.args.self.now.touched c.count.new.self.touched)) c.as_bytes.ensures.value
    (done-always c.count.result (Unit {0}) (row_in (rows_of c.args.tables.now)) (counted c.as_bytes.result.now c.in-Count.value) c.args.self.now.touched c.count.new.self.touched c.count.ensures))

pub returns-in-Paid : goal.returns-in-Paid
returns-in-Paid c =
    rw c.in-Paid.is (done-here c.paid.result (Unit {0}) (row_in (rows_of c.args.tables.now)) (effect (deeds.Paid c.in-Paid.held c.in-Paid.from c.in-Paid.how)) c.args.self.now.touched c.paid.new.self.touched c.paid.ensures)
