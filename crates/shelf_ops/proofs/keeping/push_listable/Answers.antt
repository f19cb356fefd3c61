use Rattle.depot_rows.specs.protect_table.Rights.{may}
use Rattle.shelf_ops.proofs.Sifted.{left_out, put_in}
use Rattle.shelf_ops.proofs.keeping.push_listable.Goals as goal

pub returns-in_ok-put_path : goal.returns-in_ok-put_path
returns-in_ok-put_path c =
    put_in (may c.args.asker.now.protects c.args.asker.now.who c.args.path.now 1) c.args.path.now c.args.files.now c.put_path.new.paths c.may-may.result
    c.may-may.ensures c.if-may.true c.in_ok-put_path.ensures

pub returns-else-may : goal.returns-else-may
returns-else-may c =
    left_out (may c.args.asker.now.protects c.args.asker.now.who c.args.path.now 1) c.args.path.now c.args.files.now c.may-may.result
    c.may-may.ensures c.if-may.false
