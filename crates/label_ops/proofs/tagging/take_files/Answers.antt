use Rattle.std.proofs.Common.{Bool, subst, sym}
use Rattle.std.proofs.lemmas.Result.{IfOk-weaker}
use Rattle.depot_rows.specs.db_records.declared.table.TableId.TheVariants as tables
use Rattle.depot_rows.specs.table_changes.Changed.{rows_of}
use Rattle.depot_rows.specs.depot_model.Arguments.{everything}
use Rattle.reply_rows.specs.Made.{IsMade}
use Rattle.label_ops.specs.Tagged.{taken_files}
use Rattle.label_ops.proofs.tagging.take_files.Goals as goal

pub returns-then-all : goal.returns-then-all
returns-then-all c = IfOk-weaker c.walk_over_all.result _ _ (λ step made d reads.
    let rows = rows_of c.args.tables.now in
    let own = c.args.taking in
    subst (λ (b : Bool). IsMade rows d d (taken_files b own.labelling own.have d own.caller.now own.label.now c.args.arguments.now) step) (sym c.if-all.true)
    (made everything d reads (reads, c.none.ensures.heads (rows tables.Rev)))) c.walk_over_all.ensures

pub returns : goal.returns
returns c = IfOk-weaker c.walk_over.result _ _ (λ step made d reads.
    let rows = rows_of c.args.tables.now in
    let own = c.args.taking in
    subst (λ (b : Bool). IsMade rows d d (taken_files b own.labelling own.have d own.caller.now own.label.now c.args.arguments.now) step) (sym c.if-all.false)
    (made everything d reads (reads, c.none.ensures.heads (rows tables.Rev)))) c.walk_over.ensures
