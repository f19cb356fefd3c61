use Rattle.depot_rows.specs.table_changes.Changed.{rows_of}
use Rattle.history_query.specs.Choosing.{ChoiceReads}
use Rattle.history_query.proofs.stating.file_stat.Goals as goal

pub returns : goal.returns
returns c = λ d sound asked domain have label working change rev.
    let reads : ChoiceReads (rows_of c.args.tables.now) d =
    record { sound = sound; has_domain = domain; has_have = have; has_label = label; has_change = change; has_rev = rev } in
    c.in_ok-step.ensures d asked reads (record { asked = asked; choice = reads; has_working = working })
