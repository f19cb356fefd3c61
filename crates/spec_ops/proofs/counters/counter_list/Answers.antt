use Rattle.std.proofs.Common.{List, ap, sym, subst, ◌∙◌}
use Rattle.std.specs.Prelude.{map}
use Rattle.std.proofs.lemmas.List.{take_all}
use Rattle.depot_rows.specs.db_records.declared.rows.CounterRecord.{CounterRecord}
use Rattle.depot_rows.specs.table_changes.Changed.{rows_of}
use Rattle.depot_rows.specs.depot_model.Steps.Counters.{counter_row, counters}
use Rattle.reply_rows.specs.declared.step.Step.{Step}
use Rattle.reply_rows.specs.Made.{IsMade}
use Rattle.spec_ops.proofs.Made.{counters_made}
use Rattle.spec_ops.proofs.counters.counter_list.Goals as goal

pub returns : goal.returns
returns c = λ d has.
    let all = rows_of c.args.tables.now in
    let made = counters_made all d c.loop-counter.rows (c.loop-counter.invariant
    ∙ ap (λ (l : List CounterRecord). map (λ (r : CounterRecord). counter_row r.name r.value) l)
    (take_all c.loop-counter.counter-index c.as_slice-counters.result.now c.loop-counter-test.false ∙ c.as_slice-counters.ensures ∙ c.in_ok-found.ensures d has)) in
    subst (λ (s : Step). IsMade all d d (counters d) (record s { rows = c.loop-counter.rows })) (sym c.new.ensures) made
