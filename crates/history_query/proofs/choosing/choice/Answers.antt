use Rattle.depot_rows.specs.table_changes.Changed.{rows_of}
use Rattle.revision_reads.proofs.Wanting.{wanted_had}
use Rattle.newest_revisions.specs.Seen.{kept}
use Rattle.history_query.proofs.Chosen.{choice_is}
use Rattle.history_query.proofs.choosing.choice.Goals as goal

pub returns-in-Some-clause-choice : goal.returns-in-Some-clause-choice
returns-in-Some-clause-choice c = λ d reads are.
    let said = c.go_to-row.ensures in
    choice_is (rows_of c.args.tables.now) d c.args.caller.now c.args.wanted.now c.args.path.now c.in_ok-text.ensures.read_again c.in_ok-text.text (kept c.args.seen.now)
    c.go_to-row.result c.in-Some.row c.in_ok-text.ensures.printed said.path said.found are c.in-Some.is

pub returns-in_ok-row-in-None-clause-choice : goal.returns-in_ok-row-in-None-clause-choice
returns-in_ok-row-in-None-clause-choice c = λ d reads are.
    let has = wanted_had (rows_of c.args.tables.now) d reads.has_domain reads.has_have reads.has_label reads.has_change reads.has_rev c.args.wanted.now in
    record { row_is = c.in_ok-row-in-None.ensures.row d reads.sound reads.has_rev has; stored = c.in_ok-row-in-None.ensures.stored }
