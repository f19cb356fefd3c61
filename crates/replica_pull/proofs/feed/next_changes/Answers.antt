use Rattle.std.proofs.Common.{inl, inr, ℕ, List, subst}
use Rattle.depot_rows.specs.db_records.declared.change.Change.{Change}
use Rattle.depot_rows.specs.table_changes.Drafts.{rows_of_draft}
use Rattle.replica_pull.specs.Feed.{Fit, IsBadPlace, IsFirstMisfit}
use Rattle.replica_pull.proofs.Fitting.{fit_front}
use Rattle.replica_pull.proofs.Misfits.{all_good, passed_bad, rest_record}
use Rattle.replica_pull.proofs.feed.next_changes.Goals as goal

pub returns-in_err-make_changes-in-Err-BadGroup-clause-bad : goal.returns-in_err-make_changes-in-Err-BadGroup-clause-bad
returns-in_err-make_changes-in-Err-BadGroup-clause-bad c =
    let old = c.args.reader.now in
    let new = c.next.new.self in
    let good = Fit c.args.filter.now (rows_of_draft c.args.draft.now) in
    let records = rw c.in-Err-BadGroup.field-0-is at c.in-Err-BadGroup.ensures.records in
    passed_bad (Unit {0}) (IsFirstMisfit good c.records.result.now c.reached.result) (IsBadPlace good old) _ c.in_err-make_changes-in-Err-BadGroup.field-0.0 c.from_residual.ensures.1 c.in_err-make_changes-in-Err-BadGroup.ensures.bad (λ place bad.
    inl (rest_record good old.number old.at old.left new.records new.reached place records
    (subst (λ (n : ℕ). IsFirstMisfit good new.records n place) c.reached.ensures (subst (λ (l : List Change). IsFirstMisfit good l c.reached.result place) c.records.ensures bad))))

pub returns-in_ok-make_changes-in-Err-BadGroup-clause-bad : goal.returns-in_ok-make_changes-in-Err-BadGroup-clause-bad
returns-in_ok-make_changes-in-Err-BadGroup-clause-bad c =
    let old = c.args.reader.now in
    let new = c.next.new.self in
    let good = Fit c.args.filter.now (rows_of_draft c.args.draft.now) in
    let records = rw c.in-Err-BadGroup.field-0-is at c.in-Err-BadGroup.ensures.records in
    let stops = rw c.in-Err-BadGroup.field-0-is at c.in-Err-BadGroup.ensures.bad in
    inr (inl (
      all_good good old.number old.at old.left new.records new.reached (fit_front c.args.filter.now (rows_of_draft c.args.draft.now)) records (subst good c.records.ensures c.in_ok-make_changes-in-Err-BadGroup.ensures.fit),
      stops,
    ))
