use Rattle.std.proofs.Common.{inl, inr}
use Rattle.depot_rows.specs.table_changes.Changed.{AllFitIn, rows_of}
use Rattle.recovery.proofs.Fits.{fits_front}
use Rattle.replica_pull.specs.Feed.{IsBadPlace, IsFirstMisfit}
use Rattle.replica_pull.proofs.Misfits.{all_good, rest_record}
use Rattle.replica_chain.proofs.PassedOn.{passed_bad}
use Rattle.replica_chain.proofs.feed.next_changes.Goals as goal

pub returns-in_err-check_rest-in-Err-BadGroup-clause-bad : goal.returns-in_err-check_rest-in-Err-BadGroup-clause-bad
returns-in_err-check_rest-in-Err-BadGroup-clause-bad c =
    let old = c.args.reader.now in
    let new = c.next.new.self in
    let good = AllFitIn (rows_of c.args.tables.now) in
    let records = rw c.in-Err-BadGroup.field-0-is at c.in-Err-BadGroup.ensures.records in
    passed_bad (Unit {0}) (IsFirstMisfit good new.records new.reached) (IsBadPlace good old) _ c.in_err-check_rest-in-Err-BadGroup.field-0.0 c.from_residual.ensures.1 c.in_err-check_rest-in-Err-BadGroup.ensures.bad (λ place bad.
    inl (rest_record good old.number old.at old.left new.records new.reached place records bad))

pub returns-in_ok-check_rest-in-Err-BadGroup-clause-bad : goal.returns-in_ok-check_rest-in-Err-BadGroup-clause-bad
returns-in_ok-check_rest-in-Err-BadGroup-clause-bad c =
    let old = c.args.reader.now in
    let new = c.next.new.self in
    let good = AllFitIn (rows_of c.args.tables.now) in
    let records = rw c.in-Err-BadGroup.field-0-is at c.in-Err-BadGroup.ensures.records in
    let stops = rw c.in-Err-BadGroup.field-0-is at c.in-Err-BadGroup.ensures.bad in
    inr (inl (
      all_good good old.number old.at old.left new.records new.reached (fits_front (rows_of c.args.tables.now)) records c.in_ok-check_rest-in-Err-BadGroup.ensures.fit,
      stops,
    ))
