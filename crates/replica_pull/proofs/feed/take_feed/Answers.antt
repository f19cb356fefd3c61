use Rattle.std.proofs.Common.{inl, sym, subst}
use Rattle.depot_rows.specs.table_changes.Changed.{AllRows, rows_of}
use Rattle.depot_rows.specs.table_changes.Drafts.{rows_of_draft}
use Rattle.replica_pull.specs.declared.feed.Taken.{Taken}
use Rattle.replica_pull.specs.Feed.{Fit, AreTaken, IsBadFeed, IsFirstMisfit}
use Rattle.replica_pull.proofs.Fitting.{fit_front}
use Rattle.replica_pull.proofs.Misfits.{all_good, bad_on, rest_record}
use Rattle.replica_pull.proofs.feed.take_feed.Goals as goal

pub returns-in-Err-clause-bad : goal.returns-in-Err-clause-bad
returns-in-Err-clause-bad c =
    let rules = c.args.filter.now in
    let old = c.args.reader.now in
    let mid = c.take_groups.new.reader in
    let rows = rows_of c.in_ok-tables.tables in
    let told = c.in_ok-groups.ensures.taken in
    let made : AreTaken rules old (rows_of_draft c.in_ok-draft.draft) told.0 mid rows = subst (λ (after : AllRows). AreTaken rules old (rows_of_draft c.in_ok-draft.draft) told.0 mid after) (sym c.in_ok-tables.ensures.rows) told.1.1 in
    let taken : AreTaken rules old (rows_of c.args.tables.now) told.0 mid rows = subst (λ (before : AllRows). AreTaken rules old before told.0 mid rows) c.in_ok-draft.ensures.rows made in
    bad_on Taken (Unit {0}) (IsFirstMisfit (Fit rules rows) mid.records mid.reached) (IsBadFeed rules old (rows_of c.args.tables.now)) c.in-Err.fault c.in-Err.ensures.bad (λ place bad.
    record { groups = told.0; now = mid; rows = rows; taken = taken; bad = inl (rest_record (Fit rules rows) mid.number mid.at mid.left mid.records mid.reached place c.in_ok-groups.ensures.records bad) })

pub returns-in-Ok-clause-fit : goal.returns-in-Ok-clause-fit
returns-in-Ok-clause-fit c =
    let rules = c.args.filter.now in
    let mid = c.take_groups.new.reader in
    let rows = rows_of c.in_ok-tables.tables in
    all_good (Fit rules rows) mid.number mid.at mid.left mid.records mid.reached (fit_front rules rows) c.in_ok-groups.ensures.records c.in-Ok.ensures.fit
