use Rattle.std.proofs.Common.{◌≡◌, ◌+◌, ◌<◌, ◌^◌, List, [], ◌∷◌, ◌++◌, length, Option, Some, ◌∙◌, ap, subst, arith, length-append}
use Rattle.depot_rows.specs.db_records.declared.change.Change.{Change}
use Rattle.journal_groups.specs.Groups.{groups_text}
use Rattle.journal_groups.specs.Reader.{HasTaken}
use Rattle.depot_rows.specs.table_changes.Changed.{AllRows}
use Rattle.depot_rows.specs.table_changes.Drafts.{rows_of_draft}
use Rattle.recovery.proofs.Journals.{few}
use Rattle.replica_pull.specs.Feed.{Fit, changed_cut, IsBadFeed, IsBadPlace, IsNextOf}
use Rattle.replica_pull.proofs.Misfits.{passed_bad}
use Rattle.replica_pull.proofs.Taking.{taken_on, one_taken}
use Rattle.replica_pull.proofs.feed.take_groups.Goals as goal

pub returns-in_err-changes-clause-bad : goal.returns-in_err-changes-clause-bad
returns-in_err-changes-clause-bad c =
    let rules = c.args.filter.now in
    let mid = c.loop-changes.reader in
    let now = rows_of_draft c.loop-changes.draft in
    let taken = c.loop-changes.invariant.taken in
    passed_bad (Option (List Change)) (IsBadPlace (Fit rules now) mid) (IsBadFeed rules c.args.reader.now (rows_of_draft c.args.draft.now)) _ c.in_err-changes.field-0.0 c.from_residual.ensures.1 c.in_err-changes.ensures.bad (λ place bad.
    record { groups = taken.0; now = mid; rows = now; taken = taken.1.1; bad = bad })

pub overflow_add-count : goal.overflow_add-count
overflow_add-count c =
    let old = c.args.reader.now in
    let taken = c.loop-changes.invariant.taken in
    let count : c.loop-changes.count ≡ length taken.0 = taken.1.0 in
    let short : old.at + length old.left < 2 ^ 63 = c.requires.short in
    omega (arith, count, short, few old.number taken.0, ap length taken.1.1.text, length-append (groups_text old.number taken.0) c.loop-changes.reader.left)

pub loop-changes-preserved : goal.loop-changes-preserved
loop-changes-preserved c =
    let rules = c.args.filter.now in
    let old = c.args.reader.now in
    let mid = c.loop-changes.reader in
    let new = c.next_changes.new.reader in
    let now = rows_of_draft c.loop-changes.draft in
    let after = rows_of_draft c.make_changes.new.draft in
    let taken = c.loop-changes.invariant.taken in
    let changes = c.in-Some.changes in
    let has : HasTaken mid new (Some changes) = subst (IsNextOf mid new) c.in-Some.is c.in_ok-changes.ensures.found in
    let same : rows_of_draft c.next_changes.new.draft ≡ now = c.in_ok-changes.ensures.draft in
    let fit : Fit rules now changes = subst (λ (rows : AllRows). Fit rules rows changes) same (subst (Fit rules (rows_of_draft c.next_changes.new.draft)) c.as_slice.ensures c.in_ok-make_changes.ensures.fit) in
    let made : after ≡ changed_cut rules now changes =
    c.in_ok-make_changes.ensures.rows ∙ ap (changed_cut rules (rows_of_draft c.next_changes.new.draft)) c.as_slice.ensures ∙ ap (λ (rows : AllRows). changed_cut rules rows changes) same in
    let short : mid.at + length mid.left < 2 ^ 63 = c.loop-changes.invariant.short in
    record {
      short = omega (arith, short, has.2);
      taken = (
        taken.0 ++ changes ∷ [],
        (
          omega (arith, taken.1.0, length-append taken.0 (changes ∷ [])),
          taken_on rules old mid new (rows_of_draft c.args.draft.now) now after taken.0 (changes ∷ []) taken.1.1 (one_taken rules mid new now after changes has fit made),
        ),
      );
    }
