use Rattle.std.proofs.Common.{◌≡◌, ℕ, List, [], ◌∷◌, ◌++◌, length, Option, Some, refl, sym, ◌∙◌, subst, arith, length-append}
use Rattle.outside_api.specs.Link.{text_of}
use Rattle.depot_rows.specs.db_records.declared.change.Change.{Change}
use Rattle.depot_rows.specs.table_changes.Changed.{AllFitIn, rows_of}
use Rattle.journal_groups.specs.Groups.{IsGroup, group_text}
use Rattle.journal_groups.specs.Causes.{GoesOn}
use Rattle.journal_groups.specs.Reader.{HasRecords, HasTaken}
use Rattle.recovery.proofs.Fits.{fits_front}
use Rattle.replica_pull.specs.Feed.{IsNextOf}
use Rattle.replica_pull.proofs.Misfits.{all_good}
use Rattle.replica_pull.proofs.Taking.{goes_down}
use Rattle.replica_chain.specs.Chronicle.{texts_of}
use Rattle.replica_chain.specs.Pulling.{IsCutShort}
use Rattle.replica_chain.proofs.Chains.{earlier_on}
use Rattle.replica_chain.proofs.Growing.{earlier_self}
use Rattle.replica_chain.proofs.PassedOn.{passed_fault}
use Rattle.replica_chain.proofs.Pieces.{behind_stands, group_on}
use Rattle.replica_chain.proofs.Refusals.{cut_by_feed, cut_by_group, cut_by_rest}
use Rattle.replica_chain.proofs.Steps.{at_first}
use Rattle.replica_chain.proofs.Taking.{behind_group, group_more, groups_left, many_taken, no_group}
use Rattle.outside_api.specs.Reaching.{stays, then}
use Rattle.replica_chain.proofs.Kept.{keeps_first, keeps_on}
use Rattle.replica_chain.proofs.node.Node.take_groups.Goals as goal

pub loop-changes-init : goal.loop-changes-init
loop-changes-init g c =
    let node = c.args.self.now in
    record {
      can = c.requires.can;
      settled = c.requires.settled;
      rest = c.requires.rest;
      taken = ([], (refl, no_group node c.args.reader.now c.requires.at c.requires.number));
      node = λ chronicle n. record { now = chronicle; no_fewer = earlier_self chronicle; is_node = n };
      behind = λ chronicle up told b stands. (at_first g.D.Disk.says g.met.D.Disk.only_now node chronicle up (g.C.Contents.tells c.args.contents.now) told b, stands);
      reached = stays;
      keeps = keeps_first g.D.Disk.says g.met.D.Disk.only_now node.archive;
      contents_count = omega arith;
      journal_count = omega arith;
      archive_count = omega arith;
    }

pub next_changes-requires : goal.next_changes-requires
next_changes-requires g c =
    let taken = c.loop-changes.invariant.taken.1.1 in
    let place = taken.are.place in
    omega (arith, place, c.requires.room, c.requires.at)

pub returns-in_err-changes-clause-cut_short : goal.returns-in_err-changes-clause-cut_short
returns-in_err-changes-clause-cut_short g c =
    let says = g.D.Disk.says in
    let told = g.C.Contents.tells c.loop-changes.contents in
    let old = c.args.self.now in
    let mid = c.loop-changes.self in
    let feed = c.args.reader.now in
    let fault = c.in_err-changes.field-0.0 in
    let taken = c.loop-changes.invariant.taken in
    passed_fault (IsCutShort says told old mid feed) _ fault c.from_residual.ensures.1
    (cut_by_feed says told (Option (List Change)) old mid feed c.loop-changes.reader taken.0 fault taken.1.1 c.in_err-changes.ensures.only c.in_err-changes.ensures.bad)

-- ---- a group

pub take_group-requires-clause-is_group : goal.take_group-requires-clause-is_group
take_group-requires-clause-is_group g c =
    let has : HasTaken c.loop-changes.reader c.next_changes.new.reader (Some c.in-Some.changes) = subst (IsNextOf c.loop-changes.reader c.next_changes.new.reader) c.in-Some.is c.in_ok-changes.ensures.found in
    subst IsGroup (sym c.as_slice.ensures) has.0

pub take_group-requires-clause-end : goal.take_group-requires-clause-end
take_group-requires-clause-end g c =
    let mid = c.loop-changes.reader in
    let new = c.next_changes.new.reader in
    let node = c.loop-changes.self in
    let taken = c.loop-changes.invariant.taken.1.1 in
    let has : HasTaken mid new (Some c.in-Some.changes) = subst (IsNextOf mid new) c.in-Some.is c.in_ok-changes.ensures.found in
    let size : length (group_text mid.number c.in-Some.changes) ≡ length (group_text node.number c.as_slice.result.now) = λ i. length (group_text (sym taken.number i) (sym c.as_slice.ensures i)) in
    let at = taken.at in
    c.reached.ensures ∙ has.4 ∙ omega (arith, behind_group mid new c.in-Some.changes has, at, size)

pub take_group-requires-clause-room : goal.take_group-requires-clause-room
take_group-requires-clause-room g c =
    let mid = c.loop-changes.reader in
    let new = c.next_changes.new.reader in
    let taken = c.loop-changes.invariant.taken.1.1 in
    let has : HasTaken mid new (Some c.in-Some.changes) = subst (IsNextOf mid new) c.in-Some.is c.in_ok-changes.ensures.found in
    let before = taken.before in
    let place = taken.are.place in
    omega (arith, c.reached.ensures, has.2, has.4, before, place, c.requires.room, c.requires.at)

pub returns-in_err-take_group-clause-cut_short : goal.returns-in_err-take_group-clause-cut_short
returns-in_err-take_group-clause-cut_short g c =
    let says = g.D.Disk.says in
    let told = g.C.Contents.tells c.take_group.new.contents in
    let old = c.args.self.now in
    let mid = c.loop-changes.self in
    let left = c.loop-changes.reader in
    let behind = c.next_changes.new.reader in
    let fault = c.in_err-take_group.field-0.0 in
    let taken = c.loop-changes.invariant.taken in
    let found : HasTaken left behind (Some c.in-Some.changes) = subst (IsNextOf left behind) c.in-Some.is c.in_ok-changes.ensures.found in
    let has : HasTaken left behind (Some c.as_slice.result.now) = subst (λ (l : List Change). HasTaken left behind (Some l)) (sym c.as_slice.ensures) found in
    passed_fault (IsCutShort says told old c.take_group.new.self c.args.reader.now) _ fault c.from_residual-in_err-take_group.ensures.1
    (cut_by_group says told old mid c.take_group.new.self c.args.reader.now left behind taken.0 c.as_slice.result.now c.reached.result fault taken.1.1 has c.in_err-take_group.ensures.kept c.reached.ensures c.in_err-take_group.ensures.refused)

pub returns-in_err-take_group-clause-behind : goal.returns-in_err-take_group-clause-behind
returns-in_err-take_group-clause-behind g c = λ chronicle up told b stands.
    let says = g.D.Disk.says in
    let mid = c.loop-changes.self in
    let left = c.loop-changes.reader in
    let behind = c.next_changes.new.reader in
    let taken = c.loop-changes.invariant.taken.1.1 in
    let step = c.loop-changes.invariant.behind chronicle up told b stands in
    let found : HasTaken left behind (Some c.in-Some.changes) = subst (IsNextOf left behind) c.in-Some.is c.in_ok-changes.ensures.found in
    let has : HasTaken left behind (Some c.as_slice.result.now) = subst (λ (l : List Change). HasTaken left behind (Some l)) (sym c.as_slice.ensures) found in
    group_on says c.args.self.now mid c.take_group.new.self chronicle up (g.C.Contents.tells c.loop-changes.contents) (g.C.Contents.tells c.take_group.new.contents) b.is_node step.0 taken.generation c.take_group.ensures.keeps.used left behind c.as_slice.result.now c.reached.result
    has (sym taken.at) (sym taken.number) (c.reached.ensures ∙ has.4) step.1 c.take_group.ensures.behind

pub returns-in_err-take_group-clause-node : goal.returns-in_err-take_group-clause-node
returns-in_err-take_group-clause-node g c = λ chronicle n.
    let first = c.loop-changes.invariant.node chronicle n in
    let second = c.take_group.ensures.node first.now first.is_node in
    record { now = second.now; no_fewer = earlier_on (texts_of chronicle) (texts_of first.now) (texts_of second.now) first.no_fewer second.no_fewer; is_node = second.is_node }

pub overflow_add-count : goal.overflow_add-count
overflow_add-count g c =
    let taken = c.loop-changes.invariant.taken in
    let are = taken.1.1.are in
    omega (arith, taken.1.0, many_taken c.args.reader.now c.loop-changes.reader (rows_of c.args.self.now.tables) (rows_of c.loop-changes.self.tables) taken.0 are, c.requires.room)

pub loop-changes-preserved : goal.loop-changes-preserved
loop-changes-preserved g c =
    let says = g.D.Disk.says in
    let old = c.args.self.now in
    let mid = c.loop-changes.self in
    let new = c.take_group.new.self in
    let feed = c.args.reader.now in
    let left = c.loop-changes.reader in
    let behind = c.next_changes.new.reader in
    let inv = c.loop-changes.invariant in
    let taken = inv.taken in
    let changes = c.as_slice.result.now in
    let found : HasTaken left behind (Some c.in-Some.changes) = subst (IsNextOf left behind) c.in-Some.is c.in_ok-changes.ensures.found in
    let has : HasTaken left behind (Some changes) = subst (λ (l : List Change). HasTaken left behind (Some l)) (sym c.as_slice.ensures) found in
    record {
      can = c.take_group.ensures.can;
      settled = c.in_ok-take_group.ensures.settled;
      rest = c.take_group.ensures.rest;
      taken = (
        taken.0 ++ changes ∷ [],
        (
          omega (arith, taken.1.0, length-append taken.0 (changes ∷ [])),
          group_more old mid new feed left behind taken.0 changes c.reached.result taken.1.1 has c.in_ok-take_group.ensures.taken (c.reached.ensures ∙ has.4),
        ),
      );
      node = λ chronicle n.
          let first = inv.node chronicle n in
          let second = c.take_group.ensures.node first.now first.is_node in
          record { now = second.now; no_fewer = earlier_on (texts_of chronicle) (texts_of first.now) (texts_of second.now) first.no_fewer second.no_fewer; is_node = second.is_node };
      behind = λ chronicle up told b stands.
          let step = inv.behind chronicle up told b stands in (
            group_on says old mid new chronicle up (g.C.Contents.tells c.loop-changes.contents) (g.C.Contents.tells c.take_group.new.contents) b.is_node step.0 taken.1.1.generation c.take_group.ensures.keeps.used left behind changes c.reached.result
                has (sym taken.1.1.at) (sym taken.1.1.number) (c.reached.ensures ∙ has.4) step.1 c.take_group.ensures.behind,
            behind_stands (text_of up.texts (length chronicle.closed)) left behind changes has step.1,
          );
      reached = then inv.reached c.take_group.ensures.contents_reached;
      keeps = keeps_on says old.archive mid.archive new.archive inv.keeps c.take_group.ensures.keeps;
      contents_count = omega (arith, inv.contents_count, c.take_group.ensures.contents_cause.never_falls);
      journal_count = omega (arith, inv.journal_count, c.take_group.ensures.cause.journal_never_falls);
      archive_count = omega (arith, inv.archive_count, c.take_group.ensures.cause.archive_never_falls);
    }

pub loop-changes-smaller : goal.loop-changes-smaller
loop-changes-smaller g c =
    let left = c.loop-changes.reader in
    let behind = c.next_changes.new.reader in
    let found : HasTaken left behind (Some c.in-Some.changes) = subst (IsNextOf left behind) c.in-Some.is c.in_ok-changes.ensures.found in
    goes_down left behind c.in-Some.changes found

-- ---- no group more

pub returns-in_err-check_rest-clause-cut_short : goal.returns-in_err-check_rest-clause-cut_short
returns-in_err-check_rest-clause-cut_short g c =
    let says = g.D.Disk.says in
    let told = g.C.Contents.tells c.loop-changes.contents in
    let fault = c.in_err-check_rest.field-0.0 in
    let taken = c.loop-changes.invariant.taken in
    let found = subst (IsNextOf c.loop-changes.reader c.next_changes.new.reader) c.in_default.is c.in_ok-changes.ensures.found in
    passed_fault (IsCutShort says told c.args.self.now c.loop-changes.self c.args.reader.now) _ fault c.from_residual-in_err-check_rest.ensures.1
    (cut_by_rest says told (Unit {0}) c.args.self.now c.loop-changes.self c.args.reader.now c.loop-changes.reader taken.0 c.next_changes.new.reader.records c.next_changes.new.reader.reached fault
    taken.1.1 found.2 c.in_err-check_rest.ensures.only c.in_err-check_rest.ensures.bad)

pub returns-clause-taken : goal.returns-clause-taken
returns-clause-taken g c =
    let taken = c.loop-changes.invariant.taken in
    let found = subst (IsNextOf c.loop-changes.reader c.next_changes.new.reader) c.in_default.is c.in_ok-changes.ensures.found in
    (taken.0, (taken.1.0, groups_left c.args.self.now c.loop-changes.self c.args.reader.now c.loop-changes.reader c.next_changes.new.reader taken.0 taken.1.1 found.0))

pub returns-clause-waits : goal.returns-clause-waits
returns-clause-waits g c =
    let mid = c.loop-changes.reader in
    let new = c.next_changes.new.reader in
    let found = subst (IsNextOf mid new) c.in_default.is c.in_ok-changes.ensures.found in
    let same = found.0 in
    subst (λ (n : ℕ). GoesOn n new.left) (sym same.2) (subst (GoesOn mid.number) (sym same.0) found.1)

pub returns-clause-fit : goal.returns-clause-fit
returns-clause-fit g c =
    let mid = c.loop-changes.reader in
    let new = c.next_changes.new.reader in
    let rows = rows_of c.loop-changes.self.tables in
    let found = subst (IsNextOf mid new) c.in_default.is c.in_ok-changes.ensures.found in
    let same = found.0 in
    let read : HasRecords new.number new.at new.left new.records new.reached =
    subst (λ (n : ℕ). HasRecords n new.at new.left new.records new.reached) (sym same.2)
    (subst (λ (n : ℕ). HasRecords mid.number n new.left new.records new.reached) (sym same.1) (subst (λ (l : List ℕ). HasRecords mid.number mid.at l new.records new.reached) (sym same.0) found.2)) in
    all_good (AllFitIn rows) new.number new.at new.left new.records new.reached (fits_front rows) read c.in_ok-check_rest.ensures.fit

pub returns-in_err-changes-clause-contents_reached : goal.returns-in_err-changes-clause-contents_reached
returns-in_err-changes-clause-contents_reached g c = c.loop-changes.invariant.reached

pub returns-in_err-take_group-clause-contents_reached : goal.returns-in_err-take_group-clause-contents_reached
returns-in_err-take_group-clause-contents_reached g c = then c.loop-changes.invariant.reached c.take_group.ensures.contents_reached

pub returns-in_err-check_rest-clause-contents_reached : goal.returns-in_err-check_rest-clause-contents_reached
returns-in_err-check_rest-clause-contents_reached g c = c.loop-changes.invariant.reached

pub returns-clause-contents_reached : goal.returns-clause-contents_reached
returns-clause-contents_reached g c = c.loop-changes.invariant.reached

pub returns-in_err-changes-clause-keeps : goal.returns-in_err-changes-clause-keeps
returns-in_err-changes-clause-keeps g c = c.loop-changes.invariant.keeps

pub returns-in_err-take_group-clause-keeps : goal.returns-in_err-take_group-clause-keeps
returns-in_err-take_group-clause-keeps g c = keeps_on g.D.Disk.says c.args.self.now.archive c.loop-changes.self.archive c.take_group.new.self.archive c.loop-changes.invariant.keeps c.take_group.ensures.keeps

pub returns-in_err-check_rest-clause-keeps : goal.returns-in_err-check_rest-clause-keeps
returns-in_err-check_rest-clause-keeps g c = c.loop-changes.invariant.keeps

pub returns-clause-keeps : goal.returns-clause-keeps
returns-clause-keeps g c = c.loop-changes.invariant.keeps
