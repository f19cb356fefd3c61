use Rattle.std.proofs.Common.{◌≡◌, ◌+◌, ◌*◌, ◌-◌, ◌<◌, ◌^◌, ℕ, List, Option, Some, subst, sym, ap, ◌∙◌, arith}
use Rattle.outside_api.specs.Moments.{then, weaker}
use Rattle.depot_rows.specs.db_records.declared.change.Change.{Change}
use Rattle.depot_rows.specs.table_changes.Changed.{AllRows, AllFitIn, changed_by}
use Rattle.depot_rows.specs.table_changes.Drafts.{rows_of_draft}
use Rattle.recovery.specs.Damage.{IsJournalDamage}
use Rattle.recovery.specs.Faults.{SaysNothing}
use Rattle.recovery.specs.Pieces.{text_left, HasCome, IsBadPlace, IsFirst, IsTextDamage}
use Rattle.recovery.proofs.PassedOn.{passed_on, passed_damage, unless_anyway, unless_passed}
use Rattle.recovery.proofs.Journals.{next_fit, next_wanted, one_more, small_count, small_number}
use Rattle.recovery.proofs.GroupDamage.{journal_text, journal_misfit}
use Rattle.recovery.proofs.rows.read_journal.Goals as goal

pub returns-in_err-changes-clause-only : goal.returns-in_err-changes-clause-only
returns-in_err-changes-clause-only g c = λ files all read has fit.
    let inv = c.loop-groups.invariant in
    let groups = c.loop-groups.groups in
    let seen = g.D.Disk.says.seen c.args.disk.now in
    let file = 1 + 2 * c.args.generation in
    let old = rows_of_draft c.args.draft.now in
    let now = rows_of_draft c.loop-groups.draft in
    let short : groups.reader.at < 2 ^ 63 = omega (arith, groups.so_far, groups.short, groups.within) in
    passed_on _ c.in_err-changes.field-0.0 SaysNothing c.from_residual-in_err-changes.ensures.1
    (c.in_err-changes.ensures.only files (inv.reads.same.kept files read) (inv.so_far.text files read).0 (small_number seen file c.loop-groups.count groups old now inv.so_far short) (next_wanted seen file c.loop-groups.count groups old now inv.so_far files read all has))

pub returns-in_err-take_changes-clause-only : goal.returns-in_err-take_changes-clause-only
returns-in_err-take_changes-clause-only g c = λ files all read has fit.
    let inv = c.loop-groups.invariant in
    let groups = c.loop-groups.groups in
    let come : HasCome groups c.next_changes.new.groups (Some c.in-Some.changes) = subst (HasCome groups c.next_changes.new.groups) c.in-Some.is c.in_ok-changes.ensures.come in
    let first = c.in_ok-changes.ensures.text files (inv.reads.same.kept files read) (inv.so_far.text files read).0 in
    let is_first = subst (IsFirst groups.reader.number (text_left groups files) (text_left c.next_changes.new.groups files)) c.in-Some.is first.1 in
    passed_on _ c.in_err-take_changes.field-0.0 SaysNothing c.from_residual-in_err-take_changes.ensures.1 (
    c.in_err-take_changes.ensures.only
    (subst (λ (rows : AllRows). AllFitIn rows c.in-Some.changes) (sym c.in_ok-changes.ensures.draft)
    (next_fit (g.D.Disk.says.seen c.args.disk.now) (1 + 2 * c.args.generation) c.loop-groups.count groups (rows_of_draft c.args.draft.now) (rows_of_draft c.loop-groups.draft) inv.so_far c.next_changes.new.groups c.in-Some.changes come files read is_first all has fit)))

pub returns-in_err-changes-clause-damaged : goal.returns-in_err-changes-clause-damaged
returns-in_err-changes-clause-damaged g c = λ files read.
    let inv = c.loop-groups.invariant in
    let groups = c.loop-groups.groups in
    let now = rows_of_draft c.loop-groups.draft in
    let P : ℕ → Type 0 = λ place. (found : ℕ) × ((place ≡ found - groups.front) × IsTextDamage (AllFitIn now) groups.reader.number groups.reader.at (text_left groups files) found) in
    passed_damage (Option (List Change)) P (IsJournalDamage (rows_of_draft c.args.draft.now) (files (1 + 2 * c.args.generation))) _ c.in_err-changes.field-0.0 c.from_residual-in_err-changes.ensures.1 (c.in_err-changes.ensures.damaged files (inv.reads.same.kept files read) (inv.so_far.text files read).0) (λ place bad.
    journal_text (g.D.Disk.says.seen c.args.disk.now) (1 + 2 * c.args.generation) c.loop-groups.count groups (rows_of_draft c.args.draft.now) now inv.so_far inv.front files read bad.0 place bad.1.0 bad.1.1)

pub returns-in_err-take_changes-clause-damaged : goal.returns-in_err-take_changes-clause-damaged
returns-in_err-take_changes-clause-damaged g c = λ files read.
    let inv = c.loop-groups.invariant in
    let groups = c.loop-groups.groups in
    let now = rows_of_draft c.loop-groups.draft in
    let come : HasCome groups c.next_changes.new.groups (Some c.in-Some.changes) = subst (HasCome groups c.next_changes.new.groups) c.in-Some.is c.in_ok-changes.ensures.come in
    let first = c.in_ok-changes.ensures.text files (inv.reads.same.kept files read) (inv.so_far.text files read).0 in
    let is_first = subst (IsFirst groups.reader.number (text_left groups files) (text_left c.next_changes.new.groups files)) c.in-Some.is first.1 in
    passed_damage (Unit {0}) (IsBadPlace (AllFitIn (rows_of_draft c.next_changes.new.draft)) c.next_changes.new.groups c.in-Some.changes) (IsJournalDamage (rows_of_draft c.args.draft.now) (files (1 + 2 * c.args.generation))) _ c.in_err-take_changes.field-0.0 c.from_residual-in_err-take_changes.ensures.1 c.in_err-take_changes.ensures.damaged (λ place bad.
    journal_misfit (g.D.Disk.says.seen c.args.disk.now) (1 + 2 * c.args.generation) c.loop-groups.count groups (rows_of_draft c.args.draft.now) now inv.so_far inv.front c.next_changes.new.groups c.in-Some.changes come c.in_ok-changes.ensures.file.1 files read is_first place
    (subst (λ (rows : AllRows). IsBadPlace (AllFitIn rows) c.next_changes.new.groups c.in-Some.changes place) c.in_ok-changes.ensures.draft bad))

pub overflow_add-count : goal.overflow_add-count
overflow_add-count g c =
    let groups = c.loop-groups.groups in
    let short : groups.reader.at < 2 ^ 63 = omega (arith, groups.so_far, groups.short, groups.within) in
    let few = small_count (g.D.Disk.says.seen c.args.disk.now) (1 + 2 * c.args.generation) c.loop-groups.count groups (rows_of_draft c.args.draft.now) (rows_of_draft c.loop-groups.draft) c.loop-groups.invariant.so_far short in
    omega (arith, few)

pub loop-groups-preserved : goal.loop-groups-preserved
loop-groups-preserved g c =
    let inv = c.loop-groups.invariant in
    let groups = c.loop-groups.groups in
    let come : HasCome groups c.next_changes.new.groups (Some c.in-Some.changes) = subst (HasCome groups c.next_changes.new.groups) c.in-Some.is c.in_ok-changes.ensures.come in
    let now = rows_of_draft c.loop-groups.draft in
    let same : rows_of_draft c.next_changes.new.draft ≡ now = c.in_ok-changes.ensures.draft in
    let reads = c.next_changes.ensures.reads in
    record {
      so_far = one_more (g.D.Disk.says.seen c.args.disk.now) (1 + 2 * c.args.generation) c.loop-groups.count groups (rows_of_draft c.args.draft.now) now inv.so_far c.next_changes.new.groups c.in-Some.changes come (rows_of_draft c.take_changes.new.draft)
          (subst (λ (rows : AllRows). AllFitIn rows c.in-Some.changes) same c.in_ok-take_changes.ensures.fit)
          (c.in_ok-take_changes.ensures.rows ∙ ap (λ (rows : AllRows). changed_by rows c.in-Some.changes) same)
          c.in_ok-changes.ensures.file.0
          (λ files read.
          let first = c.in_ok-changes.ensures.text files (inv.reads.same.kept files read) (inv.so_far.text files read).0 in
          (first.0, subst (IsFirst groups.reader.number (text_left groups files) (text_left c.next_changes.new.groups files)) c.in-Some.is first.1));
      front = c.in_ok-changes.ensures.file.1 ∙ inv.front;
      reads = record {
        same = record { kept = λ f read. reads.same.kept f (inv.reads.same.kept f read); no_more = λ f read. inv.reads.same.no_more f (reads.same.no_more f read) };
        no_more = λ f left. inv.reads.no_more f (reads.no_more f left);
        any_moment = then g.D.Disk.says c.args.disk.now c.loop-groups.disk c.next_changes.new.disk (g.D.Disk.says.may_leave c.args.disk.now) inv.reads.any_moment (weaker g.D.Disk.says c.loop-groups.disk c.next_changes.new.disk (g.D.Disk.says.may_leave c.loop-groups.disk) (g.D.Disk.says.may_leave c.args.disk.now) inv.reads.no_more reads.any_moment);
      };
      faults = c.in_ok-changes.ensures.unfailed ∙ inv.faults;
    }

pub returns-in_err-groups-clause-unfailed : goal.returns-in_err-groups-clause-unfailed
returns-in_err-groups-clause-unfailed g c = unless_passed c.from_residual.result c.in_err-groups.field-0.0 _ c.from_residual.ensures.1 (λ other. c.in_err-groups.ensures.unfailed other)

pub returns-in_err-changes-clause-unfailed : goal.returns-in_err-changes-clause-unfailed
returns-in_err-changes-clause-unfailed g c = unless_passed c.from_residual-in_err-changes.result c.in_err-changes.field-0.0 _ c.from_residual-in_err-changes.ensures.1 (λ other. c.in_err-changes.ensures.unfailed other ∙ c.loop-groups.invariant.faults)

pub returns-in_err-take_changes-clause-unfailed : goal.returns-in_err-take_changes-clause-unfailed
returns-in_err-take_changes-clause-unfailed g c = unless_anyway c.from_residual-in_err-take_changes.result _ (c.in_ok-changes.ensures.unfailed ∙ c.loop-groups.invariant.faults)
