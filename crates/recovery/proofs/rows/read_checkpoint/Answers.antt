use Rattle.std.proofs.Common.{◌≡◌, ◌+◌, ◌*◌, ◌-◌, ◌<◌, ◌^◌, ℕ, List, ◌++◌, Err, length, subst, sym, ap, ◌∙◌, arith}
use Rattle.depot_rows.specs.table_changes.Drafts.{rows_of_draft}
use Rattle.depot_rows.specs.table_changes.declared.draft.TablesDraft.{TablesDraft}
use Rattle.journal_groups.specs.Groups.{group_text}
use Rattle.journal_groups.specs.Reading.{head_at}
use Rattle.recovery.specs.Damage.{IsCheckpointDamage}
use Rattle.recovery.specs.Faults.{IfDamaged, SaysNothing}
use Rattle.recovery.specs.Pieces.{IsStop}
use Rattle.recovery.specs.declared.fault.OpenFault.{OpenFault}
use Rattle.recovery.proofs.CheckpointDamage.{head_damage, never_damaged}
use Rattle.recovery.proofs.PassedOn.{passed_damage, passed_on, undamaged}
use Rattle.recovery.proofs.Taken.{checkpoint_alike, head_taken}
use Rattle.recovery.proofs.rows.read_checkpoint.Goals as goal

pub returns-in-Err-clause-only : goal.returns-in-Err-clause-only
returns-in-Err-clause-only g c = λ files puts read begins is.
    let groups = c.in_ok-groups.groups in
    let at = c.in_ok-groups.ensures.at in
    let file = files (2 + 2 * c.args.generation) in
    let opened = c.in_ok-groups.ensures.text files read in
    let small : groups.reader.number < 2 ^ 64 = omega (arith, at.3, c.requires.last) in
    let stop = rw c.in-Err.is at (c.in_ok-size.ensures.stopped files (c.open.ensures.reads.same.kept files read) opened.1) in
    let bad = head_damage groups.reader.number small groups.reader.at c.in-Err.place file at.2 (subst (λ (l : List ℕ). IsStop groups.reader.at l (head_at groups.reader.number) c.in-Err.place) (opened.0 ∙ ap (λ (l : List ℕ). l ++ file) c.new.ensures) stop) in
    absurd (never_damaged groups.reader.number c.in-Err.place file begins.behind puts small is (begins.is ∙ ap (λ (n : ℕ). group_text n puts ++ begins.behind) (sym at.3)) bad)

pub returns-in-Err-clause-damaged : goal.returns-in-Err-clause-damaged
returns-in-Err-clause-damaged g c = λ files read.
    let groups = c.in_ok-groups.groups in
    let at = c.in_ok-groups.ensures.at in
    let file = files (2 + 2 * c.args.generation) in
    let opened = c.in_ok-groups.ensures.text files read in
    let small : groups.reader.number < 2 ^ 64 = omega (arith, at.3, c.requires.last) in
    let stop = rw c.in-Err.is at (c.in_ok-size.ensures.stopped files (c.open.ensures.reads.same.kept files read) opened.1) in
    let bad = head_damage groups.reader.number small groups.reader.at c.in-Err.place file at.2 (subst (λ (l : List ℕ). IsStop groups.reader.at l (head_at groups.reader.number) c.in-Err.place) (opened.0 ∙ ap (λ (l : List ℕ). l ++ file) c.new.ensures) stop) in
    let P = IsCheckpointDamage c.args.generation file in
    let told = subst (λ (n : ℕ). IsCheckpointDamage n file c.in-Err.place) at.3 bad in
    let place : c.in-Err.place ≡ c.in-Err.place - c.next_head.new.self.front = omega (arith, c.next_head.ensures.file.1, at.1, ap length c.new.ensures) in
    subst (λ (fault : OpenFault). IfDamaged {X = TablesDraft} (Err fault) P) (sym c.damaged.ensures) (subst P place told)

pub put_all-requires-clause-taken : goal.put_all-requires-clause-taken
put_all-requires-clause-taken g c =
    let groups = c.in_ok-groups.groups in
    let at = c.in_ok-groups.ensures.at in
    let next = c.next_head.new.self in
    let seen = g.D.Disk.says.seen c.next_head.new.disk in
    let begun = head_taken seen c.args.generation c.in-Ok.size c.new.result groups next c.new.ensures at (rw c.in-Ok.is at c.in_ok-size.ensures.come) c.next_head.ensures.file (λ found there.
    let before = c.next_head.ensures.reads.same.no_more found there in
    let opened = c.in_ok-groups.ensures.text found (c.open.ensures.reads.same.no_more found before) in
    let text = rw c.in-Ok.is at (c.in_ok-size.ensures.text found before opened.1) in
    (text.0, sym (opened.0 ∙ ap (λ (l : List ℕ). l ++ found (2 + 2 * c.args.generation)) c.new.ensures) ∙ text.1)) in
    (c.args.generation, begun)

pub returns-in_err-put_all-clause-only : goal.returns-in_err-put_all-clause-only
returns-in_err-put_all-clause-only g c = λ files puts read begins is.
    let groups = c.in_ok-groups.groups in
    let at = c.in_ok-groups.ensures.at in
    let next = c.next_head.new.self in
    let seen = g.D.Disk.says.seen c.next_head.new.disk in
    let begun = head_taken seen c.args.generation c.in-Ok.size c.new.result groups next c.new.ensures at (rw c.in-Ok.is at c.in_ok-size.ensures.come) c.next_head.ensures.file (λ found there.
    let before = c.next_head.ensures.reads.same.no_more found there in
    let opened = c.in_ok-groups.ensures.text found (c.open.ensures.reads.same.no_more found before) in
    let text = rw c.in-Ok.is at (c.in_ok-size.ensures.text found before opened.1) in
    (text.0, sym (opened.0 ∙ ap (λ (l : List ℕ). l ++ found (2 + 2 * c.args.generation)) c.new.ensures) ∙ text.1)) in
    let file = files (2 + 2 * c.args.generation) in
    let fault = c.in_err-put_all.field-0.0 in
    let damaged = c.in_err-put_all.ensures.damaged c.args.generation begun c.requires.last files (c.next_head.ensures.reads.same.kept files (c.open.ensures.reads.same.kept files read)) in
    passed_on _ fault SaysNothing c.from_residual-in_err-put_all.ensures.1
    (undamaged {X = Unit {0}} (Err fault) next.file (IsCheckpointDamage c.args.generation file) c.in_err-put_all.ensures.fault damaged (λ place bad. never_damaged c.args.generation place file begins.behind puts (omega (arith, c.requires.last)) is begins.is bad))

pub returns-in_err-put_all-clause-damaged : goal.returns-in_err-put_all-clause-damaged
returns-in_err-put_all-clause-damaged g c = λ files read.
    let groups = c.in_ok-groups.groups in
    let at = c.in_ok-groups.ensures.at in
    let next = c.next_head.new.self in
    let seen = g.D.Disk.says.seen c.next_head.new.disk in
    let begun = head_taken seen c.args.generation c.in-Ok.size c.new.result groups next c.new.ensures at (rw c.in-Ok.is at c.in_ok-size.ensures.come) c.next_head.ensures.file (λ found there.
    let before = c.next_head.ensures.reads.same.no_more found there in
    let opened = c.in_ok-groups.ensures.text found (c.open.ensures.reads.same.no_more found before) in
    let text = rw c.in-Ok.is at (c.in_ok-size.ensures.text found before opened.1) in
    (text.0, sym (opened.0 ∙ ap (λ (l : List ℕ). l ++ found (2 + 2 * c.args.generation)) c.new.ensures) ∙ text.1)) in
    let P = IsCheckpointDamage c.args.generation (files (2 + 2 * c.args.generation)) in
    let damaged = c.in_err-put_all.ensures.damaged c.args.generation begun c.requires.last files (c.next_head.ensures.reads.same.kept files (c.open.ensures.reads.same.kept files read)) in
    passed_damage (Unit {0}) P P _ c.in_err-put_all.field-0.0 c.from_residual-in_err-put_all.ensures.1 damaged (λ place bad. bad)

pub returns-clause-rows : goal.returns-clause-rows
returns-clause-rows g c =
    let groups = c.in_ok-groups.groups in
    let at = c.in_ok-groups.ensures.at in
    let next = c.next_head.new.self in
    let seen = g.D.Disk.says.seen c.next_head.new.disk in
    let begun = head_taken seen c.args.generation c.in-Ok.size c.new.result groups next c.new.ensures at (rw c.in-Ok.is at c.in_ok-size.ensures.come) c.next_head.ensures.file (λ found there.
    let before = c.next_head.ensures.reads.same.no_more found there in
    let opened = c.in_ok-groups.ensures.text found (c.open.ensures.reads.same.no_more found before) in
    let text = rw c.in-Ok.is at (c.in_ok-size.ensures.text found before opened.1) in
    (text.0, sym (opened.0 ∙ ap (λ (l : List ℕ). l ++ found (2 + 2 * c.args.generation)) c.new.ensures) ∙ text.1)) in
    checkpoint_alike seen (g.D.Disk.says.seen c.args.disk.now) c.args.generation (rows_of_draft c.put_all.new.draft) (λ files read. c.next_head.ensures.reads.same.kept files (c.open.ensures.reads.same.kept files read)) (c.in_ok-put_all.ensures.rows c.args.generation begun)
