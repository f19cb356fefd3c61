use Rattle.std.proofs.Common.{◌≡◌, inl, inr, ℕ, ◌+◌, List, ◌++◌, length, drop, sym, ap, subst, ◌∙◌, arith, append_assoc, length-drop}
use Rattle.journal_groups.specs.Groups.{head_of}
use Rattle.journal_groups.specs.Reading.{FailsAt, head_at}
use Rattle.journal_groups.specs.declared.fault.GroupFault.TheVariants.{BadGroup, Short}
use Rattle.recovery.proofs.PassedOn.{unless_passed}
use Rattle.recovery.proofs.pieces.FileGroups.next_head.Goals as goal

pub returns-in-Ok-clause-text : goal.returns-in-Ok-clause-text
returns-in-Ok-clause-text g c = λ files read knows.
    let so_far = c.loop-taken.invariant in
    let text = so_far.text files read knows in
    let rest = drop c.loop-taken.self.read (files c.loop-taken.self.file) in
    let head = subst (λ (n : ℕ). c.loop-taken.self.reader.left ≡ head_of n c.in-Ok.taken ++ c.take_head.new.self.left) so_far.number c.in-Ok.ensures.taken.text in
    (text.1, sym text.0 ∙ ap (λ (l : List ℕ). l ++ rest) head ∙ append_assoc (head_of c.args.self.now.reader.number c.in-Ok.taken) c.take_head.new.self.left rest)

pub returns-in-Ok-clause-come : goal.returns-in-Ok-clause-come
returns-in-Ok-clause-come g c =
    let so_far = c.loop-taken.invariant in
    let taken = c.in-Ok.ensures.taken in
    (taken.wide, taken.at ∙ ap (λ (n : ℕ). n + length (head_of c.loop-taken.self.reader.number c.in-Ok.taken)) so_far.at ∙ ap (λ (n : ℕ). c.args.self.now.reader.at + length (head_of n c.in-Ok.taken)) so_far.number)

pub returns-in-Err-BadGroup-clause-stopped : goal.returns-in-Err-BadGroup-clause-stopped
returns-in-Err-BadGroup-clause-stopped g c = λ files read knows.
    let so_far = c.loop-taken.invariant in
    let state = c.loop-taken.self.reader in
    let failed = rw c.in-Err-BadGroup.field-0-is at c.in-Err-BadGroup.ensures.failed in
    record {
      left = state.left;
      rest = drop c.loop-taken.self.read (files c.loop-taken.self.file);
      parts = sym (so_far.text files read knows).0;
      stops = inl (subst (λ (n : ℕ). FailsAt n state.left (BadGroup c.in-Err-BadGroup.place) (head_at c.args.self.now.reader.number state.left)) so_far.at (subst (λ (n : ℕ). FailsAt state.at state.left (BadGroup c.in-Err-BadGroup.place) (head_at n state.left)) so_far.number failed));
    }

pub returns-then-self-clause-stopped : goal.returns-then-self-clause-stopped
returns-then-self-clause-stopped g c = λ files read knows.
    let so_far = c.loop-taken.invariant in
    let text = so_far.text files read knows in
    let state = c.loop-taken.self.reader in
    let file = files c.loop-taken.self.file in
    let failed = rw c.in-Err-Short.field-0-is at c.in-Err-Short.ensures.failed in
    record {
      left = state.left;
      rest = drop c.loop-taken.self.read file;
      parts = sym text.0;
      stops = inr (subst (λ (n : ℕ). FailsAt n state.left (Short c.in-Err-Short.place) (head_at c.args.self.now.reader.number state.left)) so_far.at (subst (λ (n : ℕ). FailsAt state.at state.left (Short c.in-Err-Short.place) (head_at n state.left)) so_far.number failed), omega (arith, length-drop c.loop-taken.self.read file, text.1, c.if-self.true));
    }

pub returns-in_err-read_on-in-Err-Short-clause-unfailed : goal.returns-in_err-read_on-in-Err-Short-clause-unfailed
returns-in_err-read_on-in-Err-Short-clause-unfailed g c = unless_passed c.from_residual.result c.in_err-read_on-in-Err-Short.field-0.0 _ c.from_residual.ensures.1 (λ other. c.in_err-read_on-in-Err-Short.ensures.unfailed other ∙ c.loop-taken.invariant.faults)
