use Rattle.std.proofs.Common.{◌≡◌, ◌-◌, ℕ, List, length, sym, ap, subst, ◌∙◌, arith}
use Rattle.record_text.specs.Answers.{Fails}
use Rattle.record_text.specs.Reading.{Done}
use Rattle.journal_groups.specs.Reader.{State}
use Rattle.journal_groups.specs.Reading.{head_at, FailsAt}
use Rattle.journal_groups.specs.declared.fault.GroupFault.{GroupFault}
use Rattle.journal_groups.proofs.Inside.{inside_head, head_suffix, within_of, fails_at}
use Rattle.journal_groups.proofs.Taken.{head_taken, passed}
use Rattle.journal_groups.proofs.reader.GroupReader.take_head.Goals as goal

pub overflow_sub-length : goal.overflow_sub-length
overflow_sub-length c =
    let within = (head_suffix c.self.inside.number c.left.result.now c.in-Ok.size c.in-Ok.rest.now c.in-Ok.ensures).0 in
    omega (arith, within, ap length c.left.ensures, ap length c.left-in-Ok.ensures)

pub fault-requires : goal.fault-requires
fault-requires c =
    let old = c.args.self.now in
    let number : c.self.inside.number ≡ old.number = ap (λ (s : State). s.number) c.self.view_is in
    let failed = subst (λ (n : ℕ). Fails c.in-Err.fault (head_at n old.left)) number (subst (λ (l : List ℕ). Fails c.in-Err.fault (head_at c.self.inside.number l)) c.left.ensures c.in-Err.ensures) in
    within_of old.left (head_at old.number old.left) c.in-Err.fault (inside_head old.number old.left) failed

pub returns-in-Ok-clause-taken : goal.returns-in-Ok-clause-taken
returns-in-Ok-clause-taken c =
    let old = c.args.self.now in
    let rest = c.in-Ok.rest.now in
    let number : c.self.inside.number ≡ old.number = ap (λ (s : State). s.number) c.self.view_is in
    let read = subst (λ (n : ℕ). head_at n old.left ≡ Done c.in-Ok.size rest) number (subst (λ (l : List ℕ). head_at c.self.inside.number l ≡ Done c.in-Ok.size rest) c.left.ensures c.in-Ok.ensures) in
    let suffix = head_suffix old.number old.left c.in-Ok.size rest read in
    let same : length c.left-in-Ok.result.now - length rest ≡ length old.left - length rest = ap (λ (l : List ℕ). length l - length rest) c.left-in-Ok.ensures in
    head_taken old c.pass.new.self c.in-Ok.size (length old.left - length rest) rest read (omega arith) suffix.1 (c.pass.ensures ∙ ap (passed old) same)

pub returns-in-Err-clause-failed : goal.returns-in-Err-clause-failed
returns-in-Err-clause-failed c =
    let old = c.args.self.now in
    let number : c.self.inside.number ≡ old.number = ap (λ (s : State). s.number) c.self.view_is in
    let failed = subst (λ (n : ℕ). Fails c.in-Err.fault (head_at n old.left)) number (subst (λ (l : List ℕ). Fails c.in-Err.fault (head_at c.self.inside.number l)) c.left.ensures c.in-Err.ensures) in
    subst (λ (f : GroupFault). FailsAt old.at old.left f (head_at old.number old.left)) (sym c.fault.ensures) (fails_at old.at old.left (head_at old.number old.left) c.in-Err.fault (inside_head old.number old.left) failed)
