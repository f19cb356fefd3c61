use Rattle.std.proofs.Common.{◌≡◌, ◌≤◌, ◌<◌, ℕ, List, length, drop, sym, subst}
use Rattle.record_text.specs.Answers.{Fails}
use Rattle.record_text.specs.Reading.{Done}
use Rattle.journal_groups.specs.Reading.{window_at, FailsAt}
use Rattle.journal_groups.specs.declared.fault.GroupFault.{GroupFault}
use Rattle.journal_groups.proofs.Inside.{inside_window, within_of, fails_at}
use Rattle.journal_groups.proofs.Taken.{record_taken}
use Rattle.journal_groups.proofs.reader.GroupReader.take_record.Goals as goal

pub fault-requires : goal.fault-requires
fault-requires c =
    let old = c.args.self.now in
    let failed = subst (λ (l : List ℕ). Fails c.in-Err.fault (window_at c.args.size l)) c.left.ensures c.in-Err.ensures.exact in
    within_of old.left (window_at c.args.size old.left) c.in-Err.fault (inside_window c.args.size old.left) failed

pub returns-in-Ok-clause-taken : goal.returns-in-Ok-clause-taken
returns-in-Ok-clause-taken c =
    let n = c.in-Ok.length in
    let read = subst (λ (l : List ℕ). window_at c.args.size l ≡ Done c.in-Ok.change (drop n l)) c.left.ensures c.in-Ok.ensures.exact in
    let within = subst (λ (l : List ℕ). (n ≤ length l) × (n ≤ c.args.size) × (0 < n)) c.left.ensures c.in-Ok.ensures.within in
    record_taken c.args.size c.args.self.now c.pass.new.self c.in-Ok.change n read within c.pass.ensures

pub returns-in-Err-clause-failed : goal.returns-in-Err-clause-failed
returns-in-Err-clause-failed c =
    let old = c.args.self.now in
    let failed = subst (λ (l : List ℕ). Fails c.in-Err.fault (window_at c.args.size l)) c.left.ensures c.in-Err.ensures.exact in
    subst (λ (f : GroupFault). FailsAt old.at old.left f (window_at c.args.size old.left)) (sym c.fault.ensures) (fails_at old.at old.left (window_at c.args.size old.left) c.in-Err.fault (inside_window c.args.size old.left) failed)
