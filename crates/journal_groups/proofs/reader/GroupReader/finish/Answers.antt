use Rattle.std.proofs.Common.{◌≡◌, ℕ, ◌+◌, ◌-◌, ◌≤◌, List, Some, length, drop, sym, ap, subst, ◌∙◌, arith, length-drop}
use Rattle.std.proofs.lemmas.List.{drop-drop}
use Rattle.record_text.specs.Reading.{Done}
use Rattle.journal_groups.specs.Reader.{State, HasReadMore, HasRecords, IfOfBytes, IfOfText}
use Rattle.journal_groups.specs.declared.fault.GroupFault.{GroupFault}
use Rattle.journal_groups.specs.Reading.{next_at, placed, IsWithin, FailsAt}
use Rattle.journal_groups.proofs.Inside.{inside_next, within_of, fails_at}
use Rattle.journal_groups.proofs.Whole.{next_whole}
use Rattle.journal_groups.proofs.Records.{failed, of_text}
use Rattle.journal_groups.proofs.reader.GroupReader.finish.Goals as goal

pub fault-requires : goal.fault-requires
fault-requires c =
    let old = c.args.self.now in
    let e = failed old.number old.at old.left c.left.result.now c.args.part c.read_all.new.self c.in-Err.fault c.requires c.left.ensures c.in-Err.ensures in
    let left_is : drop c.self.inside.taken c.self.inside.bytes ≡ old.left = ap (λ (s : State). s.left) c.self.view_is in
    subst (λ (l : List ℕ). IsWithin (length l) c.in-Err.fault) (sym left_is) (within_of old.left (next_at old.number old.left) c.in-Err.fault (inside_next old.number old.left) e.fails)

pub returns-in-Ok : goal.returns-in-Ok
returns-in-Ok c =
    let old = c.args.self.now in
    let new = c.read_all.new.self in
    let inside = c.self.inside in
    let more = subst (λ (t : List ℕ). HasReadMore t c.args.part new) c.left.ensures c.in-Ok.ensures.1 in
    let whole = next_whole old.number old.left c.args.part new c.requires c.in-Ok.ensures.0 more in
    let within : new.read ≤ length old.left = more.within in
    let taken : inside.taken ≤ length inside.bytes = c.self.invariant.0 in
    let l : length (drop inside.taken inside.bytes) ≡ length inside.bytes - inside.taken = length-drop inside.taken inside.bytes in
    let left_is : drop inside.taken inside.bytes ≡ old.left = ap (λ (s : State). s.left) c.self.view_is in
    let at_is : inside.at ≡ old.at = ap (λ (s : State). s.at) c.self.view_is in
    let number_is : inside.number ≡ old.number = ap (λ (s : State). s.number) c.self.view_is in
    let left_now : c.left-in-Ok.result.now ≡ old.left = c.left-in-Ok.ensures in
    let n : length c.left-in-Ok.result.now ≡ length old.left = ap length left_now in
    let m : length (drop inside.taken inside.bytes) ≡ length old.left = ap length left_is in
    let all : c.len.result ≡ length inside.bytes = c.len.ensures in
    let place : inside.taken + new.read ≡ c.len.result - (length c.left-in-Ok.result.now - new.read) = omega arith in
    let behind : drop new.read old.left ≡ drop (c.len.result - (length c.left-in-Ok.result.now - new.read)) inside.bytes = ap (drop new.read) (sym left_is) ∙ drop-drop new.read inside.taken inside.bytes ∙ ap (λ (k : ℕ). drop k inside.bytes) place in
    let b : length (drop new.read old.left) ≡ length old.left - new.read = length-drop new.read old.left in
    let s : length (drop (c.len.result - (length c.left-in-Ok.result.now - new.read)) inside.bytes) ≡ length old.left - new.read = sym (ap length behind) ∙ b in
    (whole ∙ ap (λ (t : List ℕ). Done (Some new.changes) t) behind, omega arith, ap (λ (k : ℕ). k + 1) number_is, omega arith)

pub returns-in-Err : goal.returns-in-Err
returns-in-Err c =
    let old = c.args.self.now in
    let body = c.read_all.new.self in
    let fault = c.in-Err.fault in
    let inside = c.self.inside in
    let e = failed old.number old.at old.left c.left.result.now c.args.part body fault c.requires c.left.ensures c.in-Err.ensures in
    let left_is : drop inside.taken inside.bytes ≡ old.left = ap (λ (s : State). s.left) c.self.view_is in
    let at_is : inside.at ≡ old.at = ap (λ (s : State). s.at) c.self.view_is in
    let Has : ℕ → Type 0 = λ at. HasRecords old.number old.at old.left body.changes (at + body.read) in
    let is : c.fault.result ≡ placed old.at (length old.left) fault = subst (λ (s : State). c.fault.result ≡ placed s.at (length s.left) fault) c.self.view_is c.fault.ensures in (
      (left_is, at_is, ap (λ (s : State). s.number) c.self.view_is),
      subst (λ (f : GroupFault). FailsAt old.at old.left f (next_at old.number old.left)) (sym is) (fails_at old.at old.left (next_at old.number old.left) fault (inside_next old.number old.left) e.fails),
      subst (λ (f : GroupFault). IfOfText f (Has inside.at)) (sym is) (of_text old.at (length old.left) fault (Has inside.at) (subst (λ (n : ℕ). IfOfBytes fault (Has n)) (sym at_is) e.records)),
    )
