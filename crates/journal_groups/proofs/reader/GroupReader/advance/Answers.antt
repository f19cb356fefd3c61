use Rattle.std.proofs.Common.{◌≡◌, ℕ, List, length, sym, ap, ◌∙◌, subst}
use Rattle.journal_groups.specs.declared.fault.GroupFault.{GroupFault}
use Rattle.journal_groups.specs.Reader.{HasRecords, IfOfText}
use Rattle.journal_groups.specs.Reading.{next_at, placed, IsWithin, FailsAt}
use Rattle.journal_groups.proofs.Inside.{inside_next, within_of, fails_at}
use Rattle.journal_groups.proofs.Records.{none_records, of_text}
use Rattle.journal_groups.proofs.reader.GroupReader.advance.Goals as goal

pub fault-requires : goal.fault-requires
fault-requires c =
    let old = c.args.self.now in
    subst (λ (l : List ℕ). IsWithin (length l) c.in-Err.fault) (sym c.take_body.ensures.left.0)
    (within_of old.left (next_at old.number old.left) c.in-Err.fault (inside_next old.number old.left) c.in-Err.ensures.begun.0)

pub returns-in-Err-clause-next : goal.returns-in-Err-clause-next
returns-in-Err-clause-next c =
    let old = c.args.self.now in
    let new = c.take_body.new.self in
    let left = c.take_body.ensures.left in
    let fault = c.in-Err.fault in
    let failed = fails_at old.at old.left (next_at old.number old.left) fault (inside_next old.number old.left) c.in-Err.ensures.begun.0 in
    let has = none_records old.number old.at old.left new.records new.reached fault c.take_body.ensures.none.0 c.in-Err.ensures.begun.1 in
    let is : c.fault.result ≡ placed old.at (length old.left) fault = c.fault.ensures ∙ ap (λ (n : ℕ). placed n (length new.left) fault) left.1 ∙ ap (λ (l : List ℕ). placed old.at (length l) fault) left.0 in (
      left,
      subst (λ (f : GroupFault). FailsAt old.at old.left f (next_at old.number old.left)) (sym is) failed,
      subst (λ (f : GroupFault). IfOfText f (HasRecords old.number old.at old.left new.records new.reached)) (sym is) (of_text old.at (length old.left) fault (HasRecords old.number old.at old.left new.records new.reached) has),
    )
