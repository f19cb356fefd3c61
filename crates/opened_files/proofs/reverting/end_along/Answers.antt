use Rattle.std.proofs.Common.{◌≡◌, Bool, None, sym, ap, ◌∙◌}
use Rattle.std.specs.Prelude.{if◌then◌else◌}
use Rattle.depot_rows.specs.protect_table.Rights.{may}
use Rattle.depot_rows.specs.depot_model.Asking.{may_at}
use Rattle.opened_files.specs.Partners.{partner_path}
use Rattle.opened_files.proofs.Reverts.{ends_are}
use Rattle.opened_files.proofs.reverting.end_along.Goals as goal

pub returns : goal.returns
returns c = λ d reads.
    let caller = c.args.caller.now in
    let path = c.args.path.now in
    let may_is : c.may.result ≡ may_at d caller path 3 = c.may.ensures ∙ (λ i. may (reads.asked.protects i) (reads.asked.who i) path 3) in
    ends_are d caller path c.may.result c.in_ok-other.other may_is
    (c.in_ok-other.ensures d reads.sound reads.listed ∙ sym (ap (λ (m : Bool). if m then partner_path d caller.client path else None) c.if-not-may.false))

pub returns-then-not-may : goal.returns-then-not-may
returns-then-not-may c = λ d reads.
    let caller = c.args.caller.now in
    let path = c.args.path.now in
    let may_is : c.may.result ≡ may_at d caller path 3 = c.may.ensures ∙ (λ i. may (reads.asked.protects i) (reads.asked.who i) path 3) in
    ends_are d caller path c.may.result None may_is (sym (ap (λ (m : Bool). if m then partner_path d caller.client path else None) c.if-not-may.true))
