use Rattle.std.proofs.Common.{Option, sym, ap, ◌∙◌}
use Rattle.std.specs.Prelude.{option_map}
use Rattle.depot_rows.specs.depot_model.declared.refusal.Refusal.{Refusal}
use Rattle.depot_rows.specs.depot_model.Refusals.{refusal_row}
use Rattle.depot_rows.specs.Deed.{opening_of}
use Rattle.reply_rows.specs.Refusing.{first_of}
use Rattle.submit_core.specs.Refusals.{later_refusals, sooner_refusals}
use Rattle.submit_core.proofs.Refusing.{first_on, row_first, row_second}
use Rattle.submit_core.proofs.refusals.file_refusal.Goals as goal

pub returns-then-is_some : goal.returns-then-is_some
returns-then-is_some c = λ d request reads is.
    let o = opening_of c.args.opening.now in
    row_first c.in_ok-sooner.sooner (first_of (sooner_refusals d request o)) (first_of (later_refusals d request o)) (sym c.is_some.ensures ∙ c.if-is_some.true)
    (c.in_ok-sooner.ensures d request reads.sound reads.asked reads.workings reads.revisions)
    ∙ ap (λ (x : Option Refusal). option_map refusal_row x) (sym (first_on (sooner_refusals d request o) (later_refusals d request o)))

pub returns : goal.returns
returns c = λ d request reads is.
    let o = opening_of c.args.opening.now in
    row_second c.in_ok-sooner.sooner c.in_ok-later.later (first_of (sooner_refusals d request o)) (first_of (later_refusals d request o)) (sym c.is_some.ensures ∙ c.if-is_some.false)
    (c.in_ok-sooner.ensures d request reads.sound reads.asked reads.workings reads.revisions) (c.in_ok-later.ensures d request reads is)
    ∙ ap (λ (x : Option Refusal). option_map refusal_row x) (sym (first_on (sooner_refusals d request o) (later_refusals d request o)))
