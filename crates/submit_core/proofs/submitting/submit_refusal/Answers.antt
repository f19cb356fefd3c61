use Rattle.std.proofs.Common.{ℕ, map, length, sym, ap, ◌∙◌}
use Rattle.std.specs.Prelude.{flat_map, option_map}
use Rattle.depot_rows.specs.depot_model.Refusals.{refusal_row}
use Rattle.depot_rows.specs.depot_model.Steps.Submitting.{file_refusals}
use Rattle.depot_rows.specs.Deed.{opening_of}
use Rattle.reply_rows.specs.Refusing.{first_of}
use Rattle.submit_core.specs.Submitting.{front_refusals, last_refusals}
use Rattle.submit_core.proofs.Refusing.{first_part, second_part, third_part}
use Rattle.job_fixes.proofs.Steps.{map_length}
use Rattle.submit_core.proofs.submitting.submit_refusal.Goals as goal

pub returns-then-is_some : goal.returns-then-is_some
returns-then-is_some c = λ d request reads opened.
    let os = map opening_of c.args.openings.now in
    let n = c.args.change in
    let text = c.args.text.now in
    let count = map_length opening_of c.args.openings.now in
    first_part (front_refusals n text (length os)) (flat_map (file_refusals d request) os) (last_refusals c.args.number (length os)) c.in_ok-front.front
    (sym c.is_some.ensures ∙ c.if-is_some.true)
    (c.in_ok-front.ensures ∙ ap (λ (k : ℕ). option_map refusal_row (first_of (front_refusals n text k))) (sym count))

pub returns-then-is_some-2 : goal.returns-then-is_some-2
returns-then-is_some-2 c = λ d request reads opened.
    let os = map opening_of c.args.openings.now in
    let n = c.args.change in
    let text = c.args.text.now in
    let count = map_length opening_of c.args.openings.now in
    second_part (front_refusals n text (length os)) (flat_map (file_refusals d request) os) (last_refusals c.args.number (length os)) c.in_ok-front.front c.in_ok-files.files
    (sym c.is_some.ensures ∙ c.if-is_some.false)
    (c.in_ok-front.ensures ∙ ap (λ (k : ℕ). option_map refusal_row (first_of (front_refusals n text k))) (sym count))
    (sym c.is_some-2.ensures ∙ c.if-is_some-2.true) (c.in_ok-files.ensures d request reads opened)

pub returns : goal.returns
returns c = λ d request reads opened.
    let os = map opening_of c.args.openings.now in
    let n = c.args.change in
    let text = c.args.text.now in
    let count = map_length opening_of c.args.openings.now in
    third_part (front_refusals n text (length os)) (flat_map (file_refusals d request) os) (last_refusals c.args.number (length os)) c.in_ok-front.front c.in_ok-files.files c.in_ok-last.last
    (sym c.is_some.ensures ∙ c.if-is_some.false)
    (c.in_ok-front.ensures ∙ ap (λ (k : ℕ). option_map refusal_row (first_of (front_refusals n text k))) (sym count))
    (sym c.is_some-2.ensures ∙ c.if-is_some-2.false) (c.in_ok-files.ensures d request reads opened)
    (c.in_ok-last.ensures ∙ ap (λ (k : ℕ). option_map refusal_row (first_of (last_refusals c.args.number k))) (sym count))
