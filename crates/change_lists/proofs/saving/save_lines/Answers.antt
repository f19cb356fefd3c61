use Rattle.std.proofs.Common.{ℕ, List, ◌++◌, Option, Some, sym, ap, subst, ◌∙◌}
use Rattle.std.specs.Prelude.{option_map, map}
use Rattle.std.specs.List.{join_with_byte}
use Rattle.depot_rows.specs.table_changes.Changed.{rows_of}
use Rattle.depot_rows.specs.depot_model.declared.refusal.Refusal.{Refusal}
use Rattle.depot_rows.specs.depot_model.declared.reply.Row.{Row}
use Rattle.depot_rows.specs.depot_model.declared.refusal.Refusal.TheVariants.{BadForm}
use Rattle.depot_rows.specs.depot_model.Refusals.{refusal_row}
use Rattle.depot_rows.specs.depot_model.Step.{Step as ModelStep, unless}
use Rattle.depot_rows.specs.depot_model.Steps.Changing.{listed_path}
use Rattle.reply_rows.specs.Made.{IsMade}
use Rattle.command_parts.proofs.Refused.{granted_made, refused_made}
use Rattle.change_lists.specs.Lines.{first_bad}
use Rattle.change_lists.specs.Saving.{file_refusals, with_limits}
use Rattle.change_lists.proofs.Saved.{behind, form_is, front, front_is, line_refusal}
use Rattle.change_lists.proofs.saving.save_lines.Goals as goal

pub returns-in_ok-step-in-Some : goal.returns-in_ok-step-in-Some
returns-in_ok-step-in-Some c = λ d sound has_counter has_change has_working numbered.
    let all = rows_of c.args.tables.now in
    let request = c.args.request.now in
    let input = c.args.input.now in
    let form = c.args.form.now in
    let step = c.in_ok-step-in-Some.step in
    let bad = sym c.in-Some.is ∙ c.in_ok-bad.ensures.bad ∙ ap (first_bad 0) c.lines.ensures in
    let told =
    ap (λ (r : Row). let x : Option Row = Some r in x) (c.in_ok-row-in-Some.ensures ∙ ap (λ (n : ℕ). refusal_row (BadForm n)) c.line_place.ensures)
    ∙ ap (λ (k : Option ℕ). option_map refusal_row (option_map (line_refusal input) k)) bad
    ∙ ap (λ (o : Option Refusal). option_map refusal_row o) (sym (front_is input form numbered)) in
    subst (λ (m : ModelStep). IsMade all d d m step) (sym (form_is d request input form))
    (refused_made all d (front input form) (behind d request form) c.in_ok-row-in-Some.row step told c.in_ok-step-in-Some.ensures)

pub returns-in_ok-step-in-None : goal.returns-in_ok-step-in-None
returns-in_ok-step-in-None c = λ d sound has_counter has_change has_working numbered.
    let all = rows_of c.args.tables.now in
    let request = c.args.request.now in
    let input = c.args.input.now in
    let form = c.args.form.now in
    let step = c.in_ok-step-in-None.step in
    let bad = sym c.in-None.is ∙ c.in_ok-bad.ensures.bad ∙ ap (first_bad 0) c.lines.ensures in
    let none =
    ap (λ (k : Option ℕ). option_map refusal_row (option_map (line_refusal input) k)) bad
    ∙ ap (λ (o : Option Refusal). option_map refusal_row o) (sym (front_is input form numbered)) in
    let number = c.form_number-number.ensures numbered in
    let text = c.in_ok-text-in-None.ensures ∙ ap (λ (l : List (List ℕ)). join_with_byte 0x0A l) c.lines-in-None.ensures in
    let paths = c.as_slice.ensures ∙ c.in_ok-bad.ensures.paths c.in-None.is ∙ (λ i. c.new-paths.ensures i ++ map listed_path (c.lines.ensures i)) in
    subst (λ (m : ModelStep). IsMade all d d m step) (sym (form_is d request input form))
    (granted_made all d (front input form) (behind d request form) step none
    (subst (λ (m : ModelStep). IsMade all d d m step)
    (λ i. unless (file_refusals d request.caller (number i) (paths i)) (with_limits d request (number i) (text i) (paths i)))
    (c.in_ok-step-in-None.ensures d sound has_counter has_change has_working)))
