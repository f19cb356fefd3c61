use Rattle.std.proofs.Common.{◌≡◌, ℕ, false, ◌+◌, sym, subst, ◌∙◌, length}
use Rattle.std.specs.Prelude.{option_map, unwrap_or}
use Rattle.depot_rows.specs.table_changes.Changed.{rows_of}
use Rattle.depot_rows.specs.db_records.declared.key.Key.TheVariants as keys
use Rattle.depot_rows.specs.depot_model.Numbers.{top}
use Rattle.depot_rows.specs.depot_model.Records.{record_of}
use Rattle.depot_rows.specs.Effects.{is_submitted}
use Rattle.depot_rows.specs.depot_model.Refusals.{refusal_row}
use Rattle.reply_rows.specs.Made.{IsMade}
use Rattle.reply_rows.specs.Refusing.{first_of}
use Rattle.command_parts.proofs.Refused.{granted_made, refused_made}
use Rattle.change_lists.specs.Saving.{limit_refusals, saved_by}
use Rattle.change_lists.proofs.Saved.{small_number, unlanded}
use Rattle.change_lists.proofs.saving.save_within.Goals as goal

pub small-requires : goal.small-requires
small-requires c = small_number _ _ _ (sym c.in-None.is ∙ c.in_ok-refused.ensures)

pub returns-in_ok-step-in-Some : goal.returns-in_ok-step-in-Some
returns-in_ok-step-in-Some c = λ d sound has_counter has_working passed.
    let request = c.args.request.now in
    let text = c.args.text in
    let paths = c.args.paths.now in
    let n = unwrap_or c.args.number (top d + 1) in
    let change = c.in_ok-change.ensures d sound has_counter in
    refused_made (rows_of c.args.tables.now) d (limit_refusals (length text) n (length paths)) (saved_by d request text n paths) c.in-Some.row c.in_ok-step-in-Some.step
    (sym c.in-Some.is ∙ c.in_ok-refused.ensures ∙ (λ i. option_map refusal_row (first_of (limit_refusals (c.len.ensures i) (change i) (length paths)))))
    c.in_ok-step-in-Some.ensures

pub returns-in_ok-step-in-None : goal.returns-in_ok-step-in-None
returns-in_ok-step-in-None c = λ d sound has_counter has_working passed.
    let all = rows_of c.args.tables.now in
    let request = c.args.request.now in
    let text = c.args.text in
    let paths = c.args.paths.now in
    let number = c.args.number in
    let n = unwrap_or number (top d + 1) in
    let change = c.in_ok-change.ensures d sound has_counter in
    let small = c.small.ensures ∙ change in
    let P : ℕ → Type 0 = λ m. is_submitted (record_of d (keys.Change m)) ≡ false in
    granted_made all d (limit_refusals (length text) n (length paths)) (saved_by d request text n paths) c.in_ok-step-in-None.step
    (sym c.in-None.is ∙ c.in_ok-refused.ensures ∙ (λ i. option_map refusal_row (first_of (limit_refusals (c.len.ensures i) (change i) (length paths)))))
    (subst (λ (m : ℕ). IsMade all d d (saved_by d request text m paths) c.in_ok-step-in-None.step) small
    (c.in_ok-step-in-None.ensures d sound has_working (subst P (sym small) (unlanded d request.caller number paths sound passed))))
