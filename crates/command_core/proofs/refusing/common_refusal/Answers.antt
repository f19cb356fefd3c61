use Rattle.std.proofs.Common.{Some, sym, ap, ◌∙◌}
use Rattle.std.specs.Prelude.{codes, flat_map, not, option_map, ◌&&◌}
use Rattle.std.specs.Option.{option_copied}
use Rattle.depot_rows.specs.protect_table.Rights.{may_any}
use Rattle.depot_rows.specs.depot_model.declared.command.FileArgument.{FileArgument}
use Rattle.depot_rows.specs.depot_model.declared.refusal.Refusal.TheVariants.{Denied, NoClient, NoSuchLabel}
use Rattle.depot_rows.specs.depot_model.About.{about}
use Rattle.depot_rows.specs.depot_model.Asking.{may_anywhere, is_client}
use Rattle.depot_rows.specs.depot_model.Common.{asks_client, first_unknown, unknown_name}
use Rattle.depot_rows.specs.depot_model.Refusals.{refusal_row}
use Rattle.command_core.proofs.Refusals.{first_is}
use Rattle.command_core.proofs.refusing.common_refusal.Goals as goal

pub returns-in_ok-row-in-Some : goal.returns-in_ok-row-in-Some
returns-in_ok-row-in-Some c = λ d sound who protect domain.
    let caller = c.args.caller.now in
    let form = about c.args.command.now in
    let may = ap (may_anywhere d caller) (sym c.need_of-need.ensures) ∙ sym (c.may_any-may.ensures ∙ (λ i. may_any (c.protects_of.ensures.depot d sound protect i) (who i) c.need_of-need.result.0)) ∙ c.if-not-may.false in
    let lacks = sym (c.in_ok-lacks.ensures d domain) ∙ c.if-lacks.false in
    (λ i. Some (c.in_ok-row-in-Some.ensures i)) ∙ ap (option_map refusal_row) (ap (λ found. option_map (λ n. NoSuchLabel n) (option_copied found)) (sym c.in-Some.is) ∙ c.in_ok-unknown.ensures d domain
    ∙ ap (λ files. first_unknown (flat_map (λ (a : FileArgument). unknown_name d a.spec.wanted) files)) c.files_of.ensures
    ∙ sym (first_is (may_anywhere d caller form.need) (asks_client caller form && not (is_client d caller.client)) (Denied (codes "//...") form.need) (NoClient caller.client)
    (first_unknown (flat_map (λ (a : FileArgument). unknown_name d a.spec.wanted) form.files)) may lacks))

pub returns-in-None : goal.returns-in-None
returns-in-None c = λ d sound who protect domain.
    let caller = c.args.caller.now in
    let form = about c.args.command.now in
    let may = ap (may_anywhere d caller) (sym c.need_of-need.ensures) ∙ sym (c.may_any-may.ensures ∙ (λ i. may_any (c.protects_of.ensures.depot d sound protect i) (who i) c.need_of-need.result.0)) ∙ c.if-not-may.false in
    let lacks = sym (c.in_ok-lacks.ensures d domain) ∙ c.if-lacks.false in
    ap (option_map refusal_row) (ap (λ found. option_map (λ n. NoSuchLabel n) (option_copied found)) (sym c.in-None.is) ∙ c.in_ok-unknown.ensures d domain
    ∙ ap (λ files. first_unknown (flat_map (λ (a : FileArgument). unknown_name d a.spec.wanted) files)) c.files_of.ensures
    ∙ sym (first_is (may_anywhere d caller form.need) (asks_client caller form && not (is_client d caller.client)) (Denied (codes "//...") form.need) (NoClient caller.client)
    (first_unknown (flat_map (λ (a : FileArgument). unknown_name d a.spec.wanted) form.files)) may lacks))
