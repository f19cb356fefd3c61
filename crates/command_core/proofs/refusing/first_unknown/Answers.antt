use Rattle.std.proofs.Common.{sym, ap, ◌∙◌}
use Rattle.std.specs.Option.{option_copied, option_to_list}
use Rattle.depot_rows.specs.depot_model.declared.command.FileArgument.{FileArgument}
use Rattle.depot_rows.specs.depot_model.Common.{first_unknown, unknown_name}
use Rattle.command_core.proofs.Refusals.{unknown_here, unknown_later, unknown_nowhere}
use Rattle.command_core.proofs.refusing.first_unknown.Goals as goal

pub returns-in-Some : goal.returns-in-Some
returns-in-Some c = λ d has.
    let unknown = λ (a : FileArgument). unknown_name d a.spec.wanted in
    unknown_here unknown c.loop-rest.rest.now c.file-item.result c.in-Some.name.now c.in-len1-up.len_at_least c.file-item.is
    (ap (λ found. option_to_list (option_copied found)) (sym c.in-Some.is) ∙ c.in_ok-unknown.ensures d has)
    ∙ ap first_unknown (c.loop-rest.invariant d has)

pub loop-rest-preserved : goal.loop-rest-preserved
loop-rest-preserved c = λ d has.
    unknown_later (λ (a : FileArgument). unknown_name d a.spec.wanted) c.loop-rest.rest.now c.file-item.result c.in-len1-up.len_at_least c.file-item.is
    (ap (λ found. option_to_list (option_copied found)) (sym c.in_default-unknown.is) ∙ c.in_ok-unknown.ensures d has) ∙ c.loop-rest.invariant d has

pub returns : goal.returns
returns c = λ d has.
    unknown_nowhere (λ (a : FileArgument). unknown_name d a.spec.wanted) c.loop-rest.rest.now c.in_default.len_below ∙ ap first_unknown (c.loop-rest.invariant d has)
