use Rattle.std.proofs.Common.{ap, sym, ◌∙◌}
use Rattle.std.specs.Option.{option_to_list}
use Rattle.depot_rows.specs.depot_model.Steps.Adding.{spelled}
use Rattle.depot_rows.specs.depot_model.WellFormed.{spells_path}
use Rattle.named_files.proofs.Spelled.{found_is, is_found}
use Rattle.command_parts.proofs.Refused.{none_found}
use Rattle.opened_files.proofs.Adds.{files_listed}
use Rattle.opened_files.proofs.adding.FilesToAddFileFinder.find.Goals as goal

pub returns-in_default : goal.returns-in_default
returns-in_default c = λ d spells reads.
    let argument = c.args.argument.now in
    absurd (is_found (spells_path argument) (spelled argument) spells (sym (none_found _ c.in_default.not-Some) ∙ c.in_ok-path.ensures))

pub returns : goal.returns
returns c = λ d spells reads.
    let caller = c.args.self.now.caller.now in
    let argument = c.args.argument.now in
    c.in_ok-files.ensures ∙ ap option_to_list (c.in_ok-file.ensures d reads.sound reads.revisions)
    ∙ files_listed d caller c.args.self.now.asker.now argument c.in-Some.path reads.asked
    (found_is (spells_path argument) c.in-Some.path (spelled argument) (sym c.in-Some.is ∙ c.in_ok-path.ensures))
