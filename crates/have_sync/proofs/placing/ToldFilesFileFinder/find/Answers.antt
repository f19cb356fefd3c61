use Rattle.std.proofs.Common.{List, ℕ, ap, sym, ◌∙◌}
use Rattle.std.specs.Prelude.{filter}
use Rattle.depot_rows.specs.depot_model.Steps.Adding.{spelled}
use Rattle.depot_rows.specs.depot_model.WellFormed.{spells_path}
use Rattle.have_sync.specs.Placing.{is_told}
use Rattle.named_files.proofs.Spelled.{found_is, is_found}
use Rattle.have_sync.proofs.Told.{told_is}
use Rattle.have_sync.proofs.placing.ToldFilesFileFinder.find.Goals as goal

pub returns-in_ok-told-in-Some : goal.returns-in_ok-told-in-Some
returns-in_ok-told-in-Some c = λ d spells asked.
    let caller = c.args.self.now.caller.now in
    let asker = c.args.self.now.asker.now in
    let argument = c.args.argument.now in
    c.in_ok-told-in-Some.ensures ∙ ap (λ (x : List (List ℕ)). filter (is_told asker) x) c.in_ok-files-in-Some.ensures
    ∙ told_is d caller asker argument c.in-Some.path asked (found_is (spells_path argument) c.in-Some.path (spelled argument) (sym c.in-Some.is ∙ c.in_ok-spelled.ensures))

pub returns-in-None : goal.returns-in-None
returns-in-None c = λ d spells asked.
    let argument = c.args.argument.now in
    absurd (is_found (spells_path argument) (spelled argument) spells (sym c.in-None.is ∙ c.in_ok-spelled.ensures))
