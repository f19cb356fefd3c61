use Rattle.std.proofs.Common.{◌≡◌, false, refl, sym, ap, ◌∙◌}
use Rattle.std.specs.Prelude.{filter, is_some}
use Rattle.std.specs.List.{list_any}
use Rattle.std.proofs.lemmas.Bool.{and_parts}
use Rattle.depot_rows.specs.depot_path.declared.revision.RevSpec.TheVariants.{Only}
use Rattle.depot_rows.specs.depot_path.declared.revision.Wanted.TheVariants.{One}
use Rattle.depot_rows.specs.depot_model.Arguments.{names, submitted}
use Rattle.depot_rows.specs.depot_model.Choice.{made_by}
use Rattle.depot_rows.specs.depot_model.Revisions.{revisions}
use Rattle.depot_rows.specs.depot_model.Steps.Changing.{files_of_change}
use Rattle.depot_rows.specs.depot_model.Steps.Listing.{chosen_revision}
use Rattle.named_files.specs.declared.listing.Listing.{Listing}
use Rattle.named_files.specs.Listed.{files_of}
use Rattle.named_files.specs.Sets.{is_listed}
use Rattle.named_files.proofs.ChosenMade.{chosen_made}
use Rattle.named_files.proofs.Naming.{placed_if_shown}
use Rattle.named_files.proofs.Sifting.{sifted}
use Rattle.named_files.proofs.chosen_files.ChosenFilesFileSet.candidates.Goals as goal

pub returns : goal.returns
returns c = λ d reads.
    let own = c.args.self.now in
    let argument = c.args.argument.now in
    let change = c.in-Only.change in
    let only : argument.spec.wanted ≡ One (Only change) = c.in-One.is ∙ ap One c.in-Only.is in
    let test = is_listed own.caller.now d argument in
    c.in_ok-made.ensures d reads.sound reads.has_rev test
    (λ path e. placed_if_shown d own.caller.now own.asker.now reads.asked argument.spec path
    (and_parts (names false d own.caller.now argument.spec path) (is_some (chosen_revision d own.caller.now argument path)) e).0)
    ∙ sifted (λ path. list_any (made_by change) (revisions d path)) test
    (λ path e. chosen_made d own.caller.now path argument.spec.wanted change only
    (and_parts (names false d own.caller.now argument.spec path) (is_some (chosen_revision d own.caller.now argument path)) e).1)
    (files_of_change d change) (submitted d) refl
    ∙ ap (λ (listing : Listing). filter test (files_of listing d)) (sym c.in-Submitted.is)

pub returns-2 : goal.returns-2
returns-2 c = λ d reads.
    let caller = c.args.self.now.caller.now in
    let argument = c.args.argument.now in
    c.in_ok-found.ensures.depot d reads.sound reads.listed (is_listed caller d argument) (λ path e.
    placed_if_shown d caller c.args.self.now.asker.now reads.asked argument.spec path
    (and_parts (names false d caller argument.spec path) (is_some (chosen_revision d caller argument path)) e).0)
