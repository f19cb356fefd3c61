use Rattle.std.proofs.Common.{[], length, Result}
use Rattle.depot_path.specs.Answers.{Answers}
use Rattle.depot_model.specs.declared.request.WordFault.{WordFault}
use Rattle.depot_model.specs.declared.request.WordFault.TheVariants.{Memory}
use Rattle.command_words.specs.Options as spec
use Rattle.command_words.proofs.options.invocation_of.Given as goal

-- what answers for the words that are left answers for all
abbrev pub invariant-loop-option : goal.invariant-loop-option
invariant-loop-option l =
    (answer : Result spec.Invocation WordFault) →
    Answers Memory answer (spec.parted l.command (spec.Ready (spec.seen_options l.options.items)) l.arguments) →
    Answers Memory answer (spec.parted l.command (spec.Ready []) l.words)

abbrev pub decreases-loop-option : goal.decreases-loop-option
decreases-loop-option l = length l.arguments
