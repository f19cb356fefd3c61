use Rattle.std.proofs.Common.{List, drop, Result}
use Rattle.depot_path.specs.Answers.{Answers}
use Rattle.depot_model.specs.declared.request.WordFault.{WordFault}
use Rattle.depot_model.specs.declared.request.WordFault.TheVariants.{Memory}
use Rattle.depot_model.specs.declared.command.FileArgument.{FileArgument}
use Rattle.command_words.specs.Arguments as spec
use Rattle.command_words.proofs.Each.{behind}
use Rattle.command_words.proofs.arguments.files.Given as goal

-- what answers for the words that are left answers for all
abbrev pub invariant-loop-word : goal.invariant-loop-word
invariant-loop-word l =
    (answer : Result (List FileArgument) WordFault) →
    Answers Memory answer (behind l.files (spec.files l.command l.takes (drop l.word-index l.words))) →
    Answers Memory answer (spec.files l.command l.takes l.words)
