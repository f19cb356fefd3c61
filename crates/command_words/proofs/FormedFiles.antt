-- What each form with files gives is well-formed.
use Rattle.command_words.specs.FileForms as spec
use Rattle.command_words.specs.Options.{Invocation}
use Rattle.command_words.specs.WellFormed.{IsWellFormed}
use Rattle.command_words.specs.declared.table.FileForm.{FileForm}
use Rattle.command_words.specs.declared.table.FileForm.TheVariants as forms
use Rattle.command_words.proofs.Giving.{Gives}
use Rattle.command_words.proofs.Formed.{steps}

pub file_form : (form : FileForm) (words : Invocation) → Gives IsWellFormed (spec.file_command form words)
file_form forms.Where words = search steps
file_form _ words = search steps depth 7
