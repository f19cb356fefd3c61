-- What a line gives is well-formed.
use Rattle.std.proofs.Common.{◌≡◌, Bool, List, ℕ, [], ◌∷◌, codes, Ok}
use Rattle.depot_path.specs.Bytes.{same}
use Rattle.depot_model.specs.declared.command.Command.{Command}
use Rattle.depot_model.specs.declared.line.Line.{Line}
use Rattle.depot_model.specs.declared.line.Line.TheVariants.{Words, Bad}
use Rattle.command_words.specs.Choice.{form_of}
use Rattle.command_words.specs.Options.{Invocation, invocation_of}
use Rattle.command_words.specs.Reading as spec
use Rattle.command_words.specs.Table.{table, is_command}
use Rattle.command_words.specs.WellFormed.{IsWellFormed}
use Rattle.command_words.specs.declared.table.Form.{Form}
use Rattle.command_words.specs.declared.table.Form.TheVariants as forms
use Rattle.command_words.proofs.Giving.{Gives, refused, after_any, taken_where, is_given}
use Rattle.command_words.proofs.FormedFiles.{file_form}
use Rattle.command_words.proofs.FormedWords.{bare_form, word_form}

each_form : (form : Form) (words : Invocation) → Gives IsWellFormed (spec.form_command form words)
each_form (forms.Bare form) words = bare_form form words
each_form (forms.Files form) words = file_form form words
each_form (forms.Words form) words = word_form form words

known : (command : List ℕ) (rest : List (List ℕ)) (has_input : Bool) → Gives IsWellFormed (spec.known_command command rest has_input)
known command rest has_input =
    after_any _ (invocation_of command rest) _ (λ words. after_any _ (form_of command words.options has_input) _ (λ form. each_form form words))

words_give : (words : List (List ℕ)) (has_input : Bool) → Gives IsWellFormed (spec.command_of_words words has_input)
words_give [] has_input = refused _ _
words_give (command ∷ rest) has_input = taken_where _ (is_command table command) (spec.known_command command rest has_input) _ (λ h. known command rest has_input)

line_gives : (line : List (List ℕ)) (has_input : Bool) → Gives IsWellFormed (spec.command_of_line line has_input)
line_gives [] has_input = refused _ _
line_gives (program ∷ words) has_input = taken_where _ (same program (codes "p4")) (spec.command_of_words words has_input) _ (λ h. words_give words has_input)

pub each_line : (line : Line) (has_input : Bool) → Gives IsWellFormed (spec.command_of line has_input)
each_line (Words words) has_input = line_gives words has_input
each_line Bad has_input = refused _ _

pub is_formed : (line : Line) (has_input : Bool) (command : Command) → spec.command_of line has_input ≡ Ok command → IsWellFormed command
is_formed line has_input command h = is_given IsWellFormed (spec.command_of line has_input) command h (each_line line has_input)
