-- Each command that words give is spelled by the texts of its arguments.
use Rattle.std.proofs.Common.{◌≡◌, ℕ, ◌≤◌, Bool, true, false, List, [], ◌∷◌, Option, Some, None, Result, Ok, Err}
use Rattle.std.specs.Prelude.{codes, IfSome, if◌then◌else◌}
use Rattle.depot_rows.specs.depot_path.Answers.{◌>>=◌}
use Rattle.depot_rows.specs.depot_path.Bytes.{same}
use Rattle.depot_rows.specs.depot_model.declared.command.Command.{Command}
use Rattle.depot_rows.specs.depot_model.declared.command.Command.TheVariants as commands
use Rattle.depot_rows.specs.depot_model.declared.command.Labelling.TheVariants.{Exact, Adding, Removing}
use Rattle.depot_rows.specs.depot_model.declared.command.Taking.TheVariants.{Theirs, Yours}
use Rattle.depot_rows.specs.depot_model.declared.line.Line.{Line}
use Rattle.depot_rows.specs.depot_model.declared.line.Line.TheVariants.{Words, Bad}
use Rattle.depot_rows.specs.depot_model.declared.request.WordFault.{WordFault}
use Rattle.depot_rows.specs.depot_model.declared.request.WordFault.TheVariants.{BadUsage}
use Rattle.command_words.specs.Arguments as arguments
use Rattle.command_words.specs.Choice.{form_in, form_of, suits, input_fits}
use Rattle.command_words.specs.Fields as fields
use Rattle.command_words.specs.Options.{Given, Invocation, Ready, invocation_of, is_option}
use Rattle.command_words.specs.Reading.{form_command, known_command, command_of_words, command_of_line, command_of}
use Rattle.command_words.specs.Table.{Row, table, is_command}
use Rattle.command_words.specs.Values.{most_value, name, value, text}
use Rattle.command_words.specs.WordForms as forms
use Rattle.command_words.proofs.Giving.{Gives, gives, refused, after_it, after_any, given_where, taken_where, is_given}
use Rattle.grammar_laws.specs.CommandText.{AreJobs, IsSpelled}
use Rattle.std.proofs.lemmas.Bool.{not-true}
use Rattle.grammar_laws.proofs.Giving.{arguments_plain, one_value}
use Rattle.grammar_laws.proofs.OptionWords.{is_plain}
use Rattle.grammar_laws.proofs.SpelledFiles as files
use Rattle.grammar_laws.proofs.SpelledFiles.{spelled}

-- ---- forms of other words

nothing_asked : Unit {0}
nothing_asked = tt

counter_by : (command : List ℕ) (words : List (List ℕ)) → Gives IsSpelled (forms.counter_words command words)
counter_by command [] = refused _ _
counter_by command (word ∷ []) = after_any _ (name command word) _ (λ name. spelled (commands.CounterShow name) tt)
counter_by command (word ∷ given ∷ words) =
    after_any _ (forms.free_name command word) _ (λ name.
    after_it (λ n. n ≤ most_value) IsSpelled (arguments.exactly_one command (value command) (given ∷ words)) _ (one_value command (given ∷ words)) (λ n h. spelled (commands.CounterSet name n) h))

counter_spells : (words : Invocation) → Gives IsSpelled (forms.counter words)
counter_spells words = counter_by words.command words.arguments

counter_delete_spells : (words : Invocation) → Gives IsSpelled (forms.counter_delete words)
counter_delete_spells words = after_any _ (arguments.exactly_one words.command (forms.free_name words.command) words.arguments) _ (λ name. spelled (commands.CounterDelete name) tt)

client_show_spells : (words : Invocation) → Gives IsSpelled (forms.client_show words)
client_show_spells words = search (after_any, spelled, nothing_asked)

label_show_spells : (words : Invocation) → Gives IsSpelled (forms.label_show words)
label_show_spells words = search (after_any, spelled, nothing_asked)

group_show_spells : (words : Invocation) → Gives IsSpelled (forms.group_show words)
group_show_spells words = search (after_any, spelled, nothing_asked)

change_show_spells : (words : Invocation) → Gives IsSpelled (forms.change_show words)
change_show_spells words = search (after_any, spelled, nothing_asked)

change_delete_spells : (words : Invocation) → Gives IsSpelled (forms.change_delete words)
change_delete_spells words = search (after_any, spelled)

submit_change_spells : (words : Invocation) → Gives IsSpelled (forms.submit_change words)
submit_change_spells words = search (after_any, spelled)

submit_default_spells : (words : Invocation) → Gives IsSpelled (forms.submit_default words)
submit_default_spells words = search (after_any, spelled)

describe_spells : (words : Invocation) → Gives IsSpelled (forms.describe words)
describe_spells words = search (after_any, spelled)

describe_shelved_spells : (words : Invocation) → Gives IsSpelled (forms.describe_shelved words)
describe_shelved_spells words = search (after_any, spelled)

fixes_spells : (words : Invocation) → Gives IsSpelled (forms.fixes words)
fixes_spells words = search (after_any, spelled)

admin_by : (command : List ℕ) (words : List (List ℕ)) → Gives IsSpelled (forms.admin_words command words)
admin_by command [] = refused _ _
admin_by command (word ∷ rest) =
    taken_where _ (same word (codes "checkpoint")) _ (BadUsage command) (λ h. after_any _ (arguments.no_word command rest) _ (λ none. spelled commands.Checkpoint tt))

job_by : (command : List ℕ) (words : List (List ℕ)) → is_plain words ≡ true → Gives IsSpelled (arguments.at_most_one command (text command) words >>= (λ job. Ok (commands.JobShow job)))
job_by command [] plain = spelled (commands.JobShow None) tt
job_by command (word ∷ []) plain = spelled (commands.JobShow (Some word)) (not-true (is_option word) plain)
job_by command (word ∷ more ∷ words) plain = refused _ _

jobs_given : (command : List ℕ) (words : List (List ℕ)) → is_plain words ≡ true → Gives AreJobs (arguments.some_words command words)
jobs_given command [] plain = refused _ _
jobs_given command (word ∷ words) plain = gives AreJobs (word ∷ words) (not-true (is_option word) plain)

module _ (words : Invocation) (plain : is_plain words.arguments ≡ true) where
  jobs_then : (f : List (List ℕ) → Result Command WordFault) → ((jobs : List (List ℕ)) → AreJobs jobs → Gives IsSpelled (f jobs)) → Gives IsSpelled (arguments.some_words words.command words.arguments >>= f)
  jobs_then f k = after_it AreJobs IsSpelled (arguments.some_words words.command words.arguments) f (jobs_given words.command words.arguments plain) k

  fix_spells : Gives IsSpelled (forms.fix words)
  fix_spells = search (jobs_then, after_any, spelled)

  fix_delete_spells : Gives IsSpelled (forms.fix_delete words)
  fix_delete_spells = search (jobs_then, after_any, spelled)

  bare_spells : (command : Command) → IsSpelled command → Gives IsSpelled (fields.nothing words >>= (λ none. Ok command))
  bare_spells command h = after_any _ (fields.nothing words) _ (λ none. spelled command h)

-- ---- the table

-- the commands of each form are spelled
abbrev EachForm : List Row → Type 0
EachForm [] = Unit {0}
EachForm (r ∷ rows) = ((words : Invocation) → is_plain words.arguments ≡ true → Gives IsSpelled (form_command r.form words)) × EachForm rows

each_form : EachForm table
unfolding table
each_form = (
  λ words plain. counter_spells words,
  (
    λ words plain. counter_delete_spells words,
    (
      λ words plain. bare_spells words plain commands.Counters tt,
      (
        λ words plain. client_show_spells words,
        (
          λ words plain. bare_spells words plain commands.ClientSave tt,
          (
            λ words plain. label_show_spells words,
            (
              λ words plain. bare_spells words plain commands.LabelSave tt,
              (
                λ words plain. group_show_spells words,
                (
                  λ words plain. bare_spells words plain commands.GroupSave tt,
                  (
                    λ words plain. bare_spells words plain commands.ProtectShow tt,
                    (
                      λ words plain. bare_spells words plain commands.ProtectSave tt,
                      (
                        λ words plain. files.where_spells words,
                        (
                          λ words plain. files.add_spells words,
                          (
                            λ words plain. files.edit_spells words,
                            (
                              λ words plain. files.delete_spells words,
                              (
                                λ words plain. files.move_spells words,
                                (
                                  λ words plain. files.revert_spells words,
                                  (
                                    λ words plain. files.reopen_spells words,
                                    (
                                      λ words plain. files.lock_spells words,
                                      (
                                        λ words plain. files.unlock_spells words,
                                        (
                                          λ words plain. files.opened_spells words,
                                          (
                                            λ words plain. bare_spells words plain commands.ChangeSave tt,
                                            (
                                              λ words plain. change_show_spells words,
                                              (
                                                λ words plain. change_delete_spells words,
                                                (
                                                  λ words plain. files.changes_spells words,
                                                  (
                                                    λ words plain. submit_change_spells words,
                                                    (
                                                      λ words plain. submit_default_spells words,
                                                      (
                                                        λ words plain. files.sync_spells words,
                                                        (
                                                          λ words plain. files.have_spells words,
                                                          (
                                                            λ words plain. files.tag_spells words,
                                                            (
                                                              λ words plain. files.label_sync_spells Exact words,
                                                              (
                                                                λ words plain. files.label_sync_spells Adding words,
                                                                (
                                                                  λ words plain. files.label_sync_spells Removing words,
                                                                  (
                                                                    λ words plain. bare_spells words plain commands.Labels tt,
                                                                    (
                                                                      λ words plain. files.integrate_spells words,
                                                                      (
                                                                        λ words plain. files.resolve_spells Theirs words,
                                                                        (
                                                                          λ words plain. files.resolve_spells Yours words,
                                                                          (
                                                                            λ words plain. files.integrated_spells words,
                                                                            (
                                                                              λ words plain. files.files_spells words,
                                                                              (
                                                                                λ words plain. files.file_log_spells words,
                                                                                (
                                                                                  λ words plain. files.print_spells words,
                                                                                  (
                                                                                    λ words plain. describe_spells words,
                                                                                    (
                                                                                      λ words plain. describe_shelved_spells words,
                                                                                      (
                                                                                        λ words plain. files.dirs_spells words,
                                                                                        (
                                                                                          λ words plain. files.file_stat_spells words,
                                                                                          (
                                                                                            λ words plain. files.shelve_spells words,
                                                                                            (
                                                                                              λ words plain. files.shelve_delete_spells words,
                                                                                              (
                                                                                                λ words plain. files.unshelve_spells words,
                                                                                                (
                                                                                                  λ words plain. job_by words.command words.arguments plain,
                                                                                                  (
                                                                                                    λ words plain. bare_spells words plain commands.JobSave tt,
                                                                                                    (
                                                                                                      λ words plain. bare_spells words plain commands.Jobs tt,
                                                                                                      (
                                                                                                        λ words plain. fix_spells words plain,
                                                                                                        (
                                                                                                          λ words plain. fix_delete_spells words plain,
                                                                                                          (
                                                                                                            λ words plain. fixes_spells words,
                                                                                                            (
                                                                                                              λ words plain. admin_by words.command words.arguments,
                                                                                                              (
                                                                                                                λ words plain. bare_spells words plain commands.Pull tt,
                                                                                                                tt,
                                                                                                              ),
                                                                                                            ),
                                                                                                          ),
                                                                                                        ),
                                                                                                      ),
                                                                                                    ),
                                                                                                  ),
                                                                                                ),
                                                                                              ),
                                                                                            ),
                                                                                          ),
                                                                                        ),
                                                                                      ),
                                                                                    ),
                                                                                  ),
                                                                                ),
                                                                              ),
                                                                            ),
                                                                          ),
                                                                        ),
                                                                      ),
                                                                    ),
                                                                  ),
                                                                ),
                                                              ),
                                                            ),
                                                          ),
                                                        ),
                                                      ),
                                                    ),
                                                  ),
                                                ),
                                              ),
                                            ),
                                          ),
                                        ),
                                      ),
                                    ),
                                  ),
                                ),
                              ),
                            ),
                          ),
                        ),
                      ),
                    ),
                  ),
                ),
              ),
            ),
          ),
        ),
      ),
    ),
  ),
)

-- ---- lines

-- the first of two that is there
either_some : {F : Type 0} (P : F → Type 0) (b : Bool) (x : F) (o : Option F) → P x → IfSome o P → IfSome (elim b as (λ _. Option F) [ true ↦ Some x | false ↦ o ]) P
either_some P true x o here later = here
either_some P false x o here later = later

found_given : {F : Type 0} (P : F → Type 0) (command : List ℕ) (has_input : Bool) (o : Option (F × Bool)) → IfSome o (λ found. P found.0)
    → Gives P (elim o as (λ _. Result F WordFault) [ None ↦ Err (BadUsage command) | Some found ↦ if input_fits found.1 has_input then Ok found.0 else Err (BadUsage command) ])
found_given P command has_input None h = refused _ _
found_given P command has_input (Some found) h = given_where P (input_fits found.1 has_input) found.0 (BadUsage command) (λ fits. h)

-- the form that the options choose is that of a row
form_found : (command : List ℕ) (options : List Given) (rows : List Row) → EachForm rows
    → IfSome (form_in rows command options) (λ found. (words : Invocation) → is_plain words.arguments ≡ true → Gives IsSpelled (form_command found.0 words))
form_found command options [] each = tt
form_found command options (r ∷ rows) each =
    either_some (λ found. (words : Invocation) → is_plain words.arguments ≡ true → Gives IsSpelled (form_command found.0 words)) (suits r command options) (r.form, r.takes_input) (form_in rows command options) each.0
    (form_found command options rows each.1)

form_given : (command : List ℕ) (options : List Given) (has_input : Bool)
    → Gives (λ form. (words : Invocation) → is_plain words.arguments ≡ true → Gives IsSpelled (form_command form words)) (form_of command options has_input)
form_given command options has_input =
    found_given (λ form. (words : Invocation) → is_plain words.arguments ≡ true → Gives IsSpelled (form_command form words)) command has_input (form_in table command options) (form_found command options table each_form)

known : (command : List ℕ) (rest : List (List ℕ)) (has_input : Bool) → Gives IsSpelled (known_command command rest has_input)
known command rest has_input =
    after_it (λ (words : Invocation). is_plain words.arguments ≡ true) IsSpelled (invocation_of command rest) _ (arguments_plain command (Ready []) rest) (λ words plain.
    after_it (λ form. (given : Invocation) → is_plain given.arguments ≡ true → Gives IsSpelled (form_command form given)) IsSpelled (form_of command words.options has_input) _ (form_given command words.options has_input) (λ form spells. spells words plain))

words_spell : (words : List (List ℕ)) (has_input : Bool) → Gives IsSpelled (command_of_words words has_input)
words_spell [] has_input = refused _ _
words_spell (command ∷ rest) has_input = taken_where _ (is_command table command) (known_command command rest has_input) _ (λ h. known command rest has_input)

line_spells : (line : List (List ℕ)) (has_input : Bool) → Gives IsSpelled (command_of_line line has_input)
line_spells [] has_input = refused _ _
line_spells (program ∷ words) has_input = taken_where _ (same program (codes "p4")) (command_of_words words has_input) _ (λ h. words_spell words has_input)

each_line : (line : Line) (has_input : Bool) → Gives IsSpelled (command_of line has_input)
each_line (Words words) has_input = line_spells words has_input
each_line Bad has_input = refused _ _

pub is_spelled : (line : Line) (has_input : Bool) (command : Command) → command_of line has_input ≡ Ok command → IsSpelled command
is_spelled line has_input command h = is_given IsSpelled (command_of line has_input) command h (each_line line has_input)
