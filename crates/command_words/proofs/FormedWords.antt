-- What each form without files gives is well-formed.
use Rattle.std.proofs.Common.{◌≡◌, refl, ℕ, Bool, true, false, ◌&&◌, ◌||◌, not, List, [], ◌∷◌, codes}
use Rattle.depot_path.specs.Answers.{◌>>=◌}
use Rattle.depot_path.specs.Bytes.{same}
use Rattle.depot_path.specs.Name.{is_name}
use Rattle.depot_model.specs.WellFormed.{is_free}
use Rattle.depot_model.specs.declared.command.Command.TheVariants as commands
use Rattle.depot_model.specs.declared.request.WordFault.TheVariants.{BadUsage}
use Rattle.command_words.specs.Arguments as arguments
use Rattle.command_words.specs.Options.{Invocation}
use Rattle.command_words.specs.Values as values
use Rattle.command_words.specs.WellFormed.{IsWellFormed}
use Rattle.command_words.specs.WordForms as spec
use Rattle.command_words.specs.declared.table.BareForm.{BareForm}
use Rattle.command_words.specs.declared.table.BareForm.TheVariants as bare
use Rattle.command_words.specs.declared.table.WordForm.{WordForm}
use Rattle.command_words.specs.declared.table.WordForm.TheVariants as forms
use Rattle.command_words.proofs.Giving.{Gives, Passes, both, first_of_both, second_of_both, refused, after_it, after_any, given_where, refused_where, taken_where}
use Rattle.command_words.proofs.FormedArguments as found
use Rattle.command_words.proofs.Formed.{formed, steps}

pub bare_form : (form : BareForm) (words : Invocation) → Gives IsWellFormed (spec.bare_command form words)
bare_form bare.Counters words = search steps
bare_form _ words = search steps

-- a name that is none of the counters that the program keeps
abbrev is_settable : List ℕ → Bool
is_settable name = is_free name && is_name name

neither : (a b : Bool) → a || b ≡ false → not a && not b ≡ true
neither true b h = cc
neither false true h = cc
neither false false h = refl

free_name : (command word : List ℕ) → Passes is_settable (spec.free_name command word)
free_name command word =
    refused_where _ (spec.is_kept word) (BadUsage command) (values.name command word) (λ h.
    given_where _ (is_name word) word (BadUsage command) (λ k.
    both (is_free word) (is_name word) (neither (same word (codes "change")) (same word (codes "journal")) h) k))

counter_set : (command word : List ℕ) (words : List (List ℕ)) → Gives IsWellFormed (spec.counter_set command word words)
counter_set command word words =
    after_it (λ n. is_settable n ≡ true) _ (spec.free_name command word) _ (free_name command word) (λ name h.
    after_any _ (arguments.exactly_one command (values.value command) words) _ (λ value.
    formed (commands.CounterSet name value) (first_of_both (is_free name) (is_name name) h) (second_of_both (is_free name) (is_name name) h) refl refl))

counter_show : (command word : List ℕ) → Gives IsWellFormed (spec.counter_show command word)
counter_show command word =
    after_it (λ n. is_name n ≡ true) _ (values.name command word) _ (found.names command word) (λ name h. formed (commands.CounterShow name) refl h refl refl)

counter : (command : List ℕ) (words : List (List ℕ)) → Gives IsWellFormed (spec.counter_words command words)
counter command [] = refused _ _
counter command (word ∷ []) = counter_show command word
counter command (word ∷ value ∷ words) = counter_set command word (value ∷ words)

counter_delete : (words : Invocation) → Gives IsWellFormed (spec.counter_delete words)
counter_delete words =
    after_it (λ n. is_settable n ≡ true) _ (arguments.exactly_one words.command (spec.free_name words.command) words.arguments) _
    (found.exactly_one is_settable words.command (spec.free_name words.command) words.arguments (free_name words.command)) (λ name h.
    formed (commands.CounterDelete name) (first_of_both (is_free name) (is_name name) h) (second_of_both (is_free name) (is_name name) h) refl refl)

admin : (command : List ℕ) (words : List (List ℕ)) → Gives IsWellFormed (spec.admin_words command words)
admin command [] = refused _ _
admin command (word ∷ rest) =
    taken_where _ (same word (codes "checkpoint")) _ (BadUsage command) (λ h. after_any _ (arguments.no_word command rest) _ (λ none. formed commands.Checkpoint refl refl refl refl))

pub word_form : (form : WordForm) (words : Invocation) → Gives IsWellFormed (spec.word_command form words)
word_form forms.Counter words = counter words.command words.arguments
word_form forms.CounterDelete words = counter_delete words
word_form forms.Admin words = admin words.command words.arguments
word_form _ words = search steps
