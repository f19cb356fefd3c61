-- A command that is well-formed, and what the options give.
use Rattle.std.proofs.Common.{◌≡◌, refl, ℕ, true, List, Option, Result, Ok}
use Rattle.std.specs.List.{list_all}
use Rattle.depot_path.specs.Answers.{◌>>=◌}
use Rattle.depot_path.specs.Name.{is_name}
use Rattle.depot_model.specs.Types.{is_printed_type}
use Rattle.depot_model.specs.WellFormed.{is_command, is_type_or_none, answer_one_another, spells_path, asks_head, asks_rightly}
use Rattle.depot_model.specs.declared.command.Command.{Command}
use Rattle.depot_model.specs.declared.command.FileArgument.{FileArgument}
use Rattle.depot_model.specs.declared.request.WordFault.{WordFault}
use Rattle.command_words.specs.Arguments as arguments
use Rattle.command_words.specs.Fields.{optional}
use Rattle.command_words.specs.Values as values
use Rattle.command_words.specs.WellFormed.{IsWellFormed, has_names, has_numbers, is_number, is_name_or_none, is_number_or_none}
use Rattle.command_words.specs.declared.arguments.Takes.{Takes}
use Rattle.command_words.specs.declared.arguments.Takes.TheVariants.{Path, NoRevision}
use Rattle.command_words.specs.declared.ends.Ends.{Ends}
use Rattle.command_words.proofs.Giving.{Gives, both, gives, after_it, after_any}
use Rattle.command_words.proofs.FormedArguments as found

pub formed : (command : Command) → is_command command ≡ true → has_names command ≡ true → has_numbers command ≡ true → asks_rightly command ≡ true
    → Gives {E = WordFault} IsWellFormed (Ok command)
formed command f n m h = gives IsWellFormed command (record { form = f; names = n; numbers = m; heads = h })

-- ---- options

pub after_number : (Q : Command → Type 0) (command : List ℕ) (given : Option (List ℕ)) (f : Option ℕ → Result Command WordFault) →
    ((n : Option ℕ) → is_number_or_none n ≡ true → Gives Q (f n)) → Gives Q (optional (values.number command) given >>= f)
after_number Q command given f k = after_it _ Q _ f (found.options is_number (values.number command) given (found.numbers command)) k

pub after_change : (Q : Command → Type 0) (command : List ℕ) (given : Option (List ℕ)) (f : Option ℕ → Result Command WordFault) →
    ((n : Option ℕ) → is_number_or_none n ≡ true → Gives Q (f n)) → Gives Q (optional (values.change command) given >>= f)
after_change Q command given f k = after_it _ Q _ f (found.options is_number (values.change command) given (found.changes command)) k

pub after_name : (Q : Command → Type 0) (command : List ℕ) (given : Option (List ℕ)) (f : Option (List ℕ) → Result Command WordFault) →
    ((name : Option (List ℕ)) → is_name_or_none name ≡ true → Gives Q (f name)) → Gives Q (optional (values.name command) given >>= f)
after_name Q command given f k = after_it _ Q _ f (found.options is_name (values.name command) given (found.names command)) k

pub after_type : (Q : Command → Type 0) (command : List ℕ) (given : Option (List ℕ)) (f : Option (List ℕ) → Result Command WordFault) →
    ((type : Option (List ℕ)) → is_type_or_none type ≡ true → Gives Q (f type)) → Gives Q (optional (values.file_type command) given >>= f)
after_type Q command given f k = after_it _ Q _ f (found.options is_printed_type (values.file_type command) given (found.types command)) k

-- an option that has to be there, whose value is found to pass a test
pub after_wanted_number : (Q : Command → Type 0) (command : List ℕ) (given : Option ℕ) (f : ℕ → Result Command WordFault) →
    is_number_or_none given ≡ true → ((n : ℕ) → is_number n ≡ true → Gives Q (f n)) → Gives Q (arguments.wanted command given >>= f)
after_wanted_number Q command given f h k = after_it _ Q _ f (found.wanted is_number command given h) k

pub after_wanted_name : (Q : Command → Type 0) (command : List ℕ) (given : Option (List ℕ)) (f : List ℕ → Result Command WordFault) →
    is_name_or_none given ≡ true → ((name : List ℕ) → is_name name ≡ true → Gives Q (f name)) → Gives Q (arguments.wanted command given >>= f)
after_wanted_name Q command given f h k = after_it _ Q _ f (found.wanted is_name command given h) k

-- ---- arguments

pub after_one_name : (Q : Command → Type 0) (command : List ℕ) (words : List (List ℕ)) (f : List ℕ → Result Command WordFault) →
    ((name : List ℕ) → is_name name ≡ true → Gives Q (f name)) → Gives Q (arguments.exactly_one command (values.name command) words >>= f)
after_one_name Q command words f k = after_it _ Q _ f (found.exactly_one is_name command (values.name command) words (found.names command)) k

pub after_name_or_none : (Q : Command → Type 0) (command : List ℕ) (words : List (List ℕ)) (f : Option (List ℕ) → Result Command WordFault) →
    ((name : Option (List ℕ)) → is_name_or_none name ≡ true → Gives Q (f name)) → Gives Q (arguments.at_most_one command (values.name command) words >>= f)
after_name_or_none Q command words f k = after_it _ Q _ f (found.at_most_one is_name command (values.name command) words (found.names command)) k

pub after_number_or_none : (Q : Command → Type 0) (command : List ℕ) (words : List (List ℕ)) (f : Option ℕ → Result Command WordFault) →
    ((n : Option ℕ) → is_number_or_none n ≡ true → Gives Q (f n)) → Gives Q (arguments.at_most_one command (values.number command) words >>= f)
after_number_or_none Q command words f k = after_it _ Q _ f (found.at_most_one is_number command (values.number command) words (found.numbers command)) k

pub after_paths : (Q : Command → Type 0) (command : List ℕ) (words : List (List ℕ)) (f : List FileArgument → Result Command WordFault) →
    ((files : List FileArgument) → list_all spells_path files ≡ true → Gives Q (f files)) → Gives Q (arguments.some_files command Path words >>= f)
after_paths Q command words f k = after_it _ Q _ f (found.paths command words) k

pub after_heads : (Q : Command → Type 0) (command : List ℕ) (words : List (List ℕ)) (f : List FileArgument → Result Command WordFault) →
    ((files : List FileArgument) → list_all asks_head files ≡ true → Gives Q (f files)) → Gives Q (arguments.some_files command NoRevision words >>= f)
after_heads Q command words f k = after_it _ Q _ f (found.heads command words) k

pub after_all_heads : (Q : Command → Type 0) (command : List ℕ) (words : List (List ℕ)) (f : List FileArgument → Result Command WordFault) →
    ((files : List FileArgument) → list_all asks_head files ≡ true → Gives Q (f files)) → Gives Q (arguments.files command NoRevision words >>= f)
after_all_heads Q command words f k = after_it _ Q _ f (found.all_heads command words) k

pub after_head_ends : (Q : Command → Type 0) (command : List ℕ) (words : List (List ℕ)) (f : Ends → Result Command WordFault) →
    ((given : Ends) → answer_one_another given.from given.to ≡ true → asks_head given.from ≡ true → Gives Q (f given))
    → Gives Q (arguments.both_ends command NoRevision words >>= f)
after_head_ends Q command words f k = after_it _ Q _ f (found.head_ends command words) (λ given h. k given h.0 h.1)

pub after_ends : (Q : Command → Type 0) (command : List ℕ) (takes : Takes) (words : List (List ℕ)) (f : Ends → Result Command WordFault) →
    ((given : Ends) → answer_one_another given.from given.to ≡ true → Gives Q (f given)) → Gives Q (arguments.both_ends command takes words >>= f)
after_ends Q command takes words f k = after_it _ Q _ f (found.ends command takes words) k

pub ruleset steps = (after_number, after_change, after_name, after_type, after_wanted_number, after_wanted_name, after_one_name, after_name_or_none, after_number_or_none, after_paths, after_heads, after_all_heads, after_head_ends, after_ends, after_any, formed, both, refl)
