-- What the words of a line promise of their command (Command-Line Reference, each command's syntax; the greatest number is this project's own
-- choice).
use Rattle.std.specs.Prelude.{◌≡◌, ℕ, Bool, true, ◌&&◌, nat_le, List, Option}
use Rattle.std.specs.Option.{option_map_or}
use Rattle.depot_path.specs.Name.{is_name}
use Rattle.depot_model.specs.WellFormed.{is_command, asks_rightly}
use Rattle.depot_model.specs.declared.command.Command.{Command}
use Rattle.depot_model.specs.declared.command.Command.TheVariants as commands
use Rattle.command_words.specs.Values.{most_number}

abbrev pub is_name_or_none : Option (List ℕ) → Bool
is_name_or_none name = option_map_or is_name name true

-- the names of a command are names
abbrev pub has_names : Command → Bool
has_names (commands.CounterShow name) = is_name name
has_names (commands.CounterSet name value) = is_name name
has_names (commands.CounterDelete name) = is_name name
has_names (commands.ClientShow name) = is_name_or_none name
has_names (commands.LabelShow name) = is_name name
has_names (commands.GroupShow name) = is_name name
has_names (commands.Changes most status user client files) = is_name_or_none user && is_name_or_none client
has_names (commands.Tag label removes files) = is_name label
has_names (commands.LabelSync label labelling files) = is_name label
has_names _ = true

abbrev pub is_number : ℕ → Bool
is_number n = nat_le n most_number

abbrev pub is_number_or_none : Option ℕ → Bool
is_number_or_none n = option_map_or is_number n true

-- the numbers of changes, and how many changes are shown, are at most the greatest number
abbrev pub has_numbers : Command → Bool
has_numbers (commands.Add change type paths) = is_number_or_none change
has_numbers (commands.Edit change type files) = is_number_or_none change
has_numbers (commands.Delete change files) = is_number_or_none change
has_numbers (commands.Move change from to) = is_number_or_none change
has_numbers (commands.Revert change files) = is_number_or_none change
has_numbers (commands.Reopen change type files) = is_number_or_none change
has_numbers (commands.Lock change files) = is_number_or_none change
has_numbers (commands.Unlock change files) = is_number_or_none change
has_numbers (commands.ChangeShow change) = is_number_or_none change
has_numbers (commands.ChangeDelete change) = is_number change
has_numbers (commands.Changes most status user client files) = is_number_or_none most
has_numbers (commands.SubmitChange change) = is_number change
has_numbers (commands.Integrate change from to) = is_number_or_none change
has_numbers (commands.Describe change) = is_number change
has_numbers (commands.DescribeShelved change) = is_number change
has_numbers (commands.Shelve change replaces files) = is_number change
has_numbers (commands.ShelveDelete change files) = is_number change
has_numbers (commands.Unshelve shelved change files) = is_number shelved && is_number_or_none change
has_numbers (commands.Fix change jobs) = is_number change
has_numbers (commands.FixDelete change jobs) = is_number change
has_numbers (commands.Fixes change job) = is_number_or_none change
has_numbers _ = true

-- types are as they are printed, paths are paths, the two sides of a move or an integration answer one another, no counter that the program
-- keeps is set; names are names, numbers are as small as words spell them, and arguments of commands that take no revision ask for the head
pub record IsWellFormed (command : Command) : Type 0 where
  pub form : is_command command ≡ true
  pub names : has_names command ≡ true
  pub numbers : has_numbers command ≡ true
  pub heads : asks_rightly command ≡ true
