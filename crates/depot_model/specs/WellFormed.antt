-- What the words of a command promise of it: a type is printed, a path is one, the two sides of a move answer one another, and the counters that
-- the program keeps aren't set (Command-Line Reference, each command's syntax).
use Rattle.std.specs.Prelude.{ℕ, Bool, true, false, not, ◌&&◌, List, codes, Option}
use Rattle.std.specs.Option.{option_map_or}
use Rattle.std.specs.List.{list_all}
use Rattle.db_records.specs.depot_path.Bytes.{same}
use Rattle.db_records.specs.depot_path.Path.{is_path}
use Rattle.db_records.specs.depot_path.declared.revision.Wanted.TheVariants.{Head}
use Rattle.view_map.specs.Specifiers.{same_specifiers}
use Rattle.depot_model.specs.declared.command.Command.{Command}
use Rattle.depot_model.specs.declared.command.Command.TheVariants.{CounterSet, CounterDelete, Add, Edit, Delete, Reopen, Move, Integrate, Resolve, Integrated, Where, Shelve, Unshelve}
use Rattle.depot_model.specs.declared.command.FileArgument.{FileArgument}
use Rattle.depot_model.specs.declared.command.PatternArgument.{PatternArgument}
use Rattle.depot_model.specs.Types.{is_printed_type}
use Rattle.depot_model.specs.Steps.Adding.{spelled}

abbrev pub is_type_or_none : Option (List ℕ) → Bool
is_type_or_none type = option_map_or is_printed_type type true

abbrev pub is_free : List ℕ → Bool
is_free name = not (same name (codes "change")) && not (same name (codes "journal"))

abbrev pub spells_path : FileArgument → Bool
spells_path argument = is_path (spelled argument)

abbrev pub answer_one_another : FileArgument → PatternArgument → Bool
answer_one_another from to = same_specifiers from.spec.pattern to.pattern

abbrev pub is_command : Command → Bool
is_command (CounterSet name value) = is_free name
is_command (CounterDelete name) = is_free name
is_command (Where paths) = list_all spells_path paths
is_command (Add change type paths) = is_type_or_none type && list_all spells_path paths
is_command (Edit change type files) = is_type_or_none type
is_command (Reopen change type files) = is_type_or_none type
is_command (Move change from to) = answer_one_another from to
is_command (Integrate change from to) = answer_one_another from to
is_command _ = true

-- commands that take no revision have arguments that ask for none
abbrev pub asks_head : FileArgument → Bool
asks_head argument = elim argument.spec.wanted [ Head ↦ true | _ ↦ false ]

abbrev pub asks_rightly : Command → Bool
asks_rightly (Edit change type files) = list_all asks_head files
asks_rightly (Delete change files) = list_all asks_head files
asks_rightly (Move change from to) = asks_head from
asks_rightly (Resolve taking files) = list_all asks_head files
asks_rightly (Integrated files) = list_all asks_head files
asks_rightly (Shelve change replaces files) = list_all asks_head files
asks_rightly (Unshelve shelved change files) = list_all asks_head files
asks_rightly _ = true
