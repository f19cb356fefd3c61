-- The command by which `clap` reads the words, as its definitions see it.
use Rattle.std.specs.Prelude.{true, [], ◌∷◌, Some, codes}
use Rattle.clap.specs.Walk.{Rule, Text}
use Rattle.clap.specs.Simple.{App, Shape, new_rule, new_shape}
use Rattle.clap.specs.declared.builder.action.ArgAction.TheVariants.{Append}

-- an option of a name, and the text of its value where it isn't given
abbrev pub option_rule : Text → Text → Rule
option_rule name absent = record (new_rule name) { long = Some name; value_names = 1; defaults = absent ∷ [] }

-- `--seed N`, 1 where none is given
abbrev pub seed_rule : Rule
seed_rule = option_rule (codes "seed") (codes "1")

-- `--count N`, 100 where none is given
abbrev pub count_rule : Rule
count_rule = option_rule (codes "count") (codes "100")

-- MODE
abbrev pub mode_rule : Rule
mode_rule = record (new_rule (codes "MODE")) { required = true }

-- NAME..
abbrev pub name_rule : Rule
name_rule = record (new_rule (codes "NAME")) { action = Some Append }

-- the whole command: no word before the first, no `--help`, no `--version`
abbrev pub words_shape : Shape
words_shape = record (new_shape (codes "laitsjop")) {
  rules = seed_rule ∷ count_rule ∷ mode_rule ∷ name_rule ∷ [];
  no_binary_name = true;
  disable_help_flag = true;
  disable_version_flag = true;
}

abbrev pub words_app : App
words_app = record { top = words_shape; subs = [] }
