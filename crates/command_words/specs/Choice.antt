-- Which form of a command its options choose.
use Rattle.std.specs.Prelude.{ℕ, Bool, true, false, not, ◌&&◌, List, [], ◌∷◌, Option, Some, None, Result, Ok, Err, is_some, if◌then◌else◌}
use Rattle.depot_path.specs.Bytes.{same}
use Rattle.depot_model.specs.declared.request.WordFault.{WordFault}
use Rattle.depot_model.specs.declared.request.WordFault.TheVariants.{BadUsage}
use Rattle.command_words.specs.declared.table.Form.{Form}
use Rattle.command_words.specs.Table.{Row, Choice, table, kind_in_row}
use Rattle.command_words.specs.Options.{Given, was_given}

-- each of these options was given
abbrev pub has_all : List Choice → List Given → Bool
has_all [] options = true
has_all (c ∷ choices) options = was_given c.option options && has_all choices options

-- no other options were given than the form's
abbrev pub has_only : Row → List Given → Bool
has_only r [] = true
has_only r (g ∷ options) = is_some (kind_in_row r g.option) && has_only r options

-- the options are those of the form: all that it always has, and no others than its own
abbrev pub suits : Row → List ℕ → List Given → Bool
suits r command options = same r.word command && has_all r.always options && has_only r options

-- the first form that the options suit, and whether an input block belongs to it
abbrev pub form_in : List Row → List ℕ → List Given → Option (Form × Bool)
form_in [] command options = None
form_in (r ∷ rows) command options = elim (suits r command options) [ true ↦ Some (r.form, r.takes_input) | false ↦ form_in rows command options ]

-- there is an input block exactly where one belongs to the form
abbrev pub input_fits : Bool → Bool → Bool
input_fits true has_input = has_input
input_fits false has_input = not has_input

-- the form of a command with these options and with an input block or without one
abbrev pub form_of : List ℕ → List Given → Bool → Result Form WordFault
form_of command options has_input =
    elim (form_in table command options) [
      | None ↦ Err (BadUsage command)
      | Some found ↦ if input_fits found.1 has_input then Ok found.0 else Err (BadUsage command)
    ]
