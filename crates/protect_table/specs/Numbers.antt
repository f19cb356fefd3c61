-- The lines of a table that name one user or one group, by their numbers, from 0. This project's own choice.
use Rattle.std.specs.Prelude.{◌≡◌, ℕ, ◌+◌, ◌<◌, Bool, true, false, not, ◌&&◌, List, [], ◌∷◌, ◌++◌, length, get_or, slice_get, if◌then◌else◌, Option, Some, None, option_and_then, unwrap_or}
use Rattle.std.specs.BTreeMap.{BTreeMap, get}
use Rattle.std.specs.Cmp.Lexicographic.{slice_cmp}
use Rattle.std.specs.Option.{option_copied}
use Rattle.std.specs.Ordering.{is_eq, nat_cmp}
use Rattle.depot_path.specs.Name.{is_name}
use Rattle.protect_table.specs.Rights.{grants_at, denies_at, grants_somewhere, denies_everywhere, verdict}
use Rattle.protect_table.specs.declared.line.ProtectLine.{ProtectLine}
use Rattle.protect_table.specs.declared.mode.Grantee.{Grantee}
use Rattle.protect_table.specs.declared.mode.Grantee.TheVariants.{User, Group}
use Rattle.protect_table.specs.declared.numbers.Numbers.{Numbers}
use Rattle.protect_table.specs.declared.said.Question.{Question}
use Rattle.protect_table.specs.declared.said.Said.{Said}
use Rattle.protect_table.specs.declared.who.Who.{Who}

-- the numbers, from n on, of the lines that pass a test
abbrev pub numbers_from : ℕ → (ProtectLine → Bool) → List ProtectLine → List ℕ
numbers_from n test [] = []
numbers_from n test (line ∷ lines) = if test line then n ∷ numbers_from (n + 1) test lines else numbers_from (n + 1) test lines

-- the line's name is that of one user or group
abbrev pub names_one : ProtectLine → Bool
names_one line = is_name line.name

abbrev pub is_for : Grantee → Grantee → Bool
is_for User User = true
is_for Group Group = true
is_for _ _ = false

-- the line is for this user alone, or for this group alone
abbrev pub is_of : Grantee → List ℕ → ProtectLine → Bool
is_of grantee name line = is_for grantee line.grantee && (names_one line && is_eq (slice_cmp nat_cmp line.name name))

-- the name is no single user's or group's
abbrev pub is_of_many : ProtectLine → Bool
is_of_many line = not (names_one line)

-- the numbers that are kept for a name
abbrev pub numbers_at : BTreeMap (List ℕ) (List ℕ) → List ℕ → List ℕ
numbers_at by_name name = unwrap_or (get (slice_cmp nat_cmp) by_name name) []

-- the numbers are those of the lines
pub record AreOf (numbers : Numbers) (lines : List ProtectLine) : Type 0 where
  pub users : (name : List ℕ) → numbers_at numbers.users name ≡ numbers_from 0 (is_of User name) lines
  pub groups : (name : List ℕ) → numbers_at numbers.groups name ≡ numbers_from 0 (is_of Group name) lines
  pub others : numbers.others ≡ numbers_from 0 is_of_many lines

-- a number, if a line passes
abbrev pub one_if : Bool → ℕ → List ℕ
one_if passes n = if passes then n ∷ [] else []

-- a line's number was added
pub record IsAdded (before after : Numbers) (n : ℕ) (line : ProtectLine) : Type 0 where
  pub users : (name : List ℕ) → numbers_at after.users name ≡ numbers_at before.users name ++ one_if (is_of User name line) n
  pub groups : (name : List ℕ) → numbers_at after.groups name ≡ numbers_at before.groups name ++ one_if (is_of Group name line) n
  pub others : after.others ≡ before.others ++ one_if (is_of_many line) n

-- the line grants the need at a path, or somewhere where none is asked of
abbrev pub grants_there : Who → ℕ → Option (List ℕ) → ProtectLine → Bool
grants_there who need None line = grants_somewhere who need line
grants_there who need (Some path) line = grants_at who path need line

-- the line denies the need at a path, or everywhere where none is asked of
abbrev pub denies_there : Who → ℕ → Option (List ℕ) → ProtectLine → Bool
denies_there who need None line = denies_everywhere who need line
denies_there who need (Some path) line = denies_at who path need line

-- the line grants, or denies, what is asked
abbrev pub granting : Question → ProtectLine → Bool
granting asked = grants_there asked.who.now asked.need (option_copied asked.file)

abbrev pub denying : Question → ProtectLine → Bool
denying asked = denies_there asked.who.now asked.need (option_copied asked.file)

-- what a line says, where it says anything
abbrev pub said_to : Question → ProtectLine → Option Bool
said_to asked line = verdict (granting asked line) (denying asked line)

-- what the line of a number says
abbrev pub said_at : Question → List ProtectLine → ℕ → Option Bool
said_at asked lines n = option_and_then (said_to asked) (slice_get lines n)

-- the last line that says anything, as far as the lines were looked at
abbrev pub end_of : Option Said → ℕ
end_of None = 0
end_of (Some said) = said.line + 1

abbrev pub IsSaid : Question → List ProtectLine → Option Said → Type 0
IsSaid asked lines None = Unit {0}
IsSaid asked lines (Some said) = said_at asked lines said.line ≡ Some said.granted

-- the line of a number says nothing, or stands no later
abbrev pub IsWithin : Question → List ProtectLine → Option Said → ℕ → Type 0
IsWithin asked lines last n = (granted : Bool) → said_at asked lines n ≡ Some granted → n < end_of last

-- each number is above those before it
abbrev pub AreRising : List ℕ → Type 0
AreRising numbers = (i j : ℕ) → i < j → j < length numbers → get_or numbers i 0 < get_or numbers j 0
