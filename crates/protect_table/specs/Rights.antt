-- The rights of a caller at a path, and those that a caller has somewhere. The needs are 1 list, 2 read, 3 open, 4 write, 5 admin, 6 super
-- (Command-Line Reference, "p4 protect", "Permission levels and access rights", "Exclusionary protections"). What an exclusion denies, and
-- the rights that a caller has somewhere, are this project's own choice.
use Rattle.std.specs.Prelude.{ℕ, Bool, true, false, not, ◌&&◌, ◌||◌, List, [], ◌∷◌, ◌==◌, if◌then◌else◌, Option, Some, None}
use Rattle.std.specs.List.{list_any}
use Rattle.depot_path.specs.Fit.{fits}
use Rattle.depot_path.specs.declared.piece.Piece.{Piece}
use Rattle.depot_path.specs.declared.piece.Piece.TheVariants.{Byte, Dots}
use Rattle.protect_table.specs.Mode.{grants, denies, is_single}
use Rattle.protect_table.specs.Wildcard.{fits_word}
use Rattle.protect_table.specs.declared.mode.Grantee.{Grantee}
use Rattle.protect_table.specs.declared.mode.Grantee.TheVariants.{User, Group}
use Rattle.protect_table.specs.declared.line.ProtectLine.{ProtectLine}
use Rattle.protect_table.specs.declared.who.Who.{Who}

-- a user or group of the caller's
abbrev pub is_grantee : Grantee → List ℕ → Who → Bool
is_grantee User name who = fits_word name who.user
is_grantee Group name who = list_any (fits_word name) who.groups

-- the line is for the caller
abbrev pub names : Who → ProtectLine → Bool
names who line = fits_word line.host who.host && is_grantee line.grantee line.name who

-- the line is for the caller and the path
abbrev pub matches : Who → List ℕ → ProtectLine → Bool
matches who path line = fits line.path path && names who line

-- the pattern is `//...`
abbrev pub is_whole : List Piece → Bool
is_whole (Byte a ∷ Byte b ∷ Dots ∷ []) = (a == 0x2F) && (b == 0x2F)
is_whole _ = false

-- a line that matches grants the need
abbrev pub grants_at : Who → List ℕ → ℕ → ProtectLine → Bool
grants_at who path need line = not line.excludes && grants line.mode need && matches who path line

-- an exclusion that matches denies the need
abbrev pub denies_at : Who → List ℕ → ℕ → ProtectLine → Bool
denies_at who path need line = line.excludes && denies line.mode need && matches who path line

-- a line for the caller grants the need at some path
abbrev pub grants_somewhere : Who → ℕ → ProtectLine → Bool
grants_somewhere who need line = not line.excludes && grants line.mode need && names who line

-- an exclusion for the caller denies the need at every path
abbrev pub denies_everywhere : Who → ℕ → ProtectLine → Bool
denies_everywhere who need line = line.excludes && denies line.mode need && is_whole line.path && names who line

-- some line grants, and no line after it denies
abbrev pub stands : (ProtectLine → Bool) → (ProtectLine → Bool) → List ProtectLine → Bool
stands granting denying [] = false
stands granting denying (line ∷ lines) = (granting line && not (list_any denying lines)) || stands granting denying lines

-- where there are no lines all is granted
abbrev pub granted : (ProtectLine → Bool) → (ProtectLine → Bool) → List ProtectLine → Bool
granted granting denying [] = true
granted granting denying (line ∷ lines) = stands granting denying (line ∷ lines)

abbrev pub may : List ProtectLine → Who → List ℕ → ℕ → Bool
may lines who path need = granted (grants_at who path need) (denies_at who path need) lines

abbrev pub may_any : List ProtectLine → Who → ℕ → Bool
may_any lines who need = granted (grants_somewhere who need) (denies_everywhere who need) lines

-- the greatest need that passes a test, 0 where none does
abbrev pub greatest : (ℕ → Bool) → ℕ
greatest test =
    if test 6 then 6 else
    (if test 5 then 5 else
    (if test 4 then 4 else
    (if test 3 then 3 else
    (if test 2 then 2 else
    (if test 1 then 1 else 0)))))

abbrev pub level : List ProtectLine → Who → List ℕ → ℕ
level lines who path = greatest (may lines who path)

abbrev pub any_level : List ProtectLine → Who → ℕ
any_level lines who = greatest (may_any lines who)

-- what a line says of a need, where it says anything
abbrev pub verdict : Bool → Bool → Option Bool
verdict granting denying = if granting then Some true else (if denying then Some false else None)

abbrev pub is_none : List ProtectLine → Bool
is_none [] = true
is_none (line ∷ lines) = false

-- the line's mode is ordinary
abbrev pub is_ordinary : ProtectLine → Bool
is_ordinary line = not (is_single line.mode)
