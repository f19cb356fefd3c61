-- The modes of the protections table and the needs that they grant and deny (Command-Line Reference, "p4 protect"). What an exclusion
-- with a mode of a single right denies is this project's own choice.
use Rattle.std.specs.Prelude.{ℕ, Bool, true, false, not, ◌||◌, nat_le, List, codes, ◌==◌, if◌then◌else◌, Option, Some, None}
use Rattle.depot_path.specs.Bytes.{same}
use Rattle.protect_table.specs.declared.mode.Mode.{Mode}
use Rattle.protect_table.specs.declared.mode.Mode.TheVariants.{List as ListMode, Read, Open, Write, Admin, Super, ReadAlone, OpenAlone, WriteAlone}
use Rattle.protect_table.specs.declared.mode.Grantee.{Grantee}
use Rattle.protect_table.specs.declared.mode.Grantee.TheVariants.{User, Group}

-- the modes of a single right
abbrev pub single_mode_of : List ℕ → Option Mode
single_mode_of word =
    if same word (codes "=read") then Some ReadAlone else
    (if same word (codes "=open") then Some OpenAlone else
    (if same word (codes "=write") then Some WriteAlone else None))

abbrev pub mode_of : List ℕ → Option Mode
mode_of word =
    if same word (codes "list") then Some ListMode else
    (if same word (codes "read") then Some Read else
    (if same word (codes "open") then Some Open else
    (if same word (codes "write") then Some Write else
    (if same word (codes "admin") then Some Admin else
    (if same word (codes "super") then Some Super else single_mode_of word)))))

abbrev pub grantee_of : List ℕ → Option Grantee
grantee_of word = if same word (codes "user") then Some User else (if same word (codes "group") then Some Group else None)

-- the greatest need that a mode grants: 1 list, 2 read, 3 open, 4 write, 5 admin, 6 super
abbrev pub need_of : Mode → ℕ
need_of ListMode = 1
need_of Read = 2
need_of Open = 3
need_of Write = 4
need_of Admin = 5
need_of Super = 6
need_of ReadAlone = 2
need_of OpenAlone = 3
need_of WriteAlone = 4

-- a mode of a single right
abbrev pub is_single : Mode → Bool
is_single ReadAlone = true
is_single OpenAlone = true
is_single WriteAlone = true
is_single _ = false

-- an ordinary mode grants every need up to its own, a mode of a single right its own alone
abbrev pub grants : Mode → ℕ → Bool
grants mode need = if is_single mode then need == need_of mode else nat_le need (need_of mode)

-- an exclusion with an ordinary mode denies every need, one with a mode of a single right its own alone
abbrev pub denies : Mode → ℕ → Bool
denies mode need = not (is_single mode) || (need == need_of mode)
