-- The text of a record: `@OP@ VERSION @TABLE@`, then a space and a field for each field, then a line feed. It is the form of
-- a journal record of Helix Core (System Administrator Guide, "Journal files"), with operators pv, rv and dv.
use Rattle.std.specs.Prelude.{◌≡◌, ℕ, ◌≤◌, Bool, true, false, not, List, [], ◌∷◌, ◌++◌, codes}
use Rattle.db_records.specs.declared.change.Op.{Op}
use Rattle.db_records.specs.declared.change.Op.TheVariants.{Put, Replace, Remove}
use Rattle.db_records.specs.declared.record.Record.{Record}
use Rattle.db_records.specs.declared.record.Record.TheVariants as rows
use Rattle.record_text.specs.declared.fault.Part.TheVariants.{Operator, Version, Table, Field}
use Rattle.record_text.specs.declared.layout.Layout.{Layout}
use Rattle.record_text.specs.declared.text.MoveAction.{MoveAction}
use Rattle.record_text.specs.declared.text.MoveAction.TheVariants.{Add, Delete}
use Rattle.record_text.specs.Reading.{Reading, Done, and_then}
use Rattle.record_text.specs.Spelling.{spelled_number, number_at, spelled_text, text_at}
use Rattle.record_text.specs.Words.{word_at}
use Rattle.record_text.specs.Layout.{Kind, Line, Count, Wide, Word, Action, Move, Value, Values, version_text, versions, table_text, layouts, version_of, kinds_of, record_of, move_add, move_delete, is_move, Parts, parts_of}

-- ---- a field

abbrev pub largest_count : ℕ
largest_count = 2147483647

abbrev pub largest_wide : ℕ
largest_wide = 18446744073709551615

abbrev pub any : List ℕ → Bool
any text = true

abbrev pub is_plain : List ℕ → Bool
is_plain action = not (is_move action)

-- which values a field of a kind may have
abbrev pub Fits : (kind : Kind) → Value kind → Type 0
Fits Line n = (1 ≤ n) × (n ≤ largest_count)
Fits Count n = (0 ≤ n) × (n ≤ largest_count)
Fits Wide n = (0 ≤ n) × (n ≤ largest_wide)
Fits Word text = any text ≡ true
Fits Action text = is_plain text ≡ true
Fits Move text = is_move text ≡ true

abbrev pub spelled : (kind : Kind) → ℕ → Value kind → List ℕ
spelled Line ender n = spelled_number ender n
spelled Count ender n = spelled_number ender n
spelled Wide ender n = spelled_number ender n
spelled Word ender text = spelled_text ender text
spelled Action ender text = spelled_text ender text
spelled Move ender text = spelled_text ender text

abbrev pub move_text : MoveAction → List ℕ
move_text Add = move_add
move_text Delete = move_delete

abbrev pub spelled_move : ℕ → MoveAction → List ℕ
spelled_move ender move = spelled_text ender (move_text move)

abbrev pub move_actions : List MoveAction
move_actions = Add ∷ Delete ∷ []

-- the action of a move is one of two words, and stops where neither goes on; another action is known behind its closing sign
abbrev pub field_at : (kind : Kind) → ℕ → List ℕ → Reading (Value kind)
field_at Line ender bytes = number_at 1 largest_count ender bytes
field_at Count ender bytes = number_at 0 largest_count ender bytes
field_at Wide ender bytes = number_at 0 largest_wide ender bytes
field_at Word ender bytes = text_at any ender bytes
field_at Action ender bytes = text_at is_plain ender bytes
field_at Move ender bytes = and_then (word_at (spelled_move ender) move_actions Field bytes) (λ move rest. Done (move_text move) rest)

-- ---- fields: a space ends each but the last, and a line feed that one

abbrev pub ender_before : List Kind → ℕ
ender_before [] = 0x0A
ender_before (kind ∷ kinds) = 0x20

abbrev pub AllFit : (kinds : List Kind) → Values kinds → Type 0
AllFit [] x = Unit {0}
AllFit (kind ∷ kinds) x = Fits kind x.0 × AllFit kinds x.1

abbrev pub all_spelled : (kinds : List Kind) → Values kinds → List ℕ
all_spelled [] x = []
all_spelled (kind ∷ kinds) x = spelled kind (ender_before kinds) x.0 ++ all_spelled kinds x.1

-- the fields one after another, and what is made of them
abbrev pub fields_at : {A : Type 0} (kinds : List Kind) → (Values kinds → A) → List ℕ → Reading A
fields_at [] to bytes = Done (to tt) bytes
fields_at (kind ∷ kinds) to bytes = and_then (field_at kind (ender_before kinds) bytes) (λ x rest. fields_at kinds (λ xs. to (x, xs)) rest)

-- ---- a record

abbrev pub operator_text : Op → List ℕ
operator_text Put = codes "@pv@ "
operator_text Replace = codes "@rv@ "
operator_text Remove = codes "@dv@ "

abbrev pub operators : List Op
operators = Put ∷ Replace ∷ Remove ∷ []

unfoldable pub row_at : Layout → List ℕ → Reading Record
row_at layout bytes = fields_at (kinds_of layout) (record_of layout) bytes

-- an operator, a version, a table that the version has, and the fields of that table in that version
abbrev pub record_at : List ℕ → Reading (Op × Record)
record_at bytes =
    and_then (word_at operator_text operators Operator bytes) (λ op rest1.
    and_then (word_at version_text versions Version rest1) (λ version rest2.
    and_then (word_at table_text (layouts version) Table rest2) (λ layout rest3.
    and_then (row_at layout rest3) (λ row rest. Done (op, row) rest))))

abbrev pub parts_spelling : Parts → List ℕ
parts_spelling parts = version_text (version_of parts.0) ++ (table_text parts.0 ++ all_spelled (kinds_of parts.0) parts.1)

-- the one spelling of a row with its operator
abbrev pub spelling : Op → Record → List ℕ
spelling op row = operator_text op ++ parts_spelling (parts_of row)

-- only a row of a move has another path
abbrev pub HasNoOther : Record → Type 0
HasNoOther (rows.Working r) = is_move r.action ≡ false → r.moved ≡ []
HasNoOther (rows.Rev r) = is_move r.action ≡ false → r.moved ≡ []
HasNoOther _ = Unit {0}

-- a row has a spelling where its numbers are within their limits and only a move has another path
abbrev pub IsRecord : Record → Type 0
IsRecord row = AllFit (kinds_of (parts_of row).0) (parts_of row).1 × HasNoOther row
