-- The layouts of records: a table in one of the versions is a list of kinds of fields. The tables and their fields are among
-- those of the Helix Core database schema reference; which of them stand here, and in which order, is this project's own choice.
use Rattle.std.specs.Prelude.{ℕ, List, [], ◌∷◌, Bool, true, false, ◌||◌, codes, bytes_eq}
use Rattle.db_records.specs.declared.record.Record.{Record}
use Rattle.db_records.specs.declared.record.Record.TheVariants as rows
use Rattle.db_records.specs.declared.rows.WorkingRecord.{WorkingRecord}
use Rattle.db_records.specs.declared.rows.RevRecord.{RevRecord}
use Rattle.record_text.specs.declared.layout.Layout as declared
use Rattle.record_text.specs.declared.layout.Layout.TheVariants.{Counter, Group, Protect, Domain, Have, Label, Integed, Resolve, Working, MovedWorking, Change, Rev, MovedRev}
use Rattle.record_text.specs.declared.layout.Version.{Version}
use Rattle.record_text.specs.declared.layout.Version.TheVariants.{One, Two}

-- ---- the kinds of fields

-- a number from 1 to 2,147,483,647, one from 0, one to 18,446,744,073,709,551,615, any text, an action that isn't of a move,
-- and one that is
pub data Kind : Type 0 where
  Line : Kind
  Count : Kind
  Wide : Kind
  Word : Kind
  Action : Kind
  Move : Kind

abbrev pub Value : Kind → Type 0
Value Line = ℕ
Value Count = ℕ
Value Wide = ℕ
Value Word = List ℕ
Value Action = List ℕ
Value Move = List ℕ

abbrev pub Values : List Kind → Type 0
Values [] = Unit {0}
Values (kind ∷ kinds) = (x : Value kind) × Values kinds

-- ---- the words of versions and tables

abbrev pub version_text : Version → List ℕ
version_text One = codes "1 "
version_text Two = codes "2 "

abbrev pub versions : List Version
versions = One ∷ Two ∷ []

abbrev pub table_text : declared.Layout → List ℕ
table_text Counter = codes "@db.counters@ "
table_text Group = codes "@db.group@ "
table_text Protect = codes "@db.protect@ "
table_text Domain = codes "@db.domain@ "
table_text Have = codes "@db.have@ "
table_text Label = codes "@db.label@ "
table_text Integed = codes "@db.integed@ "
table_text Resolve = codes "@db.resolve@ "
table_text Working = codes "@db.working@ "
table_text MovedWorking = codes "@db.working@ "
table_text Change = codes "@db.change@ "
table_text Rev = codes "@db.rev@ "
table_text MovedRev = codes "@db.rev@ "

-- the layouts of each version
abbrev pub layouts : Version → List declared.Layout
layouts One = Counter ∷ Group ∷ Protect ∷ Domain ∷ Have ∷ Label ∷ Integed ∷ Resolve ∷ Working ∷ Change ∷ Rev ∷ []
layouts Two = MovedWorking ∷ MovedRev ∷ []

abbrev pub version_of : declared.Layout → Version
version_of MovedWorking = Two
version_of MovedRev = Two
version_of _ = One

-- ---- the fields of each layout

abbrev pub kinds_of : declared.Layout → List Kind
kinds_of Counter = Word ∷ Wide ∷ []
kinds_of Group = Word ∷ Word ∷ []
kinds_of Protect = Line ∷ Word ∷ Word ∷ Word ∷ Word ∷ Word ∷ []
kinds_of Domain = Word ∷ Word ∷ Word ∷ []
kinds_of Have = Word ∷ Word ∷ Count ∷ []
kinds_of Label = Word ∷ Word ∷ Count ∷ []
kinds_of Integed = Word ∷ Word ∷ Count ∷ Count ∷ Count ∷ Count ∷ Word ∷ Count ∷ []
kinds_of Resolve = Word ∷ Word ∷ Word ∷ Count ∷ Count ∷ Word ∷ []
kinds_of Working = Word ∷ Word ∷ Count ∷ Action ∷ Word ∷ Count ∷ Count ∷ Word ∷ Count ∷ []
kinds_of MovedWorking = Word ∷ Word ∷ Count ∷ Move ∷ Word ∷ Count ∷ Count ∷ Word ∷ Count ∷ Word ∷ []
kinds_of Change = Count ∷ Word ∷ Word ∷ Word ∷ Wide ∷ Word ∷ []
kinds_of Rev = Word ∷ Count ∷ Count ∷ Action ∷ Word ∷ Word ∷ Wide ∷ Wide ∷ []
kinds_of MovedRev = Word ∷ Count ∷ Count ∷ Move ∷ Word ∷ Word ∷ Wide ∷ Wide ∷ Word ∷ []

-- the row that fields make
abbrev pub record_of : (layout : declared.Layout) → Values (kinds_of layout) → Record
record_of Counter x = rows.Counter (record { name = x.0; value = x.1.0 })
record_of Group x = rows.Group (record { group = x.0; user = x.1.0 })
record_of Protect x = rows.Protect (record { line = x.0; mode = x.1.0; kind = x.1.1.0; name = x.1.1.1.0; host = x.1.1.1.1.0; path = x.1.1.1.1.1.0 })
record_of Domain x = rows.Domain (record { kind = x.0; name = x.1.0; form = x.1.1.0 })
record_of Have x = rows.Have (record { client = x.0; path = x.1.0; rev = x.1.1.0 })
record_of Label x = rows.Label (record { label = x.0; path = x.1.0; rev = x.1.1.0 })
record_of Integed x = rows.Integed (record { to_file = x.0; from_file = x.1.0; start_from = x.1.1.0; end_from = x.1.1.1.0; start_to = x.1.1.1.1.0; end_to = x.1.1.1.1.1.0; how = x.1.1.1.1.1.1.0; change = x.1.1.1.1.1.1.1.0 })
record_of Resolve x = rows.Resolve (record { client = x.0; path = x.1.0; from = x.1.1.0; first = x.1.1.1.0; last = x.1.1.1.1.0; how = x.1.1.1.1.1.0 })
record_of Working x = rows.Working (record { path = x.0; client = x.1.0; base = x.1.1.0; action = x.1.1.1.0; file_type = x.1.1.1.1.0; change = x.1.1.1.1.1.0; lock = x.1.1.1.1.1.1.0; source = x.1.1.1.1.1.1.1.0; source_rev = x.1.1.1.1.1.1.1.1.0; moved = [] })
record_of MovedWorking x = rows.Working (record { path = x.0; client = x.1.0; base = x.1.1.0; action = x.1.1.1.0; file_type = x.1.1.1.1.0; change = x.1.1.1.1.1.0; lock = x.1.1.1.1.1.1.0; source = x.1.1.1.1.1.1.1.0; source_rev = x.1.1.1.1.1.1.1.1.0; moved = x.1.1.1.1.1.1.1.1.1.0 })
record_of Change x = rows.Change (record { change = x.0; status = x.1.0; user = x.1.1.0; client = x.1.1.1.0; moment = x.1.1.1.1.0; text = x.1.1.1.1.1.0 })
record_of Rev x = rows.Rev (record { path = x.0; rev = x.1.0; change = x.1.1.0; action = x.1.1.1.0; file_type = x.1.1.1.1.0; digest = x.1.1.1.1.1.0; length = x.1.1.1.1.1.1.0; at = x.1.1.1.1.1.1.1.0; moved = [] })
record_of MovedRev x = rows.Rev (record { path = x.0; rev = x.1.0; change = x.1.1.0; action = x.1.1.1.0; file_type = x.1.1.1.1.0; digest = x.1.1.1.1.1.0; length = x.1.1.1.1.1.1.0; at = x.1.1.1.1.1.1.1.0; moved = x.1.1.1.1.1.1.1.1.0 })

-- ---- the layout and the fields of a row

abbrev pub move_add : List ℕ
move_add = codes "move/add"

abbrev pub move_delete : List ℕ
move_delete = codes "move/delete"

-- the two actions of moves (Command-Line Reference, "p4 move")
abbrev pub is_move : List ℕ → Bool
is_move action = bytes_eq action move_add || bytes_eq action move_delete

abbrev pub Parts : Type 0
Parts = (layout : declared.Layout) × Values (kinds_of layout)

abbrev pub working_parts : Bool → WorkingRecord → Parts
working_parts true r = (MovedWorking, (r.path, (r.client, (r.base, (r.action, (r.file_type, (r.change, (r.lock, (r.source, (r.source_rev, (r.moved, tt)))))))))))
working_parts false r = (Working, (r.path, (r.client, (r.base, (r.action, (r.file_type, (r.change, (r.lock, (r.source, (r.source_rev, tt))))))))))

abbrev pub rev_parts : Bool → RevRecord → Parts
rev_parts true r = (MovedRev, (r.path, (r.rev, (r.change, (r.action, (r.file_type, (r.digest, (r.length, (r.at, (r.moved, tt))))))))))
rev_parts false r = (Rev, (r.path, (r.rev, (r.change, (r.action, (r.file_type, (r.digest, (r.length, (r.at, tt)))))))))

-- a row of a move has the other path
abbrev pub parts_of : Record → Parts
parts_of (rows.Counter r) = (Counter, (r.name, (r.value, tt)))
parts_of (rows.Group r) = (Group, (r.group, (r.user, tt)))
parts_of (rows.Protect r) = (Protect, (r.line, (r.mode, (r.kind, (r.name, (r.host, (r.path, tt)))))))
parts_of (rows.Domain r) = (Domain, (r.kind, (r.name, (r.form, tt))))
parts_of (rows.Have r) = (Have, (r.client, (r.path, (r.rev, tt))))
parts_of (rows.Label r) = (Label, (r.label, (r.path, (r.rev, tt))))
parts_of (rows.Integed r) = (Integed, (r.to_file, (r.from_file, (r.start_from, (r.end_from, (r.start_to, (r.end_to, (r.how, (r.change, tt)))))))))
parts_of (rows.Resolve r) = (Resolve, (r.client, (r.path, (r.from, (r.first, (r.last, (r.how, tt)))))))
parts_of (rows.Working r) = working_parts (is_move r.action) r
parts_of (rows.Change r) = (Change, (r.change, (r.status, (r.user, (r.client, (r.moment, (r.text, tt)))))))
parts_of (rows.Rev r) = rev_parts (is_move r.action) r
