-- Values that the definitions give, worked out by hand.
use Rattle.std.proofs.Common.{◌≡◌, ◌∷◌, ℕ, List, [], map, refl}
use Rattle.std.specs.Prelude.{codes}
use Rattle.std.specs.Fmt.{digits}
use Rattle.db_records.specs.declared.change.Op.{Op}
use Rattle.db_records.specs.declared.change.Op.TheVariants.{Put, Replace, Remove}
use Rattle.db_records.specs.declared.record.Record.{Record}
use Rattle.db_records.specs.declared.record.Record.TheVariants as rows
use Rattle.record_text.specs.declared.fault.Part.{Part}
use Rattle.record_text.specs.declared.fault.Part.TheVariants.{Operator, Version, Table, Field}
use Rattle.record_text.specs.Reading.{Reading, Done, Ends, Wrong}
use Rattle.record_text.specs.Grammar.{row_at, record_at, spelling}

abbrev Read : Type 0
Read = Reading (Op × Record)

abbrev read : Op → Record → List ℕ → Read
read op row rest = Done (op, row) rest

abbrev ends : Read
ends = Ends

abbrev wrong : Part → ℕ → Read
wrong part left = Wrong part left

-- ---- a counter

abbrev counter : List ℕ → ℕ → Record
counter name value = rows.Counter (record { name = name; value = value })

counter_line : spelling Put (counter (codes "build") 7) ≡ codes "@pv@ 1 @db.counters@ @build@ 7\n"
unfolding digits
counter_line = refl

reads_counter : record_at (codes "@pv@ 1 @db.counters@ @build@ 7\n@mx@") ≡ read Put (counter (codes "build") 7) (codes "@mx@")
unfolding row_at
reads_counter = refl

-- signs at the ends of a text and within, and a text without a byte
signs_line : spelling Replace (counter (codes "@a@b@") 0) ≡ codes "@rv@ 1 @db.counters@ @@@a@@b@@@ 0\n"
unfolding digits
signs_line = refl

reads_signs : record_at (codes "@rv@ 1 @db.counters@ @@@a@@b@@@ 0\n") ≡ read Replace (counter (codes "@a@b@") 0) []
unfolding row_at
reads_signs = refl

reads_empty : record_at (codes "@dv@ 1 @db.counters@ @@ 1\n") ≡ read Remove (counter [] 1) []
unfolding row_at
reads_empty = refl

-- the greatest numbers, and one above
reads_wide : record_at (codes "@pv@ 1 @db.counters@ @a@ 18446744073709551615\n") ≡ read Put (counter (codes "a") 18446744073709551615) []
unfolding row_at
reads_wide = refl

above_wide : record_at (codes "@pv@ 1 @db.counters@ @a@ 18446744073709551616\n") ≡ wrong Field 2
unfolding row_at
above_wide = refl

abbrev have : ℕ → Record
have rev = rows.Have (record { client = codes "ws1"; path = codes "//depot/a"; rev = rev })

reads_count : record_at (codes "@dv@ 1 @db.have@ @ws1@ @//depot/a@ 2147483647\n") ≡ read Remove (have 2147483647) []
unfolding row_at
reads_count = refl

above_count : record_at (codes "@dv@ 1 @db.have@ @ws1@ @//depot/a@ 2147483648\n") ≡ wrong Field 2
unfolding row_at
above_count = refl

-- no zero stands in front, and the lines of the protections table count from 1
zeros : map record_at (codes "@pv@ 1 @db.counters@ @a@ 07\n" ∷ codes "@pv@ 1 @db.counters@ @a@ 00\n" ∷ codes "@pv@ 1 @db.protect@ 0 @list@ " ∷ []) ≡
    wrong Field 2 ∷ wrong Field 2 ∷ wrong Field 9 ∷ []
unfolding row_at
zeros = refl

-- ---- the two sides of a move

abbrev moved_away : Record
moved_away = rows.Working (record {
  path = codes "//depot/a";
  client = codes "ws1";
  base = 1;
  action = codes "move/delete";
  file_type = codes "text";
  change = 0;
  lock = 0;
  source = [];
  source_rev = 0;
  moved = codes "//depot/b";
})

abbrev moved_away_line : List ℕ
moved_away_line = codes "@pv@ 2 @db.working@ @//depot/a@ @ws1@ 1 @move/delete@ @text@ 0 0 @@ 0 @//depot/b@\n"

prints_away : spelling Put moved_away ≡ moved_away_line
unfolding digits
prints_away = refl

reads_away : record_at moved_away_line ≡ read Put moved_away []
unfolding row_at
reads_away = refl

abbrev moved_here : Record
moved_here = rows.Working (record {
  path = codes "//depot/b";
  client = codes "ws1";
  base = 0;
  action = codes "move/add";
  file_type = codes "text";
  change = 0;
  lock = 0;
  source = codes "//depot/a";
  source_rev = 1;
  moved = codes "//depot/a";
})

abbrev moved_here_line : List ℕ
moved_here_line = codes "@pv@ 2 @db.working@ @//depot/b@ @ws1@ 0 @move/add@ @text@ 0 0 @//depot/a@ 1 @//depot/a@\n"

prints_here : spelling Put moved_here ≡ moved_here_line
unfolding digits
prints_here = refl

reads_here : record_at moved_here_line ≡ read Put moved_here []
unfolding row_at
reads_here = refl

-- a revision that isn't of a move has no other path
abbrev deleted : Record
deleted = rows.Rev (record {
  path = codes "//depot/a";
  rev = 2;
  change = 7;
  action = codes "delete";
  file_type = codes "text";
  digest = [];
  length = 0;
  at = 0;
  moved = [];
})

reads_deleted : record_at (codes "@pv@ 1 @db.rev@ @//depot/a@ 2 7 @delete@ @text@ @@ 0 0\n") ≡ read Put deleted []
unfolding row_at
reads_deleted = refl

prints_deleted : spelling Put deleted ≡ codes "@pv@ 1 @db.rev@ @//depot/a@ 2 7 @delete@ @text@ @@ 0 0\n"
unfolding digits
prints_deleted = refl

-- a table that version 2 doesn't have, a move in version 1, and in version 2 an action that isn't of a move
versions_apart : map record_at (codes "@pv@ 2 @db.have@ @ws1@" ∷ codes "@pv@ 1 @db.working@ @a@ @c@ 1 @move/add@ @text@" ∷ codes "@pv@ 2 @db.working@ @a@ @c@ 1 @edit@ " ∷ []) ≡
    wrong Table 11 ∷ wrong Field 7 ∷ wrong Field 6 ∷ []
unfolding row_at
versions_apart = refl

-- ---- where a text ends too early, and where none goes on

cuts : map record_at ([] ∷ codes "@pv@" ∷ codes "@pv@ 1 @db.co" ∷ codes "@pv@ 1 @db.counters@ @a@" ∷ codes "@pv@ 1 @db.counters@ @a@ 7" ∷ []) ≡ ends ∷ ends ∷ ends ∷ ends ∷ ends ∷ []
unfolding row_at
cuts = refl

first_bad : map record_at (codes "@xv@" ∷ codes "@pv@ 12 " ∷ codes "@pv@ 1 @db.have@@" ∷ codes "@pv@ 1 @db.counters@ @a@b" ∷ codes "@pv@ 1 @db.counters@ @a@ 7 " ∷ []) ≡
    wrong Operator 3 ∷ wrong Version 2 ∷ wrong Table 1 ∷ wrong Field 1 ∷ wrong Field 1 ∷ []
unfolding row_at
first_bad = refl
