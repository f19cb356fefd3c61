-- The rows of a submitted change (Helix Core database schema reference, the tables of changes, of revisions and of integration records). Their order,
-- and that the first of two with one key stays, is this project's own choice.
use Rattle.std.specs.Prelude.{ℕ, List, [], ◌∷◌, ◌++◌, map, Some}
use Rattle.depot_rows.specs.depot_path.Path.{printed}
use Rattle.depot_rows.specs.db_records.Record.{key_of}
use Rattle.depot_rows.specs.db_records.declared.record.Record.{Record}
use Rattle.depot_rows.specs.db_records.declared.record.Record.TheVariants as rows
use Rattle.depot_rows.specs.db_records.declared.rows.IntegedRecord.{IntegedRecord}
use Rattle.depot_rows.specs.depot_model.Records.{into_word}
use Rattle.depot_rows.specs.depot_model.Rows.{how_word}
use Rattle.depot_rows.specs.depot_model.Rules.{Rows}
use Rattle.depot_rows.specs.declared.deed.Credit.{Credit}
use Rattle.depot_rows.specs.declared.deed.Entry.{Entry}
use Rattle.depot_rows.specs.declared.deed.Landing.{Landing}
use Rattle.depot_rows.specs.Deed.{how_of}
use Rattle.depot_rows.specs.Effects.{put_at, rev_row, change_row, pairs_of}

-- what an entry's revision takes in from another file
abbrev pub taken_in : ℕ → Entry → Credit → IntegedRecord
taken_in change e c = record {
  to_file = printed e.path;
  from_file = printed c.from;
  start_from = c.first;
  end_from = c.last;
  start_to = e.rev;
  end_to = e.rev;
  how = how_word (how_of c.how);
  change = change;
}

-- the same as the other file has it
abbrev pub given_to : ℕ → Entry → Credit → IntegedRecord
given_to change e c = record {
  to_file = printed c.from;
  from_file = printed e.path;
  start_from = e.rev;
  end_from = e.rev;
  start_to = c.first;
  end_to = c.last;
  how = into_word (how_of c.how);
  change = change;
}

abbrev pub integed_rows : List IntegedRecord → List Record
integed_rows pairs = map (λ r. rows.Integed r) pairs

-- the change's own row, those of its revisions, and both of each integration
abbrev pub landing_rows : Landing → List Record
landing_rows l = change_row l ∷ map (rev_row l.change) l.entries ++ integed_rows (pairs_of l)

-- the rows with these, of two with one key the first
abbrev pub with_rows : List Record → Rows → Rows
with_rows [] before = before
with_rows (row ∷ more) before = put_at (key_of row) (Some row) (with_rows more before)
