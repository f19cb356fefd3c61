-- What a row says that a key found (Helix Core database schema reference, "db.have", "db.label").
use Rattle.std.specs.Prelude.{ℕ, Option, Some}
use Rattle.depot_rows.specs.db_records.declared.record.Record.{Record}
use Rattle.depot_rows.specs.db_records.declared.record.Record.TheVariants.{Have, Label}

-- its revision, 0 where there is no row
abbrev pub have_in : Option Record → ℕ
have_in (Some (Have r)) = r.rev
have_in _ = 0

abbrev pub label_in : Option Record → ℕ
label_in (Some (Label r)) = r.rev
label_in _ = 0
