-- What a row of a revision says, from what it says without the place of its content.
use Rattle.std.proofs.Common.{◌≡◌, Some, ap}
use Rattle.depot_rows.specs.db_records.declared.record.Record.{Record}
use Rattle.depot_rows.specs.db_records.declared.record.Record.TheVariants.{Rev}
use Rattle.depot_rows.specs.db_records.declared.rows.RevRecord.{RevRecord}
use Rattle.revision_reads.specs.History.{seen}

-- the row of a revision, or another one
abbrev pub rev_or : RevRecord → Record → RevRecord
rev_or other (Rev r) = r
rev_or other _ = other

pub seen_field : {A : Type 0} → (field : RevRecord → A) → (r : RevRecord) → (s : Record) → seen r ≡ s → field (rev_or r (seen r)) ≡ field (rev_or r s)
seen_field field r s e = ap (λ (x : Record). field (rev_or r x)) e

pub one_seen : (r s : Record) → Some r ≡ Some s → r ≡ s
one_seen r s e = cc
