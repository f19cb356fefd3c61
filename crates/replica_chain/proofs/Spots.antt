-- Where the last spot ends that changes name.
use Rattle.std.proofs.Common.{◌≡◌, ℕ, ◌+◌, ◌<◌, List, [], ◌∷◌, ◌++◌, length, take, get_or, refl, sym, ap, ◌∙◌, arith, max}
use Rattle.std.proofs.lemmas.List.{take_more}
use Rattle.depot_rows.specs.db_records.declared.change.Change.{Change}
use Rattle.depot_rows.specs.db_records.declared.change.Op.{Op}
use Rattle.depot_rows.specs.db_records.declared.change.Op.TheVariants.{Put, Replace, Remove}
use Rattle.depot_rows.specs.db_records.declared.record.Record.{Record}
use Rattle.depot_rows.specs.db_records.declared.record.Record.TheVariants.{Rev}
use Rattle.depot_rows.specs.db_records.declared.rows.RevRecord.{RevRecord}
use Rattle.replica_chain.specs.Copying.{IsOfRevision, named_end, named_ends}

spots_push : (changes : List Change) (c : Change) → named_ends (changes ++ c ∷ []) ≡ max (named_ends changes) (named_end c.op c.row)
spots_push [] c = omega arith
spots_push (x ∷ xs) c = omega (arith, spots_push xs c)

-- one change more
pub spots_more : (changes : List Change) (i : ℕ) (c : Change) → i < length changes → c ≡ get_or changes i c → named_ends (take (i + 1) changes) ≡ max (named_ends (take i changes)) (named_end c.op c.row)
spots_more changes i c within is =
    ap named_ends (take_more changes i c within ∙ ap (λ (x : Change). take i changes ++ x ∷ []) (sym is)) ∙ spots_push (take i changes) c

-- of a revision that is put or replaced
pub revision_end : (c : Change) (row : RevRecord) → IsOfRevision c row → named_end c.op c.row ≡ row.at + row.length
revision_end c row of = ap (λ (r : Record). named_end c.op r) of.is ∙ go c.op of.stays
  where
    go : (op : Op) → (op ≡ Remove → ⊥) → named_end op (Rev row) ≡ row.at + row.length
    go Put not = refl
    go Replace not = refl
    go Remove not = absurd (not refl)

-- of any other change
pub no_revision_end : (c : Change) → ((row : RevRecord) → IsOfRevision c row → ⊥) → named_end c.op c.row ≡ 0
no_revision_end c none = go c.op c.row (λ row is stays. none row (record { is = is; stays = stays }))
  where
    of_row : (r : Record) → ((row : RevRecord) → r ≡ Rev row → ⊥) → Rattle.recovery.specs.Holding.spot_end r ≡ 0
    of_row (Rev row) not = absurd (not row refl)
    of_row _ not = refl

    go : (op : Op) (r : Record) → ((row : RevRecord) → r ≡ Rev row → (op ≡ Remove → ⊥) → ⊥) → named_end op r ≡ 0
    go Remove r not = refl
    go Put r not = of_row r (λ row is. not row is (λ e. cc))
    go Replace r not = of_row r (λ row is. not row is (λ e. cc))
