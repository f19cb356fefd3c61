-- The counter that tells the generation.
use Rattle.std.proofs.Common.{◌≡◌, ℕ, Bool, true, false, Option, Some, None, refl, sym, ap, ◌∙◌, subst}
use Rattle.std.specs.Prelude.{IsSome}
use Rattle.depot_rows.specs.db_records.declared.record.Record.{Record}
use Rattle.depot_rows.specs.db_records.declared.change.Op.TheVariants.{Put, Replace}
use Rattle.depot_rows.specs.db_records.Record.{key_of, table_of}
use Rattle.depot_rows.specs.table_store.Rows.{row_at}
use Rattle.depot_rows.specs.table_store.Tables.{AllEmpty}
use Rattle.depot_rows.specs.table_store.declared.tables.Tables.{Tables}
use Rattle.depot_rows.specs.table_changes.Changed.{AllRows, FitsIn, changed_in, no_rows, rows_of}
use Rattle.replica_pull.specs.Feed.{HasMadeOne}
use Rattle.replica_pull.specs.Replica.{beginning, telling}

pub empty_rows : (tables : Tables) → AllEmpty tables → rows_of tables ≡ no_rows
empty_rows tables empty = λ i table. (empty.0 table i).rows

there : (o : Option Record) → (o ≡ None → ⊥) → IsSome o
there None not = absurd (not refl)
there (Some x) not = refl

-- where it is there it can be replaced
fits_one : (rows : AllRows) (g : ℕ) → (FitsIn rows (telling Put g) → ⊥) → FitsIn rows (telling Replace g)
fits_one rows g not =
    let row = (telling Put g).row in
    record { of_table = refl; at_key = there (row_at (key_of row) (rows (table_of row))) (λ none. not (record { of_table = refl; at_key = none })) }

pub first_told : (old new : AllRows) (g : ℕ) (made : Bool) → made ≡ true → HasMadeOne old new (telling Put g) made → new ≡ changed_in old (beginning g)
first_told old new g true is has = has.1
first_told old new g false is has = absurd cc

pub second_told : (old mid new : AllRows) (g : ℕ) (made again : Bool) → made ≡ false → HasMadeOne old mid (telling Put g) made → HasMadeOne mid new (telling Replace g) again → new ≡ changed_in old (beginning g)
second_told old mid new g true again is has more = absurd cc
second_told old mid new g false true is has more = more.1 ∙ ap (λ (rows : AllRows). changed_in rows (beginning g)) has.1
second_told old mid new g false false is has more = absurd (more.0 (subst (λ (rows : AllRows). FitsIn rows (telling Replace g)) (sym has.1) (fits_one old g has.0)))
