-- Changes that fit the rows of tables fit those of others that agree with them.
use Rattle.std.proofs.Common.{List, [], ◌∷◌, ap, subst}
use Rattle.std.specs.Prelude.{◌==◌, if◌then◌else◌}
use Rattle.depot_rows.specs.db_records.Record.{table_of}
use Rattle.depot_rows.specs.db_records.Table.{table_number}
use Rattle.depot_rows.specs.db_records.declared.change.Change.{Change}
use Rattle.depot_rows.specs.db_records.declared.record.Record.{Record}
use Rattle.depot_rows.specs.table_changes.Changed.{AllFitIn, AllRows, changed_in}
use Rattle.depot_rows.specs.table_store.Rows.{Fits, changed_once}
use Rattle.needed_tables.specs.Needed.{AgreeOnChanged}

module _ (rows all : AllRows) (c : Change) where
  -- they agree still after one more change of both
  agree_behind : (changes : List Change) → AgreeOnChanged rows all changes → AgreeOnChanged (changed_in rows c) (changed_in all c) changes
  agree_behind [] agree = tt
  agree_behind (x ∷ xs) agree = (
    ap (λ (l : List Record). if table_number (table_of x.row) == table_number (table_of c.row) then changed_once l c else l) agree.0,
    agree_behind xs agree.1,
  )

pub fit_alike : (rows all : AllRows) (changes : List Change) → AgreeOnChanged rows all changes → AllFitIn rows changes → AllFitIn all changes
fit_alike rows all [] agree fit = tt
fit_alike rows all (c ∷ cs) agree fit = (
  subst (λ (l : List Record). Fits (record { table = table_of c.row; rows = l }) c) agree.0 fit.0,
  fit_alike (changed_in rows c) (changed_in all c) cs (agree_behind rows all c cs agree.1) fit.1,
)
