use Rattle.std.proofs.Common.{ap, sym, ◌∙◌, Option}
use Rattle.std.specs.Prelude.{option_map}
use Rattle.std.specs.Option.{option_copied}
use Rattle.depot_rows.specs.db_records.declared.record.Record.TheVariants.{Change}
use Rattle.depot_rows.specs.db_records.declared.rows.ChangeRecord.{ChangeRecord}
use Rattle.depot_rows.specs.table_changes.Changed.{rows_of}
use Rattle.change_lists.proofs.Shown.{found_made, none_made}
use Rattle.change_lists.proofs.showing.show_found.Goals as goal

pub returns-in_ok-step-in-Some : goal.returns-in_ok-step-in-Some
returns-in_ok-step-in-Some c = λ d caller sound asked has is.
    found_made (rows_of c.args.tables.now) d caller c.args.change sound c.in-Some.row.now c.in_ok-step-in-Some.step
    (ap (λ (r : Option ChangeRecord). option_map Change r) (sym (ap option_copied c.in-Some.is)) ∙ is) (c.in_ok-step-in-Some.ensures d caller sound asked has)

pub returns-in_ok-step-in-None : goal.returns-in_ok-step-in-None
returns-in_ok-step-in-None c = λ d caller sound asked has is.
    none_made (rows_of c.args.tables.now) d caller c.args.change sound c.in_ok-row-in-None.row c.in_ok-step-in-None.step
    (ap (λ (r : Option ChangeRecord). option_map Change r) (sym (ap option_copied c.in-None.is)) ∙ is) c.in_ok-row-in-None.ensures c.in_ok-step-in-None.ensures
