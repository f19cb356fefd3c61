use Rattle.std.proofs.Common.{Bor, Option, sym, ap, ◌∙◌}
use Rattle.std.specs.Prelude.{option_map}
use Rattle.std.specs.Option.{option_copied}
use Rattle.depot_rows.specs.db_records.declared.record.Record.{Record}
use Rattle.depot_rows.specs.db_records.declared.record.Record.TheVariants as records
use Rattle.depot_rows.specs.db_records.declared.rows.ChangeRecord.{ChangeRecord}
use Rattle.change_lists.specs.Listed.{asked_of}
use Rattle.change_lists.proofs.listing.tell_change.Goals as goal

pub returns-in_ok-told-in-Some : goal.returns-in_ok-told-in-Some
returns-in_ok-told-in-Some c = λ d has_change.
    let f = c.args.filter.now in
    c.in_ok-told-in-Some.ensures
    ∙ ap (λ (r : Option Record). asked_of f.status.now f.user.now f.client.now r)
    (ap (λ (o : Option (Bor ChangeRecord)). option_map records.Change (option_copied o)) (sym c.in-Some.is) ∙ c.change_of-found.ensures d has_change)
