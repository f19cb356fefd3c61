use Rattle.std.proofs.Common.{sym, ap, ◌∙◌}
use Rattle.std.specs.Prelude.{option_map}
use Rattle.std.specs.Option.{option_copied}
use Rattle.depot_rows.specs.db_records.declared.record.Record.TheVariants.{Working}
use Rattle.opened_files.proofs.Ends.{end_told, no_end}
use Rattle.opened_files.proofs.partners.named_end.Goals as goal

pub returns-in_ok-other-in-Some : goal.returns-in_ok-other-in-Some
returns-in_ok-other-in-Some c = λ d sound working.
    c.in_ok-other-in-Some.ensures
    ∙ end_told d c.args.client.now c.args.path.now c.in-Some.row.now sound
    (ap (λ r. option_map Working (option_copied r)) (sym c.in-Some.is) ∙ c.in_ok-row.ensures d working)

pub returns-in-None : goal.returns-in-None
returns-in-None c = λ d sound working.
    no_end d c.args.client.now c.args.path.now (ap (λ r. option_map Working (option_copied r)) (sym c.in-None.is) ∙ c.in_ok-row.ensures d working)
