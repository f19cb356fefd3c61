use Rattle.std.proofs.Common.{◌≡◌, refl, sym, subst}
use Rattle.depot_rows.specs.db_records.Key.{key_table}
use Rattle.depot_rows.specs.depot_model.Records.{record_of}
use Rattle.depot_rows.specs.depot_model.Rules.{Rows, KeepRules}
use Rattle.row_rules.specs.Stored.{stored}
use Rattle.row_rules.proofs.laws.rows_of_depots_keep_rules.Goals as goal

pub returns : goal.returns
returns c = λ d stand.
    let alike : ◌≡◌ {A = Rows} (stored c.args.tables.now) (record_of d) = λ i key. stand.each (key_table key) key refl i in
    subst KeepRules (sym alike) stand.sound.rules
