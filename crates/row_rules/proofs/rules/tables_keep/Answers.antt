use Rattle.std.proofs.Common.{Bool, ap, ◌∙◌}
use Rattle.std.specs.Prelude.{◌&&◌}
use Rattle.std.specs.List.{list_all}
use Rattle.depot_rows.specs.db_records.declared.table.TableId.{TableId}
use Rattle.depot_rows.specs.db_records.declared.table.TableId.TheVariants.{Counter, Group, Protect, Domain, Have, Label, Integed, Resolve, Working, Change}
use Rattle.depot_rows.specs.table_store.Tables.{version_of}
use Rattle.row_rules.specs.Stored.{stored}
use Rattle.row_rules.specs.Tests.{keeps}
use Rattle.row_rules.proofs.rules.tables_keep.Goals as goal

pub returns : goal.returns
returns c =
    let f : TableId → Bool = λ table. list_all (keeps (stored c.args.tables.now)) (version_of c.args.tables.now table).rows in
    (c.in_ok-counter.ensures ∙ ap (λ (b : Bool). f Counter && b) (c.in_ok-group.ensures ∙ ap (λ (b : Bool). f Group && b) (c.in_ok-protect.ensures ∙ ap (λ (b : Bool). f Protect && b) (c.in_ok-domain.ensures ∙ ap (λ (b : Bool). f Domain && b) (c.in_ok-have.ensures ∙ ap (λ (b : Bool). f Have && b) (c.in_ok-label.ensures ∙ ap (λ (b : Bool). f Label && b) (c.in_ok-integed.ensures ∙ ap (λ (b : Bool). f Integed && b) (c.in_ok-resolve.ensures ∙ ap (λ (b : Bool). f Resolve && b) (c.in_ok-working.ensures ∙ ap (λ (b : Bool). f Working && b) (c.in_ok-change.ensures ∙ ap (λ (b : Bool). f Change && b) c.in_ok-rev.ensures))))))))))
