-- All rules: those of rows, and that of the fixes of a change.
use Rattle.std.proofs.Common.{◌≡◌, ◌↔◌, Bool, true, List, IsTrue}
use Rattle.std.specs.Prelude.{◌&&◌}
use Rattle.std.proofs.lemmas.Bool.{and_parts}
use Rattle.depot_rows.specs.db_records.declared.record.Record.{Record}
use Rattle.depot_rows.specs.db_records.declared.table.TableId.{TableId}
use Rattle.depot_rows.specs.db_records.declared.table.TableId.TheVariants as tables
use Rattle.depot_rows.specs.table_store.Rows.{IsRising}
use Rattle.depot_rows.specs.depot_model.Rules.{KeepRules}
use Rattle.row_rules.specs.Fixing.{HaveFewFixes}
use Rattle.row_rules.specs.Kept.{KeepRowRules}
use Rattle.row_rules.proofs.FewFixes.{fixes_fit, few_rows}
use Rattle.row_rules.proofs.Joined.{rows_in}

pub whole : (lists : TableId → List Record) → ((table : TableId) → IsRising (lists table)) → (rows few : Bool) → IsTrue rows ↔ KeepRowRules (rows_in lists)
    → IsTrue few ↔ HaveFewFixes (lists tables.Domain) → IsTrue (rows && few) ↔ KeepRules (rows_in lists)
whole lists up rows few r f = (
  λ e. let k = r.0 (and_parts rows few e).0 in record {
    each = k.each;
    revisions_run = k.revisions_run;
    changes_rise = k.changes_rise;
    lines_run = k.lines_run;
    one_lock = k.one_lock;
    top_is = k.top_is;
    top_fits = k.top_fits;
    generation_fits = k.generation_fits;
    fixes_fit = fixes_fit lists up k.each k.top_fits (f.0 (and_parts rows few e).1);
  },
  λ k.
      let row_rules : KeepRowRules (rows_in lists) = record {
        each = k.each;
        revisions_run = k.revisions_run;
        changes_rise = k.changes_rise;
        lines_run = k.lines_run;
        one_lock = k.one_lock;
        top_is = k.top_is;
        top_fits = k.top_fits;
        generation_fits = k.generation_fits;
      } in
      let both : (a b : Bool) → a ≡ true → b ≡ true → (a && b) ≡ true = λ a b p q. λ i. p i && q i in
      both rows few (r.1 row_rules) (f.1 (few_rows lists up k.each k.top_fits k.fixes_fit)),
)
