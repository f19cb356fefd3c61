use Rattle.std.proofs.Common.{◌≡◌, ◌+◌, ◌<◌, ℕ, List, sym, ap, subst, ◌∙◌}
use Rattle.std.specs.Prelude.{All}
use Rattle.checkpoint_file.specs.Checkpoint.{IsCheckpointOf, puts_of}
use Rattle.depot_rows.specs.db_records.declared.change.Change.{Change}
use Rattle.journal_groups.specs.Groups.{AreRecords}
use Rattle.depot_rows.specs.table_changes.Changed.{AllRows, changed_by, rows_of}
use Rattle.depot_checkpoint.specs.Values.{IsWide}
use Rattle.depot_checkpoint.proofs.Checkpoints.{next_has, next_of}
use Rattle.depot_checkpoint.proofs.taking.next_text.Goals as goal

pub returns : goal.returns
returns c = λ was d has stand tells generation.
    let rows = rows_of c.args.tables.now in
    let changes = c.in_ok-changes.changes.items in
    let text = c.in_ok-text.text in
    let slice : c.as_slice-items.result.now ≡ changes = c.as_slice-items.ensures.value in
    let below : was.generation < 4095 = subst (λ (n : ℕ). n < 4095) (sym generation) c.requires in
    let Wide : List Change → Type 0 = λ l. All (λ (change : Change). IsWide change.row) l in
    let changed : rows_of c.in_ok-changed.changed ≡ changed_by rows changes = c.in_ok-changed.ensures.rows ∙ ap (changed_by rows) slice in
    let Printed : AllRows → ℕ → Type 0 = λ after n. AreRecords (puts_of after) → IsCheckpointOf (n + 1) after text in
    let printed = subst (λ (n : ℕ). Printed (changed_by rows changes) n) (sym generation) (subst (λ (after : AllRows). Printed after c.args.generation) changed c.in_ok-text.ensures.checkpoint) in
    let differences = c.in_ok-changes.ensures.differences d stand in
    let wide = subst Wide slice c.know_values.ensures in (
      next_of was rows d changes has stand tells below differences wide text printed,
      next_has was rows d changes has stand tells below differences wide text printed,
    )
