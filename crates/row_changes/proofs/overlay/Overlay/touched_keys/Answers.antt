use Rattle.std.proofs.Common.{ap, ◌∙◌}
use Rattle.std.specs.BTreeMap.Range.{entries_between}
use Rattle.std.specs.Map.{keys_of}
use Rattle.std.specs.declared.ops.Bound.TheVariants.{Included, Unbounded}
use Rattle.depot_rows.specs.db_records.declared.key.Key.{Key}
use Rattle.depot_rows.specs.db_records.Key.{key_cmp}
use Rattle.row_changes.specs.Overlay.{Entries}
use Rattle.row_changes.specs.Ranges.{leading}
use Rattle.row_changes.proofs.Touched.{walk-touched}
use Rattle.row_changes.proofs.overlay.Overlay.touched_keys.Goals as goal

pub returns : goal.returns
returns c =
    let range = c.args.range.now in
    let entries : Entries = c.args.self.now.touched.entries in
    c.in_ok-found.ensures
    ∙ ap (λ (es : Entries). leading range (keys_of es)) (c.range.ensures.between tt)
    ∙ ap (λ (k : Key). leading range (keys_of (entries_between key_cmp (Included k) Unbounded entries))) c.in_ok-first.ensures
    ∙ walk-touched range entries c.range.ensures.ordered
