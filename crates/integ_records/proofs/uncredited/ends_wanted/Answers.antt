use Rattle.std.proofs.Common.{◌∙◌}
use Rattle.std.specs.Prelude.{filter, not}
use Rattle.std.specs.List.{list_any}
use Rattle.depot_rows.specs.table_changes.Changed.{rows_of}
use Rattle.named_files.specs.declared.listing.Listing.TheVariants.{Submitted}
use Rattle.named_files.proofs.Wanting.{reads_wanted}
use Rattle.integ_records.specs.Crediting.{is_within}
use Rattle.integ_records.specs.Ends.{ends_of}
use Rattle.integ_records.proofs.uncredited.ends_wanted.Goals as goal

pub returns : goal.returns
returns c = λ d reads.
    let shown = reads.shown in
    let wanted = c.args.wanted.now in
    c.ends_outside-ends.ensures
    ∙ (λ i. ends_of (filter (λ n. not (list_any (is_within n) (c.as_slice-known.ensures i))) (c.deref.ensures.value i)))
    ∙ (λ i. ends_of (filter (λ n. not (c.in_ok-spans.ensures d n shown.sound reads.integed i))
    (c.in_ok-revs.ensures d shown.sound shown.has_rev shown.has_change
    (reads_wanted c.args.caller.now c.args.asker.now Submitted (rows_of c.args.tables.now) d shown wanted) i)))
