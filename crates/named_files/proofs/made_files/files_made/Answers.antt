use Rattle.std.proofs.Common.{ℕ, List, ap, subst, sym, ◌∙◌}
use Rattle.std.specs.Prelude.{filter, flat_map}
use Rattle.std.specs.List.{list_any}
use Rattle.depot_rows.specs.db_records.declared.table.TableId.TheVariants as table_ids
use Rattle.depot_rows.specs.table_changes.Changed.{rows_of}
use Rattle.depot_rows.specs.table_store.Marks.{is_of_change}
use Rattle.depot_rows.specs.depot_model.Arguments.{submitted}
use Rattle.depot_rows.specs.depot_model.Choice.{made_by}
use Rattle.depot_rows.specs.depot_model.Revisions.{revisions}
use Rattle.named_files.specs.Beginnings.{has_one, in_turn}
use Rattle.named_files.specs.Listed.{path_revised}
use Rattle.named_files.specs.declared.listing.Listing.TheVariants.{Submitted}
use Rattle.named_files.proofs.Joining.{joined}
use Rattle.depot_rows.proofs.Sorted.{filter_rises}
use Rattle.depot_rows.specs.Rising.{Rise}
use Rattle.named_files.proofs.Sifting.{sifted}
use Rattle.named_files.proofs.Told.{files_rise}
use Rattle.named_files.proofs.made_files.files_made.Goals as goal

pub returns : goal.returns
returns c = λ d sound has test passes.
    let change = c.args.change in
    let files = flat_map path_revised (filter (is_of_change change) (rows_of c.args.tables.now table_ids.Rev)) in
    let told = c.rows_tell_made.ensures d change sound has in
    let beginnings = c.in_ok-beginnings.beginnings in
    let rise : Rise files = subst Rise (sym told) (filter_rises (λ path. list_any (made_by change) (revisions d path)) (submitted d) (files_rise Submitted d sound)) in
    sifted (has_one beginnings) test (λ path e. c.in_ok-beginnings.ensures.every path (passes path e)) c.in_ok-paths.paths files
    (c.in_ok-paths.ensures ∙ ap (λ (texts : List (List ℕ)). in_turn texts files) c.as_slice.ensures ∙ joined files rise beginnings c.in_ok-beginnings.ensures.apart)
    ∙ ap (filter test) told
