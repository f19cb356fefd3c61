use Rattle.std.proofs.Common.{ap, ◌∙◌}
use Rattle.depot_rows.specs.table_changes.Changed.{rows_of}
use Rattle.named_files.specs.Anywhere.{paths_in_turn}
use Rattle.named_files.specs.Listed.{listing_table}
use Rattle.named_files.specs.declared.listing.Listing.{Listing}
use Rattle.named_files.proofs.anywhere.anywhere_below.Goals as goal

pub returns : goal.returns
returns c = λ d sound has apart.
    let beginnings = c.args.beginnings.now in
    c.in_ok-paths.ensures
    ∙ ap (λ (l : Listing). paths_in_turn l (rows_of c.args.tables.now (listing_table l)) beginnings) c.in_ok-listing.ensures
    ∙ c.rows_tell_files.ensures d c.args.client.now beginnings sound has apart
