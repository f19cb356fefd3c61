use Rattle.std.proofs.Common.{ℕ, List, ◌++◌, ap, sym, ◌∙◌}
use Rattle.depot_rows.specs.table_changes.Changed.{rows_of}
use Rattle.named_files.specs.Listed.{listed, listing_table}
use Rattle.named_files.proofs.Fronts.{files_begin, own_files_begin}
use Rattle.named_files.proofs.choosing.add_files_below.Goals as goal

pub loop-row-init : goal.loop-row-init
loop-row-init c =
    let listing = c.args.listing.now in
    ap (λ (l : List (List ℕ)). c.args.paths.now ++ l)
    (ap (listed listing) (c.into_iter-row-iterator.ensures.into_iter_gives ∙ c.in_ok-row-items.ensures)
    ∙ files_begin listing c.args.beginning.now (rows_of c.args.tables.now (listing_table listing)))

pub returns-in-Some : goal.returns-in-Some
returns-in-Some c =
    let listing = c.args.listing.now in
    c.in_ok-add_own_below.ensures
    ∙ ap (λ (l : List (List ℕ)). c.args.paths.now ++ l)
    (own_files_begin listing c.in-Some.client c.args.beginning.now (rows_of c.args.tables.now (listing_table listing)) (sym c.in_ok-client.ensures ∙ c.in-Some.is))
