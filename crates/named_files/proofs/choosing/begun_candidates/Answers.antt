use Rattle.std.proofs.Common.{List, ℕ, ap, ◌∙◌}
use Rattle.std.specs.Prelude.{filter}
use Rattle.depot_rows.specs.table_changes.Changed.{rows_of}
use Rattle.named_files.specs.Beginnings.{has_one, in_turn}
use Rattle.named_files.specs.Listed.{listed, listing_table}
use Rattle.named_files.proofs.Sifting.{sifted}
use Rattle.named_files.proofs.choosing.begun_candidates.Goals as goal

pub returns-clause-rows : goal.returns-clause-rows
returns-clause-rows c = λ test passes.
    let listing = c.args.listing.now in
    let files = listed listing (rows_of c.args.tables.now (listing_table listing)) in
    let beginnings = c.in_ok-beginnings.beginnings in
    sifted (has_one beginnings) test (λ path e. c.in_ok-beginnings.ensures.every path (passes path e)) c.in_ok-paths.paths files
    (c.in_ok-paths.ensures ∙ ap (λ (texts : List (List ℕ)). in_turn texts files) c.as_slice.ensures ∙ c.files_join.ensures beginnings c.in_ok-beginnings.ensures.apart)

pub returns-clause-depot : goal.returns-clause-depot
returns-clause-depot c = λ d sound has test passes.
    let listing = c.args.listing.now in
    let files = listed listing (rows_of c.args.tables.now (listing_table listing)) in
    let beginnings = c.in_ok-beginnings.beginnings in
    sifted (has_one beginnings) test (λ path e. c.in_ok-beginnings.ensures.every path (passes path e)) c.in_ok-paths.paths files
    (c.in_ok-paths.ensures ∙ ap (λ (texts : List (List ℕ)). in_turn texts files) c.as_slice.ensures ∙ c.files_join.ensures beginnings c.in_ok-beginnings.ensures.apart)
    ∙ ap (filter test) (c.rows_list_files.ensures d sound has)
