use Rattle.std.proofs.Common.{ℕ, List, sym, ap, subst, ◌∙◌}
use Rattle.std.specs.Prelude.{filter}
use Rattle.std.specs.List.{All}
use Rattle.depot_rows.specs.db_records.declared.rows.RevRecord.{RevRecord}
use Rattle.depot_rows.specs.table_changes.Changed.{rows_of}
use Rattle.named_files.specs.Beginnings.{has_one, in_turn}
use Rattle.named_files.specs.HeadRows.{IsHead, heads_in_turn}
use Rattle.named_files.specs.Listed.{listed, listing_table}
use Rattle.named_files.proofs.Sifting.{sifted}
use Rattle.named_files.proofs.head_rows.headed_candidates.Goals as goal

pub returns-then-not-has_wildcard-clause-depot : goal.returns-then-not-has_wildcard-clause-depot
returns-then-not-has_wildcard-clause-depot c = λ d sound has test passes.
    c.in_ok-paths.ensures test passes ∙ ap (filter test) (c.rows_list_files.ensures d sound has)

pub returns-clause-depot : goal.returns-clause-depot
returns-clause-depot c = λ d sound has test passes.
    let listing = c.args.listing.now in
    let files = listed listing (rows_of c.args.tables.now (listing_table listing)) in
    let beginnings = c.in_ok-beginnings.beginnings in
    sifted (has_one beginnings) test (λ path e. c.in_ok-beginnings.ensures.every path (passes path e)) c.in_ok-found.found.paths files
    (c.in_ok-found.ensures.paths ∙ ap (λ (texts : List (List ℕ)). in_turn texts files) c.as_slice.ensures ∙ c.files_join.ensures beginnings c.in_ok-beginnings.ensures.apart)
    ∙ ap (filter test) (c.rows_list_files.ensures d sound has)

pub returns-clause-heads : goal.returns-clause-heads
returns-clause-heads c =
    let listing = c.args.listing.now in
    let rows = rows_of c.args.tables.now (listing_table listing) in
    subst (λ (heads : List RevRecord). All (IsHead rows) heads) (sym (c.in_ok-found.ensures.heads ∙ ap (heads_in_turn listing rows) c.as_slice.ensures))
    (c.last_rows_are_heads.ensures c.in_ok-beginnings.beginnings)
