use Rattle.std.proofs.Common.{◌≡◌, ℕ, true, List, [], ◌∷◌, ◌++◌, refl, ap, ◌∙◌}
use Rattle.std.specs.Prelude.{filter, if◌then◌else◌}
use Rattle.depot_rows.specs.depot_path.Bytes.{begins_with}
use Rattle.depot_rows.specs.depot_path.Path.{printed}
use Rattle.depot_rows.specs.table_changes.Changed.{rows_of}
use Rattle.named_files.specs.Listed.{has_beginning, listed, listing_table}
use Rattle.named_files.proofs.choosing.all_files.Goals as goal

any_text : (text : List ℕ) → begins_with text [] ≡ true
any_text [] = refl
any_text (b ∷ text) = refl

all_kept : (paths : List (List ℕ)) → filter (has_beginning []) paths ≡ paths
all_kept [] = refl
all_kept (path ∷ paths) =
    ap (λ b. if b then path ∷ filter (has_beginning []) paths else filter (has_beginning []) paths) (any_text (printed path)) ∙ ap (λ (more : List (List ℕ)). path ∷ more) (all_kept paths)

pub returns : goal.returns
returns c = λ d sound has.
    let listing = c.args.listing.now in
    let files = listed listing (rows_of c.args.tables.now (listing_table listing)) in
    c.in_ok-add_files_below.ensures ∙ ap (λ (l : List (List ℕ)). l ++ filter (has_beginning c.new-beginning.result) files) c.new-paths.ensures
    ∙ ap (λ (b : List ℕ). filter (has_beginning b) files) c.new-beginning.ensures ∙ all_kept files ∙ c.rows_list_files.ensures d sound has
