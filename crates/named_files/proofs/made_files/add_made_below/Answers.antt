use Rattle.std.proofs.Common.{Bool, ℕ, List, [], ◌∷◌, ◌++◌, append_assoc, append-nil, ap, subst, sym, ◌∙◌}
use Rattle.std.specs.Prelude.{filter, flat_map, if◌then◌else◌}
use Rattle.depot_rows.specs.db_records.declared.key.Key.{Key}
use Rattle.depot_rows.specs.db_records.declared.record.Record.{Record}
use Rattle.depot_rows.specs.db_records.declared.table.TableId.{TableId}
use Rattle.depot_rows.specs.db_records.declared.table.TableId.TheVariants.{Rev}
use Rattle.depot_rows.specs.table_changes.Changed.{rows_of}
use Rattle.depot_rows.specs.table_store.Marks.{is_of_change}
use Rattle.depot_rows.specs.table_store.Rows.{AllOfTable, TableRows, rows_from}
use Rattle.named_files.specs.Listed.{is_in_front, leading, path_revised}
use Rattle.named_files.specs.declared.listing.Listing.TheVariants.{Submitted}
use Rattle.named_files.proofs.Fronts.{revised_begin}
use Rattle.named_files.proofs.Walking.{walk_own}
use Rattle.named_files.proofs.made_files.add_made_below.Goals as goal

pub loop-row-init : goal.loop-row-init
loop-row-init c =
    let beginning = c.args.beginning.now in
    let made = is_of_change c.args.change in
    let rows : List Record = c.version-version.result.now.rows in
    let table = c.table-in_order.ensures in
    let of = subst (λ (t : TableId). AllOfTable t rows) c.version-version.ensures.table table.of_table in
    ap (λ (paths : List (List ℕ)). c.args.paths.now ++ paths)
    (ap (λ (l : List Record). flat_map path_revised (leading Submitted beginning l))
    (c.into_iter-row-iterator.ensures.into_iter_gives ∙ c.of_change_from-row-items.ensures ∙ ap (λ (k : Key). filter made (rows_from k rows)) c.in_ok-first.ensures)
    ∙ ap (flat_map path_revised) (walk_own Submitted beginning made rows table.rising of)
    ∙ ap (λ (v : TableRows). flat_map path_revised (filter (is_in_front Submitted beginning) (filter made v.rows))) c.version-version.ensures.rows
    ∙ revised_begin beginning (filter made (rows_of c.args.tables.now Rev)))

pub returns-then-not-stands_in : goal.returns-then-not-stands_in
returns-then-not-stands_in c =
    let more = leading Submitted c.args.beginning.now c.next.new.self in
    let row = c.in-Some.row.now in
    sym (append-nil c.loop-row.paths)
    ∙ ap (λ (b : Bool). c.loop-row.paths ++ flat_map path_revised (if b then row ∷ more else [])) c.if-not-stands_in.ensures
    ∙ ap (λ (rows : List Record). c.loop-row.paths ++ flat_map path_revised (leading Submitted c.args.beginning.now rows)) (sym c.in-Some.ensures.steps)
    ∙ c.loop-row.invariant

pub loop-row-preserved : goal.loop-row-preserved
loop-row-preserved c =
    let more = leading Submitted c.args.beginning.now c.next.new.self in
    let row = c.in-Some.row.now in
    ap (λ (paths : List (List ℕ)). paths ++ flat_map path_revised more) c.in_ok-add_made.ensures
    ∙ append_assoc c.loop-row.paths (path_revised row) (flat_map path_revised more)
    ∙ ap (λ (b : Bool). c.loop-row.paths ++ flat_map path_revised (if b then row ∷ more else [])) c.if-not-stands_in.ensures
    ∙ ap (λ (rows : List Record). c.loop-row.paths ++ flat_map path_revised (leading Submitted c.args.beginning.now rows)) (sym c.in-Some.ensures.steps)
    ∙ c.loop-row.invariant

pub returns : goal.returns
returns c =
    sym (append-nil c.loop-row.paths)
    ∙ ap (λ (rows : List Record). c.loop-row.paths ++ flat_map path_revised (leading Submitted c.args.beginning.now rows)) (sym c.in-None.ensures.steps.0)
    ∙ c.loop-row.invariant
