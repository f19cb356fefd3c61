use Rattle.std.proofs.Common.{Bool, ℕ, List, [], ◌∷◌, ◌++◌, append_assoc, append-nil, ap, subst, sym, ◌∙◌}
use Rattle.std.specs.Prelude.{filter, if◌then◌else◌}
use Rattle.depot_rows.specs.db_records.declared.key.Key.{Key}
use Rattle.depot_rows.specs.db_records.declared.record.Record.{Record}
use Rattle.depot_rows.specs.db_records.declared.table.TableId.{TableId}
use Rattle.depot_rows.specs.table_store.Marks.{is_of_client}
use Rattle.depot_rows.specs.table_store.Rows.{AllOfTable, TableRows, rows_from}
use Rattle.depot_rows.specs.table_store.Tables.{version_of}
use Rattle.named_files.specs.Listed.{is_in_front, leading, listed, listed_text, paths_in}
use Rattle.named_files.proofs.Walking.{walk_own}
use Rattle.named_files.proofs.choosing.add_own_below.Goals as goal

pub loop-row-init : goal.loop-row-init
loop-row-init c =
    let listing = c.args.listing.now in
    let beginning = c.args.beginning.now in
    let client = c.args.client.now in
    let rows : List Record = c.version-version.result.now.rows in
    let table = c.table-in_order.ensures in
    let of = subst (λ (t : TableId). AllOfTable t rows) (c.version-version.ensures.table ∙ c.table.ensures) table.of_table in
    ap (λ (l : List Record). c.args.paths.now ++ listed listing l)
    (ap (leading listing beginning)
    (c.into_iter-row-iterator.ensures.into_iter_gives ∙ c.of_client_from-row-items.ensures ∙ ap (λ (k : Key). filter (is_of_client client) (rows_from k rows)) c.in_ok-first.ensures)
    ∙ walk_own listing beginning (is_of_client client) rows table.rising of
    ∙ ap (λ (v : TableRows). filter (is_in_front listing beginning) (filter (is_of_client client) v.rows)) (c.version-version.ensures.rows ∙ ap (version_of c.args.tables.now) c.table.ensures))

pub returns-then-not-stands_in : goal.returns-then-not-stands_in
returns-then-not-stands_in c =
    let listing = c.args.listing.now in
    let more = leading listing c.args.beginning.now c.next.new.self in
    let row = c.in-Some.row.now in
    sym (append-nil c.loop-row.paths)
    ∙ ap (λ (b : Bool). c.loop-row.paths ++ listed listing (if b then row ∷ more else [])) c.if-not-stands_in.ensures
    ∙ ap (λ (rows : List Record). c.loop-row.paths ++ listed listing (leading listing c.args.beginning.now rows)) (sym c.in-Some.ensures.steps)
    ∙ c.loop-row.invariant

pub loop-row-preserved : goal.loop-row-preserved
loop-row-preserved c =
    let listing = c.args.listing.now in
    let more = leading listing c.args.beginning.now c.next.new.self in
    let row = c.in-Some.row.now in
    ap (λ (paths : List (List ℕ)). paths ++ listed listing more) c.in_ok-add_row.ensures
    ∙ append_assoc c.loop-row.paths (paths_in (listed_text listing row)) (listed listing more)
    ∙ ap (λ (b : Bool). c.loop-row.paths ++ listed listing (if b then row ∷ more else [])) c.if-not-stands_in.ensures
    ∙ ap (λ (rows : List Record). c.loop-row.paths ++ listed listing (leading listing c.args.beginning.now rows)) (sym c.in-Some.ensures.steps)
    ∙ c.loop-row.invariant

pub returns : goal.returns
returns c =
    let listing = c.args.listing.now in
    sym (append-nil c.loop-row.paths)
    ∙ ap (λ (rows : List Record). c.loop-row.paths ++ listed listing (leading listing c.args.beginning.now rows)) (sym c.in-None.ensures.steps.0)
    ∙ c.loop-row.invariant
