-- The records of one table more.
use Rattle.std.proofs.Common.{◌≡◌, ℕ, ◌+◌, ◌<◌, [], ◌∷◌, ◌++◌, List, length, take, get_or, ap, ◌∙◌}
use Rattle.std.proofs.lemmas.List.{append-nil, take_more}
use Rattle.std.proofs.lemmas.Grind.{flat_map-append}
use Rattle.depot_rows.specs.db_records.Table.{all_tables}
use Rattle.depot_rows.specs.db_records.declared.table.TableId.{TableId}
use Rattle.depot_rows.specs.db_records.declared.table.TableId.TheVariants.{Counter}
use Rattle.journal_groups.specs.Groups.{body_of, change_text}
use Rattle.depot_rows.specs.table_changes.Changed.{AllRows}
use Rattle.checkpoint_file.specs.Checkpoint.{puts, puts_in}

puts_more : (rows : AllRows) (tables : List TableId) (i : ℕ) → i < length tables → puts_in rows (take (i + 1) tables) ≡ puts_in rows (take i tables) ++ puts (rows (get_or tables i Counter))
puts_more rows tables i less =
    ap (puts_in rows) (take_more tables i Counter less)
    ∙ flat_map-append (λ (table : TableId). puts (rows table)) (take i tables) (get_or tables i Counter ∷ [])
    ∙ ap (λ l. puts_in rows (take i tables) ++ l) (append-nil (puts (rows (get_or tables i Counter))))

pub body_more : (rows : AllRows) (i : ℕ) → i < length all_tables → body_of (puts_in rows (take (i + 1) all_tables)) ≡ body_of (puts_in rows (take i all_tables)) ++ body_of (puts (rows (get_or all_tables i Counter)))
body_more rows i less =
    ap body_of (puts_more rows all_tables i less) ∙ flat_map-append change_text (puts_in rows (take i all_tables)) (puts (rows (get_or all_tables i Counter)))
