use Rattle.std.proofs.Common.{sym, ◌∙◌}
use Rattle.std.specs.Prelude.{◌&&◌}
use Rattle.db_records.specs.depot_path.Bytes.{same}
use Rattle.table_store.specs.Marks.{is_of}
use Rattle.table_store.specs.SearchKey.{sought_mark}
use Rattle.table_store.proofs.search_key.MarkRef.is_of.Goals as goal

pub returns-then-is_fix : goal.returns-then-is_fix
returns-then-is_fix c =
    let is = c.in-Fix-Domain in
    c.eq-then-is_fix.ensures
    ∙ (λ i. (sym c.if-is_fix.true ∙ c.is_fix.ensures) i && same (c.fixing.ensures i) is.change.now)
    ∙ (λ i. is_of (sought_mark (sym is.is-0 i)) (sym is.is-1 i))
