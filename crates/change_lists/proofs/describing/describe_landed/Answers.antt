use Rattle.std.proofs.Common.{Bor, List, [], ◌∷◌, ap, ◌∙◌}
use Rattle.std.specs.Prelude.{map}
use Rattle.depot_rows.specs.db_records.declared.rows.RevRecord.{RevRecord}
use Rattle.depot_rows.specs.depot_model.declared.reply.Row.{Row}
use Rattle.reply_rows.specs.Made.{told}
use Rattle.change_lists.specs.Describing.{landed_by}
use Rattle.change_lists.proofs.Described.{landed_by_is}
use Rattle.change_lists.proofs.describing.describe_landed.Goals as goal

pub returns : goal.returns
returns c = λ d caller sound asked has.
    let r = c.args.row.now in
    c.in_ok-step.ensures
    ∙ ap (λ (t : Row). told (t ∷ []))
    (c.in_ok-told.ensures ∙ ap (λ (l : List (Bor RevRecord)). landed_by r (map (λ x. x.now) l)) c.deref.ensures.value
    ∙ landed_by_is d caller r c.in_ok-rows.rows.items (c.in_ok-rows.ensures d caller sound asked has))
