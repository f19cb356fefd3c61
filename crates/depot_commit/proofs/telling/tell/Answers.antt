use Rattle.std.proofs.Common.{List, sym, ap, subst, ◌∙◌}
use Rattle.std.specs.Prelude.{All}
use Rattle.std.proofs.lemmas.Result.{IfOk-weaker}
use Rattle.depot_rows.specs.db_records.declared.change.Change.{Change}
use Rattle.depot_rows.specs.depot_model.Printed.{printed}
use Rattle.depot_rows.specs.depot_model.Commands.{step}
use Rattle.reply_rows.specs.Made.{contents_of}
use Rattle.row_texts.specs.Texts.{IsOf64Bits}
use Rattle.depot_commit.proofs.Finished.{none_waits}
use Rattle.depot_commit.proofs.telling.tell.Goals as goal

pub told_with-requires-clause-small : goal.told_with-requires-clause-small
told_with-requires-clause-small c = subst (λ (changes : List Change). All (λ (change : Change). IsOf64Bits change.row) changes) c.as_slice-2.ensures c.know_records.ensures

pub returns-in-Ok-clause-reply : goal.returns-in-Ok-clause-reply
returns-in-Ok-clause-reply c = λ rows from d request number is.
    let told = (step d request).rows in
    let none = none_waits rows d (contents_of told) c.args.outcome.reads is.reads c.requires in
    IfOk-weaker c.told_with.result _ _ (λ made reply read. reply ∙ ap (printed told) (sym number)) (c.told_with.ensures.reply told is.reply (c.new.ensures ∙ sym none))
