use Rattle.std.proofs.Common.{List, sym, ap, subst, ◌∙◌}
use Rattle.std.specs.Prelude.{All}
use Rattle.std.proofs.lemmas.Bool.{true≢false}
use Rattle.std.proofs.lemmas.Result.{IfOk-weaker}
use Rattle.depot_rows.specs.db_records.declared.change.Change.{Change}
use Rattle.depot_rows.specs.depot_model.Printed.{printed}
use Rattle.depot_rows.specs.depot_model.Commands.{step}
use Rattle.reply_rows.specs.declared.content.RowContent.{RowContent}
use Rattle.row_texts.specs.Texts.{IsOf64Bits}
use Rattle.depot_commit.specs.Storing.{AreAt}
use Rattle.depot_commit.proofs.Finished.{contents_are}
use Rattle.depot_commit.proofs.Stored.{on_err}
use Rattle.depot_commit.specs.declared.telling.Told.{Told}
use Rattle.depot_commit.proofs.telling.tell_reading.Goals as goal

pub told_with-requires-clause-small : goal.told_with-requires-clause-small
told_with-requires-clause-small g c = subst (λ (changes : List Change). All (λ (change : Change). IsOf64Bits change.row) changes) c.as_slice.ensures c.know_records.ensures

pub returns-in-Ok-read_all-clause-reply : goal.returns-in-Ok-read_all-clause-reply
returns-in-Ok-read_all-clause-reply g c = λ files rows from d request seen number has is.
    let told = (step d request).rows in
    let texts = contents_are rows d request from c.args.outcome files has is c.in-Ok-read_all.contents
    (λ contents at. c.in-Ok-read_all.ensures.contents files contents seen (subst (λ (places : List RowContent). AreAt (files 0) places contents) (sym c.as_slice-2.ensures) at)) in
    IfOk-weaker c.told_with.result _ _ (λ made reply read. reply ∙ ap (printed told) (sym number)) (c.told_with.ensures.reply told is.reply texts)

pub returns-in-Ok-read_all-clause-only : goal.returns-in-Ok-read_all-clause-only
returns-in-Ok-read_all-clause-only g c = IfOk-weaker c.told_with.result _ _ (λ made is whole. c.in-Ok-read_all.ensures.only) c.told_with.ensures.told

pub returns-in-Ok-read_all-clause-no_memory : goal.returns-in-Ok-read_all-clause-no_memory
returns-in-Ok-read_all-clause-no_memory g c = on_err c.told_with.result _ c.in-Ok-read_all.ensures.only

pub returns-in-Err-DiskFault-clause-only : goal.returns-in-Err-DiskFault-clause-only
returns-in-Err-DiskFault-clause-only g c = λ whole. absurd (true≢false (sym (ap (λ (told : Told). told.unread) c.told_unread.ensures) ∙ whole))
