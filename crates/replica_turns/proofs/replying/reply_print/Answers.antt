use Rattle.std.proofs.Common.{◌≡◌, ℕ, List, Err, rules, sym, ap, subst, ◌∙◌}
use Rattle.std.proofs.lemmas.Bool.{true≢false}
use Rattle.std.proofs.lemmas.Result.{IfOk-weaker}
use Rattle.archive_file.specs.Archive.{disk_of}
use Rattle.archive_file.specs.Contents.{IsTold}
use Rattle.archive_file.specs.declared.archive.Archive.{Archive}
use Rattle.depot_commit.proofs.Stored.{on_err}
use Rattle.depot_rows.specs.depot_model.declared.reply.Reply.{Reply}
use Rattle.depot_rows.specs.table_changes.Changed.{rows_of}
use Rattle.replica_answers.specs.Printing.{AreGiven, IsPrintFault, StandsUnlessFailed}
use Rattle.replica_answers.specs.declared.printing.PrintFault.{PrintFault}
use Rattle.replica_answers.specs.declared.printing.PrintFault.TheVariants.{Absent, BadContent}
use Rattle.replica_turns.specs.Replying.{IsReply}
use Rattle.replica_turns.specs.declared.party.Answered.{Answered}
use Rattle.replica_turns.proofs.Replies.{behind_bad, of_bad, of_print}
use Rattle.replica_turns.proofs.Unmoved.{looked_read, told_still}
use Rattle.replica_turns.proofs.replying.reply_print.Goals as goal

pub returns-in_ok-text-in-Ok-clause-answered : goal.returns-in_ok-text-in-Ok-clause-answered
returns-in_ok-text-in-Ok-clause-answered g c = λ depot same formed.
    let says = g.D.Disk.says in
    let all = rows_of c.args.replica.now.tables in
    let rows = c.in-Ok.reply.rows in
    let told = λ (bytes : List ℕ) (is : IsTold says depot.archive bytes). subst (λ (archive : Archive g.row.D.Denot). IsTold says archive bytes) same is in
    subst (λ (a : Answered). IsReply (λ been. been ≡ depot) says c.args.replica.now c.args.request.now a.text a.lost) (sym c.tells.ensures)
    (of_print depot says c.args.replica.now c.args.request.now c.requires rows c.in_ok-text-in-Ok.text c.in_ok-text-in-Ok.ensures
    (λ d stand. c.in-Ok.ensures.rows d stand formed) c.in-Ok.ensures.digested
    (λ bytes is.
    let now = c.in-Ok.ensures.given bytes (told bytes is) in
    subst (λ (b : List ℕ). AreGiven all b rows) (told_still says c.args.archive.now c.answer_print.new.contents c.answer_print.ensures.reached bytes now.0 (told bytes is) now.1.0 now.1.1.0) now.1.1.1)
    (λ d bytes stand is has. c.in-Ok.ensures.told d bytes stand formed (told bytes is) has))

pub returns-in-Err-Absent-clause-answered : goal.returns-in-Err-Absent-clause-answered
returns-in-Err-Absent-clause-answered g c = λ depot same formed.
    let says = g.D.Disk.says in
    let all = rows_of c.args.replica.now.tables in
    let at = c.in-Err-Absent.at in
    let is : c.in-Err-Absent.field-0 ≡ Absent at = search rules in
    of_bad depot says c.args.replica.now c.args.request.now c.requires at
    (λ bytes told.
    let was = subst (λ (archive : Archive g.row.D.Denot). IsTold says archive bytes) same told in
    let now = c.in-Err-Absent.ensures.fault bytes formed was in
    let still = told_still says c.args.archive.now c.answer_print.new.contents c.answer_print.ensures.reached bytes now.0 was now.1.0 now.1.1.0 in
    behind_bad depot says c.args.replica.now c.args.request.now bytes at
    (subst (λ (b : List ℕ). IsPrintFault all c.args.request.now b (Absent at)) still (subst (IsPrintFault all c.args.request.now now.0) is now.1.1.1)))
    c.tells_bad.result c.tells_bad.ensures

pub returns-in-Err-BadContent-clause-answered : goal.returns-in-Err-BadContent-clause-answered
returns-in-Err-BadContent-clause-answered g c = λ depot same formed.
    let says = g.D.Disk.says in
    let all = rows_of c.args.replica.now.tables in
    let at = c.in-Err-BadContent.at in
    let is : c.in-Err-BadContent.field-0 ≡ BadContent at = search rules in
    of_bad depot says c.args.replica.now c.args.request.now c.requires at
    (λ bytes told.
    let was = subst (λ (archive : Archive g.row.D.Denot). IsTold says archive bytes) same told in
    let now = c.in-Err-BadContent.ensures.fault bytes formed was in
    let still = told_still says c.args.archive.now c.answer_print.new.contents c.answer_print.ensures.reached bytes now.0 was now.1.0 now.1.1.0 in
    subst (λ (b : List ℕ). IsPrintFault all c.args.request.now b (BadContent at)) still (subst (IsPrintFault all c.args.request.now now.0) is now.1.1.1))
    c.tells_bad-in-Err-BadContent.result c.tells_bad-in-Err-BadContent.ensures

pub returns-in_err-text-in-Ok-clause-read : goal.returns-in_err-text-in-Ok-clause-read
returns-in_err-text-in-Ok-clause-read g c = looked_read g.D.Disk.says c.args.archive.now c.answer_print.new.contents c.answer_print.ensures.reached

pub returns-in_ok-text-in-Ok-clause-read : goal.returns-in_ok-text-in-Ok-clause-read
returns-in_ok-text-in-Ok-clause-read g c = looked_read g.D.Disk.says c.args.archive.now c.answer_print.new.contents c.answer_print.ensures.reached

pub returns-in-Err-Failed-clause-read : goal.returns-in-Err-Failed-clause-read
returns-in-Err-Failed-clause-read g c = looked_read g.D.Disk.says c.args.archive.now c.answer_print.new.contents c.answer_print.ensures.reached

pub returns-in-Err-Absent-clause-read : goal.returns-in-Err-Absent-clause-read
returns-in-Err-Absent-clause-read g c = looked_read g.D.Disk.says c.args.archive.now c.answer_print.new.contents c.answer_print.ensures.reached

pub returns-in-Err-BadContent-clause-read : goal.returns-in-Err-BadContent-clause-read
returns-in-Err-BadContent-clause-read g c = looked_read g.D.Disk.says c.args.archive.now c.answer_print.new.contents c.answer_print.ensures.reached

pub returns-in-Err-Memory-clause-read : goal.returns-in-Err-Memory-clause-read
returns-in-Err-Memory-clause-read g c = looked_read g.D.Disk.says c.args.archive.now c.answer_print.new.contents c.answer_print.ensures.reached

-- ---- what the disk did

pub returns-in_ok-text-in-Ok-clause-only : goal.returns-in_ok-text-in-Ok-clause-only
returns-in_ok-text-in-Ok-clause-only g c = λ kept. c.in-Ok.ensures.only

pub returns-in_err-text-in-Ok-clause-no_memory : goal.returns-in_err-text-in-Ok-clause-no_memory
returns-in_err-text-in-Ok-clause-no_memory g c = on_err c.from_residual-in_err-text-in-Ok.result _ c.in-Ok.ensures.only

pub returns-in-Err-Failed-clause-only : goal.returns-in-Err-Failed-clause-only
returns-in-Err-Failed-clause-only g c = λ kept. absurd (true≢false (sym (ap (λ (answered : Answered). answered.lost) c.loses.ensures) ∙ kept))

-- where one of the contents isn't there
stands : (before now : ℕ) (fault other : PrintFault) → fault ≡ other → StandsUnlessFailed {T = Reply} before now (Err fault) → StandsUnlessFailed {T = Reply} before now (Err other)
stands before now fault other is only = subst (λ (f : PrintFault). StandsUnlessFailed {T = Reply} before now (Err f)) is only

pub returns-in-Err-Absent-clause-only : goal.returns-in-Err-Absent-clause-only
returns-in-Err-Absent-clause-only g c =
    let is : c.in-Err-Absent.field-0 ≡ Absent c.in-Err-Absent.at = search rules in
    IfOk-weaker c.tells_bad.result _ _ (λ answered told kept. stands (g.D.Disk.says.faults (disk_of c.args.archive.now)) (g.D.Disk.says.faults (disk_of c.answer_print.new.contents)) c.in-Err-Absent.field-0 (Absent c.in-Err-Absent.at) is c.in-Err-Absent.ensures.only) c.tells_bad.ensures

pub returns-in-Err-Absent-clause-no_memory : goal.returns-in-Err-Absent-clause-no_memory
returns-in-Err-Absent-clause-no_memory g c =
    let is : c.in-Err-Absent.field-0 ≡ Absent c.in-Err-Absent.at = search rules in
    on_err c.tells_bad.result _ (stands (g.D.Disk.says.faults (disk_of c.args.archive.now)) (g.D.Disk.says.faults (disk_of c.answer_print.new.contents)) c.in-Err-Absent.field-0 (Absent c.in-Err-Absent.at) is c.in-Err-Absent.ensures.only)

pub returns-in-Err-BadContent-clause-only : goal.returns-in-Err-BadContent-clause-only
returns-in-Err-BadContent-clause-only g c =
    let is : c.in-Err-BadContent.field-0 ≡ BadContent c.in-Err-BadContent.at = search rules in
    IfOk-weaker c.tells_bad-in-Err-BadContent.result _ _ (λ answered told kept. stands (g.D.Disk.says.faults (disk_of c.args.archive.now)) (g.D.Disk.says.faults (disk_of c.answer_print.new.contents)) c.in-Err-BadContent.field-0 (BadContent c.in-Err-BadContent.at) is c.in-Err-BadContent.ensures.only)
    c.tells_bad-in-Err-BadContent.ensures

pub returns-in-Err-BadContent-clause-no_memory : goal.returns-in-Err-BadContent-clause-no_memory
returns-in-Err-BadContent-clause-no_memory g c =
    let is : c.in-Err-BadContent.field-0 ≡ BadContent c.in-Err-BadContent.at = search rules in
    on_err c.tells_bad-in-Err-BadContent.result _ (stands (g.D.Disk.says.faults (disk_of c.args.archive.now)) (g.D.Disk.says.faults (disk_of c.answer_print.new.contents)) c.in-Err-BadContent.field-0 (BadContent c.in-Err-BadContent.at) is c.in-Err-BadContent.ensures.only)
