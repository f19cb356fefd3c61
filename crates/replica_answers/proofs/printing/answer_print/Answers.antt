use Rattle.std.proofs.Common.{◌≡◌, Err, rules, sym, ap, subst}
use Rattle.std.specs.Prelude.{IfErr, IfOk}
use Rattle.outside_api.specs.Reaching.{stays}
use Rattle.depot_rows.specs.Standing.{Stand}
use Rattle.depot_rows.specs.table_changes.Changed.{AllRows, rows_of}
use Rattle.recovery.specs.Standing.{HasContents}
use Rattle.depot_runs.specs.Replica.{replica_reply}
use Rattle.replica_replies.proofs.Shown.{reply_shown}
use Rattle.replica_answers.specs.Printing.{AreGiven, GrowsTo, IsFirstFault, IsPrintFault}
use Rattle.replica_answers.specs.declared.printing.PrintFault.TheVariants.{Memory}
use Rattle.replica_answers.proofs.Digests.{front_same, memory_tells}
use Rattle.replica_answers.proofs.Filled.{print_fault, rows_are}
use Rattle.replica_answers.proofs.printing.answer_print.Goals as goal

pub returns-in_err-reply-clause-reached : goal.returns-in_err-reply-clause-reached
returns-in_err-reply-clause-reached g c = stays

pub returns-clause-rows : goal.returns-clause-rows
returns-clause-rows g c = rows_are (rows_of c.args.replica.now.tables) c.args.request.now c.in_ok-reply.reply.rows c.in_ok-reply.ensures c.fill_rows.result c.fill_rows.ensures.same

pub returns-clause-told : goal.returns-clause-told
returns-clause-told g c = λ d bytes stand formed tells has.
    let same : rows_of c.tables.result.now ≡ rows_of c.args.replica.now.tables = ap rows_of c.tables.ensures in
    let reply = replica_reply d c.args.request.now in
    c.fill_rows.ensures.told d reply bytes (subst (λ (all : AllRows). Stand all d) (sym same) stand) (reply_shown d c.args.request.now) (c.in_ok-reply.ensures d stand formed) tells
    (subst (λ (all : AllRows). HasContents bytes all d) (sym same) has)

pub returns-clause-given : goal.returns-clause-given
returns-clause-given g c = λ bytes tells.
    let same : rows_of c.tables.result.now ≡ rows_of c.args.replica.now.tables = ap rows_of c.tables.ensures in
    subst (λ (all : AllRows). IfOk c.fill_rows.result (λ reply. GrowsTo (g.C.Contents.tells c.fill_rows.new.contents) bytes (λ now. AreGiven all now reply.rows))) same (c.fill_rows.ensures.given bytes tells)

pub returns-in_err-reply-clause-fault : goal.returns-in_err-reply-clause-fault
returns-in_err-reply-clause-fault g c = λ bytes formed tells.
    let is : c.from_residual.result ≡ Err Memory = search rules in
    memory_tells (g.C.Contents.tells c.args.contents.now) (λ now. IsPrintFault (rows_of c.args.replica.now.tables) c.args.request.now now) bytes bytes tells (front_same bytes) tt c.from_residual.result is

pub returns-clause-fault : goal.returns-clause-fault
returns-clause-fault g c = λ bytes formed tells.
    let same : rows_of c.tables.result.now ≡ rows_of c.args.replica.now.tables = ap rows_of c.tables.ensures in
    let rows = c.in_ok-reply.reply.rows in
    let Tells = g.C.Contents.tells c.fill_rows.new.contents in
    let fault = subst (λ (all : AllRows). IfErr c.fill_rows.result (λ fault. GrowsTo Tells bytes (λ now. IsFirstFault all now rows fault))) same (c.fill_rows.ensures.fault bytes tells) in
    print_fault (rows_of c.args.replica.now.tables) c.args.request.now rows c.in_ok-reply.ensures c.fill_rows.result Tells bytes formed fault
