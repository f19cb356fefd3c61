use Rattle.std.proofs.Common.{◌∷◌, [], ◌++◌, length, ℕ, List, Some, None, sym, ap, subst, ◌∙◌, arith}
use Rattle.std.proofs.lemmas.List.{length_push}
use Rattle.std.proofs.lemmas.Result.{on_ok_weaker}
use Rattle.wire_text.specs.declared.entry.Entry.{Entry}
use Rattle.session_loop.specs.Passing.{AreBehind, all_asked}
use Rattle.session_loop.specs.declared.reading.PlacedItem.{PlacedItem}
use Rattle.session_loop.proofs.Passing.{behind_pushed, still_behind, goes_put, goes_clear, goes_asks}
use Rattle.session_loop.proofs.reading.follow.Goals as goal

pub returns-in-Put-clause-behind : goal.returns-in-Put-clause-behind
returns-in-Put-clause-behind c =
    let content = c.in-Put.content in
    on_ok_weaker c.put.result (λ more. still_behind c.args.script.now c.put.new.self content.path (Some content.bytes) more c.args.items.now c.requires) c.put.ensures.ok

pub returns-in-Put-clause-goes : goal.returns-in-Put-clause-goes
returns-in-Put-clause-goes c =
    let script = c.args.script.now in
    let items = c.args.items.now in
    on_ok_weaker c.put.result
    (λ more rest. ap (λ (e : Entry). all_asked script items (e ∷ rest)) c.in-Put.is ∙ goes_put script c.put.new.self c.in-Put.content more items c.requires rest)
    c.put.ensures.ok

pub returns-in-Clear-clause-behind : goal.returns-in-Clear-clause-behind
returns-in-Clear-clause-behind c =
    on_ok_weaker c.clear.result (λ more. still_behind c.args.script.now c.clear.new.self c.in-Clear.path None more c.args.items.now c.requires) c.clear.ensures.ok

pub returns-in-Clear-clause-goes : goal.returns-in-Clear-clause-goes
returns-in-Clear-clause-goes c =
    let script = c.args.script.now in
    let items = c.args.items.now in
    on_ok_weaker c.clear.result
    (λ more rest. ap (λ (e : Entry). all_asked script items (e ∷ rest)) c.in-Clear.is ∙ goes_clear script c.clear.new.self c.in-Clear.path more items c.requires rest)
    c.clear.ensures.ok

pub returns-in-Command-clause-behind : goal.returns-in-Command-clause-behind
returns-in-Command-clause-behind c =
    let script = c.args.script.now in
    let items = c.args.items.now in
    let placed : PlacedItem = record { item = c.in-Command.item; lines = c.lines-lines.result } in
    on_ok_weaker c.push.result
    (λ pushed. subst (AreBehind script.lines) (sym pushed) (behind_pushed script.lines items placed c.requires (let is = c.lines-lines.ensures in omega arith)))
    c.push.ensures.ok

pub returns-in-Command-clause-goes : goal.returns-in-Command-clause-goes
returns-in-Command-clause-goes c =
    let script = c.args.script.now in
    let items = c.args.items.now in
    let item = c.in-Command.item in
    on_ok_weaker c.push.result
    (λ pushed rest.
    ap (λ (e : Entry). all_asked script items (e ∷ rest)) c.in-Command.is
    ∙ (goes_asks script items item rest
    ∙ ap (λ (all : List PlacedItem). all_asked script all rest)
    (ap (λ (n : ℕ). items ++ (record { item = item; lines = n }) ∷ []) (sym c.lines-lines.ensures) ∙ sym pushed)))
    c.push.ensures.ok

pub returns-in-Command-clause-few : goal.returns-in-Command-clause-few
returns-in-Command-clause-few c =
    let items = c.args.items.now in
    let placed : PlacedItem = record { item = c.in-Command.item; lines = c.lines-lines.result } in
    on_ok_weaker c.push.result (λ pushed. let longer = ap length pushed in let one = length_push items placed in omega arith) c.push.ensures.ok
