use Rattle.std.proofs.Common.{◌≡◌, Bool, false, [], ◌∷◌, ◌++◌, take, refl, sym, ap, ◌∙◌}
use Rattle.std.specs.Prelude.{◌||◌}
use Rattle.std.specs.List.{list_any}
use Rattle.std.proofs.lemmas.List.{take_more, take_all}
use Rattle.std.proofs.lemmas.List.Folds.{list_any-append, list_any_at}
use Rattle.lock_core.specs.Core.{is_working}
use Rattle.lock_core.specs.declared.party.Party.{Party}
use Rattle.lock_core.proofs.turns.any_working.Goals as goal

pub loop-party-init : goal.loop-party-init
loop-party-init c = refl

pub loop-party-preserved : goal.loop-party-preserved
loop-party-preserved c =
    let items = c.args.parties.now in
    let i = c.loop-party.party-index in
    let party = c.party-item.result in
    let p : Party → Bool = is_working in
    let more = take_more items i party c.loop-party-test.true ∙ ap (λ (x : Party). take i items ++ x ∷ []) (sym c.party-item.is) in
    let here : is_working party ≡ false = sym c.is_working.ensures ∙ c.if-is_working.false in
    ap (list_any is_working) more
    ∙ (list_any-append is_working (take i items) (party ∷ []) ∙ (λ k. c.loop-party.invariant k || (here k || false)))

pub returns-then-is_working : goal.returns-then-is_working
returns-then-is_working c =
    let items = c.args.parties.now in
    let i = c.loop-party.party-index in
    let party = c.party-item.result in
    sym (list_any_at is_working items i party c.loop-party-test.true (ap is_working (sym c.party-item.is) ∙ (sym c.is_working.ensures ∙ c.if-is_working.true)))

pub returns : goal.returns
returns c = sym (ap (list_any is_working) (sym (take_all c.loop-party.party-index c.args.parties.now c.loop-party-test.false)) ∙ c.loop-party.invariant)
