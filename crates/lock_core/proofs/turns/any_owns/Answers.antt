use Rattle.std.proofs.Common.{◌≡◌, Bool, false, [], ◌∷◌, ◌++◌, take, refl, sym, ap, ◌∙◌}
use Rattle.std.specs.Prelude.{◌||◌}
use Rattle.std.specs.List.{list_any}
use Rattle.std.proofs.lemmas.List.{take_more, take_all}
use Rattle.std.proofs.lemmas.List.Folds.{list_any-append, list_any_at}
use Rattle.lock_core.specs.Parties.{holds}
use Rattle.lock_core.specs.declared.party.Party.{Party}
use Rattle.lock_core.proofs.turns.any_owns.Goals as goal

pub loop-party-init : goal.loop-party-init
loop-party-init c = refl

pub loop-party-preserved : goal.loop-party-preserved
loop-party-preserved c =
    let items = c.args.parties.now in
    let i = c.loop-party.party-index in
    let party = c.party-item.result in
    let p : Party → Bool = holds c.args.lock in
    let more = take_more items i party c.loop-party-test.true ∙ ap (λ (x : Party). take i items ++ x ∷ []) (sym c.party-item.is) in
    let here : holds c.args.lock party ≡ false = sym c.owns.ensures ∙ c.if-owns.false in
    ap (list_any (holds c.args.lock)) more
    ∙ (list_any-append (holds c.args.lock) (take i items) (party ∷ []) ∙ (λ k. c.loop-party.invariant k || (here k || false)))

pub returns-then-owns : goal.returns-then-owns
returns-then-owns c =
    let items = c.args.parties.now in
    let i = c.loop-party.party-index in
    let party = c.party-item.result in
    sym (list_any_at (holds c.args.lock) items i party c.loop-party-test.true (ap (holds c.args.lock) (sym c.party-item.is) ∙ (sym c.owns.ensures ∙ c.if-owns.true)))

pub returns : goal.returns
returns c = sym (ap (list_any (holds c.args.lock)) (sym (take_all c.loop-party.party-index c.args.parties.now c.loop-party-test.false)) ∙ c.loop-party.invariant)
