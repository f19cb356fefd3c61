use Rattle.std.proofs.Common.{◌++◌, set, ap, sym, ◌∙◌, append-nil}
use Rattle.std.proofs.lemmas.List.{take_all, drop_all}
use Rattle.std.proofs.lemmas.List.Edits.{map_over_more}
use Rattle.command_needs.specs.Sets.{tables_in}
use Rattle.lock_core.specs.Finished.{marked_parties, marked_party}
use Rattle.lock_core.proofs.ending.mark_all.Goals as goal

pub loop-party-preserved : goal.loop-party-preserved
loop-party-preserved c =
    let at = c.loop-party in
    let x = c.party-item.result in
    ap (set at.parties at.party-index) (c.mark.ensures ∙ ap (marked_party (tables_in c.args.changed)) (sym c.party-item.is))
    ∙ map_over_more (marked_party (tables_in c.args.changed)) c.args.parties.now at.parties at.party-index x c.loop-party-test.true at.invariant c.party-item.is

pub returns : goal.returns
returns c =
    let at = c.loop-party in
    at.invariant
    ∙ ((λ k. marked_parties (tables_in c.args.changed) (take_all at.party-index c.args.parties.now c.loop-party-test.false k) ++ drop_all at.party-index c.args.parties.now c.loop-party-test.false k)
    ∙ append-nil (marked_parties (tables_in c.args.changed) c.args.parties.now))
