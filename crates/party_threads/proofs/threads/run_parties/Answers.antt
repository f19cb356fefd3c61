use Rattle.std.proofs.Common.{◌≡◌, ◌∙◌, subst}
use Rattle.std.proofs.lemmas.Option.{get_or_from_slice_get, slice_get_within}
use Rattle.party_threads.specs.Parties.{HasRunParty}
use Rattle.party_threads.specs.declared.party.ThreadParty.{ThreadParty}
use Rattle.party_threads.proofs.threads.run_parties.Goals as goal

pub returns-clause-run : goal.returns-clause-run
returns-clause-run g c = λ i old new at_old at_new.
    let within = slice_get_within c.args.parties.now i old at_old in
    let h = (c.for_each_mut.ensures i old within).1 in
    let Party : Type 0 = ThreadParty g.row.K.Denot g.row.N.Denot in
    let old_is : h.argument.now ≡ old = h.argument_is ∙ get_or_from_slice_get c.args.parties.now i old old at_old in
    let new_is : h.after_call.now ≡ new = h.left ∙ get_or_from_slice_get c.for_each_mut.new.s i new old at_new in
    let Ran : Party → Party → Type 0 = λ x y. HasRunParty g.D.Disk.says g.N.Naming.end g.N.Imaging.images (g.C.Clock.says.may_give c.args.clock.now) g.K.Sink.says g.N.Serving.begins g.N.Serving.masters x y in
    subst (λ (y : Party). Ran old y) new_is (subst (λ (x : Party). Ran x h.after_call.now) old_is h.call)
