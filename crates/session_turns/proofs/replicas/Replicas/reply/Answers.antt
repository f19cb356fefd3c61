use Rattle.std.proofs.lemmas.Bool.{true≢false}
use Rattle.std.proofs.Common.{◌≡◌, ◌<◌, length, Bool, true, false, Ok, Err, Some, refl, sym, ap, ◌∙◌, arith}
use Rattle.std.specs.Prelude.{◌||◌, slice_get}
use Rattle.std.proofs.Math.Bool.{or-false}
use Rattle.std.proofs.lemmas.Option.{slice_get_read}
use Rattle.lock_machine.proofs.Places.{some_is}
use Rattle.run_parties.specs.replica_turns.declared.party.ReplicaParty.{ReplicaParty}
use Rattle.session_loop.proofs.Faults.{risen_by_none, risen_by_one}
use Rattle.session_turns.proofs.Stepping.{stepped}
use Rattle.session_turns.proofs.replicas.Replicas.reply.Goals as goal
use Rattle.session_turns.proofs.replicas.Replicas.reply.Goals.{then-self, else-self}

pub returns-after-self-clause-stepped : goal.returns-after-self-clause-stepped
returns-after-self-clause-stepped g c = λ p at_p some.
    let items = c.args.self.now.parties.items in
    let at = c.args.at in
    let found = c.index_mut.result.now in
    let within : at < length items = (let low = c.if-at-len.false in let len = c.len.ensures in omega arith) in
    let at_i : slice_get items at ≡ Some found = slice_get_read items (length items) at found refl within c.index_mut.ensures.value in
    let same : p ≡ c.in-Some.party = some_is (some_is (sym at_p ∙ at_i) ∙ c.in-Some.is) in
    let here : 0 < length c.in-Some.party.left.items = (let less = ap (λ (q : ReplicaParty). length q.left.items) same in omega (arith, some, less)) in
    stepped g.D.Disk.says c.args.depot.now c.answer_next.new.depot at p c.in-Some.party c.answer_next.new.self c.args.self.now _ (Ok c.in-Ok.field-0) (Ok c.in-Ok.field-0.text) same refl
    (c.in-Ok.ensures.turned here) (c.in-Ok.ensures.left here) (λ number. refl)
    (elim c.if-self.branch [
      | then-self w ↦ (w.self-is ∙ w.if-self.true) ∙ sym (ap (λ (b : Bool). b || c.in-Ok.field-0.lost) w.if-self.true)
      | else-self w ↦ w.self-is ∙ sym (ap (λ (b : Bool). b || c.in-Ok.field-0.lost) w.if-self.false)
    ])
    (risen_by_one c.in-Ok.field-0.lost _ _ _ _ c.answer_next.ensures.never_falls c.answer_next.ensures.never_falls_contents c.in-Ok.ensures.cause)

pub returns-in-Err-clause-stepped : goal.returns-in-Err-clause-stepped
returns-in-Err-clause-stepped g c = λ p at_p some.
    let items = c.args.self.now.parties.items in
    let at = c.args.at in
    let found = c.index_mut.result.now in
    let within : at < length items = (let low = c.if-at-len.false in let len = c.len.ensures in omega arith) in
    let at_i : slice_get items at ≡ Some found = slice_get_read items (length items) at found refl within c.index_mut.ensures.value in
    let same : p ≡ c.in-Some.party = some_is (some_is (sym at_p ∙ at_i) ∙ c.in-Some.is) in
    let here : 0 < length c.in-Some.party.left.items = (let less = ap (λ (q : ReplicaParty). length q.left.items) same in omega (arith, some, less)) in
    stepped g.D.Disk.says c.args.depot.now c.answer_next.new.depot at p c.in-Some.party c.answer_next.new.self c.args.self.now _ (Err c.in-Err.error) (Err c.in-Err.error) same refl
    (c.in-Err.ensures.turned here) (c.in-Err.ensures.left here) (λ number. refl) (sym (or-false c.args.self.now.lost))
    (risen_by_none _ _ _ _ c.answer_next.ensures.never_falls c.answer_next.ensures.never_falls_contents)

-- ---- what the disks did

untold : (lost had has : Bool) → lost ≡ (had || has) → lost ≡ false → (had ≡ false) × (has ≡ false)
untold lost false has is none = (refl, sym is ∙ none)
untold lost true has is none = absurd (true≢false (sym is ∙ none))

pub returns-after-self-clause-told : goal.returns-after-self-clause-told
returns-after-self-clause-told g c = λ none.
    let had = c.args.self.now.lost in
    let has = c.in-Ok.field-0.lost in
    let both = untold _ had has (elim c.if-self.branch [
      | then-self w ↦ (w.self-is ∙ w.if-self.true) ∙ sym (ap (λ (b : Bool). b || has) w.if-self.true)
      | else-self w ↦ w.self-is ∙ sym (ap (λ (b : Bool). b || has) w.if-self.false)
    ]) none in
    (both.0, c.in-Ok.ensures.only both.1)

pub returns-in-Err-clause-told : goal.returns-in-Err-clause-told
returns-in-Err-clause-told g c = λ none. (none, c.in-Err.ensures.no_memory)

-- ---- no replica there

pub returns-then-at-len-clause-told : goal.returns-then-at-len-clause-told
returns-then-at-len-clause-told g c = λ none. (none, record { journal = refl; archive = refl })

pub returns-in_default-clause-told : goal.returns-in_default-clause-told
returns-in_default-clause-told g c = λ none. (none, record { journal = refl; archive = refl })
