use Rattle.std.proofs.Common.{◌≡◌, ℕ, Bool, true, false, List, [], ◌∷◌, ◌++◌, length, Some, refl, sym, ap, subst, ◌∙◌, append_assoc, arith, rules}
use Rattle.std.specs.Prelude.{slice_get}
use Rattle.std.specs.Vec.Iter.{into_iter_items}
use Rattle.std.proofs.lemmas.List.{length_push}
use Rattle.depot_model.specs.declared.request.Request.{Request}
use Rattle.locked_tables.specs.declared.taken.Taken.{Taken}
use Rattle.run_parties.proofs.Slots.{all_at}
use Rattle.run_parties.specs.Asking.{fresh}
use Rattle.session_loop.specs.Taking.{IsProper}
use Rattle.party_threads.proofs.Entries.{answered, taken_none}
use Rattle.party_threads.specs.Entries.{HasTaken, IsAnswered}
use Rattle.party_threads.proofs.session.take_commands.Goals as goal

get_next : (before : List Request) (request : Request) (rest : List Request) → slice_get (before ++ request ∷ rest) (length before) ≡ Some request
get_next [] request rest = refl
get_next (first ∷ before) request rest = get_next before request rest

-- the next request is that of the count
next_is : (requests before left rest : List Request) (request : Request) (count : ℕ) → left ≡ request ∷ rest → before ++ left ≡ requests → count ≡ length before → slice_get requests count ≡ Some request
next_is requests before left rest request count s e n =
    let P : List Request → Type 0 = λ rs. slice_get rs count ≡ Some request in
    let Q : ℕ → Type 0 = λ k. slice_get (before ++ request ∷ rest) k ≡ Some request in
    subst P (ap (λ (rs : List Request). before ++ rs) (sym s) ∙ e) (subst Q (sym n) (get_next before request rest))

pub loop-request-init : goal.loop-request-init
loop-request-init g c =
    let Whole : List Taken → Type 0 = HasTaken (g.C.Clock.says.may_give c.args.clock.now) g.N.Serving.begins c.args.pass.now.party c.args.requests.items fresh (g.K.Sink.says.given c.args.sink.now) (g.K.Sink.says.given c.args.sink.now) in
    record {
      party = refl;
      taken = subst Whole (sym c.requires.fresh) (taken_none (g.C.Clock.says.may_give c.args.clock.now) g.N.Serving.begins c.args.pass.now.party c.args.requests.items (g.K.Sink.says.given c.args.sink.now));
      items = search rules;
      left = search rules;
      count = refl;
      counts = omega arith;
    }

pub take_command-requires-clause-party : goal.take_command-requires-clause-party
take_command-requires-clause-party g c =
    let at = c.loop-request in
    let request = c.in-Some.request in
    let is = next_is c.args.requests.items at.yielded (into_iter_items at.request-iterator) (into_iter_items c.next.new.self) request at.commands c.in-Some.ensures.steps.0 at.invariant.items at.invariant.count in
    (c.requires.numbered at.commands request is).0 ∙ sym at.invariant.party

pub take_command-requires-clause-proper : goal.take_command-requires-clause-proper
take_command-requires-clause-proper g c = λ since start begun.
    let at = c.loop-request in
    let request = c.in-Some.request in
    let is = next_is c.args.requests.items at.yielded (into_iter_items at.request-iterator) (into_iter_items c.next.new.self) request at.commands c.in-Some.ensures.steps.0 at.invariant.items at.invariant.count in
    all_at IsProper c.args.requests.items at.commands request (c.requires.proper since start begun) is

pub loop-request-preserved : goal.loop-request-preserved
loop-request-preserved g c =
    let at = c.loop-request in
    let was = at.invariant in
    let request = c.in-Some.request in
    let next = c.take_command.ensures in
    let new = c.take_command.new in
    let rest = into_iter_items c.next.new.self in
    let steps : into_iter_items at.request-iterator ≡ request ∷ rest = c.in-Some.ensures.steps.0 in
    let is = next_is c.args.requests.items at.yielded (into_iter_items at.request-iterator) rest request at.commands steps was.items was.count in
    let who = c.requires.numbered at.commands request is in
    let Answered : Bool → Type 0 = λ failed. IsAnswered (g.C.Clock.says.may_give c.args.clock.now) g.N.Serving.begins at.pass new.pass request (g.K.Sink.says.given at.sink) (g.K.Sink.says.given new.sink) failed in
    let one = answered (g.C.Clock.says.may_give c.args.clock.now) g.N.Serving.begins c.args.pass.now.party c.args.requests.items at.commands request is who.0 who.1 (g.K.Sink.says.given c.args.sink.now) (g.K.Sink.says.given at.sink) (g.K.Sink.says.given new.sink) false
    at.pass new.pass was.party (subst Answered c.if-take_command.false next.answered) was.taken in
    let counts = was.counts in
    let more = next.counts in
    record {
      party = one.0;
      taken = one.1;
      items = append_assoc at.yielded (request ∷ []) rest ∙ rw (← steps) was.items;
      left =
          let was_left = was.left in
          let gone = c.in-Some.ensures.steps.1 in
          let short = ap length steps in
          omega arith;
      count = let longer = length_push at.yielded request in let count = was.count in omega (arith, longer, count);
      counts = omega (arith, counts, more);
    }

pub returns-then-take_command-clause-taken : goal.returns-then-take_command-clause-taken
returns-then-take_command-clause-taken g c =
    let at = c.loop-request in
    let was = at.invariant in
    let request = c.in-Some.request in
    let next = c.take_command.ensures in
    let new = c.take_command.new in
    let is = next_is c.args.requests.items at.yielded (into_iter_items at.request-iterator) (into_iter_items c.next.new.self) request at.commands c.in-Some.ensures.steps.0 was.items was.count in
    let who = c.requires.numbered at.commands request is in
    let Answered : Bool → Type 0 = λ failed. IsAnswered (g.C.Clock.says.may_give c.args.clock.now) g.N.Serving.begins at.pass new.pass request (g.K.Sink.says.given at.sink) (g.K.Sink.says.given new.sink) failed in
    (answered (g.C.Clock.says.may_give c.args.clock.now) g.N.Serving.begins c.args.pass.now.party c.args.requests.items at.commands request is who.0 who.1 (g.K.Sink.says.given c.args.sink.now) (g.K.Sink.says.given at.sink) (g.K.Sink.says.given new.sink) true
    at.pass new.pass was.party (subst Answered c.if-take_command.true next.answered) was.taken).1

pub returns-then-take_command-clause-party : goal.returns-then-take_command-clause-party
returns-then-take_command-clause-party g c =
    let at = c.loop-request in
    let was = at.invariant in
    let request = c.in-Some.request in
    let next = c.take_command.ensures in
    let new = c.take_command.new in
    let is = next_is c.args.requests.items at.yielded (into_iter_items at.request-iterator) (into_iter_items c.next.new.self) request at.commands c.in-Some.ensures.steps.0 was.items was.count in
    let who = c.requires.numbered at.commands request is in
    let Answered : Bool → Type 0 = λ failed. IsAnswered (g.C.Clock.says.may_give c.args.clock.now) g.N.Serving.begins at.pass new.pass request (g.K.Sink.says.given at.sink) (g.K.Sink.says.given new.sink) failed in
    (answered (g.C.Clock.says.may_give c.args.clock.now) g.N.Serving.begins c.args.pass.now.party c.args.requests.items at.commands request is who.0 who.1 (g.K.Sink.says.given c.args.sink.now) (g.K.Sink.says.given at.sink) (g.K.Sink.says.given new.sink) true
    at.pass new.pass was.party (subst Answered c.if-take_command.true next.answered) was.taken).0
