use Rattle.std.proofs.Common.{◌≡◌, ◌≤◌, ◌-◌, ◌++◌, ℕ, List, [], length, Option, Some}
use Rattle.std.specs.Prelude.{slice_get}
use Rattle.std.specs.Vec.Iter.{into_iter_items, into_iter_len}
use Rattle.depot_model.specs.Deeds.{Deed}
use Rattle.depot_model.specs.declared.request.Session.{Session}
use Rattle.session_loop.specs.Asking.{AreWellFormed}
use Rattle.session_loop.specs.Served.{AreCaused, StandWithoutFaults}
use Rattle.session_loop.proofs.Turns.{HasServed}
use Rattle.session_loop.proofs.session.run_session.Given as goal

abbrev pub invariant-loop-asked : goal.invariant-loop-asked
invariant-loop-asked g l =
    record {
      can : g.T.Taker.can_take l.taker;
      served : (sessions : List (Option Session)) (since : ℕ) (start : List Deed) → slice_get sessions (l.party - 1) ≡ Some (Some l.fn.session) → AreWellFormed l.fn.session.commands → g.T.Taker.has_run l.fn.taker since start []
          → HasServed (g.C.Clock.says.may_give l.clock) (g.T.Taker.has_run l.taker since) sessions start l.party l.count (g.K.Sink.says.given l.fn.sink) (g.K.Sink.says.given l.sink) l.order.items;
      items : l.yielded ++ into_iter_items l.asked-iterator ≡ l.fn.session.commands;
      left : into_iter_len l.asked-iterator ≡ length (into_iter_items l.asked-iterator);
      count : l.count ≡ length l.yielded;
      counts : g.K.Sink.says.faults l.fn.sink ≤ g.K.Sink.says.faults l.sink;
      stand : StandWithoutFaults (g.T.Taker.faults l.fn.taker) (g.T.Taker.faults l.taker) (g.T.Taker.content_faults l.fn.taker) (g.T.Taker.content_faults l.taker) [] l.order.items;
      faults : AreCaused (g.T.Taker.faults l.fn.taker) (g.T.Taker.faults l.taker) (g.T.Taker.content_faults l.fn.taker) (g.T.Taker.content_faults l.taker) [] l.order.items;
    }
