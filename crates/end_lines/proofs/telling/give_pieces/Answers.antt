use Rattle.std.proofs.Common.{ℕ, ◌+◌, List, take, drop, subst}
use Rattle.std.specs.Borrow.{Bor}
use Rattle.std.specs.List.{flat_map}
use Rattle.wire_text.specs.Giving.{GotFront}
use Rattle.end_lines.proofs.Tellings.{parted, front_last}
use Rattle.end_lines.proofs.telling.give_pieces.Goals as goal

pub returns-in-Err-clause-given : goal.returns-in-Err-clause-given
returns-in-Err-clause-given g c =
    let at = c.loop-piece in
    let i = at.piece-index in
    let pieces = c.args.pieces.now in
    let P : List (Bor (List ℕ)) → Type 0 = λ parts. GotFront (g.K.Sink.says.given c.args.out.now) (g.K.Sink.says.given c.give_all.new.sink) (flat_map (λ (piece : Bor (List ℕ)). piece.now) parts) in
    record {
      whole = tt;
      front = subst P (parted pieces i _ c.loop-piece-test.true) (front_last (λ (piece : Bor (List ℕ)). piece.now) (g.K.Sink.says.given c.args.out.now) (g.K.Sink.says.given at.out) (g.K.Sink.says.given c.give_all.new.sink)
          (take i pieces) (drop (i + 1) pieces) _ at.invariant.given c.in-Err.ensures.given.front);
    }
