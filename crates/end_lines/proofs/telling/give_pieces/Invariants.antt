use Rattle.std.proofs.Common.{◌≡◌, ◌≤◌, take}
use Rattle.std.specs.List.{flat_map}
use Rattle.outside_api.specs.Told.{extended}
use Rattle.end_lines.proofs.telling.give_pieces.Given as goal

abbrev pub invariant-loop-piece : goal.invariant-loop-piece
invariant-loop-piece g l =
    record {
      given : g.K.Sink.says.given l.out ≡ extended (g.K.Sink.says.given l.fn.out) (flat_map (λ piece. piece.now) (take l.piece-index l.pieces));
      counts : g.K.Sink.says.faults l.fn.out ≤ g.K.Sink.says.faults l.out;
    }
