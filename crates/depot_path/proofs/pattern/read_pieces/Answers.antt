use Rattle.depot_path.proofs.Spelling.{pushed}
use Rattle.depot_path.proofs.pattern.read_pieces.Goals as goal

pub loop-rest-preserved : goal.loop-rest-preserved
loop-rest-preserved c =
    pushed c.args.positional c.loop-rest.pieces.items c.push.new.self.items c.args.text.now c.loop-rest.rest.now c.after_piece-rest.result.now c.piece_at.result
    c.loop-rest.invariant (cc c.in_ok-push.ensures.items) c.piece_at.ensures c.after_piece-rest.ensures c.in-len1-up.len_at_least
