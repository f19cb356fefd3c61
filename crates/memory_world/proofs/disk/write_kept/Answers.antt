use Rattle.std.proofs.Common.{◌≡◌, ◌++◌, ◌∷◌, [], rules}
use Rattle.memory_world.specs.declared.call.Call.TheVariants.{Write}
use Rattle.memory_world.proofs.disk.write_kept.Goals as goal

pub returns-clause-kept : goal.returns-clause-kept
returns-clause-kept c =
    let same : c.in_ok-copy.copy.items ≡ c.args.piece.now = search rules in
    let kept : c.push.new.self.items ≡ c.args.log.now.items ++ Write c.args.file c.args.at c.in_ok-copy.copy ∷ [] = search rules in
    (c.in_ok-copy.copy, same, kept)
