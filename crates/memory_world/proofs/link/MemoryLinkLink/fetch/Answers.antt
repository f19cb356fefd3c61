use Rattle.std.proofs.Common.{refl}
use Rattle.memory_world.proofs.Journals.{grows_none}
use Rattle.memory_world.proofs.link.MemoryLinkLink.fetch.Goals as goal

pub returns-then-call_fails-clause-grows : goal.returns-then-call_fails-clause-grows
returns-then-call_fails-clause-grows c = λ before is. grows_none c.args.self.now.texts.items c.args.self.now.texts.items before refl is
