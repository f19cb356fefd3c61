use Rattle.std.proofs.lemmas.Slice.Eq.{strip_prefix_is}
use Rattle.std.proofs.lemmas.Bool.Decides.{Decides-eqb}
use Rattle.disk_journal.proofs.Heads.{behind_found, behind_only}
use Rattle.disk_journal.proofs.head.behind.Goals as goal

pub returns-clause-found : goal.returns-clause-found
returns-clause-found c = λ rest is. behind_found c.args.bytes.now c.args.word.now rest c.strip_prefix.result is (strip_prefix_is Decides-eqb c.args.bytes.now c.args.word.now c.strip_prefix.result c.strip_prefix.ensures.cases)

pub returns-clause-only : goal.returns-clause-only
returns-clause-only c = behind_only c.args.bytes.now c.args.word.now c.strip_prefix.result (strip_prefix_is Decides-eqb c.args.bytes.now c.args.word.now c.strip_prefix.result c.strip_prefix.ensures.cases)
