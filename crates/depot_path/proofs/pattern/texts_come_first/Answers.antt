use Rattle.depot_path.proofs.Texts.{texts_are, texts_only, texts_there}
use Rattle.depot_path.proofs.pattern.texts_come_first.Goals as goal

pub returns-clause-first : goal.returns-clause-first
returns-clause-first c = texts_are

pub returns-clause-every : goal.returns-clause-every
returns-clause-every c = texts_there

pub returns-clause-only : goal.returns-clause-only
returns-clause-only c = texts_only
