use Rattle.wire_text.proofs.Heads.{parted_cut, parted_whole}
use Rattle.wire_text.proofs.head.cut_part.Goals as goal

pub returns-in-Some-clause-parts : goal.returns-in-Some-clause-parts
returns-in-Some-clause-parts c = parted_cut c.args.text.now c.in-Some.part.now c.in-Some.behind.now c.in-Some.ensures.before c.in-Some.ensures.behind c.in-Some.ensures.found

pub returns-in-None-clause-whole : goal.returns-in-None-clause-whole
returns-in-None-clause-whole c = parted_whole c.args.text.now c.in-None.ensures.free
