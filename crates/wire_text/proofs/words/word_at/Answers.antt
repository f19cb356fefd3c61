use Rattle.wire_text.proofs.WordLists.{quoted_says, plain_says}
use Rattle.wire_text.proofs.words.word_at.Goals as goal

pub returns-in-Some-clause-word : goal.returns-in-Some-clause-word
returns-in-Some-clause-word c = quoted_says c.args.first c.args.text.now c.args.after.now c.requires c.in-Some.word.now c.in-Some.behind.now c.if-first-eq32.false c.if-first-eq34.true c.in-Some.ensures.word c.in-Some.ensures.behind

pub returns-in-Some-plain_word-clause-word : goal.returns-in-Some-plain_word-clause-word
returns-in-Some-plain_word-clause-word c = plain_says c.args.first c.args.text.now c.args.after.now c.requires c.in-Some-plain_word.word.now c.in-Some-plain_word.behind.now c.if-first-eq32.false c.if-first-eq34.false c.in-Some-plain_word.ensures.word c.in-Some-plain_word.ensures.behind
