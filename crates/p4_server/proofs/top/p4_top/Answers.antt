use Rattle.p4_server.proofs.Names.{served_differ}
use Rattle.program_words.specs.Words.{words_of}
use Rattle.p4_server.proofs.top.p4_top.Goals as goal

pub serve-requires-clause-different : goal.serve-requires-clause-different
serve-requires-clause-different g c = λ κs bounds. rw c.as_slice.ensures.value (served_differ (words_of c.in-Ok-Some.names.items) (words_of c.args.words.now) (rw c.in-Ok-Some.field-0-is at c.in-Ok-Some.ensures.serve))
