use Rattle.std.proofs.Common.{Some, refl, ap, ◌∙◌}
use Rattle.p4_server.proofs.Asked.{asks_for, asks_none, kept, unasked, unread}
use Rattle.p4_server.proofs.Names.{names_differ}
use Rattle.program_words.specs.Words.{checkpoint, dump, init, load, schedule, words_of}
use Rattle.program_words.specs.declared.mode.Mode.{Mode}
use Rattle.program_words.specs.declared.mode.Mode.TheVariants as modes
use Rattle.p4_server.proofs.top.p4_alone.Goals as goal

pub returns-in-Err : goal.returns-in-Err
returns-in-Err g c =
    let end = c.end_alone.ensures in
    record { promise = unread _ _ _ _ _ (words_of c.args.words.now) end.told end.cause end.status end.journal end.archive refl }

pub returns-in-None : goal.returns-in-None
returns-in-None g c =
    let end = c.end_alone-in-None.ensures in
    record { promise = unasked _ _ _ _ _ (words_of c.args.words.now) (asks_none (words_of c.args.words.now) _ c.in-None.is c.in-Ok.ensures.usage) end.told end.cause end.status end.journal end.archive refl }

pub returns-in-Some-Init : goal.returns-in-Some-Init
returns-in-Some-Init g c =
    let asks = asks_for (words_of c.args.words.now) _ modes.Init (c.in-Some-Init.is ∙ ap (λ (m : Mode). Some m) c.in-Some-Init.field-0-is) c.in-Ok.ensures.mode in
    record { promise = kept _ _ _ _ _ (words_of c.args.words.now) init asks (c.init.ensures.inits, refl) c.init.ensures.status }

pub returns-in-Some-Dump : goal.returns-in-Some-Dump
returns-in-Some-Dump g c =
    let asks = asks_for (words_of c.args.words.now) _ modes.Dump (c.in-Some-Dump.is ∙ ap (λ (m : Mode). Some m) c.in-Some-Dump.field-0-is) c.in-Ok.ensures.mode in
    record { promise = kept _ _ _ _ _ (words_of c.args.words.now) dump asks (c.dump.ensures.dumps, refl) c.dump.ensures.status }

pub returns-in-Some-Checkpoint : goal.returns-in-Some-Checkpoint
returns-in-Some-Checkpoint g c =
    let asks = asks_for (words_of c.args.words.now) _ modes.Checkpoint (c.in-Some-Checkpoint.is ∙ ap (λ (m : Mode). Some m) c.in-Some-Checkpoint.field-0-is) c.in-Ok.ensures.mode in
    record { promise = kept _ _ _ _ _ (words_of c.args.words.now) checkpoint asks (c.checkpoint.ensures.checkpoints, refl) c.checkpoint.ensures.status }

pub returns-in-Some-Load : goal.returns-in-Some-Load
returns-in-Some-Load g c =
    let asks = asks_for (words_of c.args.words.now) _ (modes.Load c.in-Some-Load.seed c.in-Some-Load.count) (c.in-Some-Load.is ∙ ap (λ (m : Mode). Some m) c.in-Some-Load.field-0-is) c.in-Ok.ensures.mode in
    record { promise = kept _ _ _ _ _ (words_of c.args.words.now) (load c.in-Some-Load.seed c.in-Some-Load.count) asks (c.load.ensures.loads, refl) c.load.ensures.status }

pub schedule-requires-clause-different : goal.schedule-requires-clause-different
schedule-requires-clause-different g c =
    let asks = asks_for (words_of c.args.words.now) _ (modes.Schedule c.in-Some-Schedule.seed c.in-Some-Schedule.names) (c.in-Some-Schedule.is ∙ ap (λ (m : Mode). Some m) c.in-Some-Schedule.field-0-is) c.in-Ok.ensures.mode in
    rw c.as_slice.ensures.value (names_differ c.in-Some-Schedule.seed (words_of c.in-Some-Schedule.names.items) (words_of c.args.words.now) asks)

pub returns-in-Some-Schedule : goal.returns-in-Some-Schedule
returns-in-Some-Schedule g c =
    let asks = asks_for (words_of c.args.words.now) _ (modes.Schedule c.in-Some-Schedule.seed c.in-Some-Schedule.names) (c.in-Some-Schedule.is ∙ ap (λ (m : Mode). Some m) c.in-Some-Schedule.field-0-is) c.in-Ok.ensures.mode in
    record { promise = kept _ _ _ _ _ (words_of c.args.words.now) (schedule c.in-Some-Schedule.seed (words_of c.in-Some-Schedule.names.items)) asks (rw c.as_slice.ensures.value at c.schedule.ensures.schedules) c.schedule.ensures.status }
