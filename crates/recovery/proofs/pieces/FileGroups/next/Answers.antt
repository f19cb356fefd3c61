use Rattle.std.proofs.Common.{◌≡◌, ◌++◌, length, drop, arith, length-drop, ◌∙◌}
use Rattle.recovery.specs.Pieces.{text_left}
use Rattle.recovery.proofs.Reading.{taken_first, first_before}
use Rattle.recovery.proofs.Stopped.{stopped_before, stopped_bad, stopped_short}
use Rattle.recovery.proofs.PassedOn.{unless_passed}
use Rattle.recovery.proofs.pieces.FileGroups.next.Goals as goal

pub returns-in-Ok-clause-text : goal.returns-in-Ok-clause-text
returns-in-Ok-clause-text g c = λ files read knows.
    let so_far = c.loop-found.invariant in
    let text = so_far.text files read knows in
    let rest = drop c.loop-found.self.read (files c.loop-found.self.file) in
    (text.1, first_before _ _ _ _ _ c.in-Ok.found so_far.number text.0 (taken_first c.loop-found.self.reader c.next.new.self rest c.in-Ok.found c.in-Ok.ensures.found))

pub returns-in-Err-BadGroup-clause-stopped : goal.returns-in-Err-BadGroup-clause-stopped
returns-in-Err-BadGroup-clause-stopped g c = λ files read knows.
    let so_far = c.loop-found.invariant in
    let text = so_far.text files read knows in
    let rest = drop c.loop-found.self.read (files c.loop-found.self.file) in
    let state = c.loop-found.self.reader in
    let place = c.in-Err-BadGroup.place in
    let bad = rw c.in-Err-BadGroup.field-0-is at c.in-Err-BadGroup.ensures.bad in
    let records = rw c.in-Err-BadGroup.field-0-is at c.in-Err-BadGroup.ensures.records in
    stopped_before c.args.self.now.reader.number state.number c.args.self.now.reader.at state.at (text_left c.args.self.now files) (state.left ++ rest) c.next.new.self place so_far.number so_far.at text.0
    (stopped_bad state.number state.at state.left rest c.next.new.self place bad records)

pub returns-then-self-clause-stopped : goal.returns-then-self-clause-stopped
returns-then-self-clause-stopped g c = λ files read knows.
    let so_far = c.loop-found.invariant in
    let text = so_far.text files read knows in
    let file = files c.loop-found.self.file in
    let rest = drop c.loop-found.self.read file in
    let state = c.loop-found.self.reader in
    let place = c.in-Err-Short.place in
    let none : length rest ≡ 0 = omega (arith, length-drop c.loop-found.self.read file, text.1, c.if-self.true) in
    let short = rw c.in-Err-Short.field-0-is at c.in-Err-Short.ensures.short in
    let records = rw c.in-Err-Short.field-0-is at c.in-Err-Short.ensures.records in
    stopped_before c.args.self.now.reader.number state.number c.args.self.now.reader.at state.at (text_left c.args.self.now files) (state.left ++ rest) c.next.new.self place so_far.number so_far.at text.0
    (stopped_short state.number state.at state.left rest c.next.new.self place none short.0 short.1 records)

pub returns-in_err-read_on-in-Err-Short-clause-unfailed : goal.returns-in_err-read_on-in-Err-Short-clause-unfailed
returns-in_err-read_on-in-Err-Short-clause-unfailed g c = unless_passed c.from_residual.result c.in_err-read_on-in-Err-Short.field-0.0 _ c.from_residual.ensures.1 (λ other. c.in_err-read_on-in-Err-Short.ensures.unfailed other ∙ c.loop-found.invariant.faults)
