use Rattle.std.proofs.Common.{◌≡◌, ◌+◌, ◌≤◌, ◌++◌, length, take, drop, subst, arith, length-take, ap, ◌∙◌}
use Rattle.journal_groups.specs.Reader.{State}
use Rattle.recovery.proofs.Reading.{piece_read}
use Rattle.recovery.proofs.PassedOn.{unless_anyway, unless_failed}
use Rattle.recovery.proofs.pieces.FileGroups.read_piece.Goals as goal

pub returns-clause-text : goal.returns-clause-text
returns-clause-text g c = λ files read knows.
    let file = files c.args.self.now.file in
    let room = c.min-room.result in
    let whole : room + c.args.self.now.read ≤ length file = omega (arith, c.min-room.ensures, knows, c.requires.before_end) in
    let slice : length (take room c.args.piece.now) ≡ room = omega (arith, length-take room c.args.piece.now, c.min-room.ensures) in
    let part : length c.fill.new.buffer ≡ room = c.fill.auto.buffer ∙ slice in
    let fits : c.in_ok-count.count ≤ room = subst (λ n. c.in_ok-count.count ≤ n) slice c.in_ok-count.ensures.fits in
    let bytes : take c.in_ok-count.count c.fill.new.buffer ≡ take room (drop c.args.self.now.read file) = c.in_ok-count.ensures.bytes files read ∙ ap (λ n. take n (drop c.args.self.now.read file)) slice in (
      ap (λ (state : State). state.left ++ drop (c.args.self.now.read + c.in_ok-count.count) file) c.in_ok-more.ensures.ok
          ∙ piece_read c.args.self.now.reader.left file c.fill.new.buffer _ c.args.self.now.read c.in_ok-count.count room part fits whole bytes,
      knows,
    )

pub returns-in_err-count-clause-unfailed : goal.returns-in_err-count-clause-unfailed
returns-in_err-count-clause-unfailed g c = unless_failed c.from_residual.result _ c.from_residual.ensures.1

pub returns-in_err-more-clause-unfailed : goal.returns-in_err-more-clause-unfailed
returns-in_err-more-clause-unfailed g c = unless_anyway c.from_residual-in_err-more.result _ c.in_ok-count.ensures.only
