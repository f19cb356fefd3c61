use Rattle.std.proofs.Common.{◌≡◌, ◌∙◌, refl, ap, sym, subst, ℕ, List, length, rules}
use Rattle.memory_world.specs.Files.{contents, put, written}
use Rattle.memory_world.specs.Replay.{called}
use Rattle.memory_world.specs.Ranges.{Agrees}
use Rattle.memory_world.proofs.Redone.{redone_write, redone_broken_write, redone_cut, redone_broken_cut}
use Rattle.memory_world.proofs.image.redo.Goals as goal

pub returns-in_ok-open-in-Write : goal.returns-in_ok-open-in-Write
returns-in_ok-open-in-Write c = λ s agrees.
    let long : c.len.result ≡ length c.in-Write.piece.items = search rules in
    let piece : c.deref.result.now ≡ c.in-Write.piece.items = c.deref.ensures.value in
    subst (λ call. Agrees c.write_file.new.files.items c.open.new.ranges.items (called call s)) (sym c.in-Write.is)
    (redone_write c.args.files.now.items c.write_file.new.files.items c.args.ranges.now.items c.open.new.ranges.items c.in-Write.file c.in-Write.at c.len.result c.in-Write.piece s long
    (λ f. c.in_ok-write_file-in-Write.ensures.written f ∙ ap (λ (l : List ℕ). put c.in-Write.file (written c.in-Write.at l (contents c.args.files.now.items c.in-Write.file)) (contents c.args.files.now.items) f) piece) c.in_ok-open-in-Write.ensures agrees)

pub returns-in_ok-open-in-BrokenWrite : goal.returns-in_ok-open-in-BrokenWrite
returns-in_ok-open-in-BrokenWrite c = λ s agrees.
    subst (λ call. Agrees c.args.files.now.items c.open-in-BrokenWrite.new.ranges.items (called call s)) (sym c.in-BrokenWrite.is)
    (redone_broken_write c.args.files.now.items c.args.ranges.now.items c.open-in-BrokenWrite.new.ranges.items c.in-BrokenWrite.file c.in-BrokenWrite.at c.in-BrokenWrite.count s c.in_ok-open-in-BrokenWrite.ensures agrees)

pub returns-in_ok-open-in-Cut : goal.returns-in_ok-open-in-Cut
returns-in_ok-open-in-Cut c = λ s agrees.
    subst (λ call. Agrees c.cut_file.new.files.items c.open-in-Cut.new.ranges.items (called call s)) (sym c.in-Cut.is)
    (redone_cut c.args.files.now.items c.cut_file.new.files.items c.args.ranges.now.items c.open-in-Cut.new.ranges.items c.in-Cut.file c.in-Cut.length _ s refl c.cut_file.ensures c.in_ok-open-in-Cut.ensures agrees)

pub returns-in_ok-open-in-BrokenCut : goal.returns-in_ok-open-in-BrokenCut
returns-in_ok-open-in-BrokenCut c = λ s agrees.
    subst (λ call. Agrees c.args.files.now.items c.open-in-BrokenCut.new.ranges.items (called call s)) (sym c.in-BrokenCut.is)
    (redone_broken_cut c.args.files.now.items c.args.ranges.now.items c.open-in-BrokenCut.new.ranges.items c.in-BrokenCut.file c.in-BrokenCut.length _ s refl c.in_ok-open-in-BrokenCut.ensures agrees)
