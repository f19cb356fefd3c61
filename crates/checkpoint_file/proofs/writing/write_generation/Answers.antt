use Rattle.std.proofs.Common.{◌+◌, List, ℕ, subst, rules}
use Rattle.outside_api.specs.Moments.{LeavesOnly, weaker}
use Rattle.disk_journal.specs.Images.{HasEither, with_generation}
use Rattle.disk_journal.specs.Stands.{Stands, disk_of, nothing}
use Rattle.checkpoint_file.specs.Generations.{HoldsEither, StandsForEither}
use Rattle.checkpoint_file.proofs.NextRows.{holds_either, next_rows, stands_after, stands_either}
use Rattle.checkpoint_file.proofs.writing.write_generation.Goals as goal

pub returns-then-generation-ge-LAST-clause-rows : goal.returns-then-generation-ge-LAST-clause-rows
returns-then-generation-ge-LAST-clause-rows g c = λ was after is. next_rows was after c.args.text.now is

pub returns-in_err-generation-clause-rows : goal.returns-in_err-generation-clause-rows
returns-in_err-generation-clause-rows g c = λ was after is. next_rows was after c.args.text.now is

pub returns-in_err-generation-clause-any_image : goal.returns-in_err-generation-clause-any_image
returns-in_err-generation-clause-any_image g c = λ was stands.
    let Moments : List ℕ → Type 0 = λ text. LeavesOnly g.D.Disk.says (disk_of c.args.journal.now) (disk_of c.begin_generation.new.self) (HasEither was (with_generation was text)) in
    subst Moments c.as_bytes.ensures (c.begin_generation.ensures.any_moment was stands)

pub returns-in_err-generation-clause-any_moment : goal.returns-in_err-generation-clause-any_moment
returns-in_err-generation-clause-any_moment g c = λ was rows after stands has is.
    let Moments : List ℕ → Type 0 = λ text. LeavesOnly g.D.Disk.says (disk_of c.args.journal.now) (disk_of c.begin_generation.new.self) (HasEither was (with_generation was text)) in
    weaker g.D.Disk.says (disk_of c.args.journal.now) (disk_of c.begin_generation.new.self) _ (HoldsEither was rows c.args.text.now after)
    (holds_either was rows after c.args.text.now has is) (subst Moments c.as_bytes.ensures (c.begin_generation.ensures.any_moment was stands))

pub returns-in_err-generation-clause-opens : goal.returns-in_err-generation-clause-opens
returns-in_err-generation-clause-opens g c = λ was rows d archive stands of_depot next.
    let Moments : List ℕ → Type 0 = λ text. LeavesOnly g.D.Disk.says (disk_of c.args.journal.now) (disk_of c.begin_generation.new.self) (HasEither was (with_generation was text)) in
    weaker g.D.Disk.says (disk_of c.args.journal.now) (disk_of c.begin_generation.new.self) _ (StandsForEither (was.generation + 1) d archive)
    (stands_either was rows d archive of_depot c.args.text.now next) (subst Moments c.as_bytes.ensures (c.begin_generation.ensures.any_moment was stands))

pub returns-clause-rows : goal.returns-clause-rows
returns-clause-rows g c = λ was after is. next_rows was after c.args.text.now is

pub returns-clause-any_image : goal.returns-clause-any_image
returns-clause-any_image g c = λ was stands.
    let Moments : List ℕ → Type 0 = λ text. LeavesOnly g.D.Disk.says (disk_of c.args.journal.now) (disk_of c.begin_generation.new.self) (HasEither was (with_generation was text)) in
    subst Moments c.as_bytes.ensures (c.begin_generation.ensures.any_moment was stands)

pub returns-clause-any_moment : goal.returns-clause-any_moment
returns-clause-any_moment g c = λ was rows after stands has is.
    let Moments : List ℕ → Type 0 = λ text. LeavesOnly g.D.Disk.says (disk_of c.args.journal.now) (disk_of c.begin_generation.new.self) (HasEither was (with_generation was text)) in
    weaker g.D.Disk.says (disk_of c.args.journal.now) (disk_of c.begin_generation.new.self) _ (HoldsEither was rows c.args.text.now after)
    (holds_either was rows after c.args.text.now has is) (subst Moments c.as_bytes.ensures (c.begin_generation.ensures.any_moment was stands))

pub returns-clause-opens : goal.returns-clause-opens
returns-clause-opens g c = λ was rows d archive stands of_depot next.
    let Moments : List ℕ → Type 0 = λ text. LeavesOnly g.D.Disk.says (disk_of c.args.journal.now) (disk_of c.begin_generation.new.self) (HasEither was (with_generation was text)) in
    weaker g.D.Disk.says (disk_of c.args.journal.now) (disk_of c.begin_generation.new.self) _ (StandsForEither (was.generation + 1) d archive)
    (stands_either was rows d archive of_depot c.args.text.now next) (subst Moments c.as_bytes.ensures (c.begin_generation.ensures.any_moment was stands))

pub returns-clause-opened : goal.returns-clause-opened
returns-clause-opened g c = λ was rows d archive stands of_depot next image left.
    let Stood : List ℕ → Type 0 = λ text. Stands g.D.Disk.says c.begin_generation.new.self (with_generation was text) nothing in
    stands_after was rows d archive of_depot c.args.text.now next image ((subst Stood c.as_bytes.ensures (c.in_ok-generation.ensures.ok was stands)).holds image left)

pub returns-in_err-generation-clause-only : goal.returns-in_err-generation-clause-only
returns-in_err-generation-clause-only g c = λ other. absurd (other (search rules))
