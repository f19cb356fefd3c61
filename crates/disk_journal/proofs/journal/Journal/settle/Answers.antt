use Rattle.std.proofs.Common.{◌+◌, ◌*◌, refl, arith}
use Rattle.outside_api.specs.Disk.{Torn}
use Rattle.outside_api.specs.Moments.{weaker}
use Rattle.disk_journal.specs.Stands.{nothing, HasWithOrWithout}
use Rattle.disk_journal.proofs.Keeping.{older_kept}
use Rattle.disk_journal.proofs.Standing.{standing, room, root_room, image_holds, root_settling, root_settled, settling, settled, settled_mark, root_settled_mark, at_rest, no_call, known_doubt, nothing_shut}
use Rattle.disk_journal.proofs.Runs.{IsApart, kept_none, kept_one, always_none, always_one}
use Rattle.disk_journal.proofs.journal.Journal.settle.Goals as goal

pub write_through-requires : goal.write_through-requires
write_through-requires g c = λ files read.
    let has = room g.D.Disk.says g.met.D.Disk.reads_an_image c.args.self.now c.requires.0 c.requires.1.0 c.journal_file-file.result c.requires.1.1 c.journal_file-file.ensures files read in
    omega (arith, has)

pub write_through-requires-in-Generation : goal.write_through-requires-in-Generation
write_through-requires-in-Generation g c = root_room g.D.Disk.says g.met.D.Disk.reads_an_image c.args.self.now c.requires.0 c.requires.1.0 c.requires.1.1

pub returns-in-Nothing-clause-any_moment : goal.returns-in-Nothing-clause-any_moment
returns-in-Nothing-clause-any_moment g c = λ was doubt stands.
    no_call g.D.Disk.says c.args.self.now was doubt (g.met.D.Disk.only_now c.args.self.now.disk) stands

pub returns-in-Nothing-clause-ok : goal.returns-in-Nothing-clause-ok
returns-in-Nothing-clause-ok g c = λ was doubt stands. at_rest g.D.Disk.says c.args.self.now was doubt c.in-Nothing.is stands

pub returns-in_err-write_through-in-Group-clause-err : goal.returns-in_err-write_through-in-Group-clause-err
returns-in_err-write_through-in-Group-clause-err g c = λ was doubt stands is_err.
    let each = settling g.D.Disk.says g.met.D.Disk.reads_an_image c.args.self.now was c.journal_file-file.result c.journal_file-file.ensures c.in-Group.is doubt stands in
    standing g.D.Disk.says _ was doubt stands.generation stands.are_groups stands.count stands.length stands.known (λ image left. each image (c.write_through.ensures.crash image left))

pub returns-in_err-write_through-in-Group-clause-any_moment : goal.returns-in_err-write_through-in-Group-clause-any_moment
returns-in_err-write_through-in-Group-clause-any_moment g c = λ was doubt stands.
    let each = settling g.D.Disk.says g.met.D.Disk.reads_an_image c.args.self.now was c.journal_file-file.result c.journal_file-file.ensures c.in-Group.is doubt stands in
    weaker g.D.Disk.says c.args.self.now.disk c.write_through.new.disk _ (HasWithOrWithout was doubt) (λ f after. image_holds was doubt _ c.args.self.now.doubt f (omega (arith, stands.count)) stands.are_groups stands.known (each f after)) c.write_through.ensures.any_moment

pub returns-in_ok-write_through-in-Group-clause-ok : goal.returns-in_ok-write_through-in-Group-clause-ok
returns-in_ok-write_through-in-Group-clause-ok g c = λ was doubt stands.
    let each = settled g.D.Disk.says g.met.D.Disk.reads_an_image c.args.self.now was c.journal_file-file.result c.journal_file-file.ensures c.in-Group.is doubt stands in
    standing g.D.Disk.says _ was nothing stands.generation stands.are_groups stands.count stands.length refl (λ image left. each image (c.in_ok-write_through-in-Group.ensures.durable image left))

pub returns-in_ok-write_through-in-Group-clause-any_moment : goal.returns-in_ok-write_through-in-Group-clause-any_moment
returns-in_ok-write_through-in-Group-clause-any_moment g c = λ was doubt stands.
    let each = settling g.D.Disk.says g.met.D.Disk.reads_an_image c.args.self.now was c.journal_file-file.result c.journal_file-file.ensures c.in-Group.is doubt stands in
    weaker g.D.Disk.says c.args.self.now.disk c.write_through.new.disk _ (HasWithOrWithout was doubt) (λ f after. image_holds was doubt _ c.args.self.now.doubt f (omega (arith, stands.count)) stands.are_groups stands.known (each f after)) c.write_through.ensures.any_moment

pub returns-in_err-write_through-in-Generation-clause-err : goal.returns-in_err-write_through-in-Generation-clause-err
returns-in_err-write_through-in-Generation-clause-err g c = λ was doubt stands is_err.
    let each = root_settling g.D.Disk.says g.met.D.Disk.reads_an_image c.args.self.now was c.in-Generation.is doubt stands in
    standing g.D.Disk.says _ was doubt stands.generation stands.are_groups stands.count stands.length stands.known (λ image left. each image (c.write_through-in-Generation.ensures.crash image left))

pub returns-in_err-write_through-in-Generation-clause-any_moment : goal.returns-in_err-write_through-in-Generation-clause-any_moment
returns-in_err-write_through-in-Generation-clause-any_moment g c = λ was doubt stands.
    let each = root_settling g.D.Disk.says g.met.D.Disk.reads_an_image c.args.self.now was c.in-Generation.is doubt stands in
    weaker g.D.Disk.says c.args.self.now.disk c.write_through-in-Generation.new.disk _ (HasWithOrWithout was doubt) (λ f after. image_holds was doubt _ c.args.self.now.doubt f (omega (arith, stands.count)) stands.are_groups stands.known (each f after)) c.write_through-in-Generation.ensures.any_moment

pub returns-in_ok-write_through-in-Generation-clause-ok : goal.returns-in_ok-write_through-in-Generation-clause-ok
returns-in_ok-write_through-in-Generation-clause-ok g c = λ was doubt stands.
    let each = root_settled g.D.Disk.says g.met.D.Disk.reads_an_image c.args.self.now was c.in-Generation.is doubt stands in
    standing g.D.Disk.says _ was nothing stands.generation stands.are_groups stands.count stands.length refl (λ image left. each image (c.in_ok-write_through-in-Generation.ensures.durable image left))

pub returns-in_ok-write_through-in-Generation-clause-any_moment : goal.returns-in_ok-write_through-in-Generation-clause-any_moment
returns-in_ok-write_through-in-Generation-clause-any_moment g c = λ was doubt stands.
    let each = root_settling g.D.Disk.says g.met.D.Disk.reads_an_image c.args.self.now was c.in-Generation.is doubt stands in
    weaker g.D.Disk.says c.args.self.now.disk c.write_through-in-Generation.new.disk _ (HasWithOrWithout was doubt) (λ f after. image_holds was doubt _ c.args.self.now.doubt f (omega (arith, stands.count)) stands.are_groups stands.known (each f after)) c.write_through-in-Generation.ensures.any_moment

pub returns-in-Nothing-clause-older : goal.returns-in-Nothing-clause-older
returns-in-Nothing-clause-older g c =
    kept_none g.D.Disk.says (1 + 2 * c.args.self.now.end.generation) c.args.self.now.disk

pub returns-in-Nothing-clause-any_older : goal.returns-in-Nothing-clause-any_older
returns-in-Nothing-clause-any_older g c =
    always_none g.D.Disk.says (1 + 2 * c.args.self.now.end.generation) c.args.self.now.disk (g.met.D.Disk.only_now c.args.self.now.disk)

pub returns-in_err-write_through-in-Group-clause-older : goal.returns-in_err-write_through-in-Group-clause-older
returns-in_err-write_through-in-Group-clause-older g c =
    let apart : IsApart (1 + 2 * c.args.self.now.end.generation) c.journal_file-file.result = λ f some lt e. omega (arith, lt, e, c.journal_file-file.ensures) in
    kept_one g.D.Disk.says (1 + 2 * c.args.self.now.end.generation) c.journal_file-file.result (Torn (c.args.self.now.end.length + 1) 1) apart c.args.self.now.disk c.write_through.new.disk c.write_through.ensures.crash

pub returns-in_err-write_through-in-Group-clause-any_older : goal.returns-in_err-write_through-in-Group-clause-any_older
returns-in_err-write_through-in-Group-clause-any_older g c =
    let apart : IsApart (1 + 2 * c.args.self.now.end.generation) c.journal_file-file.result = λ f some lt e. omega (arith, lt, e, c.journal_file-file.ensures) in
    always_one g.D.Disk.says (1 + 2 * c.args.self.now.end.generation) c.journal_file-file.result (Torn (c.args.self.now.end.length + 1) 1) apart c.args.self.now.disk c.write_through.new.disk c.write_through.ensures.any_moment

pub returns-in_err-write_through-in-Generation-clause-older : goal.returns-in_err-write_through-in-Generation-clause-older
returns-in_err-write_through-in-Generation-clause-older g c =
    let apart : IsApart (1 + 2 * c.args.self.now.end.generation) 0 = λ f some lt e. omega (arith, some, e) in
    kept_one g.D.Disk.says (1 + 2 * c.args.self.now.end.generation) 0 (Torn c.args.self.now.end.generation 1) apart c.args.self.now.disk c.write_through-in-Generation.new.disk c.write_through-in-Generation.ensures.crash

pub returns-in_err-write_through-in-Generation-clause-any_older : goal.returns-in_err-write_through-in-Generation-clause-any_older
returns-in_err-write_through-in-Generation-clause-any_older g c =
    let apart : IsApart (1 + 2 * c.args.self.now.end.generation) 0 = λ f some lt e. omega (arith, some, e) in
    always_one g.D.Disk.says (1 + 2 * c.args.self.now.end.generation) 0 (Torn c.args.self.now.end.generation 1) apart c.args.self.now.disk c.write_through-in-Generation.new.disk c.write_through-in-Generation.ensures.any_moment

pub returns-in_ok-write_through-in-Group-clause-older : goal.returns-in_ok-write_through-in-Group-clause-older
returns-in_ok-write_through-in-Group-clause-older g c =
    let apart : IsApart (1 + 2 * c.args.self.now.end.generation) c.journal_file-file.result = λ f some lt e. omega (arith, lt, e, c.journal_file-file.ensures) in
    kept_one g.D.Disk.says (1 + 2 * c.args.self.now.end.generation) c.journal_file-file.result (Torn (c.args.self.now.end.length + 1) 1) apart c.args.self.now.disk c.write_through.new.disk c.write_through.ensures.crash

pub returns-in_ok-write_through-in-Group-clause-any_older : goal.returns-in_ok-write_through-in-Group-clause-any_older
returns-in_ok-write_through-in-Group-clause-any_older g c =
    let apart : IsApart (1 + 2 * c.args.self.now.end.generation) c.journal_file-file.result = λ f some lt e. omega (arith, lt, e, c.journal_file-file.ensures) in
    always_one g.D.Disk.says (1 + 2 * c.args.self.now.end.generation) c.journal_file-file.result (Torn (c.args.self.now.end.length + 1) 1) apart c.args.self.now.disk c.write_through.new.disk c.write_through.ensures.any_moment

pub returns-in_ok-write_through-in-Generation-clause-older : goal.returns-in_ok-write_through-in-Generation-clause-older
returns-in_ok-write_through-in-Generation-clause-older g c =
    let apart : IsApart (1 + 2 * c.args.self.now.end.generation) 0 = λ f some lt e. omega (arith, some, e) in
    kept_one g.D.Disk.says (1 + 2 * c.args.self.now.end.generation) 0 (Torn c.args.self.now.end.generation 1) apart c.args.self.now.disk c.write_through-in-Generation.new.disk c.write_through-in-Generation.ensures.crash

pub returns-in_ok-write_through-in-Generation-clause-any_older : goal.returns-in_ok-write_through-in-Generation-clause-any_older
returns-in_ok-write_through-in-Generation-clause-any_older g c =
    let apart : IsApart (1 + 2 * c.args.self.now.end.generation) 0 = λ f some lt e. omega (arith, some, e) in
    always_one g.D.Disk.says (1 + 2 * c.args.self.now.end.generation) 0 (Torn c.args.self.now.end.generation 1) apart c.args.self.now.disk c.write_through-in-Generation.new.disk c.write_through-in-Generation.ensures.any_moment

pub returns-in-Nothing-clause-asked : goal.returns-in-Nothing-clause-asked
returns-in-Nothing-clause-asked g c = λ was doubt stands some. absurd (known_doubt g.D.Disk.says c.args.self.now was doubt c.in-Nothing.is stands some)

pub returns-in-Nothing-clause-at_most : goal.returns-in-Nothing-clause-at_most
returns-in-Nothing-clause-at_most g c = λ was doubt stands some. absurd (known_doubt g.D.Disk.says c.args.self.now was doubt c.in-Nothing.is stands some)

pub returns-in-Nothing-clause-closed : goal.returns-in-Nothing-clause-closed
returns-in-Nothing-clause-closed g c = λ was doubt stands image left. nothing_shut g.D.Disk.says c.args.self.now was doubt image c.in-Nothing.is stands

pub returns-in_ok-write_through-in-Group-clause-closed : goal.returns-in_ok-write_through-in-Group-clause-closed
returns-in_ok-write_through-in-Group-clause-closed g c = λ was doubt stands image left.
    settled_mark g.D.Disk.says g.met.D.Disk.reads_an_image c.args.self.now was c.journal_file-file.result c.journal_file-file.ensures c.in-Group.is doubt stands image (c.in_ok-write_through-in-Group.ensures.durable image left)

pub returns-in_ok-write_through-in-Generation-clause-closed : goal.returns-in_ok-write_through-in-Generation-clause-closed
returns-in_ok-write_through-in-Generation-clause-closed g c = λ was doubt stands image left.
    root_settled_mark g.D.Disk.says g.met.D.Disk.reads_an_image c.args.self.now was c.in-Generation.is doubt stands image (c.in_ok-write_through-in-Generation.ensures.durable image left)

pub returns-in_err-write_through-in-Group-clause-keeps : goal.returns-in_err-write_through-in-Group-clause-keeps
returns-in_err-write_through-in-Group-clause-keeps g c = λ older keeps.
    older_kept g.D.Disk.says c.args.self.now _ older keeps (1 + 2 * c.args.self.now.end.generation) (omega arith) refl c.write_through.ensures.told (returns-in_err-write_through-in-Group-clause-older g c)

pub returns-in_ok-write_through-in-Group-clause-keeps : goal.returns-in_ok-write_through-in-Group-clause-keeps
returns-in_ok-write_through-in-Group-clause-keeps g c = λ older keeps.
    older_kept g.D.Disk.says c.args.self.now _ older keeps (1 + 2 * c.args.self.now.end.generation) (omega arith) refl c.write_through.ensures.told (returns-in_ok-write_through-in-Group-clause-older g c)

pub returns-in_err-write_through-in-Generation-clause-keeps : goal.returns-in_err-write_through-in-Generation-clause-keeps
returns-in_err-write_through-in-Generation-clause-keeps g c = λ older keeps.
    older_kept g.D.Disk.says c.args.self.now _ older keeps (1 + 2 * c.args.self.now.end.generation) (omega arith) refl c.write_through-in-Generation.ensures.told (returns-in_err-write_through-in-Generation-clause-older g c)

pub returns-in_ok-write_through-in-Generation-clause-keeps : goal.returns-in_ok-write_through-in-Generation-clause-keeps
returns-in_ok-write_through-in-Generation-clause-keeps g c = λ older keeps.
    older_kept g.D.Disk.says c.args.self.now _ older keeps (1 + 2 * c.args.self.now.end.generation) (omega arith) refl c.write_through-in-Generation.ensures.told (returns-in_ok-write_through-in-Generation-clause-older g c)
