use Rattle.std.proofs.Common.{length}
use Rattle.outside_api.specs.Disk.{Files}
use Rattle.outside_api.specs.Moments.{started, goes_on}
use Rattle.archive_file.specs.Archive.{disk_of, Has}
use Rattle.archive_file.proofs.Spots.{has_written, still_has, still_read}
use Rattle.archive_file.proofs.archive.Archive.write.Goals as goal

pub returns-clause-written : goal.returns-clause-written
returns-clause-written g c = λ files read.
    let from = c.in_ok-write_at.ensures.written.from files read in
    has_written c.args.at c.args.content.now (from.0 0) (files 0) (c.requires.room from.0 from.1) from.2.this

pub returns-clause-read : goal.returns-clause-read
returns-clause-read g c = λ spot bytes le all files read.
    let from = c.in_ok-write_at.ensures.written.from files read in
    still_read c.args.at c.args.content.now (from.0 0) (files 0) spot bytes le (c.requires.room from.0 from.1) from.2.this (all from.0 from.1)

pub returns-clause-kept : goal.returns-clause-kept
returns-clause-kept g c = λ spot bytes le all image left.
    let from = c.write_at.ensures.crash image left in
    still_has c.args.at (length c.args.content.now) (from.0 0) (image 0) spot bytes le from.2.this (all from.0 from.1)

pub returns-in_err-write_at-clause-kept : goal.returns-in_err-write_at-clause-kept
returns-in_err-write_at-clause-kept g c = λ spot bytes le all image left.
    let from = c.write_at.ensures.crash image left in
    still_has c.args.at (length c.args.content.now) (from.0 0) (image 0) spot bytes le from.2.this (all from.0 from.1)

pub returns-clause-any_moment : goal.returns-clause-any_moment
returns-clause-any_moment g c = λ spot bytes le all.
    let P : Files → Type 0 = λ image. Has (image 0) spot bytes in
    let disk = disk_of c.args.self.now in
    goes_on g.D.Disk.says disk disk c.write_at.new.self P (started g.D.Disk.says disk P (λ image left. all image (g.met.D.Disk.only_now disk image left))) c.write_at.ensures.time
    (λ image left.
    let from = c.write_at.ensures.crash image left in
    still_has c.args.at (length c.args.content.now) (from.0 0) (image 0) spot bytes le from.2.this (all from.0 from.1))

pub returns-in_err-write_at-clause-any_moment : goal.returns-in_err-write_at-clause-any_moment
returns-in_err-write_at-clause-any_moment g c = λ spot bytes le all.
    let P : Files → Type 0 = λ image. Has (image 0) spot bytes in
    let disk = disk_of c.args.self.now in
    goes_on g.D.Disk.says disk disk c.write_at.new.self P (started g.D.Disk.says disk P (λ image left. all image (g.met.D.Disk.only_now disk image left))) c.write_at.ensures.time
    (λ image left.
    let from = c.write_at.ensures.crash image left in
    still_has c.args.at (length c.args.content.now) (from.0 0) (image 0) spot bytes le from.2.this (all from.0 from.1))
