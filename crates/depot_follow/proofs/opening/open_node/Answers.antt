use Rattle.std.proofs.Common.{◌≡◌, Err, ap, ◌∙◌}
use Rattle.recovery.specs.declared.fault.MakeFault.TheVariants.{Made}
use Rattle.depot_follow.proofs.Opened.{Opens, made_opened, made_unopened, opens_alike, there_opened, there_unopened, unmade_unopened}
use Rattle.depot_follow.proofs.opening.open_node.Goals as goal

pub returns-in-Ok-clause-opened : goal.returns-in-Ok-clause-opened
returns-in-Ok-clause-opened g c =
    let making = c.in-Ok.ensures in
    let o = c.open.ensures in
    let opens : Opens g.D.Disk.says c.make_files.new.journal c.make_files.new.archive c.open.result =
    record { node = o.node; fresh = o.fresh; holds = o.holds; opens = o.opens; damaged = o.damaged; unmade = o.unmade; unopened = o.unopened; journal_synced = o.journal_synced; archive_synced = o.archive_synced; journal_looks = o.journal_looks; archive_looks = o.archive_looks; cause = o.cause } in
    made_opened g.D.Disk.says g.met.D.Disk.reads_an_image c.args.files (record { journal = c.make_files.new.journal; archive = c.make_files.new.archive })
    (record { journal = making.cause.journal_never_falls; archive = making.cause.archive_never_falls }) making.unmade making.made making.empty_depot c.open.result opens

pub returns-in-Ok-clause-unopened : goal.returns-in-Ok-clause-unopened
returns-in-Ok-clause-unopened g c =
    let making = c.in-Ok.ensures in
    let o = c.open.ensures in
    let opens : Opens g.D.Disk.says c.make_files.new.journal c.make_files.new.archive c.open.result =
    record { node = o.node; fresh = o.fresh; holds = o.holds; opens = o.opens; damaged = o.damaged; unmade = o.unmade; unopened = o.unopened; journal_synced = o.journal_synced; archive_synced = o.archive_synced; journal_looks = o.journal_looks; archive_looks = o.archive_looks; cause = o.cause } in
    made_unopened g.D.Disk.says g.met.D.Disk.reads_an_image c.args.files (record { journal = c.make_files.new.journal; archive = c.make_files.new.archive })
    (record { journal = making.cause.journal_never_falls; archive = making.cause.archive_never_falls }) making.unmade making.made making.empty_depot c.open.result opens

pub returns-in-Err-Made-clause-opened : goal.returns-in-Err-Made-clause-opened
returns-in-Err-Made-clause-opened g c =
    let making = c.in-Err-Made.ensures in
    let is : Err c.in-Err-Made.field-0 ≡ Err Made = ap Err c.in-Err-Made.field-0-is in
    let untouched = making.untouched is in
    let o = c.open-in-Err-Made.ensures in
    let opens : Opens g.D.Disk.says c.make_files.new.journal c.make_files.new.archive c.open-in-Err-Made.result =
    record { node = o.node; fresh = o.fresh; holds = o.holds; opens = o.opens; damaged = o.damaged; unmade = o.unmade; unopened = o.unopened; journal_synced = o.journal_synced; archive_synced = o.archive_synced; journal_looks = o.journal_looks; archive_looks = o.archive_looks; cause = o.cause } in
    there_opened g.D.Disk.says c.args.files.journal c.make_files.new.journal c.args.files.archive untouched.0 making.cause.journal_never_falls (λ files reads. making.there files reads is) c.open-in-Err-Made.result
    (opens_alike g.D.Disk.says c.make_files.new.journal c.args.files.archive c.make_files.new.archive c.open-in-Err-Made.result untouched.1 opens)

pub returns-in-Err-Made-clause-unopened : goal.returns-in-Err-Made-clause-unopened
returns-in-Err-Made-clause-unopened g c =
    let making = c.in-Err-Made.ensures in
    let is : Err c.in-Err-Made.field-0 ≡ Err Made = ap Err c.in-Err-Made.field-0-is in
    let untouched = making.untouched is in
    let o = c.open-in-Err-Made.ensures in
    let opens : Opens g.D.Disk.says c.make_files.new.journal c.make_files.new.archive c.open-in-Err-Made.result =
    record { node = o.node; fresh = o.fresh; holds = o.holds; opens = o.opens; damaged = o.damaged; unmade = o.unmade; unopened = o.unopened; journal_synced = o.journal_synced; archive_synced = o.archive_synced; journal_looks = o.journal_looks; archive_looks = o.archive_looks; cause = o.cause } in
    there_unopened g.D.Disk.says c.args.files.journal c.make_files.new.journal c.args.files.archive untouched.0 making.cause.journal_never_falls (λ files reads. making.there files reads is) c.open-in-Err-Made.result
    (opens_alike g.D.Disk.says c.make_files.new.journal c.args.files.archive c.make_files.new.archive c.open-in-Err-Made.result untouched.1 opens)

pub returns-in-Err-DiskFault-clause-unopened : goal.returns-in-Err-DiskFault-clause-unopened
returns-in-Err-DiskFault-clause-unopened g c =
    unmade_unopened g.D.Disk.says c.args.files _ (c.make_files.ensures.cause.risen (c.in-Err-DiskFault.is ∙ ap Err c.in-Err-DiskFault.field-0-is))
