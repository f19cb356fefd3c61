use Rattle.std.proofs.Common.{◌∙◌}
use Rattle.p4_server.proofs.Inits.{inits_of}
use Rattle.p4_server.proofs.init.init.Goals as goal

pub returns-clause-inits : goal.returns-clause-inits
returns-clause-inits g c =
    let made = c.make_files-made.ensures in
    let end = c.end_alone.ensures in
    inits_of _ _ _ _ _ _ end.journal end.archive made.archive_looks c.make_files-made.result end.told (end.cause ∙ c.cause_of_making.ensures)
    made.made made.empty_depot made.unmade made.there made.untouched made.others made.cause made.journal_told made.archive_told made.images made.any_moment made.archive_reads made.unfailed made.kept
