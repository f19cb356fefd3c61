use Rattle.std.proofs.Common.{[], ◌++◌, List, ap, ◌∙◌}
use Rattle.std.specs.Prelude.{flat_map}
use Rattle.depot_rows.specs.depot_model.Fixes.{closing, fixes_of}
use Rattle.depot_rows.specs.declared.deed.Deed.{Deed}
use Rattle.submit_core.specs.Landing.{dropped_by, ends_of}
use Rattle.job_fixes.proofs.Telling.{tells_on}
use Rattle.submit_core.proofs.Ending.{told_all}
use Rattle.submit_core.proofs.landing.later_deeds.Goals as goal

pub returns : goal.returns
returns c = λ d files dropped sound has dropped_told files_told.
    let n = c.args.change in
    let m = c.args.number in
    let first = c.drop_number.new.deeds in
    let second = c.end_files.new.deeds in
    let third = c.close_jobs.new.deeds in
    told_all third (dropped ++ files ++ flat_map (closing d n m) (fixes_of d n))
    (tells_on [] second third (dropped ++ files) (flat_map (closing d n m) (fixes_of d n))
    (tells_on [] first second dropped files
    (dropped_by n m, (c.in_ok-drop_number.ensures ∙ ap (λ (l : List Deed). l ++ dropped_by n m) c.new-deeds.ensures, dropped_told))
    (flat_map (ends_of c.args.client.now) c.args.entries.now, (c.in_ok-end_files.ensures, files_told)))
    (c.in_ok-close_jobs.ensures d sound has))
