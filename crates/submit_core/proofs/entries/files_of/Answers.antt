use Rattle.std.proofs.Common.{List, map, take, sym, ap, subst, refl, ◌∙◌}
use Rattle.depot_rows.specs.table_changes.Changed.{rows_of}
use Rattle.depot_rows.specs.depot_model.Deeds.{Opening}
use Rattle.depot_rows.specs.Deed.{opening_of}
use Rattle.submit_core.specs.Entries.{AreFiles}
use Rattle.submit_core.proofs.Filing.{no_files}
use Rattle.submit_core.proofs.Opened.{opened_at}
use Rattle.job_fixes.proofs.Steps.{front, map_on}
use Rattle.submit_core.proofs.entries.files_of.Goals as goal

pub loop-opening-init : goal.loop-opening-init
loop-opening-init c = λ d request reads opened. no_files (rows_of c.args.tables.now) d request c.args.from _ c.new.ensures c.new-2.ensures refl

pub loop-opening-preserved : goal.loop-opening-preserved
loop-opening-preserved c = λ d request reads opened.
    let os = c.args.openings.now in
    let i = c.loop-opening.opening-index in
    let o = c.opening-item.result in
    let all = rows_of c.args.tables.now in
    subst (λ (l : List Opening). AreFiles all d request c.args.from l c.add_file.new.files)
    (sym (ap (map opening_of) (front os i o c.loop-opening-test.true c.opening-item.is) ∙ map_on opening_of (take i os) o))
    (c.in_ok-add_file.ensures d request c.args.from (map opening_of (take i os)) reads (opened_at d request.caller.client os i o c.loop-opening-test.true c.opening-item.is opened)
    (c.loop-opening.invariant d request reads opened))
