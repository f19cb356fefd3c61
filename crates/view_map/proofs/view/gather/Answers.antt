use Rattle.std.proofs.Common.{◌-◌, sym, ◌∙◌, arith, OnErr, Result, Ok, Err}
use Rattle.view_map.proofs.Placing.{all_files, files_of_overlay, files_without, client_fits, is_hidden}
use Rattle.view_map.proofs.view.gather.Goals as goal

on_err_holds : {T E : Type 0} (r : Result T E) (P : Type 0) → P → OnErr r P
on_err_holds (Ok x) P p = tt
on_err_holds (Err x) P p = p

pub returns-in_err-add_file-clause-memory : goal.returns-in_err-add_file-clause-memory
returns-in_err-add_file-clause-memory c =
    on_err_holds c.from_residual.result _ (client_fits c.args.lines.now c.args.path.now c.loop-at.at (c.loop-at.at - 1) c.index-lines-at.result (omega arith) c.loop-at.invariant.low c.index-lines-at.is (sym c.matches.ensures ∙ c.if-matches.true))

pub returns-then-not-is_overlay-clause-files : goal.returns-then-not-is_overlay-clause-files
returns-then-not-is_overlay-clause-files c =
    all_files c.args.lines.now c.lines_after.result.now c.args.path.now c.loop-at.files c.add_file.new.files c.loop-at.at (c.loop-at.at - 1) c.index-lines-at.result
    (omega arith) c.index-lines-at.is c.lines_after.ensures c.loop-at.invariant c.in_ok-add_file.ensures (sym c.is_overlay.ensures ∙ c.if-not-is_overlay.true) (sym c.matches.ensures ∙ c.if-matches.true)

pub loop-at-preserved-else-not-is_overlay : goal.loop-at-preserved-else-not-is_overlay
loop-at-preserved-else-not-is_overlay c =
    files_of_overlay c.args.lines.now c.lines_after.result.now c.args.path.now c.loop-at.files c.add_file.new.files c.loop-at.at (c.loop-at.at - 1) c.index-lines-at.result
    (omega arith) c.index-lines-at.is c.lines_after.ensures c.loop-at.invariant c.in_ok-add_file.ensures (sym c.is_overlay.ensures ∙ c.if-not-is_overlay.false)

pub loop-at-preserved : goal.loop-at-preserved
loop-at-preserved c =
    files_without c.args.lines.now c.args.path.now c.loop-at.files c.loop-at.at (c.loop-at.at - 1) c.index-lines-at.result
    (omega arith) c.index-lines-at.is c.loop-at.invariant (sym c.matches.ensures ∙ c.if-matches.false)

pub returns-then-not-is_overlay-clause-hidden : goal.returns-then-not-is_overlay-clause-hidden
returns-then-not-is_overlay-clause-hidden c =
    is_hidden c.args.lines.now c.args.path.now c.loop-at.at (c.loop-at.at - 1) c.index-lines-at.result (omega arith) c.loop-at.invariant.low c.index-lines-at.is
    (sym c.is_overlay.ensures ∙ c.if-not-is_overlay.true) (sym c.matches.ensures ∙ c.if-matches.true)
