use Rattle.std.proofs.Common.{◌≡◌, ◌+◌, ℕ, false, List, sym, subst, ◌∙◌, arith, Result, Ok, Err, OnOk}
use Rattle.std.specs.Prelude.{is_err}
use Rattle.depot_path.specs.Answers.{Answers}
use Rattle.view_map.specs.Reading.{line_of}
use Rattle.view_map.specs.declared.line.ViewLine.{ViewLine}
use Rattle.view_map.specs.declared.fault.ViewCause.{ViewCause}
use Rattle.view_map.specs.declared.fault.ViewCause.TheVariants.{Memory}
use Rattle.view_map.proofs.Lines.{HasRead, one_more}
use Rattle.view_map.proofs.view.read_lines.Goals as goal

on_ok_holds : {T E : Type 0} (r : Result T E) (P : Type 0) → is_err r ≡ false → OnOk r P → P
on_ok_holds (Ok x) P e h = h
on_ok_holds (Err x) P e h = absurd cc

pub loop-i-preserved : goal.loop-i-preserved
loop-i-preserved c =
    let P : Result ViewLine ViewCause → Type 0 = λ r. Answers Memory r (line_of c.args.root.now c.as_bytes.result.now) in
    let Q : List ℕ → Type 0 = λ t. Answers Memory (Ok c.in-Ok.line) (line_of c.args.root.now t) in
    let R : List ViewLine → Type 0 = λ r. HasRead c.args.root.now c.args.lines.now r (c.loop-i.i + 1) in
    let is = subst Q (c.as_bytes.ensures ∙ c.index-lines-i.is) (subst P c.in-Ok.is c.read.ensures.value) in
    let pushed = on_ok_holds c.push.result _ (sym c.is_err.ensures.value ∙ c.if-is_err.false) c.push.ensures.ok in
    subst R (sym pushed) (one_more c.args.root.now c.args.lines.now c.loop-i.read c.loop-i.i c.index-lines-i.result c.in-Ok.line (omega arith) c.loop-i.invariant is c.in-Ok.ensures.paired)
