use Rattle.std.proofs.Common.{◌≡◌, ◌+◌, ℕ, false, List, sym, subst, ◌∙◌, arith, Result, Ok, Err, OnOk}
use Rattle.std.specs.Prelude.{is_err}
use Rattle.depot_path.specs.Answers.{Answers}
use Rattle.protect_table.specs.Line.{line_of}
use Rattle.protect_table.specs.declared.line.ProtectLine.{ProtectLine}
use Rattle.protect_table.specs.declared.fault.LineFault.{LineFault}
use Rattle.protect_table.specs.declared.fault.LineFault.TheVariants.{Memory}
use Rattle.protect_table.proofs.Lines.{HasRead, one_more}
use Rattle.protect_table.proofs.protects.Protects.from_lines.Goals as goal

on_ok_holds : {T E : Type 0} (r : Result T E) (P : Type 0) → is_err r ≡ false → OnOk r P → P
on_ok_holds (Ok x) P e h = h
on_ok_holds (Err x) P e h = absurd cc

pub loop-i-preserved : goal.loop-i-preserved
loop-i-preserved c =
    let P : Result ProtectLine LineFault → Type 0 = λ r. Answers Memory r (line_of c.as_bytes.result.now) in
    let Q : List ℕ → Type 0 = λ t. Answers Memory (Ok c.in-Ok.line) (line_of t) in
    let R : List ProtectLine → Type 0 = λ r. HasRead c.args.lines.now r (c.loop-i.i + 1) in
    let is = subst Q (c.as_bytes.ensures ∙ c.index-lines-i.is) (subst P c.in-Ok.is c.read.ensures) in
    let pushed = on_ok_holds c.push.result _ (sym c.is_err.ensures.value ∙ c.if-is_err.false) c.push.ensures.ok in
    subst R (sym pushed) (one_more c.args.lines.now c.loop-i.read c.loop-i.i c.index-lines-i.result c.in-Ok.line (omega arith) c.loop-i.invariant is)
