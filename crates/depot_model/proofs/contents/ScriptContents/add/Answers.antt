use Rattle.std.proofs.Common.{◌≡◌, ◌+◌, ℕ, refl, sym, subst, arith}
use Rattle.depot_model.specs.Contents.{AreTold, IsOneMore, ScriptFiles}
use Rattle.depot_model.proofs.Lines.{told_more}
use Rattle.depot_model.proofs.InForce.{one_more}
use Rattle.depot_model.proofs.contents.ScriptContents.add.Goals as goal

pub invariant_of-self-2 : goal.invariant_of-self-2
invariant_of-self-2 c =
    let was = c.self.inside in
    let told = told_more was.lines was.files.entries c.self.invariant c.args.path (record { line = was.lines; bytes = c.args.bytes }) refl c.requires in
    let e = c.in-Some.ensures in
    subst (λ (n : ℕ). AreTold n c.add_line.new.files.entries) (omega arith) (subst (AreTold (was.lines + 1)) (sym c.in_ok-add_line.ensures.ok) told)

pub returns-clause-ok : goal.returns-clause-ok
returns-clause-ok c =
    let was = c.self.inside in
    let more = one_more was.lines was.files.entries c.self.invariant c.args.path (record { line = was.lines; bytes = c.args.bytes }) refl in
    let e = c.in-Some.ensures in
    let lines : was.lines + 1 ≡ c.in-Some.lines = omega arith in
    subst (λ (old : ScriptFiles). IsOneMore old (record { lines = c.in-Some.lines; files = c.add_line.new.files.entries }) c.args.path c.args.bytes) c.self.view_is
    (subst (λ (new : ScriptFiles). IsOneMore (record { lines = was.lines; files = was.files.entries }) new c.args.path c.args.bytes)
    (λ i. record { lines = lines i; files = sym c.in_ok-add_line.ensures.ok i }) more)
