use Rattle.std.proofs.Common.{◌≡◌, ◌+◌, ℕ, false, List, sym, subst, ◌∙◌, arith, Result, Ok, Err, OnOk}
use Rattle.std.specs.Prelude.{is_err}
use Rattle.db_records.specs.depot_path.Answers.{Answers}
use Rattle.db_records.specs.depot_path.declared.fault.PathFault.{PathFault}
use Rattle.db_records.specs.depot_path.declared.fault.PathFault.TheVariants.{Memory}
use Rattle.depot_model.specs.declared.filter.FilterRule.{FilterRule}
use Rattle.depot_model.specs.Filter.{rule_of}
use Rattle.depot_model.proofs.Filters.{HasRead, one_more}
use Rattle.depot_model.proofs.filter.Filter.read.Goals as goal

on_ok_holds : {T E : Type 0} (r : Result T E) (P : Type 0) → is_err r ≡ false → OnOk r P → P
on_ok_holds (Ok x) P e h = h
on_ok_holds (Err x) P e h = absurd cc

pub loop-i-preserved : goal.loop-i-preserved
loop-i-preserved c =
    let P : Result FilterRule PathFault → Type 0 = λ r. Answers Memory r (rule_of c.as_bytes.result.now) in
    let Q : List ℕ → Type 0 = λ t. Answers Memory (Ok c.in-Ok.rule) (rule_of t) in
    let R : List FilterRule → Type 0 = λ r. HasRead c.args.words.now r (c.loop-i.i + 1) in
    let is = subst Q (c.as_bytes.ensures ∙ c.index-words-i.is) (subst P c.in-Ok.is c.read_rule.ensures) in
    let pushed = on_ok_holds c.push.result _ (sym c.is_err.ensures.value ∙ c.if-is_err.false) c.push.ensures.ok in
    subst R (sym pushed) (one_more c.args.words.now c.loop-i.rules c.loop-i.i c.index-words-i.result c.in-Ok.rule (omega arith) c.loop-i.invariant is)
