use Rattle.std.proofs.Common.{◌∙◌, subst, Some}
use Rattle.protect_table.specs.Numbers.{IsSaid, IsWithin}
use Rattle.protect_table.proofs.Naming.{is_granted, none_is}
use Rattle.protect_table.proofs.protects.Protects.grants.Goals as goal

pub returns-in-Some : goal.returns-in-Some
returns-in-Some c =
    let said : IsSaid c.args.asked.now c.args.self.now (Some c.in-Some.said) = subst (IsSaid c.args.asked.now c.args.self.now) c.in-Some.is c.last_said.ensures.said in
    is_granted c.args.asked.now c.args.self.now c.in-Some.said said
    (λ n. subst (λ o. IsWithin c.args.asked.now c.args.self.now o n) c.in-Some.is (c.last_said.ensures.within n))

pub returns-in-None : goal.returns-in-None
returns-in-None c =
    c.is_empty.ensures
    ∙ none_is c.args.self.now c.lines.result.now c.args.asked.now c.lines.ensures (λ n. subst (λ o. IsWithin c.args.asked.now c.args.self.now o n) c.in-None.is (c.last_said.ensures.within n))
