use Rattle.std.proofs.Common.{◌≡◌, ◌≤◌, ◌-◌, ℕ, suc, Option, Some, None, sym, ◌∙◌, arith}
use Rattle.std.specs.Prelude.{IfSome}
use Rattle.std.specs.Option.{SomeIff}
use Rattle.history_query.specs.Leaping.{IsDepth}
use Rattle.history_query.proofs.Depths.{fitting_slashes}
use Rattle.history_query.proofs.leaping.depth_of.Goals as goal

two_more : (n depth : ℕ) → 2 ≤ n → depth ≡ n - 2 → n ≡ suc (suc depth)
two_more n depth few e = omega (arith, few, e)

pub returns : goal.returns
returns c = go c.checked_sub.result c.checked_sub.ensures
  where
    go : (o : Option ℕ) → SomeIff o (2 ≤ c.slashes_in.result) (c.slashes_in.result - 2) → IfSome o (λ depth. IsDepth c.args.pattern.now depth)
    go None h = tt
    go (Some depth) h = λ text fit.
        fitting_slashes c.args.pattern.now (sym c.has_dots.ensures ∙ c.if-has_dots.false) text fit
        ∙ sym c.slashes_in.ensures ∙ two_more c.slashes_in.result depth h.0 h.1
