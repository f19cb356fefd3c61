use Rattle.std.proofs.Common.{◌≡◌, true, false, Bool, ℕ, List, Option, Some, None, cond, IfOk, sym, ap, ◌∙◌, subst, refl}
use Rattle.depot_path.specs.Path.{is_path}
use Rattle.depot_path.specs.Fit.{filled}
use Rattle.depot_path.specs.declared.piece.Piece.{Piece}
use Rattle.view_map.specs.Carry.{made_of, confirmed}
use Rattle.view_map.proofs.carry.made_of.Goals as goal

made_some : (to : List Piece) (ts : List (List ℕ)) (b path : List ℕ) → b ≡ filled to ts → cond (is_path b) (Some b) None ≡ Some path → confirmed to path ts ≡ made_of to ts
made_some to ts b path e f = subst (λ (x : List ℕ). confirmed to path ts ≡ cond (is_path x) (confirmed to x ts) None) e (go (is_path b) f)
  where
    go : (c : Bool) → cond c (Some b) None ≡ Some path → confirmed to path ts ≡ cond c (confirmed to b ts) None
    go true f = let same : path ≡ b = cc in ap (λ x. confirmed to x ts) same
    go false f = absurd cc

made_none : (to : List Piece) (ts : List (List ℕ)) (b : List ℕ) → b ≡ filled to ts → cond (is_path b) (Some b) None ≡ None → None ≡ made_of to ts
made_none to ts b e f = subst (λ (x : List ℕ). None ≡ cond (is_path x) (confirmed to x ts) None) e (go (is_path b) f)
  where
    go : (c : Bool) → cond c (Some b) None ≡ None → None ≡ cond c (confirmed to b ts) None
    go true f = absurd cc
    go false f = refl

pub returns-in-Some : goal.returns-in-Some
returns-in-Some c =
    let e = made_some c.args.to.now c.args.texts.now c.in_ok-filled.field-0 c.in-Some.path c.in_ok-filled.ensures (sym c.from_text.ensures ∙ c.in-Some.is) in
    subst (λ (o : Option (List ℕ)). IfOk c.confirmed.result (λ made. made ≡ o)) e c.confirmed.ensures

pub returns-in-None : goal.returns-in-None
returns-in-None c = made_none c.args.to.now c.args.texts.now c.in_ok-filled.field-0 c.in_ok-filled.ensures (sym c.from_text.ensures ∙ c.in-None.is)
