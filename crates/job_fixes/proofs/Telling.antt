-- Deeds behind others.
use Rattle.std.proofs.Common.{◌≡◌, List, [], ◌∷◌, ◌++◌, ap, ◌∙◌, append_assoc}
use Rattle.depot_rows.specs.depot_model.Deeds.{Deed}
use Rattle.depot_rows.specs.declared.deed.Deed.{Deed as Done}
use Rattle.depot_facts.specs.Following.{AreTold}
use Rattle.job_fixes.specs.Telling.{Tells}

pub told_on : (a b : List Done) (s t : List Deed) → AreTold a s → AreTold b t → AreTold (a ++ b) (s ++ t)
told_on [] b [] t h k = k
told_on [] b (x ∷ s) t h k = absurd h
told_on (y ∷ a) b [] t h k = absurd h
told_on (y ∷ a) b (x ∷ s) t h k = (h.0, told_on a b s t h.1 k)

pub tells_none : (before now : List Done) → now ≡ before ++ [] → Tells before now []
tells_none before now e = ([], (e, tt))

pub tells_on : (a b c : List Done) (s t : List Deed) → Tells a b s → Tells b c t → Tells a c (s ++ t)
tells_on a b c s t h k =
    (h.0 ++ k.0, (k.1.0 ∙ ap (λ (l : List Done). l ++ k.0) h.1.0 ∙ append_assoc a h.0 k.0, told_on h.0 k.0 s t h.1.1 k.1.1))
