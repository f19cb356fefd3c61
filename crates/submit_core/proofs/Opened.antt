-- Of opened files each is opened.
use Rattle.std.proofs.Common.{◌≡◌, ◌<◌, ℕ, zero, suc, List, [], ◌∷◌, drop, length, get_or, subst}
use Rattle.depot_rows.specs.depot_model.Deeds.{Deed}
use Rattle.depot_rows.specs.declared.deed.Opening.{Opening}
use Rattle.submit_core.specs.Premises.{AreOpened, IsOpened}
use Rattle.job_fixes.proofs.Steps.{back}

module _ (d : List Deed) (client : List ℕ) where
  opened_drop : (i : ℕ) (os : List Opening) → AreOpened d client os → AreOpened d client (drop i os)
  opened_drop zero os h = h
  opened_drop (suc i) [] h = tt
  opened_drop (suc i) (o ∷ os) h = opened_drop i os h.1

  pub opened_at : (os : List Opening) (i : ℕ) (o : Opening) → i < length os → o ≡ get_or os i o → AreOpened d client os → IsOpened d client o
  opened_at os i o within is h = (subst (λ (l : List Opening). AreOpened d client l) (back os i o within is) (opened_drop i os h)).0
