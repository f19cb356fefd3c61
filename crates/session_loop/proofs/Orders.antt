-- One more place at the end of an order.
use Rattle.std.proofs.Common.{◌≡◌, ℕ, zero, suc, ◌≤◌, true, false, cond, List, [], ◌∷◌, ◌++◌, Option, refl, ap, ◌∙◌, arith}
use Rattle.std.specs.List.{AllByRecursion}
use Rattle.depot_model.specs.Deeds.{Deed}
use Rattle.depot_model.specs.declared.reply.Row.{Row}
use Rattle.depot_model.specs.declared.order.Place.{Place}
use Rattle.depot_model.specs.declared.request.Session.{Session}
use Rattle.depot_model.specs.Printed.{printed}
use Rattle.depot_model.specs.Rows.{memory_row}
use Rattle.depot_model.specs.Step.{after}
use Rattle.depot_runs.specs.Run.{deeds_at, rows_at, run, is_place_of, reply_to, output_of, outputs}

-- no place of the order is that of this command
abbrev pub IsUnplaced : ℕ → ℕ → List Place → Type 0
IsUnplaced party number order = AllByRecursion (λ place. is_place_of party number place ≡ false) order

module _ (sessions : List (Option Session)) where
  -- a command without a place
  pub reply_to-unplaced : (depot : List Deed) (order : List Place) (party number : ℕ) → IsUnplaced party number order → reply_to sessions depot order party number ≡ memory_row ∷ []
  reply_to-unplaced depot [] party number h = refl
  reply_to-unplaced depot (first ∷ order) party number h = rw h.0 (reply_to-unplaced (after depot (deeds_at sessions depot first)) order party number h.1)

  -- the command that got the last place
  pub reply_to-last : (depot : List Deed) (order : List Place) (place : Place) (party number : ℕ) → IsUnplaced party number order → is_place_of party number place ≡ true
      → reply_to sessions depot (order ++ place ∷ []) party number ≡ rows_at sessions (run sessions depot order) place
  reply_to-last depot [] place party number h is = rw is refl
  reply_to-last depot (first ∷ order) place party number h is = rw h.0 (reply_to-last (after depot (deeds_at sessions depot first)) order place party number h.1 is)

  -- any other command
  pub reply_to-other : (depot : List Deed) (order : List Place) (place : Place) (party number : ℕ) → is_place_of party number place ≡ false
      → reply_to sessions depot (order ++ place ∷ []) party number ≡ reply_to sessions depot order party number
  reply_to-other depot [] place party number h = rw h refl
  reply_to-other depot (first ∷ order) place party number h =
      ap (cond (is_place_of party number first) (rows_at sessions depot first)) (reply_to-other (after depot (deeds_at sessions depot first)) order place party number h)

  -- what the earlier commands were given
  pub outputs-other : (depot : List Deed) (order : List Place) (place : Place) (party n : ℕ) → ((k : ℕ) → k ≤ n → is_place_of party k place ≡ false)
      → outputs sessions depot (order ++ place ∷ []) party n ≡ outputs sessions depot order party n
  outputs-other depot order place party zero h = refl
  outputs-other depot order place party (suc n) h =
      let rest = outputs-other depot order place party n (λ k le. h k (omega arith)) in
      ap (λ (o : List ℕ). o ++ output_of sessions depot (order ++ place ∷ []) party (suc n)) rest
      ∙ ap (λ (r : List Row). outputs sessions depot order party n ++ printed r (suc n)) (reply_to-other depot order place party (suc n) (h (suc n) (omega arith)))
