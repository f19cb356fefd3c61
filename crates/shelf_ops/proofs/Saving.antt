-- The deed that saves the form of a shelved file.
use Rattle.std.proofs.Common.{◌≡◌, ℕ, List, [], ◌∷◌, Some}
use Rattle.depot_rows.specs.spec_form.Form.{FormValue}
use Rattle.depot_rows.specs.depot_model.Deeds.{Deed, ShelfForm, Spec}
use Rattle.depot_rows.specs.Effects.{Follow}
use Rattle.depot_rows.specs.declared.deed.Deed.TheVariants as dones
use Rattle.depot_rows.specs.declared.deed.SpecKind.TheVariants as kinds

pub may_save : (e : List Deed) (name its : List ℕ) (form made : FormValue) → name ≡ its → form ≡ made
    → Follow e (dones.Spec kinds.Shelf name form ∷ []) (Spec ShelfForm its made ∷ [])
may_save e name its form made own is = ((λ i. Some (Spec ShelfForm (own i) (is i))), tt, tt)
