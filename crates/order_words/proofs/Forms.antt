-- A seat that has the form that its type asks for.
use Rattle.std.proofs.Common.{◌≡◌, ℕ, List, [], refl, sym, ap, ◌∙◌, subst}
use Rattle.atomic_table.specs.Table.{Me}
use Rattle.atomic_table.specs.Seated.{TableId}
use Rattle.order_words.specs.declared.view.View.{View}
use Rattle.order_words.specs.declared.view.Role.TheVariants.{Order}
use Rattle.order_words.specs.Plays.{seen_as, order_view, order_state}

module _ {E : Type 0} where
  pub is_order : (run : TableId) (m : Me E (View E)) (list : List E) (made : ℕ) (check : List ℕ) (cs : List (ℕ × E)) → m ≡ (seen_as list (Order made check), cs) → cs ≡ [] → m ≡ (order_view (order_state run m.0), [])
  is_order run m list made check cs e nil = subst (λ (z : Me E (View E)). z ≡ (order_view (order_state run z.0), [])) (sym (e ∙ ap (λ (c : List (ℕ × E)). (seen_as list (Order made check), c)) nil)) refl
