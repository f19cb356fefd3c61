-- What the asker says of a file is what the model says of it.
use Rattle.std.proofs.Common.{◌≡◌, ℕ, Bool, true, false, List, Option, Some, None, refl, ◌∙◌}
use Rattle.std.specs.Prelude.{◌&&◌, if◌then◌else◌}
use Rattle.std.specs.List.{list_any}
use Rattle.std.proofs.lemmas.Bool.{false≢true, and_parts}
use Rattle.depot_rows.specs.depot_path.Fit.{fits}
use Rattle.depot_rows.specs.depot_path.declared.file_spec.FileSpec.{FileSpec}
use Rattle.depot_rows.specs.view_map.Mapping.{path_in, at_path, after_deciding, mapped}
use Rattle.depot_rows.specs.view_map.declared.line.ViewLine.{ViewLine}
use Rattle.depot_rows.specs.view_map.declared.mapped.Mapped.{Mapped}
use Rattle.depot_rows.specs.view_map.declared.mapped.Mapped.TheVariants.{Nothing, At as MappedAt}
use Rattle.depot_rows.specs.protect_table.Rights.{may}
use Rattle.depot_rows.specs.depot_model.declared.request.Caller.{Caller}
use Rattle.depot_rows.specs.depot_model.Arguments.{fits_at, in_client_syntax, names}
use Rattle.depot_rows.specs.depot_model.Asking.{may_list, view}
use Rattle.depot_rows.specs.depot_model.Choice.{chosen, is_live_choice, shown}
use Rattle.depot_rows.specs.depot_model.Deeds.{Deed}
use Rattle.revision_reads.specs.Shown.{shown_in}
use Rattle.named_files.specs.Asked.{IsAsker, is_named, is_placed, is_shown}
use Rattle.named_files.specs.declared.asker.Asker.{Asker}

module _ (d : List Deed) (caller : Caller) (asker : Asker) (is : IsAsker d caller asker) where
  pub named_is : (spec : FileSpec) (path : List ℕ) → is_named asker spec.pattern path ≡ names true d caller spec path
  named_is spec path =
      λ i. may (is.protects i) (is.who i) path 1 && (if in_client_syntax (is.client i) spec.pattern then fits_at spec.pattern (path_in (is.view i) path) else fits spec.pattern path)

  pub placed_if_named : (spec : FileSpec) (path : List ℕ) → names true d caller spec path ≡ true → is_placed asker spec.pattern path ≡ true
  placed_if_named spec path e = (and_parts (may asker.protects asker.who path 1) (is_placed asker spec.pattern path) (named_is spec path ∙ e)).1

  abbrev shown_at : FileSpec → Mapped → Option (List ℕ)
  shown_at spec place = elim place [
    | Nothing ↦ None
    | MappedAt p rivals ↦ if list_any (λ rival. is_live_choice d rival (chosen d caller rival spec.wanted)) rivals then None else Some p
  ]

  shown_in_place : (spec : FileSpec) (place : Mapped) → shown_in d caller spec.wanted place ≡ shown_at spec place
  shown_in_place spec Nothing = refl
  shown_in_place spec (MappedAt p rivals) = refl

  pub shown_is : (spec : FileSpec) (path : List ℕ) → is_shown d caller asker spec.pattern spec.wanted path ≡ names false d caller spec path
  shown_is spec path =
      (λ i. may (is.protects i) (is.who i) path 1
      && (if in_client_syntax (is.client i) spec.pattern then fits_at spec.pattern (shown_in d caller spec.wanted (mapped (is.view i) path)) else fits spec.pattern path))
      ∙ (λ i. may_list d caller path
      && (if in_client_syntax caller.client spec.pattern then fits_at spec.pattern (shown_in_place spec (mapped (view d caller.client) path) i) else fits spec.pattern path))

  -- a file that is shown at a place is put there
  shown_is_put : (spec : FileSpec) (later : List ViewLine) (place : Option (List ℕ)) → fits_at spec.pattern (shown_at spec (at_path later place)) ≡ true → fits_at spec.pattern place ≡ true
  shown_is_put spec later None e = absurd (false≢true e)
  shown_is_put spec later (Some p) e = go (list_any (λ rival. is_live_choice d rival (chosen d caller rival spec.wanted)) _) e
    where
      go : (b : Bool) → fits_at spec.pattern (if b then None else Some p) ≡ true → fits spec.pattern p ≡ true
      go true h = absurd (false≢true h)
      go false h = h

  pub placed_if_shown : (spec : FileSpec) (path : List ℕ) → names false d caller spec path ≡ true → is_placed asker spec.pattern path ≡ true
  placed_if_shown spec path e =
      (λ i. if in_client_syntax (is.client i) spec.pattern then fits_at spec.pattern (path_in (is.view i) path) else fits spec.pattern path)
      ∙ go (in_client_syntax caller.client spec.pattern) (and_parts (may_list d caller path) _ e).1
    where
      go : (b : Bool) → (if b then fits_at spec.pattern (shown d caller spec.wanted path) else fits spec.pattern path) ≡ true
          → (if b then fits_at spec.pattern (path_in (view d caller.client) path) else fits spec.pattern path) ≡ true
      go true h = shown_is_put spec (after_deciding (view d caller.client) path) (path_in (view d caller.client) path) h
      go false h = h
