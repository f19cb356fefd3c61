use Rattle.std.proofs.Common.{Option, Some, None, ◌≡◌, refl, ap, ◌∙◌}
use Rattle.std.specs.Prelude.{option_and_then}
use Rattle.depot_rows.specs.spec_form.Form.{FormValue}
use Rattle.depot_rows.specs.depot_model.Deeds.{ShelfForm}
use Rattle.depot_rows.specs.depot_model.Latest.{spec, when}
use Rattle.depot_rows.specs.depot_model.Shelves.{is_kept, shelf_name}
use Rattle.shelf_ops.specs.Kept.{if_kept}
use Rattle.shelf_ops.proofs.keeping.kept_form.Goals as goal

kept_is : (o : Option FormValue) → if_kept o ≡ option_and_then (λ form. when (is_kept form) form) o
kept_is None = refl
kept_is (Some form) = refl

pub returns : goal.returns
returns c = λ d sound has.
    c.if_kept-kept.ensures
    ∙ ap if_kept (c.in_ok-form.ensures d sound has ∙ ap (spec d ShelfForm) (c.as_bytes.ensures ∙ c.in_ok-name.ensures))
    ∙ kept_is (spec d ShelfForm (shelf_name c.args.change c.args.path.now))
