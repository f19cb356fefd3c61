-- The form of a fix that other values are put into.
use Rattle.std.proofs.Common.{◌≡◌, ◌⊎◌, inl, inr, ℕ, List, Ok, Err, refl, ◌∙◌}
use Rattle.std.specs.Fmt.{digits}
use Rattle.std.specs.Prelude.{codes}
use Rattle.depot_rows.specs.depot_path.Answers.{Answers}
use Rattle.depot_rows.specs.spec_form.Form.{FormValue}
use Rattle.depot_rows.specs.spec_form.Reading.{form_of, no_memory}
use Rattle.depot_rows.specs.spec_form.Shapes.{fields_of}
use Rattle.depot_rows.specs.spec_form.declared.shape.Shape.TheVariants.{Fix}
use Rattle.depot_rows.specs.depot_model.Fixes.{fix_form}

abbrev blank_text : List ℕ
blank_text = codes "Job: job\nChange: 1\nUser: user\nState: on\n"

blank_is : form_of Fix blank_text ≡ Ok (fix_form (codes "job") 1 (codes "user") (codes "on"))
unfolding fields_of digits
blank_is = refl

pub blank_told : (form : FormValue) → Answers no_memory (Ok form) (form_of Fix blank_text) → form ≡ fix_form (codes "job") 1 (codes "user") (codes "on")
blank_told form h = go h.is
  where
    go : (Ok form ≡ Err no_memory) ⊎ (Ok form ≡ form_of Fix blank_text) → form ≡ fix_form (codes "job") 1 (codes "user") (codes "on")
    go (inl e) = absurd cc
    go (inr e) = let one : Ok form ≡ Ok (fix_form (codes "job") 1 (codes "user") (codes "on")) = e ∙ blank_is in cc
