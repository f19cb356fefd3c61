-- Where the arguments ask for no revision, they name what they name at the heads; and the loop over chosen files is the model's.
use Rattle.std.proofs.Common.{◌≡◌, ℕ, Bool, true, false, List, [], ◌∷◌, refl, sym, ap}
use Rattle.std.specs.Prelude.{filter, is_some}
use Rattle.std.specs.List.{list_all}
use Rattle.std.proofs.lemmas.Bool.{and_parts}
use Rattle.depot_rows.specs.depot_path.declared.file_spec.FileSpec.{FileSpec}
use Rattle.depot_rows.specs.depot_path.declared.revision.Wanted.{Wanted}
use Rattle.depot_rows.specs.depot_path.declared.revision.Wanted.TheVariants.{Head, One, Range}
use Rattle.depot_rows.specs.depot_model.declared.command.FileArgument.{FileArgument}
use Rattle.depot_rows.specs.depot_model.declared.request.Caller.{Caller}
use Rattle.depot_rows.specs.depot_model.Arguments.{named, names, over, over_all, submitted}
use Rattle.depot_rows.specs.depot_model.Deeds.{Deed}
use Rattle.depot_rows.specs.depot_model.Step.{Step as ModelStep}
use Rattle.depot_rows.specs.depot_model.Steps.Listing.{chosen_revision, listed}
use Rattle.depot_rows.specs.depot_model.WellFormed.{asks_head}
use Rattle.file_steps.proofs.Alike.{AllAlike, over_alike}
use Rattle.named_files.specs.Sets.{at_head, is_listed}
use Rattle.named_files.proofs.Selection.{both_tests}

-- ---- arguments that ask for no revision

head_is : (spec : FileSpec) (wanted : Wanted) → spec.wanted ≡ wanted → (elim wanted as (λ _. Bool) [ Head ↦ true | _ ↦ false ]) ≡ true → at_head spec ≡ spec
head_is spec Head is asks = λ i. record { pattern = spec.pattern; wanted = sym is i }
head_is spec (One end) is asks = absurd cc
head_is spec (Range first second) is asks = absurd cc

pub at_own_head : (a : FileArgument) → asks_head a ≡ true → at_head a.spec ≡ a.spec
at_own_head a asks = head_is a.spec a.spec.wanted refl asks

module _ (d : List Deed) (caller : Caller) (files : List (List ℕ)) where
  abbrev pub at_heads : FileArgument → List (List ℕ)
  at_heads a = filter (names false d caller (at_head a.spec)) files

  all_heads : (arguments : List FileArgument) → list_all asks_head arguments ≡ true → AllAlike at_heads (named false d caller files) arguments
  all_heads [] asks = tt
  all_heads (a ∷ arguments) asks = (
    ap (λ (spec : FileSpec). filter (names false d caller spec) files) (at_own_head a (and_parts (asks_head a) (list_all asks_head arguments) asks).0),
    all_heads arguments (and_parts (asks_head a) (list_all asks_head arguments) asks).1,
  )

  -- the loop over the files at the heads is the model's
  pub over_heads : (missing : FileArgument → ModelStep) (act : FileArgument → List ℕ → ModelStep) (arguments : List FileArgument) → list_all asks_head arguments ≡ true
      → over at_heads missing act [] arguments ≡ over (named false d caller files) missing act [] arguments
  over_heads missing act arguments asks = over_alike at_heads (named false d caller files) missing act [] arguments (all_heads arguments asks)

  -- also where the arguments may be absent
  pub over_all_heads : (missing : FileArgument → ModelStep) (act : FileArgument → List ℕ → ModelStep) (arguments : List FileArgument) → list_all asks_head arguments ≡ true
      → over_all at_heads missing act arguments ≡ over_all (named false d caller files) missing act arguments
  over_all_heads missing act [] asks = refl
  over_all_heads missing act (a ∷ arguments) asks = over_heads missing act (a ∷ arguments) asks

-- ---- arguments that choose a revision

-- the loop over the submitted files of which arguments choose a revision is the model's
pub over_listed : (d : List Deed) (caller : Caller) (missing : FileArgument → ModelStep) (act : FileArgument → List ℕ → ModelStep) (arguments : List FileArgument)
    → over (λ a. filter (is_listed caller d a) (submitted d)) missing act [] arguments ≡ over (listed d caller) missing act [] arguments
over_listed d caller missing act arguments = λ i.
    over (λ a. both_tests (λ path. is_some (chosen_revision d caller a path)) (names false d caller a.spec) (submitted d) i) missing act [] arguments
