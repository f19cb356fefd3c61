-- The loop over arguments does the same where each names the same files.
use Rattle.std.proofs.Common.{◌≡◌, ℕ, List, [], ◌∷◌, ◌++◌, refl, ap, ◌∙◌}
use Rattle.depot_rows.specs.depot_model.declared.command.FileArgument.{FileArgument}
use Rattle.depot_rows.specs.depot_model.Arguments.{each_or, not_in, over}
use Rattle.depot_rows.specs.depot_model.Step.{Step as ModelStep, both}

-- each argument names the same files
abbrev pub AllAlike : (FileArgument → List (List ℕ)) → (FileArgument → List (List ℕ)) → List FileArgument → Type 0
AllAlike f g [] = Unit {0}
AllAlike f g (a ∷ arguments) = (f a ≡ g a) × AllAlike f g arguments

pub over_alike : (f g : FileArgument → List (List ℕ)) (missing : FileArgument → ModelStep) (act : FileArgument → List ℕ → ModelStep) (taken : List (List ℕ))
    (arguments : List FileArgument) → AllAlike f g arguments → over f missing act taken arguments ≡ over g missing act taken arguments
over_alike f g missing act taken [] alike = refl
over_alike f g missing act taken (a ∷ arguments) alike =
    (λ i. both (each_or (missing a) (act a) (alike.0 i) (not_in taken (alike.0 i))) (over f missing act (taken ++ alike.0 i) arguments))
    ∙ ap (both (each_or (missing a) (act a) (g a) (not_in taken (g a)))) (over_alike f g missing act (taken ++ g a) arguments alike.1)
