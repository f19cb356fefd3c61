-- Arguments that spell files, one after another.
use Rattle.std.proofs.Common.{◌≡◌, ℕ, Bool, true, List, [], ◌∷◌, ◌++◌, sym, ap, ◌∙◌, append-nil}
use Rattle.std.specs.Prelude.{◌||◌, filter, not, if◌then◌else◌}
use Rattle.std.specs.List.{list_all}
use Rattle.std.proofs.lemmas.List.Folds.{list_any-append}
use Rattle.std.proofs.lemmas.Bool.{and_parts}
use Rattle.depot_rows.specs.depot_path.Bytes.{same}
use Rattle.depot_rows.specs.depot_model.declared.command.FileArgument.{FileArgument}
use Rattle.depot_rows.specs.depot_model.Arguments.{each_or, is_in, not_in, over}
use Rattle.depot_rows.specs.depot_model.Step.{Step as ModelStep, all_of, both, nothing}
use Rattle.depot_rows.specs.depot_model.WellFormed.{spells_path}
use Rattle.reply_rows.proofs.Joined.{both_assoc}
use Rattle.file_steps.proofs.Going.{files_next}

-- the same files are there
abbrev pub AreAlike : List (List ℕ) → List (List ℕ) → Type 0
AreAlike one other = (path : List ℕ) → is_in one path ≡ is_in other path

pub left_alike : (one other paths : List (List ℕ)) → AreAlike one other → not_in one paths ≡ not_in other paths
left_alike one other paths alike = λ i. filter (λ path. not (alike path i)) paths

pub alike_on : (taken now earlier found : List (List ℕ)) → AreAlike now (taken ++ found) → AreAlike taken earlier → AreAlike now (earlier ++ found)
alike_on taken now earlier found new old path =
    new path ∙ list_any-append (same path) taken found ∙ ap (λ (b : Bool). b || is_in found path) (old path) ∙ sym (list_any-append (same path) earlier found)

-- nothing more is found
pub alike_still : (taken found : List (List ℕ)) → found ≡ [] → AreAlike taken (taken ++ found)
alike_still taken found none path = ap (λ (x : List (List ℕ)). is_in x path) (sym (append-nil taken) ∙ (λ i. taken ++ sym none i))

pub first_spells : (argument : FileArgument) (rest arguments : List FileArgument) → argument ∷ rest ≡ arguments → list_all spells_path arguments ≡ true → spells_path argument ≡ true
first_spells argument rest arguments are e = (and_parts (spells_path argument) (list_all spells_path rest) (ap (list_all spells_path) are ∙ e)).0

pub later_spell : (argument : FileArgument) (rest arguments : List FileArgument) → argument ∷ rest ≡ arguments → list_all spells_path arguments ≡ true → list_all spells_path rest ≡ true
later_spell argument rest arguments are e = (and_parts (spells_path argument) (list_all spells_path rest) (ap (list_all spells_path) are ∙ e)).1

module _ (found : FileArgument → List (List ℕ)) (missing : FileArgument → ModelStep) (act : FileArgument → List ℕ → ModelStep) where
  -- what is done for an argument after files
  abbrev pub done_after : List (List ℕ) → FileArgument → ModelStep
  done_after taken a = each_or (missing a) (act a) (found a) (not_in taken (found a))

  pub argument_on : (m : ModelStep) (taken earlier : List (List ℕ)) (a : FileArgument) (rest arguments : List FileArgument) → a ∷ rest ≡ arguments → AreAlike taken earlier
      → both (both m (done_after taken a)) (over found missing act (earlier ++ found a) rest) ≡ both m (over found missing act earlier arguments)
  argument_on m taken earlier a rest arguments are alike =
      ap (λ (x : List (List ℕ)). both (both m (each_or (missing a) (act a) (found a) x)) (over found missing act (earlier ++ found a) rest))
      (left_alike taken earlier (found a) alike)
      ∙ both_assoc m (done_after earlier a) (over found missing act (earlier ++ found a) rest)
      ∙ ap (λ (x : List FileArgument). both m (over found missing act earlier x)) are

-- the files of an argument one after another
pub taken_next : (act : List ℕ → ModelStep) (taken : List (List ℕ)) (m : ModelStep) (p : List ℕ) (rest : List (List ℕ))
    → both (both m (if is_in taken p then nothing else act p)) (all_of act (not_in taken rest)) ≡ both m (all_of act (not_in taken (p ∷ rest)))
taken_next act taken m p rest = files_next act (is_in taken) m p rest
