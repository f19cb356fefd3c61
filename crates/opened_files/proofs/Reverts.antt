-- Files that are reverted one after another, and which of them were taken.
use Rattle.std.proofs.Common.{◌≡◌, ℕ, Bool, true, false, List, [], ◌∷◌, ◌++◌, Option, Some, None, refl, sym, ap, subst, ◌∙◌, append_assoc, length, take, drop, get_or, ◌≤◌, ◌<◌, ◌-◌, arith}
use Rattle.std.specs.Prelude.{◌||◌, filter, flat_map, if◌then◌else◌, option_and_then, option_map}
use Rattle.std.specs.Option.{option_to_list}
use Rattle.std.proofs.lemmas.List.{take_all}
use Rattle.std.proofs.lemmas.List.Folds.{list_any-append}
use Rattle.depot_rows.specs.depot_path.Bytes.{same}
use Rattle.depot_rows.specs.table_changes.Changed.{AllRows}
use Rattle.depot_rows.specs.depot_model.declared.command.FileArgument.{FileArgument}
use Rattle.depot_rows.specs.depot_model.declared.request.Caller.{Caller}
use Rattle.depot_rows.specs.depot_model.Arguments.{is_in, names, opened_by}
use Rattle.depot_rows.specs.depot_model.Asking.{may_at}
use Rattle.depot_rows.specs.depot_model.Deeds.{Deed, Opening}
use Rattle.depot_rows.specs.depot_model.Opened.{opened, partner}
use Rattle.depot_rows.specs.depot_model.Sorted.{path_inserted}
use Rattle.depot_rows.specs.depot_model.Step.{Step as ModelStep, both, nothing}
use Rattle.depot_rows.specs.depot_model.Steps.Reverting.{both_ends, is_selected, not_open, other_end, revert_file, revert_files, revert_named, revert_over, selected}
use Rattle.reply_rows.specs.declared.step.Step.{Step}
use Rattle.reply_rows.specs.Made.{IsMade}
use Rattle.reply_rows.proofs.Joined.{both_assoc, both_nothing}
use Rattle.named_files.specs.Sets.{is_chosen}
use Rattle.named_files.proofs.Rising.{in_inserted}
use Rattle.named_files.proofs.Selection.{both_tests}
use Rattle.opened_files.specs.Partners.{partner_path}
use Rattle.opened_files.specs.Reverts.{AreAlike, IsReverted}

-- the first item and those behind it
pub parted_arguments : (rest : List FileArgument) (a : FileArgument) → 1 ≤ length rest → a ≡ get_or rest 0 a → a ∷ take (length rest - 1) (drop 1 rest) ≡ rest
parted_arguments [] a few is = absurd (omega arith)
parted_arguments (x ∷ rest) a few is = λ i. is i ∷ take_all (length (x ∷ rest) - 1) rest (omega arith) i

no_more : (rest : List (List ℕ)) → length rest < 1 → rest ≡ []
no_more [] few = refl
no_more (x ∷ rest) few = absurd (omega arith)

-- ---- which files were taken

pub joined_in : (xs ys : List (List ℕ)) (p : List ℕ) → is_in (xs ++ ys) p ≡ (is_in xs p || is_in ys p)
joined_in xs ys p = list_any-append (same p) xs ys

or_swap : (a b c : Bool) → (b || (a || c)) ≡ (a || (b || c))
or_swap true true c = refl
or_swap true false c = refl
or_swap false b c = refl

-- a file is taken
pub taken_more : (taken more seen : List (List ℕ)) (p : List ℕ) → more ≡ path_inserted p taken → AreAlike taken seen → AreAlike more (p ∷ seen)
taken_more taken more seen p is alike q =
    ap (λ (x : List (List ℕ)). is_in x q) is ∙ in_inserted q p taken ∙ ap (λ b. same q p || b) (alike q)

-- a file that was taken before is no news
pub other_first : (p : List ℕ) (other : List (List ℕ)) (seen : List (List ℕ)) → AreAlike (other ++ p ∷ seen) ((p ∷ other) ++ seen)
other_first p other seen q =
    joined_in other (p ∷ seen) q ∙ or_swap (same q p) (is_in other q) (is_in seen q) ∙ ap (λ b. same q p || b) (sym (joined_in other seen q))

-- of files one after another, the first one's ends come first
pub ends_first : (ends rest seen : List (List ℕ)) → AreAlike (rest ++ (ends ++ seen)) ((ends ++ rest) ++ seen)
ends_first ends rest seen q =
    joined_in rest (ends ++ seen) q ∙ ap (λ b. is_in rest q || b) (joined_in ends seen q)
    ∙ or_swap (is_in ends q) (is_in rest q) (is_in seen q)
    ∙ ap (λ b. is_in ends q || b) (sym (joined_in rest seen q)) ∙ sym (joined_in ends (rest ++ seen) q)
    ∙ ap (λ (x : List (List ℕ)). is_in x q) (sym (append_assoc ends rest seen))

-- ---- a file with its other end

module _ (d : List Deed) (caller : Caller) where
  pub ends_are : (path : List ℕ) (may : Bool) (other : Option (List ℕ)) → may ≡ may_at d caller path 3 → other ≡ (if may then partner_path d caller.client path else None)
      → path ∷ option_to_list other ≡ both_ends d caller path
  ends_are path may other is are =
      ap (λ (x : Option (List ℕ)). path ∷ option_to_list x) are ∙ by may ∙ ap (λ (m : Bool). path ∷ (if m then other_end d caller path else [])) is
    where
      end : (found : Option Opening) → option_to_list (option_map (λ (o : Opening). o.path) found) ≡ (elim found as (λ _. List (List ℕ)) [ None ↦ [] | Some o ↦ o.path ∷ [] ])
      end None = refl
      end (Some o) = refl

      by : (m : Bool) → path ∷ option_to_list (if m then partner_path d caller.client path else None) ≡ path ∷ (if m then other_end d caller path else [])
      by true = ap (λ (x : List (List ℕ)). path ∷ x) (end (option_and_then (partner d) (opened d caller.client path)))
      by false = refl

  -- ---- one file after another

  abbrev done_for : List (List ℕ) → List ℕ → ModelStep
  done_for seen path = if is_in seen path then nothing else revert_file d caller path

  pub file_then : (m : ModelStep) (seen : List (List ℕ)) (path : List ℕ) (paths : List (List ℕ))
      → both (both m (done_for seen path)) (revert_files d caller (both_ends d caller path ++ seen) paths) ≡ both m (revert_files d caller seen (path ∷ paths))
  file_then m seen path paths = both_assoc m (done_for seen path) (revert_files d caller (both_ends d caller path ++ seen) paths)

  pub argument_then : (change : Option ℕ) (m : ModelStep) (seen : List (List ℕ)) (argument : FileArgument) (arguments : List FileArgument)
      → both (both m (revert_named d caller seen argument (selected d caller change argument)))
      (revert_over d caller change (flat_map (both_ends d caller) (selected d caller change argument) ++ seen) arguments)
      ≡ both m (revert_over d caller change seen (argument ∷ arguments))
  argument_then change m seen argument arguments =
      both_assoc m (revert_named d caller seen argument (selected d caller change argument))
      (revert_over d caller change (flat_map (both_ends d caller) (selected d caller change argument) ++ seen) arguments)

  pub some_named : (seen : List (List ℕ)) (argument : FileArgument) (paths : List (List ℕ)) → (paths ≡ [] → ⊥) → revert_files d caller seen paths ≡ revert_named d caller seen argument paths
  some_named seen argument [] some = absurd (some refl)
  some_named seen argument (p ∷ paths) some = refl

  pub none_named : (seen : List (List ℕ)) (argument : FileArgument) (paths : List (List ℕ)) → paths ≡ [] → not_open argument ≡ revert_named d caller seen argument paths
  none_named seen argument paths none = sym (ap (revert_named d caller seen argument) none)

  -- the files that the set has are those of the model
  pub chosen_are : (change : Option ℕ) (argument : FileArgument)
      → filter (is_chosen caller change d argument) (opened_by d caller.client) ≡ selected d caller change argument
  chosen_are change argument = both_tests (λ path. is_selected change (opened d caller.client path)) (names true d caller argument.spec) (opened_by d caller.client)

  -- after the last file
  pub last_reverted : (all : AllRows) (m final : ModelStep) (now seen rest : List (List ℕ)) (step : Step) (taken : List (List ℕ)) → length rest < 1
      → both m (revert_files d caller now rest) ≡ final → AreAlike (flat_map (both_ends d caller) rest ++ now) seen → IsReverted all d m now step taken
      → IsReverted all d final seen step taken
  last_reverted all m final now seen rest step taken few is alike was =
      let none : rest ≡ [] = no_more rest few in
      record {
        made =
            subst (λ (x : ModelStep). IsMade all d d x step)
            (sym (both_nothing m) ∙ ap (λ (r : List (List ℕ)). both m (revert_files d caller now r)) (sym none) ∙ is) was.made;
        alike = λ q. was.alike q ∙ ap (λ (r : List (List ℕ)). is_in (flat_map (both_ends d caller) r ++ now) q) (sym none) ∙ alike q;
      }
