-- What becomes of a file in a label, and the revision that a label is to have, are the model's.
use Rattle.std.proofs.Common.{◌≡◌, ℕ, zero, suc, Bool, true, false, List, [], ◌∷◌, refl, sym, ap, subst, ◌∙◌, arith}
use Rattle.std.specs.Prelude.{◌==◌, ◌&&◌, codes, if◌then◌else◌}
use Rattle.std.proofs.lemmas.Bool.{false≢true}
use Rattle.std.proofs.lemmas.Bool.Decides.{nat_tests}
use Rattle.depot_rows.specs.depot_path.Path.{is_path}
use Rattle.depot_rows.specs.depot_path.declared.revision.Wanted.{Wanted}
use Rattle.depot_rows.specs.depot_path.declared.revision.RevSpec.TheVariants.{Have}
use Rattle.depot_rows.specs.depot_path.declared.revision.Wanted.TheVariants.{Head, One, Range}
use Rattle.depot_rows.specs.depot_model.declared.command.FileArgument.{FileArgument}
use Rattle.depot_rows.specs.depot_model.declared.command.Labelling.{Labelling}
use Rattle.depot_rows.specs.depot_model.declared.command.Labelling.TheVariants.{Exact, Adding, Removing}
use Rattle.depot_rows.specs.depot_model.declared.request.Caller.{Caller}
use Rattle.depot_rows.specs.depot_model.Arguments.{named, no_file, over_all, submitted, within_files}
use Rattle.depot_rows.specs.depot_model.Choice.{Choice, PassedOver, At, chosen}
use Rattle.depot_rows.specs.depot_model.Deeds.{Deed, Tag}
use Rattle.depot_rows.specs.depot_model.Revisions.{is_live_at}
use Rattle.depot_rows.specs.depot_model.Step.{Step as ModelStep, does, nothing}
use Rattle.depot_rows.specs.depot_model.Steps.Tagging.{live_choice, synced_rev, tag_file, tag_files, tag_row, tag_to}
use Rattle.depot_rows.proofs.Keys.{number-is, number-self}
use Rattle.depot_rows.specs.Effects.{Follow}
use Rattle.depot_rows.specs.declared.deed.Deed.TheVariants as dones
use Rattle.label_ops.specs.Tagged.{asked, is_head, labelling_of, synced, tag_step, taken_files}

-- ---- a revision in a label becomes another one, or stays

some_is : (n : ℕ) → (suc n == 0) ≡ false
some_is n = grind (arith, nat_tests)

module _ (label path : List ℕ) where
  abbrev step_by : ℕ → ℕ → Bool → Bool → ModelStep
  step_by old new none_old none_new = does (Tag label path new ∷ [])
      (tag_row path (if none_new then old else new) (if none_old then codes "added" else if none_new then codes "deleted" else codes "updated"))

  abbrev updated_unless : ℕ → Bool → ModelStep
  updated_unless new b = if b then nothing else does (Tag label path (suc new) ∷ []) (tag_row path (suc new) (codes "updated"))

  pub changes : (old new : ℕ) → (old ≡ new → ⊥) → tag_step label path old new ≡ tag_to label path old new
  changes zero zero apart = absurd (apart refl)
  changes zero (suc new) apart = λ i. step_by 0 (suc new) true (some_is new i)
  changes (suc old) zero apart = λ i. step_by (suc old) 0 (some_is old i) true
  changes (suc old) (suc new) apart = (λ i. step_by (suc old) (suc new) (some_is old i) (some_is new i)) ∙ ap (updated_unless new) (sym (below (old == new) refl))
    where
      below : (b : Bool) → (old == new) ≡ b → (old == new) ≡ false
      below true e = absurd (apart (ap suc (number-is old new e)))
      below false e = e

  same : (n : ℕ) → nothing ≡ tag_to label path n n
  same zero = refl
  same (suc n) = ap (updated_unless n) (sym (number-self n))

  pub stays : (old new : ℕ) → old ≡ new → nothing ≡ tag_to label path old new
  stays old new e = subst (λ (n : ℕ). nothing ≡ tag_to label path old n) e (same old)

  -- the deed may follow
  pub may_tag : (e : List Deed) (rev : ℕ) (name file : List ℕ) → is_path path ≡ true → name ≡ label → file ≡ path
      → Follow e (dones.Tag name file rev ∷ []) (Tag label path rev ∷ [])
  may_tag e rev name file is own its =
      let here : Follow e (dones.Tag label path rev ∷ []) (Tag label path rev ∷ []) = (refl, is, tt) in
      subst (λ (n : List ℕ). Follow e (dones.Tag n file rev ∷ []) (Tag label path rev ∷ [])) (sym own)
      (subst (λ (f : List ℕ). Follow e (dones.Tag label f rev ∷ []) (Tag label path rev ∷ [])) (sym its) here)

-- ---- the revision that a label is to have

-- a choice, where the file is live there, 0 for none
abbrev pub live_at_choice : List Deed → List ℕ → Choice → ℕ
live_at_choice d path PassedOver = 0
live_at_choice d path (At n) = if is_live_at d path n then n else 0

pub live_is : (d : List Deed) (caller : Caller) (path : List ℕ) (wanted : Wanted) → live_at_choice d path (chosen d caller path wanted) ≡ live_choice d caller wanted path
live_is d caller path wanted = go (chosen d caller path wanted)
  where
    go : (choice : Choice) → live_at_choice d path choice ≡ (elim choice [ PassedOver ↦ 0 | At n ↦ if is_live_at d path n then n else 0 ])
    go PassedOver = refl
    go (At n) = refl

-- where the have revision stands for none
pub asked_have : (stands : Bool) (wanted : Wanted) → (stands && is_head wanted) ≡ true → One Have ≡ asked stands wanted
asked_have true Head e = refl
asked_have true (One end) e = absurd (false≢true e)
asked_have true (Range first second) e = absurd (false≢true e)
asked_have false wanted e = absurd (false≢true e)

pub asked_own : (stands : Bool) (wanted : Wanted) → (stands && is_head wanted) ≡ false → wanted ≡ asked stands wanted
asked_own true Head e = absurd (false≢true (sym e))
asked_own true (One end) e = refl
asked_own true (Range first second) e = refl
asked_own false wanted e = refl

-- what `tag` and `labelsync` do with files
pub tags : (d : List Deed) (caller : Caller) (label : List ℕ) (removes : Bool) (arguments : List FileArgument)
    → taken_files false (labelling_of removes) false d caller label arguments ≡ tag_files d caller label removes arguments
tags d caller label true arguments = refl
tags d caller label false arguments = refl

pub syncs : (d : List Deed) (caller : Caller) (label : List ℕ) (labelling : Labelling) (arguments : List FileArgument)
    → synced d caller label labelling arguments
    ≡ within_files (over_all (named false d caller (submitted d)) no_file (λ argument path. tag_file d caller label path (synced_rev labelling d caller label argument path)) arguments)
syncs d caller label Exact arguments = refl
syncs d caller label Adding arguments = refl
syncs d caller label Removing arguments = refl
