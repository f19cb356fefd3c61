-- Steps on labels: tag, labelsync.
use Rattle.std.proofs.Common.{◌≡◌, ◌≤◌, ℕ, zero, suc, Bool, true, false, List, [], ◌∷◌, ◌++◌, refl, subst, arith}
use Rattle.std.specs.Prelude.{◌==◌, not, is_some, if◌then◌else◌, codes}
use Rattle.std.specs.List.{list_all}
use Rattle.std.specs.Option.{option_or}
use Rattle.depot_rows.specs.depot_path.Path.{is_path}
use Rattle.depot_rows.specs.depot_path.declared.revision.Wanted.{Wanted}
use Rattle.depot_rows.specs.depot_model.Arguments.{named, names, submitted, over_all, no_file, within_files}
use Rattle.depot_rows.specs.depot_model.Asking.{is_label, to_open}
use Rattle.depot_rows.specs.depot_model.Choice.{Choice, PassedOver, At, chosen}
use Rattle.depot_rows.specs.depot_path.Bytes.{same}
use Rattle.depot_rows.specs.depot_path.Name.{is_name}
use Rattle.depot_rows.specs.spec_form.Form.{FormValue}
use Rattle.depot_rows.specs.spec_form.declared.shape.Shape.TheVariants.{Label}
use Rattle.depot_rows.specs.depot_model.Deeds.{Deed, Spec, Tag, LabelForm}
use Rattle.depot_rows.specs.depot_model.Values.{valued}
use Rattle.depot_rows.specs.depot_model.Latest.{labelled, latest, when, spec_said}
use Rattle.depot_rows.specs.depot_model.Revisions.{head, is_live_at}
use Rattle.depot_rows.specs.depot_model.Rules.{IsSound}
use Rattle.depot_rows.specs.depot_model.Step.{Step, nothing, does, after, both, refuse_if}
use Rattle.depot_rows.specs.depot_model.Steps.Labels.{is_locked}
use Rattle.depot_rows.specs.depot_model.Steps.Opening.{right_refusal}
use Rattle.depot_rows.specs.depot_model.Steps.Tagging.{tag_to, tag_file, live_choice, or_labelled, made_label, tagged_rev, tag_files, tag, or_have, synced_rev, labelsync}
use Rattle.depot_rows.specs.depot_model.declared.command.FileArgument.{FileArgument}
use Rattle.depot_rows.specs.depot_model.declared.command.Labelling.{Labelling}
use Rattle.depot_rows.specs.depot_model.declared.command.Labelling.TheVariants.{Exact, Adding, Removing}
use Rattle.depot_rows.specs.depot_model.declared.refusal.Refusal.TheVariants.{NoSuchLabel, LabelLocked}
use Rattle.depot_rows.specs.depot_model.declared.reply.Row.{Row}
use Rattle.depot_rows.specs.depot_model.declared.request.Caller.{Caller}
use Rattle.depot_rows.proofs.Keys.{same-self}
use Rattle.sound_deeds.proofs.Whole.{one_sound}
use Rattle.depot_facts.proofs.Spelled.{label_spelled}
use Rattle.sound_file_steps.proofs.Files.{only}
use Rattle.sound_file_steps.proofs.Flat.{Meets, flat_sound}
use Rattle.depot_facts.proofs.PathsTold.{submitted_are}
use Rattle.sound_file_steps.proofs.Known.{labelled_known, live_within}
use Rattle.depot_facts.proofs.Steps.{AllOf, not_refused, all_filtered, unless_all, within_all, over_these, over_any, unless_sound, within_sound}
use Rattle.depot_facts.proofs.Tests.{not_false}

-- deeds over a depot with the label, of revisions chosen in the one before it
module _ (d e : List Deed) (sound : IsSound d) (caller : Caller) (label : List ℕ) (there : is_label e label ≡ true)
    (heads : (path : List ℕ) → head d path ≡ head e path) where
  to_meets : (path : List ℕ) → is_path path ≡ true → (old new : ℕ) → new ≤ head d path → AllOf (Meets e) (tag_to label path old new).deeds
  to_meets path is zero zero le = tt
  to_meets path is zero (suc new) le = (
    record {
      has = only (is_path path) is;
      plain = refl;
      keeps = (λ low. there, subst (λ (n : ℕ). suc new ≤ n) (heads path) le);
      ties = tt;
    },
    tt,
  )
  to_meets path is (suc old) zero le = (
    record {
      has = only (is_path path) is;
      plain = refl;
      keeps = (λ low. there, omega arith);
      ties = tt;
    },
    tt,
  )
  to_meets path is (suc old) (suc new) le = go (old == new) _
    where
      go : (b : Bool) (row : Row) → AllOf (Meets e) (if b then nothing else does (Tag label path (suc new) ∷ []) row).deeds
      go true row = tt
      go false row = (
        record {
          has = only (is_path path) is;
          plain = refl;
          keeps = (λ low. there, subst (λ (n : ℕ). suc new ≤ n) (heads path) le);
          ties = tt;
        },
        tt,
      )

  file_meets : (path : List ℕ) (new : ℕ) → is_path path ≡ true → new ≤ head d path → AllOf (Meets e) (tag_file d caller label path new).deeds
  file_meets path new is le = unless_all (Meets e) (right_refusal to_open d caller path ∷ []) (tag_to label path (labelled d label path) new)
      (λ none. to_meets path is (labelled d label path) new le)

  live_under : (wanted : Wanted) (path : List ℕ) → live_choice d caller wanted path ≤ head d path
  live_under wanted path = go (chosen d caller path wanted)
    where
      at : (n : ℕ) (b : Bool) → is_live_at d path n ≡ b → (if b then n else 0) ≤ head d path
      at n true f = (live_within d path n f).high
      at n false f = omega arith

      go : (choice : Choice) → (elim choice [ PassedOver ↦ 0 | At n ↦ if is_live_at d path n then n else 0 ]) ≤ head d path
      go PassedOver = omega arith
      go (At n) = at n (is_live_at d path n) refl

  or_under : (path : List ℕ) (n : ℕ) → is_path path ≡ true → n ≤ head d path → or_labelled d label path n ≤ head d path
  or_under path n is le = go (n == 0)
    where
      go : (b : Bool) → (if b then labelled d label path else n) ≤ head d path
      go true = (labelled_known d sound label path is).within
      go false = le

  tagged_under : (removes : Bool) (a : FileArgument) (path : List ℕ) → is_path path ≡ true → tagged_rev removes d caller label a path ≤ head d path
  tagged_under true a path is = omega arith
  tagged_under false a path is = or_under path (live_choice d caller (a.spec).wanted path) is (live_under (a.spec).wanted path)

  synced_under : (labelling : Labelling) (a : FileArgument) (path : List ℕ) → is_path path ≡ true → synced_rev labelling d caller label a path ≤ head d path
  synced_under Removing a path is = omega arith
  synced_under Exact a path is = live_under (or_have (a.spec).wanted) path
  synced_under Adding a path is = or_under path (live_choice d caller (or_have (a.spec).wanted) path) is (live_under (or_have (a.spec).wanted) path)

  named_are : (a : FileArgument) → list_all is_path (named false d caller (submitted d) a) ≡ true
  named_are a = all_filtered is_path (names false d caller a.spec) (submitted d) (submitted_are d sound.paths)

  tags_meet : (removes : Bool) (files : List FileArgument) → AllOf (Meets e) (tag_files d caller label removes files).deeds
  tags_meet removes files = over_these (Meets e) is_path (named false d caller (submitted d))
      (λ a path. tag_file d caller label path (tagged_rev removes d caller label a path)) named_are
      (λ a x is. file_meets x (tagged_rev removes d caller label a x) is (tagged_under removes a x is)) no_file (λ a. tt) [] files

  syncs_meet : (labelling : Labelling) (files : List FileArgument)
      → AllOf (Meets e) (over_all (named false d caller (submitted d)) no_file (λ a path. tag_file d caller label path (synced_rev labelling d caller label a path)) files).deeds
  syncs_meet labelling files = over_any (Meets e) is_path (named false d caller (submitted d))
      (λ a path. tag_file d caller label path (synced_rev labelling d caller label a path)) named_are
      (λ a x is. file_meets x (synced_rev labelling d caller label a x) is (synced_under labelling a x is)) no_file (λ a. tt) files

module _ (d : List Deed) (sound : IsSound d) (caller : Caller) (label : List ℕ) where
  pub labelsync_sound : (labelling : Labelling) (files : List FileArgument) → IsSound (after d (labelsync d caller label labelling files).deeds)
  labelsync_sound labelling files = flat_sound d (labelsync d caller label labelling files).deeds sound
      (unless_all (Meets d) (refuse_if (not (is_label d label)) (NoSuchLabel label) ∷ refuse_if (is_locked d label) (LabelLocked label) ∷ []) (within_files step)
      (λ none. within_all (Meets d) step
      (syncs_meet d d sound caller label (not_false (is_label d label) (not_refused (not (is_label d label)) (NoSuchLabel label) none.0)) (λ path. refl) labelling files)))
    where
      step : Step
      step = over_all (named false d caller (submitted d)) no_file (λ a path. tag_file d caller label path (synced_rev labelling d caller label a path)) files

  abbrev label_form : FormValue
  label_form = record { shape = Label; fields = valued (codes "Label") label ∷ [] }

  abbrev made : List Deed
  made = Spec LabelForm label label_form ∷ d

  made_there : is_label made label ≡ true
  made_there = go (same label label) (same-self label)
    where
      go : (b : Bool) → b ≡ true → is_some (option_or (when b label_form) (latest (spec_said LabelForm label) d)) ≡ true
      go true e = refl
      go false e = absurd cc

  -- the label is made where there is none
  label_made : is_name label ≡ true → (removes : Bool) (files : List FileArgument) → IsSound (after made (tag_files d caller label removes files).deeds)
  label_made named removes files =
      flat_sound made (tag_files d caller label removes files).deeds (one_sound d (Spec LabelForm label label_form) sound refl (label_spelled label named, named) tt)
      (tags_meet d made sound caller label made_there (λ path. refl) removes files)

  pub tag_sound : is_name label ≡ true → (removes : Bool) (files : List FileArgument) → IsSound (after d (tag d caller label removes files).deeds)
  tag_sound named removes files =
      unless_sound d sound (refuse_if (is_locked d label) (LabelLocked label) ∷ []) (within_files (both (record { deeds = made_label d label; rows = [] }) tags))
      (λ none. within_sound d sound (both (record { deeds = made_label d label; rows = [] }) tags) (go (is_label d label) refl))
    where
      tags : Step
      tags = tag_files d caller label removes files

      go : (b : Bool) → is_label d label ≡ b → IsSound (after d ((if b then [] else Spec LabelForm label label_form ∷ []) ++ tags.deeds))
      go true e = flat_sound d tags.deeds sound (tags_meet d d sound caller label e (λ path. refl) removes files)
      go false e = label_made named removes files
