-- Forms of a kind after deeds that save none of it, and after any deeds: the last that is saved, else the one that was there.
use Rattle.std.proofs.Common.{◌≡◌, ℕ, Bool, true, false, List, [], ◌∷◌, ◌++◌, reverse, Option, Some, None, refl, sym, ap, ◌∙◌}
use Rattle.std.specs.Prelude.{◌&&◌}
use Rattle.std.specs.List.{list_all, list_any}
use Rattle.std.specs.Option.{option_or}
use Rattle.std.proofs.lemmas.List.{reverse-append}
use Rattle.std.proofs.lemmas.Bool.{and_parts}
use Rattle.depot_model.specs.depot_path.Bytes.{same}
use Rattle.depot_model.specs.db_records.declared.table.TableId.{TableId}
use Rattle.depot_model.specs.db_records.declared.table.TableId.TheVariants.{Domain}
use Rattle.depot_model.specs.Deeds.{Deed, SpecKind, Spec}
use Rattle.depot_model.specs.Latest.{latest, when, kind_word, same_kind, spec, spec_said}
use Rattle.depot_model.specs.Step.{after}
use Rattle.depot_model.specs.Tables.{is_in}
use Rattle.depot_rows.proofs.Keys.{same-is}
use Rattle.step_tables.specs.DeedTables.{stays_in}
use Rattle.step_forms.specs.SavedForms.{is_kind_in, saves_in}

-- ---- other kinds

-- a kind of these is no other
apart : (kinds : List SpecKind) (k kind : SpecKind) → is_kind_in kinds k ≡ true → is_kind_in kinds kind ≡ false → same_kind k kind ≡ false
apart kinds k kind there away = go (same_kind k kind) refl
  where
    go : (b : Bool) → same_kind k kind ≡ b → b ≡ false
    go false e = refl
    go true e = sym there ∙ ap (λ (w : List ℕ). list_any (λ other. same w (kind_word other)) kinds) (same-is (kind_word k) (kind_word kind) e) ∙ away

module _ (kinds : List SpecKind) (kind : SpecKind) (away : is_kind_in kinds kind ≡ false) (name : List ℕ) where
  one_stays : (d : List Deed) (deed : Deed) → saves_in kinds deed ≡ true → spec (deed ∷ d) kind name ≡ spec d kind name
  one_stays d (Spec k n form) there =
      ap (λ (b : Bool). option_or (when (b && same n name) form) (spec d kind name)) (apart kinds k kind there away)
  one_stays d _ there = refl

  pub form_stays : (d deeds : List Deed) → list_all (saves_in kinds) deeds ≡ true → spec (after d deeds) kind name ≡ spec d kind name
  form_stays d [] all = refl
  form_stays d (deed ∷ deeds) all =
      form_stays (deed ∷ d) deeds (and_parts (saves_in kinds deed) (list_all (saves_in kinds) deeds) all).1
      ∙ one_stays d deed (and_parts (saves_in kinds deed) (list_all (saves_in kinds) deeds) all).0

-- ---- deeds that stay out of the table of forms save none

none_saved : (tables : List TableId) (kinds : List SpecKind) → is_in tables Domain ≡ false → (deed : Deed) → stays_in tables deed ≡ true → saves_in kinds deed ≡ true
none_saved tables kinds away (Spec kind name form) e = absurd (let both : true ≡ false = sym (and_parts (is_in tables Domain) true e).0 ∙ away in cc)
none_saved tables kinds away _ e = refl

pub saves_none : (tables : List TableId) (kinds : List SpecKind) → is_in tables Domain ≡ false → (deeds : List Deed) → list_all (stays_in tables) deeds ≡ true
    → list_all (saves_in kinds) deeds ≡ true
saves_none tables kinds away [] all = refl
saves_none tables kinds away (deed ∷ deeds) all =
    let here = none_saved tables kinds away deed (and_parts (stays_in tables deed) (list_all (stays_in tables) deeds) all).0 in
    let rest = saves_none tables kinds away deeds (and_parts (stays_in tables deed) (list_all (stays_in tables) deeds) all).1 in
    (λ i. here i && rest i)

-- ---- any deeds

module _ {A : Type 0} (reading : Deed → Option A) where
  or_none : (o : Option A) → option_or o None ≡ o
  or_none None = refl
  or_none (Some x) = refl

  or_or : (a b c : Option A) → option_or a (option_or b c) ≡ option_or (option_or a b) c
  or_or None b c = refl
  or_or (Some x) b c = refl

  latest_last : (xs : List Deed) (deed : Deed) → latest reading (xs ++ deed ∷ []) ≡ option_or (latest reading xs) (reading deed)
  latest_last [] deed = or_none (reading deed)
  latest_last (x ∷ xs) deed = ap (option_or (reading x)) (latest_last xs deed) ∙ or_or (reading x) (latest reading xs) (reading deed)

  pub latest_after : (d deeds : List Deed) → latest reading (after d deeds) ≡ option_or (latest reading (reverse deeds)) (latest reading d)
  latest_after d [] = refl
  latest_after d (deed ∷ deeds) =
      latest_after (deed ∷ d) deeds ∙ or_or (latest reading (reverse deeds)) (reading deed) (latest reading d)
      ∙ sym (ap (λ (o : Option A). option_or o (latest reading d)) (ap (latest reading) (reverse-append (deed ∷ []) deeds) ∙ latest_last (reverse deeds) deed))

pub spec_after : (kind : SpecKind) (name : List ℕ) (d deeds : List Deed)
    → spec (after d deeds) kind name ≡ option_or (latest (spec_said kind name) (reverse deeds)) (spec d kind name)
spec_after kind name d deeds = latest_after (spec_said kind name) d deeds

-- the last form that deeds save is what they leave where nothing was
pub said_alone : (kind : SpecKind) (name : List ℕ) (deeds : List Deed) → latest (spec_said kind name) (reverse deeds) ≡ spec (after [] deeds) kind name
said_alone kind name deeds =
    sym (latest_after (spec_said kind name) [] deeds ∙ or_none (spec_said kind name) (latest (spec_said kind name) (reverse deeds)))
