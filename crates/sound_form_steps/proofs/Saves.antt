-- Steps that save groups, clients, labels and protections.
use Rattle.std.proofs.Common.{◌≡◌, ℕ, true, List, [], ◌∷◌, Result, Ok, Err, refl, ap}
use Rattle.std.specs.Prelude.{◌-◌, not, codes, is_ok}
use Rattle.std.specs.List.{list_all}
use Rattle.depot_rows.specs.depot_path.Name.{is_name}
use Rattle.depot_rows.specs.spec_form.Form.{FormValue, lines_of}
use Rattle.depot_rows.specs.spec_form.Places.{line_place}
use Rattle.depot_rows.specs.spec_form.Reading.{form_of}
use Rattle.depot_rows.specs.spec_form.declared.fault.FormFault.{FormFault}
use Rattle.depot_rows.specs.spec_form.declared.shape.Shape.TheVariants.{Client, Label, Group as GroupShape}
use Rattle.depot_rows.specs.view_map.Reading.{view_of}
use Rattle.depot_rows.specs.view_map.declared.fault.ViewFault.{ViewFault}
use Rattle.depot_rows.specs.view_map.declared.line.ViewLine.{ViewLine}
use Rattle.depot_rows.specs.depot_model.Deeds.{Deed, Spec, Group, ClientForm, LabelForm}
use Rattle.depot_rows.specs.depot_model.Rules.{IsSound}
use Rattle.depot_rows.specs.depot_model.Step.{Step, does, refuses, after}
use Rattle.depot_rows.specs.depot_model.Steps.Clients as clients
use Rattle.depot_rows.specs.depot_model.Steps.Groups as groups
use Rattle.depot_rows.specs.depot_model.Steps.Labels as labels
use Rattle.depot_rows.specs.depot_model.Values.{value_of}
use Rattle.depot_rows.specs.depot_model.declared.refusal.Refusal.{Refusal}
use Rattle.depot_rows.specs.depot_model.declared.refusal.Refusal.TheVariants.{BadForm}
use Rattle.depot_rows.specs.depot_model.declared.reply.Row.{Row}
use Rattle.sound_deeds.proofs.Whole.{one_sound}
use Rattle.depot_facts.proofs.Spelled.{spelled_is}
use Rattle.depot_facts.proofs.Steps.{not_refused, unless_sound}
use Rattle.depot_facts.proofs.Tests.{not_false}

module _ (d : List Deed) (sound : IsSound d) (input : List ℕ) where
  group_saved : (form : FormValue) → IsSound (after d (groups.saved input form).deeds)
  group_saved form = unless_sound d sound (_ ∷ _ ∷ _ ∷ _ ∷ []) _
      (λ none. one_sound d (Group name people) sound refl (
        not_false (is_name name) (not_refused (not (is_name name)) (BadForm 0) none.0),
        not_false (list_all is_name people) (not_refused (not (list_all is_name people)) (BadForm 0) none.1.1.0),
      ) tt)
    where
      name : List ℕ
      name = value_of form (codes "Group")

      people : List (List ℕ)
      people = lines_of form (codes "Users")

  pub group_sound : IsSound (after d (groups.group_save input).deeds)
  group_sound = go (form_of GroupShape input)
    where
      go : (r : Result FormValue FormFault) → IsSound (after d (elim r as (λ _. Step) [ Err fault ↦ refuses (BadForm fault.line) | Ok form ↦ groups.saved input form ]).deeds)
      go (Err fault) = sound
      go (Ok form) = group_saved form

  label_saved : (form : FormValue) → form_of Label input ≡ Ok form → IsSound (after d (labels.saved d form).deeds)
  label_saved form read = unless_sound d sound (_ ∷ _ ∷ []) _
      (λ none. one_sound d (Spec LabelForm name form) sound refl
      (spelled_is LabelForm input form read, not_false (is_name name) (not_refused (not (is_name name)) (BadForm 0) none.0)) tt)
    where
      name : List ℕ
      name = value_of form (codes "Label")

  pub label_sound : IsSound (after d (labels.label_save d input).deeds)
  label_sound = go (form_of Label input) refl
    where
      go : (r : Result FormValue FormFault) → form_of Label input ≡ r
          → IsSound (after d (elim r as (λ _. Step) [ Err fault ↦ refuses (BadForm fault.line) | Ok form ↦ labels.saved d form ]).deeds)
      go (Err fault) e = sound
      go (Ok form) e = label_saved form e

  client_saved : (form : FormValue) → form_of Client input ≡ Ok form → IsSound (after d (clients.saved input form).deeds)
  client_saved form read = unless_sound d sound (_ ∷ _ ∷ []) _
      (λ none. viewed (not_false (is_name name) (not_refused (not (is_name name)) (BadForm 0) none.0)) (λ fault. BadForm (line_place input (codes "View") (fault.line - 1))) _ (view_of name (lines_of form (codes "View"))) refl)
    where
      name : List ℕ
      name = value_of form (codes "Client")

      viewed : is_name name ≡ true → (why : ViewFault → Refusal) (row : Row) (r : Result (List ViewLine) ViewFault) → view_of name (lines_of form (codes "View")) ≡ r
          → IsSound (after d (elim r as (λ _. Step) [ Err fault ↦ refuses (why fault) | Ok view ↦ does (Spec ClientForm name form ∷ []) row ]).deeds)
      viewed named why row (Err fault) e = sound
      viewed named why row (Ok view) e = one_sound d (Spec ClientForm name form) sound refl
          (spelled_is ClientForm input form read, (named, ap (λ (r : Result (List ViewLine) ViewFault). is_ok r) e)) tt

  pub client_sound : IsSound (after d (clients.client_save input).deeds)
  client_sound = go (form_of Client input) refl
    where
      go : (r : Result FormValue FormFault) → form_of Client input ≡ r
          → IsSound (after d (elim r as (λ _. Step) [ Err fault ↦ refuses (BadForm fault.line) | Ok form ↦ clients.saved input form ]).deeds)
      go (Err fault) e = sound
      go (Ok form) e = client_saved form e
