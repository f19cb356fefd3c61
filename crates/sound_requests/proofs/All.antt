-- The step of every request leaves a sound depot sound.
use Rattle.std.proofs.Common.{◌≡◌, true, List, Result, Ok, Err, refl, sym, subst}
use Rattle.std.specs.Prelude.{◌&&◌, IfOk}
use Rattle.std.specs.List.{list_all}
use Rattle.std.proofs.lemmas.Bool.{and_parts}
use Rattle.depot_rows.specs.depot_path.Name.{is_name}
use Rattle.depot_rows.specs.depot_model.Commands.{whole_step, step}
use Rattle.depot_rows.specs.depot_model.Common.{word_refusal}
use Rattle.depot_rows.specs.depot_model.Deeds.{Deed}
use Rattle.depot_rows.specs.depot_model.Rules.{IsSound}
use Rattle.depot_rows.specs.depot_model.Step.{Step, refuses, after}
use Rattle.depot_rows.specs.depot_model.WellFormed.{is_command}
use Rattle.depot_rows.specs.depot_model.declared.command.Command.{Command}
use Rattle.depot_rows.specs.depot_model.declared.command.Command.TheVariants.{SubmitChange, SubmitDefault}
use Rattle.depot_rows.specs.depot_model.declared.request.Request.{Request}
use Rattle.depot_rows.specs.depot_model.declared.request.WordFault.{WordFault}
use Rattle.depot_facts.proofs.Steps.{both_all}
use Rattle.sound_landing.proofs.Kept.{submit_default_sound, submit_change_sound}
use Rattle.sound_form_steps.specs.Contents.{fits_content, is_short, is_of_bytes}
use Rattle.sound_requests.specs.Asked.{IsAsked, are_named, is_covered, is_named, is_typed, names_what}
use Rattle.sound_requests.proofs.Whole.{step_sound}

module _ (d : List Deed) (request : Request) (sound : IsSound d) (contents : list_all fits_content request.contents ≡ true) where
  user_named : (command : Command) → is_named request command ≡ true → is_name (request.caller).user ≡ true
  user_named command named =
      (and_parts (is_name (request.caller).user) (is_name (request.caller).client) (and_parts (is_name (request.caller).user && is_name (request.caller).client) (names_what command) named).0).0

  other : (command : Command) → request.command ≡ Ok command → is_command command ≡ true → is_named request command ≡ true → is_covered command ≡ true
      → IsSound (after d (step d request).deeds)
  other command e formed named covered = step_sound d request command e sound formed named contents covered

  submitted : (command : Command) → request.command ≡ Ok command → IsSound (after d (whole_step d request command).deeds) → IsSound (after d (step d request).deeds)
  submitted command e h =
      subst (λ (r : Result Command WordFault). IsSound (after d (elim r as (λ _. Step) [ Err fault ↦ refuses (word_refusal fault) | Ok c ↦ whole_step d request c ]).deeds))
      (sym e) h

  by_command : (command : Command) → request.command ≡ Ok command → is_command command ≡ true → is_named request command ≡ true → IsSound (after d (step d request).deeds)
  by_command (SubmitDefault text) e formed named =
      submitted (SubmitDefault text) e (submit_default_sound d request text sound (user_named (SubmitDefault text) named))
  by_command (SubmitChange n) e formed named =
      submitted (SubmitChange n) e (submit_change_sound d request n sound (user_named (SubmitChange n) named))
  by_command command e formed named = other command e formed named refl

pub request_sound : (d : List Deed) (request : Request) (command : Command) → request.command ≡ Ok command → IsSound d
    → is_command command ≡ true → is_named request command ≡ true → list_all fits_content request.contents ≡ true → IsSound (after d (step d request).deeds)
request_sound d request command e sound formed named contents = by_command d request sound contents command e formed named

-- of every request that a session makes
pub asked_sound : (d : List Deed) (request : Request) → IsSound d → IsAsked request → is_typed request ≡ true
    → IsSound (after d (step d request).deeds)
asked_sound d request sound asked typed = go request.command refl
  where
    contents : list_all fits_content request.contents ≡ true
    contents = both_all is_short is_of_bytes request.contents asked.short (and_parts (are_named request) (list_all is_of_bytes request.contents) typed).1

    named : are_named request ≡ true
    named = (and_parts (are_named request) (list_all is_of_bytes request.contents) typed).0

    go : (r : Result Command WordFault) → request.command ≡ r → IsSound (after d (step d request).deeds)
    go (Ok command) e =
        request_sound d request command e sound
        (subst (λ (r : Result Command WordFault). IfOk r (λ command. is_command command ≡ true)) e asked.formed)
        (subst (λ (r : Result Command WordFault). (elim r [
          | Err fault ↦ is_name (request.caller).user && is_name (request.caller).client
          | Ok command ↦ is_named request command
        ]) ≡ true) e named) contents
    go (Err fault) e =
        subst (λ (r : Result Command WordFault). IsSound (after d (elim r as (λ _. Step) [ Err fault ↦ refuses (word_refusal fault) | Ok c ↦ whole_step d request c ]).deeds))
        (sym e) sound
