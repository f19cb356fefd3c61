-- The commands that tell the history answer alike without the shelved files.
use Rattle.std.proofs.Common.{◌≡◌, not, List, [], ◌∷◌, ◌++◌, Result, Ok, Err, refl, sym, ap, subst}
use Rattle.std.specs.Prelude.{◌&&◌, ◌||◌, IsTrue, codes, if◌then◌else◌, flat_map}
use Rattle.depot_model.specs.depot_path.declared.revision.RevSpec.TheVariants.{Named}
use Rattle.depot_model.specs.depot_path.declared.revision.Wanted.{Wanted}
use Rattle.depot_model.specs.depot_path.declared.revision.Wanted.TheVariants.{One}
use Rattle.depot_model.specs.About.{About, about}
use Rattle.depot_model.specs.Commands.{own_step, whole_step, step}
use Rattle.depot_model.specs.Common.{common_refusals, unknown_name, first_unknown, asks_client, word_refusal}
use Rattle.depot_model.specs.Deeds.{Deed}
use Rattle.depot_model.specs.Step.{Step, refuses, refuse_if, unless}
use Rattle.depot_model.specs.declared.command.Command.{Command}
use Rattle.depot_model.specs.declared.command.Command.TheVariants.{Files, FileLog, Print, Describe, Changes}
use Rattle.depot_model.specs.declared.command.FileArgument.{FileArgument}
use Rattle.depot_model.specs.declared.refusal.Refusal.TheVariants.{Denied, NoClient}
use Rattle.depot_model.specs.declared.request.Caller.{Caller}
use Rattle.depot_model.specs.declared.request.Request.{Request}
use Rattle.depot_model.specs.declared.request.WordFault.{WordFault}
use Rattle.depot_runs.specs.Folds.{tells_history, without_shelves}
use Rattle.shelf_laws.proofs.Apart.{Alike, apart}
use Rattle.shelf_laws.proofs.Changes.{changes_same}
use Rattle.shelf_laws.proofs.Choosing.{anywhere_same, is_client_same, is_label_same}
use Rattle.shelf_laws.proofs.Telling.{files_same, print_same, filelog_same, describe_same}

module _ (d e : List Deed) (alike : Alike d e) (request : Request) where
  abbrev caller : Caller
  caller = request.caller

  unknown_same : (wanted : Wanted) → unknown_name d wanted ≡ unknown_name e wanted
  unknown_same (One (Named name)) = λ i. if is_label_same d e alike name i || is_client_same d e alike name i then [] else name ∷ []
  unknown_same _ = refl

  common_same : (form : About) → common_refusals d caller form ≡ common_refusals e caller form
  common_same form = λ i.
      refuse_if (not (anywhere_same d e alike caller form.need i)) (Denied (codes "//...") form.need)
      ∷ refuse_if (asks_client caller form && not (is_client_same d e alike caller.client i)) (NoClient caller.client)
      ∷ first_unknown (flat_map (λ (a : FileArgument). unknown_same (a.spec).wanted i) form.files)
      ∷ []

  -- a command with no last refusals, whose own step is alike
  whole_alike : (form : About) (own other : Step) → own ≡ other
      → unless (common_refusals d caller form ++ []) own ≡ unless (common_refusals e caller form ++ []) other
  whole_alike form own other one = λ i. unless (common_same form i ++ []) (one i)

  whole_same : (command : Command) → IsTrue (tells_history command) → whole_step d request command ≡ whole_step e request command
  whole_same (Files live files) tells =
      whole_alike (about (Files live files)) (own_step d request (Files live files)) (own_step e request (Files live files)) (files_same d e alike caller live files)
  whole_same (FileLog files) tells =
      whole_alike (about (FileLog files)) (own_step d request (FileLog files)) (own_step e request (FileLog files)) (filelog_same d e alike caller files)
  whole_same (Print files) tells =
      whole_alike (about (Print files)) (own_step d request (Print files)) (own_step e request (Print files)) (print_same d e alike caller files)
  whole_same (Describe n) tells =
      whole_alike (about (Describe n)) (own_step d request (Describe n)) (own_step e request (Describe n)) (describe_same d e alike caller n)
  whole_same (Changes most status user client files) tells =
      whole_alike (about (Changes most status user client files)) (own_step d request (Changes most status user client files))
      (own_step e request (Changes most status user client files)) (changes_same d e alike caller most status user client files)
  whole_same _ tells = absurd cc

  abbrev step_for : List Deed → Result Command WordFault → Step
  step_for x asked = elim asked [ Err fault ↦ refuses (word_refusal fault) | Ok command ↦ whole_step x request command ]

  pub rows_same : (command : Command) → request.command ≡ Ok command → IsTrue (tells_history command) → (step d request).rows ≡ (step e request).rows
  rows_same command is tells =
      subst (λ (asked : Result Command WordFault). (step_for d asked).rows ≡ (step_for e asked).rows) (sym is)
      (ap (λ (s : Step). s.rows) (whole_same command tells))

pub shelves_apart : (d : List Deed) (request : Request) (command : Command) → request.command ≡ Ok command → IsTrue (tells_history command)
    → (step d request).rows ≡ (step (without_shelves d) request).rows
shelves_apart d request command is tells = rows_same d (without_shelves d) (apart d) request command is tells
