-- What an `unshelve` that follows places of an order opens and prints (Command-Line Reference, "p4 unshelve").
use Rattle.std.specs.Prelude.{◌≡◌, ◌≢◌, ◌⊎◌, ℕ, Bool, true, false, List, [], ◌∷◌, ◌++◌, Option, Some, Ok, unwrap_or}
use Rattle.std.specs.List.{AllByRecursion, list_any}
use Rattle.depot_model.specs.spec_form.Form.{FormValue}
use Rattle.depot_model.specs.Arguments.{everything, is_in, named}
use Rattle.depot_model.specs.Commands.{step}
use Rattle.depot_model.specs.Deeds.{Deed, Open}
use Rattle.depot_model.specs.Places.{Placed, taken}
use Rattle.depot_model.specs.Refusals.{refusal_row}
use Rattle.depot_model.specs.Shelves.{kept_opening, kept_block, kept_paths}
use Rattle.depot_model.specs.Step.{Step, both, refuses}
use Rattle.depot_model.specs.Steps.Shelving.{unshelve_opening, unshelved_row}
use Rattle.depot_model.specs.declared.command.Command.TheVariants.{Unshelve}
use Rattle.depot_model.specs.declared.command.FileArgument.{FileArgument}
use Rattle.depot_model.specs.declared.refusal.Refusal.{Refusal}
use Rattle.depot_model.specs.declared.reply.Row.{Row}
use Rattle.depot_model.specs.declared.request.Caller.{Caller}
use Rattle.depot_model.specs.declared.request.Request.{Request}
use Rattle.depot_runs.specs.Folds.{shelf_state}

-- of what is shelved, as it is given for each path, by a caller, in a change
module _ (shelved : List ℕ → Option FormValue) (caller : Caller) (change : ℕ) where
  -- a deed opens a shelved file as its form says
  abbrev pub IsOpenedSo : Deed → Type 0
  IsOpenedSo (Open o) = (form : FormValue) × ((shelved o.path ≡ Some form) × (o ≡ kept_opening caller change o.path form))
  IsOpenedSo _ = ⊥

  -- a row is a refusal, or tells of a shelved file that is opened so, with the block that was shelved
  abbrev pub IsToldSo : List Deed → Row → Type 0
  IsToldSo d row =
      ((why : Refusal) × (row ≡ refusal_row why))
      ⊎ ((path : List ℕ) × ((form : FormValue) × ((shelved path ≡ Some form) × (row ≡ unshelved_row d caller (kept_opening caller change path form) (kept_block form)))))

-- ---- each file that is named

-- without arguments it is asked of all files
abbrev pub arguments_of : List FileArgument → List FileArgument
arguments_of [] = everything ∷ []
arguments_of (argument ∷ arguments) = argument ∷ arguments

-- one of the arguments names a file that is kept in the change
abbrev pub is_named : List Deed → Caller → ℕ → List FileArgument → List ℕ → Bool
is_named d caller n files path = list_any (λ argument. is_in (named false d caller (kept_paths d n) argument) path) (arguments_of files)

-- a deed doesn't open a file
abbrev pub OpensNot : List ℕ → Deed → Type 0
OpensNot path (Open o) = o.path ≢ path
OpensNot path _ = Unit {0}

-- the deeds and the rows of a step stand in those of another, none of whose other deeds opens the file
pub record IsAnswerIn (path : List ℕ) (answer whole : Step) : Type 0 where
  pub front : Step
  pub behind : Step
  pub is : whole ≡ both front (both answer behind)
  pub once : AllByRecursion (OpensNot path) (front.deeds ++ behind.deeds)

-- Each kept file that is named is shelved, and is opened so, once, with its row, or has the row of the first refusal that holds of its opening.
abbrev pub AnswersEach : (List ℕ → Option FormValue) → List Deed → Caller → ℕ → ℕ → List FileArgument → Step → Type 0
AnswersEach shelved d caller n change files step =
    (path : List ℕ) → is_named d caller n files path ≡ true →
    (form : FormValue) × ((shelved path ≡ Some form) × IsAnswerIn path (unshelve_opening d caller (kept_opening caller change path form) (kept_block form)) step)

-- the same, unless one refusal is all that is told
abbrev pub RefusesOrAnswersEach : (List ℕ → Option FormValue) → List Deed → Caller → ℕ → ℕ → List FileArgument → Step → Type 0
RefusesOrAnswersEach shelved d caller n change files step = ((why : Refusal) × (step ≡ refuses why)) ⊎ AnswersEach shelved d caller n change files step

-- an `unshelve` opens each file that it names as the last `shelve` place shelved it, or refuses it, and does nothing else
abbrev pub UnshelvesAsLastShelved : Type 0
UnshelvesAsLastShelved =
    (d : List Deed) (places : List Placed) (request : Request) (n : ℕ) (change : Option ℕ) (files : List FileArgument) →
    request.command ≡ Ok (Unshelve n change files) →
    AllByRecursion (IsOpenedSo (shelf_state step d places n) request.caller (unwrap_or change 0)) (step (taken step d places) request).deeds
    × AllByRecursion (IsToldSo (shelf_state step d places n) request.caller (unwrap_or change 0) (taken step d places)) (step (taken step d places) request).rows
    × RefusesOrAnswersEach (shelf_state step d places n) (taken step d places) request.caller n (unwrap_or change 0) files (step (taken step d places) request)
