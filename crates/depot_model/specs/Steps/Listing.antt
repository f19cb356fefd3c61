-- `files` (Command-Line Reference, "p4 files").
use Rattle.std.specs.Prelude.{ℕ, List, [], ◌∷◌, filter, codes, if◌then◌else◌, Option, Some, None, Bool, false, not, ◌&&◌, is_some}
use Rattle.depot_model.specs.declared.request.Caller.{Caller}
use Rattle.depot_model.specs.declared.command.FileArgument.{FileArgument}
use Rattle.depot_model.specs.declared.reply.Row.{Row}
use Rattle.depot_model.specs.Deeds.{Deed}
use Rattle.depot_model.specs.Revisions.{Revision, revision, is_live}
use Rattle.depot_model.specs.Choice.{Choice, PassedOver, At, chosen}
use Rattle.depot_model.specs.Arguments.{named, submitted, over, no_file}
use Rattle.depot_model.specs.Rows.{row, path_field, number_field, text_field, action_word}
use Rattle.depot_model.specs.Step.{Step, nothing, tells}

-- a revision with its number
pub record Numbered : Type 0 where
  pub number : ℕ
  pub made : Revision

-- the revision that a file spec chooses of a file, if there is one
abbrev pub numbered : List Deed → List ℕ → Choice → Option Numbered
numbered d path PassedOver = None
numbered d path (At n) = elim (revision d path n) [ None ↦ None | Some r ↦ Some (record { number = n; made = r }) ]

abbrev pub chosen_revision : List Deed → Caller → FileArgument → List ℕ → Option Numbered
chosen_revision d caller argument path = numbered d path (chosen d caller path argument.spec.wanted)

-- a file whose choice is 0 or that is passed over isn't named
abbrev pub listed : List Deed → Caller → FileArgument → List (List ℕ)
listed d caller argument = filter (λ path. is_some (chosen_revision d caller argument path)) (named false d caller (submitted d) argument)

abbrev pub file_row : List ℕ → Numbered → Row
file_row path r = row (
    path_field (codes "depotFile") path ∷ number_field (codes "rev") r.number ∷ number_field (codes "change") r.made.landing.change
    ∷ text_field (codes "action") (action_word r.made.entry.action) ∷ text_field (codes "type") r.made.entry.file_type
    ∷ number_field (codes "time") r.made.landing.moment ∷ [])

-- with -e a revision that isn't live has no row
abbrev pub tells_revision : Bool → List ℕ → Numbered → Step
tells_revision live path r = if live && not (is_live r.made) then nothing else tells (file_row path r ∷ [])

abbrev pub tells_file : Bool → List Deed → Caller → FileArgument → List ℕ → Step
tells_file live d caller argument path = elim (chosen_revision d caller argument path) [ None ↦ nothing | Some r ↦ tells_revision live path r ]

abbrev pub files : List Deed → Caller → Bool → List FileArgument → Step
files d caller live arguments = over (listed d caller) no_file (tells_file live d caller) [] arguments
