-- What a command does: deeds, the first first, and rows of its reply. This project's own choice.
use Rattle.std.specs.Prelude.{ℕ, Bool, true, false, List, [], ◌∷◌, ◌++◌, Option, Some, None}
use Rattle.depot_model.specs.declared.reply.Row.{Row}
use Rattle.depot_model.specs.declared.refusal.Refusal.{Refusal}
use Rattle.depot_model.specs.Deeds.{Deed}
use Rattle.depot_model.specs.Refusals.{refusal_row}

pub record Step : Type 0 where
  pub deeds : List Deed
  pub rows : List Row

abbrev pub nothing : Step
nothing = record { deeds = []; rows = [] }

-- rows alone, and a step of one row
abbrev pub tells : List Row → Step
tells rows = record { deeds = []; rows = rows }

abbrev pub does : List Deed → Row → Step
does deeds row = record { deeds = deeds; rows = row ∷ [] }

abbrev pub refuses : Refusal → Step
refuses why = tells (refusal_row why ∷ [])

abbrev pub both : Step → Step → Step
both a b = record { deeds = a.deeds ++ b.deeds; rows = a.rows ++ b.rows }

abbrev pub all_of : {A : Type 0} → (A → Step) → List A → Step
all_of act [] = nothing
all_of act (x ∷ xs) = both (act x) (all_of act xs)

-- the depot after deeds, the first first
abbrev pub after : List Deed → List Deed → List Deed
after d [] = d
after d (deed ∷ deeds) = after (deed ∷ d) deeds

-- the first refusal that holds, or else the step
abbrev pub unless : List (Option Refusal) → Step → Step
unless [] step = step
unless (None ∷ tests) step = unless tests step
unless (Some why ∷ tests) step = refuses why

abbrev pub refuse_if : Bool → Refusal → Option Refusal
refuse_if true why = Some why
refuse_if false why = None

-- each path over the depot with the deeds of the paths before it, so that one target is opened once
abbrev pub in_turn : (List Deed → List ℕ → Step) → List Deed → List (List ℕ) → Step
in_turn act d [] = nothing
in_turn act d (path ∷ paths) = both (act d path) (in_turn act (after d (act d path).deeds) paths)
