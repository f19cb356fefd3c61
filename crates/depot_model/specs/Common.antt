-- The refusals that are common to all commands. Their order is this project's own choice.
use Rattle.std.specs.Prelude.{ℕ, Bool, true, false, not, ◌&&◌, ◌||◌, List, [], ◌∷◌, flat_map, codes, if◌then◌else◌, Option, Some, None}
use Rattle.std.specs.List.{list_any}
use Rattle.db_records.specs.depot_path.declared.revision.RevSpec.TheVariants.{Have, Named}
use Rattle.db_records.specs.depot_path.declared.revision.Wanted.{Wanted}
use Rattle.db_records.specs.depot_path.declared.revision.Wanted.TheVariants.{One}
use Rattle.depot_model.specs.declared.request.Caller.{Caller}
use Rattle.depot_model.specs.declared.request.WordFault.{WordFault}
use Rattle.depot_model.specs.declared.request.WordFault.TheVariants as words
use Rattle.depot_model.specs.declared.command.Command.{Command}
use Rattle.depot_model.specs.declared.command.FileArgument.{FileArgument}
use Rattle.depot_model.specs.declared.command.PatternArgument.{PatternArgument}
use Rattle.depot_model.specs.declared.refusal.Refusal.{Refusal}
use Rattle.depot_model.specs.declared.refusal.Refusal.TheVariants.{UnknownCommand, BadUsage, BadPath, BadRevision, Denied, NoClient, NoSuchLabel, Shelved, Fixed}
use Rattle.depot_model.specs.Deeds.{Deed}
use Rattle.depot_model.specs.Asking.{may_anywhere, is_client, is_label}
use Rattle.depot_model.specs.Arguments.{in_client_syntax}
use Rattle.depot_model.specs.About.{About}
use Rattle.depot_model.specs.Step.{refuse_if}
use Rattle.depot_model.specs.declared.command.Command.TheVariants.{SubmitChange, ChangeDelete}
use Rattle.depot_model.specs.Shelves.{is_shelved}
use Rattle.depot_model.specs.Fixes.{is_fixing}

-- the refusal of words; want of memory comes before any place, so no request of an order has it
abbrev pub word_refusal : WordFault → Refusal
word_refusal (words.UnknownCommand word) = UnknownCommand word
word_refusal (words.BadUsage word) = BadUsage word
word_refusal (words.BadPath argument fault) = BadPath argument fault
word_refusal (words.BadRevision argument fault) = BadRevision argument fault
word_refusal (words.BadNumber word) = BadUsage word
word_refusal words.Memory = BadUsage []

abbrev pub asks_have : Wanted → Bool
asks_have (One Have) = true
asks_have _ = false

abbrev pub asks_client : Caller → About → Bool
asks_client caller form = form.needs_client
    || list_any (λ (a : FileArgument). in_client_syntax caller.client a.spec.pattern || asks_have a.spec.wanted) form.files
    || list_any (λ (a : PatternArgument). in_client_syntax caller.client a.pattern) form.patterns

-- the names after `@` that are neither labels nor clients
abbrev pub unknown_name : List Deed → Wanted → List (List ℕ)
unknown_name d (One (Named name)) = if is_label d name || is_client d name then [] else name ∷ []
unknown_name d _ = []

abbrev pub first_unknown : List (List ℕ) → Option Refusal
first_unknown [] = None
first_unknown (name ∷ names) = Some (NoSuchLabel name)

abbrev pub common_refusals : List Deed → Caller → About → List (Option Refusal)
common_refusals d caller form =
    refuse_if (not (may_anywhere d caller form.need)) (Denied (codes "//...") form.need)
    ∷ refuse_if (asks_client caller form && not (is_client d caller.client)) (NoClient caller.client)
    ∷ first_unknown (flat_map (λ (a : FileArgument). unknown_name d a.spec.wanted) form.files)
    ∷ []

-- the last of the common refusals: a change with shelved files is neither submitted nor deleted, one with fixes isn't deleted
abbrev pub last_refusals : List Deed → Command → List (Option Refusal)
last_refusals d (SubmitChange n) = refuse_if (is_shelved d n) (Shelved n) ∷ []
last_refusals d (ChangeDelete n) = refuse_if (is_shelved d n) (Shelved n) ∷ refuse_if (is_fixing d n) (Fixed n) ∷ []
last_refusals d _ = []
