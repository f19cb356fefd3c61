-- What the rows of a chosen revision and of its change say is what the model tells.
use Rattle.std.proofs.Common.{◌≡◌, ℕ, Bool, true, false, List, [], ◌∷◌, Option, Some, None, refl, ap, ◌∙◌}
use Rattle.std.specs.Prelude.{IsTrue, ◌&&◌, not, bytes_eq, codes, if◌then◌else◌, option_map}
use Rattle.depot_rows.specs.depot_path.Path.{is_path}
use Rattle.depot_rows.proofs.depot_path.Paths.{prints_path}
use Rattle.depot_rows.specs.db_records.declared.record.Record.{Record}
use Rattle.depot_rows.specs.depot_model.Choice.{Choice, PassedOver, At}
use Rattle.depot_rows.specs.depot_model.Deeds.{Deed, Action, Add, Edit, Delete, Branch, Integrate, MoveAdd, MoveDelete}
use Rattle.depot_rows.specs.depot_model.Records.{rev_record}
use Rattle.depot_rows.specs.depot_model.Revisions.{Revision, revision, is_live_action}
use Rattle.depot_rows.specs.depot_model.Rows.{action_word}
use Rattle.depot_rows.specs.depot_model.Rules.{IsSound}
use Rattle.depot_rows.specs.depot_model.Step.{nothing, tells}
use Rattle.depot_rows.specs.depot_model.Steps.Listing.{Numbered, file_row, numbered, tells_revision}
use Rattle.reply_rows.proofs.Bare.{AreBare}
use Rattle.revision_reads.proofs.Landed.{change_row}
use Rattle.revision_reads.specs.History.{numbered_record}
use Rattle.history_query.specs.Listing.{rows_told}
use Rattle.history_query.specs.Telling.{revision_records, with_landed}

abbrev at_number : ℕ → Option Revision → Option Numbered
at_number n found = elim found [ None ↦ None | Some r ↦ Some (record { number = n; made = r }) ]

-- with each revision stands the change that made it
pub landed_with : (d : List Deed) (path : List ℕ) → IsSound d → IsTrue (is_path path) → (choice : Choice)
    → with_landed d (option_map numbered_record (numbered d path choice)) ≡ option_map revision_records (numbered d path choice)
landed_with d path sound is PassedOver = refl
landed_with d path sound is (At n) = go (revision d path n) refl
  where
    go : (found : Option Revision) → revision d path n ≡ found
        → with_landed d (option_map numbered_record (at_number n found)) ≡ option_map revision_records (at_number n found)
    go None e = refl
    go (Some r) e = ap (option_map (λ (c : Record). (rev_record n r, c))) (change_row d path (prints_path path is) sound n r e)

-- the word of an action says whether it leaves a revision live
word_live : (action : Action) → (not (bytes_eq (action_word action) (codes "delete")) && not (bytes_eq (action_word action) (codes "move/delete"))) ≡ is_live_action action
word_live Add = refl
word_live Edit = refl
word_live Delete = refl
word_live Branch = refl
word_live Integrate = refl
word_live MoveAdd = refl
word_live MoveDelete = refl

-- what is told of the rows is what the model tells
pub files_told : (live : Bool) (path : List ℕ) (found : Option Numbered)
    → tells (rows_told live path (option_map revision_records found)) ≡ (elim found [ None ↦ nothing | Some r ↦ tells_revision live path r ])
files_told live path None = refl
files_told live path (Some r) = ap (λ b. tells (if live && not b then [] else file_row path r ∷ [])) (word_live r.made.entry.action) ∙ go (live && not (is_live_action r.made.entry.action))
  where
    go : (b : Bool) → tells (if b then [] else file_row path r ∷ []) ≡ (if b then nothing else tells (file_row path r ∷ []))
    go true = refl
    go false = refl

pub files_bare : (live : Bool) (path : List ℕ) (found : Option Numbered) → AreBare (rows_told live path (option_map revision_records found))
files_bare live path None = tt
files_bare live path (Some r) = go (live && not (not (bytes_eq (action_word r.made.entry.action) (codes "delete")) && not (bytes_eq (action_word r.made.entry.action) (codes "move/delete"))))
  where
    go : (b : Bool) → AreBare (if b then [] else file_row path r ∷ [])
    go true = tt
    go false = (refl, tt)
