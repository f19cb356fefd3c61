-- Rows without a content wait for none.
use Rattle.std.proofs.Common.{◌≡◌, ℕ, List, [], ◌∷◌, ◌++◌, None, refl, ap, sym, ◌∙◌, subst}
use Rattle.std.specs.Prelude.{map, option_map}
use Rattle.std.specs.Option.{option_to_list}
use Rattle.depot_rows.specs.table_changes.Changed.{AllRows}
use Rattle.depot_rows.specs.depot_model.declared.reply.Row.{Row}
use Rattle.depot_rows.specs.depot_model.declared.refusal.Refusal.{Refusal}
use Rattle.depot_rows.specs.depot_model.declared.refusal.Refusal.TheVariants.{UnknownCommand, BadUsage, BadPath, BadRevision, Denied, NoClient, NotInView, NoSuchFile, NoSuchChange, NotYours, AlreadyOpen, NotOpen, ExclusiveOpen, Locked, Stale, MustResolve, NoContent, EmptyChange, BadForm, NoSuchLabel, LabelLocked, NotDeletable, ReadOnly, OverLimit, AllIntegrated, Exists, NotMovable, InMove, Shelved, AlreadyShelved, NotShelvable, NoShelf, NoSuchJob, Fixed, BadArchive}
use Rattle.depot_rows.specs.depot_model.Deeds.{Deed}
use Rattle.depot_rows.specs.depot_model.Refusals.{refusal_row}
use Rattle.depot_rows.specs.depot_model.Step.{Step as ModelStep, refuses, tells}
use Rattle.depot_rows.specs.Effects.{Follow}
use Rattle.reply_rows.specs.declared.content.RowContent.{RowContent}
use Rattle.reply_rows.specs.declared.step.Step.{Step}
use Rattle.reply_rows.specs.Made.{IsMade, ComeFrom, contents_of, told, waiting}

-- each row is without a content
abbrev pub AreBare : List Row → Type 0
AreBare [] = Unit {0}
AreBare (row ∷ rows) = (row.content ≡ None) × AreBare rows

pub row_waits : (row : Row) → row.content ≡ None → waiting row ≡ row
row_waits row bare = λ i. record { fields = row.fields; content = (ap (option_map (λ _. [])) bare ∙ sym bare) i }

pub rows_wait : (rows : List Row) → AreBare rows → map waiting rows ≡ rows
rows_wait [] bare = refl
rows_wait (row ∷ rows) bare = λ i. row_waits row bare.0 i ∷ rows_wait rows bare.1 i

pub none_told : (rows : List Row) → AreBare rows → contents_of rows ≡ []
none_told [] bare = refl
none_told (row ∷ rows) bare = (λ i. option_to_list (bare.0 i) ++ contents_of rows) ∙ none_told rows bare.1

pub refusal_bare : (why : Refusal) → (refusal_row why).content ≡ None
refusal_bare (UnknownCommand word) = refl
refusal_bare (BadUsage word) = refl
refusal_bare (BadPath argument fault) = refl
refusal_bare (BadRevision argument fault) = refl
refusal_bare (Denied path needed) = refl
refusal_bare (NoClient name) = refl
refusal_bare (NotInView path) = refl
refusal_bare (NoSuchFile argument) = refl
refusal_bare (NoSuchChange n) = refl
refusal_bare (NotYours n) = refl
refusal_bare (AlreadyOpen path) = refl
refusal_bare (NotOpen argument) = refl
refusal_bare (ExclusiveOpen path client) = refl
refusal_bare (Locked path client) = refl
refusal_bare (Stale path base head) = refl
refusal_bare (MustResolve path) = refl
refusal_bare (NoContent path) = refl
refusal_bare (EmptyChange n) = refl
refusal_bare (BadForm line) = refl
refusal_bare (NoSuchLabel name) = refl
refusal_bare (LabelLocked name) = refl
refusal_bare (NotDeletable n) = refl
refusal_bare (ReadOnly word) = refl
refusal_bare (OverLimit what) = refl
refusal_bare (AllIntegrated path) = refl
refusal_bare (Exists path) = refl
refusal_bare (NotMovable path) = refl
refusal_bare (InMove path other) = refl
refusal_bare (Shelved n) = refl
refusal_bare (AlreadyShelved path) = refl
refusal_bare (NotShelvable path) = refl
refusal_bare (NoShelf n) = refl
refusal_bare (NoSuchJob job) = refl
refusal_bare (Fixed n) = refl
refusal_bare (BadArchive at) = refl

-- a step that tells bare rows, and one that tells a refusal
module _ (all : AllRows) (d e : List Deed) where
  pub made_of : (model : ModelStep) (step : Step) → AreBare model.rows → Follow e step.deeds model.deeds → step.rows ≡ model.rows → step.stores ≡ []
      → step.reads ≡ [] → IsMade all d e model step
  made_of model step bare follow rows stores reads = record {
    deeds = follow;
    rows = rows ∙ sym (rows_wait model.rows bare);
    stores = stores;
    reads =
        let P : List (List ℕ) → Type 0 = λ contents. ComeFrom all d contents step.reads in
        let Q : List RowContent → Type 0 = λ places. ComeFrom all d [] places in
        subst P (sym (none_told model.rows bare)) (subst Q (sym reads) tt);
  }

  pub tells_made : (rows : List Row) → AreBare rows → IsMade all d e (tells rows) (told rows)
  tells_made rows bare = made_of (tells rows) (told rows) bare tt refl refl refl

  pub refuses_made : (why : Refusal) → IsMade all d e (refuses why) (told (refusal_row why ∷ []))
  refuses_made why = tells_made (refusal_row why ∷ []) (refusal_bare why, tt)
