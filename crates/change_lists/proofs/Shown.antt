-- What is shown of a change by its record is what the model shows.
use Rattle.std.proofs.Common.{◌≡◌, ℕ, Bool, true, false, ◌+◌, List, [], ◌∷◌, ◌++◌, Option, Some, None, refl, ap, subst, ◌∙◌}
use Rattle.std.specs.Prelude.{codes, decimal, flat_map, if◌then◌else◌, IfSome, map, option_map}
use Rattle.std.specs.List.{enumerate_from}
use Rattle.depot_rows.specs.depot_path.Bytes.{same}
use Rattle.depot_rows.specs.depot_path.Name.{is_name}
use Rattle.depot_rows.specs.depot_path.Path.{printed}
use Rattle.depot_rows.specs.protect_table.Rights.{may}
use Rattle.depot_rows.specs.db_records.declared.key.Key.TheVariants as keys
use Rattle.depot_rows.specs.db_records.declared.record.Record.{Record}
use Rattle.depot_rows.specs.db_records.declared.record.Record.TheVariants.{Change}
use Rattle.depot_rows.specs.db_records.declared.rows.ChangeRecord.{ChangeRecord}
use Rattle.depot_rows.specs.table_changes.Changed.{AllRows}
use Rattle.depot_rows.specs.depot_model.declared.reply.Field.{Field}
use Rattle.depot_rows.specs.depot_model.declared.reply.Row.{Row}
use Rattle.depot_rows.specs.depot_model.declared.request.Caller.{Caller}
use Rattle.depot_rows.specs.depot_model.declared.refusal.Refusal.TheVariants.{NoSuchChange}
use Rattle.depot_rows.specs.depot_model.Asking.{may_list}
use Rattle.depot_rows.specs.depot_model.Deeds.{Deed, Landing, Opening, Pending}
use Rattle.depot_rows.specs.depot_model.FormRows.{numbered}
use Rattle.depot_rows.specs.depot_model.Numbers.{landing, pending}
use Rattle.depot_rows.specs.depot_model.Records.{change_record, landed_record, pending_record, record_of}
use Rattle.depot_rows.specs.depot_model.Refusals.{refusal_row}
use Rattle.depot_rows.specs.depot_model.Rows.{row, text_field}
use Rattle.depot_rows.specs.depot_model.Rules.{IsRow, IsSound}
use Rattle.depot_rows.specs.depot_model.Step.{Step as ModelStep, refuses, tells}
use Rattle.depot_rows.specs.depot_model.Steps.Changing.{change_row, file_field, listable, openings_in, show_numbered}
use Rattle.depot_rows.specs.Deed.{opening_of}
use Rattle.depot_rows.specs.declared.deed.Opening.{Opening as DeedOpening}
use Rattle.reply_rows.specs.declared.step.Step.{Step}
use Rattle.reply_rows.specs.Made.{IsMade, told}
use Rattle.reply_rows.proofs.Joined.{made_row}
use Rattle.named_files.specs.Asked.{IsAsker}
use Rattle.named_files.specs.declared.asker.Asker.{Asker}
use Rattle.change_lists.specs.Showing.{listed_text, record_row}

module _ (d : List Deed) (caller : Caller) (asker : Asker) (asked : IsAsker d caller asker) where
  -- the asker's right to list is the caller's
  pub may_is : (path : List ℕ) → may asker.protects asker.who path 1 ≡ may_list d caller path
  may_is path = λ i. may (asked.protects i) (asked.who i) path 1

  abbrev texts : List DeedOpening → List (List ℕ)
  texts openings = flat_map (λ (o : DeedOpening). listed_text asker o.path) openings

  abbrev shown : List DeedOpening → List Opening
  shown openings = listable d caller (map opening_of openings)

  -- the fields of the files
  files_are : (k : ℕ) (openings : List DeedOpening) → map (numbered (codes "Files")) (enumerate_from k (texts openings)) ≡ map file_field (enumerate_from k (shown openings))
  files_are k [] = refl
  files_are k (o ∷ openings) = go (may asker.protects asker.who o.path 1) (may_is o.path) (files_are k openings) (files_are (k + 1) openings)
    where
      go : (b : Bool) → b ≡ may_list d caller o.path → map (numbered (codes "Files")) (enumerate_from k (texts openings)) ≡ map file_field (enumerate_from k (shown openings))
          → map (numbered (codes "Files")) (enumerate_from (k + 1) (texts openings)) ≡ map file_field (enumerate_from (k + 1) (shown openings))
          → map (numbered (codes "Files")) (enumerate_from k ((if b then printed o.path ∷ [] else []) ++ texts openings))
          ≡ map file_field (enumerate_from k (if may_list d caller o.path then opening_of o ∷ shown openings else shown openings))
      go true e same more =
          ap (λ (l : List Field). text_field (codes "Files" ++ decimal k) (printed o.path) ∷ l) more
          ∙ ap (λ (b : Bool). map file_field (enumerate_from k (if b then opening_of o ∷ shown openings else shown openings))) e
      go false e same more = same ∙ ap (λ (b : Bool). map file_field (enumerate_from k (if b then opening_of o ∷ shown openings else shown openings))) e

  -- the row of a change with its opened files
  pub row_is : (n client user status text : List ℕ) (openings : List DeedOpening) (are : List Opening) → map opening_of openings ≡ are
      → row (text_field (codes "Change") n ∷ text_field (codes "Client") client ∷ text_field (codes "User") user
      ∷ text_field (codes "Status") status ∷ text_field (codes "Description") text ∷ map (numbered (codes "Files")) (enumerate_from 0 (texts openings)))
      ≡ change_row n client user status text (listable d caller are)
  row_is n client user status text openings are is =
      ap (λ (l : List Field). row (text_field (codes "Change") n ∷ text_field (codes "Client") client ∷ text_field (codes "User") user
      ∷ text_field (codes "Status") status ∷ text_field (codes "Description") text ∷ l)) (files_are 0 openings)
      ∙ ap (λ (l : List Opening). change_row n client user status text (listable d caller l)) is

module _ (all : AllRows) (d : List Deed) (caller : Caller) (n : ℕ) (sound : IsSound d) where
  abbrev model_of : Option Pending → Option Landing → ModelStep
  model_of p l = elim p as (λ _. ModelStep) [
    | None ↦ elim l as (λ _. ModelStep) [
      | None ↦ refuses (NoSuchChange n)
      | Some l ↦ tells (change_row (decimal n) l.client l.user (codes "submitted") l.text [] ∷ [])
    ]
    | Some p ↦ tells (change_row (decimal n) p.client p.user (codes "pending") p.text (listable d caller (openings_in d p)) ∷ [])
  ]

  abbrev record_in : Option Pending → Option Landing → Option Record
  record_in p l = elim p as (λ _. Option Record) [ Some x ↦ Some (pending_record x) | None ↦ option_map landed_record l ]

  -- the client of a change is a name
  named : (p : Pending) → pending d n ≡ Some p → is_name p.client ≡ true
  named p is =
      let found : record_of d (keys.Change n) ≡ Some (pending_record p) = ap (λ (x : Option Pending). record_in x (landing d n)) is in
      let kept = sound.rules.each (keys.Change n) in
      let P : Option Record → Type 0 = λ r. IfSome r (IsRow (record_of d)) in
      (subst P found kept).2

  -- by its row, where there is one
  pub found_made : (r : ChangeRecord) (step : Step) → Some (Change r) ≡ change_record d n → step ≡ told (record_row d caller n r ∷ [])
      → IsMade all d d (show_numbered d caller n) step
  found_made r step is told_is = go (pending d n) refl (landing d n) is
    where
      one_row : (a b : Record) → Some a ≡ Some b → a ≡ b
      one_row a b e = cc

      made : (r is : ChangeRecord) → Change r ≡ Change is → step ≡ told (record_row d caller n r ∷ []) → IsMade all d d (tells (record_row d caller n is ∷ [])) step
      made r is e s =
          let one : r ≡ is = cc in
          made_row all d d (record_row d caller n r) (record_row d caller n is) step (ap (record_row d caller n) one) refl s

      go : (p : Option Pending) → pending d n ≡ p → (l : Option Landing) → Some (Change r) ≡ record_in p l → IsMade all d d (model_of p l) step
      go (Some p) e l k =
          let row_of : ChangeRecord = record { change = p.change; status = codes "pending"; user = p.user; client = p.client; moment = p.moment; text = p.text } in
          let P : Bool → Type 0 = λ b. IsMade all d d (tells (change_row (decimal n) p.client p.user (codes "pending") p.text (listable d caller (if b then openings_in d p else [])) ∷ [])) step in
          subst P (named p e) (made r row_of (one_row (Change r) (pending_record p) k) told_is)
      go None e (Some l) k =
          let row_of : ChangeRecord = record { change = l.change; status = codes "submitted"; user = l.user; client = l.client; moment = l.moment; text = l.text } in
          made r row_of (one_row (Change r) (landed_record l) k) told_is
      go None e None k = absurd cc

  -- without a row
  pub none_made : (row : Row) (step : Step) → None ≡ change_record d n → row ≡ refusal_row (NoSuchChange n) → step ≡ told (row ∷ []) → IsMade all d d (show_numbered d caller n) step
  none_made row step is same told_is = go (pending d n) (landing d n) is
    where
      go : (p : Option Pending) (l : Option Landing) → None ≡ record_in p l → IsMade all d d (model_of p l) step
      go (Some p) l k = absurd cc
      go None (Some l) k = absurd cc
      go None None k = made_row all d d row (refusal_row (NoSuchChange n)) step same refl told_is
