-- A row that was seen is that of the revision which is chosen of its file.
use Rattle.std.proofs.Common.{◌≡◌, ℕ, List, Option, Some, Ok, Bor, refl, sym, ap, subst, ◌∙◌}
use Rattle.std.specs.Prelude.{Contains, IfSome}
use Rattle.std.specs.List.{All}
use Rattle.std.proofs.lemmas.List.Elements.{All-contains}
use Rattle.depot_rows.specs.depot_path.Path.{path_of, printed}
use Rattle.depot_rows.specs.depot_path.declared.revision.Wanted.{Wanted}
use Rattle.depot_rows.specs.db_records.declared.key.Key.TheVariants as keys
use Rattle.depot_rows.specs.db_records.declared.record.Record.TheVariants as records
use Rattle.depot_rows.specs.db_records.declared.rows.RevRecord.{RevRecord}
use Rattle.depot_rows.specs.db_records.declared.table.TableId.TheVariants as tables
use Rattle.depot_rows.specs.table_changes.Changed.{AllRows}
use Rattle.depot_rows.specs.depot_model.declared.request.Caller.{Caller}
use Rattle.depot_rows.specs.depot_model.Deeds.{Deed}
use Rattle.named_files.proofs.RowsMade.{key_found}
use Rattle.history_query.specs.Choosing.{IsChoice, IsChosen}

module _ (rows : AllRows) (d : List Deed) (caller : Caller) (wanted : Wanted) (path : List ℕ) (own : path_of (printed path) ≡ Ok path) where
  pub is_chosen : (r : RevRecord) → IsChoice rows d caller wanted path (Some r) → IsChosen rows d caller wanted r
  is_chosen r is = λ other reads.
      let key : keys.Rev r.path r.rev ≡ keys.Rev (printed path) r.rev = key_found (keys.Rev (printed path) r.rev) (rows tables.Rev) (records.Rev r) (is.stored r refl) in
      let text : r.path ≡ printed path = cc in
      let read = sym own ∙ ap path_of (sym text) ∙ reads in
      let same : path ≡ other = cc in
      subst (λ (p : List ℕ). IsChoice rows d caller wanted p (Some r)) same is

  pub choice_is : (text : List ℕ) (seen : List RevRecord) (row : Option (Bor RevRecord)) (r : Bor RevRecord) → text ≡ printed path → IfSome row (λ s. s.now.path ≡ text)
      → IfSome row (λ s. Contains seen s.now) → All (IsChosen rows d caller wanted) seen → row ≡ Some r → IsChoice rows d caller wanted path (Some r.now)
  choice_is text seen row r prints at among are is =
      let here = subst (λ (o : Option (Bor RevRecord)). IfSome o (λ s. s.now.path ≡ text)) is at in
      let one = subst (λ (o : Option (Bor RevRecord)). IfSome o (λ s. Contains seen s.now)) is among in
      All-contains (IsChosen rows d caller wanted) seen r.now are one path (ap path_of (here ∙ prints) ∙ own)
