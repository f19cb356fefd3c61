-- Changes that are cut make of cut rows what the changes make of the rows, cut.
use Rattle.std.proofs.Common.{◌≡◌, Bool, true, false, cond, List, [], ◌∷◌, Option, Some, None, refl, sym, ap, ◌∙◌, subst, IsTrue}
use Rattle.std.specs.Prelude.{option_map}
use Rattle.std.specs.List.{list_all}
use Rattle.depot_rows.specs.db_records.declared.key.Key.{Key}
use Rattle.depot_rows.specs.db_records.declared.record.Record.{Record}
use Rattle.depot_rows.specs.db_records.declared.record.Record.TheVariants.{Counter, Group, Protect, Domain, Have, Label, Integed, Resolve, Working, Change as ChangeRow, Rev}
use Rattle.depot_rows.specs.db_records.declared.rows.WorkingRecord.{WorkingRecord}
use Rattle.depot_rows.specs.db_records.declared.change.Change.{Change}
use Rattle.depot_rows.specs.db_records.declared.change.Op.{Op}
use Rattle.depot_rows.specs.db_records.declared.change.Op.TheVariants.{Put, Replace, Remove}
use Rattle.depot_rows.specs.db_records.declared.table.TableId.{TableId}
use Rattle.depot_rows.specs.db_records.Key.{key_table}
use Rattle.depot_rows.specs.db_records.Record.{key_of}
use Rattle.depot_rows.specs.table_store.Rows.{FitsAt}
use Rattle.depot_rows.specs.table_changes.Changed.{AllRows, FitsIn, AllFitIn, changed_in, changed_by}
use Rattle.depot_rows.specs.depot_model.Records.{record_of, unplaced, is_at as at}
use Rattle.depot_rows.specs.depot_model.Rules.{has_paths}
use Rattle.depot_rows.specs.depot_model.Deeds.{Deed}
use Rattle.depot_rows.specs.depot_model.Cut.{cut}
use Rattle.depot_rows.specs.depot_model.declared.filter.FilterRule.{FilterRule}
use Rattle.depot_rows.specs.Standing.{row_in, unplaced_at, HasRows}
use Rattle.depot_rows.specs.Cut.{is_text_inside, is_left, cut_row, cut_rows}
use Rattle.depot_rows.proofs.CutRows.{rows_cut}
use Rattle.row_changes.proofs.Made.{equal-keys}
use Rattle.row_changes.proofs.Kept.{row_left, stored-changed}
use Rattle.replica_pull.specs.Cut.{AreCut, cut_changes}

-- a cut row has its key
working_key : (r : WorkingRecord) (b : Bool) → key_of (cond b (Working r) (Working (record r { source = []; source_rev = 0 }))) ≡ key_of (Working r)
working_key r true = refl
working_key r false = refl

pub same_key : (rules : List FilterRule) (r : Record) → key_of (cut_row rules r) ≡ key_of r
same_key rules (Counter r) = refl
same_key rules (Group r) = refl
same_key rules (Protect r) = refl
same_key rules (Domain r) = refl
same_key rules (Have r) = refl
same_key rules (Label r) = refl
same_key rules (Integed r) = refl
same_key rules (Resolve r) = refl
same_key rules (Working r) = working_key r (is_text_inside rules r.source)
same_key rules (ChangeRow r) = refl
same_key rules (Rev r) = refl

-- whether a row has a place has nothing to do with what is cut of it
unplaced_working : (r : WorkingRecord) (b : Bool) → unplaced (cond b (Working r) (Working (record r { source = []; source_rev = 0 }))) ≡ cond b (Working r) (Working (record r { source = []; source_rev = 0 }))
unplaced_working r true = refl
unplaced_working r false = refl

unplaced_cut : (rules : List FilterRule) (r : Record) → unplaced (cut_row rules r) ≡ cut_row rules (unplaced r)
unplaced_cut rules (Counter r) = refl
unplaced_cut rules (Group r) = refl
unplaced_cut rules (Protect r) = refl
unplaced_cut rules (Domain r) = refl
unplaced_cut rules (Have r) = refl
unplaced_cut rules (Label r) = refl
unplaced_cut rules (Integed r) = refl
unplaced_cut rules (Resolve r) = refl
unplaced_cut rules (Working r) = unplaced_working r (is_text_inside rules r.source)
unplaced_cut rules (ChangeRow r) = refl
unplaced_cut rules (Rev r) = refl

-- ---- one change

left_cut : (rules : List FilterRule) (op : Op) (r : Record) → row_left op (cut_row rules r) ≡ option_map (cut_row rules) (row_left op r)
left_cut rules Put r = refl
left_cut rules Replace r = refl
left_cut rules Remove r = refl

module _ (rules : List FilterRule) (whole rows : AllRows) (are : AreCut rules whole rows) where
  -- of a row that is left
  left_one : (c : Change) → is_left rules (key_of c.row) ≡ true → AreCut rules (changed_in whole c) (changed_in rows (record { op = c.op; row = cut_row rules c.row }))
  left_one c left key =
      let cut : Change = record { op = c.op; row = cut_row rules c.row } in
      stored-changed rows cut key
      ∙ ap (λ (k : Key). cond (at key k) (row_left c.op (cut_row rules c.row)) (row_in rows key)) (same_key rules c.row)
      ∙ pick (at key (key_of c.row)) refl
      ∙ ap (λ (o : Option Record). cond (is_left rules key) (option_map (cut_row rules) o) None) (sym (stored-changed whole c key))
    where
      pick : (b : Bool) → at key (key_of c.row) ≡ b → cond (at key (key_of c.row)) (row_left c.op (cut_row rules c.row)) (row_in rows key)
          ≡ cond (is_left rules key) (option_map (cut_row rules) (cond (at key (key_of c.row)) (row_left c.op c.row) (row_in whole key))) None
      pick true is =
          let here : key_of c.row ≡ key = sym (equal-keys key (key_of c.row) is) in
          let kept : is_left rules key ≡ true = ap (is_left rules) (sym here) ∙ left in
          rw is (rw kept (left_cut rules c.op c.row))
      pick false is = rw is (are key)

  -- of a row that is cut away
  gone_one : (c : Change) → is_left rules (key_of c.row) ≡ false → AreCut rules (changed_in whole c) rows
  gone_one c gone key =
      are key
      ∙ pick (at key (key_of c.row)) refl
      ∙ ap (λ (o : Option Record). cond (is_left rules key) (option_map (cut_row rules) o) None) (sym (stored-changed whole c key))
    where
      pick : (b : Bool) → at key (key_of c.row) ≡ b → cut_rows rules (row_in whole) key
          ≡ cond (is_left rules key) (option_map (cut_row rules) (cond (at key (key_of c.row)) (row_left c.op c.row) (row_in whole key))) None
      pick true is =
          let here : key_of c.row ≡ key = sym (equal-keys key (key_of c.row) is) in
          let out : is_left rules key ≡ false = ap (is_left rules) (sym here) ∙ gone in
          rw out refl
      pick false is = rw is refl

  fits_cut : (op : Op) (r : Record) (o : Option Record) → FitsAt op r o → FitsAt op (cut_row rules r) (option_map (cut_row rules) o)
  fits_cut Put r o fit = ap (option_map (cut_row rules)) fit
  fits_cut Replace r (Some x) fit = refl
  fits_cut Replace r None fit = absurd (let one : false ≡ true = fit in cc)
  fits_cut Remove r o fit = ap (option_map (cut_row rules)) fit

  one_fits : (c : Change) → is_left rules (key_of c.row) ≡ true → FitsIn whole c → FitsIn rows (record { op = c.op; row = cut_row rules c.row })
  one_fits c left fit =
      let there : row_in rows (key_of (cut_row rules c.row)) ≡ option_map (cut_row rules) (row_in whole (key_of c.row)) =
      ap (row_in rows) (same_key rules c.row) ∙ are (key_of c.row) ∙ ap (λ (b : Bool). cond b (option_map (cut_row rules) (row_in whole (key_of c.row))) None) left in
      record { of_table = refl; at_key = subst (FitsAt c.op (cut_row rules c.row)) (sym there) (fits_cut c.op c.row (row_in whole (key_of c.row)) fit.at_key) }

-- ---- changes

module _ (rules : List FilterRule) (c : Change) (changes : List Change) where
  abbrev one : Change
  one = record { op = c.op; row = cut_row rules c.row }

  rows_on : (whole rows : AllRows) → ((more : AllRows) → AreCut rules (changed_in whole c) more → AreCut rules (changed_by (changed_in whole c) changes) (changed_by more (cut_changes rules changes))) → AreCut rules whole rows →
      (b : Bool) → is_left rules (key_of c.row) ≡ b → AreCut rules (changed_by (changed_in whole c) changes) (changed_by rows (cut_changes rules (c ∷ changes)))
  rows_on whole rows go are true left = rw left (go (changed_in rows one) (left_one rules whole rows are c left))
  rows_on whole rows go are false gone = rw gone (go rows (gone_one rules whole rows are c gone))

  fit_on : (whole rows : AllRows) → ((more : AllRows) → AreCut rules (changed_in whole c) more → AllFitIn more (cut_changes rules changes)) → AreCut rules whole rows → FitsIn whole c →
      (b : Bool) → is_left rules (key_of c.row) ≡ b → AllFitIn rows (cut_changes rules (c ∷ changes))
  fit_on whole rows go are fits true left = rw left (one_fits rules whole rows are c left fits, go (changed_in rows one) (left_one rules whole rows are c left))
  fit_on whole rows go are fits false gone = rw gone (go rows (gone_one rules whole rows are c gone))

pub rows_after : (rules : List FilterRule) (whole rows : AllRows) (changes : List Change) → AreCut rules whole rows → AreCut rules (changed_by whole changes) (changed_by rows (cut_changes rules changes))
rows_after rules whole rows [] are = are
rows_after rules whole rows (c ∷ changes) are =
    rows_on rules c changes whole rows (λ more cut. rows_after rules (changed_in whole c) more changes cut) are (is_left rules (key_of c.row)) refl

pub fit_after : (rules : List FilterRule) (whole rows : AllRows) (changes : List Change) → AreCut rules whole rows → AllFitIn whole changes → AllFitIn rows (cut_changes rules changes)
fit_after rules whole rows [] are fit = tt
fit_after rules whole rows (c ∷ changes) are fit =
    fit_on rules c changes whole rows (λ more cut. fit_after rules (changed_in whole c) more changes cut fit.1) are fit.0 (is_left rules (key_of c.row)) refl

-- ---- the depot

mapped : (rules : List FilterRule) (o : Option Record) → option_map unplaced (option_map (cut_row rules) o) ≡ option_map (cut_row rules) (option_map unplaced o)
mapped rules None = refl
mapped rules (Some r) = ap (λ (x : Record). Some x) (unplaced_cut rules r)

cut_unplaced : (rules : List FilterRule) (b : Bool) (o : Option Record) → option_map unplaced (cond b (option_map (cut_row rules) o) None) ≡ cond b (option_map (cut_row rules) (option_map unplaced o)) None
cut_unplaced rules true o = mapped rules o
cut_unplaced rules false o = refl

pub depot_rows : (rules : List FilterRule) (whole rows : AllRows) (d : List Deed) → AreCut rules whole rows → IsTrue (list_all has_paths d) →
    ((table : TableId) → HasRows whole d table) → (table : TableId) → HasRows rows (cut rules d) table
depot_rows rules whole rows d are paths has table key of =
    let here : unplaced_at (rows (key_table key)) key ≡ record_of (cut rules d) key =
    ap (option_map unplaced) (are key)
    ∙ cut_unplaced rules (is_left rules key) (row_in whole key)
    ∙ ap (λ (o : Option Record). cond (is_left rules key) (option_map (cut_row rules) o) None) (has (key_table key) key refl)
    ∙ sym (rows_cut rules d paths key) in
    subst (λ (t : TableId). unplaced_at (rows t) key ≡ record_of (cut rules d) key) of here
