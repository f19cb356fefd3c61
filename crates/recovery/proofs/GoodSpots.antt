-- Spots that are good in all rows, and the damage that one is not.
use Rattle.std.proofs.Common.{◌≡◌, ℕ, ◌+◌, ◌≤◌, max, Bool, true, false, cond, Some, inl, inr, List, [], ◌∷◌, ◌++◌, length, Err, refl, sym, ◌∙◌, ap, subst, arith, append_assoc}
use Rattle.std.proofs.lemmas.List.{append-nil}
use Rattle.outside_api.specs.Disk.{Files}
use Rattle.depot_rows.specs.db_records.declared.record.Record.{Record}
use Rattle.depot_rows.specs.db_records.declared.record.Record.TheVariants.{Rev}
use Rattle.depot_rows.specs.db_records.declared.rows.RevRecord.{RevRecord}
use Rattle.depot_rows.specs.db_records.declared.key.Key.{Key}
use Rattle.depot_rows.specs.depot_model.Records.{digest}
use Rattle.depot_rows.specs.table_store.Rows.{is_at, row_at}
use Rattle.recovery.specs.declared.fault.DepotDisk.TheVariants.{Journal, Archive}
use Rattle.recovery.specs.declared.fault.OpenFault.{OpenFault}
use Rattle.recovery.specs.declared.fault.OpenFault.TheVariants.{Unmade, Damaged, DiskFault, Memory}
use Rattle.recovery.specs.Faults.{SaysNothing, IsOfArchive, IfDamaged}
use Rattle.recovery.specs.Holding.{spot_end, spots_end}
use Rattle.recovery.specs.Contents.{IsWhole, AreWhole, IsBadSpot, IsBadAt, IsSpotDamage}

-- a row that is whole has no bad spot
whole_spot : (file : List ℕ) (row : RevRecord) → IsWhole file (Rev row) → row.at + row.length ≤ length file → IsBadSpot file row → ⊥
whole_spot file row whole within (inl behind) = omega (arith, within, behind)
whole_spot file row whole within (inr other) =
    let has = whole other.0 in
    other.1 (has.digested ∙ ap digest (sym has.there.is))

pub whole_row : (file : List ℕ) (row : Record) (place : ℕ) → IsWhole file row → spot_end row ≤ length file → IsBadAt file row place → ⊥
whole_row file (Rev row) place whole within bad = whole_spot file row whole within bad.1
whole_row file _ place whole within bad = absurd bad

-- a row of some that are whole, and where its spot ends
pub whole_at : (file : List ℕ) (front : List Record) (row : Record) (after : List Record) → AreWhole file (front ++ row ∷ after) → IsWhole file row
whole_at file [] row after whole = whole.0
whole_at file (r ∷ front) row after whole = whole_at file front row after whole.1

pub end_at : (front : List Record) (row : Record) (after : List Record) → spot_end row ≤ spots_end (front ++ row ∷ after)
end_at [] row after = omega arith
end_at (r ∷ front) row after = let later = end_at front row after in omega (arith, later)

-- a row that stands at a key
pub row_end : (rows : List Record) (key : Key) (row : Record) → row_at key rows ≡ Some row → spot_end row ≤ spots_end rows
row_end [] key row e = absurd cc
row_end (x ∷ rows) key row e = go (is_at key x) e (row_end rows key row)
  where
    go : (b : Bool) → cond b (Some x) (row_at key rows) ≡ Some row → (row_at key rows ≡ Some row → spot_end row ≤ spots_end rows) → spot_end row ≤ max (spot_end x) (spots_end rows)
    go true e rest = let one : x ≡ row = cc in let same : spot_end x ≡ spot_end row = ap spot_end one in omega (arith, same)
    go false e rest = let le = rest e in omega (arith, le)

never_bad : (file : List ℕ) (rows : List Record) (place : ℕ) → AreWhole file rows → spots_end rows ≤ length file → IsSpotDamage file rows place → ⊥
never_bad file rows place whole within bad =
    let end : spot_end bad.row ≤ spots_end rows = subst (λ (l : List Record). spot_end bad.row ≤ spots_end l) (sym bad.parts) (end_at bad.front bad.row bad.after) in
    whole_row file bad.row place (whole_at file bad.front bad.row bad.after (subst (AreWhole file) bad.parts whole)) (omega (arith, end, within)) bad.bad

-- where all spots are good no damage is told
pub nothing_bad : (X : Type 0) (file : List ℕ) (rows : List Record) (fault : OpenFault) → AreWhole file rows → spots_end rows ≤ length file → IsOfArchive fault → IfDamaged {X = X} (Err fault) (IsSpotDamage file rows) → SaysNothing fault
nothing_bad X file rows Unmade whole within of damaged = absurd of
nothing_bad X file rows (Damaged Journal found place) whole within of damaged = absurd of
nothing_bad X file rows (Damaged Archive found place) whole within of damaged = absurd (never_bad file rows place whole within damaged)
nothing_bad X file rows DiskFault whole within of damaged = tt
nothing_bad X file rows Memory whole within of damaged = tt

-- the rows that were checked, and those that are left
pub record AreChecked (seen : Files → Type 0) (limit : ℕ) (rows left : List Record) (end : ℕ) : Type 0 where
  pub done : List Record
  pub parts : rows ≡ done ++ left
  pub end_is : end ≡ spots_end done
  pub within : end ≤ limit
  pub whole : (files : Files) → seen files → limit ≡ length (files 0) → AreWhole (files 0) done

end_more : (rows : List Record) (row : Record) → spots_end (rows ++ row ∷ []) ≡ max (spots_end rows) (spot_end row)
end_more [] row = omega arith
end_more (r ∷ rows) row = let more = end_more rows row in omega (arith, more)

pub whole_more : (file : List ℕ) (rows : List Record) (row : Record) → AreWhole file rows → IsWhole file row → AreWhole file (rows ++ row ∷ [])
whole_more file [] row whole one = (one, tt)
whole_more file (r ∷ rows) row whole one = (whole.0, whole_more file rows row whole.1 one)

pub checked_none : (seen : Files → Type 0) (limit : ℕ) (rows left : List Record) → left ≡ rows → AreChecked seen limit rows left 0
checked_none seen limit rows left is = record { done = []; parts = sym is; end_is = refl; within = omega arith; whole = λ files read limit_is. tt }

-- the first of the rows that are left
pub checked_more : (seen : Files → Type 0) (limit : ℕ) (rows left : List Record) (row : Record) (rest : List Record) (end row_end top : ℕ) → AreChecked seen limit rows left end → left ≡ row ∷ rest
    → row_end ≡ spot_end row → row_end ≤ limit → top ≡ max end row_end → ((files : Files) → seen files → limit ≡ length (files 0) → IsWhole (files 0) row) → AreChecked seen limit rows rest top
checked_more seen limit rows left row rest end row_end top checked first is inside top_is whole = record {
  done = checked.done ++ row ∷ [];
  parts = checked.parts ∙ ap (λ (l : List Record). checked.done ++ l) first ∙ sym (append_assoc checked.done (row ∷ []) rest);
  end_is = omega (arith, end_more checked.done row, checked.end_is, is, top_is);
  within = omega (arith, checked.within, inside, top_is);
  whole = λ files read limit_is. whole_more (files 0) checked.done row (checked.whole files read limit_is) (whole files read limit_is);
}

-- where none is left all were checked
pub checked_all : (seen : Files → Type 0) (limit : ℕ) (rows left : List Record) (end : ℕ) → AreChecked seen limit rows left end → left ≡ []
    → (end ≡ spots_end rows) × ((files : Files) → seen files → limit ≡ length (files 0) → AreWhole (files 0) rows)
checked_all seen limit rows left end checked none =
    let all : rows ≡ checked.done = checked.parts ∙ ap (λ (l : List Record). checked.done ++ l) none ∙ append-nil checked.done in
    (checked.end_is ∙ ap spots_end (sym all), λ files read limit_is. subst (AreWhole (files 0)) (sym all) (checked.whole files read limit_is))

-- damage of the first of them
pub checked_bad : (seen : Files → Type 0) (limit : ℕ) (rows left : List Record) (row : Record) (rest : List Record) (end : ℕ) (files : Files) (place : ℕ) → AreChecked seen limit rows left end → left ≡ row ∷ rest
    → seen files → limit ≡ length (files 0) → IsBadAt (files 0) row place → IsSpotDamage (files 0) rows place
checked_bad seen limit rows left row rest end files place checked first read limit_is bad = record {
  front = checked.done;
  row = row;
  after = rest;
  parts = checked.parts ∙ ap (λ (l : List Record). checked.done ++ l) first;
  whole = checked.whole files read limit_is;
  within = omega (arith, checked.within, checked.end_is, limit_is);
  bad = bad;
}
