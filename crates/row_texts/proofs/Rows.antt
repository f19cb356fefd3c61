-- Each row of a sound depot whose numbers a text may say has a text.
use Rattle.std.proofs.Common.{◌≡◌, ◌≤◌, ℕ, zero, suc, Bool, true, false, List, [], Option, Some, refl, ap, subst, inl, inr, arith}
use Rattle.std.proofs.lemmas.Bool.Decides.{nat_tests}
use Rattle.std.specs.Prelude.{◌&&◌, not, IfSome, is_some}
use Rattle.std.proofs.lemmas.Bool.{and_parts}
use Rattle.depot_rows.specs.db_records.Record.{key_of}
use Rattle.depot_rows.specs.db_records.declared.record.Record.{Record}
use Rattle.depot_rows.specs.db_records.declared.record.Record.TheVariants as rows
use Rattle.depot_rows.specs.db_records.declared.rows.IntegedRecord.{IntegedRecord}
use Rattle.depot_rows.specs.db_records.declared.rows.RevRecord.{RevRecord}
use Rattle.depot_rows.specs.db_records.declared.rows.WorkingRecord.{WorkingRecord}
use Rattle.record_text.specs.Grammar.{AllFit, IsRecord, largest_count, largest_wide}
use Rattle.record_text.specs.Layout.{is_move, kinds_of, rev_parts, working_parts}
use Rattle.depot_rows.specs.depot_model.Deeds.{Deed}
use Rattle.depot_rows.specs.depot_model.Records.{line_record, record_of, unplaced}
use Rattle.depot_rows.specs.depot_model.Rules.{IsSound, IsRow, IsMoved, is_move_word}
use Rattle.row_texts.specs.Texts.{IsOf64Bits, is_count, is_counted}

is_there : (o : Option Record) (row : Record) → o ≡ Some row → is_some o ≡ true
is_there o row e = ap is_some e

-- ---- lines

-- lines have numbers from 1 on
line_positive : (d : List Deed) (n : ℕ) → is_some (line_record d n) ≡ true → 1 ≤ n
line_positive d zero e = absurd cc
line_positive d (suc n) e = omega arith

-- ---- moves

no_other : (action moved : List ℕ) → IsMoved action moved → is_move action ≡ false → moved ≡ []
no_other action moved (inl both) e = absurd (let clash : is_move_word action ≡ false = e in let is : is_move_word action ≡ true = both.0 in cc)
no_other action moved (inr both) e = both.1

-- ---- numbers

low : (n : ℕ) → is_count n ≡ true → n ≤ largest_count
low n e = grind (arith, nat_tests)

count : (n : ℕ) → is_count n ≡ true → (0 ≤ n) × (n ≤ largest_count)
count n e = (omega arith, low n e)

-- ---- rows

module _ (r : WorkingRecord) (counted : is_counted (rows.Working r) ≡ true) where
  four : ((is_count r.base && is_count r.change && is_count r.lock) ≡ true) × (is_count r.source_rev ≡ true)
  four = and_parts (is_count r.base && is_count r.change && is_count r.lock) (is_count r.source_rev) counted

  three : ((is_count r.base && is_count r.change) ≡ true) × (is_count r.lock ≡ true)
  three = and_parts (is_count r.base && is_count r.change) (is_count r.lock) four.0

  pair : (is_count r.base ≡ true) × (is_count r.change ≡ true)
  pair = and_parts (is_count r.base) (is_count r.change) three.0

  working_fits : (b : Bool) → is_move r.action ≡ b → AllFit (kinds_of (working_parts b r).0) (working_parts b r).1
  working_fits true e = (
    refl,
    (refl, (count r.base pair.0, (e, (refl, (count r.change pair.1, (count r.lock three.1, (refl, (count r.source_rev four.1, (refl, tt))))))))),
  )
  working_fits false e = (
    refl,
    (refl, (count r.base pair.0, (ap not e, (refl, (count r.change pair.1, (count r.lock three.1, (refl, (count r.source_rev four.1, tt)))))))),
  )

module _ (r : RevRecord) (typed : (r.length ≤ largest_wide) × (r.at ≤ largest_wide)) (rev : is_count r.rev ≡ true) (change : is_count r.change ≡ true) where
  rev_fits : (b : Bool) → is_move r.action ≡ b → AllFit (kinds_of (rev_parts b r).0) (rev_parts b r).1
  rev_fits true e = (refl, (count r.rev rev, (count r.change change, (e, (refl, (refl, ((omega arith, typed.0), ((omega arith, typed.1), (refl, tt)))))))))
  rev_fits false e = (refl, (count r.rev rev, (count r.change change, (ap not e, (refl, (refl, ((omega arith, typed.0), ((omega arith, typed.1), tt))))))))

integrated_fits : (r : IntegedRecord) → is_counted (rows.Integed r) ≡ true → IsRecord (rows.Integed r)
integrated_fits r counted =
    let all = and_parts (is_count r.start_from && is_count r.end_from && is_count r.start_to && is_count r.end_to) (is_count r.change) counted in
    let ends = and_parts (is_count r.start_from && is_count r.end_from && is_count r.start_to) (is_count r.end_to) all.0 in
    let starts = and_parts (is_count r.start_from && is_count r.end_from) (is_count r.start_to) ends.0 in
    let from = and_parts (is_count r.start_from) (is_count r.end_from) starts.0 in (
      (
        refl,
        (
          refl,
          (
            count r.start_from from.0,
            (count r.end_from from.1, (count r.start_to starts.1, (count r.end_to ends.1, (refl, (count r.change all.1, tt))))),
          ),
        ),
      ),
      tt,
    )

module _ (d : List Deed) (sound : IsSound d) where
  row_fits : (row : Record) → record_of d (key_of row) ≡ Some (unplaced row) → IsRow (record_of d) (unplaced row) → IsOf64Bits row
      → is_counted row ≡ true → IsRecord row
  row_fits (rows.Counter r) e h typed counted = ((refl, ((omega arith, typed), tt)), tt)
  row_fits (rows.Group r) e h typed counted = ((refl, (refl, tt)), tt)
  row_fits (rows.Protect r) e h typed counted =
      let there = is_there (line_record d r.line) (rows.Protect r) e in
      (((line_positive d r.line there, low r.line counted), (refl, (refl, (refl, (refl, (refl, tt)))))), tt)
  row_fits (rows.Domain r) e h typed counted = ((refl, (refl, (refl, tt))), tt)
  row_fits (rows.Have r) e h typed counted = ((refl, (refl, (count r.rev counted, tt))), tt)
  row_fits (rows.Label r) e h typed counted = ((refl, (refl, (count r.rev counted, tt))), tt)
  row_fits (rows.Integed r) e h typed counted = integrated_fits r counted
  row_fits (rows.Resolve r) e h typed counted =
      let both = and_parts (is_count r.first) (is_count r.last) counted in
      ((refl, (refl, (refl, (count r.first both.0, (count r.last both.1, (refl, tt)))))), tt)
  row_fits (rows.Working r) e h typed counted = (working_fits r counted (is_move r.action) refl, no_other r.action r.moved h.7)
  row_fits (rows.Change r) e h typed counted = ((count r.change counted, (refl, (refl, (refl, ((omega arith, typed), (refl, tt)))))), tt)
  row_fits (rows.Rev r) e h typed counted =
      let both = and_parts (is_count r.rev) (is_count r.change) counted in
      (rev_fits r typed both.0 both.1 (is_move r.action) refl, no_other r.action r.moved h.5)

  pub row_has_text : (row : Record) → record_of d (key_of row) ≡ Some (unplaced row) → IsOf64Bits row → is_counted row ≡ true → IsRecord row
  row_has_text row e typed counted =
      row_fits row e (subst (λ (o : Option Record). IfSome o (IsRow (record_of d))) e ((sound.rules).each (key_of row))) typed counted
