-- The rows of changes and of revisions, and the figures.
use Rattle.std.proofs.Common.{◌≡◌, ◌≤◌, ◌<◌, ℕ, ◌+◌, min, List, [], ◌∷◌, length, codes, Option, Some, None, refl, ap, sym, ◌∙◌, arith}
use Rattle.std.specs.Prelude.{is_some, IsSome, option_map}
use Rattle.std.specs.List.{sum_by}
use Rattle.std.specs.Option.{option_map_or}
use Rattle.depot_rows.specs.db_records.declared.record.Record.{Record}
use Rattle.depot_rows.specs.db_records.declared.record.Record.TheVariants.{Change, Rev}
use Rattle.depot_rows.specs.db_records.declared.rows.ChangeRecord.{ChangeRecord}
use Rattle.depot_rows.specs.db_records.declared.rows.RevRecord.{RevRecord}
use Rattle.depot_rows.specs.depot_model.Deeds.{Deed, Landing, Pending}
use Rattle.depot_rows.specs.depot_model.Numbers.{landing, pending}
use Rattle.depot_rows.specs.depot_model.Records.{change_record, landed_record, pending_record, rev_record, unplaced}
use Rattle.depot_rows.specs.depot_model.Revisions.{Revision}
use Rattle.depot_rows.specs.depot_model.Rules.{NotBoth}
use Rattle.depot_figures.specs.Figures.{capped, is_landed, size_of, submitted_row}

abbrev record_in : Option Landing → Option Pending → Option Record
record_in l p = elim p as (λ _. Option Record) [ Some x ↦ Some (pending_record x) | None ↦ option_map landed_record l ]

one_row : (a b : Record) → Some a ≡ Some b → a ≡ b
one_row a b e = cc

-- the row of a change says `submitted` exactly where it landed
pub landed_row : (d : List Deed) (n : ℕ) (row : Option ChangeRecord) → NotBoth d → option_map Change row ≡ change_record d n → submitted_row row ≡ is_landed d n
landed_row d n row apart is = go (landing d n) (pending d n) (apart n) row is
  where
    go : (l : Option Landing) (p : Option Pending) → (IsSome p → IsSome l → ⊥) → (row : Option ChangeRecord) → option_map Change row ≡ record_in l p → submitted_row row ≡ is_some l
    go None None apart None e = refl
    go None None apart (Some r) e = absurd cc
    go (Some l) None apart None e = absurd cc
    go (Some l) None apart (Some r) e =
        let is : ChangeRecord = record { change = l.change; status = codes "submitted"; user = l.user; client = l.client; moment = l.moment; text = l.text } in
        let same_row = one_row (Change r) (Change is) e in
        let one : r ≡ is = cc in
        rw one refl
    go None (Some p) apart None e = absurd cc
    go None (Some p) apart (Some r) e =
        let is : ChangeRecord = record { change = p.change; status = codes "pending"; user = p.user; client = p.client; moment = p.moment; text = p.text } in
        let same_row = one_row (Change r) (Change is) e in
        let one : r ≡ is = cc in
        rw one refl
    go (Some l) (Some p) apart row e = absurd (apart refl refl)

-- the row of a revision tells its size
abbrev length_in : Option Record → ℕ
length_in (Some (Rev r)) = r.length
length_in _ = 0

pub size_told : (n : ℕ) (row : Option RevRecord) (r : Option Revision) → option_map (λ row. unplaced (Rev row)) row ≡ option_map (rev_record n) r → option_map_or (λ (row : RevRecord). row.length) row 0 ≡ option_map_or size_of r 0
size_told n row r e = told row ∙ (ap length_in e ∙ sym (made r))
  where
    told : (row : Option RevRecord) → option_map_or (λ (row : RevRecord). row.length) row 0 ≡ length_in (option_map (λ row. unplaced (Rev row)) row)
    told None = refl
    told (Some row) = refl

    sized : (content : Option (List ℕ)) → option_map_or length content 0 ≡ elim content [ None ↦ 0 | Some content ↦ length content ]
    sized None = refl
    sized (Some content) = refl

    made : (r : Option Revision) → option_map_or size_of r 0 ≡ length_in (option_map (rev_record n) r)
    made None = refl
    made (Some r) = sized r.entry.content

-- ---- sums that end at a number

capped_both : (most a b : ℕ) → min (min a most + b) most ≡ min (a + b) most
capped_both most a b = omega arith

pub capped_more : (a b sum more now : ℕ) → sum ≡ capped a → more ≡ b → now ≡ min (sum + more) 18446744073709551615 → now ≡ capped (a + b)
capped_more a b sum more now is more_is now_is = now_is ∙ (rw (is, more_is) (capped_both 18446744073709551615 a b))

ends_within : (most sum whole : ℕ) → sum ≤ most → min whole most ≡ min (sum + 0) most → sum ≡ min whole most
ends_within most sum whole le e = omega arith

-- a sum over a list whose rest is empty
pub ends_at : {A : Type 0} (f : A → ℕ) (sum whole : ℕ) (rest : List A) → length rest < 1 → sum ≤ 18446744073709551615 → capped whole ≡ capped (sum + sum_by f rest) → sum ≡ capped whole
ends_at f sum whole [] short le e = ends_within 18446744073709551615 sum whole le e
ends_at f sum whole (x ∷ rest) short le e = absurd (omega arith)
