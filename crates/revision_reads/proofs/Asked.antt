-- The rows of a revision and of its change tell which change made it and when.
use Rattle.std.proofs.Common.{◌≡◌, ℕ, suc, ◌+◌, ◌-◌, ◌<◌, Bool, true, false, List, [], ◌∷◌, ◌++◌, Option, Some, None, Ok, refl, sym, ap, ◌∙◌, append_assoc, arith}
use Rattle.std.specs.Prelude.{filter, if◌then◌else◌, option_map}
use Rattle.std.specs.List.{range_with_len}
use Rattle.depot_rows.specs.depot_path.Path.{path_of, printed}
use Rattle.depot_rows.specs.db_records.declared.record.Record.TheVariants.{Change}
use Rattle.depot_rows.specs.db_records.declared.rows.ChangeRecord.{ChangeRecord}
use Rattle.depot_rows.specs.db_records.declared.rows.RevRecord.{RevRecord}
use Rattle.depot_rows.specs.depot_model.Deeds.{Deed}
use Rattle.depot_rows.specs.depot_model.Records.{change_record, rev_record}
use Rattle.depot_rows.specs.depot_model.Revisions.{Revision, revision}
use Rattle.depot_rows.specs.depot_model.Rules.{IsSound}
use Rattle.revision_reads.specs.History.{seen}
use Rattle.revision_reads.specs.Range.{change_by, moment_by}
use Rattle.revision_reads.proofs.Landed.{change_row}
use Rattle.revision_reads.proofs.Seen.{one_seen, seen_field}

pub change_told : (n : ℕ) (row : Option RevRecord) (found : Option Revision) → option_map seen row ≡ option_map (rev_record n) found
    → option_map (λ (r : RevRecord). r.change) row ≡ change_by found
change_told n None None e = refl
change_told n (Some r) None e = absurd cc
change_told n None (Some r) e = absurd cc
change_told n (Some r) (Some made) e = ap Some (seen_field (λ (x : RevRecord). x.change) r (rev_record n made) (one_seen (seen r) (rev_record n made) e))

moment_there : (row : Option ChangeRecord) (c : ChangeRecord) → option_map (λ r. Change r) row ≡ Some (Change c) → option_map (λ (r : ChangeRecord). r.moment) row ≡ Some c.moment
moment_there None c e = absurd cc
moment_there (Some r) c e = let one : r ≡ c = cc in ap (λ (x : ChangeRecord). Some x.moment) one

-- the row of a revision's change tells its moment
pub moment_told : (d : List Deed) (path : List ℕ) (own : path_of (printed path) ≡ Ok path) → IsSound d → (n change : ℕ) (row : Option ChangeRecord)
    → Some change ≡ change_by (revision d path n) → option_map (λ r. Change r) row ≡ change_record d change
    → option_map (λ (r : ChangeRecord). r.moment) row ≡ moment_by (revision d path n)
moment_told d path own sound n change row made e = go (revision d path n) refl made
  where
    go : (found : Option Revision) → revision d path n ≡ found → Some change ≡ change_by found → option_map (λ (r : ChangeRecord). r.moment) row ≡ moment_by found
    go None f m = absurd cc
    go (Some r) f m =
        let is : change ≡ r.landing.change = cc in
        moment_there row _ (e ∙ ap (change_record d) is ∙ change_row d path own sound n r f)

pub no_moment : (found : Option Revision) → None ≡ change_by found → None ≡ moment_by found
no_moment None e = refl
no_moment (Some r) e = absurd cc

-- one more number of a range
pub one_further : (test : ℕ → Bool) (before after all : List ℕ) (n last : ℕ) → n < last → after ≡ before ++ (if test (n + 1) then (n + 1) ∷ [] else [])
    → before ++ filter test (range_with_len (n + 1) (last - n)) ≡ all → after ++ filter test (range_with_len (n + 1 + 1) (last - (n + 1))) ≡ all
one_further test before after all n last low e is =
    ap (λ (l : List ℕ). l ++ filter test (range_with_len (n + 1 + 1) (last - (n + 1)))) e
    ∙ append_assoc before (if test (n + 1) then (n + 1) ∷ [] else []) (filter test (range_with_len (n + 1 + 1) (last - (n + 1))))
    ∙ ap (λ (l : List ℕ). before ++ l) (kept (test (n + 1)) (filter test (range_with_len (n + 1 + 1) (last - (n + 1)))))
    ∙ ap (λ (k : ℕ). before ++ filter test (range_with_len (n + 1) k)) (sym (left n last low))
    ∙ is
  where
    left : (m k : ℕ) → m < k → k - m ≡ suc (k - (m + 1))
    left m k h = omega (arith, h)

    kept : (b : Bool) (rest : List ℕ) → (if b then (n + 1) ∷ [] else []) ++ rest ≡ (if b then (n + 1) ∷ rest else rest)
    kept true rest = refl
    kept false rest = refl
