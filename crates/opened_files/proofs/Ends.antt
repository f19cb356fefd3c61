-- The two ends of a move, by the rows of their openings.
use Rattle.std.proofs.Common.{◌≡◌, ℕ, Bool, true, false, List, Option, Some, None, refl, sym, ap, ◌∙◌}
use Rattle.std.specs.Prelude.{if◌then◌else◌, option_and_then, option_map}
use Rattle.std.specs.Option.{option_map_or}
use Rattle.std.proofs.lemmas.Option.{same_Some}
use Rattle.depot_rows.specs.depot_path.Bytes.{same}
use Rattle.depot_rows.specs.db_records.declared.record.Record.TheVariants.{Working}
use Rattle.depot_rows.specs.db_records.declared.rows.WorkingRecord.{WorkingRecord}
use Rattle.depot_rows.specs.depot_model.Deeds.{Deed, Opening}
use Rattle.depot_rows.specs.depot_model.Latest.{when}
use Rattle.depot_rows.specs.depot_model.Opened.{named_back, opened, partner}
use Rattle.depot_rows.specs.depot_model.Records.{working_record}
use Rattle.depot_rows.specs.depot_model.Rules.{IsSound}
use Rattle.depot_rows.proofs.Locks.{opened-is}
use Rattle.opening_reads.specs.Read.{path_in_text}
use Rattle.opening_reads.proofs.Opens.{row_opens}
use Rattle.opened_files.specs.Partners.{end_named, partner_path}

abbrev moved_of : Opening → Option (List ℕ)
moved_of o = o.moved

abbrev path_of_opening : Opening → List ℕ
path_of_opening o = o.path

module _ (d : List Deed) (client path : List ℕ) where
  pub end_told : (row : WorkingRecord) → IsSound d → Some (Working row) ≡ option_map (working_record d) (opened d client path)
      → path_in_text row.moved ≡ end_named d client path
  end_told row sound is = go (opened d client path) refl is
    where
      go : (found : Option Opening) → opened d client path ≡ found → Some (Working row) ≡ option_map (working_record d) found
          → path_in_text row.moved ≡ option_and_then moved_of found
      go None e k = absurd cc
      go (Some o) e k = ap moved_of (row_opens d client path o row None None sound e (same_Some (Working row) (working_record d o) k))

  pub no_end : None ≡ option_map (working_record d) (opened d client path) → None ≡ end_named d client path
  no_end is = go (opened d client path) is
    where
      go : (found : Option Opening) → None ≡ option_map (working_record d) found → None ≡ option_and_then moved_of found
      go None e = refl
      go (Some o) e = absurd cc

  -- the other end where it names the file back, and none where it doesn't
  pub partner_by : (other : List ℕ) (back : Bool) → Some other ≡ end_named d client path → back ≡ option_map_or (same path) (end_named d client other) false
      → (if back then Some other else None) ≡ partner_path d client path
  partner_by other back is named = go (opened d client path) refl is
    where
      go : (found : Option Opening) → opened d client path ≡ found → Some other ≡ option_and_then moved_of found
          → (if back then Some other else None) ≡ option_map path_of_opening (option_and_then (partner d) found)
      go None e k = absurd cc
      go (Some o) e k =
          by (opened d client other) refl back named
          ∙ (λ i. option_map path_of_opening (option_and_then (named_back d (sym (opened-is d client path o e).0 i) (sym (opened-is d client path o e).1 i)) (k i)))
        where
          by : (end : Option Opening) → opened d client other ≡ end → (b : Bool) → b ≡ option_map_or (same path) (option_and_then moved_of end) false
              → (if b then Some other else None) ≡ option_map path_of_opening (elim end as (λ _. Option Opening) [ None ↦ None | Some p ↦ when (option_map_or (same path) p.moved false) p ])
          by None f true n = absurd cc
          by None f false n = refl
          by (Some p) f b n =
              at b
              ∙ ap (λ (t : Bool). option_map path_of_opening (when t p)) n
            where
              at : (t : Bool) → (if t then Some other else None) ≡ option_map path_of_opening (when t p)
              at true = ap (λ (x : List ℕ). Some x) (sym (opened-is d client other p f).1)
              at false = refl
