-- A file has no more revisions than there are numbers of changes.
use Rattle.std.proofs.Common.{◌≤◌, ◌+◌, ℕ, zero, suc, Bool, true, false, List, Option, Some, None, Result, Ok, Err, refl, arith}
use Rattle.std.specs.Prelude.{IfSome, IsSome, IsSomeAnd, option_map, if◌then◌else◌}
use Rattle.depot_rows.specs.depot_path.Bytes.{same}
use Rattle.depot_rows.specs.depot_path.Path.{path_of, printed}
use Rattle.depot_rows.specs.depot_path.declared.fault.PathFault.{PathFault}
use Rattle.depot_rows.specs.db_records.declared.key.Key.TheVariants as keys
use Rattle.depot_rows.specs.db_records.declared.record.Record.{Record}
use Rattle.depot_rows.specs.db_records.declared.record.Record.TheVariants as records
use Rattle.depot_rows.specs.depot_model.Deeds.{Deed}
use Rattle.depot_rows.specs.depot_model.Records.{record_of, rev_record}
use Rattle.depot_rows.specs.depot_model.Revisions.{Revision, revision}
use Rattle.depot_rows.specs.depot_model.Rules.{IsSound, IsRow, IsSubmitted, HasRev, change_of, top_in}

pub some_and : (P : Record → Type 0) (o : Option Record) → IsSomeAnd o P → IsSome o
some_and P None m = absurd m
some_and P (Some r) m = refl

-- a row at the key of a revision is that of one
abbrev IsRevOrNone : Option Record → Type 0
IsRevOrNone None = Unit {0}
IsRevOrNone (Some (records.Rev r)) = Unit {0}
IsRevOrNone _ = ⊥

rev_or_none : (d : List Deed) (text : List ℕ) (n : ℕ) → IsRevOrNone (record_of d (keys.Rev text n))
rev_or_none d text n = go (path_of text)
  where
    go : (read : Result (List ℕ) PathFault)
        → IsRevOrNone (elim read as (λ _. Option Record) [ Err fault ↦ None | Ok x ↦ if same (printed x) text then option_map (rev_record n) (revision d x n) else None ])
    go (Err fault) = tt
    go (Ok x) = test (same (printed x) text) (revision d x n)
      where
        test : (b : Bool) (o : Option Revision) → IsRevOrNone (if b then option_map (rev_record n) o else None)
        test true None = tt
        test true (Some r) = tt
        test false o = tt

module _ (d : List Deed) (sound : IsSound d) where
  -- a change that is there has at most the greatest number
  pub change_low : (P : Record → Type 0) (n : ℕ) → IsSomeAnd (record_of d (keys.Change n)) P → n ≤ top_in (record_of d)
  change_low P n there = (sound.rules).top_is n (some_and P (record_of d (keys.Change n)) there)

  -- the change of a revision is submitted
  made_in : (text : List ℕ) (n : ℕ) → HasRev (record_of d) text n → IsSomeAnd (record_of d (keys.Change (change_of (record_of d (keys.Rev text n))))) IsSubmitted
  made_in text n h = go (record_of d (keys.Rev text n)) (rev_or_none d text n) h ((sound.rules).each (keys.Rev text n))
    where
      go : (o : Option Record) → IsRevOrNone o → IsSome o → IfSome o (IsRow (record_of d)) → IsSomeAnd (record_of d (keys.Change (change_of o))) IsSubmitted
      go (Some (records.Rev r)) one there k = k.6
      go None one there k = absurd cc
      go (Some (records.Counter r)) one there k = absurd one
      go (Some (records.Group r)) one there k = absurd one
      go (Some (records.Protect r)) one there k = absurd one
      go (Some (records.Domain r)) one there k = absurd one
      go (Some (records.Have r)) one there k = absurd one
      go (Some (records.Label r)) one there k = absurd one
      go (Some (records.Integed r)) one there k = absurd one
      go (Some (records.Resolve r)) one there k = absurd one
      go (Some (records.Working r)) one there k = absurd one
      go (Some (records.Change r)) one there k = absurd one

  made_low : (text : List ℕ) (n : ℕ) → HasRev (record_of d) text n → change_of (record_of d (keys.Rev text n)) ≤ top_in (record_of d)
  made_low text n h = change_low IsSubmitted (change_of (record_of d (keys.Rev text n))) (made_in text n h)

  -- changes rise with revisions, from that of the first on
  risen : (least : ℕ) (text : List ℕ) (k : ℕ) → (HasRev (record_of d) text 1 → least ≤ change_of (record_of d (keys.Rev text 1)))
      → HasRev (record_of d) text (suc k) → k + least ≤ change_of (record_of d (keys.Rev text (suc k)))
  risen least text zero first h = let low = first h in omega (arith, low)
  risen least text (suc k) first h =
      let before = (sound.rules).revisions_run text k h in
      let low = risen least text k first before in
      let next = (sound.rules).changes_rise text (suc k) (suc (suc k)) (omega arith) before h in
      omega (arith, low, next)

  -- there is a revision more than changes have numbers at most, where the first is of change 0
  pub rev_low : (text : List ℕ) (n : ℕ) → HasRev (record_of d) text n → n ≤ suc (top_in (record_of d))
  rev_low text zero h = omega arith
  rev_low text (suc k) h =
      let low = risen 0 text k (λ there. omega arith) h in
      let high = made_low text (suc k) h in
      omega (arith, low, high)
