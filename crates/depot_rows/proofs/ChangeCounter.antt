-- Changes and their counter after a deed that speaks of them.
use Rattle.std.proofs.Common.{◌≡◌, ◌≢◌, ℕ, Bool, true, false, List, ◌∷◌, Option, Some, None, refl, sym, ap, ◌∙◌}
use Rattle.std.specs.Prelude.{◌==◌, max, codes, if◌then◌else◌, option_map, is_some}
use Rattle.std.specs.Option.{option_or, option_flatten}
use Rattle.depot_model.specs.depot_path.Bytes.{same}
use Rattle.depot_model.specs.db_records.declared.key.Key.{Key}
use Rattle.depot_model.specs.db_records.declared.key.Key.TheVariants as keys
use Rattle.depot_model.specs.db_records.declared.record.Record.{Record}
use Rattle.depot_model.specs.Deeds.{Deed, Pend, Drop, Pending, Landing}
use Rattle.depot_model.specs.Latest.{latest, when, count_said}
use Rattle.depot_model.specs.Numbers.{pending, pending_said, landing, top}
use Rattle.depot_model.specs.Records.{record_of, numbered_record, pending_record, landed_record}
use Rattle.depot_model.specs.Rules.{Rows, NotBoth, top_in, value_of}
use Rattle.depot_model.specs.Steps.Counters.{above_zero}
use Rattle.depot_rows.specs.Effects.{put_at, raised, counter_row, is_submitted}
use Rattle.depot_rows.proofs.Keys.{same-not, number-is, number-self, put-is}

-- the row of a change that is pending, or else landed
abbrev pub change_of : Option Pending → Option Landing → Option Record
change_of p l = elim p [ Some x ↦ Some (pending_record x) | None ↦ option_map landed_record l ]

-- ---- the counter of changes

abbrev name : List ℕ
name = codes "change"

abbrev pub change_key : Key
change_key = keys.Counter name

-- a counter's row is of a number above 0
shown_as : (n : ℕ) → option_map (counter_row name) (above_zero n) ≡ numbered_record (counter_row name) n
shown_as n = go (n == 0)
  where
    go : (b : Bool) → option_map (counter_row name) (if b then None else Some n) ≡ (if b then None else Some (counter_row name n))
    go true = refl
    go false = refl

shown_value : (n : ℕ) → value_of (numbered_record (counter_row name) n) ≡ n
shown_value n = go (n == 0) refl
  where
    go : (b : Bool) → (n == 0) ≡ b → value_of (if b then None else Some (counter_row name n)) ≡ n
    go true e = sym (number-is n 0 e)
    go false e = refl

pub top_as : (d : List Deed) → record_of d change_key ≡ numbered_record (counter_row name) (top d)
top_as d = shown_as (top d)

pub top_value : (d : List Deed) → top_in (record_of d) ≡ top d
top_value d = ap value_of (top_as d) ∙ shown_value (top d)

-- the counter is raised, and all else is as in rows whose counter is that before
pub raised_met : (n : ℕ) (d e : List Deed) (before : Rows) → top e ≡ max n (top d) → before change_key ≡ record_of d change_key
    → ((q : Key) → change_key ≢ q → record_of e q ≡ before q) → (q : Key) → record_of e q ≡ raised n before q
raised_met n d e before tops counter elsewhere q =
    put-is change_key (numbered_record (counter_row name) (max n (top_in before))) before (record_of e) q
    (λ one. ap (record_of e) (sym one) ∙ top_as e ∙ ap (numbered_record (counter_row name)) (tops ∙ ap (max n) (sym valued)))
    (elsewhere q)
  where
    valued : top_in before ≡ top d
    valued = ap value_of (counter ∙ top_as d) ∙ shown_value (top d)

-- ---- a change is pending

module _ (p : Pending) (d : List Deed) where
  abbrev pend_key : Key
  pend_key = keys.Change p.change

  abbrev pend_rows : Rows
  pend_rows = put_at pend_key (Some (pending_record p)) (record_of d)

  abbrev pend_row : ℕ → Bool → Option Record
  pend_row n b = change_of (option_flatten (option_or (when b (Some p)) (latest (pending_said n) d))) (landing d n)

  pend_elsewhere : (q : Key) → change_key ≢ q → record_of (Pend p ∷ d) q ≡ pend_rows q
  pend_elsewhere (keys.Change n) apart = put-is pend_key (Some (pending_record p)) (record_of d) (record_of (Pend p ∷ d)) (keys.Change n) here other
    where
      number : Key → ℕ
      number (keys.Change m) = m
      number _ = 0

      here : pend_key ≡ keys.Change n → pend_row n (p.change == n) ≡ Some (pending_record p)
      here one = go (p.change == n) (ap (λ (m : ℕ). p.change == m) (sym (ap number one)) ∙ number-self p.change)
        where
          go : (b : Bool) → b ≡ true → pend_row n b ≡ Some (pending_record p)
          go true e = refl
          go false e = absurd cc

      other : pend_key ≢ keys.Change n → pend_row n (p.change == n) ≡ record_of d (keys.Change n)
      other differ = go (p.change == n) refl
        where
          go : (b : Bool) → (p.change == n) ≡ b → pend_row n b ≡ record_of d (keys.Change n)
          go true e = absurd (differ (ap keys.Change (number-is p.change n e)))
          go false e = refl
  pend_elsewhere (keys.Counter x) apart = go (same x name) (same-not x name (λ one. apart (ap keys.Counter (sym one))))
    where
      shown : Bool → ℕ → Option Record
      shown b n = option_map (counter_row x) (if b then above_zero n else option_flatten (latest (count_said x) d))

      go : (b : Bool) → b ≡ false → shown b (max p.change (top d)) ≡ shown b (top d)
      go true e = absurd cc
      go false e = refl
  pend_elsewhere _ apart = refl

  pub pend_met : (q : Key) → record_of (Pend p ∷ d) q ≡ raised p.change pend_rows q
  pend_met q = raised_met p.change d (Pend p ∷ d) pend_rows refl refl pend_elsewhere q

-- ---- a change is dropped

-- a change that isn't both, and whose row isn't that of a landed one, hasn't landed
pub not_landed : (d : List Deed) (n : ℕ) → NotBoth d → is_submitted (record_of d (keys.Change n)) ≡ false → landing d n ≡ None
not_landed d n apart e = go (pending d n) refl (landing d n) refl e
  where
    go : (p : Option Pending) → pending d n ≡ p → (l : Option Landing) → landing d n ≡ l → is_submitted (change_of p l) ≡ false → l ≡ None
    go p h None k f = refl
    go None h (Some l) k f = absurd cc
    go (Some p) h (Some l) k f = absurd (apart n (ap is_some h) (ap is_some k))

pub drop_met : (n : ℕ) (d : List Deed) → landing d n ≡ None → (q : Key)
    → record_of (Drop n ∷ d) q ≡ put_at (keys.Change n) None (record_of d) q
drop_met n d none q = put-is (keys.Change n) None (record_of d) (record_of (Drop n ∷ d)) q (λ one. ap (record_of (Drop n ∷ d)) (sym one) ∙ here) (elsewhere q)
  where
    row : ℕ → Bool → Option Record
    row m b = change_of (option_flatten (option_or (when b None) (latest (pending_said m) d))) (landing d m)

    gone : (b : Bool) → b ≡ true → row n b ≡ None
    gone true f = ap (option_map landed_record) none
    gone false f = absurd cc

    here : record_of (Drop n ∷ d) (keys.Change n) ≡ None
    here = gone (n == n) (number-self n)

    elsewhere : (q : Key) → keys.Change n ≢ q → record_of (Drop n ∷ d) q ≡ record_of d q
    elsewhere (keys.Change m) differ = go (n == m) refl
      where
        go : (b : Bool) → (n == m) ≡ b → row m b ≡ record_of d (keys.Change m)
        go true f = absurd (differ (ap keys.Change (number-is n m f)))
        go false f = refl
    elsewhere _ differ = refl
