-- Deeds that commands give, and that may follow.
use Rattle.std.proofs.Common.{◌≡◌, ◌⊎◌, ◌<◌, ◌≤◌, ℕ, Bool, true, false, List, Option, Some, None, inl, inr, refl, ap, ◌∙◌, arith}
use Rattle.std.specs.Prelude.{if◌then◌else◌, IsSome, is_some}
use Rattle.depot_model.specs.depot_path.Path.{is_path}
use Rattle.depot_model.specs.db_records.declared.key.Key.TheVariants as keys
use Rattle.depot_model.specs.db_records.declared.record.Record.{Record}
use Rattle.depot_model.specs.Deeds as model
use Rattle.depot_model.specs.Numbers.{pending, landing, top}
use Rattle.depot_model.specs.Opened.{holder}
use Rattle.depot_model.specs.Records.{record_of}
use Rattle.depot_model.specs.Rules.{IsSound, top_in}
use Rattle.depot_rows.specs.declared.deed.Held.{Held}
use Rattle.depot_rows.specs.Effects.{IsFree, is_submitted}
use Rattle.depot_rows.proofs.ChangeCounter.{change_of, top_value}
use Rattle.depot_rows.proofs.Locks.{lock_number}
use Rattle.depot_rows.proofs.Openings.{lock_shown}

-- a change above all others has no row
pub new_change : (d : List model.Deed) (n : ℕ) → IsSound d → top d < n → is_submitted (record_of d (keys.Change n)) ≡ false
new_change d n sound above = go (record_of d (keys.Change n)) refl
  where
    go : (row : Option Record) → record_of d (keys.Change n) ≡ row → is_submitted row ≡ false
    go None e = refl
    go (Some r) e = absurd (
        let at_most : n ≤ top_in (record_of d) = sound.rules.top_is n (ap is_some e) in
        let value : top_in (record_of d) ≡ top d = top_value d in
        omega (arith, at_most, value, above))

-- a change that hasn't landed
pub unlanded_change : (d : List model.Deed) (n : ℕ) → landing d n ≡ None → is_submitted (record_of d (keys.Change n)) ≡ false
unlanded_change d n none = ap (λ (l : Option model.Landing). is_submitted (change_of (pending d n) l)) none ∙ go (pending d n)
  where
    go : (p : Option model.Pending) → is_submitted (change_of p None) ≡ false
    go None = refl
    go (Some p) = refl

-- the row of a pending change is that of one
pub pending_change : (d : List model.Deed) (n : ℕ) → IsSome (pending d n) → is_submitted (record_of d (keys.Change n)) ≡ false
pending_change d n there = go (pending d n) there
  where
    go : (p : Option model.Pending) → IsSome p → is_submitted (change_of p (landing d n)) ≡ false
    go None h = absurd cc
    go (Some p) h = refl

-- a file whose lock no other client has
pub free_file : (d : List model.Deed) (held : Held) → is_path held.path ≡ true
    → (holder d held.path ≡ None) ⊎ (holder d held.path ≡ Some held.client) → IsFree held (record_of d)
free_file d held is who client apart = lock_shown d client held.path is ∙ go who
  where
    go : (holder d held.path ≡ None) ⊎ (holder d held.path ≡ Some held.client) → lock_number (holder d held.path) client ≡ 0
    go (inl none) = ap (λ (o : Option (List ℕ)). lock_number o client) none
    go (inr own) = ap (λ (o : Option (List ℕ)). lock_number o client) own ∙ ap (λ (b : Bool). if b then 1 else 0) apart
