-- The depot of the changes below a number, with what they made.
use Rattle.std.proofs.Common.{◌≡◌, ◌≢◌, ◌≤◌, ◌<◌, ◌⊎◌, ℕ, suc, Bool, true, false, List, [], ◌∷◌, Option, Some, None, inl, inr, refl, sym, ap, subst, ◌∙◌, arith}
use Rattle.std.specs.Prelude.{◌==◌, max, codes, if◌then◌else◌, nat_lt, is_some, IsSome, IsSomeAnd, Contains}
use Rattle.std.proofs.lemmas.Bool.Decides.{nat_tests}
use Rattle.std.proofs.Math.Nat.{max-eq_right}
use Rattle.depot_rows.specs.depot_path.Bytes.{same}
use Rattle.depot_rows.specs.db_records.Record.{key_of}
use Rattle.depot_rows.specs.db_records.declared.key.Key.{Key}
use Rattle.depot_rows.specs.db_records.declared.key.Key.TheVariants as keys
use Rattle.depot_rows.specs.db_records.declared.record.Record.{Record}
use Rattle.depot_rows.specs.db_records.declared.record.Record.TheVariants as records
use Rattle.depot_rows.specs.db_records.declared.rows.ChangeRecord.{ChangeRecord}
use Rattle.depot_rows.specs.depot_model.Deeds as model
use Rattle.depot_rows.specs.depot_model.Numbers.{top, landings}
use Rattle.depot_rows.specs.depot_model.Records.{record_of, numbered_record}
use Rattle.depot_rows.specs.depot_model.Rules.{Rows, IsSubmitted, IsPaired, IsOneOf, change_of, top_in, value_of, is_kept_name}
use Rattle.depot_rows.specs.Effects.{counter_row}
use Rattle.depot_rows.proofs.ChangeCounter.{change_key, top_as}
use Rattle.depot_rows.proofs.Keys.{same-is, number-is, number-self}
use Rattle.depots_of_rows.specs.Telling.{Contents}
use Rattle.depots_of_rows.proofs.Given.{Given, row_keeps}
use Rattle.depots_of_rows.proofs.Side.{Built}
use Rattle.depots_of_rows.proofs.Revised.{submitted_by, made_there}
use Rattle.depots_of_rows.proofs.Credits.{integed_at, integed_is}
use Rattle.depots_of_rows.proofs.Words.{either_true, numbered_some}

-- the keys of changes below a number, of what they made, and of their counter
abbrev pub before : Rows → ℕ → Key → Bool
before rows c (keys.Counter name) = same name (codes "change")
before rows c (keys.Change n) = nat_lt n c
before rows c (keys.Rev text n) = nat_lt (change_of (rows (keys.Rev text n))) c
before rows c (keys.Integed to from a b x y how change) = nat_lt change c
before rows c _ = false

pub record Stage (rows : Rows) (contents : Contents) (c : ℕ) (d : List model.Deed) : Type 0 where
  pub built : Built rows contents (before rows c) d
  pub top_is : top d ≡ top_in rows
  pub below : (m : model.Landing) → Contains (landings d) m → m.change < c

-- ---- numbers

pub less : (i j : ℕ) → nat_lt i j ≡ true → i < j
less i j h = grind (arith, nat_tests)

pub is_less : (i j : ℕ) → i < j → nat_lt i j ≡ true
is_less i j h = grind (arith, nat_tests)

pub never_less : (i j : ℕ) → i ≡ j → nat_lt i j ≡ false
never_less i j h = grind (arith, nat_tests)

less_next : (i c : ℕ) → i ≢ c → nat_lt i c ≡ nat_lt i (suc c)
less_next i c apart = go (nat_lt i c) refl (nat_lt i (suc c)) refl
  where
    more : (j k : ℕ) → nat_lt j k ≡ false → k ≤ j
    more j k h = grind (arith, nat_tests)

    go : (x : Bool) → nat_lt i c ≡ x → (y : Bool) → nat_lt i (suc c) ≡ y → x ≡ y
    go true h true k = refl
    go false h false k = refl
    go true h false k = let a = less i c h in let b = more i (suc c) k in absurd (omega (arith, a, b))
    go false h true k = let a = more i c h in let b = less i (suc c) k in absurd (apart (omega (arith, a, b)))

-- what is there up to a number is what is there below it, where nothing is at it
pub next_same : (o : Option Record) (i c : ℕ) → (i ≡ c → o ≡ None) → (if nat_lt i c then o else None) ≡ (if nat_lt i (suc c) then o else None)
next_same o i c none = go (i == c) refl
  where
    empty : (x : Bool) (p : Option Record) → p ≡ None → (if x then p else None) ≡ None
    empty true p e = e
    empty false p e = refl

    go : (x : Bool) → (i == c) ≡ x → (if nat_lt i c then o else None) ≡ (if nat_lt i (suc c) then o else None)
    go true e = let h = none (number-is i c e) in empty (nat_lt i c) o h ∙ sym (empty (nat_lt i (suc c)) o h)
    go false e = ap (λ (b : Bool). if b then o else None) (less_next i c (λ one.
        let two : true ≡ false = sym (number-self c) ∙ ap (λ (j : ℕ). j == c) (sym one) ∙ e in
        cc))

-- what a submitted change adds to what is there below it
abbrev pub or_else : Option Record → Option Record → Option Record
or_else found there = elim found [ None ↦ there | Some r ↦ Some r ]

module _ (rows : Rows) (contents : Contents) (g : Given rows contents) where
  pub top_row : rows change_key ≡ numbered_record (counter_row (codes "change")) (top_in rows)
  top_row = go (rows change_key) refl
    where
      valued : (r : Record) → rows change_key ≡ Some r → key_of r ≡ change_key → Some r ≡ numbered_record (counter_row (codes "change")) (value_of (Some r))
      valued (records.Counter x) e k =
          let named : x.name ≡ codes "change" = cc in
          let kept : 1 ≤ x.value = (row_keeps rows g.keep change_key (records.Counter x) e).1 (ap is_kept_name named) in
          ap (λ (t : List ℕ). Some (counter_row t x.value)) named ∙ sym (numbered_some (counter_row (codes "change")) x.value kept)
      valued (records.Group x) e k = absurd cc
      valued (records.Protect x) e k = absurd cc
      valued (records.Domain x) e k = absurd cc
      valued (records.Have x) e k = absurd cc
      valued (records.Label x) e k = absurd cc
      valued (records.Integed x) e k = absurd cc
      valued (records.Resolve x) e k = absurd cc
      valued (records.Working x) e k = absurd cc
      valued (records.Change x) e k = absurd cc
      valued (records.Rev x) e k = absurd cc

      go : (o : Option Record) → rows change_key ≡ o → o ≡ numbered_record (counter_row (codes "change")) (value_of o)
      go None e = refl
      go (Some r) e = valued r e (g.keyed change_key r e)

  pub counter_is : (d : List model.Deed) → top d ≡ top_in rows → record_of d change_key ≡ rows change_key
  counter_is d e = top_as d ∙ ap (numbered_record (counter_row (codes "change"))) e ∙ sym top_row

  pub top_stays : (d : List model.Deed) (c : ℕ) → top d ≡ top_in rows → c ≤ top_in rows → max c (top d) ≡ top_in rows
  top_stays d c e low = ap (max c) e ∙ max-eq_right low

  -- ---- changes

  pub record ChangeAt (n : ℕ) : Type 0 where
    pub row : ChangeRecord
    pub is : rows (keys.Change n) ≡ Some (records.Change row)
    pub number : row.change ≡ n
    pub status : (row.status ≡ codes "pending") ⊎ (row.status ≡ codes "submitted")

  pub change_at : (n : ℕ) (r : Record) → rows (keys.Change n) ≡ Some r → ChangeAt n
  change_at n r e = go r e (g.keyed (keys.Change n) r e)
    where
      status_of : (word : List ℕ) → IsOneOf (codes "pending" ∷ codes "submitted" ∷ []) word → (word ≡ codes "pending") ⊎ (word ≡ codes "submitted")
      status_of word e = first (either_true (same word (codes "pending")) _ e)
        where
          second : (same word (codes "submitted") ≡ true) ⊎ (false ≡ true) → (word ≡ codes "pending") ⊎ (word ≡ codes "submitted")
          second (inl h) = inr (same-is word (codes "submitted") h)
          second (inr h) = absurd cc

          first : (same word (codes "pending") ≡ true) ⊎ (IsOneOf (codes "submitted" ∷ []) word) → (word ≡ codes "pending") ⊎ (word ≡ codes "submitted")
          first (inl h) = inl (same-is word (codes "pending") h)
          first (inr h) = second (either_true (same word (codes "submitted")) false h)

      go : (r : Record) → rows (keys.Change n) ≡ Some r → key_of r ≡ keys.Change n → ChangeAt n
      go (records.Change x) e k =
          let rule = row_keeps rows g.keep (keys.Change n) (records.Change x) e in
          record {
            row = x;
            is = e;
            number = cc;
            status = status_of x.status rule.0;
          }
      go (records.Counter x) e k = absurd cc
      go (records.Group x) e k = absurd cc
      go (records.Protect x) e k = absurd cc
      go (records.Domain x) e k = absurd cc
      go (records.Have x) e k = absurd cc
      go (records.Label x) e k = absurd cc
      go (records.Integed x) e k = absurd cc
      go (records.Resolve x) e k = absurd cc
      go (records.Working x) e k = absurd cc
      go (records.Rev x) e k = absurd cc

  -- integration rows are of submitted changes
  pub paired_by : (to from : List ℕ) (a b x y : ℕ) (how : List ℕ) (change : ℕ) → IsSome (rows (keys.Integed to from a b x y how change))
      → IsSomeAnd (rows (keys.Change change)) IsSubmitted
  paired_by to from a b x y how change has =
      go (row_keeps rows g.keep (keys.Integed to from a b x y how change) (records.Integed (integed_at to from a b x y how change))
      (integed_is rows contents g to from a b x y how change has)).4
    where
      by_rev : (text : List ℕ) (n : ℕ) → IsSome (rows (keys.Rev text n)) × (change_of (rows (keys.Rev text n)) ≡ change) → IsSomeAnd (rows (keys.Change change)) IsSubmitted
      by_rev text n h = subst (λ (c : ℕ). IsSomeAnd (rows (keys.Change c)) IsSubmitted) h.1 (submitted_by rows contents g text n h.0)

      go : IsPaired rows (integed_at to from a b x y how change) → IsSomeAnd (rows (keys.Change change)) IsSubmitted
      go (how, inl credit) = by_rev to y (made_there rows contents g to y change credit.2)
      go (how, inr credited) = by_rev from b (made_there rows contents g from b change credited.2)

  -- ---- where no change of a number was submitted, nothing was made in it

  module _ (c : ℕ) (unsubmitted : IsSomeAnd (rows (keys.Change c)) IsSubmitted → ⊥) where
    pub no_rev : (text : List ℕ) (n : ℕ) → change_of (rows (keys.Rev text n)) ≡ c → rows (keys.Rev text n) ≡ None
    no_rev text n e = go (rows (keys.Rev text n)) refl
      where
        go : (o : Option Record) → rows (keys.Rev text n) ≡ o → o ≡ None
        go None k = refl
        go (Some r) k = absurd (unsubmitted (subst (λ (i : ℕ). IsSomeAnd (rows (keys.Change i)) IsSubmitted) e (submitted_by rows contents g text n (ap is_some k))))

    pub no_pair : (to from : List ℕ) (a b x y : ℕ) (how : List ℕ) (change : ℕ) → change ≡ c → rows (keys.Integed to from a b x y how change) ≡ None
    no_pair to from a b x y how change e = go (rows (keys.Integed to from a b x y how change)) refl
      where
        go : (o : Option Record) → rows (keys.Integed to from a b x y how change) ≡ o → o ≡ None
        go None k = refl
        go (Some r) k = absurd (unsubmitted (subst (λ (i : ℕ). IsSomeAnd (rows (keys.Change i)) IsSubmitted) e (paired_by to from a b x y how change (ap is_some k))))
