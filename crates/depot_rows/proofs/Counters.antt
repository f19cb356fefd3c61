-- Counters after a deed that sets one.
use Rattle.std.proofs.Common.{◌≡◌, ◌≢◌, ℕ, Bool, true, false, List, ◌∷◌, Option, refl, sym, ap, ◌∙◌}
use Rattle.std.specs.Prelude.{codes, if◌then◌else◌, option_map}
use Rattle.std.specs.Option.{option_or, option_flatten}
use Rattle.depot_model.specs.depot_path.Bytes.{same}
use Rattle.depot_model.specs.db_records.declared.key.Key.{Key}
use Rattle.depot_model.specs.db_records.declared.key.Key.TheVariants as keys
use Rattle.depot_model.specs.db_records.declared.record.Record.{Record}
use Rattle.depot_model.specs.Deeds.{Deed, Count}
use Rattle.depot_model.specs.Latest.{latest, when, count_said}
use Rattle.depot_model.specs.Numbers.{top}
use Rattle.depot_model.specs.Records.{record_of}
use Rattle.depot_model.specs.Steps.Counters.{above_zero}
use Rattle.depot_rows.specs.Effects.{counted, counter_row, put_at}
use Rattle.depot_rows.proofs.Keys.{same-is, same-self, same-not, put-is}

abbrev shown : List ℕ → Bool → Option ℕ → Option (Option ℕ) → Option Record
shown name b changes said = option_map (counter_row name) (if b then changes else option_flatten said)

module _ (name : List ℕ) (value : Option ℕ) (d : List Deed) where
  abbrev after : Key → Option Record
  after = record_of (Count name value ∷ d)

  abbrev said : List ℕ → Option (Option ℕ)
  said x = latest (count_said x) d

  -- another counter is as it was
  other : (x : List ℕ) → same name x ≡ false → after (keys.Counter x) ≡ record_of d (keys.Counter x)
  other x apart = ap (λ (b : Bool). shown x (same x (codes "change")) (above_zero (top d)) (option_or (when b value) (said x))) apart

  -- the counter of changes is as it was
  kept : (x : List ℕ) → same x (codes "change") ≡ true → after (keys.Counter x) ≡ record_of d (keys.Counter x)
  kept x is = go (same x (codes "change")) is
    where
      go : (b : Bool) → b ≡ true → shown x b (above_zero (top d)) (option_or (when (same name x) value) (said x)) ≡ shown x b (above_zero (top d)) (said x)
      go true e = refl
      go false e = absurd cc

  -- the counter has the value
  set : same name (codes "change") ≡ false → after (keys.Counter name) ≡ option_map (counter_row name) value
  set free = go (same name (codes "change")) free (same name name) (same-self name)
    where
      go : (b : Bool) → b ≡ false → (e : Bool) → e ≡ true → shown name b (above_zero (top d)) (option_or (when e value) (said name)) ≡ option_map (counter_row name) value
      go true f e h = absurd cc
      go false f false h = absurd cc
      go false f true h = refl

  -- all else is as it was
  elsewhere : (q : Key) → keys.Counter name ≢ q → after q ≡ record_of d q
  elsewhere (keys.Counter x) apart = other x (same-not name x (λ one. apart (ap keys.Counter one)))
  elsewhere _ apart = refl

  kept-all : same name (codes "change") ≡ true → (q : Key) → after q ≡ record_of d q
  kept-all is (keys.Counter x) = go (same name x) refl
    where
      go : (b : Bool) → same name x ≡ b → after (keys.Counter x) ≡ record_of d (keys.Counter x)
      go true e = kept x (ap (λ (y : List ℕ). same y (codes "change")) (sym (same-is name x e)) ∙ is)
      go false e = other x e
  kept-all is _ = refl

  pub count-met : (q : Key) → after q ≡ counted name value (record_of d) q
  count-met q = go (same name (codes "change")) refl
    where
      go : (b : Bool) → same name (codes "change") ≡ b
          → after q ≡ (if b then record_of d q else put_at (keys.Counter name) (option_map (counter_row name) value) (record_of d) q)
      go true e = kept-all e q
      go false e = put-is (keys.Counter name) (option_map (counter_row name) value) (record_of d) after q (λ one. ap after (sym one) ∙ set e) (elsewhere q)
