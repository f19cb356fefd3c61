-- The integration records of sound depots with the same rows.
use Rattle.std.proofs.Common.{◌≡◌, Bool, true, false, List, [], ◌∷◌, Some, refl, sym, ap, subst, ◌∙◌}
use Rattle.std.specs.Prelude.{◌||◌, if◌then◌else◌, find, option_map, is_some}
use Rattle.std.specs.List.{list_any}
use Rattle.std.specs.Ordering.{is_lt, is_eq}
use Rattle.std.specs.declared.cmp.Ordering.{Ordering}
use Rattle.std.proofs.lemmas.Cmp.{on_total}
use Rattle.depot_rows.specs.db_records.Key.{key_cmp}
use Rattle.depot_rows.specs.db_records.KeyLaws.{keys_total}
use Rattle.depot_rows.specs.db_records.declared.key.Key.{Key}
use Rattle.depot_rows.specs.db_records.declared.key.Key.TheVariants as keys
use Rattle.depot_rows.specs.db_records.declared.record.Record.TheVariants.{Integed}
use Rattle.depot_rows.specs.db_records.declared.rows.IntegedRecord.{IntegedRecord}
use Rattle.depot_rows.specs.depot_model.Deeds.{Deed}
use Rattle.depot_rows.specs.depot_model.Records.{record_of, integrations, is_at}
use Rattle.depot_rows.specs.depot_model.Steps.History.{integed_inserted, in_key_order}
use Rattle.depot_rows.proofs.Keys.{at-is, at-self}
use Rattle.depot_facts.proofs.Credits.{integed_key}
use Rattle.depots_alike.proofs.Ordered.{IsOrder, has_by, Rise, put, put_rises, has_put}
use Rattle.depots_alike.proofs.Twins.{Twins}

abbrev pub is_same : IntegedRecord → IntegedRecord → Bool
is_same r s = is_at (integed_key r) (integed_key s)

-- a record is what its key says
abbrev record_in : Key → IntegedRecord
record_in (keys.Integed to from a b x y how change) =
    record { to_file = to; from_file = from; start_from = a; end_from = b; start_to = x; end_to = y; how = how; change = change }
record_in _ = record { to_file = []; from_file = []; start_from = 0; end_from = 0; start_to = 0; end_to = 0; how = []; change = 0 }

one_record : (r s : IntegedRecord) → integed_key r ≡ integed_key s → r ≡ s
one_record r s e = ap record_in e

pub one_same : (r s : IntegedRecord) → is_same r s ≡ true → r ≡ s
one_same r s e = one_record r s (at-is (integed_key r) (integed_key s) e)

pub self_same : (r : IntegedRecord) → is_same r r ≡ true
self_same r = at-self (integed_key r) (integed_key r) refl

abbrev pub records_cmp : IntegedRecord → IntegedRecord → Ordering
records_cmp r s = key_cmp (integed_key r) (integed_key s)

pub records_ordered : IsOrder is_same records_cmp (λ _. true)
records_ordered = record {
  is = one_same;
  self = self_same;
  total = on_total integed_key keys_total;
  one = λ r s _ _ e. one_record r s (at-is (integed_key r) (integed_key s) (ap is_eq e));
}

-- ---- records in key order

record_put : (r : IntegedRecord) (rs : List IntegedRecord) → integed_inserted r rs ≡ put records_ordered r rs
record_put r [] = refl
record_put r (s ∷ rs) = go (is_same r s) refl (record_put r rs)
  where
    go : (b : Bool) → is_same r s ≡ b → integed_inserted r rs ≡ put records_ordered r rs
        → (if b then r ∷ rs else (if is_lt (records_cmp r s) then r ∷ s ∷ rs else s ∷ integed_inserted r rs))
        ≡ (if b then s ∷ rs else (if is_lt (records_cmp r s) then r ∷ s ∷ rs else s ∷ put records_ordered r rs))
    go true e h = ap (λ x. x ∷ rs) (one_record r s (at-is (integed_key r) (integed_key s) e))
    go false e h = ap (λ rest. if is_lt (records_cmp r s) then r ∷ s ∷ rs else s ∷ rest) h

pub ordered_rise : (rs : List IntegedRecord) → Rise records_ordered (in_key_order rs)
ordered_rise [] = tt
ordered_rise (r ∷ rs) =
    let P : List IntegedRecord → Type 0 = λ xs. Rise records_ordered xs in
    subst P (sym (record_put r (in_key_order rs))) (put_rises records_ordered r (in_key_order rs) refl (ordered_rise rs))

pub ordered_has : (rs : List IntegedRecord) (z : IntegedRecord) → has_by is_same (in_key_order rs) z ≡ has_by is_same rs z
ordered_has [] z = refl
ordered_has (r ∷ rs) z =
    ap (λ xs. has_by is_same xs z) (record_put r (in_key_order rs)) ∙ has_put records_ordered z r (in_key_order rs) ∙ ap (λ b. is_same z r || b) (ordered_has rs z)

-- ---- the records of a depot by its rows

found : (key : Key) (rs : List IntegedRecord) → is_some (option_map Integed (find (λ r. is_at key (integed_key r)) rs)) ≡ list_any (λ r. is_at key (integed_key r)) rs
found key [] = refl
found key (r ∷ rs) = go (is_at key (integed_key r)) (found key rs)
  where
    go : (b : Bool) → is_some (option_map Integed (find (λ r. is_at key (integed_key r)) rs)) ≡ list_any (λ r. is_at key (integed_key r)) rs
        → is_some (option_map Integed (if b then Some r else find (λ r. is_at key (integed_key r)) rs)) ≡ (b || list_any (λ r. is_at key (integed_key r)) rs)
    go true h = refl
    go false h = h

has_record : (d : List Deed) (z : IntegedRecord) → is_some (record_of d (integed_key z)) ≡ has_by is_same (integrations d) z
has_record d z = found (integed_key z) (integrations d)

module _ (d e : List Deed) (twins : Twins d e) where
  pub integrations_same : (z : IntegedRecord) → has_by is_same (integrations d) z ≡ has_by is_same (integrations e) z
  integrations_same z = sym (has_record d z) ∙ ap is_some (twins.rows (integed_key z)) ∙ has_record e z
