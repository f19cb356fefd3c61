-- The lists of names of sound depots with the same rows.
use Rattle.std.proofs.Common.{◌≡◌, ℕ, Bool, true, false, List, [], ◌∷◌, Option, Some, None, refl, sym, ap, ◌∙◌}
use Rattle.std.specs.Prelude.{◌&&◌, ◌||◌, if◌then◌else◌, codes, filter, filter_map, is_some, option_map}
use Rattle.std.specs.Option.{option_or, option_map_or, option_flatten}
use Rattle.std.proofs.lemmas.Bool.{true≢false, or_parts}
use Rattle.depot_rows.specs.depot_path.Bytes.{same}
use Rattle.depot_rows.specs.depot_model.Arguments.{paths_of, open_paths}
use Rattle.depot_rows.specs.depot_model.Deeds.{Deed, Open, Shut, Spec, Count, SpecKind}
use Rattle.depot_rows.specs.depot_model.Latest.{latest, when, keys_of, spec, spec_name, same_kind, count_name, count_said}
use Rattle.depot_rows.specs.depot_model.Numbers.{top}
use Rattle.depot_rows.specs.depot_model.Opened.{opened, opening_said}
use Rattle.depot_rows.specs.depot_model.Sorted.{inserted}
use Rattle.depot_rows.specs.depot_model.Step.{tells}
use Rattle.depot_rows.specs.depot_model.Steps.Counters.{counter_of, counter_row, counters, above_zero}
use Rattle.depot_rows.specs.depot_model.Steps.Opening.{openers, opener_of}
use Rattle.depots_alike.proofs.Lists.{has, NamesRise, one_name_list, some_names_rise, has_inserted, inserted_rises, has_filter}
use Rattle.depots_alike.proofs.Paths.{same_turned, only_test, not_opened}
use Rattle.depots_alike.proofs.Searches.{spec_same, counter_same}
use Rattle.depots_alike.proofs.Twins.{Twins}

pub names_rise : (key : Deed → Option (List ℕ)) (d : List Deed) → NamesRise (keys_of key d)
names_rise key [] = tt
names_rise key (deed ∷ d) = go (key deed) (names_rise key d)
  where
    go : (o : Option (List ℕ)) → NamesRise (keys_of key d) → NamesRise (option_map_or inserted o (λ keys. keys) (keys_of key d))
    go None h = h
    go (Some name) h = inserted_rises name (keys_of key d) h

-- ---- forms that are saved

spec_has : (kind : SpecKind) (d : List Deed) (z : List ℕ) → has (keys_of (spec_name kind) d) z ≡ is_some (spec d kind z)
spec_has kind [] z = refl
spec_has kind (Spec k n form ∷ d) z = go (same_kind k kind) (spec_has kind d z)
  where
    or_some : (b : Bool) → (b || is_some (spec d kind z)) ≡ is_some (option_or (when b form) (spec d kind z))
    or_some true = refl
    or_some false = refl

    go : (b : Bool) → has (keys_of (spec_name kind) d) z ≡ is_some (spec d kind z)
        → has (option_map_or inserted (when b n) (λ keys. keys) (keys_of (spec_name kind) d)) z ≡ is_some (option_or (when (b && same n z) form) (spec d kind z))
    go true h = has_inserted z n (keys_of (spec_name kind) d) ∙ (λ i. same_turned z n i || h i) ∙ or_some (same n z)
    go false h = h
spec_has kind (_ ∷ d) z = spec_has kind d z

-- ---- who has a file opened

not_opener : (path z : List ℕ) (d : List Deed) → has (keys_of (opener_of path) d) z ≡ false → opened d z path ≡ None
not_opener path z [] e = refl
not_opener path z (Open o ∷ d) e = go (same o.path path) e (not_opener path z d)
  where
    kept : (b : Bool) → b ≡ false → opened d z path ≡ None → option_flatten (option_or (when (b && true) (Some o)) (latest (opening_said z path) d)) ≡ None
    kept true f h = absurd (true≢false f)
    kept false f h = h

    apart : (b : Bool) → option_flatten (option_or (when (b && false) (Some o)) (latest (opening_said z path) d)) ≡ opened d z path
    apart true = refl
    apart false = refl

    go : (b : Bool) → has (option_map_or inserted (when b o.client) (λ keys. keys) (keys_of (opener_of path) d)) z ≡ false
        → (has (keys_of (opener_of path) d) z ≡ false → opened d z path ≡ None)
        → option_flatten (option_or (when (same o.client z && b) (Some o)) (latest (opening_said z path) d)) ≡ None
    go true f later =
        let parts = or_parts (same z o.client) (has (keys_of (opener_of path) d) z) (sym (has_inserted z o.client (keys_of (opener_of path) d)) ∙ f) in
        kept (same o.client z) (same_turned o.client z ∙ parts.0) (later parts.1)
    go false f later = apart (same o.client z) ∙ later f
not_opener path z (Shut held ∷ d) e = go (same held.client z && same held.path path) (not_opener path z d e)
  where
    go : (b : Bool) → opened d z path ≡ None → option_flatten (option_or (when b None) (latest (opening_said z path) d)) ≡ None
    go true h = refl
    go false h = h
not_opener path z (_ ∷ d) e = not_opener path z d e

pub openers_has : (d : List Deed) (path z : List ℕ) → has (openers d path) z ≡ is_some (opened d z path)
openers_has d path z = has_filter (λ client. is_some (opened d client path)) (keys_of (opener_of path) d) z
    ∙ only_test (has (keys_of (opener_of path) d) z) (is_some (opened d z path)) (λ e. ap is_some (not_opener path z d e))

-- a file that no deed opens has no openers
none_kept : (test : List ℕ → Bool) → ((x : List ℕ) → test x ≡ false) → (xs : List (List ℕ)) → filter test xs ≡ []
none_kept test never [] = refl
none_kept test never (x ∷ xs) = go (test x) (never x) (none_kept test never xs)
  where
    go : (b : Bool) → b ≡ false → filter test xs ≡ [] → (if b then x ∷ filter test xs else filter test xs) ≡ []
    go true e h = absurd (true≢false e)
    go false e h = h

pub no_openers : (d : List Deed) (path : List ℕ) → has (paths_of open_paths d) path ≡ false → openers d path ≡ []
no_openers d path e = none_kept (λ client. is_some (opened d client path)) (λ client. ap is_some (not_opened client path d e)) (keys_of (opener_of path) d)

-- ---- counters

not_counted : (z : List ℕ) (d : List Deed) → has (keys_of count_name d) z ≡ false → latest (count_said z) d ≡ None
not_counted z [] e = refl
not_counted z (Count n value ∷ d) e =
    let parts = or_parts (same z n) (has (keys_of count_name d) z) (sym (has_inserted z n (keys_of count_name d)) ∙ e) in
    go (same n z) (same_turned n z ∙ parts.0) (not_counted z d parts.1)
  where
    go : (b : Bool) → b ≡ false → latest (count_said z) d ≡ None → option_or (when b value) (latest (count_said z) d) ≡ None
    go true f h = absurd (true≢false f)
    go false f h = h
not_counted z (_ ∷ d) e = not_counted z d e

abbrev counter_names : List Deed → List (List ℕ)
counter_names d = filter (λ name. is_some (counter_of d name)) (inserted (codes "change") (keys_of count_name d))

counter_has : (d : List Deed) (z : List ℕ) → has (counter_names d) z ≡ is_some (counter_of d z)
counter_has d z = has_filter (λ name. is_some (counter_of d name)) (inserted (codes "change") (keys_of count_name d)) z
    ∙ only_test (has (inserted (codes "change") (keys_of count_name d)) z) (is_some (counter_of d z))
    (λ e. let parts = or_parts (same z (codes "change")) (has (keys_of count_name d) z) (sym (has_inserted z (codes "change") (keys_of count_name d)) ∙ e) in
    (λ i. is_some (if parts.0 i then above_zero (top d) else option_flatten (not_counted z d parts.1 i))))

-- only what gives something counts
pub only_some : {A B : Type 0} (f : B → Option A) (xs : List B) → filter_map f xs ≡ filter_map f (filter (λ x. is_some (f x)) xs)
only_some f [] = refl
only_some {A = A} f (x ∷ xs) = go (f x) refl (only_some f xs)
  where
    go : (o : Option A) → f x ≡ o → filter_map f xs ≡ filter_map f (filter (λ x. is_some (f x)) xs)
        → filter_map f (x ∷ xs) ≡ filter_map f (if is_some o then x ∷ filter (λ x. is_some (f x)) xs else filter (λ x. is_some (f x)) xs)
    go None e h = rw e h
    go (Some y) e h = rw (e, h) refl

module _ (d e : List Deed) (twins : Twins d e) where
  pub spec_names_same : (kind : SpecKind) → keys_of (spec_name kind) d ≡ keys_of (spec_name kind) e
  spec_names_same kind = one_name_list (keys_of (spec_name kind) d) (keys_of (spec_name kind) e) (names_rise (spec_name kind) d) (names_rise (spec_name kind) e)
      (λ z. spec_has kind d z ∙ ap is_some (spec_same d e twins kind z) ∙ sym (spec_has kind e z))

  counter_names_same : counter_names d ≡ counter_names e
  counter_names_same = one_name_list (counter_names d) (counter_names e)
      (some_names_rise (λ name. is_some (counter_of d name)) (inserted (codes "change") (keys_of count_name d))
      (inserted_rises (codes "change") (keys_of count_name d) (names_rise count_name d)))
      (some_names_rise (λ name. is_some (counter_of e name)) (inserted (codes "change") (keys_of count_name e))
      (inserted_rises (codes "change") (keys_of count_name e) (names_rise count_name e)))
      (λ z. counter_has d z ∙ ap is_some (counter_same d e twins z) ∙ sym (counter_has e z))

  pub counters_same : counters d ≡ counters e
  counters_same =
      ap tells (only_some (λ name. option_map (counter_row name) (counter_of d name)) (inserted (codes "change") (keys_of count_name d))
      ∙ (λ i. filter_map (λ name. option_map (counter_row name) (counter_same d e twins name i)) (row_names i))
      ∙ sym (only_some (λ name. option_map (counter_row name) (counter_of e name)) (inserted (codes "change") (keys_of count_name e))))
    where
      some_row : (name : List ℕ) (o : Option ℕ) → is_some (option_map (counter_row name) o) ≡ is_some o
      some_row name None = refl
      some_row name (Some n) = refl

      row_names : filter (λ name. is_some (option_map (counter_row name) (counter_of d name))) (inserted (codes "change") (keys_of count_name d))
          ≡ filter (λ name. is_some (option_map (counter_row name) (counter_of e name))) (inserted (codes "change") (keys_of count_name e))
      row_names = (λ i. filter (λ name. some_row name (counter_of d name) i) (inserted (codes "change") (keys_of count_name d))) ∙ counter_names_same
          ∙ sym (λ i. filter (λ name. some_row name (counter_of e name) i) (inserted (codes "change") (keys_of count_name e)))
