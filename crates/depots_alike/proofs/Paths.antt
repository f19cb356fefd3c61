-- The lists of files of sound depots with the same rows.
use Rattle.std.proofs.Common.{◌≡◌, ℕ, Bool, true, false, not, List, [], ◌∷◌, ◌++◌, length, map, Option, Some, None, refl, sym, ap, ◌∙◌}
use Rattle.std.specs.Prelude.{◌&&◌, ◌||◌, ◌==◌, if◌then◌else◌, filter, is_some, unwrap_or}
use Rattle.std.specs.List.{list_all}
use Rattle.std.specs.Option.{option_or, option_flatten}
use Rattle.std.proofs.lemmas.Bool.{true≢false, or_parts, and_parts}
use Rattle.depot_rows.specs.depot_path.Bytes.{same}
use Rattle.depot_rows.specs.depot_path.Path.{is_path}
use Rattle.depot_rows.specs.depot_model.Arguments.{paths_of, landed_paths, got_paths, open_paths, submitted, had, opened_by}
use Rattle.depot_rows.specs.depot_model.Deeds.{Deed, Open, Shut, Got, Land, Entry, Landing}
use Rattle.depot_rows.specs.depot_model.Latest.{latest, when, have, have_said}
use Rattle.depot_rows.specs.depot_model.Opened.{opened, opening_said}
use Rattle.depot_rows.specs.depot_model.Revisions.{Revision, revisions, entries_at}
use Rattle.depot_rows.specs.depot_model.Rules.{has_paths}
use Rattle.depot_rows.proofs.Keys.{same-is, same-self}
use Rattle.depot_facts.proofs.PathsTold.{got_told, landed_told, open_told}
use Rattle.depots_alike.proofs.Lists.{has, PathsRise, one_path_list, some_paths_rise, has_all_inserted, all_inserted_rises, has_filter}
use Rattle.depots_alike.proofs.Searches.{have_same, opened_same, head_same}
use Rattle.depots_alike.proofs.Twins.{Twins}

-- ---- paths of deeds rise

pub paths_rise : (reading : Deed → List (List ℕ)) → ((deed : Deed) → has_paths deed ≡ true → list_all is_path (reading deed) ≡ true) → (d : List Deed)
    → list_all has_paths d ≡ true → PathsRise (paths_of reading d)
paths_rise reading are [] paths = tt
paths_rise reading are (deed ∷ d) paths =
    all_inserted_rises (reading deed) (paths_of reading d) (are deed (and_parts (has_paths deed) (list_all has_paths d) paths).0)
    (paths_rise reading are d (and_parts (has_paths deed) (list_all has_paths d) paths).1)

-- ---- what is in them

pub same_turned : (a b : List ℕ) → same a b ≡ same b a
same_turned a b = go (same a b) refl (same b a) refl
  where
    go : (s : Bool) → same a b ≡ s → (t : Bool) → same b a ≡ t → s ≡ t
    go true e true f = refl
    go false e false f = refl
    go true e false f = absurd (true≢false (sym (ap (λ x. same x a) (sym (same-is a b e)) ∙ same-self a) ∙ f))
    go false e true f = absurd (true≢false (sym (ap (λ x. same x b) (sym (same-is b a f)) ∙ same-self b) ∙ e))

abbrev any_in : {A : Type 0} → List A → Bool
any_in [] = false
any_in (x ∷ xs) = true

any_both : {A : Type 0} (xs ys : List A) → any_in (xs ++ ys) ≡ (any_in ys || any_in xs)
any_both [] ys = sym (or_none (any_in ys))
  where
    or_none : (b : Bool) → (b || false) ≡ b
    or_none true = refl
    or_none false = refl
any_both (x ∷ xs) ys = sym (or_all (any_in ys))
  where
    or_all : (b : Bool) → (b || true) ≡ true
    or_all true = refl
    or_all false = refl

any_long : {A : Type 0} (xs ys : List A) → length xs ≡ length ys → any_in xs ≡ any_in ys
any_long [] [] e = refl
any_long [] (y ∷ ys) e = absurd cc
any_long (x ∷ xs) [] e = absurd cc
any_long (x ∷ xs) (y ∷ ys) e = refl

any_entry : (l : Landing) (p : List ℕ) → any_in (entries_at p l) ≡ has (landed_paths (Land l)) p
any_entry l p = go l.entries
  where
    go : (es : List Entry) → any_in (map (λ (e : Entry). (let r : Revision = record { landing = l; entry = e } in r)) (filter (λ (e : Entry). same e.path p) es))
        ≡ has (map (λ (e : Entry). e.path) es) p
    go [] = refl
    go (e ∷ es) = test (same e.path p) refl (go es)
      where
        test : (b : Bool) → same e.path p ≡ b
            → any_in (map (λ (e : Entry). (let r : Revision = record { landing = l; entry = e } in r)) (filter (λ (e : Entry). same e.path p) es)) ≡ has
            (map (λ (e : Entry). e.path) es) p
            → any_in (map (λ (e : Entry). (let r : Revision = record { landing = l; entry = e } in r))
            (if b then e ∷ filter (λ (e : Entry). same e.path p) es else filter (λ (e : Entry). same e.path p) es))
            ≡ (same p e.path || has (map (λ (e : Entry). e.path) es) p)
        test true k h = sym (ap (λ b. b || has (map (λ (e : Entry). e.path) es) p) (same_turned p e.path ∙ k))
        test false k h = h ∙ sym (ap (λ b. b || has (map (λ (e : Entry). e.path) es) p) (same_turned p e.path ∙ k))

submitted_has : (d : List Deed) (p : List ℕ) → has (submitted d) p ≡ any_in (revisions d p)
submitted_has [] p = refl
submitted_has (Land l ∷ d) p =
    has_all_inserted p (landed_paths (Land l)) (submitted d)
    ∙ (λ i. sym (any_entry l p) i || submitted_has d p i)
    ∙ sym (any_both (revisions d p) (entries_at p l))
submitted_has (_ ∷ d) p = submitted_has d p

not_got : (client p : List ℕ) (d : List Deed) → has (paths_of (got_paths client) d) p ≡ false → latest (have_said client p) d ≡ None
not_got client p [] e = refl
not_got client p (Got held rev ∷ d) e =
    go (same held.client client) (same held.path p) refl
    (or_parts (has (got_paths client (Got held rev)) p) (has (paths_of (got_paths client) d) p)
    (sym (has_all_inserted p (got_paths client (Got held rev)) (paths_of (got_paths client) d)) ∙ e)).0
    (not_got client p d (or_parts (has (got_paths client (Got held rev)) p) (has (paths_of (got_paths client) d) p)
    (sym (has_all_inserted p (got_paths client (Got held rev)) (paths_of (got_paths client) d)) ∙ e)).1)
  where
    go : (a b : Bool) → same held.path p ≡ b → has (if a then held.path ∷ [] else []) p ≡ false → latest (have_said client p) d ≡ None
        → option_or (when (a && b) rev) (latest (have_said client p) d) ≡ None
    go true true k f h = absurd (true≢false (sym (ap (λ b. b || false) (same_turned p held.path ∙ k)) ∙ f))
    go true false k f h = h
    go false b k f h = h
not_got client p (_ ∷ d) e = not_got client p d e

pub not_opened : (client p : List ℕ) (d : List Deed) → has (paths_of open_paths d) p ≡ false → opened d client p ≡ None
not_opened client p [] e = refl
not_opened client p (Open o ∷ d) e =
    go (same o.client client) (same o.path p) refl
    (or_parts (has (open_paths (Open o)) p) (has (paths_of open_paths d) p) (sym (has_all_inserted p (open_paths (Open o)) (paths_of open_paths d)) ∙ e)).0
    (not_opened client p d (or_parts (has (open_paths (Open o)) p) (has (paths_of open_paths d) p)
    (sym (has_all_inserted p (open_paths (Open o)) (paths_of open_paths d)) ∙ e)).1)
  where
    go : (a b : Bool) → same o.path p ≡ b → has (o.path ∷ []) p ≡ false → opened d client p ≡ None
        → option_flatten (option_or (when (a && b) (Some o)) (latest (opening_said client p) d)) ≡ None
    go true true k f h = absurd (true≢false (sym (ap (λ b. b || false) (same_turned p o.path ∙ k)) ∙ f))
    go true false k f h = h
    go false b k f h = h
not_opened client p (Shut held ∷ d) e = go (same held.client client && same held.path p) (not_opened client p d e)
  where
    go : (b : Bool) → opened d client p ≡ None → option_flatten (option_or (when b None) (latest (opening_said client p) d)) ≡ None
    go true h = refl
    go false h = h
not_opened client p (_ ∷ d) e = not_opened client p d e

-- what passes is listed
pub only_test : (a b : Bool) → (a ≡ false → b ≡ false) → (a && b) ≡ b
only_test true b h = refl
only_test false b h = sym (h refl)

pub had_has : (d : List Deed) (client p : List ℕ) → has (had d client) p ≡ not (have d client p == 0)
had_has d client p =
    has_filter (λ path. not (have d client path == 0)) (paths_of (got_paths client) d) p
    ∙ only_test (has (paths_of (got_paths client) d) p) (not (have d client p == 0))
    (λ e. ap (λ (o : Option ℕ). not (unwrap_or o 0 == 0)) (not_got client p d e))

opened_by_has : (d : List Deed) (client p : List ℕ) → has (opened_by d client) p ≡ is_some (opened d client p)
opened_by_has d client p =
    has_filter (λ path. is_some (opened d client path)) (paths_of open_paths d) p
    ∙ only_test (has (paths_of open_paths d) p) (is_some (opened d client p)) (λ e. ap is_some (not_opened client p d e))

module _ (d e : List Deed) (twins : Twins d e) where
  pub submitted_same : submitted d ≡ submitted e
  submitted_same = one_path_list (submitted d) (submitted e) (paths_rise landed_paths landed_told d twins.left.paths) (paths_rise landed_paths landed_told e twins.right.paths)
      (λ z. submitted_has d z ∙ any_long (revisions d z) (revisions e z) (head_same d e twins z) ∙ sym (submitted_has e z))

  pub had_same : (client : List ℕ) → had d client ≡ had e client
  had_same client = one_path_list (had d client) (had e client)
      (some_paths_rise (λ path. not (have d client path == 0)) (paths_of (got_paths client) d) (paths_rise (got_paths client) (got_told client) d twins.left.paths))
      (some_paths_rise (λ path. not (have e client path == 0)) (paths_of (got_paths client) e) (paths_rise (got_paths client) (got_told client) e twins.right.paths))
      (λ z. had_has d client z ∙ ap (λ n. not (n == 0)) (have_same d e twins client z) ∙ sym (had_has e client z))

  pub opened_by_same : (client : List ℕ) → opened_by d client ≡ opened_by e client
  opened_by_same client = one_path_list (opened_by d client) (opened_by e client)
      (some_paths_rise (λ path. is_some (opened d client path)) (paths_of open_paths d) (paths_rise open_paths open_told d twins.left.paths))
      (some_paths_rise (λ path. is_some (opened e client path)) (paths_of open_paths e) (paths_rise open_paths open_told e twins.right.paths))
      (λ z. opened_by_has d client z ∙ ap is_some (opened_same d e twins client z) ∙ sym (opened_by_has e client z))
