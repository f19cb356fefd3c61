-- Of a text that is no path a sound depot says nothing.
use Rattle.std.proofs.Common.{◌≡◌, ℕ, Bool, true, false, List, [], ◌∷◌, ◌++◌, map, Option, Some, None, refl, sym, ap, ◌∙◌}
use Rattle.std.specs.Prelude.{◌&&◌, if◌then◌else◌, filter, flat_map, unwrap_or, option_map}
use Rattle.std.specs.List.{list_all}
use Rattle.std.specs.Option.{option_or, option_flatten}
use Rattle.std.proofs.lemmas.Bool.{true≢false, and_parts}
use Rattle.std.proofs.lemmas.List.Folds.{list_all-append}
use Rattle.depot_rows.specs.depot_path.Bytes.{same}
use Rattle.depot_rows.specs.depot_path.Path.{is_path}
use Rattle.depot_rows.specs.depot_model.Deeds.{Deed, Open, Shut, Got, Tag, Land, Owe, Paid, Entry}
use Rattle.depot_rows.specs.depot_model.Latest.{latest, when, have, have_said, labelled, label_said}
use Rattle.depot_rows.specs.depot_model.Opened.{opened, opening_said, owed, paid_by}
use Rattle.depot_rows.specs.depot_model.Revisions.{revisions, entries_at}
use Rattle.depot_rows.specs.depot_model.Rules.{has_paths, entry_paths}
use Rattle.depot_rows.proofs.Keys.{same-is}

-- what no deed with paths says isn't said
pub none_said : {A : Type 0} (reading : Deed → Option A) → ((deed : Deed) → has_paths deed ≡ true → reading deed ≡ None) → (d : List Deed)
    → list_all has_paths d ≡ true → latest reading d ≡ None
none_said reading h [] paths = refl
none_said reading h (deed ∷ d) paths =
    ap (λ o. option_or o (latest reading d)) (h deed (and_parts (has_paths deed) (list_all has_paths d) paths).0)
    ∙ none_said reading h d (and_parts (has_paths deed) (list_all has_paths d) paths).1

-- a path isn't the text
pub other_path : (p q : List ℕ) → is_path p ≡ true → is_path q ≡ false → same p q ≡ false
other_path p q is not = go (same p q) refl
  where
    go : (b : Bool) → same p q ≡ b → b ≡ false
    go true e = absurd (true≢false (sym is ∙ ap is_path (same-is p q e) ∙ not))
    go false e = refl

unheld : {A : Type 0} (a b : Bool) (x : A) → b ≡ false → when (a && b) x ≡ None
unheld true b x e = ap (λ c. when c x) e
unheld false b x e = refl

module _ (d : List Deed) (paths : list_all has_paths d ≡ true) (p : List ℕ) (not : is_path p ≡ false) where
  pub no_have : (client : List ℕ) → have d client p ≡ 0
  no_have client = ap (λ o. unwrap_or o 0) (none_said (have_said client p) said d paths)
    where
      said : (deed : Deed) → has_paths deed ≡ true → have_said client p deed ≡ None
      said (Got held rev) e = unheld (same held.client client) (same held.path p) rev (other_path held.path p (and_parts (is_path held.path) true e).0 not)
      said _ e = refl

  pub no_label : (label : List ℕ) → labelled d label p ≡ 0
  no_label label = ap (λ o. unwrap_or o 0) (none_said (label_said label p) said d paths)
    where
      said : (deed : Deed) → has_paths deed ≡ true → label_said label p deed ≡ None
      said (Tag l q rev) e = unheld (same l label) (same q p) rev (other_path q p (and_parts (is_path q) true e).0 not)
      said _ e = refl

  pub no_opening : (client : List ℕ) → opened d client p ≡ None
  no_opening client = ap option_flatten (none_said (opening_said client p) said d paths)
    where
      said : (deed : Deed) → has_paths deed ≡ true → opening_said client p deed ≡ None
      said (Open o) e = unheld (same o.client client) (same o.path p) (Some o) (other_path o.path p (and_parts (is_path o.path) _ e).0 not)
      said (Shut held) e = unheld (same held.client client) (same held.path p) None (other_path held.path p (and_parts (is_path held.path) true e).0 not)
      said _ e = refl

-- none of the entries is of the text
pub no_entry : (p : List ℕ) → is_path p ≡ false → (es : List Entry) → list_all is_path (flat_map entry_paths es) ≡ true → filter (λ (e : Entry). same e.path p) es ≡ []
no_entry p not [] all = refl
no_entry p not (e ∷ es) all = go (same e.path p) (other_path e.path p (and_parts (is_path e.path) _ all).0 not)
    (no_entry p not es (and_parts (list_all is_path (entry_paths e)) (list_all is_path (flat_map entry_paths es)) (sym (list_all-append is_path (entry_paths e) (flat_map entry_paths es)) ∙ all)).1)
  where
    go : (b : Bool) → b ≡ false → filter (λ (e : Entry). same e.path p) es ≡ []
        → (if b then e ∷ filter (λ (e : Entry). same e.path p) es else filter (λ (e : Entry). same e.path p) es) ≡ []
    go true f h = absurd (true≢false f)
    go false f h = h

pub no_revisions : (d : List Deed) → list_all has_paths d ≡ true → (p : List ℕ) → is_path p ≡ false → revisions d p ≡ []
no_revisions [] paths p not = refl
no_revisions (Land l ∷ d) paths p not =
    ap (λ rs. rs ++ entries_at p l) (no_revisions d (and_parts (has_paths (Land l)) (list_all has_paths d) paths).1 p not)
    ∙ ap (map (λ e. record { landing = l; entry = e })) (no_entry p not l.entries (and_parts (has_paths (Land l)) (list_all has_paths d) paths).0)
no_revisions (deed ∷ d) paths p not = no_revisions d (and_parts (has_paths deed) (list_all has_paths d) paths).1 p not

-- a resolve is of paths
pub no_resolve : (d : List Deed) → list_all has_paths d ≡ true → (client p f : List ℕ) → (is_path p && is_path f) ≡ false → owed d client p f ≡ None
no_resolve [] paths client p f not = refl
no_resolve (Owe o ∷ d) paths client p f not =
    go (same o.client client) (same o.path p) refl (same o.from f) refl (no_resolve d (and_parts (has_paths (Owe o)) (list_all has_paths d) paths).1 client p f not)
  where
    has : has_paths (Owe o) ≡ true
    has = (and_parts (has_paths (Owe o)) (list_all has_paths d) paths).0

    go : (a b : Bool) → same o.path p ≡ b → (c : Bool) → same o.from f ≡ c → owed d client p f ≡ None
        → (if a && b && c then Some (record { owing = o; how = None }) else owed d client p f) ≡ None
    go true true e true k h = absurd (true≢false (sym (both (is_path o.path) (is_path o.from) has) ∙
        (λ i. is_path (same-is o.path p e i) && is_path (same-is o.from f k i)) ∙ not))
      where
        both : (a b : Bool) → (a && (b && true)) ≡ true → (a && b) ≡ true
        both true true e = refl
        both true false e = e
        both false b e = e
    go true true e false k h = h
    go true false e c k h = h
    go false b e c k h = h
no_resolve (Paid held from how ∷ d) paths client p f not =
    go (same held.client client && same held.path p && same from f) (no_resolve d (and_parts (has_paths (Paid held from how)) (list_all has_paths d) paths).1 client p f not)
  where
    go : (b : Bool) → owed d client p f ≡ None → (if b then option_map (paid_by how) (owed d client p f) else owed d client p f) ≡ None
    go true h = ap (option_map (paid_by how)) h
    go false h = h
no_resolve (Shut held ∷ d) paths client p f not =
    go (same held.client client && same held.path p) (no_resolve d (and_parts (has_paths (Shut held)) (list_all has_paths d) paths).1 client p f not)
  where
    go : (b : Bool) → owed d client p f ≡ None → (if b then None else owed d client p f) ≡ None
    go true h = refl
    go false h = h
no_resolve (deed ∷ d) paths client p f not = no_resolve d (and_parts (has_paths deed) (list_all has_paths d) paths).1 client p f not
