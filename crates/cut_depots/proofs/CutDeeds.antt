-- What the deeds of a sound depot keep beside its rows, where they are cut to a filter.
use Rattle.std.proofs.Common.{◌≡◌, ◌<◌, ℕ, zero, suc, Bool, true, false, cond, List, [], ◌∷◌, ◌++◌, length, map, Option, Some, None, refl, sym, ap, ◌∙◌, subst, arith}
use Rattle.std.specs.Prelude.{Contains, IfSome, filter, flat_map, is_none, is_ok, is_some, not, option_and_then, option_map, slice_index_or, unwrap_or}
use Rattle.std.specs.List.{list_all}
use Rattle.std.specs.Option.{option_flatten}
use Rattle.std.proofs.lemmas.List.Folds.{list_all-append}
use Rattle.std.proofs.lemmas.Bool.{and_from, and_parts}
use Rattle.depot_rows.specs.protect_table.Line.{table_of as protects_of}
use Rattle.depot_rows.specs.depot_path.Path.{is_path}
use Rattle.depot_rows.specs.spec_form.Form.{FormValue}
use Rattle.depot_rows.specs.depot_model.declared.filter.FilterRule.{FilterRule}
use Rattle.depot_rows.specs.depot_model.Cut.{cut, cut_landing, cut_entry, cut_opening}
use Rattle.depot_rows.specs.depot_model.Deeds.{Deed, Pend, Open, Land, Landing, Entry, Credit, Opening, Source, Pending, SpecKind, ClientForm, LabelForm, ShelfForm, JobForm, FixForm}
use Rattle.depot_rows.specs.depot_model.Filter.{is_inside}
use Rattle.depot_rows.specs.depot_model.Latest.{guard_lines, spec, when}
use Rattle.depot_rows.specs.depot_model.Numbers.{landings, landing}
use Rattle.depot_rows.specs.depot_model.Records.{landed_record}
use Rattle.depot_rows.specs.depot_model.Rules.{LandAlike, NotBoth, IsSpelled, stay_landed, has_paths, entry_paths, opening_paths, path_or_none, has_its_content, have_their_contents}
use Rattle.depot_rows.proofs.Cutting.{cut_more, cut_silent, left, pending_cut, landing_cut, guard_cut, spec_cut, shelf_cut, kept_entries}

-- an element of a list that is mapped is that of an element
mapped_has : {A B : Type 0} (f : A → B) (xs : List A) (y : B) → Contains (map f xs) y → (x : A) × Contains xs x × (f x ≡ y)
mapped_has f [] y h = absurd (omega (arith, h.1))
mapped_has {A} f (x ∷ xs) y h = go h.0 h.1 h.2 (mapped_has f xs y)
  where
    go : (k : ℕ) → k < suc (length (map f xs)) → slice_index_or (f x ∷ map f xs) k y ≡ y → (Contains (map f xs) y → (z : A) × Contains xs z × (f z ≡ y))
        → (z : A) × Contains (x ∷ xs) z × (f z ≡ y)
    go zero low e rest = let first : 0 < suc (length xs) = omega arith in (x, (0, first, refl), e)
    go (suc k) low e rest =
        let less : k < length (map f xs) = omega (arith, low) in
        let one = rest (k, less, e) in
        let more : suc one.1.0 < suc (length xs) = omega (arith, one.1.1) in
        (one.0, (suc one.1.0, more, one.1.2), one.2)

module _ (rules : List FilterRule) where
  pub landings_cut : (d : List Deed) → landings (cut rules d) ≡ map (cut_landing rules) (landings d)
  landings_cut [] = refl
  landings_cut (Land l ∷ d) = ap (λ (ls : List Landing). cut_landing rules l ∷ ls) (landings_cut d)
  landings_cut (deed ∷ d) = cut_silent rules landings deed d refl ∙ landings_cut d

  -- ---- numbers of changes

  pub alike_cut : (d : List Deed) → LandAlike d → LandAlike (cut rules d)
  alike_cut d alike l m a b same =
      let x = whole l a in
      let y = whole m b in
      ap landed_record (sym x.2) ∙ alike x.0 y.0 x.1 y.1 (ap (λ (z : Landing). z.change) x.2 ∙ same ∙ sym (ap (λ (z : Landing). z.change) y.2)) ∙ ap landed_record y.2
    where
      whole : (l : Landing) → Contains (landings (cut rules d)) l → (x : Landing) × Contains (landings d) x × (cut_landing rules x ≡ l)
      whole l a =
          mapped_has (cut_landing rules) (landings d) l (subst (λ (ls : List Landing). Contains ls l) (landings_cut d) a)

  landed_cut : (d : List Deed) (n : ℕ) → is_some (landing (cut rules d) n) ≡ is_some (landing d n)
  landed_cut d n = ap is_some (landing_cut rules d n) ∙ go (landing d n)
    where
      go : (o : Option Landing) → is_some (option_map (cut_landing rules) o) ≡ is_some o
      go None = refl
      go (Some l) = refl

  pub both_cut : (d : List Deed) → NotBoth d → NotBoth (cut rules d)
  both_cut d not n p l =
      not n (sym (ap (λ (o : Option (Option Pending)). is_some (option_flatten o)) (pending_cut rules n d)) ∙ p) (sym (landed_cut d n) ∙ l)

  pub stay_cut : (d : List Deed) → stay_landed d ≡ true → stay_landed (cut rules d) ≡ true
  stay_cut [] h = refl
  stay_cut (Pend p ∷ d) h =
      and_from (is_none (landing (cut rules d) p.change)) (stay_landed (cut rules d))
      (ap not (landed_cut d p.change) ∙ (and_parts (is_none (landing d p.change)) (stay_landed d) h).0)
      (stay_cut d (and_parts (is_none (landing d p.change)) (stay_landed d) h).1)
  stay_cut (deed ∷ d) h = cut_silent rules stay_landed deed d refl ∙ stay_cut d h

  -- ---- lines and forms

  pub lines_cut : (d : List Deed) → is_ok (protects_of (guard_lines d)) ≡ true → is_ok (protects_of (guard_lines (cut rules d))) ≡ true
  lines_cut d h = ap (λ (lines : Option (List (List ℕ))). is_ok (protects_of (unwrap_or lines []))) (guard_cut rules d) ∙ h

  pub forms_cut : (d : List Deed) → ((kind : SpecKind) (name : List ℕ) → IfSome (spec d kind name) (IsSpelled kind))
      → (kind : SpecKind) (name : List ℕ) → IfSome (spec (cut rules d) kind name) (IsSpelled kind)
  forms_cut d read ClientForm name = subst (λ (o : Option FormValue). IfSome o (IsSpelled ClientForm)) (sym (spec_cut rules ClientForm name d refl)) (read ClientForm name)
  forms_cut d read LabelForm name = subst (λ (o : Option FormValue). IfSome o (IsSpelled LabelForm)) (sym (spec_cut rules LabelForm name d refl)) (read LabelForm name)
  forms_cut d read ShelfForm name = subst (λ (o : Option FormValue). IfSome o (IsSpelled ShelfForm)) (sym (shelf_cut rules name d)) tt
  forms_cut d read JobForm name = subst (λ (o : Option FormValue). IfSome o (IsSpelled JobForm)) (sym (spec_cut rules JobForm name d refl)) (read JobForm name)
  forms_cut d read FixForm name = subst (λ (o : Option FormValue). IfSome o (IsSpelled FixForm)) (sym (spec_cut rules FixForm name d refl)) (read FixForm name)

  -- ---- paths

  both_paths : (a b : List (List ℕ)) → list_all is_path a ≡ true → list_all is_path b ≡ true → list_all is_path (a ++ b) ≡ true
  both_paths a b h k = list_all-append is_path a b ∙ and_from (list_all is_path a) (list_all is_path b) h k

  left_paths : (a b : List (List ℕ)) → list_all is_path (a ++ b) ≡ true → list_all is_path a ≡ true
  left_paths a b h = (and_parts (list_all is_path a) (list_all is_path b) (sym (list_all-append is_path a b) ∙ h)).0

  right_paths : (a b : List (List ℕ)) → list_all is_path (a ++ b) ≡ true → list_all is_path b ≡ true
  right_paths a b h = (and_parts (list_all is_path a) (list_all is_path b) (sym (list_all-append is_path a b) ∙ h)).1

  credits_paths : (cs : List Credit) → list_all is_path (map (λ (c : Credit). c.from) cs) ≡ true
      → list_all is_path (map (λ (c : Credit). c.from) (filter (λ (c : Credit). is_inside rules c.from) cs)) ≡ true
  credits_paths [] h = refl
  credits_paths (c ∷ cs) h = go (is_inside rules c.from) (credits_paths cs (and_parts (is_path c.from) (list_all is_path (map (λ (c : Credit). c.from) cs)) h).1)
    where
      go : (b : Bool) → list_all is_path (map (λ (c : Credit). c.from) (filter (λ (c : Credit). is_inside rules c.from) cs)) ≡ true
          → list_all is_path (map (λ (c : Credit). c.from) (cond b (c ∷ filter (λ (c : Credit). is_inside rules c.from) cs) (filter (λ (c : Credit). is_inside rules c.from) cs))) ≡ true
      go true rest = and_from (is_path c.from) _ (and_parts (is_path c.from) (list_all is_path (map (λ (c : Credit). c.from) cs)) h).0 rest
      go false rest = rest

  entry_has : (e : Entry) → list_all is_path (entry_paths e) ≡ true → list_all is_path (entry_paths (cut_entry rules e)) ≡ true
  entry_has e h =
      let rest : list_all is_path (path_or_none e.moved ++ map (λ (c : Credit). c.from) e.credits) ≡ true = (and_parts (is_path e.path) _ h).1 in
      and_from (is_path e.path) _ (and_parts (is_path e.path) _ h).0
      (both_paths (path_or_none e.moved) (map (λ (c : Credit). c.from) (filter (λ (c : Credit). is_inside rules c.from) e.credits))
      (left_paths (path_or_none e.moved) (map (λ (c : Credit). c.from) e.credits) rest)
      (credits_paths e.credits (right_paths (path_or_none e.moved) (map (λ (c : Credit). c.from) e.credits) rest)))

  entries_have : (es : List Entry) → list_all is_path (flat_map entry_paths es) ≡ true → list_all is_path (flat_map entry_paths (map (cut_entry rules) (kept_entries rules es))) ≡ true
  entries_have [] h = refl
  entries_have (e ∷ es) h = go (is_inside rules e.path) (entries_have es (right_paths (entry_paths e) (flat_map entry_paths es) h))
    where
      go : (b : Bool) → list_all is_path (flat_map entry_paths (map (cut_entry rules) (kept_entries rules es))) ≡ true
          → list_all is_path (flat_map entry_paths (map (cut_entry rules) (cond b (e ∷ kept_entries rules es) (kept_entries rules es)))) ≡ true
      go true rest = both_paths (entry_paths (cut_entry rules e)) _ (entry_has e (left_paths (entry_paths e) (flat_map entry_paths es) h)) rest
      go false rest = rest

  opening_has : (o : Opening) → list_all is_path (opening_paths o) ≡ true → list_all is_path (opening_paths (cut_opening rules o)) ≡ true
  opening_has o h =
      let rest : list_all is_path (path_or_none o.moved ++ path_or_none (option_map (λ (s : Source). s.path) o.source)) ≡ true = (and_parts (is_path o.path) _ h).1 in
      and_from (is_path o.path) _ (and_parts (is_path o.path) _ h).0
      (both_paths (path_or_none o.moved) _ (left_paths (path_or_none o.moved) _ rest) (source o.source (right_paths (path_or_none o.moved) _ rest)))
    where
      source : (s : Option Source) → list_all is_path (path_or_none (option_map (λ (s : Source). s.path) s)) ≡ true
          → list_all is_path (path_or_none (option_map (λ (s : Source). s.path) (option_and_then (λ (s : Source). when (is_inside rules s.path) s) s))) ≡ true
      source None k = refl
      source (Some s) k = go (is_inside rules s.path)
        where
          go : (b : Bool) → list_all is_path (path_or_none (option_map (λ (s : Source). s.path) (when b s))) ≡ true
          go true = k
          go false = refl

  left_has : (deed : Deed) → has_paths deed ≡ true → has_paths (left rules deed) ≡ true
  left_has (Open o) h = opening_has o h
  left_has (Land l) h = entries_have l.entries h
  left_has _ h = h

  pub paths_cut : (d : List Deed) → list_all has_paths d ≡ true → list_all has_paths (cut rules d) ≡ true
  paths_cut [] h = refl
  paths_cut (deed ∷ d) h =
      let rest : list_all has_paths (cut rules d) ≡ true = paths_cut d (and_parts (has_paths deed) (list_all has_paths d) h).1 in
      cut_more rules (list_all has_paths) deed d true
      (λ e. and_from (has_paths (left rules deed)) (list_all has_paths (cut rules d)) (left_has deed (and_parts (has_paths deed) (list_all has_paths d) h).0) rest) (λ e. rest)

  -- ---- contents

  entries_whole : (es : List Entry) → list_all has_its_content es ≡ true → list_all has_its_content (map (cut_entry rules) (kept_entries rules es)) ≡ true
  entries_whole [] h = refl
  entries_whole (e ∷ es) h = go (is_inside rules e.path) (entries_whole es (and_parts (has_its_content e) (list_all has_its_content es) h).1)
    where
      go : (b : Bool) → list_all has_its_content (map (cut_entry rules) (kept_entries rules es)) ≡ true
          → list_all has_its_content (map (cut_entry rules) (cond b (e ∷ kept_entries rules es) (kept_entries rules es))) ≡ true
      go true rest = and_from (has_its_content e) _ (and_parts (has_its_content e) (list_all has_its_content es) h).0 rest
      go false rest = rest

  landings_whole : (ls : List Landing) → list_all have_their_contents ls ≡ true → list_all have_their_contents (map (cut_landing rules) ls) ≡ true
  landings_whole [] h = refl
  landings_whole (l ∷ ls) h =
      and_from (have_their_contents (cut_landing rules l)) _
      (entries_whole l.entries (and_parts (have_their_contents l) (list_all have_their_contents ls) h).0)
      (landings_whole ls (and_parts (have_their_contents l) (list_all have_their_contents ls) h).1)

  pub contents_cut : (d : List Deed) → list_all have_their_contents (landings d) ≡ true → list_all have_their_contents (landings (cut rules d)) ≡ true
  contents_cut d h = ap (list_all have_their_contents) (landings_cut d) ∙ landings_whole (landings d) h
