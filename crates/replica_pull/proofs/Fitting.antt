-- Cut changes one after another.
use Rattle.std.proofs.Common.{◌≡◌, ℕ, ◌+◌, ◌<◌, List, [], ◌∷◌, ◌++◌, length, take, get_or, sym, ◌∙◌, ap, subst}
use Rattle.std.proofs.lemmas.List.{take_more}
use Rattle.std.proofs.lemmas.List.Elements.{filter_map-append}
use Rattle.depot_rows.specs.db_records.declared.change.Change.{Change}
use Rattle.depot_rows.specs.depot_model.declared.filter.FilterRule.{FilterRule}
use Rattle.depot_rows.specs.table_changes.Changed.{AllRows, AllFitIn, changed_by}
use Rattle.recovery.proofs.Fits.{changed_joined, fits_joined, fits_front, fits_behind}
use Rattle.replica_pull.specs.Cut.{cut_change, cut_changes}
use Rattle.replica_pull.specs.Feed.{Fit, changed_cut}

module _ (rules : List FilterRule) where
  cut_joined : (xs ys : List Change) → cut_changes rules (xs ++ ys) ≡ cut_changes rules xs ++ cut_changes rules ys
  cut_joined xs ys = filter_map-append (cut_change rules) xs ys

  pub changed_cut_joined : (rows : AllRows) (xs ys : List Change) → changed_cut rules rows (xs ++ ys) ≡ changed_cut rules (changed_cut rules rows xs) ys
  changed_cut_joined rows xs ys = ap (changed_by rows) (cut_joined xs ys) ∙ changed_joined rows (cut_changes rules xs) (cut_changes rules ys)

  pub fit_joined : (rows : AllRows) (xs ys : List Change) → Fit rules rows xs → Fit rules (changed_cut rules rows xs) ys → Fit rules rows (xs ++ ys)
  fit_joined rows xs ys first behind = subst (AllFitIn rows) (sym (cut_joined xs ys)) (fits_joined rows (cut_changes rules xs) (cut_changes rules ys) first behind)

  pub fit_front : (rows : AllRows) (xs ys : List Change) → Fit rules rows (xs ++ ys) → Fit rules rows xs
  fit_front rows xs ys fit = fits_front rows (cut_changes rules xs) (cut_changes rules ys) (subst (AllFitIn rows) (cut_joined xs ys) fit)

  pub fit_behind : (rows : AllRows) (xs ys : List Change) → Fit rules rows (xs ++ ys) → Fit rules (changed_cut rules rows xs) ys
  fit_behind rows xs ys fit = fits_behind rows (cut_changes rules xs) (cut_changes rules ys) (subst (AllFitIn rows) (cut_joined xs ys) fit)

  -- one change more
  module _ (old : AllRows) (changes : List Change) (i : ℕ) (change : Change) (within : i < length changes) (is : change ≡ get_or changes i change) where
    one_more : take (i + 1) changes ≡ take i changes ++ change ∷ []
    one_more = take_more changes i change within ∙ ap (λ (c : Change). take i changes ++ c ∷ []) (sym is)

    pub fit_more : Fit rules old (take i changes) → Fit rules (changed_cut rules old (take i changes)) (change ∷ []) → Fit rules old (take (i + 1) changes)
    fit_more before fits = subst (Fit rules old) (sym one_more) (fit_joined old (take i changes) (change ∷ []) before fits)

    pub fitted_more : Fit rules old (take (i + 1) changes) → Fit rules (changed_cut rules old (take i changes)) (change ∷ [])
    fitted_more fit = fit_behind old (take i changes) (change ∷ []) (subst (Fit rules old) one_more fit)

    pub changed_more : changed_cut rules old (take (i + 1) changes) ≡ changed_cut rules (changed_cut rules old (take i changes)) (change ∷ [])
    changed_more = ap (changed_cut rules old) one_more ∙ changed_cut_joined old (take i changes) (change ∷ [])
