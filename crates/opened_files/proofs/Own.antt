-- The files that a client has opened are those that it is shown.
use Rattle.std.proofs.Common.{◌≡◌, ℕ, Bool, true, false, List, [], ◌∷◌, refl, sym, ap, ◌∙◌, length, arith, Option, Some, None}
use Rattle.std.specs.Prelude.{◌||◌, filter, if◌then◌else◌, is_some, nat_lt}
use Rattle.std.specs.List.{list_any}
use Rattle.std.proofs.lemmas.Bool.{false≢true, or_right}
use Rattle.std.proofs.lemmas.Bool.Decides.{nat_tests}
use Rattle.depot_rows.specs.depot_path.Bytes.{same}
use Rattle.depot_rows.specs.depot_model.declared.request.Caller.{Caller}
use Rattle.depot_rows.specs.depot_model.Arguments.{open_paths, opened_by, paths_of}
use Rattle.depot_rows.specs.depot_model.Deeds.{Deed, Opening}
use Rattle.depot_rows.specs.depot_model.Latest.{keys_of}
use Rattle.depot_rows.specs.depot_model.Opened.{opened}
use Rattle.depot_rows.specs.depot_model.Steps.Opening.{opener_of, openers}
use Rattle.depot_rows.specs.depot_model.Steps.Reverting.{opened_files, openers_shown}
use Rattle.depot_rows.proofs.Keys.{same-is}
use Rattle.file_openings.proofs.Told.{named}

some_kept : (test : List ℕ → Bool) (cs : List (List ℕ)) → nat_lt 0 (length (filter test cs)) ≡ list_any test cs
some_kept test [] = refl
some_kept test (c ∷ cs) = go (test c) (some_kept test cs)
  where
    go : (b : Bool) → nat_lt 0 (length (filter test cs)) ≡ list_any test cs → nat_lt 0 (length (if b then c ∷ filter test cs else filter test cs)) ≡ (b || list_any test cs)
    go true more = grind (arith, nat_tests)
    go false more = more

module _ (d : List Deed) (client path : List ℕ) where
  abbrev has_it : List ℕ → Bool
  has_it c = is_some (opened d c path)

  -- the client is among those that have the file opened where it has, and not where it hasn't
  is_there : (cs : List (List ℕ)) → has_it client ≡ true → list_any (same client) cs ≡ true → list_any (same client) (filter has_it cs) ≡ true
  is_there [] e there = absurd (false≢true there)
  is_there (c ∷ cs) e there = go (has_it c) refl (same client c) refl there (is_there cs e)
    where
      go : (b : Bool) → has_it c ≡ b → (s : Bool) → same client c ≡ s → (s || list_any (same client) cs) ≡ true
          → (list_any (same client) cs ≡ true → list_any (same client) (filter has_it cs) ≡ true)
          → list_any (same client) (if b then c ∷ filter has_it cs else filter has_it cs) ≡ true
      go true k true n h more = ap (λ s. s || list_any (same client) (filter has_it cs)) n
      go true k false n h more = or_right (same client c) (list_any (same client) (filter has_it cs)) (more h)
      go false k true n h more = absurd (false≢true (sym k ∙ sym (ap has_it (same-is client c n)) ∙ e))
      go false k false n h more = more h

  is_not_there : (cs : List (List ℕ)) → has_it client ≡ false → list_any (same client) (filter has_it cs) ≡ false
  is_not_there [] e = refl
  is_not_there (c ∷ cs) e = go (has_it c) refl (same client c) refl (is_not_there cs e)
    where
      go : (b : Bool) → has_it c ≡ b → (s : Bool) → same client c ≡ s → list_any (same client) (filter has_it cs) ≡ false
          → list_any (same client) (if b then c ∷ filter has_it cs else filter has_it cs) ≡ false
      go true k true n more = absurd (false≢true (sym e ∙ ap has_it (same-is client c n) ∙ k))
      go true k false n more = ap (λ s. s || list_any (same client) (filter has_it cs)) n ∙ more
      go false k s n more = more

  shown_is : nat_lt 0 (length (filter (same client) (openers d path))) ≡ is_some (opened d client path)
  shown_is = some_kept (same client) (openers d path) ∙ go (opened d client path) refl
    where
      go : (o : Option Opening) → opened d client path ≡ o → list_any (same client) (openers d path) ≡ is_some (opened d client path)
      go None e = is_not_there (keys_of (opener_of path) d) (ap is_some e) ∙ sym (ap is_some e)
      go (Some o) e = is_there (keys_of (opener_of path) d) (ap is_some e) (named client path o d e) ∙ sym (ap is_some e)

filters_alike : (f g : List ℕ → Bool) → ((p : List ℕ) → f p ≡ g p) → (ps : List (List ℕ)) → filter f ps ≡ filter g ps
filters_alike f g alike [] = refl
filters_alike f g alike (p ∷ ps) = λ i. if alike p i then p ∷ filters_alike f g alike ps i else filters_alike f g alike ps i

pub opened_by_is : (d : List Deed) (caller : Caller) → opened_by d caller.client ≡ opened_files false d caller
opened_by_is d caller =
    filters_alike (λ path. is_some (opened d caller.client path)) (λ path. nat_lt 0 (length (openers_shown false d caller path))) (λ path. sym (shown_is d caller.client path))
    (paths_of open_paths d)
