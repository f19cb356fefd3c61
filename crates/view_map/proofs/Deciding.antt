-- The last line that takes a file decides for it.
use Rattle.std.proofs.Common.{◌≡◌, ℕ, Bool, true, false, cond, List, [], ◌∷◌, ◌++◌, Option, Some, None, refl, sym, ap, ◌∙◌}
use Rattle.std.specs.Prelude.{◌||◌}
use Rattle.std.proofs.lemmas.List.Folds.{list_any-append}
use Rattle.std.proofs.lemmas.Bool.{or_from}
use Rattle.depot_path.specs.Fit.{fits}
use Rattle.view_map.specs.Carry.{client_path, is_exclusion, is_overlay, takes}
use Rattle.view_map.specs.Mapping.{hides, taken_by_some, hidden_by_some, unhidden, given_by, path_in, after_deciding, at_path, mapped}
use Rattle.view_map.specs.declared.line.ViewLine.{ViewLine}
use Rattle.view_map.specs.declared.mapped.Mapped.TheVariants.{Nothing}

or_true : (a b c : Bool) → b ≡ true → (a || (b || c)) ≡ true
or_true true b c e = refl
or_true false true c e = refl
or_true false false c e = absurd cc

some_takes : (before after : List ViewLine) (line : ViewLine) (file : List ℕ) → takes file line ≡ true → taken_by_some (before ++ line ∷ after) file ≡ true
some_takes before after line file e = list_any-append (takes file) before (line ∷ after) ∙ or_true (taken_by_some before file) (takes file line) (taken_by_some after file) e

pub decides : (before after : List ViewLine) (line : ViewLine) (file : List ℕ) → takes file line ≡ true → taken_by_some after file ≡ false →
    mapped (before ++ line ∷ after) file ≡ at_path after (given_by line after file)
decides [] after line file e f = rw f refl
decides (first ∷ before) after line file e f = rw (some_takes before after line file e) (decides before after line file e f)

pub excludes : (before after : List ViewLine) (line : ViewLine) (file : List ℕ) → is_exclusion line.sign ≡ true → fits line.depot file ≡ true → taken_by_some after file ≡ false →
    mapped (before ++ line ∷ after) file ≡ Nothing
excludes before after line file x t f = decides before after line file (taken_out line x t) f ∙ ap (at_path after) (given_out line x)
  where
    taken_out : (line : ViewLine) → is_exclusion line.sign ≡ true → fits line.depot file ≡ true → takes file line ≡ true
    taken_out line x t = rw x t

    given_out : (line : ViewLine) → is_exclusion line.sign ≡ true → given_by line after file ≡ None
    given_out line x = rw x refl

-- ---- a line that hides a path

hidden_there : (before after : List ViewLine) (line : ViewLine) (path : List ℕ) → hides path line ≡ true → hidden_by_some (before ++ line ∷ after) path ≡ true
hidden_there before after line path e = list_any-append (hides path) before (line ∷ after) ∙ or_true (hidden_by_some before path) (hides path line) (hidden_by_some after path) e

-- a file that no later line takes has no other path than the one it had, and none where that is hidden
hidden_path : (first : ViewLine) (before rest : List ViewLine) (file path : List ℕ) → given_by first before file ≡ Some path → hidden_by_some (before ++ rest) path ≡ true →
    given_by first (before ++ rest) file ≡ None
hidden_path first before rest file path e h = go (is_exclusion first.sign) (client_path first file) e
  where
    go : (b : Bool) (o : Option (List ℕ)) → cond b None (unhidden before o) ≡ Some path → cond b None (unhidden (before ++ rest) o) ≡ None
    go true o e = refl
    go false None e = refl
    go false (Some p) e = here (hidden_by_some before p) e
      where
        here : (b : Bool) → cond b None (Some p) ≡ Some path → unhidden (before ++ rest) (Some p) ≡ None
        here true e = absurd cc
        here false e = let same_path : path ≡ p = cc in rw (ap (hidden_by_some (before ++ rest)) (sym same_path) ∙ h) refl

none_left : (before rest : List ViewLine) (file path : List ℕ) → path_in before file ≡ Some path → taken_by_some rest file ≡ false → hidden_by_some (before ++ rest) path ≡ true →
    ((b : List ViewLine) → hidden_by_some (b ++ rest) path ≡ true) → path_in (before ++ rest) file ≡ None
none_left [] rest file path e t h any = absurd cc
none_left (first ∷ before) rest file path e t h any = go (taken_by_some before file) refl e (λ f. none_left before rest file path f t (any before) any)
  where
    taken_is : taken_by_some (before ++ rest) file ≡ (taken_by_some before file || taken_by_some rest file)
    taken_is = list_any-append (takes file) before rest

    go : (b : Bool) → taken_by_some before file ≡ b → cond b (path_in before file) (given_by first before file) ≡ Some path →
        (path_in before file ≡ Some path → path_in (before ++ rest) file ≡ None) → path_in (first ∷ (before ++ rest)) file ≡ None
    go true f e later = let g : taken_by_some (before ++ rest) file ≡ true = taken_is ∙ ap (λ b. b || taken_by_some rest file) f in rw g (later e)
    go false f e later =
        let g : taken_by_some (before ++ rest) file ≡ false = taken_is ∙ or_from (taken_by_some before file) (taken_by_some rest file) f t in
        rw g (hidden_path first before rest file path e (any before))

pub hidden_later : (before after : List ViewLine) (line : ViewLine) (file path : List ℕ) → path_in before file ≡ Some path → is_overlay line.sign ≡ false →
    fits line.client path ≡ true → taken_by_some (line ∷ after) file ≡ false → mapped (before ++ line ∷ after) file ≡ Nothing
hidden_later before after line file path e o t f =
    let h : hides path line ≡ true = hiding line o t in
    ap (at_path (after_deciding (before ++ line ∷ after) file))
    (none_left before (line ∷ after) file path e f (hidden_there before after line path h) (λ b. hidden_there b after line path h))
  where
    hiding : (line : ViewLine) → is_overlay line.sign ≡ false → fits line.client path ≡ true → hides path line ≡ true
    hiding line o t = rw o t
