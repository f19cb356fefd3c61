-- How many files deeds change.
use Rattle.std.proofs.Common.{◌≡◌, ℕ, zero, suc, Bool, true, false, List, [], ◌∷◌, ◌++◌, Some, length, take, drop, get_or, reverse, ◌≤◌, ◌<◌, ◌+◌, refl, sym, ap, subst, ◌∙◌, append_assoc, arith, add-one, drop-cons}
use Rattle.std.specs.Prelude.{if◌then◌else◌, insert, nat_lt}
use Rattle.std.specs.Ordering.{is_eq, is_lt}
use Rattle.std.specs.declared.cmp.Ordering.{Ordering}
use Rattle.std.specs.declared.cmp.Ordering.TheVariants.{Less, Equal, Greater}
use Rattle.std.proofs.lemmas.List.{take_more, reverse-append, take-append-drop}
use Rattle.std.proofs.lemmas.Bool.Decides.{nat_tests}
use Rattle.depot_rows.specs.depot_path.Bytes.{same}
use Rattle.depot_rows.specs.depot_path.Order.{path_cmp}
use Rattle.depot_rows.specs.depot_path.OrderLaws.{paths_ties}
use Rattle.depot_rows.specs.depot_model.Arguments.{changed_paths, paths_of, within_files}
use Rattle.depot_rows.specs.depot_model.Deeds as model
use Rattle.depot_rows.specs.depot_model.Sorted.{all_inserted, is_before, path_inserted}
use Rattle.depot_rows.specs.depot_model.Refusals.{refusal_row}
use Rattle.depot_rows.specs.depot_model.Step.{Step as ModelStep, refuses}
use Rattle.depot_rows.specs.depot_model.declared.refusal.Limit.TheVariants.{Files}
use Rattle.depot_rows.specs.depot_model.declared.refusal.Refusal.TheVariants.{OverLimit}
use Rattle.reply_rows.specs.declared.step.Step.{Step}
use Rattle.reply_rows.specs.Made.{IsMade, told}
use Rattle.reply_rows.proofs.Joined.{made_refusal}
use Rattle.depot_rows.specs.depot_model.declared.reply.Row.{Row}
use Rattle.depot_rows.specs.table_changes.Changed.{AllRows}
use Rattle.depot_rows.specs.Deed.{IsDeed}
use Rattle.depot_rows.specs.Effects.{Follow}
use Rattle.depot_rows.specs.declared.deed.Deed.{Deed}
use Rattle.depot_rows.specs.declared.deed.Deed.TheVariants.{Spec, Guard, Group, Count, Pend, Drop, Open, Shut, Hold, Free, Got, Tag, Owe, Paid, Land}
use Rattle.file_steps.specs.Limits.{changed_by, files_changed}

-- ---- the files of the model's deeds

told_by : (told deed : model.Deed) → Some told ≡ Some deed → changed_paths told ≡ changed_paths deed
told_by told deed e = let one : told ≡ deed = cc in ap changed_paths one

one_deed : (d : List model.Deed) (done : Deed) (deed : model.Deed) → IsDeed d done deed → changed_by done ≡ changed_paths deed
one_deed d (Spec kind name form) deed is = told_by _ deed is
one_deed d (Guard lines) deed is = told_by _ deed is
one_deed d (Group name users) deed is = told_by _ deed is
one_deed d (Count name value) deed is = told_by _ deed is
one_deed d (Pend p) deed is = told_by _ deed is
one_deed d (Drop n) deed is = told_by _ deed is
one_deed d (Open o) deed is = told_by _ deed is
one_deed d (Shut held) deed is = told_by _ deed is
one_deed d (Hold held) deed is = told_by _ deed is
one_deed d (Free held) deed is = told_by _ deed is
one_deed d (Got held rev) deed is = told_by _ deed is
one_deed d (Tag label path rev) deed is = told_by _ deed is
one_deed d (Owe o) deed is = told_by _ deed is
one_deed d (Paid held from how) deed is = told_by _ deed is
one_deed d (Land l) deed is = ap changed_paths is.1

pub same_files : (d : List model.Deed) (dones : List Deed) (deeds : List model.Deed) → Follow d dones deeds → files_changed dones ≡ paths_of changed_paths deeds
same_files d [] [] f = refl
same_files d [] (x ∷ deeds) f = absurd f
same_files d (a ∷ dones) [] f = absurd f
same_files d (a ∷ dones) (x ∷ deeds) f = λ i. all_inserted (one_deed d a x f.0 i) (same_files (x ∷ d) dones deeds f.2 i)

-- ---- their number

not_shorter : (p : List ℕ) (ps : List (List ℕ)) → (length ps ≤ length (path_inserted p ps)) × (length (path_inserted p ps) ≤ length ps + 1)
not_shorter p [] = (omega arith, omega arith)
not_shorter p (q ∷ qs) = go (same p q) (is_before p q) (not_shorter p qs)
  where
    go : (s t : Bool) → (length qs ≤ length (path_inserted p qs)) × (length (path_inserted p qs) ≤ length qs + 1)
        → (length (q ∷ qs) ≤ length (if s then q ∷ qs else (if t then p ∷ q ∷ qs else q ∷ path_inserted p qs)))
        × (length (if s then q ∷ qs else (if t then p ∷ q ∷ qs else q ∷ path_inserted p qs)) ≤ length (q ∷ qs) + 1)
    go true t more = (omega arith, omega arith)
    go false true more = (omega arith, omega arith)
    go false false more = (omega (arith, more.0, more.1), omega (arith, more.0, more.1))

one_more : (done : Deed) (ps : List (List ℕ)) → (length ps ≤ length (all_inserted (changed_by done) ps)) × (length (all_inserted (changed_by done) ps) ≤ length ps + 1)
one_more (Open o) ps = not_shorter o.path ps
one_more (Shut held) ps = not_shorter held.path ps
one_more (Hold held) ps = not_shorter held.path ps
one_more (Free held) ps = not_shorter held.path ps
one_more (Got held rev) ps = not_shorter held.path ps
one_more (Tag label path rev) ps = not_shorter path ps
one_more (Owe o) ps = not_shorter o.path ps
one_more (Paid held from how) ps = not_shorter held.path ps
one_more (Spec kind name form) ps = (omega arith, omega arith)
one_more (Guard lines) ps = (omega arith, omega arith)
one_more (Group name users) ps = (omega arith, omega arith)
one_more (Count name value) ps = (omega arith, omega arith)
one_more (Pend p) ps = (omega arith, omega arith)
one_more (Drop n) ps = (omega arith, omega arith)
one_more (Land l) ps = (omega arith, omega arith)

-- no more files than deeds
pub few_files : (dones : List Deed) → length (files_changed dones) ≤ length dones
few_files [] = omega arith
few_files (a ∷ dones) = let more = one_more a (files_changed dones) in let rest = few_files dones in omega (arith, more.1)

-- no fewer of all deeds than of the last
pub more_files : (dones : List Deed) (i : ℕ) → length (files_changed (drop i dones)) ≤ length (files_changed dones)
more_files dones zero = omega arith
more_files [] (suc i) = omega arith
more_files (a ∷ dones) (suc i) = let more = one_more a (files_changed dones) in let rest = more_files dones i in omega (arith, more.0)

-- ---- the place of a path

pub placed : (p q : List ℕ) (rest : List (List ℕ)) (o : Ordering) → path_cmp p q ≡ o
    → path_inserted p (q ∷ rest) ≡ (if is_eq o then q ∷ rest else (if is_lt o then p ∷ q ∷ rest else q ∷ path_inserted p rest))
placed p q rest o e = λ i.
    if (paths_ties p q ∙ ap is_eq e) i then q ∷ rest else (if is_lt (e i) then p ∷ q ∷ rest else q ∷ path_inserted p rest)

module _ (paths : List (List ℕ)) (p : List ℕ) where
  -- what stands from a place on, before what is left to look at
  abbrev pub looked : ℕ → Type 0
  looked at = path_inserted p (reverse paths) ≡ reverse (drop at paths) ++ path_inserted p (reverse (take at paths))

  module _ (at : ℕ) (q : List ℕ) (within : at < length paths) (is : q ≡ get_or paths at q) where
    front : reverse (take (at + 1) paths) ≡ q ∷ reverse (take at paths)
    front = ap (λ (x : List (List ℕ)). reverse x) (take_more paths at q within ∙ ap (λ (y : List ℕ). take at paths ++ y ∷ []) (sym is)) ∙ reverse-append (take at paths) (q ∷ [])

    back : reverse (drop at paths) ≡ reverse (drop (at + 1) paths) ++ q ∷ []
    back =
        ap (λ (x : List (List ℕ)). reverse x) (drop-cons paths at q within ∙ (λ j. sym is j ∷ drop (sym (add-one at) j) paths))
        ∙ reverse-append (q ∷ []) (drop (at + 1) paths)

    whole : reverse (drop (at + 1) paths) ++ q ∷ reverse (take at paths) ≡ reverse paths
    whole =
        sym (append_assoc (reverse (drop (at + 1) paths)) (q ∷ []) (reverse (take at paths))) ∙ ap (λ (x : List (List ℕ)). x ++ reverse (take at paths)) (sym back)
        ∙ sym (reverse-append (take at paths) (drop at paths)) ∙ ap (λ (x : List (List ℕ)). reverse x) (take-append-drop at paths)

    pub it_is_there : looked (at + 1) → path_cmp p q ≡ Equal → reverse paths ≡ path_inserted p (reverse paths)
    it_is_there h e =
        sym whole ∙ ap (λ (x : List (List ℕ)). reverse (drop (at + 1) paths) ++ x) (sym (placed p q (reverse (take at paths)) Equal e))
        ∙ ap (λ (x : List (List ℕ)). reverse (drop (at + 1) paths) ++ path_inserted p x) (sym front) ∙ sym h

    pub it_goes_here : looked (at + 1) → path_cmp p q ≡ Less → reverse (insert paths (at + 1) p) ≡ path_inserted p (reverse paths)
    it_goes_here h e =
        reverse-append (take (at + 1) paths) (p ∷ drop (at + 1) paths)
        ∙ ap (λ (x : List (List ℕ)). x ++ reverse (take (at + 1) paths)) (reverse-append (p ∷ []) (drop (at + 1) paths))
        ∙ append_assoc (reverse (drop (at + 1) paths)) (p ∷ []) (reverse (take (at + 1) paths))
        ∙ ap (λ (x : List (List ℕ)). reverse (drop (at + 1) paths) ++ p ∷ x) front
        ∙ ap (λ (x : List (List ℕ)). reverse (drop (at + 1) paths) ++ x) (sym (placed p q (reverse (take at paths)) Less e))
        ∙ ap (λ (x : List (List ℕ)). reverse (drop (at + 1) paths) ++ path_inserted p x) (sym front) ∙ sym h

    pub look_on : looked (at + 1) → path_cmp p q ≡ Greater → looked at
    look_on h e =
        h ∙ ap (λ (x : List (List ℕ)). reverse (drop (at + 1) paths) ++ path_inserted p x) front
        ∙ ap (λ (x : List (List ℕ)). reverse (drop (at + 1) paths) ++ x) (placed p q (reverse (take at paths)) Greater e)
        ∙ sym (append_assoc (reverse (drop (at + 1) paths)) (q ∷ []) (path_inserted p (reverse (take at paths))))
        ∙ ap (λ (x : List (List ℕ)). x ++ path_inserted p (reverse (take at paths))) (sym back)

-- ---- too many files

pub not_many : (n : ℕ) → n ≤ 10000 → false ≡ nat_lt 10000 n
not_many n h = grind (arith, nat_tests)

pub too_many : (n : ℕ) → 10000 < n → true ≡ nat_lt 10000 n
too_many n h = grind (arith, nat_tests)

-- the files of one deed more
pub one_deed_more : (deeds : List Deed) (at n : ℕ) (a : Deed) → n ≡ at + 1 → at < length deeds → a ≡ get_or deeds at a → (paths others : List (List ℕ))
    → paths ≡ files_changed (drop n deeds) → others ≡ all_inserted (changed_by a) paths → others ≡ files_changed (drop at deeds)
one_deed_more deeds at n a next within is paths others are new =
    new ∙ ap (λ (x : List (List ℕ)). all_inserted (changed_by a) x) (are ∙ ap (λ (k : ℕ). files_changed (drop k deeds)) (next ∙ add-one at))
    ∙ ap files_changed (sym (drop-cons deeds at a within ∙ (λ j. sym is j ∷ drop (suc at) deeds)))

module _ (all : AllRows) (d e : List model.Deed) (m : ModelStep) (step : Step) (made : IsMade all d e m step) (many : Bool)
    (is : many ≡ nat_lt 10000 (length (files_changed step.deeds))) where
  tested : nat_lt 10000 (length (paths_of changed_paths m.deeds)) ≡ many
  tested = ap (λ (x : List (List ℕ)). nat_lt 10000 (length x)) (sym (same_files e step.deeds m.deeds made.deeds)) ∙ sym is

  pub kept_within : many ≡ false → IsMade all d e (within_files m) step
  kept_within few = subst (λ (b : Bool). IsMade all d e (if b then refuses (OverLimit Files) else m) step) (sym (tested ∙ few)) made

  pub refused_over : many ≡ true → (row : Row) → row ≡ refusal_row (OverLimit Files) → (other : Step) → other ≡ told (row ∷ []) → IsMade all d e (within_files m) other
  refused_over over row why other is =
      subst (λ (b : Bool). IsMade all d e (if b then refuses (OverLimit Files) else m) other) (sym (tested ∙ over))
      (made_refusal all d e (OverLimit Files) row other why is)
