-- Steps one after another, and which files earlier arguments took.
use Rattle.std.proofs.Common.{◌≡◌, ℕ, Bool, true, false, List, [], ◌∷◌, ◌++◌, length, take, drop, get_or, ◌≤◌, ◌<◌, ◌+◌, ◌-◌, refl, sym, ap, subst, ◌∙◌, append_assoc, append-nil, arith, add-one, drop-cons}
use Rattle.std.specs.Prelude.{not, ◌&&◌, ◌||◌, filter, flat_map, if◌then◌else◌}
use Rattle.std.specs.List.{list_any}
use Rattle.std.proofs.lemmas.List.{take_all, take_more}
use Rattle.std.proofs.lemmas.List.Folds.{list_any-append}
use Rattle.std.proofs.lemmas.Slice.Eq.{bytes_eq-Decides}
use Rattle.std.proofs.lemmas.Bool.{and_parts, or_right}
use Rattle.depot_rows.specs.depot_path.Bytes.{same}
use Rattle.depot_rows.specs.depot_model.declared.command.FileArgument.{FileArgument}
use Rattle.depot_rows.specs.depot_model.Arguments.{each_or, not_in, over}
use Rattle.depot_rows.specs.table_changes.Changed.{AllRows}
use Rattle.depot_rows.specs.depot_model.Deeds.{Deed}
use Rattle.depot_rows.specs.depot_model.Step.{Step as ModelStep, after, all_of, both, in_turn, nothing}
use Rattle.reply_rows.specs.declared.step.Step.{Step}
use Rattle.reply_rows.specs.Made.{IsMade, told}
use Rattle.reply_rows.proofs.Bare.{tells_made}
use Rattle.reply_rows.proofs.Joined.{after_on, both_assoc, both_nothing, made_on, then_on}
use Rattle.file_steps.specs.Goes.{Goes}

-- ---- steps one after another

-- more is done, after which the depot is one of others
pub turn_on : (Was Is : List Deed → Type 0) (all : AllRows) (d e : List Deed) (m more : ModelStep) (step other joined : Step) → Goes Was all d e m step
    → IsMade all d (after e m.deeds) more other → Is (after (after e m.deeds) more.deeds) → joined.deeds ≡ step.deeds ++ other.deeds → joined.rows ≡ step.rows ++ other.rows
    → joined.stores ≡ step.stores ++ other.stores → joined.reads ≡ step.reads ++ other.reads → Goes Is all d e (both m more) joined
turn_on Was Is all d e m more step other joined goes made there deeds rows stores reads =
    let is : joined ≡ then_on step other = λ i. record { deeds = deeds i; rows = rows i; stores = stores i; reads = reads i } in
    record {
      made = subst (λ (x : Step). IsMade all d e (both m more) x) (sym is) (made_on all d e m more step other goes.made made);
      there = subst Is (sym (after_on e m.deeds more.deeds)) there;
    }

-- nothing is done yet
pub goes_from : (IsSome : List Deed → Type 0) (all : AllRows) (d e : List Deed) (step : Step) → step ≡ told [] → IsSome e → Goes IsSome all d e nothing step
goes_from IsSome all d e step none there = record {
  made = subst (λ (x : Step). IsMade all d e nothing x) (sym none) (tells_made all d e [] tt);
  there = there;
}

-- the depot is one of others too
pub goes_on : (Was Is : List Deed → Type 0) (all : AllRows) (d e : List Deed) (m : ModelStep) (step : Step) → ((f : List Deed) → Was f → Is f) → Goes Was all d e m step
    → Goes Is all d e m step
goes_on Was Is all d e m step on goes = record { made = goes.made; there = on (after e m.deeds) goes.there }

-- nothing more is done
pub goes_nowhere : (IsSome : List Deed → Type 0) (all : AllRows) (d e : List Deed) (m more : ModelStep) (step : Step) → Goes IsSome all d e m step → more ≡ nothing
    → Goes IsSome all d e (both m more) step
goes_nowhere IsSome all d e m more step goes none =
    subst (λ (x : ModelStep). Goes IsSome all d e x step) (sym (ap (both m) none ∙ both_nothing m)) goes

-- a file is done, unless it was taken
pub file_done : (Was Is : List Deed → Type 0) (all : AllRows) (d e : List Deed) (m more : ModelStep) (step other joined : Step) (taken : Bool) → taken ≡ false
    → Goes Was all d e m step → IsMade all d (after e m.deeds) more other → Is (after (after e m.deeds) more.deeds) → joined.deeds ≡ step.deeds ++ other.deeds
    → joined.rows ≡ step.rows ++ other.rows → joined.stores ≡ step.stores ++ other.stores → joined.reads ≡ step.reads ++ other.reads
    → Goes Is all d e (both m (if taken then nothing else more)) joined
file_done Was Is all d e m more step other joined true left goes made there deeds rows stores reads = absurd cc
file_done Was Is all d e m more step other joined false left goes made there deeds rows stores reads =
    turn_on Was Is all d e m more step other joined goes made there deeds rows stores reads

-- ---- the files of an argument one after another

first_kept : (f : List ℕ → Bool) (p : List ℕ) (rest : List (List ℕ)) → (if f p then p ∷ [] else []) ++ filter f rest ≡ filter f (p ∷ rest)
first_kept f p rest = go (f p)
  where
    go : (b : Bool) → (if b then p ∷ [] else []) ++ filter f rest ≡ (if b then p ∷ filter f rest else filter f rest)
    go true = refl
    go false = refl

pub kept_on : (f : List ℕ → Bool) (before so_far : List (List ℕ)) (p : List ℕ) (items rest whole : List (List ℕ)) → items ≡ p ∷ rest
    → so_far ≡ before ++ (if f p then p ∷ [] else []) → before ++ filter f items ≡ whole → so_far ++ filter f rest ≡ whole
kept_on f before so_far p items rest whole are new old =
    (λ i. new i ++ filter f rest) ∙ append_assoc before (if f p then p ∷ [] else []) (filter f rest)
    ∙ ap (λ (x : List (List ℕ)). before ++ x) (first_kept f p rest) ∙ ap (λ (x : List (List ℕ)). before ++ filter f x) (sym are) ∙ old

-- the first item and those behind it
pub parted : {A : Type 0} (rest : List A) (p : A) → 1 ≤ length rest → p ≡ get_or rest 0 p → p ∷ take (length rest - 1) (drop 1 rest) ≡ rest
parted [] p few is = absurd (omega arith)
parted (x ∷ rest) p few is = λ i. is i ∷ take_all (length (x ∷ rest) - 1) rest (omega arith) i

pub files_next : (act : List ℕ → ModelStep) (taken : List ℕ → Bool) (m : ModelStep) (p : List ℕ) (rest : List (List ℕ))
    → both (both m (if taken p then nothing else act p)) (all_of act (filter (λ x. not (taken x)) rest))
    ≡ both m (all_of act (filter (λ x. not (taken x)) (p ∷ rest)))
files_next act taken m p rest = go (taken p)
  where
    go : (t : Bool) → both (both m (if t then nothing else act p)) (all_of act (filter (λ x. not (taken x)) rest))
        ≡ both m (all_of act (if not t then p ∷ filter (λ x. not (taken x)) rest else filter (λ x. not (taken x)) rest))
    go true = ap (λ (n : ModelStep). both n (all_of act (filter (λ x. not (taken x)) rest))) (both_nothing m)
    go false = both_assoc m (act p) (all_of act (filter (λ x. not (taken x)) rest))

pub each_of_some : (missing : ModelStep) (act : List ℕ → ModelStep) (found left : List (List ℕ)) → (found ≡ [] → ⊥) → each_or missing act found left ≡ all_of act left
each_of_some missing act [] left some = absurd (some refl)
each_of_some missing act (p ∷ found) left some = refl

pub each_of_none : (missing : ModelStep) (act : List ℕ → ModelStep) (found left : List (List ℕ)) → found ≡ [] → each_or missing act found left ≡ missing
each_of_none missing act found left none = ap (λ (x : List (List ℕ)). each_or missing act x left) none

-- all files, where there is no argument
pub everything_done : (act : List ℕ → ModelStep) (found : List (List ℕ)) → all_of act (not_in [] found) ≡ both (each_or nothing act found (not_in [] found)) nothing
everything_done act [] = refl
everything_done act (p ∷ found) = sym (both_nothing (all_of act (not_in [] (p ∷ found))))

-- ---- which files earlier arguments took

same_is : (a b : List ℕ) → same a b ≡ true → a ≡ b
same_is a b e = (bytes_eq-Decides a b).0 e

same_self : (a : List ℕ) → same a a ≡ true
same_self a = (bytes_eq-Decides a a).1 refl

and_false : (a : Bool) → (a && false) ≡ false
and_false true = refl
and_false false = refl

in_filter : (p : List ℕ) (f : List ℕ → Bool) (xs : List (List ℕ)) → list_any (same p) (filter f xs) ≡ (list_any (same p) xs && f p)
in_filter p f [] = refl
in_filter p f (x ∷ xs) = go (f x) refl (same p x) refl (in_filter p f xs)
  where
    go : (b : Bool) → f x ≡ b → (s : Bool) → same p x ≡ s → list_any (same p) (filter f xs) ≡ (list_any (same p) xs && f p)
        → list_any (same p) (if b then x ∷ filter f xs else filter f xs) ≡ ((s || list_any (same p) xs) && f p)
    go true e true k more = (λ i. k i || list_any (same p) (filter f xs)) ∙ sym (ap f (same_is p x k) ∙ e)
    go true e false k more = (λ i. k i || list_any (same p) (filter f xs)) ∙ more
    go false e true k more =
        let not_it : f p ≡ false = ap f (same_is p x k) ∙ e in
        more ∙ ap (λ b. list_any (same p) xs && b) not_it ∙ and_false (list_any (same p) xs) ∙ sym not_it
    go false e false k more = more

filter_alike : (f g : List ℕ → Bool) (xs : List (List ℕ)) → ((p : List ℕ) → list_any (same p) xs ≡ true → f p ≡ g p) → filter f xs ≡ filter g xs
filter_alike f g [] alike = refl
filter_alike f g (x ∷ xs) alike =
    let here : f x ≡ g x = alike x (ap (λ b. b || list_any (same x) xs) (same_self x)) in
    let more = filter_alike f g xs (λ p is. alike p (or_right (same p x) (list_any (same p) xs) is)) in
    λ i. if here i then x ∷ more i else more i

module _ (names : FileArgument → List ℕ → Bool) (files : List (List ℕ)) where
  abbrev pub found : FileArgument → List (List ℕ)
  found a = filter (names a) files

  abbrev pub taken : List FileArgument → List ℕ → Bool
  taken earlier p = list_any (λ a. names a p) earlier

  taken_is : (p : List ℕ) → list_any (same p) files ≡ true → (earlier : List FileArgument) → list_any (same p) (flat_map found earlier) ≡ taken earlier p
  taken_is p is [] = refl
  taken_is p is (a ∷ earlier) =
      list_any-append (same p) (found a) (flat_map found earlier)
      ∙ (λ i. (in_filter p (names a) files ∙ ap (λ b. b && names a p) is) i || taken_is p is earlier i)

  pub left_is : (earlier : List FileArgument) (a : FileArgument) → not_in (flat_map found earlier) (found a) ≡ filter (λ p. not (taken earlier p)) (found a)
  left_is earlier a =
      filter_alike (λ p. not (list_any (same p) (flat_map found earlier))) (λ p. not (taken earlier p)) (found a) (λ p is.
      ap not (taken_is p (and_parts (list_any (same p) files) (names a p) (sym (in_filter p (names a) files) ∙ is)).0 earlier))

  -- ---- arguments one after another

  module _ (missing : FileArgument → ModelStep) (act : FileArgument → List ℕ → ModelStep) where
    abbrev pub done_for : List FileArgument → FileArgument → ModelStep
    done_for earlier a = each_or (missing a) (act a) (found a) (not_in (flat_map found earlier) (found a))

    flat_map_more : (earlier : List FileArgument) (a : FileArgument) → flat_map found (earlier ++ a ∷ []) ≡ flat_map found earlier ++ found a
    flat_map_more [] a = append-nil (found a)
    flat_map_more (b ∷ earlier) a =
        ap (λ (x : List (List ℕ)). found b ++ x) (flat_map_more earlier a) ∙ sym (append_assoc (found b) (flat_map found earlier) (found a))

    pub over_next : (m : ModelStep) (earlier : List FileArgument) (a : FileArgument) (later : List FileArgument)
        → both (both m (done_for earlier a)) (over found missing act (flat_map found (earlier ++ a ∷ [])) later)
        ≡ both m (over found missing act (flat_map found earlier) (a ∷ later))
    over_next m earlier a later =
        ap (λ (x : List (List ℕ)). both (both m (done_for earlier a)) (over found missing act x later)) (flat_map_more earlier a)
        ∙ both_assoc m (done_for earlier a) (over found missing act (flat_map found earlier ++ found a) later)

    pub over_on : (m : ModelStep) (arguments : List FileArgument) (i : ℕ) (a : FileArgument) → i < length arguments → a ≡ get_or arguments i a
        → both (both m (done_for (take i arguments) a)) (over found missing act (flat_map found (take (i + 1) arguments)) (drop (i + 1) arguments))
        ≡ both m (over found missing act (flat_map found (take i arguments)) (drop i arguments))
    over_on m arguments i a within is =
        let front : take (i + 1) arguments ≡ take i arguments ++ a ∷ [] = take_more arguments i a within ∙ ap (λ (x : FileArgument). take i arguments ++ x ∷ []) (sym is) in
        let back : drop i arguments ≡ a ∷ drop (i + 1) arguments = drop-cons arguments i a within ∙ (λ j. sym is j ∷ drop (sym (add-one i) j) arguments) in
        ap (λ (x : List FileArgument). both (both m (done_for (take i arguments) a)) (over found missing act (flat_map found x) (drop (i + 1) arguments))) front
        ∙ over_next m (take i arguments) a (drop (i + 1) arguments)
        ∙ ap (λ (x : List FileArgument). both m (over found missing act (flat_map found (take i arguments)) x)) (sym back)

-- ---- files in turn

pub turn_next : (acts : List Deed → List ℕ → ModelStep) (e : List Deed) (m : ModelStep) (p : List ℕ) (rest : List (List ℕ))
    → both (both m (acts (after e m.deeds) p)) (in_turn acts (after e (both m (acts (after e m.deeds) p)).deeds) rest) ≡ both m (in_turn acts (after e m.deeds) (p ∷ rest))
turn_next acts e m p rest =
    ap (λ (x : List Deed). both (both m (acts (after e m.deeds) p)) (in_turn acts x rest)) (after_on e m.deeds (acts (after e m.deeds) p).deeds)
    ∙ both_assoc m (acts (after e m.deeds) p) (in_turn acts (after (after e m.deeds) (acts (after e m.deeds) p).deeds) rest)
