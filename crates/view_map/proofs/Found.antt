-- The files at a client path are those that the view maps to it.
use Rattle.std.proofs.Common.{◌≡◌, ◌⊎◌, inl, inr, ℕ, zero, suc, ◌≤◌, ◌<◌, Bool, true, false, cond, List, [], ◌∷◌, ◌++◌, length, Option, Some, None, refl, sym, ap, subst, ◌∙◌, arith, append_assoc}
use Rattle.std.specs.Prelude.{◌&&◌, ◌||◌, not}
use Rattle.std.specs.List.{list_all, Contains, slice_index_or, IsDistinct, AllByRecursion}
use Rattle.std.specs.Cmp.Lexicographic.{same_text}
use Rattle.std.proofs.lemmas.List.{append-nil}
use Rattle.std.proofs.lemmas.List.Elements.{Contains-append_left, Contains-append_right, Contains-append_cases, Contains-push}
use Rattle.std.proofs.lemmas.Bool.{and_parts, or_parts}
use Rattle.depot_path.specs.Bytes.{same}
use Rattle.depot_path.specs.Path.{is_path}
use Rattle.depot_path.specs.Fit.{fits}
use Rattle.view_map.specs.Carry.{client_path, depot_file, is_paired, is_exclusion, is_overlay, has_overlay}
use Rattle.view_map.specs.Mapping.{hides, taken_by_some, hidden_by_some, unhidden, given_by, path_in, file_by, files_at, after_deciding, at_path, mapped}
use Rattle.view_map.specs.declared.line.ViewLine.{ViewLine}
use Rattle.view_map.specs.declared.mapped.Mapped.TheVariants.{At}
use Rattle.view_map.proofs.Exchange.{turned}
use Rattle.view_map.proofs.BothWays.{carried_back}
use Rattle.view_map.proofs.Placing.{untaken, hidden_has_none, unfit_carried}

abbrev Files : Type 0
Files = List (List ℕ)

none_some : {A : Type 0} {x : A} → (let o : Option A = None in o) ≡ Some x → ⊥
none_some e = absurd cc

not_false : (b : Bool) → (b ≡ false → ⊥) → b ≡ true
not_false true f = refl
not_false false f = absurd (f refl)

-- a file with a client path is taken
pub has_taker : (lines : List ViewLine) (file path : List ℕ) → path_in lines file ≡ Some path → taken_by_some lines file ≡ true
has_taker lines file path e = not_false (taken_by_some lines file) (λ f. none_some (sym (untaken lines file f) ∙ e))

-- what a line gives a file
pub record IsGiven (line : ViewLine) (later : List ViewLine) (file path : List ℕ) : Type 0 where
  pub maps : is_exclusion line.sign ≡ false
  pub there : client_path line file ≡ Some path
  pub shown : hidden_by_some later path ≡ false

pub is_given : (line : ViewLine) (later : List ViewLine) (file path : List ℕ) → given_by line later file ≡ Some path → IsGiven line later file path
is_given line later file path e = go (is_exclusion line.sign) refl (client_path line file) refl e
  where
    go : (b : Bool) → is_exclusion line.sign ≡ b → (o : Option (List ℕ)) → client_path line file ≡ o → cond b None (unhidden later o) ≡ Some path → IsGiven line later file path
    go true f o g e = absurd cc
    go false f None g e = absurd cc
    go false f (Some p) g e = here (hidden_by_some later p) refl e
      where
        here : (b : Bool) → hidden_by_some later p ≡ b → cond b None (Some p) ≡ Some path → IsGiven line later file path
        here true h e = absurd cc
        here false h e =
            let same_path : p ≡ path = cc in
            record { maps = f; there = g ∙ ap Some same_path; shown = ap (hidden_by_some later) (sym same_path) ∙ h }

gives : (line : ViewLine) (later : List ViewLine) (file path : List ℕ) → is_exclusion line.sign ≡ false → client_path line file ≡ Some path → hidden_by_some later path ≡ false →
    given_by line later file ≡ Some path
gives line later file path f g h = rw f (ap (unhidden later) g ∙ rw h refl)

-- that a line puts a file at a path
record IsPut (line : ViewLine) (later : List ViewLine) (path file : List ℕ) : Type 0 where
  maps : is_exclusion line.sign ≡ false
  there : depot_file line path ≡ Some file
  decides : taken_by_some later file ≡ false
  shown : hidden_by_some later path ≡ false

puts : (line : ViewLine) (later : List ViewLine) (path file : List ℕ) → is_exclusion line.sign ≡ false → depot_file line path ≡ Some file → taken_by_some later file ≡ false →
    hidden_by_some later path ≡ false → file_by line later path (depot_file line path) ≡ file ∷ []
puts line later path file f g t h = ap (file_by line later path) g ∙ rw f (rw t (rw h refl))

contained : (x y : List ℕ) → Contains (x ∷ []) y → x ≡ y
contained x y h = go h.0 h.1 h.2
  where
    go : (k : ℕ) → k < 1 → slice_index_or (x ∷ []) k y ≡ y → x ≡ y
    go zero l e = e
    go (suc k) l e = absurd (omega (arith, l))

none_contained : (y : List ℕ) → Contains [] y → ⊥
none_contained y h = absurd (omega (arith, h.1))

is_put : (line : ViewLine) (later : List ViewLine) (path file : List ℕ) → Contains (file_by line later path (depot_file line path)) file → IsPut line later path file
is_put line later path file h = go (depot_file line path) refl h
  where
    go : (o : Option (List ℕ)) → depot_file line path ≡ o → Contains (file_by line later path o) file → IsPut line later path file
    go None e h = absurd (none_contained file h)
    go (Some f) e h = here (is_exclusion line.sign) refl (taken_by_some later f) refl (hidden_by_some later path) refl h
      where
        here : (a : Bool) → is_exclusion line.sign ≡ a → (b : Bool) → taken_by_some later f ≡ b → (c : Bool) → hidden_by_some later path ≡ c →
            Contains (cond (a || b || c) [] (f ∷ [])) file → IsPut line later path file
        here true x b y c z h = absurd (none_contained file h)
        here false x true y c z h = absurd (none_contained file h)
        here false x false y true z h = absurd (none_contained file h)
        here false x false y false z h =
            let is : f ≡ file = contained f file h in
            record { maps = x; there = e ∙ ap Some is; decides = ap (taken_by_some later) (sym is) ∙ y; shown = z }

-- ---- both ways between files and client paths

abbrev pub ArePaired : List ViewLine → Type 0
ArePaired lines = list_all is_paired lines ≡ true

pub taken_case : (b : Bool) → (b ≡ true) ⊎ (b ≡ false)
taken_case true = inl refl
taken_case false = inr refl

-- where a later line takes the file
pub in_later : (line : ViewLine) (later : List ViewLine) (file : List ℕ) → taken_by_some later file ≡ true → path_in (line ∷ later) file ≡ path_in later file
in_later line later file e = rw e refl

pub in_first : (line : ViewLine) (later : List ViewLine) (file : List ℕ) → taken_by_some later file ≡ false → path_in (line ∷ later) file ≡ given_by line later file
in_first line later file e = rw e refl

pub maps_there : (lines : List ViewLine) (path file : List ℕ) → ArePaired lines → is_path path ≡ true → Contains (files_at lines path) file → path_in lines file ≡ Some path
maps_there [] path file h p c = absurd (none_contained file c)
maps_there (line ∷ later) path file h p c =
    elim (Contains-append_cases (files_at later path) (file_by line later path (depot_file line path)) file c) [
      | inl d ↦
          let e = maps_there later path file (and_parts (is_paired line) (list_all is_paired later) h).1 p d in
          in_later line later file (has_taker later file path e) ∙ e
      | inr d ↦
          let r = is_put line later path file d in
          in_first line later file r.decides
          ∙ gives line later file path r.maps (carried_back line.client line.depot path file (turned line.depot line.client (and_parts (is_paired line) (list_all is_paired later) h).0) p r.there) r.shown
    ]

just_one : (x : List ℕ) → Contains (x ∷ []) x
just_one x = Contains-push [] x

pub is_there : (lines : List ViewLine) (path file : List ℕ) → ArePaired lines → is_path file ≡ true → path_in lines file ≡ Some path → Contains (files_at lines path) file
is_there [] path file h p e = absurd cc
is_there (line ∷ later) path file h p e =
    elim (taken_case (taken_by_some later file)) [
      | inl t ↦
          Contains-append_left (files_at later path) (file_by line later path (depot_file line path)) file
          (is_there later path file (and_parts (is_paired line) (list_all is_paired later) h).1 p (sym (in_later line later file t) ∙ e))
      | inr t ↦
          let r = is_given line later file path (sym (in_first line later file t) ∙ e) in
          Contains-append_right (files_at later path) (file_by line later path (depot_file line path)) file
          (subst (λ (fs : Files). Contains fs file)
          (sym (puts line later path file r.maps (carried_back line.depot line.client file path (and_parts (is_paired line) (list_all is_paired later) h).0 p r.there) t r.shown))
          (just_one file))
    ]

-- ---- the rivals stand first

abbrev Behind : List ViewLine → List ℕ → List ℕ → Type 0
Behind lines file path = (others : Files) × (files_at lines path ≡ files_at (after_deciding lines file) path ++ file ∷ others)

decided_later : (line : ViewLine) (later : List ViewLine) (file : List ℕ) → taken_by_some later file ≡ true → after_deciding (line ∷ later) file ≡ after_deciding later file
decided_later line later file e = rw e refl

decided_first : (line : ViewLine) (later : List ViewLine) (file : List ℕ) → taken_by_some later file ≡ false → after_deciding (line ∷ later) file ≡ later
decided_first line later file e = rw e refl

stands_behind : (lines : List ViewLine) (file path : List ℕ) → ArePaired lines → is_path file ≡ true → path_in lines file ≡ Some path → Behind lines file path
stands_behind [] file path h p e = absurd cc
stands_behind (line ∷ later) file path h p e =
    elim (taken_case (taken_by_some later file)) [
      | inl t ↦
          let r = stands_behind later file path (and_parts (is_paired line) (list_all is_paired later) h).1 p (sym (in_later line later file t) ∙ e) in
          let own = file_by line later path (depot_file line path) in (
            r.0 ++ own,
            ap (λ (fs : Files). fs ++ own) r.1 ∙ append_assoc (files_at (after_deciding later file) path) (file ∷ r.0) own
                ∙ ap (λ (ls : List ViewLine). files_at ls path ++ file ∷ (r.0 ++ own)) (sym (decided_later line later file t)),
          )
      | inr t ↦
          let r = is_given line later file path (sym (in_first line later file t) ∙ e) in
          let put = puts line later path file r.maps (carried_back line.depot line.client file path (and_parts (is_paired line) (list_all is_paired later) h).0 p r.there) t r.shown in
          ([], ap (λ (fs : Files). files_at later path ++ fs) put ∙ ap (λ (ls : List ViewLine). files_at ls path ++ file ∷ []) (sym (decided_first line later file t)))
    ]

at_is : (later : List ViewLine) (o : Option (List ℕ)) (path : List ℕ) (rivals : Files) → at_path later o ≡ At path rivals → (o ≡ Some path) × (rivals ≡ files_at later path)
at_is later None path rivals e = absurd cc
at_is later (Some p) path rivals e =
    let same_path : p ≡ path = cc in
    let same_files : files_at later p ≡ rivals = cc in
    (ap Some same_path, sym same_files ∙ ap (files_at later) same_path)

pub rivals_first : (lines : List ViewLine) (file path : List ℕ) (rivals : Files) → ArePaired lines → is_path file ≡ true → mapped lines file ≡ At path rivals →
    (others : Files) × (files_at lines path ≡ rivals ++ file ∷ others)
rivals_first lines file path rivals h p e =
    let m = at_is (after_deciding lines file) (path_in lines file) path rivals e in
    let r = stands_behind lines file path h p m.0 in
    (r.0, r.1 ∙ ap (λ (fs : Files). fs ++ file ∷ r.0) (sym m.1))

-- ---- without overlay lines

unfit : (line : ViewLine) (path : List ℕ) → is_overlay line.sign ≡ false → hides path line ≡ false → fits line.client path ≡ false
unfit line path o h = ap (λ b. not b && fits line.client path) (sym o) ∙ h

nothing_put : (line : ViewLine) (later : List ViewLine) (path : List ℕ) → fits line.client path ≡ false → file_by line later path (depot_file line path) ≡ []
nothing_put line later path e = ap (file_by line later path) (unfit_carried line.client line.depot path e)

none_shown : (lines : List ViewLine) (path : List ℕ) → has_overlay lines ≡ false → hidden_by_some lines path ≡ false → files_at lines path ≡ []
none_shown [] path o h = refl
none_shown (line ∷ later) path o h =
    ap (λ (fs : Files). files_at later path ++ fs)
    (nothing_put line later path (unfit line path (or_parts (is_overlay line.sign) (has_overlay later) o).0 (or_parts (hides path line) (hidden_by_some later path) h).0))
    ∙ append-nil (files_at later path)
    ∙ none_shown later path (or_parts (is_overlay line.sign) (has_overlay later) o).1 (or_parts (hides path line) (hidden_by_some later path) h).1

few_put : (line : ViewLine) (later : List ViewLine) (path : List ℕ) (o : Option (List ℕ)) → length (file_by line later path o) ≤ 1
few_put line later path None = omega arith
few_put line later path (Some file) = go (is_exclusion line.sign || taken_by_some later file || hidden_by_some later path)
  where
    go : (b : Bool) → length (cond b [] (file ∷ [])) ≤ 1
    go true = omega arith
    go false = omega arith

at_most_one : (lines : List ViewLine) (path : List ℕ) → has_overlay lines ≡ false → length (files_at lines path) ≤ 1
at_most_one [] path o = omega arith
at_most_one (line ∷ later) path o =
    let less = (or_parts (is_overlay line.sign) (has_overlay later) o).1 in
    elim (taken_case (hidden_by_some later path)) [
      | inl t ↦
          subst (λ (fs : Files). length (files_at later path ++ fs) ≤ 1) (sym (hidden_has_none line later path (depot_file line path) t))
          (subst (λ (fs : Files). length fs ≤ 1) (sym (append-nil (files_at later path))) (at_most_one later path less))
      | inr t ↦
          subst (λ (fs : Files). length (fs ++ file_by line later path (depot_file line path)) ≤ 1) (sym (none_shown later path less t)) (few_put line later path (depot_file line path))
    ]

same_one : (xs : Files) (x y : List ℕ) → length xs ≤ 1 → Contains xs x → Contains xs y → x ≡ y
same_one [] x y l c d = absurd (none_contained x c)
same_one (z ∷ []) x y l c d = sym (contained z x c) ∙ contained z y d
same_one (z ∷ w ∷ xs) x y l c d = absurd (omega (arith, l))

pub one_file : (lines : List ViewLine) (path one other : List ℕ) → ArePaired lines → has_overlay lines ≡ false → is_path one ≡ true → is_path other ≡ true →
    path_in lines one ≡ Some path → path_in lines other ≡ Some path → one ≡ other
one_file lines path one other h o p q e f = same_one (files_at lines path) one other (at_most_one lines path o) (is_there lines path one h p e) (is_there lines path other h q f)

-- ---- each file stands there once

all_push : (P : List ℕ → Type 0) (xs : Files) (x : List ℕ) → AllByRecursion P xs → P x → AllByRecursion P (xs ++ x ∷ [])
all_push P [] x h p = (p, tt)
all_push P (y ∷ ys) x h p = (h.0, all_push P ys x h.1 p)

true_false : true ≡ false → ⊥
true_false e = absurd cc

not_same : (later : List ViewLine) (x y : List ℕ) → taken_by_some later x ≡ false → taken_by_some later y ≡ true → same y x ≡ false
not_same later x y e f = go (same y x) refl
  where
    go : (b : Bool) → same y x ≡ b → b ≡ false
    go false g = refl
    go true g = absurd (true_false (sym f ∙ ap (taken_by_some later) (same_text y x (sym g)) ∙ e))

distinct_push : (later : List ViewLine) (xs : Files) (x : List ℕ) → taken_by_some later x ≡ false → ((f : List ℕ) → Contains xs f → taken_by_some later f ≡ true) →
    IsDistinct same xs → IsDistinct same (xs ++ x ∷ [])
unfolding IsDistinct
distinct_push later [] x e taken h = (tt, tt)
distinct_push later (y ∷ ys) x e taken h = (
  all_push (λ z. same y z ≡ false) ys x h.0 (not_same later x y e (taken y (Contains-append_left (y ∷ []) ys y (just_one y)))),
  distinct_push later ys x e (λ f c. taken f (Contains-append_right (y ∷ []) ys f c)) h.1,
)

distinct_with : (line : ViewLine) (later : List ViewLine) (path : List ℕ) (o : Option (List ℕ)) → ((f : List ℕ) → Contains (files_at later path) f → taken_by_some later f ≡ true) →
    IsDistinct same (files_at later path) → IsDistinct same (files_at later path ++ file_by line later path o)
distinct_with line later path None taken h = subst (λ (fs : Files). IsDistinct same fs) (sym (append-nil (files_at later path))) h
distinct_with line later path (Some file) taken h = go (is_exclusion line.sign) (taken_by_some later file) refl (hidden_by_some later path)
  where
    as_before : IsDistinct same (files_at later path ++ [])
    as_before = subst (λ (fs : Files). IsDistinct same fs) (sym (append-nil (files_at later path))) h

    go : (a b : Bool) → taken_by_some later file ≡ b → (c : Bool) → IsDistinct same (files_at later path ++ cond (a || b || c) [] (file ∷ []))
    go true b e c = as_before
    go false true e c = as_before
    go false false e true = as_before
    go false false e false = distinct_push later (files_at later path) file e taken h

nothing_twice : IsDistinct same []
unfolding IsDistinct
nothing_twice = tt

pub all_once : (lines : List ViewLine) (path : List ℕ) → ArePaired lines → is_path path ≡ true → IsDistinct same (files_at lines path)
all_once [] path h p = nothing_twice
all_once (line ∷ later) path h p =
    let more = (and_parts (is_paired line) (list_all is_paired later) h).1 in
    distinct_with line later path (depot_file line path) (λ f c. has_taker later f path (maps_there later path f more p c)) (all_once later path more p)
