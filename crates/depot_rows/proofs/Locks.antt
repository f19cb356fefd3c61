-- Who has a file's lock, and that who has it has the file opened.
use Rattle.std.proofs.Common.{◌≡◌, ℕ, Bool, true, false, List, [], ◌∷◌, Option, Some, None, refl, ap, sym, ◌∙◌}
use Rattle.std.specs.Prelude.{◌&&◌, is_some, if◌then◌else◌}
use Rattle.std.specs.Option.{option_or, option_flatten}
use Rattle.std.proofs.lemmas.Bool.{and_parts}
use Rattle.depot_model.specs.depot_path.Bytes.{same}
use Rattle.depot_model.specs.Deeds.{Deed, Spec, Guard, Group, Count, Pend, Drop, Open, Shut, Hold, Free, Got, Tag, Owe, Paid, Land, Opening}
use Rattle.depot_model.specs.Latest.{latest, when, is_held}
use Rattle.depot_model.specs.Opened.{opened, opening_said, holder, keeps}
use Rattle.depot_rows.proofs.Keys.{same-is}

-- 1 for who has the lock
abbrev pub lock_number : Option (List ℕ) → List ℕ → ℕ
lock_number None client = 0
lock_number (Some who) client = if same who client then 1 else 0

-- what one client keeps, another loses nothing by
pub lock-keeps : (a c : List ℕ) (who : Option (List ℕ)) → same a c ≡ false → lock_number (keeps a who) c ≡ lock_number who c
lock-keeps a c None e = refl
lock-keeps a c (Some who) e = go (same who a) refl
  where
    go : (b : Bool) → same who a ≡ b → lock_number (if b then None else Some who) c ≡ lock_number (Some who) c
    go true h = let apart : same who c ≡ false = ap (λ (x : List ℕ). same x c) (same-is who a h) ∙ e in rw apart refl
    go false h = refl

-- who gives the lock up has it no more
pub lock-given : (a : List ℕ) (who : Option (List ℕ)) → lock_number (keeps a who) a ≡ 0
lock-given a None = refl
lock-given a (Some who) = go (same who a) refl
  where
    go : (b : Bool) → same who a ≡ b → lock_number (if b then None else Some who) a ≡ 0
    go true h = refl
    go false h = rw h refl

-- who hasn't the lock hasn't it where another gives it up
lock-less : (a c : List ℕ) (who : Option (List ℕ)) → lock_number who c ≡ 0 → lock_number (keeps a who) c ≡ 0
lock-less a c None e = refl
lock-less a c (Some who) e = go (same who a)
  where
    go : (b : Bool) → lock_number (if b then None else Some who) c ≡ 0
    go true = refl
    go false = e

some_none : {A : Type 0} {x : A} → Some x ≡ (let o : Option A = None in o) → ⊥
some_none e = absurd cc

pub lock-unopened : (d : List Deed) (c p : List ℕ) → opened d c p ≡ None → lock_number (holder d p) c ≡ 0
lock-unopened [] c p e = refl
lock-unopened (Spec kind name form ∷ d) c p e = lock-unopened d c p e
lock-unopened (Guard lines ∷ d) c p e = lock-unopened d c p e
lock-unopened (Group name users ∷ d) c p e = lock-unopened d c p e
lock-unopened (Count name value ∷ d) c p e = lock-unopened d c p e
lock-unopened (Pend x ∷ d) c p e = lock-unopened d c p e
lock-unopened (Drop n ∷ d) c p e = lock-unopened d c p e
lock-unopened (Got held rev ∷ d) c p e = lock-unopened d c p e
lock-unopened (Tag label path rev ∷ d) c p e = lock-unopened d c p e
lock-unopened (Owe x ∷ d) c p e = lock-unopened d c p e
lock-unopened (Paid held from how ∷ d) c p e = lock-unopened d c p e
lock-unopened (Land l ∷ d) c p e = lock-unopened d c p e
lock-unopened (Open o ∷ d) c p e = go (same o.client c && same o.path p) e (lock-unopened d c p)
  where
    go : (b : Bool) → option_flatten (option_or (when b (Some o)) (latest (opening_said c p) d)) ≡ None
        → (opened d c p ≡ None → lock_number (holder d p) c ≡ 0) → lock_number (holder d p) c ≡ 0
    go true h before = absurd cc
    go false h before = before h
lock-unopened (Shut held ∷ d) c p e = go (same held.path p) refl (same held.client c) refl e (lock-unopened d c p)
  where
    go : (b : Bool) → same held.path p ≡ b → (a : Bool) → same held.client c ≡ a
        → option_flatten (option_or (when (a && b) None) (latest (opening_said c p) d)) ≡ None
        → (opened d c p ≡ None → lock_number (holder d p) c ≡ 0)
        → lock_number (if b then keeps held.client (holder d p) else holder d p) c ≡ 0
    go true h true k f before = let one : held.client ≡ c = same-is held.client c k in rw one (lock-given c (holder d p))
    go true h false k f before = lock-less held.client c (holder d p) (before f)
    go false h true k f before = before f
    go false h false k f before = before f
lock-unopened (Free held ∷ d) c p e = go (same held.path p) (lock-unopened d c p e)
  where
    go : (b : Bool) → lock_number (holder d p) c ≡ 0 → lock_number (if b then keeps held.client (holder d p) else holder d p) c ≡ 0
    go true before = lock-less held.client c (holder d p) before
    go false before = before
lock-unopened (Hold held ∷ d) c p e = go (same held.path p) (opened d held.client p) refl (same held.client c) refl (lock-unopened d c p e)
  where
    go : (b : Bool) → (o : Option Opening) → opened d held.client p ≡ o → (a : Bool) → same held.client c ≡ a
        → lock_number (holder d p) c ≡ 0
        → lock_number (if b then (if is_some o then Some held.client else None) else holder d p) c ≡ 0
    go false o h a k before = before
    go true None h a k before = refl
    go true (Some o) h false k before = rw k refl
    go true (Some o) h true k before = absurd (some_none (sym h ∙ ap (λ (x : List ℕ). opened d x p) (same-is held.client c k) ∙ e))

-- an opening is of its client and path
abbrev pub IsOf : List ℕ → List ℕ → Opening → Type 0
IsOf c p o = (o.client ≡ c) × (o.path ≡ p)

some-is : {A : Type 0} {x y : A} → Some x ≡ Some y → x ≡ y
some-is e = cc

pub opened-is : (d : List Deed) (c p : List ℕ) (o : Opening) → opened d c p ≡ Some o → IsOf c p o
opened-is [] c p o e = absurd cc
opened-is (Spec kind name form ∷ d) c p o e = opened-is d c p o e
opened-is (Guard lines ∷ d) c p o e = opened-is d c p o e
opened-is (Group name users ∷ d) c p o e = opened-is d c p o e
opened-is (Count name value ∷ d) c p o e = opened-is d c p o e
opened-is (Pend x ∷ d) c p o e = opened-is d c p o e
opened-is (Drop n ∷ d) c p o e = opened-is d c p o e
opened-is (Got held rev ∷ d) c p o e = opened-is d c p o e
opened-is (Tag label path rev ∷ d) c p o e = opened-is d c p o e
opened-is (Owe x ∷ d) c p o e = opened-is d c p o e
opened-is (Paid held from how ∷ d) c p o e = opened-is d c p o e
opened-is (Land l ∷ d) c p o e = opened-is d c p o e
opened-is (Hold held ∷ d) c p o e = opened-is d c p o e
opened-is (Free held ∷ d) c p o e = opened-is d c p o e
opened-is (Open x ∷ d) c p o e = go (same x.client c && same x.path p) refl e (opened-is d c p o)
  where
    go : (b : Bool) → (same x.client c && same x.path p) ≡ b → option_flatten (option_or (when b (Some x)) (latest (opening_said c p) d)) ≡ Some o
        → (opened d c p ≡ Some o → IsOf c p o) → IsOf c p o
    go true h f before =
        let back : o ≡ x = sym (some-is f) in (
          ap (λ (y : Opening). y.client) back ∙ same-is x.client c (and_parts (same x.client c) (same x.path p) h).0,
          ap (λ (y : Opening). y.path) back ∙ same-is x.path p (and_parts (same x.client c) (same x.path p) h).1,
        )
    go false h f before = before f
opened-is (Shut held ∷ d) c p o e = go (is_held c p held) e (opened-is d c p o)
  where
    go : (b : Bool) → option_flatten (option_or (when b None) (latest (opening_said c p) d)) ≡ Some o
        → (opened d c p ≡ Some o → IsOf c p o) → IsOf c p o
    go true f before = absurd cc
    go false f before = before f
