-- Files in a vector, one by one.
use Rattle.std.proofs.Common.{◌≡◌, ◌≢◌, inl, inr, ℕ, zero, suc, ◌<◌, ◌≤◌, List, [], ◌∷◌, ◌++◌, length, get_or, set, take, Vec, if◌then◌else◌, ◌==◌, refl, sym, ◌∙◌, ap, arith}
use Rattle.std.proofs.Math.Seq.{take-nil}
use Rattle.std.proofs.lemmas.Bool.{cases_eq}
use Rattle.std.proofs.lemmas.Bool.Decides.{nat_tests}
use Rattle.std.specs.declared.alloc.Global.{Global}
use Rattle.outside_api.specs.Disk.{Files}
use Rattle.memory_world.specs.Files.{contents, put}

abbrev Vecs : Type 0
Vecs = List (Vec ℕ Global)

pub contents_at : (files : Vecs) (n : ℕ) (v : Vec ℕ Global) → n < length files → v ≡ get_or files n v → v.items ≡ contents files n
contents_at [] n v lt is = absurd (omega arith)
contents_at (w ∷ files) zero v lt is = ap (λ (u : Vec ℕ Global). u.items) is
contents_at (w ∷ files) (suc n) v lt is = contents_at files n v (omega arith) is

pub contents_past : (files : Vecs) (n : ℕ) → length files ≤ n → [] ≡ contents files n
contents_past [] n le = refl
contents_past (w ∷ files) zero le = absurd (omega arith)
contents_past (w ∷ files) (suc n) le = contents_past files n (omega arith)

pub contents_push : (files : Vecs) (v : Vec ℕ Global) (f : ℕ) → v.items ≡ [] → contents (files ++ v ∷ []) f ≡ contents files f
contents_push [] v zero none = none
contents_push [] v (suc f) none = refl
contents_push (w ∷ files) v zero none = refl
contents_push (w ∷ files) v (suc f) none = contents_push files v f none

pub set_same : (files : Vecs) (n : ℕ) (v : Vec ℕ Global) → n < length files → contents (set files n v) n ≡ v.items
set_same [] n v lt = absurd (omega arith)
set_same (w ∷ files) zero v lt = refl
set_same (w ∷ files) (suc n) v lt = set_same files n v (omega arith)

pub set_other : (files : Vecs) (n f : ℕ) (v : Vec ℕ Global) → f ≢ n → contents (set files n v) f ≡ contents files f
set_other [] n f v other = refl
set_other (w ∷ files) zero zero v other = absurd (other refl)
set_other (w ∷ files) zero (suc f) v other = refl
set_other (w ∷ files) (suc n) zero v other = refl
set_other (w ∷ files) (suc n) (suc f) v other = set_other files n f v (λ e. other (ap suc e))

pub put_same : {A : Type 0} (file f : ℕ) (a : A) (old : ℕ → A) → f ≡ file → put file a old f ≡ a
put_same file f a old is = grind (arith, nat_tests)

pub put_other : {A : Type 0} (file f : ℕ) (a : A) (old : ℕ → A) → f ≢ file → put file a old f ≡ old f
put_other file f a old other = grind (arith, nat_tests)

-- the same put into the same
pub put_alike : (file f : ℕ) (a b : List ℕ) (old new : Files) → a ≡ b → old f ≡ new f → put file a old f ≡ put file b new f
put_alike file f a b old new bytes files =
    ap (λ (l : List ℕ). if f == file then l else old f) bytes ∙ ap (λ (l : List ℕ). if f == file then b else l) files

pub contents_set : (files : Vecs) (n : ℕ) (v : Vec ℕ Global) (f : ℕ) → n < length files → contents (set files n v) f ≡ put n v.items (contents files) f
contents_set files n v f lt = elim (cases_eq f n) [
  | inl is ↦ ap (λ k. contents (set files n v) k) is ∙ set_same files n v lt ∙ sym (put_same n f v.items (contents files) is)
  | inr other ↦ set_other files n f v other ∙ sym (put_other n f v.items (contents files) other)
]

-- nothing is cut off a file that isn't there
put_here : (files : Vecs) (n k f : ℕ) → length files ≤ n → f ≡ n → contents files f ≡ take k (contents files n)
put_here files n k f le is =
    let none = sym (contents_past files n le) in
    ap (contents files) is ∙ none ∙ sym (take-nil k) ∙ sym (ap (λ (l : List ℕ). take k l) none)

pub put_none : (files : Vecs) (n k f : ℕ) → length files ≤ n → contents files f ≡ put n (take k (contents files n)) (contents files) f
put_none files n k f le = elim (cases_eq f n) [
  | inl is ↦ put_here files n k f le is ∙ sym (put_same n f (take k (contents files n)) (contents files) is)
  | inr other ↦ sym (put_other n f (take k (contents files n)) (contents files) other)
]

-- a file with other bytes
pub contents_changed : (files : Vecs) (n : ℕ) (w : Vec ℕ Global) (bytes : List ℕ) (f : ℕ) → n < length files → w.items ≡ bytes → contents (set files n w) f ≡ put n bytes (contents files) f
contents_changed files n w bytes f lt is = contents_set files n w f lt ∙ ap (λ (l : List ℕ). put n l (contents files) f) is

-- a file with the same bytes
pub contents_unchanged : (files : Vecs) (n : ℕ) (v w : Vec ℕ Global) (f : ℕ) → n < length files → v ≡ get_or files n v → w.items ≡ v.items → contents (set files n w) f ≡ contents files f
contents_unchanged files n v w f lt at is = elim (cases_eq f n) [
  | inl here ↦ ap (contents (set files n w)) here ∙ set_same files n w lt ∙ is ∙ contents_at files n v lt at ∙ ap (contents files) (sym here)
  | inr other ↦ set_other files n f w other
]

-- the same files, and one file more
pub contents_push_same : (xs ys : Vecs) (v w : Vec ℕ Global) (f : ℕ) → length xs ≡ length ys → ((g : ℕ) → contents xs g ≡ contents ys g) → v.items ≡ w.items → contents (xs ++ v ∷ []) f ≡ contents (ys ++ w ∷ []) f
contents_push_same [] [] v w zero long same is = is
contents_push_same [] [] v w (suc f) long same is = refl
contents_push_same [] (y ∷ ys) v w f long same is = absurd (omega arith)
contents_push_same (x ∷ xs) [] v w f long same is = absurd (omega arith)
contents_push_same (x ∷ xs) (y ∷ ys) v w zero long same is = same zero
contents_push_same (x ∷ xs) (y ∷ ys) v w (suc f) long same is = contents_push_same xs ys v w f (omega arith) (λ g. same (suc g)) is
