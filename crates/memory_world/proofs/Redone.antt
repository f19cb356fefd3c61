-- A call done again on files and ranges.
use Rattle.std.proofs.Common.{◌≡◌, ℕ, ◌+◌, Bool, true, false, ◌||◌, ◌&&◌, ◌==◌, leb, ltb, List, [], ◌∷◌, ◌++◌, length, take, Vec, refl, ◌∙◌, ap}
use Rattle.std.specs.declared.alloc.Global.{Global}
use Rattle.memory_world.specs.Files.{contents, put, written}
use Rattle.memory_world.specs.Replay.{State, called, opened, all_behind}
use Rattle.memory_world.specs.Ranges.{is_in, Agrees}
use Rattle.memory_world.specs.declared.image.OpenRange.{OpenRange}
use Rattle.memory_world.specs.declared.call.Call.TheVariants.{Write, BrokenWrite, Cut, BrokenCut}
use Rattle.memory_world.proofs.Contents.{put_alike}

or_swap : (a b c : Bool) → a || (b || c) ≡ b || (a || c)
or_swap true true c = refl
or_swap true false c = refl
or_swap false true c = refl
or_swap false false c = refl

is_in-push : (ranges : List OpenRange) (range : OpenRange) (f k : ℕ) → is_in (ranges ++ range ∷ []) f k ≡ ((f == range.file) && ((leb range.at k) && (ltb k (range.at + range.count)))) || is_in ranges f k
is_in-push [] range f k = refl
is_in-push (first ∷ ranges) range f k =
    ap (λ (b : Bool). ((f == first.file) && ((leb first.at k) && (ltb k (first.at + first.count)))) || b) (is_in-push ranges range f k)
    ∙ or_swap ((f == first.file) && ((leb first.at k) && (ltb k (first.at + first.count)))) ((f == range.file) && ((leb range.at k) && (ltb k (range.at + range.count)))) (is_in ranges f k)

places_after : (ranges now : List OpenRange) (file at count : ℕ) (s : State) → now ≡ ranges ++ record { file = file; at = at; count = count } ∷ [] → ((f k : ℕ) → is_in ranges f k ≡ s.is_open f k) → (f k : ℕ) → is_in now f k ≡ opened file at count s.is_open f k
places_after ranges now file at count s is places f k =
    ap (λ (l : List OpenRange). is_in l f k) is
    ∙ is_in-push ranges (record { file = file; at = at; count = count }) f k
    ∙ ap (λ (b : Bool). ((f == file) && ((leb at k) && (ltb k (at + count)))) || b) (places f k)

pub redone_broken_write : (files : List (Vec ℕ Global)) (ranges now : List OpenRange) (file at count : ℕ) (s : State) → now ≡ ranges ++ record { file = file; at = at; count = count } ∷ [] → Agrees files ranges s → Agrees files now (called (BrokenWrite file at count) s)
redone_broken_write files ranges now file at count s is agrees = record { same = agrees.same; places = places_after ranges now file at count s is agrees.places }

pub redone_write : (files after : List (Vec ℕ Global)) (ranges now : List OpenRange) (file at count : ℕ) (v : Vec ℕ Global) (s : State) → count ≡ length v.items → ((f : ℕ) → contents after f ≡ put file (written at v.items (contents files file)) (contents files) f)
    → now ≡ ranges ++ record { file = file; at = at; count = count } ∷ [] → Agrees files ranges s → Agrees after now (called (Write file at v) s)
redone_write files after ranges now file at count v s long puts is agrees = record {
  same = λ f. puts f ∙ put_alike file f (written at v.items (contents files file)) (written at v.items (s.files file)) (contents files) s.files (ap (λ (l : List ℕ). written at v.items l) (agrees.same file)) (agrees.same f);
  places = λ f k. places_after ranges now file at count s is agrees.places f k ∙ ap (λ n. opened file at n s.is_open f k) long;
}

pub redone_broken_cut : (files : List (Vec ℕ Global)) (ranges now : List OpenRange) (file n count : ℕ) (s : State) → count ≡ all_behind n → now ≡ ranges ++ record { file = file; at = n; count = count } ∷ [] → Agrees files ranges s → Agrees files now (called (BrokenCut file n) s)
redone_broken_cut files ranges now file n count s behind is agrees = record {
  same = agrees.same;
  places = λ f k. places_after ranges now file n count s is agrees.places f k ∙ ap (λ m. opened file n m s.is_open f k) behind;
}

pub redone_cut : (files after : List (Vec ℕ Global)) (ranges now : List OpenRange) (file n count : ℕ) (s : State) → count ≡ all_behind n → ((f : ℕ) → contents after f ≡ put file (take n (contents files file)) (contents files) f)
    → now ≡ ranges ++ record { file = file; at = n; count = count } ∷ [] → Agrees files ranges s → Agrees after now (called (Cut file n) s)
redone_cut files after ranges now file n count s behind puts is agrees = record {
  same = λ f. puts f ∙ put_alike file f (take n (contents files file)) (take n (s.files file)) (contents files) s.files (ap (λ (l : List ℕ). take n l) (agrees.same file)) (agrees.same f);
  places = λ f k. places_after ranges now file n count s is agrees.places f k ∙ ap (λ m. opened file n m s.is_open f k) behind;
}
