-- What two reads, one after the other, have put into a buffer.
use Rattle.std.proofs.Common.{◌≡◌, ℕ, ◌+◌, ◌≤◌, List, ◌++◌, length, take, drop, refl, sym, ◌∙◌, ap, arith, length-take}
use Rattle.std.proofs.lemmas.List.{drop-drop, take-take}
use Rattle.std.proofs.lemmas.Slice.{take-put_mid}
use Rattle.std.proofs.Math.Seq.{take-append-add, take-add}
use borrow.Rule.Slice.PartMut.{put_mid}

module _ (buffer ys : List ℕ) (done k : ℕ) (within : done ≤ length buffer) where
  front : (n : ℕ) → n ≤ length ys → take (done + n) (put_mid done k buffer ys) ≡ take done buffer ++ take n ys
  front n le =
      let first : length (take done buffer) ≡ done = omega (arith, length-take done buffer, within) in
      sym (take-take (done + n) (done + length ys) (put_mid done k buffer ys) (omega (arith, le)))
      ∙ ap (λ (l : List ℕ). take (done + n) l) (take-put_mid done k buffer ys (done + length ys) refl within)
      ∙ ap (λ m. take (m + n) (take done buffer ++ ys)) (sym first)
      ∙ take-append-add (take done buffer) ys n

  pub more_read : (file : List ℕ) (at n : ℕ) → n ≤ length ys → take done buffer ≡ take done (drop at file) → take n ys ≡ take n (drop (at + done) file) → take (done + n) (put_mid done k buffer ys) ≡ take (done + n) (drop at file)
  more_read file at n le so_far next =
      front n le
      ∙ ap (λ (l : List ℕ). l ++ take n ys) so_far
      ∙ ap (λ (l : List ℕ). take done (drop at file) ++ l) (next ∙ ap (λ (l : List ℕ). take n l) (sym (drop-drop done at file)))
      ∙ sym (take-add done n (drop at file))
