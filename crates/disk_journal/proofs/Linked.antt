-- A fetch answers as a link to the journal of the committed texts does.
use Rattle.std.proofs.Common.{◌≡◌, ℕ, zero, suc, ◌+◌, ◌<◌, ◌≤◌, List, [], ◌∷◌, ◌++◌, length, get_or, drop, take, refl, sym, ◌∙◌, ap, subst, arith, length-append}
use Rattle.std.specs.Prelude.{map}
use Rattle.outside_api.specs.declared.link.Fetched.{Fetched}
use Rattle.outside_api.specs.declared.link.Fetched.TheVariants.{Bytes, End, Next}
use Rattle.outside_api.specs.Link.{Answers, text_of}
use Rattle.disk_journal.specs.Text.{blocks}
use Rattle.disk_journal.specs.Images.{Committed}
use Rattle.disk_journal.specs.Older.{texts}
use Rattle.disk_journal.specs.Fetch.{Gives}

text_map : (all : List (List (List ℕ))) (k : ℕ) → get_or (map blocks all) k [] ≡ blocks (get_or all k [])
text_map [] k = refl
text_map (one ∷ all) zero = refl
text_map (one ∷ all) (suc k) = text_map all k

length_map : (all : List (List (List ℕ))) → length (map blocks all) ≡ length all
length_map [] = refl
length_map (one ∷ all) = ap suc (length_map all)

at_front : (before : List (List (List ℕ))) (last : List (List ℕ)) (k : ℕ) → k < length before → get_or (before ++ last ∷ []) k [] ≡ get_or before k []
at_front [] last k lt = absurd (omega (arith, lt))
at_front (one ∷ before) last zero lt = refl
at_front (one ∷ before) last (suc k) lt = at_front before last k (omega (arith, lt))

at_last : (before : List (List (List ℕ))) (last : List (List ℕ)) → get_or (before ++ last ∷ []) (length before) [] ≡ last
at_last [] last = refl
at_last (one ∷ before) last = at_last before last

behind_all : (all : List (List (List ℕ))) (k : ℕ) → length all ≤ k → get_or all k [] ≡ []
behind_all [] k le = refl
behind_all (one ∷ all) zero le = absurd (omega (arith, le))
behind_all (one ∷ all) (suc k) le = behind_all all k (omega (arith, le))

module _ (before : List (List (List ℕ))) (was : Committed) where
  count : length (texts before was) ≡ length before + 1
  count = length_map (before ++ was.groups ∷ []) ∙ length-append before (was.groups ∷ [])

  older_text : (k : ℕ) → k < length before → text_of (texts before was) k ≡ blocks (get_or before k [])
  older_text k lt = text_map (before ++ was.groups ∷ []) k ∙ ap blocks (at_front before was.groups k lt)

  newest_text : (k : ℕ) → k ≡ length before → text_of (texts before was) k ≡ blocks was.groups
  newest_text k is = ap (λ (n : ℕ). text_of (texts before was) n) is ∙ text_map (before ++ was.groups ∷ []) (length before) ∙ ap blocks (at_last before was.groups)

  no_text : (k : ℕ) → length before < k → text_of (texts before was) k ≡ []
  no_text k lt = text_map (before ++ was.groups ∷ []) k ∙ ap blocks (behind_all (before ++ was.groups ∷ []) k (omega (arith, lt, length-append before (was.groups ∷ []))))

  answers_of : (generation at room : ℕ) (none fetched : Fetched) (buffer text : List ℕ) → text_of (texts before was) generation ≡ text
      → (none ≡ End → length (texts before was) ≤ generation + 1) → (none ≡ Next → generation + 1 < length (texts before was))
      → Gives text at none room fetched buffer → Answers (texts before was) generation at fetched buffer
  answers_of generation at room none (Bytes n) buffer text is ends goes gives =
      (gives.0, subst (λ (l : List ℕ). n ≤ length (drop at l)) (sym is) (omega (arith, gives.1)), subst (λ (l : List ℕ). take n buffer ≡ take n (drop at l)) (sym is) gives.2)
  answers_of generation at room none End buffer text is ends goes gives = (subst (λ (l : List ℕ). length l ≤ at) (sym is) gives.0, ends gives.1)
  answers_of generation at room none Next buffer text is ends goes gives = (subst (λ (l : List ℕ). length l ≤ at) (sym is) gives.0, goes gives.1)

  no_end : (let n : Fetched = Next in n) ≡ End → ⊥
  no_end e = cc

  no_next : (let n : Fetched = End in n) ≡ Next → ⊥
  no_next e = cc

  pub answers_older : (generation at room : ℕ) (fetched : Fetched) (buffer : List ℕ) → generation < length before → Gives (blocks (get_or before generation [])) at Next room fetched buffer → Answers (texts before was) generation at fetched buffer
  answers_older generation at room fetched buffer lt gives =
      answers_of generation at room Next fetched buffer (blocks (get_or before generation [])) (older_text generation lt) (λ e. absurd (no_end e)) (λ e. omega (arith, count, lt)) gives

  pub answers_newest : (generation at room : ℕ) (fetched : Fetched) (buffer : List ℕ) → generation ≡ length before → Gives (blocks was.groups) at End room fetched buffer → Answers (texts before was) generation at fetched buffer
  answers_newest generation at room fetched buffer is gives =
      answers_of generation at room End fetched buffer (blocks was.groups) (newest_text generation is) (λ e. omega (arith, count, is)) (λ e. absurd (no_next e)) gives

  pub answers_later : (generation at : ℕ) (buffer : List ℕ) → length before < generation → Answers (texts before was) generation at End buffer
  answers_later generation at buffer lt =
      (subst (λ (l : List ℕ). length l ≤ at) (sym (no_text generation lt)) (omega arith), omega (arith, count, lt))
