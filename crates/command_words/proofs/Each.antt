-- Words that are read one by one.
use Rattle.std.proofs.Common.{◌≡◌, refl, sym, ap, subst, ◌∙◌, ℕ, ◌+◌, ◌<◌, List, [], ◌∷◌, ◌++◌, drop, length, get_or, Result, Ok, Err, OnOk, is_ok, true, append_assoc}
use Rattle.std.proofs.lemmas.List.{drop_more, append-nil}
use Rattle.depot_path.specs.Answers.{◌>>=◌, Answers}
use Rattle.depot_path.proofs.Answers as answers
use Rattle.depot_model.specs.declared.request.WordFault.{WordFault}
use Rattle.depot_model.specs.declared.request.WordFault.TheVariants.{Memory}
use Rattle.command_words.specs.Arguments.{each}

-- what was read, and behind it what is read of the others
abbrev pub behind : {A : Type 0} → List A → Result (List A) WordFault → Result (List A) WordFault
behind done others = others >>= (λ list. Ok (done ++ list))

pub nothing_before : {A : Type 0} (others : Result (List A) WordFault) → others ≡ behind [] others
nothing_before (Ok list) = refl
nothing_before (Err fault) = refl

pub nothing_behind : {A : Type 0} (done : List A) → Ok done ≡ behind done (Ok [])
nothing_behind done = ap (λ list. Ok list) (sym (append-nil done))

one_more : {A : Type 0} (done : List A) (first : A) (others : Result (List A) WordFault) →
    behind done (others >>= (λ list. Ok (first ∷ list))) ≡ behind (done ++ first ∷ []) others
one_more done first (Ok list) = ap (λ l. Ok l) (sym (append_assoc done (first ∷ []) list))
one_more done first (Err fault) = refl

step : {A : Type 0} (read : List ℕ → Result A WordFault) (done : List A) (first : Result A WordFault) (others : Result (List A) WordFault) →
    behind done (first >>= (λ a. others >>= (λ list. Ok (a ∷ list)))) ≡ first >>= (λ a. behind (done ++ a ∷ []) others)
step read done (Ok a) others = one_more done a others
step read done (Err fault) others = refl

module _ {A : Type 0} (read : List ℕ → Result A WordFault) (done : List A) (words : List (List ℕ)) (i : ℕ) (word : List ℕ) where
  each_at : i < length words → word ≡ get_or words i word →
      behind done (each read (drop i words)) ≡ read word >>= (λ a. behind (done ++ a ∷ []) (each read (drop (i + 1) words)))
  each_at h e =
      ap (λ list. behind done (each read list)) (drop_more words i word h)
      ∙ ap (λ w. behind done (each read (w ∷ drop (i + 1) words))) (sym e)
      ∙ step read done (read word) (each read (drop (i + 1) words))

  pub each_goes : (a : A) (answer : Result (List A) WordFault) → i < length words → word ≡ get_or words i word → Answers Memory (Ok a) (read word) →
      Answers Memory answer (behind (done ++ a ∷ []) (each read (drop (i + 1) words))) → Answers Memory answer (behind done (each read (drop i words)))
  each_goes a answer h e k m =
      let P : Result (List A) WordFault → Type 0 = λ r. Answers Memory answer r in
      subst P (sym (each_at h e)) (answers.after Memory a (read word) (λ x. behind (done ++ x ∷ []) (each read (drop (i + 1) words))) answer k m)

  pub each_fails : (fault : WordFault) → i < length words → word ≡ get_or words i word → Answers Memory (Err fault) (read word) →
      Answers Memory (Err fault) (behind done (each read (drop i words)))
  each_fails fault h e k =
      let P : Result (List A) WordFault → Type 0 = λ r. Answers Memory (Err fault) r in
      subst P (sym (each_at h e)) (answers.fails Memory fault (read word) (λ x. behind (done ++ x ∷ []) (each read (drop (i + 1) words))) k)

pub holds_on_ok : {E : Type 0} (r : Result (Unit {0}) E) (P : Type 0) → OnOk r P → is_ok r ≡ true → P
holds_on_ok (Ok u) P h e = h
holds_on_ok (Err x) P h e = cc
