-- The cutting of words goes option by option.
use Rattle.std.proofs.Common.{◌≡◌, refl, sym, ap, subst, ◌∙◌, ℕ, List, [], ◌∷◌, ◌++◌, Bool, true, false, Result, Ok, Err, Option, Some, None, unwrap_or, if◌then◌else◌, inl, inr, ◌<◌, ◌≤◌, length, arith}
use Rattle.depot_path.proofs.Answers as answers
use Rattle.depot_model.specs.declared.request.WordFault.{WordFault}
use Rattle.depot_model.specs.declared.request.WordFault.TheVariants.{Memory}
use Rattle.command_words.specs.declared.table.ValueKind.{ValueKind}
use Rattle.command_words.specs.declared.table.ValueKind.TheVariants.{Flag, Number, Change, Name, FileType, Word}
use Rattle.depot_path.specs.Answers.{◌>>=◌, Answers}
use Rattle.std.proofs.lemmas.List.{map-append}
use Rattle.command_words.specs.declared.options.Given.{Given as CodeGiven}
use Rattle.command_words.specs.Values.{checked}
use Rattle.command_words.specs.Options.{seen_option, seen_options, Given, Invocation, Ready, Waiting, given, invocation, is_option, first_option, next_kind, after_option, parted, with_value, option_of_kind, next_option}

assoc : {A B C : Type 0} (r : Result A WordFault) (f : A → Result B WordFault) (g : B → Result C WordFault) → r >>= (λ x. f x >>= g) ≡ (r >>= f) >>= g
assoc (Ok x) f g = refl
assoc (Err fault) f g = refl

pointwise : {A B : Type 0} (r : Result A WordFault) (f g : A → Result B WordFault) → ((x : A) → f x ≡ g x) → r >>= f ≡ r >>= g
pointwise (Ok x) f g h = h x
pointwise (Err fault) f g h = refl

abbrev pub rest_of : List ℕ → List Given → Given × List (List ℕ) → Result Invocation WordFault
rest_of command options n = parted command (Ready (options ++ n.0 ∷ [])) n.1

waits : (command : List ℕ) (options : List Given) (option : List ℕ) (kind : ValueKind) (words : List (List ℕ)) →
    parted command (Waiting option kind options) words ≡ with_value command option kind words >>= rest_of command options
waits command options option kind [] = refl
waits command options option kind (value ∷ words) = assoc (checked command kind value) (λ v. Ok (given option v, words)) (rest_of command options)

by_kind : (command : List ℕ) (options : List Given) (option : List ℕ) (words : List (List ℕ)) (kind : ValueKind) →
    parted command (after_option options option kind) words ≡ option_of_kind command option words kind >>= rest_of command options
by_kind command options option words Flag = refl
by_kind command options option words Number = waits command options option Number words
by_kind command options option words Change = waits command options option Change words
by_kind command options option words Name = waits command options option Name words
by_kind command options option words FileType = waits command options option FileType words
by_kind command options option words Word = waits command options option Word words

-- the cases of the first word
abbrev pub Found : Type 0
Found = Option (List ℕ × List (List ℕ))

abbrev pub found : Bool → List ℕ → List (List ℕ) → Found
found b word words = elim b [ false ↦ None | true ↦ Some (word, words) ]

abbrev pub splits : List ℕ → List Given → Bool → List ℕ → List (List ℕ) → Result Invocation WordFault
splits command options b word words =
    elim b [
      | false ↦ Ok (invocation command options (word ∷ words))
      | true ↦ next_kind command options word >>= (λ kind. parted command (after_option options word kind) words)
    ]

whole : (command : List ℕ) (options : List Given) (word : List ℕ) (words : List (List ℕ)) →
    next_kind command options word >>= (λ kind. parted command (after_option options word kind) words) ≡ next_option command options word words >>= rest_of command options
whole command options word words =
    pointwise (next_kind command options word) _ _ (by_kind command options word words) ∙ assoc (next_kind command options word) (option_of_kind command word words) (rest_of command options)

-- where words begin with an option, it is read, and then the others
by_test_some : (command : List ℕ) (options : List Given) (word : List ℕ) (words : List (List ℕ)) (b : Bool) (option : List ℕ) (after : List (List ℕ)) →
    found b word words ≡ Some (option, after) → splits command options b word words ≡ next_option command options option after >>= rest_of command options
by_test_some command options word words false option after h = cc
by_test_some command options word words true option after h =
    let w : word ≡ option = ap (λ (o : Found). (unwrap_or o (word, words)).0) h in
    let ws : words ≡ after = ap (λ (o : Found). (unwrap_or o (word, words)).1) h in
    whole command options word words ∙ ap (λ o. next_option command options o words >>= rest_of command options) w ∙ ap (λ a. next_option command options option a >>= rest_of command options) ws

pub one_option : (command : List ℕ) (options : List Given) (words : List (List ℕ)) (option : List ℕ) (after : List (List ℕ)) →
    first_option words ≡ Some (option, after) → parted command (Ready options) words ≡ next_option command options option after >>= rest_of command options
one_option command options [] option after h = cc
one_option command options (word ∷ words) option after h = by_test_some command options word words (is_option word) option after h

by_test_none : (command : List ℕ) (options : List Given) (word : List ℕ) (words : List (List ℕ)) (b : Bool) →
    found b word words ≡ None → splits command options b word words ≡ Ok (invocation command options (word ∷ words))
by_test_none command options word words false h = refl
by_test_none command options word words true h = cc

pub no_option : (command : List ℕ) (options : List Given) (words : List (List ℕ)) →
    first_option words ≡ None → parted command (Ready options) words ≡ Ok (invocation command options words)
no_option command options [] h = refl
no_option command options (word ∷ words) h = by_test_none command options word words (is_option word) h

-- a fault of the next option is the fault of the whole
pub option_fails : (command : List ℕ) (options : List Given) (words : List (List ℕ)) (option : List ℕ) (after : List (List ℕ)) (fault : WordFault) →
    first_option words ≡ Some (option, after) → Answers Memory (Err fault) (next_option command options option after) → Answers Memory (Err fault) (parted command (Ready options) words)
option_fails command options words option after fault h k =
    let P : Result Invocation WordFault → Type 0 = λ r. Answers Memory (Err fault) r in
    subst P (sym (one_option command options words option after h)) (answers.fails Memory fault (next_option command options option after) (rest_of command options) k)

-- what answers behind an option answers with it
pub option_goes : (command : List ℕ) (options : List Given) (words : List (List ℕ)) (option : List ℕ) (after : List (List ℕ)) (n : Given × List (List ℕ)) (answer : Result Invocation WordFault) →
    first_option words ≡ Some (option, after) → Answers Memory (Ok n) (next_option command options option after) → Answers Memory answer (rest_of command options n) → Answers Memory answer (parted command (Ready options) words)
option_goes command options words option after n answer h k m =
    let P : Result Invocation WordFault → Type 0 = λ r. Answers Memory answer r in
    subst P (sym (one_option command options words option after h)) (answers.after Memory n (next_option command options option after) (rest_of command options) answer k m)

-- the words behind an option are fewer
checked_value : (command option : List ℕ) (r : Result (List ℕ) WordFault) (value : List ℕ) (words : List (List ℕ)) (n : Given × List (List ℕ)) →
    Ok n ≡ r >>= (λ v. Ok (given option v, words)) → length n.1 ≤ length (value ∷ words)
checked_value command option (Ok v) value words n h = let e : n.1 ≡ words = cc in omega (arith, ap length e)
checked_value command option (Err fault) value words n h = cc

after_value : (command option : List ℕ) (kind : ValueKind) (words : List (List ℕ)) (n : Given × List (List ℕ)) → Ok n ≡ with_value command option kind words → length n.1 ≤ length words
after_value command option kind [] n h = cc
after_value command option kind (value ∷ words) n h = checked_value command option (checked command kind value) value words n h

after_kind : (command option : List ℕ) (words : List (List ℕ)) (kind : ValueKind) (n : Given × List (List ℕ)) → Ok n ≡ option_of_kind command option words kind → length n.1 ≤ length words
after_kind command option words Flag n h = let e : n.1 ≡ words = cc in omega (arith, ap length e)
after_kind command option words Number n h = after_value command option Number words n h
after_kind command option words Change n h = after_value command option Change words n h
after_kind command option words Name n h = after_value command option Name words n h
after_kind command option words FileType n h = after_value command option FileType words n h
after_kind command option words Word n h = after_value command option Word words n h

after_next : (command option : List ℕ) (words : List (List ℕ)) (r : Result ValueKind WordFault) (n : Given × List (List ℕ)) →
    Ok n ≡ r >>= option_of_kind command option words → length n.1 ≤ length words
after_next command option words (Ok kind) n h = after_kind command option words kind n h
after_next command option words (Err fault) n h = cc

first_fewer : (b : Bool) (word : List ℕ) (words : List (List ℕ)) (option : List ℕ) (after : List (List ℕ)) → found b word words ≡ Some (option, after) → length after < length (word ∷ words)
first_fewer true word words option after h = let e : words ≡ after = ap (λ (o : Found). (unwrap_or o (word, words)).1) h in omega (arith, ap length e)
first_fewer false word words option after h = cc

fewer_words : (words : List (List ℕ)) (option : List ℕ) (after : List (List ℕ)) → first_option words ≡ Some (option, after) → length after < length words
fewer_words [] option after h = cc
fewer_words (word ∷ words) option after h = first_fewer (is_option word) word words option after h

pub fewer : (command : List ℕ) (options : List Given) (words : List (List ℕ)) (option : List ℕ) (after : List (List ℕ)) (n : Given × List (List ℕ)) →
    first_option words ≡ Some (option, after) → Answers Memory (Ok n) (next_option command options option after) → length n.1 < length words
fewer command options words option after n h k =
    elim k.is [
      | inl e ↦ cc
      | inr e ↦
          let few : length n.1 ≤ length after = after_next command option after (next_kind command options option) n e in
          let below : length after < length words = fewer_words words option after h in
          omega arith
    ]

-- an option that was pushed is seen at the end
pub pushed : (b : Bool) (options new : List CodeGiven) (g : CodeGiven) → b ≡ true → new ≡ (if b then options ++ g ∷ [] else options) →
    seen_options new ≡ seen_options options ++ seen_option g ∷ []
pushed true options new g h e = ap seen_options e ∙ map-append seen_option options (g ∷ [])
pushed false options new g h e = cc
