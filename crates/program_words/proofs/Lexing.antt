-- What a word is to `clap`, and what it says.
use Rattle.std.proofs.Common.{◌≡◌, ◌∙◌, ◌⊎◌, inl, inr, ◌==◌, ◌+◌, ℕ, suc, Bool, cond, not, eqb-true, true, false, refl, sym, ap, subst, arith, List, [], ◌∷◌, ◌++◌, length, take, drop, Option, Some, None, codes, true≢false}
use Rattle.std.specs.Prelude.{slice_get}
use Rattle.std.specs.List.{before_first, position_or_len}
use Rattle.std.proofs.lemmas.List.{take-append-drop}
use Rattle.std.specs.Option.{option_map_or}
use Rattle.std.specs.Str.{bytes_eq, chars}
use Rattle.std.proofs.lemmas.Bool.{cases_Bool}
use Rattle.std.proofs.lemmas.Slice.Eq.{bytes_eq-Decides}
use Rattle.depot_path.specs.Bytes.{begins_with}
use Rattle.depot_path.specs.Name.{begins_with_dash}
use Rattle.clap.specs.Lexer.{long_of, short_of, name_and_value}
use Rattle.clap.specs.Walk.{Held, Outcome, Row, Rule, Text, Waiting, after_flag, arg_by_long, bundle, bundle_met, bundle_step, long_or_other, plain_word, short_or_plain, short_word, subcommand_met, subcommand_or_other, word_met}
use Rattle.clap.specs.Walk as walk
use Rattle.clap.specs.Kinds.{Kinds}
use Rattle.clap.specs.Faults.{bundle_fault, bundle_step_fault, flag_word_fault, flags_fault, long_fault, other_fault, word_fault}
use Rattle.clap.specs.declared.error.kind.ErrorKind.{ErrorKind}
use Rattle.clap.specs.declared.error.kind.ErrorKind.TheVariants as kind
use Rattle.clap.specs.Simple.{Shape, built}
use Rattle.program_words.specs.Words.{Setting, saying_of}
use Rattle.program_words.specs.Words as spec
use Rattle.program_words.specs.Commands.{words_app}

-- the command as it is built
abbrev pub top : Shape
top = (built words_app).top

abbrev pub rules : List Rule
rules = top.rules

-- a fault
abbrev pub IsFault : Kinds → Type 0
IsFault [] = ⊥
IsFault (k ∷ ks) = Unit {0}

abbrev pub option_name : Setting → Text
option_name spec.seed_option = codes "seed"
option_name spec.count_option = codes "count"

abbrev pub option_word : Setting → Text
option_word spec.seed_option = codes "--seed"
option_word spec.count_option = codes "--count"

abbrev pub option_start : Setting → Text
option_start spec.seed_option = codes "--seed="
option_start spec.count_option = codes "--count="

-- what is held between two words
abbrev pub held_with : List Row → Option (Text × List Text) → Held
held_with rows pending = record { rows = rows; pending = pending; skip = 0 }

-- the word is no option, so that it may be a value, MODE or a name
abbrev pub IsPlainWord : Text → Type 0
IsPlainWord word = (waiting : Waiting) (position : ℕ) (rows : List Row) (pending : Option (Text × List Text))
    → (word_met rules [] false waiting position word (held_with rows pending) ≡ plain_word rules waiting word (held_with rows pending))
    × (word_fault top [] false waiting word (held_with rows pending) ≡ [])

-- the word is refused wherever an option may come
abbrev pub IsRefusedWord : Text → Type 0
IsRefusedWord word = (waiting : Waiting) (rows : List Row) (pending : Option (Text × List Text)) → IsFault (word_fault top [] false waiting word (held_with rows pending))

-- what a word is: `--`, an option, an option with its value, a word that `clap` refuses, or a plain one
pub data Lexed (word : Text) : Type 0 where
  is_end : word ≡ codes "--" → Lexed word
  is_option : (s : Setting) → word ≡ option_word s → Lexed word
  is_valued : (s : Setting) (t : Text) → word ≡ option_start s ++ t → Lexed word
  is_refused : saying_of word ≡ spec.plain word → begins_with_dash word ≡ true → IsRefusedWord word → Lexed word
  is_plain : saying_of word ≡ spec.plain word → IsPlainWord word → Lexed word

-- ---- parts of words

-- what begins so is that and the rest
begins_so : (start word : Text) → begins_with word start ≡ true → word ≡ start ++ drop (length start) word
begins_so start word e =
    sym (take-append-drop (length start) word) ∙ ap (λ (t : Text). t ++ drop (length start) word) (sym ((bytes_eq-Decides start (take (length start) word)).0 e))

-- a name ends the text, or `=` follows it
split_name : (text : Text) → (text ≡ before_first (λ x. x == 61) text) ⊎ ((rest : Text) × (text ≡ before_first (λ x. x == 61) text ++ 61 ∷ rest))
split_name [] = inl refl
split_name (x ∷ xs) = go (x == 61) refl (split_name xs)
  where
    n : ℕ
    n = position_or_len (λ x. x == 61) xs

    next : 1 + n ≡ suc n
    next = omega arith

    go : (b : Bool) → (x == 61) ≡ b → (xs ≡ take n xs) ⊎ ((rest : Text) × (xs ≡ take n xs ++ 61 ∷ rest))
        → (x ∷ xs ≡ take (cond (not b) (1 + n) 0) (x ∷ xs)) ⊎ ((rest : Text) × (x ∷ xs ≡ take (cond (not b) (1 + n) 0) (x ∷ xs) ++ 61 ∷ rest))
    go true e split = inr (xs, ap (λ (y : ℕ). y ∷ xs) (eqb-true x 61 e))
    go false e (inl whole) = inl (rw next (ap (λ (t : Text). x ∷ t) whole))
    go false e (inr part) = inr (part.0, rw next (ap (λ (t : Text). x ∷ t) part.1))

whole_word : (s : Setting) → bytes_eq (45 ∷ 45 ∷ option_name s) (option_word s) ≡ true
whole_word spec.seed_option = refl
whole_word spec.count_option = refl

starts_word : (s : Setting) (rest : Text) → begins_with (45 ∷ 45 ∷ (option_name s ++ 61 ∷ rest)) (option_start s) ≡ true
starts_word spec.seed_option rest = refl
starts_word spec.count_option rest = refl

-- a word that is no option, with a value or without, has another name
other_name : (s : Setting) (text : Text) → bytes_eq (45 ∷ 45 ∷ text) (option_word s) ≡ false → begins_with (45 ∷ 45 ∷ text) (option_start s) ≡ false
    → bytes_eq (option_name s) (before_first (λ x. x == 61) text) ≡ false
other_name s text apart short = go (bytes_eq (option_name s) (before_first (λ x. x == 61) text)) refl
  where
    split : option_name s ≡ before_first (λ x. x == 61) text
        → (text ≡ before_first (λ x. x == 61) text) ⊎ ((rest : Text) × (text ≡ before_first (λ x. x == 61) text ++ 61 ∷ rest)) → true ≡ false
    split name (inl whole) = sym (ap (λ (t : Text). bytes_eq (45 ∷ 45 ∷ t) (option_word s)) (whole ∙ sym name) ∙ whole_word s) ∙ apart
    split name (inr part) =
        sym (ap (λ (t : Text). begins_with (45 ∷ 45 ∷ t) (option_start s)) (part.1 ∙ ap (λ (n : Text). n ++ 61 ∷ part.0) (sym name)) ∙ starts_word s part.0) ∙ short

    go : (b : Bool) → bytes_eq (option_name s) (before_first (λ x. x == 61) text) ≡ b → b ≡ false
    go false e = refl
    go true e = split ((bytes_eq-Decides (option_name s) (before_first (λ x. x == 61) text)).0 e) (split_name text)

unknown : (name : Text) → bytes_eq (option_name spec.seed_option) name ≡ false → bytes_eq (option_name spec.count_option) name ≡ false → arg_by_long rules name ≡ None
unknown name no_seed no_count = rw (no_seed, no_count) refl

-- ---- no word names a subcommand

no_subcommand : (waiting : Waiting) (word : Text) → subcommand_met [] waiting word ≡ None
no_subcommand walk.idle word = refl
no_subcommand (walk.option id) word = refl
no_subcommand walk.positional word = refl

pub fault_there : (waiting : Waiting) (word : Text) (h : Held) → word_fault top [] false waiting word h ≡ other_fault top None word h
fault_there waiting word h = ap (λ o. other_fault top o word h) (no_subcommand waiting word)

pub met_there : (waiting : Waiting) (position : ℕ) (word : Text) (h : Held) → word_met rules [] false waiting position word h ≡ subcommand_or_other rules None waiting position word h
met_there waiting position word h = ap (λ o. subcommand_or_other rules o waiting position word h) (no_subcommand waiting word)

pub is_fault : (found : Kinds) (k : ErrorKind) (ks : Kinds) → found ≡ k ∷ ks → IsFault found
is_fault found k ks e = subst IsFault (sym e) tt

-- ---- words that begin with `-` and are neither `--` nor an option

refuses_long : (x : ℕ) (xs : Text) → bytes_eq (option_name spec.seed_option) (name_and_value (x ∷ xs)).0 ≡ false → bytes_eq (option_name spec.count_option) (name_and_value (x ∷ xs)).0 ≡ false
    → IsRefusedWord (45 ∷ 45 ∷ x ∷ xs)
refuses_long x xs no_seed no_count waiting rows pending =
    let parts : Text × Option Text = name_and_value (x ∷ xs) in
    let refused : other_fault top None (45 ∷ 45 ∷ x ∷ xs) (held_with rows pending) ≡ kind.UnknownArgument ∷ [] =
    ap (λ (o : Option Rule). long_fault rules false o parts.1 (held_with rows pending)) (unknown parts.0 no_seed no_count) in
    is_fault _ kind.UnknownArgument [] (fault_there waiting (45 ∷ 45 ∷ x ∷ xs) (held_with rows pending) ∙ refused)

not_ends : (x : ℕ) (xs : Text) → (x == 45) ≡ false → bytes_eq (45 ∷ x ∷ xs) (45 ∷ 45 ∷ []) ≡ false
not_ends x xs e = rw e refl

not_long : (x : ℕ) (xs : Text) → (x == 45) ≡ false → long_of (45 ∷ x ∷ xs) ≡ None
not_long x xs e = rw e refl

is_short : (x : ℕ) (xs : Text) → (x == 45) ≡ false → short_of (45 ∷ x ∷ xs) ≡ Some (x ∷ xs)
is_short x xs e = rw e refl

module _ (x : ℕ) (xs : Text) (apart : (x == 45) ≡ false) (waiting : Waiting) (position : ℕ) (rows : List Row) (pending : Option (Text × List Text)) where
  short_there : word_fault top [] false waiting (45 ∷ x ∷ xs) (held_with rows pending) ≡ bundle_fault rules false (x ∷ xs) (held_with rows pending)
  short_there =
      fault_there waiting (45 ∷ x ∷ xs) (held_with rows pending)
      ∙ (ap (λ (b : Bool). cond b [] (flag_word_fault rules false (long_of (45 ∷ x ∷ xs)) (45 ∷ x ∷ xs) (held_with rows pending))) (not_ends x xs apart)
      ∙ (ap (λ (o : Option (Text × Option Text)). flag_word_fault rules false o (45 ∷ x ∷ xs) (held_with rows pending)) (not_long x xs apart)
      ∙ ap (λ (o : Option Text). option_map_or (λ flags. bundle_fault rules false flags (held_with rows pending)) o []) (is_short x xs apart)))

  short_met_there : word_met rules [] false waiting position (45 ∷ x ∷ xs) (held_with rows pending) ≡ short_word rules waiting (45 ∷ x ∷ xs) (x ∷ xs) (held_with rows pending)
  short_met_there =
      met_there waiting position (45 ∷ x ∷ xs) (held_with rows pending)
      ∙ (ap (λ (b : Bool). cond b (held_with rows pending, walk.trailing position) (long_or_other rules waiting (45 ∷ x ∷ xs) (long_of (45 ∷ x ∷ xs)) (held_with rows pending))) (not_ends x xs apart)
      ∙ (ap (λ (o : Option (Text × Option Text)). long_or_other rules waiting (45 ∷ x ∷ xs) o (held_with rows pending)) (not_long x xs apart)
      ∙ ap (λ (o : Option Text). short_or_plain rules waiting (45 ∷ x ∷ xs) o (held_with rows pending)) (is_short x xs apart)))

  flags_refused : (c : ℕ) → slice_get (chars (x ∷ xs)) 0 ≡ Some c → bundle_fault rules false (x ∷ xs) (held_with rows pending) ≡ kind.UnknownArgument ∷ []
  unfolding flags_fault
  flags_refused c first = ap (λ (o : Option ℕ). bundle_step_fault rules false o (x ∷ xs) 0 (held_with rows pending) (flags_fault rules false (length xs))) first

  no_flags : slice_get (chars (x ∷ xs)) 0 ≡ None → bundle_fault rules false (x ∷ xs) (held_with rows pending) ≡ []
  unfolding flags_fault
  no_flags none = ap (λ (o : Option ℕ). bundle_step_fault rules false o (x ∷ xs) 0 (held_with rows pending) (flags_fault rules false (length xs))) none

  no_flags_met : slice_get (chars (x ∷ xs)) 0 ≡ None → bundle rules (x ∷ xs) (held_with rows pending) ≡ (held_with rows pending, walk.plain)
  unfolding bundle_met
  no_flags_met none = ap (λ (o : Option ℕ). bundle_step rules o (x ∷ xs) 0 walk.plain (held_with rows pending) (bundle_met rules (length xs))) none

  short_refuses : (c : ℕ) → slice_get (chars (x ∷ xs)) 0 ≡ Some c → IsFault (word_fault top [] false waiting (45 ∷ x ∷ xs) (held_with rows pending))
  short_refuses c first = is_fault _ kind.UnknownArgument [] (short_there ∙ flags_refused c first)

  short_is_plain : slice_get (chars (x ∷ xs)) 0 ≡ None
      → (word_met rules [] false waiting position (45 ∷ x ∷ xs) (held_with rows pending) ≡ plain_word rules waiting (45 ∷ x ∷ xs) (held_with rows pending))
      × (word_fault top [] false waiting (45 ∷ x ∷ xs) (held_with rows pending) ≡ [])
  short_is_plain none =
      (short_met_there ∙ ap (λ (m : Held × Outcome). after_flag rules waiting (45 ∷ x ∷ xs) m.0 m.1) (no_flags_met none), short_there ∙ no_flags none)

-- ---- each word

starts_otherwise : (x : ℕ) (xs : Text) → (x == 45) ≡ false → IsPlainWord (x ∷ xs)
starts_otherwise x xs e waiting position rows pending =
    let ends : bytes_eq (x ∷ xs) (45 ∷ 45 ∷ []) ≡ false = rw e refl in
    let long : long_of (x ∷ xs) ≡ None = rw e refl in
    let short : short_of (x ∷ xs) ≡ None = rw e refl in (
      met_there waiting position (x ∷ xs) (held_with rows pending)
          ∙ (ap (λ (b : Bool). cond b (held_with rows pending, walk.trailing position) (long_or_other rules waiting (x ∷ xs) (long_of (x ∷ xs)) (held_with rows pending))) ends
          ∙ (ap (λ (o : Option (Text × Option Text)). long_or_other rules waiting (x ∷ xs) o (held_with rows pending)) long
          ∙ ap (λ (o : Option Text). short_or_plain rules waiting (x ∷ xs) o (held_with rows pending)) short)),
      fault_there waiting (x ∷ xs) (held_with rows pending)
          ∙ (ap (λ (b : Bool). cond b [] (flag_word_fault rules false (long_of (x ∷ xs)) (x ∷ xs) (held_with rows pending))) ends
          ∙ (ap (λ (o : Option (Text × Option Text)). flag_word_fault rules false o (x ∷ xs) (held_with rows pending)) long
          ∙ ap (λ (o : Option Text). option_map_or (λ flags. bundle_fault rules false flags (held_with rows pending)) o []) short)),
    )

-- the word is neither `--` nor an option, with a value or without
record IsOther (word : Text) : Type 0 where
  no_end : bytes_eq word (codes "--") ≡ false
  no_seed : bytes_eq word (codes "--seed") ≡ false
  no_count : bytes_eq word (codes "--count") ≡ false
  no_seed_value : begins_with word (codes "--seed=") ≡ false
  no_count_value : begins_with word (codes "--count=") ≡ false

says_itself : (word : Text) → IsOther word → saying_of word ≡ spec.plain word
says_itself word other = rw (other.no_end, other.no_seed, other.no_count, other.no_seed_value, other.no_count_value) refl

one_dash : (x : ℕ) (xs : Text) → (x == 45) ≡ false → saying_of (45 ∷ x ∷ xs) ≡ spec.plain (45 ∷ x ∷ xs) → Lexed (45 ∷ x ∷ xs)
one_dash x xs apart says = go (slice_get (chars (x ∷ xs)) 0) refl
  where
    go : (o : Option ℕ) → slice_get (chars (x ∷ xs)) 0 ≡ o → Lexed (45 ∷ x ∷ xs)
    go None none = is_plain says (λ waiting position rows pending. short_is_plain x xs apart waiting position rows pending none)
    go (Some c) first = is_refused says refl (λ waiting rows pending. short_refuses x xs apart waiting 1 rows pending c first)

two_dashes : (text : Text) → IsOther (45 ∷ 45 ∷ text) → Lexed (45 ∷ 45 ∷ text)
two_dashes [] other = absurd (true≢false other.no_end)
two_dashes (x ∷ xs) other =
    is_refused (says_itself (45 ∷ 45 ∷ x ∷ xs) other) refl
    (refuses_long x xs (other_name spec.seed_option (x ∷ xs) other.no_seed other.no_seed_value) (other_name spec.count_option (x ∷ xs) other.no_count other.no_count_value))

dashed : (xs : Text) → IsOther (45 ∷ xs) → Lexed (45 ∷ xs)
dashed [] other =
    is_plain (says_itself (45 ∷ []) other) (λ waiting position rows pending. (met_there waiting position (45 ∷ []) (held_with rows pending), fault_there waiting (45 ∷ []) (held_with rows pending)))
dashed (x ∷ xs) other = elim (cases_Bool (x == 45)) [
  | inl e ↦
      let P : ℕ → Type 0 = λ y. IsOther (45 ∷ y ∷ xs) → Lexed (45 ∷ y ∷ xs) in
      subst P (sym (eqb-true x 45 e)) (two_dashes xs) other
  | inr e ↦ one_dash x xs e (says_itself (45 ∷ x ∷ xs) other)
]

other_word : (word : Text) → IsOther word → Lexed word
other_word [] other = is_plain refl (λ waiting position rows pending. (met_there waiting position [] (held_with rows pending), fault_there waiting [] (held_with rows pending)))
other_word (x ∷ xs) other = elim (cases_Bool (x == 45)) [
  | inl e ↦
      let P : ℕ → Type 0 = λ y. IsOther (y ∷ xs) → Lexed (y ∷ xs) in
      subst P (sym (eqb-true x 45 e)) (dashed xs) other
  | inr e ↦ is_plain (says_itself (x ∷ xs) other) (starts_otherwise x xs e)
]

-- what a word is
pub lexed : (word : Text) → Lexed word
lexed word = elim (cases_Bool (bytes_eq word (codes "--"))) [
  | inl e ↦ is_end ((bytes_eq-Decides word (codes "--")).0 e)
  | inr no_end ↦ elim (cases_Bool (bytes_eq word (codes "--seed"))) [
    | inl e ↦ is_option spec.seed_option ((bytes_eq-Decides word (codes "--seed")).0 e)
    | inr no_seed ↦ elim (cases_Bool (bytes_eq word (codes "--count"))) [
      | inl e ↦ is_option spec.count_option ((bytes_eq-Decides word (codes "--count")).0 e)
      | inr no_count ↦ elim (cases_Bool (begins_with word (codes "--seed="))) [
        | inl e ↦ is_valued spec.seed_option (drop 7 word) (begins_so (codes "--seed=") word e)
        | inr no_seed_value ↦ elim (cases_Bool (begins_with word (codes "--count="))) [
          | inl e ↦ is_valued spec.count_option (drop 8 word) (begins_so (codes "--count=") word e)
          | inr no_count_value ↦
              other_word word (record { no_end = no_end; no_seed = no_seed; no_count = no_count; no_seed_value = no_seed_value; no_count_value = no_count_value })
        ]
      ]
    ]
  ]
]
