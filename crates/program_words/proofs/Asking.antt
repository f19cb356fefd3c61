-- What words ask behind what was said before them.
use Rattle.std.proofs.Common.{◌≡◌, ◌&&◌, ℕ, Bool, cond, eqb-true, true, false, refl, sym, ap, subst, List, [], ◌∷◌, ◌++◌, length, Option, Some, None, true≢false}
use Rattle.std.proofs.lemmas.Bool.{and_right}
use Rattle.std.specs.Prelude.{nat_le}
use Rattle.std.specs.List.{list_all}
use Rattle.std.specs.Option.{option_and_then, option_map}
use Rattle.depot_path.specs.Digits.{is_digits}
use Rattle.depot_path.specs.Name.{begins_with_dash, is_name}
use Rattle.program_words.specs.Words.{Job, Said, Saying, are_party_names, asked_by, job_by_names, job_of_mode, job_of_words, job_with, number_given, number_in, with_saying}

abbrev pub Text : Type 0
Text = List ℕ

-- ---- what is said, and then more

abbrev pub joined : Said → Said → Said
joined a b = record { seeds = a.seeds ++ b.seeds; counts = a.counts ++ b.counts; plain = a.plain ++ b.plain }

abbrev pub asks_with : Said → Option Said → Option Job
asks_with a more = option_and_then asked_by (option_map (joined a) more)

pub asks_on : (a after : Said) (s : Saying) (more : Option Said) → ((b : Said) → joined a (with_saying s b) ≡ joined after b) → asks_with a (option_map (with_saying s) more) ≡ asks_with after more
asks_on a after s None same = refl
asks_on a after s (Some b) same = ap asked_by (same b)

pub asks_none : (a : Said) (s : Saying) (more : Option Said) → ((b : Said) → asked_by (joined a (with_saying s b)) ≡ None) → asks_with a (option_map (with_saying s) more) ≡ None
asks_none a s None dead = refl
asks_none a s (Some b) dead = dead b

-- ---- what asks nothing

pub no_seed : (count : Option ℕ) (words : List Text) → job_with None count words ≡ None
no_seed None words = refl
no_seed (Some c) words = refl

pub no_count : (seed : Option ℕ) (words : List Text) → job_with seed None words ≡ None
no_count None words = refl
no_count (Some s) words = refl

pub no_words : (seed count : Option ℕ) → job_with seed count [] ≡ None
no_words None count = no_seed count []
no_words (Some s) None = refl
no_words (Some s) (Some c) = refl

-- ---- a word that begins with `-` is no number, no mode and no name

begins_so : (P : Text → Type 0) → ((xs : Text) → P (45 ∷ xs)) → (word : Text) → begins_with_dash word ≡ true → P word
begins_so P holds [] dash = absurd (true≢false (sym dash))
begins_so P holds (x ∷ xs) dash = let Q : ℕ → Type 0 = λ y. P (y ∷ xs) in subst Q (sym (eqb-true x 45 dash)) (holds xs)

no_digits : (xs : Text) → is_digits (45 ∷ xs) ≡ false
no_digits xs = and_right (nat_le 1 (length (45 ∷ xs))) false refl

pub no_number : (least most : ℕ) (text : Text) → begins_with_dash text ≡ true → number_in least most text ≡ None
no_number least most = begins_so (λ text. number_in least most text ≡ None) dashed
  where
    dashed : (xs : Text) → number_in least most (45 ∷ xs) ≡ None
    dashed xs = rw (no_digits xs, and_right (nat_le (length (45 ∷ xs)) 10) false refl) refl

abbrev pub opt_list : Option Text → List Text
opt_list None = []
opt_list (Some text) = text ∷ []

-- an option with such a value, whatever follows
pub no_value : (least most absent : ℕ) (before : Option Text) (text : Text) (more : List Text) → begins_with_dash text ≡ true
    → number_given least most absent (opt_list before ++ text ∷ more) ≡ None
no_value least most absent None text [] dash = no_number least most text dash
no_value least most absent None text (other ∷ more) dash = refl
no_value least most absent (Some first) text more dash = refl

pub no_name : (word : Text) → begins_with_dash word ≡ true → is_name word ≡ false
no_name word dash = rw (dash, and_right (nat_le 1 (length word) && nat_le (length word) 128) false refl) refl

no_names : (before : List Text) (word : Text) (more : List Text) → begins_with_dash word ≡ true → list_all is_name (before ++ word ∷ more) ≡ false
no_names [] word more dash = rw (no_name word dash) refl
no_names (x ∷ before) word more dash = rw (no_names before word more dash) (and_right (is_name x) false refl)

no_parties : (names : List Text) → list_all is_name names ≡ false → are_party_names names ≡ false
no_parties names none = rw (none, and_right (nat_le (length names) 16) false refl) refl

no_mode : (seed count : ℕ) (more : List Text) (xs : Text) → job_of_mode seed count (45 ∷ xs) more ≡ None
no_mode seed count [] xs = refl
no_mode seed count (name ∷ names) xs = go (are_party_names (name ∷ names))
  where
    go : (b : Bool) → cond b (job_by_names seed (45 ∷ xs) (name ∷ names)) None ≡ None
    go true = refl
    go false = refl

no_job : (seed count : ℕ) (before : List Text) (word : Text) (more : List Text) → begins_with_dash word ≡ true → job_of_words seed count (before ++ word ∷ more) ≡ None
no_job seed count [] word more dash = begins_so (λ text. job_of_mode seed count text more ≡ None) (no_mode seed count more) word dash
no_job seed count (mode ∷ []) word more dash = rw (no_parties (word ∷ more) (no_names [] word more dash)) refl
no_job seed count (mode ∷ name ∷ before) word more dash = rw (no_parties (name ∷ before ++ word ∷ more) (no_names (name ∷ before) word more dash)) refl

-- such a word among MODE and the names, whatever follows
pub no_plain : (seed count : Option ℕ) (before : List Text) (word : Text) (more : List Text) → begins_with_dash word ≡ true → job_with seed count (before ++ word ∷ more) ≡ None
no_plain None count before word more dash = no_seed count (before ++ word ∷ more)
no_plain (Some s) None before word more dash = refl
no_plain (Some s) (Some c) before word more dash = no_job s c before word more dash
