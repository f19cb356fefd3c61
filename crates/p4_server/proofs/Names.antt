-- The names of the parties that the words ask for.
use Rattle.std.proofs.Common.{◌≡◌, ◌≢◌, ℕ, Bool, true, false, cond, not, List, [], ◌∷◌, Option, Some, None, refl, sym, ap, subst, ◌∙◌, arith}
use Rattle.std.specs.List.{list_any}
use Rattle.std.specs.Option.{option_and_then}
use Rattle.std.proofs.lemmas.List.Folds.{list_any_at}
use Rattle.std.proofs.lemmas.List.Kept.{AllPairs-cons}
use Rattle.std.proofs.lemmas.Slice.Eq.{bytes_eq-Decides}
use Rattle.std.proofs.lemmas.Bool.{and_parts}
use Rattle.depot_rows.specs.depot_path.Bytes.{same}
use Rattle.p4_server.specs.Parties.{AreDifferent}
use Rattle.program_words.specs.Words.{Job, Said, asked, asked_by, init, dump, checkpoint, load, schedule, serve, said_from, job_of_words, job_with, seed_given, count_given, are_party_names, are_distinct, anything}

false_of : (b : Bool) → not b ≡ true → b ≡ false
false_of true e = absurd cc
false_of false e = refl

-- ---- distinct names

same_self : (a : List ℕ) → same a a ≡ true
same_self a = (bytes_eq-Decides a a).1 refl

pub different_of : (names : List (List ℕ)) → are_distinct names ≡ true → AreDifferent names
different_of [] e = λ i j d lt1 lt2. absurd (omega (arith, lt2))
different_of (name ∷ names) e =
    let none : list_any (same name) names ≡ false = false_of (list_any (same name) names) (and_parts (not (list_any (same name) names)) (are_distinct names) e).0 in
    AllPairs-cons (λ one other. one ≢ other) name names
    (λ k d lt is.
    let some : list_any (same name) names ≡ true = list_any_at (same name) names k d lt (ap (same name) (sym is) ∙ same_self name) in
    let clash : true ≡ false = sym some ∙ none in
    absurd cc)
    (different_of names (and_parts (not (list_any (same name) names)) (are_distinct names) e).1)

-- ---- what is asked

-- the names of a mode are those that parties can have
abbrev AreNamed : Job → Type 0
AreNamed (schedule seed names) = are_party_names names ≡ true
AreNamed (serve names) = are_party_names names ≡ true
AreNamed _ = Unit {0}

abbrev AllNamed : Option Job → Type 0
AllNamed (Some job) = AreNamed job
AllNamed None = Unit {0}

by_names : (a b : Bool) (seed : ℕ) (names : List (List ℕ)) → are_party_names names ≡ true → AllNamed (cond a (Some (schedule seed names)) (cond b (Some (serve names)) None))
by_names true b seed names holds = holds
by_names false true seed names holds = holds
by_names false false seed names holds = tt

with_names : (test a b : Bool) (seed : ℕ) (names : List (List ℕ)) → (test ≡ true → are_party_names names ≡ true)
    → AllNamed (cond test (cond a (Some (schedule seed names)) (cond b (Some (serve names)) None)) None)
with_names true a b seed names holds = by_names a b seed names (holds refl)
with_names false a b seed names holds = tt

alone : (s n : ℕ) (a b c l : Bool) → AllNamed (cond a (Some init) (cond b (Some dump) (cond c (Some checkpoint) (cond l (Some (load s n)) None))))
alone s n true b c l = tt
alone s n false true c l = tt
alone s n false false true l = tt
alone s n false false false true = tt
alone s n false false false false = tt

of_words : (s n : ℕ) (words : List (List ℕ)) → AllNamed (job_of_words s n words)
of_words s n [] = tt
of_words s n (word ∷ []) = alone s n _ _ _ _
of_words s n (word ∷ name ∷ others) = with_names (are_party_names (name ∷ others)) _ _ s (name ∷ others) (λ holds. holds)

of_numbers : (s n : Option ℕ) (words : List (List ℕ)) → AllNamed (job_with s n words)
of_numbers (Some s) (Some n) words = of_words s n words
of_numbers (Some s) None words = tt
of_numbers None n words = tt

of_said : (said : Option Said) → AllNamed (option_and_then asked_by said)
of_said None = tt
of_said (Some said) = of_numbers (seed_given said.seeds) (count_given said.counts) said.plain

party_names : (words : List (List ℕ)) → AllNamed (asked words)
party_names words = of_said (said_from anything words)

-- the names are different
pub names_differ : (seed : ℕ) (names words : List (List ℕ)) → asked words ≡ Some (schedule seed names) → AreDifferent names
names_differ seed names words asks = different_of names (and_parts _ (are_distinct names) (subst AllNamed asks (party_names words))).1

pub served_differ : (names words : List (List ℕ)) → asked words ≡ Some (serve names) → AreDifferent names
served_differ names words asks = different_of names (and_parts _ (are_distinct names) (subst AllNamed asks (party_names words))).1
