-- What is read stays so when more bytes follow.
use Rattle.std.proofs.Common.{◌≡◌, ℕ, Bool, true, false, cond, eqb, List, [], ◌∷◌, ◌++◌, length, take, drop, Some, None, refl, sym, ap, ◌∙◌}
use Rattle.std.specs.Prelude.{nat_eq}
use Rattle.std.specs.Str.{bytes_eq}
use Rattle.std.specs.List.{starts_with}
use Rattle.std.proofs.lemmas.Bool.{and_from, eq-eqb}
use Rattle.std.proofs.lemmas.List.{take-append-drop}
use Rattle.std.proofs.Math.Seq.{take-append_seam, drop-append_seam}
use Rattle.record_text.specs.declared.fault.Part.TheVariants.{Field}
use Rattle.record_text.specs.Reading.{Reading, Done, Ends, Wrong, and_then}
use Rattle.record_text.specs.Words.{word_read, common, greater}
use Rattle.record_text.proofs.Words.{bytes_are}
use Rattle.journal_groups.specs.Reading.{exactly}

abbrev pub Extended : {A : Type 0} → List ℕ → Reading A → Reading A → Type 0
Extended {A} more r s = (a : A) (rest : List ℕ) → r ≡ Done a rest → s ≡ Done a (rest ++ more)

abbrev done : {A : Type 0} → A → List ℕ → Reading A
done a rest = Done a rest

pub parts_of : {A B : Type 0} (r : Reading A) (f : A → List ℕ → Reading B) (b : B) (rest : List ℕ) → and_then r f ≡ Done b rest → (a : A) × ((mid : List ℕ) × ((r ≡ Done a mid) × (f a mid ≡ Done b rest)))
parts_of (Done a mid) f b rest e = (a, (mid, (refl, e)))
parts_of Ends f b rest e = absurd cc
parts_of (Wrong part left) f b rest e = absurd cc

-- ---- fixed bytes

bytes_same : (xs : List ℕ) → bytes_eq xs xs ≡ true
bytes_same [] = refl
bytes_same (x ∷ xs) = and_from (eqb x x) (bytes_eq xs xs) (eq-eqb x x refl) (bytes_same xs)

abbrev chosen : List ℕ → List ℕ → Bool → ℕ → Reading (Unit {0})
chosen word bytes b n = word_read (λ (x : Unit {0}). word) Field bytes (cond b (Some tt) None) n

tested_done : (b : Bool) (left : ℕ) (a : Unit {0}) (rest : List ℕ) → cond b Ends (Wrong Field left) ≡ Done a rest → ⊥
tested_done true left a rest e = cc
tested_done false left a rest e = cc

chosen_done : (word bytes : List ℕ) (b : Bool) (n : ℕ) (a : Unit {0}) (rest : List ℕ) → chosen word bytes b n ≡ Done a rest → (b ≡ true) × (drop (length word) bytes ≡ rest)
chosen_done word bytes true n a rest e = (refl, cc)
chosen_done word bytes false n a rest e = absurd (tested_done _ _ a rest e)

pub exactly_again : (word rest : List ℕ) → exactly word (word ++ rest) ≡ Done tt rest
exactly_again word rest =
    let same : starts_with nat_eq (word ++ rest) word ≡ true = ap (bytes_eq word) (take-append_seam word rest) ∙ bytes_same word in
    ap (λ (b : Bool). chosen word (word ++ rest) b (greater (common word (word ++ rest)) 0)) same ∙ ap (done tt) (drop-append_seam word rest)

pub exactly_whole : (word bytes rest : List ℕ) (a : Unit {0}) → exactly word bytes ≡ Done a rest → bytes ≡ word ++ rest
exactly_whole word bytes rest a e =
    let p = chosen_done word bytes (starts_with nat_eq bytes word) (greater (common word bytes) 0) a rest e in
    sym (take-append-drop (length word) bytes) ∙ ap (λ (t : List ℕ). t ++ drop (length word) bytes) (sym (bytes_are word (take (length word) bytes) p.0)) ∙ ap (λ (t : List ℕ). word ++ t) p.1
