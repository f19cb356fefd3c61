-- The laws of the readers of heads and marks.
use Rattle.std.proofs.Common.{◌≡◌, ℕ, ◌<◌, ◌≤◌, ◌^◌, Bool, eqb, List, [], ◌∷◌, ◌++◌, length, refl, sym, ap, subst, ◌∙◌, append_assoc, arith}
use Rattle.std.specs.Prelude.{codes}
use Rattle.std.specs.Fmt.{decimal}
use Rattle.std.proofs.lemmas.Fmt.{decimal_nonempty}
use Rattle.record_text.specs.declared.fault.Part.{Part}
use Rattle.record_text.specs.declared.fault.Part.TheVariants.{Field}
use Rattle.record_text.specs.Reading.{Reading, Done, Ends, Wrong, and_then, Begins, Reads}
use Rattle.record_text.specs.Spelling.{sign, spelled_number, number_at}
use Rattle.record_text.specs.Grammar.{largest_wide}
use Rattle.record_text.proofs.Words.{word_reads}
use Rattle.record_text.proofs.Numbers.{number_reads}
use Rattle.record_text.proofs.Chains.{both_at, both_fit, both_spell, both_reads, see, mapped_reads}
use Rattle.journal_groups.specs.Groups.{head_of, mark, open_byte}
use Rattle.journal_groups.specs.Reading.{exactly, head_at, behind_sign, mark_at}
use Rattle.journal_groups.proofs.Extended.{exactly_again}

abbrev Any : {A : Type 0} → A → Type 0
Any a = Unit {0}

word_begins : (word : List ℕ) → 0 < length word → Begins {A = Unit {0}} Any (λ x. word) []
word_begins [] lt = absurd (omega arith)
word_begins (x ∷ word) lt = record { value = tt; fits = tt; next = x; more = word; whole = refl }

exactly_reads : (word : List ℕ) → 0 < length word → Reads (exactly word) Any (λ x. word)
exactly_reads word lt = word_reads (λ (x : Unit {0}). word) (tt ∷ []) Field Any (tt, tt) (word_begins word lt) (λ a rest fits. exactly_again word rest)

reads_same : {A : Type 0} (f g : List ℕ → Reading A) (Fits : A → Type 0) (spell : A → List ℕ) → ((bytes : List ℕ) → f bytes ≡ g bytes) → Reads f Fits spell → Reads g Fits spell
reads_same {A} f g Fits spell e laws = subst (λ (h : List ℕ → Reading A). Reads h Fits spell) (λ i bytes. e bytes i) laws

spelled_same : {A : Type 0} (f : List ℕ → Reading A) (Fits : A → Type 0) (spell other : A → List ℕ) → ((a : A) → spell a ≡ other a) → Reads f Fits spell → Reads f Fits other
spelled_same {A} f Fits spell other e laws = subst (λ (s : A → List ℕ). Reads f Fits s) (λ i a. e a i) laws

second_alone : {A B : Type 0} (a : A) (s : Reading B) → and_then (and_then s (λ b after. Done (let p : A × B = (a, b) in p) after)) (λ x after. Done x.1 after) ≡ s
second_alone a (Done b rest) = refl
second_alone a Ends = refl
second_alone a (Wrong part left) = refl

first_gone : {A B : Type 0} (r : Reading A) (second : List ℕ → Reading B) → and_then (and_then r (λ a rest. and_then (second rest) (λ b after. Done (let p : A × B = (a, b) in p) after))) (λ x after. Done x.1 after) ≡ and_then r (λ _ rest. second rest)
first_gone (Done a rest) second = second_alone a (second rest)
first_gone Ends second = refl
first_gone (Wrong part left) second = refl

-- fixed bytes before something else
after_word : {B : Type 0} (word : List ℕ) (second : List ℕ → Reading B) (Fits : B → Type 0) (spell : B → List ℕ) → 0 < length word → (b : B) → Fits b → Reads second Fits spell → Reads (λ bytes. and_then (exactly word bytes) (λ _ rest. second rest)) Fits (λ x. word ++ spell x)
after_word {B} word second Fits spell lt b fits laws =
    reads_same (λ bytes. see (λ x. x.1) (both_at (exactly word) (λ _. second) bytes)) (λ bytes. and_then (exactly word bytes) (λ _ rest. second rest)) Fits (λ x. word ++ spell x)
    (λ bytes. first_gone (exactly word bytes) second)
    (mapped_reads (both_at (exactly word) (λ _. second)) (both_fit Any (λ _. Fits)) (both_spell (λ _. word) (λ _. spell)) (λ x. x.1) Fits (λ x. word ++ spell x)
    (both_reads (exactly word) (λ _. second) Any (λ _. word) (λ _. Fits) (λ _. spell) (exactly_reads word lt) (λ _ any. laws) (λ _ any. (b, fits)))
    (λ x f. (f.1, refl)) (λ x f. ((tt, x), (tt, f), refl)))

pub head_reads : (number : ℕ) → number < 2 ^ 64 → Reads (head_at number) (λ size. size ≤ largest_wide) (head_of number)
head_reads number small =
    let size_reads = number_reads 0 largest_wide 0x0A (omega arith) (omega arith) (omega arith) (omega arith) in
    let Size : ℕ → Type 0 = λ n. (0 ≤ n) × (n ≤ largest_wide) in
    let laws = after_word (codes "@nx@ ") (λ bytes. and_then (exactly (decimal number) bytes) (λ _ rest2. and_then (exactly (codes " ") rest2) (λ _ rest. number_at 0 largest_wide 0x0A rest))) Size (λ n. decimal number ++ (codes " " ++ spelled_number 0x0A n)) (omega arith) 0 (omega arith, omega arith)
    (after_word (decimal number) (λ bytes. and_then (exactly (codes " ") bytes) (λ _ rest. number_at 0 largest_wide 0x0A rest)) Size (λ n. codes " " ++ spelled_number 0x0A n) (decimal_nonempty number small) 0 (omega arith, omega arith)
    (after_word (codes " ") (number_at 0 largest_wide 0x0A) Size (spelled_number 0x0A) (omega arith) 0 (omega arith, omega arith) size_reads)) in
    let seen = spelled_same (head_at number) Size (λ n. codes "@nx@ " ++ (decimal number ++ (codes " " ++ spelled_number 0x0A n))) (head_of number) (λ n. ap (λ (t : List ℕ). codes "@nx@ " ++ t) (sym (append_assoc (decimal number) (codes " ") (spelled_number 0x0A n)))) laws in
    record {
      done = λ bytes n rest e. let d = seen.done bytes n rest e in (d.0.1, d.1);
      again = λ n rest fits. seen.again n rest (omega arith, fits);
      ends = λ bytes e. let b = seen.ends bytes e in record { value = b.value; fits = b.fits.1; next = b.next; more = b.more; whole = b.whole };
      wrong = λ bytes part left e.
          let s = seen.wrong bytes part left e in
          record {
            front = s.front;
            bad = s.bad;
            after = s.after;
            parts = s.parts;
            place = s.place;
            begins = record { value = s.begins.value; fits = s.begins.fits.1; next = s.begins.next; more = s.begins.more; whole = s.begins.whole };
            none = λ n more rest fits f. s.none n more rest (omega arith, fits) f;
          };
    }

-- ---- marks, by their second byte

abbrev byte_at : List ℕ → Reading ℕ
byte_at [] = Ends
byte_at (byte ∷ rest) = Done byte rest

byte_done : (bytes : List ℕ) (b : ℕ) (rest : List ℕ) → byte_at bytes ≡ Done b rest → bytes ≡ b ∷ rest
byte_done [] b rest e = absurd cc
byte_done (byte ∷ bytes) b rest e =
    let same : byte ≡ b = cc in
    let rests : bytes ≡ rest = cc in
    ap (λ (x : ℕ). x ∷ bytes) same ∙ ap (λ (t : List ℕ). b ∷ t) rests

byte_ends : (bytes : List ℕ) → byte_at bytes ≡ Ends → bytes ≡ []
byte_ends [] e = refl
byte_ends (byte ∷ bytes) e = absurd cc

byte_never : (bytes : List ℕ) (part : Part) (left : ℕ) → byte_at bytes ≡ Wrong part left → ⊥
byte_never [] part left e = cc
byte_never (byte ∷ bytes) part left e = cc

abbrev one : ℕ → List ℕ
one byte = byte ∷ []

byte_reads : Reads byte_at Any one
byte_reads = record {
  done = λ bytes b rest e. (tt, byte_done bytes b rest e);
  again = λ b rest fits. refl;
  ends = λ bytes e. subst (Begins Any one) (sym (byte_ends bytes e)) (record { value = 0; fits = tt; next = 0; more = []; whole = refl });
  wrong = λ bytes part left e. absurd (byte_never bytes part left e);
}

first_alone : {A B : Type 0} (a : A) (s : Reading B) → and_then (and_then s (λ b after. Done (let p : A × B = (a, b) in p) after)) (λ x after. Done x.0 after) ≡ and_then s (λ _ after. Done a after)
first_alone a (Done b rest) = refl
first_alone a Ends = refl
first_alone a (Wrong part left) = refl

second_gone : {A B : Type 0} (r : Reading A) (second : List ℕ → Reading B) → and_then (and_then r (λ a rest. and_then (second rest) (λ b after. Done (let p : A × B = (a, b) in p) after))) (λ x after. Done x.0 after) ≡ and_then r (λ a rest. and_then (second rest) (λ _ after. Done a after))
second_gone (Done a rest) second = first_alone a (second rest)
second_gone Ends second = refl
second_gone (Wrong part left) second = refl

abbrev tail_at : List ℕ → Reading ℕ
tail_at bytes = and_then (byte_at bytes) (λ byte rest. and_then (exactly (codes "x@\n") rest) (λ _ after. Done byte after))

tail_reads : Reads tail_at Any (λ byte. byte ∷ codes "x@\n")
tail_reads =
    reads_same (λ bytes. see (λ x. x.0) (both_at byte_at (λ _. exactly (codes "x@\n")) bytes)) tail_at Any (λ byte. byte ∷ codes "x@\n")
    (λ bytes. second_gone (byte_at bytes) (exactly (codes "x@\n")))
    (mapped_reads (both_at byte_at (λ _. exactly (codes "x@\n"))) (both_fit Any (λ _. Any)) (both_spell one (λ _ x. codes "x@\n")) (λ x. x.0) Any (λ byte. byte ∷ codes "x@\n")
    (both_reads byte_at (λ _. exactly (codes "x@\n")) Any one (λ _. Any) (λ _ x. codes "x@\n") byte_reads (λ _ any. exactly_reads (codes "x@\n") (omega arith)) (λ _ any. (tt, tt)))
    (λ x f. (tt, refl)) (λ x f. ((x, tt), (tt, tt), refl)))

-- the mark with its second byte
abbrev pub marked_at : List ℕ → Reading ℕ
marked_at bytes = and_then (exactly (sign ∷ []) bytes) (λ _ rest. tail_at rest)

pub marked_reads : Reads marked_at Any mark
marked_reads = after_word (sign ∷ []) tail_at Any (λ byte. byte ∷ codes "x@\n") (omega arith) 0 tt tail_reads

abbrev pub opened : Reading ℕ → Reading Bool
opened r = and_then r (λ byte rest. Done (eqb byte open_byte) rest)

opened_word : (byte : ℕ) (r : Reading (Unit {0})) → and_then r (λ _ rest. Done (eqb byte open_byte) rest) ≡ opened (and_then r (λ _ after. Done byte after))
opened_word byte (Done x rest) = refl
opened_word byte Ends = refl
opened_word byte (Wrong part left) = refl

opened_sign : (bytes : List ℕ) → behind_sign bytes ≡ opened (tail_at bytes)
opened_sign [] = refl
opened_sign (byte ∷ rest) = opened_word byte (exactly (codes "x@\n") rest)

opened_then : (r : Reading (Unit {0})) → and_then r (λ _ rest. behind_sign rest) ≡ opened (and_then r (λ _ rest. tail_at rest))
opened_then (Done x rest) = opened_sign rest
opened_then Ends = refl
opened_then (Wrong part left) = refl

pub mark_is : (bytes : List ℕ) → mark_at bytes ≡ opened (marked_at bytes)
mark_is bytes = opened_then (exactly (sign ∷ []) bytes)
