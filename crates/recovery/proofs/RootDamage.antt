-- The place at which bytes are no longer those of a root.
use Rattle.std.proofs.Common.{◌≡◌, ◌≢◌, inl, inr, ℕ, zero, suc, ◌+◌, ◌-◌, ◌<◌, ◌≤◌, List, [], ◌∷◌, ◌++◌, length, replicate, get_or, take, drop, sym, ◌∙◌, ap, subst, arith, append_assoc, length-append, length-drop, length-take}
use Rattle.std.proofs.lemmas.Bool.{cases_lt}
use Rattle.std.proofs.Math.Seq.{take-append-add}
use Rattle.std.proofs.lemmas.List.{append-nil, get_or-take, get_or-drop, get_or_append_left, length-replicate, length-take-le, take_all, take-append-drop, take-append-le}
use Rattle.disk_journal.specs.Images.{IsTail, IsRoot}
use Rattle.recovery.specs.Damage.{BeginsRoot, IsRootDamage}
use Rattle.recovery.proofs.Roots.{all_closed, at_front, front_same, tail_of}

replicate_more : (a b v : ℕ) → replicate a v ++ replicate b v ≡ replicate (a + b) v
replicate_more zero b v = ap (λ (m : ℕ). replicate m v) (let e : b ≡ 0 + b = omega arith in e)
replicate_more (suc a) b v =
    let e : suc (a + b) ≡ suc a + b = omega arith in
    ap (λ (l : List ℕ). v ∷ l) (replicate_more a b v) ∙ ap (λ (m : ℕ). replicate m v) e

all_more : (rest : List ℕ) (n : ℕ) → rest ≡ replicate (length rest) 109 → rest ++ replicate n 109 ≡ replicate (length (rest ++ replicate n 109)) 109
all_more rest n is =
    ap (λ (l : List ℕ). l ++ replicate n 109) is
    ∙ replicate_more (length rest) n 109
    ∙ ap (λ (m : ℕ). replicate m 109) (sym (length-append rest (replicate n 109) ∙ ap (λ (m : ℕ). length rest + m) (length-replicate n 109)))

-- closed bytes may follow
tail_more : (tail : List ℕ) (n : ℕ) → IsTail tail → IsTail (tail ++ replicate n 109)
tail_more [] zero shut = tt
tail_more [] (suc n) shut = (λ e. omega (arith, e), ap (λ (m : ℕ). replicate m 109) (sym (length-replicate n 109)))
tail_more (byte ∷ rest) n shut = (shut.0, all_more rest n shut.1)

closed_at : (tail : List ℕ) (n : ℕ) → IsTail tail → 0 < n → n < length tail → get_or tail n 0 ≡ 109
closed_at [] n shut some within = absurd (omega (arith, within))
closed_at (byte ∷ rest) zero shut some within = absurd (omega (arith, some))
closed_at (byte ∷ rest) (suc n) shut some within =
    ap (λ (l : List ℕ). get_or l n 0) (shut.1 ∙ sym (append-nil (replicate (length rest) 109))) ∙ at_front (length rest) 109 [] n (omega (arith, within))

-- a byte that isn't open, and some closed ones
pub tail_taken : (tail : List ℕ) (count : ℕ) → (0 < length tail → get_or tail 0 0 ≢ 101) → 1 + count ≤ length tail → ((k : ℕ) → k < count → get_or (drop 1 tail) k 0 ≡ 109) → IsTail (take (1 + count) tail)
tail_taken [] count shut within closed = absurd (omega (arith, within))
tail_taken (byte ∷ rest) count shut within closed =
    let few : count ≤ length rest = omega (arith, within) in
    let one : 1 + count ≡ suc count = omega arith in
    subst (λ (n : ℕ). IsTail (take n (byte ∷ rest))) (sym one) (
      shut (omega arith),
      all_closed (take count rest) count (sym (length-take-le count rest few)) (λ k below. get_or-take count rest k 0 below ∙ closed k below),
    )

-- the bytes of a root up to a place, of which `count` are open and `n` behind them fit
module _ (root : List ℕ) (count n : ℕ) (within : count + n ≤ length root) (before : (k : ℕ) → k < count → get_or root k 0 ≡ 101) (next : count < length root → get_or root count 0 ≢ 101) where
  parts : take (count + n) root ≡ replicate count 101 ++ take n (drop count root)
  parts =
      let open_bytes : List ℕ = replicate count 101 in
      ap (take (count + n)) (front_same count 101 root (omega (arith, within)) before)
      ∙ ap (λ (m : ℕ). take (m + n) (open_bytes ++ drop count root)) (sym (length-replicate count 101))
      ∙ take-append-add open_bytes (drop count root) n

  pub begins_root : count + n ≤ 4095 → IsTail (take n (drop count root)) → BeginsRoot (take (count + n) root)
  begins_root short shut =
      let more = replicate (4095 - (count + n)) 109 in
      let tail = take n (drop count root) in
      record {
        generation = count;
        more = more;
        root = record {
          tail = tail ++ more;
          is = ap (λ (l : List ℕ). l ++ more) parts ∙ append_assoc (replicate count 101) tail more;
          shut = tail_more tail (4095 - (count + n)) shut;
          long = omega (arith, short, length-append (take (count + n) root) more, length-take-le (count + n) root within, length-replicate {A = ℕ} (4095 - (count + n)) 109);
        };
      }

  pub begins_no_more : 0 < n → count + n < length root → get_or (drop count root) n 0 ≢ 109 → BeginsRoot (take (count + n + 1) root) → ⊥
  begins_no_more some below other begins =
      let front = take (count + n + 1) root in
      let whole = front ++ begins.more in
      let long : length front ≡ count + n + 1 = length-take-le (count + n + 1) root (omega (arith, below)) in
      let far : count + n + 1 ≤ length whole = omega (arith, long, length-append front begins.more) in
      let same : (k : ℕ) → k < count + n + 1 → get_or whole k 0 ≡ get_or root k 0 = λ k small. get_or_append_left front begins.more 0 k (omega (arith, small, long)) ∙ get_or-take (count + n + 1) root k 0 small in
      let shut : IsTail (drop count whole) = tail_of whole count (omega (arith, far)) (λ k small. same k (omega (arith, small)) ∙ before k small) (λ _ is_open. next (omega (arith, below)) (sym (same count (omega arith)) ∙ is_open)) begins.generation begins.root in
      let closed : get_or (drop count whole) n 0 ≡ 109 = closed_at (drop count whole) n shut some (omega (arith, far, length-drop count whole)) in
      other (get_or-drop count root n 0 ∙ sym (same (count + n) (omega arith)) ∙ sym (get_or-drop count whole n 0) ∙ closed)

-- a front of a root
front_begins : (generation n : ℕ) (root : List ℕ) → IsRoot generation root → BeginsRoot (take n root)
front_begins generation n root is = record { generation = generation; more = drop n root; root = subst (IsRoot generation) (sym (take-append-drop n root)) is }

-- bytes that are too few for a root, or of which one is none of a root
pub damage_at : (root : List ℕ) (count n : ℕ) → count + n ≤ length root → ((k : ℕ) → k < count → get_or root k 0 ≡ 101) → (count < length root → get_or root count 0 ≢ 101) → length root ≤ 4095 → IsTail (take n (drop count root))
    → (0 < length (drop count root) → 0 < n) → (n < length (drop count root) → get_or (drop count root) n 0 ≢ 109) → (length root ≤ count + n → length root < 4095) → IsRootDamage root (count + n)
damage_at root count n within before next short shut some other few =
    let stops : count + n < length root → BeginsRoot (take (count + n + 1) root) → ⊥ = λ below.
    let behind : n < length (drop count root) = omega (arith, below, length-drop count root) in
    begins_no_more root count n within before next (some (omega (arith, behind))) below (other behind) in
    record {
      none = λ generation is. elim (cases_lt (count + n) (length root)) [
        | inl below ↦ stops below (front_begins generation (count + n + 1) root is)
        | inr done ↦ (let none : length root < 4095 = few done in omega (arith, none, is.long))
      ];
      within = within;
      goes_on = begins_root root count n within before next (omega (arith, within, short)) shut;
      stops = stops;
    }

root_begins : (generation : ℕ) (root : List ℕ) → IsRoot generation root → BeginsRoot root
root_begins generation root is = record { generation = generation; more = []; root = subst (IsRoot generation) (sym (append-nil root)) is }

-- a front of the length of a root with which one may begin is one
begun_root : (root : List ℕ) → BeginsRoot root → length root ≡ 4095 → (generation : ℕ) × IsRoot generation root
begun_root root begins long = (begins.generation, subst (IsRoot begins.generation) (whole begins.more (omega (arith, long, begins.root.long, length-append root begins.more))) begins.root)
  where
    whole : (more : List ℕ) → length more ≡ 0 → root ++ more ≡ root
    whole [] none = append-nil root
    whole (byte ∷ more) none = absurd (omega (arith, none))

-- the first bytes of a file are no root at a place, and so the file isn't one there
pub damage_of_front : (file front : List ℕ) (place : ℕ) → front ≡ take 4095 file → IsRootDamage front place → IsRootDamage file place
damage_of_front file front place is damage =
    let split : file ≡ front ++ drop 4095 file = sym (take-append-drop 4095 file) ∙ ap (λ (l : List ℕ). l ++ drop 4095 file) (sym is) in
    let lengths : length file ≡ length front + length (drop 4095 file) = ap length split ∙ length-append front (drop 4095 file) in
    let same : (n : ℕ) → n ≤ length front → take n front ≡ take n file = λ n few. sym (ap (take n) split ∙ take-append-le n front (drop 4095 file) few) in
    record {
      none = λ generation root. damage.none generation (subst (IsRoot generation) (sym (is ∙ take_all 4095 file (omega (arith, root.long)))) root);
      within = omega (arith, lengths, damage.within);
      goes_on = subst BeginsRoot (same place damage.within) damage.goes_on;
      stops = λ below begins.
          elim (cases_lt place (length front)) [
            | inl inside ↦ damage.stops inside (subst BeginsRoot (sym (same (place + 1) (omega (arith, inside)))) begins)
            | inr behind ↦
                let whole : place ≡ length front = omega (arith, behind, damage.within) in
                let all : BeginsRoot front = subst BeginsRoot (take_all place front (omega (arith, whole))) damage.goes_on in
                let long : length front ≡ 4095 = ap length is ∙ length-take-le 4095 file (omega (arith, below, whole, ap length is, length-take 4095 file)) in
                let root = begun_root front all long in
                absurd (damage.none root.0 root.1)
          ];
    }

-- a root with more behind it
pub damage_behind : (generation : ℕ) (file front : List ℕ) → front ≡ take 4095 file → IsRoot generation front → length file ≢ 4095 → IsRootDamage file 4095
damage_behind generation file front is root other =
    let long : 4095 ≤ length file = omega (arith, root.long, ap length is, length-take 4095 file) in
    record {
      none = λ found found_root. other found_root.long;
      within = long;
      goes_on = subst BeginsRoot is (root_begins generation front root);
      stops = λ below begins. omega (arith, below, begins.root.long, length-append (take 4096 file) begins.more, length-take-le 4096 file (omega (arith, below)));
    }
