-- The head and the records of a group, taken from the front.
use Rattle.std.proofs.Common.{◌≡◌, ℕ, ◌+◌, ◌-◌, ◌<◌, ◌≤◌, List, [], ◌++◌, length, drop, refl, sym, ap, subst, ◌∙◌, arith, length-append, length-drop}
use Rattle.db_records.specs.declared.change.Change.{Change}
use Rattle.record_text.specs.Reading.{Done}
use Rattle.journal_groups.specs.Groups.{change_text, head_of}
use Rattle.journal_groups.specs.Reader.{State}
use Rattle.journal_groups.specs.Reading.{head_at, window_at}
use Rattle.journal_groups.specs.Taken.{HasTakenHead, HasTakenRecord}
use Rattle.journal_groups.proofs.Bodies.{window_done}
use Rattle.journal_groups.proofs.Texts.{head_done}

-- the reader behind so many bytes
abbrev pub passed : State → ℕ → State
passed old n = record old { left = drop n old.left; at = old.at + n; records = []; reached = old.at + n }

-- a text at the front is as long as what stands before the rest
front_long : (bytes text : List ℕ) (n : ℕ) → n ≤ length bytes → bytes ≡ text ++ drop n bytes → length text ≡ n
front_long bytes text n within is = omega (arith, within, ap length is, length-append text (drop n bytes), length-drop n bytes)

pub record_taken : (size : ℕ) (old new : State) (change : Change) (n : ℕ) → window_at size old.left ≡ Done change (drop n old.left) → (n ≤ length old.left) × (n ≤ size) × (0 < n) → new ≡ passed old n → HasTakenRecord size old new change (size - n)
record_taken size old new change n read within is =
    let found = window_done size old.left change (drop n old.left) read in
    let long : length (change_text change) ≡ n = front_long old.left (change_text change) n within.0 found.parts in
    subst (λ (s : State). HasTakenRecord size old s change (size - n)) (sym is) (record {
      fits = found.fits;
      text = found.parts;
      sizes = omega (arith, long, within.1);
      less = omega (arith, within.1, within.2);
      at = ap (λ (k : ℕ). old.at + k) (sym long);
      number = refl;
    })

pub head_taken : (old new : State) (size n : ℕ) (rest : List ℕ) → head_at old.number old.left ≡ Done size rest → n ≤ length old.left → rest ≡ drop n old.left → new ≡ passed old n → HasTakenHead old new size
head_taken old new size n rest read within behind is =
    let found = head_done old.number old.left size rest read in
    let text : old.left ≡ head_of old.number size ++ drop n old.left = found.1 ∙ ap (λ (l : List ℕ). head_of old.number size ++ l) behind in
    let long : length (head_of old.number size) ≡ n = front_long old.left (head_of old.number size) n within text in
    subst (λ (s : State). HasTakenHead old s size) (sym is) (record {
      wide = found.0;
      text = text;
      at = ap (λ (k : ℕ). old.at + k) (sym long);
      number = refl;
    })
