-- What one word does to the walk over the words.
use Rattle.std.proofs.Common.{◌≡◌, ◌∙◌, ◌||◌, ℕ, Bool, true, false, refl, sym, ap, ap₂, List, [], ◌∷◌, ◌++◌, Option, Some, None, codes, true≢false}
use Rattle.std.proofs.lemmas.Bool.{and_right}
use Rattle.clap.specs.Walk.{Held, Row, Rule, Step, Text, Waiting, Walk, after_step, arg_by_index, is_pending, plain_word, settled_rows, to_positional, walked, word_met}
use Rattle.clap.specs.Walk as walk
use Rattle.clap.specs.Kinds.{Kinds, or_else}
use Rattle.clap.specs.Faults.{settle_fault, step_fault, turn_fault, word_fault}
use Rattle.clap.specs.Simple.{filled, with_index}
use Rattle.program_words.specs.Commands.{mode_rule, name_rule}
use Rattle.program_words.specs.Words.{Setting}
use Rattle.program_words.specs.Words as spec
use Rattle.program_words.proofs.Lexing.{IsPlainWord, fault_there, held_with, met_there, option_name, option_start, option_word, rules, top}

-- the positionals, as they are built
abbrev mode_arg : Rule
mode_arg = with_index 1 (filled mode_rule)

abbrev name_arg : Rule
name_arg = with_index 2 (filled name_rule)

-- the walk between two words
abbrev pub at : List Row → Option (Text × List Text) → Waiting → ℕ → Bool → Walk
at rows pending waiting position is_trailing = record { held = held_with rows pending; waiting = waiting; position = position; is_trailing = is_trailing; stopped = None }

-- the fault of a word, and the walk after it
pub record Turns (w : Walk) (word : Text) (fault : Kinds) (after : Walk) : Type 0 where
  pub fault_is : turn_fault top [] w word ≡ fault
  pub after_is : walked rules [] w word ≡ after

-- no kind, and then none
pub or_none : (kinds : Kinds) → or_else kinds [] ≡ kinds
or_none [] = refl
or_none (k ∷ ks) = refl

-- what is pending is settled, and then an option with its value
abbrev pub valued_fault : List Row → Option (Text × List Text) → Text → Text → Kinds
valued_fault rows pending id text =
    or_else (settle_fault rules false (held_with rows pending)) (settle_fault rules false (held_with (settled_rows rules pending rows) (Some (id, text ∷ []))))

abbrev pub valued_rows : List Row → Option (Text × List Text) → Text → Text → List Row
valued_rows rows pending id text = settled_rows rules (Some (id, text ∷ [])) (settled_rows rules pending rows)

module _ (rows : List Row) (pending : Option (Text × List Text)) (waiting : Waiting) (position : ℕ) where
  -- a word where options may come, by what it is
  turns : (word : Text) (fault : Kinds) (m : Held × Step) → word_fault top [] false waiting word (held_with rows pending) ≡ fault
      → word_met rules [] false waiting position word (held_with rows pending) ≡ m
      → Turns (at rows pending waiting position false) word (or_else fault (step_fault top position m.0 m.1)) (after_step rules word (at rows pending waiting position false) m.0 m.1)
  unfolding walked
  turns word fault m faults met = record {
    fault_is = ap₂ (λ (f : Kinds) (n : Held × Step). or_else f (step_fault top position n.0 n.1)) faults met;
    after_is = ap (λ (n : Held × Step). after_step rules word (at rows pending waiting position false) n.0 n.1) met;
  }

  -- `--`
  pub ends_options : Turns (at rows pending waiting position false) (codes "--") [] (at rows pending waiting position true)
  ends_options = turns (codes "--") [] (held_with rows pending, walk.trailing position) (fault_there waiting (codes "--") (held_with rows pending)) (met_there waiting position (codes "--") (held_with rows pending))

  -- an option, whose value is the next word
  abbrev after_option : Text → Walk
  after_option id = at (settled_rows rules pending rows) (Some (id, [])) (walk.option id) position false

  pub opens_option : (s : Setting) → Turns (at rows pending waiting position false) (option_word s) (settle_fault rules false (held_with rows pending)) (after_option (option_name s))
  opens_option spec.seed_option =
      let t : Turns (at rows pending waiting position false) (codes "--seed") (or_else (settle_fault rules false (held_with rows pending)) []) (after_option (codes "seed")) =
      turns (codes "--seed") (settle_fault rules false (held_with rows pending)) (held_with (settled_rows rules pending rows) (Some (codes "seed", [])), walk.next (walk.option (codes "seed")))
      (fault_there waiting (codes "--seed") (held_with rows pending)) (met_there waiting position (codes "--seed") (held_with rows pending)) in
      record { fault_is = t.fault_is ∙ or_none (settle_fault rules false (held_with rows pending)); after_is = t.after_is }
  opens_option spec.count_option =
      let t : Turns (at rows pending waiting position false) (codes "--count") (or_else (settle_fault rules false (held_with rows pending)) []) (after_option (codes "count")) =
      turns (codes "--count") (settle_fault rules false (held_with rows pending)) (held_with (settled_rows rules pending rows) (Some (codes "count", [])), walk.next (walk.option (codes "count")))
      (fault_there waiting (codes "--count") (held_with rows pending)) (met_there waiting position (codes "--count") (held_with rows pending)) in
      record { fault_is = t.fault_is ∙ or_none (settle_fault rules false (held_with rows pending)); after_is = t.after_is }

  -- an option with its value
  pub takes_value : (s : Setting) (text : Text)
      → Turns (at rows pending waiting position false) (option_start s ++ text) (valued_fault rows pending (option_name s) text) (at (valued_rows rows pending (option_name s) text) None walk.idle position false)
  takes_value spec.seed_option text =
      let word : Text = codes "--seed=" ++ text in
      let t : Turns (at rows pending waiting position false) word (or_else (valued_fault rows pending (codes "seed") text) []) (at (valued_rows rows pending (codes "seed") text) None walk.idle position false) =
      turns word (valued_fault rows pending (codes "seed") text) (held_with (valued_rows rows pending (codes "seed") text) None, walk.next walk.idle)
      (fault_there waiting word (held_with rows pending)) (met_there waiting position word (held_with rows pending)) in
      record { fault_is = t.fault_is ∙ or_none (valued_fault rows pending (codes "seed") text); after_is = t.after_is }
  takes_value spec.count_option text =
      let word : Text = codes "--count=" ++ text in
      let t : Turns (at rows pending waiting position false) word (or_else (valued_fault rows pending (codes "count") text) []) (at (valued_rows rows pending (codes "count") text) None walk.idle position false) =
      turns word (valued_fault rows pending (codes "count") text) (held_with (valued_rows rows pending (codes "count") text) None, walk.next walk.idle)
      (fault_there waiting word (held_with rows pending)) (met_there waiting position word (held_with rows pending)) in
      record { fault_is = t.fault_is ∙ or_none (valued_fault rows pending (codes "count") text); after_is = t.after_is }

-- ---- a word that goes to a positional

-- where the next plain word goes: to MODE, and then to NAME..
pub data Place : Type 0 where
  first : Place
  later : Place

abbrev pub position_at : Place → ℕ
position_at first = 1
position_at later = 2

abbrev pub id_at : Place → Text
id_at first = codes "MODE"
id_at later = codes "NAME"

abbrev pub waiting_at : Place → Waiting
waiting_at first = walk.idle
waiting_at later = walk.positional

module _ (rows : List Row) (pending : Option (Text × List Text)) (waiting : Waiting) (is_trailing : Bool) where
  -- the walk after the word
  abbrev pub after_word : Place → Text → Walk
  after_word place word = at (settled_rows rules pending rows) (Some (id_at place, word ∷ [])) (waiting_at place) 2 is_trailing

  goes : (place : Place) (word : Text)
      → to_positional rules (arg_by_index rules (position_at place)) word (at rows pending waiting (position_at place) is_trailing) (held_with rows pending) ≡ after_word place word
  goes first word = rw (and_right (is_pending mode_arg pending) false refl) (go is_trailing)
    where
      go : (b : Bool) → at (settled_rows rules pending rows) (Some (codes "MODE", word ∷ [])) walk.idle 2 (b || false) ≡ at (settled_rows rules pending rows) (Some (codes "MODE", word ∷ [])) walk.idle 2 b
      go true = refl
      go false = refl
  goes later word = rw (and_right (is_pending name_arg pending) false refl) (go is_trailing)
    where
      go : (b : Bool) → at (settled_rows rules pending rows) (Some (codes "NAME", word ∷ [])) walk.positional 2 (b || false) ≡ at (settled_rows rules pending rows) (Some (codes "NAME", word ∷ [])) walk.positional 2 b
      go true = refl
      go false = refl

  faults_so : (place : Place) → step_fault top (position_at place) (held_with rows pending) walk.value ≡ settle_fault rules false (held_with rows pending)
  faults_so first = rw (and_right (is_pending mode_arg pending) false refl) refl
  faults_so later = rw (and_right (is_pending name_arg pending) false refl) refl

-- behind `--`
pub takes_behind : (rows : List Row) (pending : Option (Text × List Text)) (waiting : Waiting) (place : Place) (word : Text)
    → Turns (at rows pending waiting (position_at place) true) word (settle_fault rules false (held_with rows pending)) (after_word rows pending waiting true place word)
unfolding walked
takes_behind rows pending waiting place word = record { fault_is = faults_so rows pending waiting true place; after_is = goes rows pending waiting true place word }

-- nothing waits for a value
abbrev pub waits_for_none : Waiting → Bool
waits_for_none (walk.option id) = false
waits_for_none _ = true

pub takes_word : (rows : List Row) (pending : Option (Text × List Text)) (waiting : Waiting) (place : Place) (word : Text) → waits_for_none waiting ≡ true → IsPlainWord word
    → Turns (at rows pending waiting (position_at place) false) word (settle_fault rules false (held_with rows pending)) (after_word rows pending waiting false place word)
takes_word rows pending waiting place word none is =
    let here = is waiting (position_at place) rows pending in
    let met : word_met rules [] false waiting (position_at place) word (held_with rows pending) ≡ (held_with rows pending, walk.value) = here.0 ∙ go waiting none in
    let t = turns rows pending waiting (position_at place) word [] (held_with rows pending, walk.value) here.1 met in
    record { fault_is = t.fault_is ∙ faults_so rows pending waiting false place; after_is = t.after_is ∙ goes rows pending waiting false place word }
  where
    go : (w : Waiting) → waits_for_none w ≡ true → plain_word rules w word (held_with rows pending) ≡ (held_with rows pending, walk.value)
    go walk.idle e = refl
    go (walk.option id) e = absurd (true≢false (sym e))
    go walk.positional e = refl

-- the value of an option that waits for it
pub gives_value : (rows : List Row) (position : ℕ) (s : Setting) (word : Text) → IsPlainWord word
    → Turns (at rows (Some (option_name s, [])) (walk.option (option_name s)) position false) word [] (at rows (Some (option_name s, word ∷ [])) walk.idle position false)
gives_value rows position spec.seed_option word is =
    let here = is (walk.option (codes "seed")) position rows (Some (codes "seed", [])) in
    turns rows (Some (codes "seed", [])) (walk.option (codes "seed")) position word [] (held_with rows (Some (codes "seed", word ∷ [])), walk.next walk.idle) here.1 here.0
gives_value rows position spec.count_option word is =
    let here = is (walk.option (codes "count")) position rows (Some (codes "count", [])) in
    turns rows (Some (codes "count", [])) (walk.option (codes "count")) position word [] (held_with rows (Some (codes "count", word ∷ [])), walk.next walk.idle) here.1 here.0
