-- A group whose records were read one after another.
use Rattle.std.proofs.Common.{◌≡◌, ℕ, ◌+◌, ◌-◌, ◌<◌, ◌≤◌, false, List, [], ◌∷◌, ◌++◌, length, drop, Option, Some, None, Err, refl, sym, ap, subst, ◌∙◌, append_assoc, arith, length-append, length-drop}
use Rattle.std.proofs.lemmas.List.{append-nil, drop-drop, drop-append-le}
use Rattle.db_records.specs.declared.change.Change.{Change}
use Rattle.record_text.specs.declared.fault.RecordFault.{RecordFault}
use Rattle.record_text.specs.Answers.{Fails}
use Rattle.record_text.specs.Reading.{Reading, Done, and_then}
use Rattle.record_text.specs.Grammar.{largest_wide}
use Rattle.journal_groups.specs.declared.body.Body.{Body}
use Rattle.journal_groups.specs.Groups.{AreRecords, body_of, change_text, head_of, mark, open_byte}
use Rattle.journal_groups.specs.Reading.{head_at, window_at, body_at, group_at, mark_at, behind_mark, next_at}
use Rattle.journal_groups.specs.Reader.{HasReadMore, HasReadAll, HasBody, IsBegun}
use Rattle.journal_groups.proofs.Bodies.{window_done, with_front, fails_body, fails_then}
use Rattle.journal_groups.proofs.Texts.{body_joined, body_many, head_again, mark_again}

-- these changes are read, and so much is left
abbrev pub part : List Change → ℕ → ℕ → Body
part changes size read = record { changes = changes; size = size; read = read }

pub records_joined : (xs ys : List Change) → AreRecords xs → AreRecords ys → AreRecords (xs ++ ys)
records_joined [] ys first second = second
records_joined (x ∷ xs) ys first second = (first.0, records_joined xs ys first.1 second)

-- ---- records were read, and none

pub more_none : (bytes : List ℕ) (body : Body) → body.read ≤ length bytes → HasReadMore bytes body body
more_none bytes body within = record {
  from = omega arith;
  within = within;
  more = [];
  are_records = tt;
  changes = sym (append-nil body.changes);
  text = refl;
  size = omega arith;
}

pub more_then : (bytes : List ℕ) (old mid new : Body) → HasReadMore bytes old mid → HasReadMore bytes mid new → HasReadMore bytes old new
more_then bytes old mid new first second = record {
  from = omega (arith, first.from, second.from);
  within = second.within;
  more = first.more ++ second.more;
  are_records = records_joined first.more second.more first.are_records second.are_records;
  changes = second.changes ∙ ap (λ (c : List Change). c ++ second.more) first.changes ∙ append_assoc old.changes first.more second.more;
  text = first.text ∙ ap (λ (t : List ℕ). body_of first.more ++ t) second.text ∙ sym (append_assoc (body_of first.more) (body_of second.more) (drop new.read bytes))
      ∙ ap (λ (t : List ℕ). t ++ drop new.read bytes) (sym (body_joined first.more second.more));
  size = omega (arith, first.size, second.size, ap length (body_joined first.more second.more), length-append (body_of first.more) (body_of second.more));
}

-- one record
pub one_more : (bytes rest : List ℕ) (front changes : List Change) (size read n : ℕ) (change : Change) → rest ≡ drop read bytes → changes ≡ front ++ change ∷ [] → read + n ≤ length bytes → n ≤ length rest → window_at size rest ≡ Done change (drop n rest)
    → HasReadMore bytes (part front size read) (part changes (size - n) (read + n))
one_more bytes rest front changes size read n change back pushed within short e =
    let f = window_done size rest change (drop n rest) e in
    let text = change_text change in
    let one : body_of (change ∷ []) ≡ text = append-nil text in
    let same : n ≡ length text = omega (arith, short, ap length f.parts, length-append text (drop n rest), length-drop n rest) in
    record {
      from = omega arith;
      within = within;
      more = change ∷ [];
      are_records = (f.fits, tt);
      changes = pushed;
      text = sym back ∙ f.parts ∙ ap (λ (t : List ℕ). t ++ drop n rest) (sym one) ∙ ap (λ (t : List ℕ). body_of (change ∷ []) ++ t) (ap (drop n) back ∙ drop-drop n read bytes);
      size = omega (arith, same, f.within, ap length one);
    }

-- a fault of the next record
pub all_fails : (bytes : List ℕ) (old mid new : Body) (fault : RecordFault) → 0 < mid.size → HasReadMore bytes old mid → (new ≡ mid) × Fails fault (window_at mid.size (drop mid.read bytes)) → HasReadAll {X = Unit {0}} bytes old new (Err fault)
all_fails bytes old mid new fault some so_far e = subst (λ (b : Body). HasReadAll {X = Unit {0}} bytes old b (Err fault)) (sym e.0) (some, e.1, so_far)

-- ---- a group

body_more : (bytes : List ℕ) (old new : Body) (m : HasReadMore bytes old new) → body_at old.size (drop old.read bytes) ≡ with_front m.more (body_at new.size (drop new.read bytes))
body_more bytes old new m = ap (body_at old.size) m.text ∙ body_many m.more old.size new.size (drop new.read bytes) m.are_records m.size

none_left : (changes : List Change) (size : ℕ) (rest : List ℕ) → size ≡ 0 → with_front changes (body_at size rest) ≡ Done changes rest
none_left changes size rest none = ap (λ (n : ℕ). with_front changes (body_at n rest)) none ∙ ap (λ (c : List Change). Done c rest) (append-nil changes)

pub group_whole : (number : ℕ) (bytes rest : List ℕ) (changes : List Change) (size read : ℕ) (new : Body) → changes ≡ [] → head_at number bytes ≡ Done size rest → rest ≡ drop read bytes → new.size ≡ 0 → HasReadMore bytes (part changes size read) new → group_at number bytes ≡ Done new.changes (drop new.read bytes)
group_whole number bytes rest changes size read new empty head back none m =
    ap (λ r. and_then r body_at) head
    ∙ ap (body_at size) back
    ∙ body_more bytes (part changes size read) new m
    ∙ none_left m.more new.size (drop new.read bytes) none
    ∙ ap (λ (c : List Change). Done c (drop new.read bytes)) (sym (m.changes ∙ ap (λ (c : List Change). c ++ m.more) empty))

pub group_fails : (number : ℕ) (bytes rest : List ℕ) (changes : List Change) (size read : ℕ) (new : Body) (fault : RecordFault) → head_at number bytes ≡ Done size rest → rest ≡ drop read bytes → HasReadAll {X = Unit {0}} bytes (part changes size read) new (Err fault) → Fails fault (group_at number bytes)
group_fails number bytes rest changes size read new fault head back e =
    subst (Fails fault) (sym (ap (λ r. and_then r body_at) head ∙ ap (body_at size) back ∙ body_more bytes (part changes size read) new e.2))
    (fails_body fault e.2.more new.size (drop new.read bytes) e.0 e.1)

-- ---- the next group

abbrev pub as_next : Reading (List Change) → Reading (Option (List Change))
as_next reading = and_then reading (λ changes rest. Done (Some changes) rest)

pub suffix_of : (bytes rest after : List ℕ) → length rest ≤ length bytes → rest ≡ drop (length bytes - length rest) bytes → length after ≤ length rest → after ≡ drop (length rest - length after) rest → after ≡ drop (length bytes - length after) bytes
suffix_of bytes rest after l r m a =
    let n : (length bytes - length rest) + (length rest - length after) ≡ length bytes - length after = omega arith in
    a ∙ ap (drop (length rest - length after)) r ∙ drop-drop (length rest - length after) (length bytes - length rest) bytes ∙ ap (λ (k : ℕ). drop k bytes) n

pub next_closed : (number : ℕ) (bytes rest : List ℕ) → mark_at bytes ≡ Done false rest → next_at number bytes ≡ Done None rest
next_closed number bytes rest e = ap (λ r. and_then r (behind_mark number)) e

-- what is still read of the next group
here : (number : ℕ) (bytes : List ℕ) (body : Body) → HasBody number bytes body → next_at number bytes ≡ as_next (with_front body.changes (body_at body.size (drop body.read bytes)))
here number bytes body has =
    let behind = body_of body.changes ++ drop body.read bytes in
    ap (next_at number) has.text
    ∙ ap (λ r. and_then r (behind_mark number)) (mark_again open_byte (head_of number has.size ++ behind))
    ∙ ap (λ r. as_next (and_then r body_at)) (head_again number has.size behind has.wide)
    ∙ ap as_next (body_many body.changes has.size body.size (drop body.read bytes) has.are_records has.size_is)

-- a part of it is read
pub next_part : (number : ℕ) (bytes : List ℕ) (old new : Body) → HasBody number bytes old → HasReadMore bytes old new → HasBody number bytes new
next_part number bytes old new has m = record {
  some = omega (arith, has.some, m.from);
  within = m.within;
  size = has.size;
  wide = has.wide;
  are_records = subst AreRecords (sym m.changes) (records_joined old.changes m.more has.are_records m.are_records);
  size_is = omega (arith, has.size_is, m.size, ap (λ (c : List Change). length (body_of c)) m.changes, ap length (body_joined old.changes m.more), length-append (body_of old.changes) (body_of m.more));
  text = has.text ∙ ap (λ (t : List ℕ). mark open_byte ++ (head_of number has.size ++ t)) (
      ap (λ (t : List ℕ). body_of old.changes ++ t) m.text
      ∙ sym (append_assoc (body_of old.changes) (body_of m.more) (drop new.read bytes))
      ∙ ap (λ (t : List ℕ). t ++ drop new.read bytes) (sym (body_joined old.changes m.more) ∙ ap body_of (sym m.changes)));
}

-- all of it is read
pub next_whole : (number : ℕ) (bytes : List ℕ) (old new : Body) → HasBody number bytes old → new.size ≡ 0 → HasReadMore bytes old new → next_at number bytes ≡ Done (Some new.changes) (drop new.read bytes)
next_whole number bytes old new has none m = here number bytes new (next_part number bytes old new has m) ∙ ap as_next (none_left new.changes new.size (drop new.read bytes) none)

pub next_fails : (number : ℕ) (bytes : List ℕ) (body : Body) (fault : RecordFault) → HasBody number bytes body → 0 < body.size → Fails fault (window_at body.size (drop body.read bytes)) → Fails fault (next_at number bytes)
next_fails number bytes body fault has some e =
    subst (Fails fault) (sym (here number bytes body has))
    (fails_then fault (with_front body.changes (body_at body.size (drop body.read bytes))) (λ changes rest. Done (Some changes) rest) (fails_body fault body.changes body.size (drop body.read bytes) some e))

-- what was read stays so when a piece follows
pub begun_more : (number : ℕ) (left piece : List ℕ) (body : Option Body) → IsBegun number left body → IsBegun number (left ++ piece) body
begun_more number left piece None begun = tt
begun_more number left piece (Some body) begun = record {
  some = begun.some;
  within = omega (arith, begun.within, length-append left piece);
  size = begun.size;
  wide = begun.wide;
  are_records = begun.are_records;
  size_is = begun.size_is;
  text = ap (λ (t : List ℕ). t ++ piece) begun.text
      ∙ append_assoc (mark open_byte) (head_of number begun.size ++ (body_of body.changes ++ drop body.read left)) piece
      ∙ ap (λ (t : List ℕ). mark open_byte ++ t) (
      append_assoc (head_of number begun.size) (body_of body.changes ++ drop body.read left) piece
      ∙ ap (λ (t : List ℕ). head_of number begun.size ++ t) (append_assoc (body_of body.changes) (drop body.read left) piece
      ∙ ap (λ (t : List ℕ). body_of body.changes ++ t) (sym (drop-append-le body.read left piece begun.within))));
}

-- a mark and a head are read
pub begun_here : (number : ℕ) (bytes rest after : List ℕ) (changes : List Change) (size read : ℕ) → changes ≡ [] → 0 < read → read ≤ length bytes → size ≤ largest_wide → bytes ≡ mark open_byte ++ rest → rest ≡ head_of number size ++ after → after ≡ drop read bytes → HasBody number bytes (part changes size read)
begun_here number bytes rest after changes size read empty some within wide opened head back = record {
  some = some;
  within = within;
  size = size;
  wide = wide;
  are_records = subst AreRecords (sym empty) tt;
  size_is = omega (arith, ap (λ (c : List Change). length (body_of c)) empty);
  text = opened ∙ ap (λ (t : List ℕ). mark open_byte ++ t) (head ∙ ap (λ (t : List ℕ). head_of number size ++ t) (back ∙ ap (λ (c : List Change). body_of c ++ drop read bytes) (sym empty)));
}
