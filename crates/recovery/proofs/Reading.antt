-- What a piece more of a file adds to what was read of it.
use Rattle.std.proofs.Common.{◌≡◌, inl, inr, ℕ, ◌+◌, ◌-◌, ◌≤◌, List, [], ◌∷◌, ◌++◌, length, take, drop, Option, Some, None, sym, ◌∙◌, ap, subst, arith, append_assoc, length-append, length-drop}
use Rattle.std.proofs.lemmas.List.{append-nil, take-append-drop, take-append-le, length-take-le, drop-drop}
use Rattle.depot_rows.specs.db_records.declared.change.Change.{Change}
use Rattle.journal_groups.specs.Groups.{group_text, mark, open_byte}
use Rattle.journal_groups.specs.Causes.{StopsAt, GoesOn}
use Rattle.journal_groups.specs.Reader.{State, HasTaken}
use Rattle.recovery.specs.Pieces.{IsFirst, IsUnreadable}

-- so many bytes were wanted, and all of them were read
pub all_read : (file buffer : List ℕ) (read n room : ℕ) → length buffer ≡ room → n ≤ room → room + read ≤ length file → take n buffer ≡ take room (drop read file) → n ≡ room
all_read file buffer read n room long fits there bytes =
    omega (arith, ap length bytes, length-take-le n buffer (omega (arith, long, fits)), length-take-le room (drop read file) (omega (arith, there, length-drop read file)))

-- what is left of the text is the same after a piece
pub piece_read : (left file buffer behind : List ℕ) (read n room : ℕ) → length buffer ≡ room → n ≤ room → room + read ≤ length file → take n buffer ≡ take room (drop read file)
    → (left ++ take n (buffer ++ behind)) ++ drop (read + n) file ≡ left ++ drop read file
piece_read left file buffer behind read n room long fits there bytes =
    append_assoc left (take n (buffer ++ behind)) (drop (read + n) file)
    ∙ ap (λ (l : List ℕ). left ++ l) (
    ap (λ (l : List ℕ). l ++ drop (read + n) file) (take-append-le n buffer behind (omega (arith, long, fits)) ∙ bytes)
    ∙ ap (λ (l : List ℕ). take room (drop read file) ++ l) (sym (drop-drop n read file) ∙ ap (λ k. drop k (drop read file)) (all_read file buffer read n room long fits there bytes))
    ∙ take-append-drop room (drop read file))

-- the first group of what was read is that of the whole text
pub taken_first : (old new : State) (rest : List ℕ) (found : Option (List Change)) → HasTaken old new found → IsFirst old.number (old.left ++ rest) (new.left ++ rest) found
taken_first old new rest (Some changes) taken = (
  taken.0,
  ap (λ (l : List ℕ). l ++ rest) taken.1
      ∙ append_assoc (mark open_byte) (group_text old.number changes ++ new.left) rest
      ∙ ap (λ (l : List ℕ). mark open_byte ++ l) (append_assoc (group_text old.number changes) new.left rest),
)
taken_first old new rest None taken = (
  ap (λ (state : State). state.left ++ rest) taken.0,
  (taken.1.0, (taken.1.1.0 ++ rest, (taken.1.1.1.0, ap (λ (l : List ℕ). l ++ rest) taken.1.1.1.1 ∙ append_assoc (mark taken.1.0) taken.1.1.0 rest))),
)

-- the same, said of the text as it was before more of it was read
pub first_before : (number same_number : ℕ) (text same_text rest : List ℕ) (found : Option (List Change)) → same_number ≡ number → same_text ≡ text → IsFirst same_number same_text rest found → IsFirst number text rest found
first_before number same_number text same_text rest found numbers texts first =
    subst (λ (n : ℕ). IsFirst n text rest found) numbers (subst (λ (l : List ℕ). IsFirst same_number l rest found) texts first)

-- no text goes on from a byte of what was read, whatever is behind
pub stops_before : (number at : ℕ) (left rest : List ℕ) (place : ℕ) → StopsAt number left ((at + length left) - place) → IsUnreadable number at (left ++ rest) place
stops_before number at left rest place stops = inl (record {
  front = stops.front;
  bad = stops.bad;
  after = stops.after ++ rest;
  parts = ap (λ (l : List ℕ). l ++ rest) stops.parts ∙ append_assoc stops.front (stops.bad ∷ stops.after) rest;
  place = omega (arith, stops.place, length-append left rest, length-append stops.after rest);
  goes_on = stops.goes_on;
  none = stops.none;
})

-- all of the text may go on, and it ends there
pub ends_short : (number at : ℕ) (left rest : List ℕ) (place : ℕ) → length rest ≡ 0 → GoesOn number left → place ≡ at + length left → IsUnreadable number at (left ++ rest) place
ends_short number at left [] place none goes is = inr (subst (GoesOn number) (sym (append-nil left)) goes, is ∙ ap (λ (l : List ℕ). at + length l) (sym (append-nil left)))
ends_short number at left (byte ∷ rest) place none goes is = absurd (omega (arith, none))
