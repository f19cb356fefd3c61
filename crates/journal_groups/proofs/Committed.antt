-- The recursion on the bytes gives the groups that they are.
use Rattle.std.proofs.Common.{◌≡◌, ℕ, zero, suc, ◌+◌, ◌<◌, ◌≤◌, List, [], ◌∷◌, ◌++◌, length, Option, Some, None, refl, sym, ap, subst, ◌∙◌, append_assoc, arith, length-append}
use Rattle.std.specs.Prelude.{option_map, ◌≢◌}
use Rattle.std.specs.List.{AllByRecursion}
use Rattle.db_records.specs.declared.change.Change.{Change}
use Rattle.record_text.specs.Reading.{Reading, Done, Ends, Wrong}
use Rattle.journal_groups.specs.Groups.{IsGroup, group_text, mark, open_byte, groups_text}
use Rattle.journal_groups.specs.Reading.{next_at}
use Rattle.journal_groups.specs.Committed.{HasGroups, groups_then, groups_below, groups_of}
use Rattle.journal_groups.proofs.Texts.{next_group, next_ends, next_found, next_ended}

abbrev Go : Type 0
Go = List ℕ → Option (List (List Change))

-- a group behind another text
first_parts : (number : ℕ) (changes : List Change) (groups : List (List Change)) (tail : List ℕ) → groups_text number (changes ∷ groups) ++ tail ≡ mark open_byte ++ (group_text number changes ++ (groups_text (suc number) groups ++ tail))
first_parts number changes groups tail =
    append_assoc (mark open_byte) (group_text number changes ++ groups_text (suc number) groups) tail
    ∙ ap (λ (t : List ℕ). mark open_byte ++ t) (append_assoc (group_text number changes) (groups_text (suc number) groups) tail)

below_are : (n number : ℕ) (groups : List (List Change)) (byte : ℕ) (after : List ℕ) → length groups < n → byte ≢ open_byte → AllByRecursion IsGroup groups → groups_below n number (groups_text number groups ++ (mark byte ++ after)) ≡ Some groups
below_are zero number groups byte after lt apart are = absurd (omega arith)
below_are (suc n) number [] byte after lt apart are = ap (groups_then (groups_below n (suc number))) (next_ends number byte after apart)
below_are (suc n) number (changes ∷ groups) byte after lt apart are =
    ap (groups_below (suc n) number) (first_parts number changes groups (mark byte ++ after))
    ∙ ap (groups_then (groups_below n (suc number))) (next_group number changes (groups_text (suc number) groups ++ (mark byte ++ after)) are.0)
    ∙ ap (option_map (λ (gs : List (List Change)). changes ∷ gs)) (below_are n (suc number) groups byte after (omega arith) apart are.1)

many : (number : ℕ) (groups : List (List Change)) → length groups ≤ length (groups_text number groups)
many number [] = omega arith
many number (changes ∷ groups) =
    let ih = many (suc number) groups in
    let l : length (groups_text number (changes ∷ groups)) ≡ 5 + (length (group_text number changes) + length (groups_text (suc number) groups)) = length-append (mark open_byte) (group_text number changes ++ groups_text (suc number) groups) ∙ ap (λ (n : ℕ). 5 + n) (length-append (group_text number changes) (groups_text (suc number) groups)) in
    omega arith

pub groups_are : (bytes : List ℕ) (groups : List (List Change)) → HasGroups 1 bytes groups → groups_of bytes ≡ Some groups
groups_are bytes groups h =
    let l : length bytes ≡ length (groups_text 1 groups) + length (mark h.byte ++ h.after) = ap length h.parts ∙ length-append (groups_text 1 groups) (mark h.byte ++ h.after) in
    let m = many 1 groups in
    ap (groups_below (suc (length bytes)) 1) h.parts ∙ below_are (suc (length bytes)) 1 groups h.byte h.after (omega arith) h.closed h.are_groups

-- how the groups were found
data Way (go : Go) (number : ℕ) (bytes : List ℕ) (groups : List (List Change)) : Type 0 where
  ended : (rest : List ℕ) → next_at number bytes ≡ Done None rest → [] ≡ groups → Way go number bytes groups
  group : (changes : List Change) (rest : List ℕ) (others : List (List Change)) → next_at number bytes ≡ Done (Some changes) rest → go rest ≡ Some others → changes ∷ others ≡ groups → Way go number bytes groups

mapped : (changes : List Change) (o : Option (List (List Change))) (groups : List (List Change)) → option_map (λ (gs : List (List Change)). changes ∷ gs) o ≡ Some groups → (others : List (List Change)) × ((o ≡ Some others) × (changes ∷ others ≡ groups))
mapped changes (Some others) groups e = (others, (refl, cc))
mapped changes None groups e = absurd cc

way_of : (go : Go) (number : ℕ) (bytes : List ℕ) (groups : List (List Change)) (r : Reading (Option (List Change))) → next_at number bytes ≡ r → groups_then go r ≡ Some groups → Way go number bytes groups
way_of go number bytes groups (Done (Some changes) rest) e f = let m = mapped changes (go rest) groups f in group changes rest m.0 e m.1.0 m.1.1
way_of go number bytes groups (Done None rest) e f = ended rest e cc
way_of go number bytes groups Ends e f = absurd cc
way_of go number bytes groups (Wrong part left) e f = absurd cc

none_below : (groups : List (List Change)) → (let o : Option (List (List Change)) = None in o) ≡ Some groups → ⊥
none_below groups e = cc

below_has : (n number : ℕ) (bytes : List ℕ) (groups : List (List Change)) → groups_below n number bytes ≡ Some groups → HasGroups number bytes groups
below_has zero number bytes groups e = absurd (none_below groups e)
below_has (suc n) number bytes groups e =
    elim (way_of (groups_below n (suc number)) number bytes groups (next_at number bytes) refl e) [
      | ended rest f none ↦
          let m = next_ended number bytes rest f in
          subst (HasGroups number bytes) none (record { byte = m.0; after = rest; closed = m.1.0; are_groups = tt; parts = m.1.1 })
      | group changes rest others f g same ↦
          let m = next_found number bytes changes rest f in
          let h = below_has n (suc number) rest others g in
          subst (HasGroups number bytes) same (record {
            byte = h.byte;
            after = h.after;
            closed = h.closed;
            are_groups = (m.0, h.are_groups);
            parts = m.1 ∙ ap (λ (t : List ℕ). mark open_byte ++ (group_text number changes ++ t)) h.parts ∙ sym (first_parts number changes others (mark h.byte ++ h.after));
          })
    ]

pub are_groups : (bytes : List ℕ) (groups : List (List Change)) → groups_of bytes ≡ Some groups → HasGroups 1 bytes groups
are_groups bytes groups e = below_has (suc (length bytes)) 1 bytes groups e
