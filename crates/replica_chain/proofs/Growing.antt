-- Changes one after another: groups, and beginnings of generations.
use Rattle.std.proofs.Common.{◌≡◌, ℕ, suc, ◌+◌, List, [], ◌∷◌, ◌++◌, length, take, refl, sym, ap, subst, ◌∙◌, arith, length-append, append_assoc}
use Rattle.std.specs.Prelude.{map}
use Rattle.std.specs.List.{AllByRecursion}
use Rattle.std.proofs.Math.Seq.{take-append_seam}
use Rattle.std.proofs.lemmas.List.{append-nil, map-append}
use Rattle.outside_api.specs.Link.{IsEarlier, text_of}
use Rattle.depot_rows.specs.db_records.declared.change.Change.{Change}
use Rattle.depot_rows.specs.table_changes.Changed.{changed_by, changed_in, no_rows}
use Rattle.journal_groups.specs.Groups.{IsGroup, group_text, groups_text}
use Rattle.recovery.specs.Holding.{joined}
use Rattle.replica_pull.specs.Replica.{beginning}
use Rattle.replica_pull.proofs.Counted.{rows_on, with_groups, with_next}
use Rattle.replica_pull.proofs.Taking.{groups_joined}
use Rattle.replica_chain.specs.Chronicle.{Chronicle, changes_of, generations_of, rows_made, texts_of, with_beginning, with_changes}
use Rattle.recovery.proofs.OneGroup.{all-push, all_but_last, last_of}

-- ---- one group more

pub groups_push : (c : Chronicle) (changes : List Change) → AllByRecursion (AllByRecursion IsGroup) (generations_of c) → IsGroup changes → AllByRecursion (AllByRecursion IsGroup) (generations_of (with_changes c changes))
groups_push c changes are is_group =
    all_but_last (AllByRecursion IsGroup) c.closed c.newest (c.newest ++ changes ∷ []) are (all-push IsGroup c.newest changes (last_of (AllByRecursion IsGroup) c.closed c.newest are) is_group)

-- its text
pub text_push : (groups : List (List Change)) (changes : List Change) → length (groups_text 1 (groups ++ changes ∷ [])) ≡ length (groups_text 1 groups) + (5 + length (group_text (1 + length groups) changes))
text_push groups changes =
    ap length (groups_joined 1 groups (changes ∷ []))
    ∙ omega (arith, length-append (groups_text 1 groups) (groups_text (1 + length groups) (changes ∷ [])), ap length (append-nil (group_text (1 + length groups) changes)))

-- the changes, and the rows that they make
pub changes_push : (c : Chronicle) (changes : List Change) → changes_of (with_changes c changes) ≡ changes_of c ++ changes ∷ []
changes_push c changes = with_groups 0 c.closed c.newest (changes ∷ [])

pub rows_push : (c : Chronicle) (changes : List Change) → rows_made (with_changes c changes) ≡ changed_by (rows_made c) changes
rows_push c changes =
    ap (λ (l : List (List Change)). changed_by no_rows (joined l)) (changes_push c changes)
    ∙ rows_on (changes_of c) (changes ∷ [])
    ∙ ap (changed_by (rows_made c)) (append-nil changes)

-- ---- one generation more

pub changes_begun : (c : Chronicle) → changes_of (with_beginning c) ≡ changes_of c ++ (beginning (1 + length c.closed) ∷ []) ∷ []
changes_begun c =
    let long : suc (length c.closed) ≡ 0 + length (generations_of c) = omega (arith, length-append c.closed (c.newest ∷ [])) in
    let next : suc (length c.closed) ≡ 1 + length c.closed = omega arith in
    with_next 0 (generations_of c) (suc (length c.closed)) long ∙ ap (λ (g : ℕ). changes_of c ++ (beginning g ∷ []) ∷ []) next

pub rows_begun : (c : Chronicle) → rows_made (with_beginning c) ≡ changed_in (rows_made c) (beginning (1 + length c.closed))
rows_begun c =
    ap (λ (l : List (List Change)). changed_by no_rows (joined l)) (changes_begun c)
    ∙ rows_on (changes_of c) ((beginning (1 + length c.closed) ∷ []) ∷ [])

-- ---- the texts

pub texts_are : (c : Chronicle) → texts_of c ≡ map (groups_text 1) c.closed ++ groups_text 1 c.newest ∷ []
texts_are c = map-append (groups_text 1) c.closed (c.newest ∷ [])

pub as_many : (closed : List (List (List Change))) → length (map (groups_text 1) closed) ≡ length closed
as_many [] = refl
as_many (x ∷ closed) = ap suc (as_many closed)

pub texts_long : (c : Chronicle) → length (texts_of c) ≡ length c.closed + 1
texts_long c = ap length (texts_are c) ∙ omega (arith, length-append (map (groups_text 1) c.closed) (groups_text 1 c.newest ∷ []), as_many c.closed)

-- the text behind others
text_there : (front : List (List ℕ)) (text : List ℕ) (behind : List (List ℕ)) → text_of (front ++ text ∷ behind) (length front) ≡ text
text_there [] text behind = refl
text_there (x ∷ front) text behind = text_there front text behind

-- a text was shorter, and none stood behind it
earlier_front : (front : List (List ℕ)) (text more : List ℕ) (behind : List (List ℕ)) → IsEarlier (front ++ text ∷ []) (front ++ (text ++ more) ∷ behind)
earlier_front front text more behind = record {
  newest = length front;
  bytes = length text;
  there = omega (arith, length-append front ((text ++ more) ∷ behind));
  is =
      ap (λ (l : List (List ℕ)). l ++ text ∷ []) (sym (take-append_seam front ((text ++ more) ∷ behind)))
      ∙ ap (λ (t : List ℕ). take (length front) (front ++ (text ++ more) ∷ behind) ++ t ∷ []) (sym (ap (take (length text)) (text_there front (text ++ more) behind) ∙ take-append_seam text more));
}

pub earlier_self : (c : Chronicle) → IsEarlier (texts_of c) (texts_of c)
earlier_self c =
    let front = map (groups_text 1) c.closed in
    let text = groups_text 1 c.newest in
    let E : List (List ℕ) → List (List ℕ) → Type 0 = IsEarlier in
    subst (λ (l : List (List ℕ)). E l l) (sym (texts_are c)) (subst (λ (t : List ℕ). E (front ++ text ∷ []) (front ++ t ∷ [])) (append-nil text) (earlier_front front text [] []))

pub earlier_push : (c : Chronicle) (changes : List Change) → IsEarlier (texts_of c) (texts_of (with_changes c changes))
earlier_push c changes =
    let front = map (groups_text 1) c.closed in
    let text = groups_text 1 c.newest in
    let more = groups_text (1 + length c.newest) (changes ∷ []) in
    let E : List (List ℕ) → List (List ℕ) → Type 0 = IsEarlier in
    let longer : groups_text 1 (c.newest ++ changes ∷ []) ≡ text ++ more = groups_joined 1 c.newest (changes ∷ []) in
    subst (λ (l : List (List ℕ)). E l (texts_of (with_changes c changes))) (sym (texts_are c))
    (subst (E (front ++ text ∷ [])) (sym (texts_are (with_changes c changes))) (subst (λ (t : List ℕ). E (front ++ text ∷ []) (front ++ t ∷ [])) (sym longer) (earlier_front front text more [])))

pub earlier_begun : (c : Chronicle) → IsEarlier (texts_of c) (texts_of (with_beginning c))
earlier_begun c =
    let front = map (groups_text 1) c.closed in
    let text = groups_text 1 c.newest in
    let E : List (List ℕ) → List (List ℕ) → Type 0 = IsEarlier in
    let longer : texts_of (with_beginning c) ≡ front ++ text ∷ [] ∷ [] =
    texts_are (with_beginning c) ∙ ap (λ (l : List (List ℕ)). l ++ [] ∷ []) (texts_are c) ∙ append_assoc front (text ∷ []) ([] ∷ []) in
    subst (λ (l : List (List ℕ)). E l (texts_of (with_beginning c))) (sym (texts_are c))
    (subst (E (front ++ text ∷ [])) (sym longer) (subst (λ (t : List ℕ). E (front ++ text ∷ []) (front ++ t ∷ [] ∷ [])) (append-nil text) (earlier_front front text [] ([] ∷ []))))
