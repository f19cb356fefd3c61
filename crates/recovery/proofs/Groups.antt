-- The groups at the front of a text, and the text behind them.
use Rattle.std.proofs.Common.{◌≡◌, inl, inr, ℕ, suc, ◌+◌, ◌<◌, ◌^◌, List, [], ◌∷◌, ◌++◌, length, Option, Some, refl, sym, ◌∙◌, ap, subst, arith, append_assoc}
use Rattle.std.specs.List.{AllByRecursion}
use Rattle.depot_rows.specs.db_records.declared.change.Change.{Change}
use Rattle.record_text.specs.Reading.{Done, Ends}
use Rattle.journal_groups.specs.Groups.{IsGroup, group_text, groups_text, mark, open_byte}
use Rattle.journal_groups.specs.Reading.{next_at}
use Rattle.journal_groups.specs.Committed.{HasGroups}
use Rattle.journal_groups.specs.Causes.{BeginsWanted, closed, group}
use Rattle.journal_groups.proofs.Texts.{next_group, next_ends}
use Rattle.journal_groups.proofs.Causes.{goes_next}
use Rattle.recovery.specs.Pieces.{IsUnreadable}

-- the groups of a text go on behind those at its front
abbrev pub GoOn : ℕ → List ℕ → List (List Change) → List (List Change) → Type 0
GoOn number left done groups = (later : List (List Change)) × ((groups ≡ done ++ later) × HasGroups (number + length done) left later)

pub behind_groups : (number : ℕ) (text left : List ℕ) (done groups : List (List Change)) → AllByRecursion IsGroup done → text ≡ groups_text number done ++ left → HasGroups number text groups → GoOn number left done groups
behind_groups number text left [] groups are is has = (groups, (refl, subst (λ (n : ℕ). HasGroups n left groups) (omega arith) (subst (λ (l : List ℕ). HasGroups number l groups) is has)))
behind_groups number text left (d ∷ done) [] are is has = absurd (has.closed (other (sym has.parts ∙ is)))
  where
    other : {a b : ℕ} {xs ys : List ℕ} → 64 ∷ a ∷ xs ≡ 64 ∷ b ∷ ys → a ≡ b
    other e = cc
behind_groups number text left (d ∷ done) (g ∷ groups) are is has =
    let front = groups_text (suc number) done ++ left in
    let behind = groups_text (suc number) groups ++ (mark has.byte ++ has.after) in
    let one : next_at number text ≡ Done (Some d) front = ap (next_at number) (is ∙ append_assoc (mark open_byte) (group_text number d ++ groups_text (suc number) done) left ∙ ap (λ (l : List ℕ). mark open_byte ++ l) (append_assoc (group_text number d) (groups_text (suc number) done) left)) ∙ next_group number d front are.0 in
    let two : next_at number text ≡ Done (Some g) behind = ap (next_at number) (has.parts ∙ append_assoc (mark open_byte) (group_text number g ++ groups_text (suc number) groups) (mark has.byte ++ has.after) ∙ ap (λ (l : List ℕ). mark open_byte ++ l) (append_assoc (group_text number g) (groups_text (suc number) groups) (mark has.byte ++ has.after))) ∙ next_group number g behind has.are_groups.0 in
    let same_group = first_same (sym one ∙ two) in
    let same_rest = rest_same (sym one ∙ two) in
    let later = behind_groups (suc number) front left done groups are.1 refl (record { byte = has.byte; after = has.after; closed = has.closed; are_groups = has.are_groups.1; parts = same_rest }) in
    (later.0, (cc (later.1.0, same_group), subst (λ (n : ℕ). HasGroups n left later.0) (omega arith) later.1.1))
  where
    first_same : {a b : List Change} {xs ys : List ℕ} → Done (Some a) xs ≡ Done (Some b) ys → a ≡ b
    first_same e = cc

    rest_same : {a b : List Change} {xs ys : List ℕ} → Done (Some a) xs ≡ Done (Some b) ys → xs ≡ ys
    rest_same e = cc

-- the first of the groups, or the mark that isn't open
pub begins_wanted : (number : ℕ) (text : List ℕ) (groups : List (List Change)) → HasGroups number text groups → BeginsWanted number text
begins_wanted number text [] has = closed has.byte has.after has.closed has.parts
begins_wanted number text (g ∷ groups) has =
    let behind = groups_text (suc number) groups ++ (mark has.byte ++ has.after) in
    group g behind has.are_groups.0 (has.parts ∙ append_assoc (mark open_byte) (group_text number g ++ groups_text (suc number) groups) (mark has.byte ++ has.after) ∙ ap (λ (l : List ℕ). mark open_byte ++ l) (append_assoc (group_text number g) (groups_text (suc number) groups) (mark has.byte ++ has.after)))

-- what begins as wanted is read
ends_never : (number : ℕ) (text : List ℕ) → BeginsWanted number text → next_at number text ≡ Ends → ⊥
ends_never number text (closed byte rest shut is) ends = absurd (never (sym ends ∙ (ap (next_at number) is ∙ next_ends number byte rest shut)))
  where
    never : {x : Option (List Change)} {rest : List ℕ} → Ends ≡ Done x rest → ⊥
    never e = cc
ends_never number text (group changes rest is_group is) ends = absurd (never (sym ends ∙ (ap (next_at number) is ∙ next_group number changes rest is_group)))
  where
    never : {x : Option (List Change)} {rest : List ℕ} → Ends ≡ Done x rest → ⊥
    never e = cc

pub unreadable_never : (number at : ℕ) (text : List ℕ) (place : ℕ) → number < 2 ^ 64 → IsUnreadable number at text place → BeginsWanted number text → ⊥
unreadable_never number at text place small (inl stops) wanted =
    (stops.none stops.after).1 (subst (BeginsWanted number) (stops.parts ∙ sym (append_assoc stops.front (stops.bad ∷ []) stops.after)) wanted)
unreadable_never number at text place small (inr ends) wanted = ends_never number text wanted (goes_next number text small ends.0)

-- ---- a checkpoint, which is one group

pub one_group : (number : ℕ) (text a b : List ℕ) (changes others : List Change) → IsGroup changes → IsGroup others → text ≡ group_text number changes ++ a → text ≡ group_text number others ++ b → changes ≡ others
one_group number text a b changes others is_group are_others one two =
    let read : next_at number (mark open_byte ++ text) ≡ Done (Some changes) a = ap (λ (l : List ℕ). next_at number (mark open_byte ++ l)) one ∙ next_group number changes a is_group in
    let again : next_at number (mark open_byte ++ text) ≡ Done (Some others) b = ap (λ (l : List ℕ). next_at number (mark open_byte ++ l)) two ∙ next_group number others b are_others in
    same (sym read ∙ again)
  where
    same : {x y : List Change} {xs ys : List ℕ} → Done (Some x) xs ≡ Done (Some y) ys → x ≡ y
    same e = cc
