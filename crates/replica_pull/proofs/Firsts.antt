-- Of a journal of whole groups a replica has the first changes.
use Rattle.std.proofs.Common.{◌≡◌, ℕ, zero, suc, ◌+◌, ◌≤◌, List, [], ◌∷◌, ◌++◌, length, map, take, drop, refl, sym, ◌∙◌, ap, subst, arith, append_assoc, length-append}
use Rattle.std.specs.List.{AllByRecursion}
use Rattle.std.proofs.Math.Seq.{drop-append_seam}
use Rattle.std.proofs.lemmas.List.{append-nil, take-append-drop, take-append-le, take_all}
use Rattle.outside_api.specs.Link.{text_of}
use Rattle.depot_rows.specs.db_records.declared.change.Change.{Change}
use Rattle.depot_rows.specs.table_changes.Changed.{changed_by, no_rows, rows_of}
use Rattle.depot_rows.specs.depot_model.declared.filter.FilterRule.{FilterRule}
use Rattle.journal_groups.specs.Groups.{IsGroup, group_text, groups_text, mark, open_byte}
use Rattle.recovery.specs.Holding.{joined}
use Rattle.recovery.proofs.Groups.{one_group}
use Rattle.replica_pull.specs.Cut.{AreCut}
use Rattle.replica_pull.specs.Prefix.{begun, changes_from, AreWholeIn, ArePassed, HasPrefix, IsJournalOf, HasFirst}
use Rattle.replica_pull.specs.declared.replica.Replica.{Replica}

-- ---- groups at the front of a text

-- the groups that a text has begin with those at its front
pub record Begin (n : ℕ) (front all : List (List Change)) (behind : List ℕ) : Type 0 where
  pub later : List (List Change)
  pub is : all ≡ front ++ later
  pub text : behind ≡ groups_text (n + length front) later

no_text : (n : ℕ) (x : List Change) (rest behind : List ℕ) → [] ≡ (mark open_byte ++ (group_text n x ++ rest)) ++ behind → ⊥
no_text n x rest behind e = cc

pub begins : (n : ℕ) (front all : List (List Change)) (behind : List ℕ) → AllByRecursion IsGroup front → AllByRecursion IsGroup all
    → groups_text n all ≡ groups_text n front ++ behind → Begin n front all behind
begins n [] all behind are both same = record { later = all; is = refl; text = let at : n ≡ n + 0 = omega arith in sym same ∙ ap (λ (k : ℕ). groups_text k all) at }
begins n (x ∷ front) [] behind are both same = absurd (no_text n x (groups_text (suc n) front) behind same)
begins n (x ∷ front) (y ∷ all) behind are both same =
    let rest = groups_text (suc n) front ++ behind in
    let parted : mark open_byte ++ (group_text n y ++ groups_text (suc n) all) ≡ mark open_byte ++ (group_text n x ++ rest) =
    same
    ∙ append_assoc (mark open_byte) (group_text n x ++ groups_text (suc n) front) behind
    ∙ ap (λ (l : List ℕ). mark open_byte ++ l) (append_assoc (group_text n x) (groups_text (suc n) front) behind) in
    let here : group_text n y ++ groups_text (suc n) all ≡ group_text n x ++ rest = ap (drop 5) parted in
    let one : y ≡ x = one_group n (group_text n y ++ groups_text (suc n) all) (groups_text (suc n) all) rest y x both.0 are.0 refl here in
    let same_front : group_text n y ++ groups_text (suc n) all ≡ group_text n y ++ rest = here ∙ ap (λ (c : List Change). group_text n c ++ rest) (sym one) in
    let behind_it : groups_text (suc n) all ≡ rest =
    sym (drop-append_seam (group_text n y) (groups_text (suc n) all)) ∙ ap (drop (length (group_text n y))) same_front ∙ drop-append_seam (group_text n y) rest in
    let on = begins (suc n) front all behind are.1 both.1 behind_it in
    let shift : suc n + length front ≡ n + suc (length front) = omega arith in
    record {
      later = on.later;
      is = (λ i. one i ∷ on.is i);
      text = on.text ∙ ap (λ (k : ℕ). groups_text k on.later) shift;
    }

pub last_of : (P : List Change → Type 0) (xs ys : List (List Change)) → AllByRecursion P (xs ++ ys) → AllByRecursion P ys
last_of P [] ys all = all
last_of P (x ∷ xs) ys all = last_of P xs ys all.1

-- where no group is left behind them they are all
pub all_whole : (front all : List (List Change)) (rest : List ℕ) → AllByRecursion IsGroup all → AreWholeIn front (groups_text 1 all) rest → all ≡ front
all_whole front all rest are whole =
    let on = begins 1 front all rest whole.are_groups are whole.is in
    let next : 1 + length front ≡ suc (length front) = omega arith in
    on.is
    ∙ ap (λ (l : List (List Change)). front ++ l)
    (none on.later (last_of IsGroup front on.later (subst (AllByRecursion IsGroup) on.is are)) (on.text ∙ ap (λ (k : ℕ). groups_text k on.later) next))
    ∙ append-nil front
  where
    none : (later : List (List Change)) → AllByRecursion IsGroup later → rest ≡ groups_text (suc (length front)) later → later ≡ []
    none [] all is = refl
    none (x ∷ later) all is = absurd (whole.none x (groups_text (suc (suc (length front))) later) all.0 is)

-- ---- the changes of generations

abbrev pub texts : List (List (List Change)) → List (List ℕ)
texts generations = map (groups_text 1) generations

module _ (groups : List (List Change)) (rest : List ℕ) (at : ℕ) where
  front : (g : ℕ) (all generations : List (List (List Change))) → AllByRecursion (AllByRecursion IsGroup) all → 1 ≤ length all → ArePassed (texts all) generations
      → AreWholeIn groups (take at (text_of (texts all) (length generations))) rest
      → (more : List (List Change)) × (changes_from g all ≡ changes_from g (generations ++ groups ∷ []) ++ more)
  front g [] generations are some passed whole = absurd (omega (arith, some))
  front g (a ∷ all) [] are some passed whole =
      let text = groups_text 1 a in
      let split : text ≡ groups_text 1 groups ++ (rest ++ drop at text) =
      sym (take-append-drop at text) ∙ ap (λ (l : List ℕ). l ++ drop at text) whole.is ∙ append_assoc (groups_text 1 groups) rest (drop at text) in
      let on = begins 1 groups a (rest ++ drop at text) whole.are_groups are.0 split in
      let behind = changes_from (suc g) all in (
        on.later ++ behind,
        ap (λ (l : List (List Change)). begun g ++ (l ++ behind)) on.is
            ∙ ap (λ (l : List (List Change)). begun g ++ l) (append_assoc groups on.later behind)
            ∙ sym (append_assoc (begun g) groups (on.later ++ behind))
            ∙ ap (λ (l : List (List Change)). (begun g ++ l) ++ (on.later ++ behind)) (sym (append-nil groups)),
      )
  front g (a ∷ all) (x ∷ generations) are some passed whole =
      let long : 1 ≤ length all = omega (arith, passed.0, same_length all) in
      let on = front (suc g) all generations are.1 long passed.2 whole in
      let same : a ≡ x = all_whole x a passed.1.0 are.0 passed.1.1 in
      let behind = changes_from (suc g) (generations ++ groups ∷ []) in (
        on.0,
        (λ i. begun g ++ (same i ++ on.1 i))
            ∙ ap (λ (l : List (List Change)). begun g ++ l) (sym (append_assoc x behind on.0))
            ∙ sym (append_assoc (begun g) (x ++ behind) on.0),
      )
    where
      same_length : (all : List (List (List Change))) → length (texts all) ≡ length all
      same_length [] = refl
      same_length (a ∷ all) = ap (λ (n : ℕ). suc n) (same_length all)

no_mark : (n : ℕ) (x : List Change) (more rest : List ℕ) → [] ≡ (mark open_byte ++ (group_text n x ++ more)) ++ rest → ⊥
no_mark n x more rest e = cc

take_none : (n : ℕ) → take n (let l : List ℕ = [] in l) ≡ []
take_none zero = refl
take_none (suc n) = refl

-- of a journal without generations nothing was taken
empty : (groups : List (List Change)) (generations : List (List (List Change))) (rest : List ℕ) (at : ℕ) → ArePassed [] generations
    → AreWholeIn groups (take at (text_of [] (length generations))) rest → changes_from 0 (generations ++ groups ∷ []) ≡ []
empty [] [] rest at passed whole = refl
empty (x ∷ groups) [] rest at passed whole = absurd (no_mark 1 x (groups_text 2 groups) rest (sym (take_none at) ∙ whole.is))
empty groups (x ∷ generations) rest at passed whole = absurd passed

pub first_changes : (rules : List FilterRule) (journal : List (List ℕ)) (all : List (List (List Change))) (r : Replica) → HasPrefix rules journal r → IsJournalOf journal all
    → HasFirst rules all r
first_changes rules journal all r p of =
    let taken = changes_from 0 (p.generations ++ p.groups ∷ []) in
    let more = found all of in
    let count : r.changes ≤ length (changes_from 0 all) = omega (arith, p.changes, ap length more.1, length-append taken more.0) in
    let first : take r.changes (changes_from 0 all) ≡ taken =
    (λ i. take (p.changes i) (more.1 i)) ∙ take-append-le (length taken) taken more.0 (omega arith) ∙ take_all (length taken) taken (omega arith) in
    record {
      within = count;
      rows = subst (λ (l : List (List Change)). AreCut rules (changed_by no_rows (joined l)) (rows_of r.tables)) (sym first) p.rows;
    }
  where
    here : (all : List (List (List Change))) → IsJournalOf journal all → AreWholeIn p.groups (take r.at (text_of (texts all) (length p.generations))) r.rest
    here all of = subst (λ (l : List ℕ). AreWholeIn p.groups (take r.at l) r.rest) (λ i. text_of (of.0 i) (p.generation i)) p.whole

    passed : (all : List (List (List Change))) → IsJournalOf journal all → ArePassed (texts all) p.generations
    passed all of = subst (λ (j : List (List ℕ)). ArePassed j p.generations) of.0 p.passed

    found : (all : List (List (List Change))) → IsJournalOf journal all
        → (more : List (List Change)) × (changes_from 0 all ≡ changes_from 0 (p.generations ++ p.groups ∷ []) ++ more)
    found [] of = ([], sym (append-nil (changes_from 0 (p.generations ++ p.groups ∷ [])) ∙ empty p.groups p.generations r.rest r.at (passed [] of) (here [] of)))
    found (a ∷ all) of = let some : 1 ≤ suc (length all) = omega arith in front p.groups r.rest r.at 0 (a ∷ all) p.generations of.1 some (passed (a ∷ all) of) (here (a ∷ all) of)
