-- The changes of groups, and the generations that were passed of a journal.
use Rattle.std.proofs.Common.{◌≡◌, ℕ, zero, suc, ◌+◌, ◌-◌, ◌<◌, ◌≤◌, ◌^◌, List, [], ◌∷◌, ◌++◌, length, take, refl, sym, ◌∙◌, ap, subst, arith, append_assoc, length-append}
use Rattle.std.specs.List.{flat_map}
use Rattle.std.proofs.lemmas.List.{append-nil}
use Rattle.outside_api.specs.Link.{text_of, IsEarlier}
use Rattle.depot_rows.specs.db_records.declared.change.Change.{Change}
use Rattle.depot_rows.specs.table_changes.Changed.{changed_by, no_rows}
use Rattle.journal_groups.specs.Causes.{GoesOn, group}
use Rattle.journal_groups.specs.Groups.{group_text, mark, open_byte}
use Rattle.recovery.specs.Holding.{joined}
use Rattle.recovery.proofs.Fits.{joined_append, changed_joined}
use Rattle.recovery.proofs.Groups.{unreadable_never}
use Rattle.recovery.proofs.Reading.{ends_short}
use Rattle.replica_pull.specs.Prefix.{begun, bytes_of, changes_from, HasNoGroup, AreWholeIn, ArePassed}

-- ---- the changes of generations

pub changes_on : (g : ℕ) (a b : List (List (List Change))) → changes_from g (a ++ b) ≡ changes_from g a ++ changes_from (g + length a) b
changes_on g [] b = let same : g ≡ g + 0 = omega arith in ap (λ (n : ℕ). changes_from n b) same
changes_on g (x ∷ xs) b =
    let shift : suc g + length xs ≡ g + suc (length xs) = omega arith in
    let tail = changes_from (g + suc (length xs)) b in
    ap (λ (l : List (List Change)). begun g ++ (x ++ l)) (changes_on (suc g) xs b ∙ ap (λ (n : ℕ). changes_from (suc g) xs ++ changes_from n b) shift)
    ∙ ap (λ (l : List (List Change)). begun g ++ l) (sym (append_assoc x (changes_from (suc g) xs) tail))
    ∙ sym (append_assoc (begun g) (x ++ changes_from (suc g) xs) tail)

-- groups more of the last generation
pub with_groups : (g : ℕ) (generations : List (List (List Change))) (groups more : List (List Change))
    → changes_from g (generations ++ (groups ++ more) ∷ []) ≡ changes_from g (generations ++ groups ∷ []) ++ more
with_groups g generations groups more =
    let a = changes_from g generations in
    let b = begun (g + length generations) in
    changes_on g generations ((groups ++ more) ∷ [])
    ∙ ap (λ (l : List (List Change)). a ++ (b ++ l)) (append-nil (groups ++ more))
    ∙ ap (λ (l : List (List Change)). a ++ l) (sym (append_assoc b groups more))
    ∙ sym (append_assoc a (b ++ groups) more)
    ∙ ap (λ (l : List (List Change)). (a ++ (b ++ l)) ++ more) (sym (append-nil groups))
    ∙ ap (λ (l : List (List Change)). l ++ more) (sym (changes_on g generations (groups ∷ [])))

-- one generation more, without groups
pub with_next : (g : ℕ) (generations : List (List (List Change))) (n : ℕ) → n ≡ g + length generations
    → changes_from g (generations ++ [] ∷ []) ≡ changes_from g generations ++ begun n
with_next g generations n is =
    changes_on g generations ([] ∷ [])
    ∙ ap (λ (l : List (List Change)). changes_from g generations ++ l) (append-nil (begun (g + length generations)))
    ∙ ap (λ (m : ℕ). changes_from g generations ++ begun m) (sym is)

pub rows_on : (xs ys : List (List Change)) → changed_by no_rows (joined (xs ++ ys)) ≡ changed_by (changed_by no_rows (joined xs)) (joined ys)
rows_on xs ys = ap (changed_by no_rows) (joined_append xs ys) ∙ changed_joined no_rows (joined xs) (joined ys)

-- ---- whether a group stands there

pub goes_no_group : (number : ℕ) (bytes : List ℕ) → number < 2 ^ 64 → GoesOn number bytes → HasNoGroup number bytes
goes_no_group number bytes few goes = λ changes behind are is.
    unreadable_never number 0 (bytes ++ []) (0 + length bytes) few (ends_short number 0 bytes [] (0 + length bytes) refl goes refl)
    (group changes behind are (append-nil bytes ∙ is))

nothing_there : (number : ℕ) (changes : List Change) (behind : List ℕ) → [] ≡ mark open_byte ++ (group_text number changes ++ behind) → ⊥
nothing_there number changes behind e = cc

pub empty_no_group : (number : ℕ) → HasNoGroup number []
empty_no_group number = λ changes behind are is. nothing_there number changes behind is

-- ---- a journal that grows

pub passed_later : (now : List (List ℕ)) (newest bytes : ℕ) (generations : List (List (List Change))) → newest ≤ length now - 1
    → ArePassed (take newest now ++ take bytes (text_of now newest) ∷ []) generations → ArePassed now generations
passed_later now newest bytes [] there h = tt
passed_later now zero bytes (x ∷ generations) there h = absurd (omega (arith, h.0))
passed_later [] (suc newest) bytes (x ∷ generations) there h = absurd (omega (arith, there))
passed_later (text ∷ now) (suc newest) bytes (x ∷ generations) there h =
    let long : 1 ≤ length now = omega (arith, there) in
    let within : newest ≤ length now - 1 = omega (arith, there) in
    (long, h.1, passed_later now newest bytes generations within h.2)

-- the generations that were passed have their texts still
pub passed_texts : (now : List (List ℕ)) (newest bytes : ℕ) (generations : List (List (List Change))) → newest ≤ length now - 1
    → ArePassed (take newest now ++ take bytes (text_of now newest) ∷ []) generations
    → take (length generations) (take newest now ++ take bytes (text_of now newest) ∷ []) ≡ take (length generations) now
passed_texts now newest bytes [] there h = refl
passed_texts now zero bytes (x ∷ generations) there h = absurd (omega (arith, h.0))
passed_texts [] (suc newest) bytes (x ∷ generations) there h = absurd (omega (arith, there))
passed_texts (text ∷ now) (suc newest) bytes (x ∷ generations) there h =
    ap (λ (texts : List (List ℕ)). text ∷ texts) (passed_texts now newest bytes generations (omega (arith, there, h.0)) h.2)

-- a generation that was closed has its text still
same_closed : (now : List (List ℕ)) (newest bytes g : ℕ) → newest ≤ length now - 1 → g + 1 < length (take newest now ++ take bytes (text_of now newest) ∷ [])
    → (text_of (take newest now ++ take bytes (text_of now newest) ∷ []) g ≡ text_of now g) × (g + 1 < length now)
same_closed now zero bytes g there closed = absurd (omega (arith, closed))
same_closed [] (suc newest) bytes g there closed = absurd (omega (arith, there))
same_closed (text ∷ now) (suc newest) bytes zero there closed = let long : 1 < suc (length now) = omega (arith, there) in (refl, long)
same_closed (text ∷ now) (suc newest) bytes (suc g) there closed =
    let within : newest ≤ length now - 1 = omega (arith, there) in
    let less : g + 1 < length (take newest now ++ take bytes (text_of now newest) ∷ []) = omega (arith, closed) in
    let rest = same_closed now newest bytes g within less in
    let long : suc g + 1 < suc (length now) = omega (arith, rest.1) in
    (rest.0, long)

pub closed_text : (earlier now : List (List ℕ)) (g : ℕ) → IsEarlier earlier now → g + 1 < length earlier → (text_of earlier g ≡ text_of now g) × (g + 1 < length now)
closed_text earlier now g was closed =
    let again = same_closed now was.newest was.bytes g was.there (subst (λ (j : List (List ℕ)). g + 1 < length j) was.is closed) in
    (ap (λ (j : List (List ℕ)). text_of j g) was.is ∙ again.0, again.1)

-- ---- bytes

pub bytes_more : (journal : List (List ℕ)) (g : ℕ) → g < length journal → bytes_of (take (suc g) journal) ≡ bytes_of (take g journal) + length (text_of journal g)
bytes_more [] g there = absurd (omega (arith, there))
bytes_more (text ∷ journal) zero there = let all = length-append text [] in omega (arith, all)
bytes_more (text ∷ journal) (suc g) there =
    let rest = bytes_more journal g (omega (arith, there)) in
    let one = length-append text (flat_map (λ (t : List ℕ). t) (take (suc g) journal)) in
    let other = length-append text (flat_map (λ (t : List ℕ). t) (take g journal)) in
    omega (arith, rest, one, other)

pub bytes_within : (journal : List (List ℕ)) (g : ℕ) → g < length journal → bytes_of (take g journal) + length (text_of journal g) ≤ bytes_of journal
bytes_within [] g there = absurd (omega (arith, there))
bytes_within (text ∷ journal) zero there = let all = length-append text (flat_map (λ (t : List ℕ). t) journal) in omega (arith, all)
bytes_within (text ∷ journal) (suc g) there =
    let rest = bytes_within journal g (omega (arith, there)) in
    let one = length-append text (flat_map (λ (t : List ℕ). t) (take g journal)) in
    let all = length-append text (flat_map (λ (t : List ℕ). t) journal) in
    omega (arith, rest, one, all)

-- one more generation that is passed
pub passed_on : (journal : List (List ℕ)) (generations : List (List (List Change))) (groups : List (List Change)) (rest : List ℕ) → ArePassed journal generations
    → AreWholeIn groups (text_of journal (length generations)) rest → length generations + 1 < length journal → ArePassed journal (generations ++ groups ∷ [])
passed_on [] generations groups rest h whole closed = absurd (omega (arith, closed))
passed_on (text ∷ journal) [] groups rest h whole closed = let long : 1 ≤ length journal = omega (arith, closed) in (long, (rest, whole), tt)
passed_on (text ∷ journal) (x ∷ generations) groups rest h whole closed =
    let less : length generations + 1 < length journal = omega (arith, closed) in
    (h.0, h.1, passed_on journal generations groups rest h.2 whole less)
