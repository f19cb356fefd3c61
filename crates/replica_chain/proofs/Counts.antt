-- Groups that are counted, of a text that is read in pieces, and of all generations.
use Rattle.std.proofs.Common.{◌≡◌, ℕ, zero, suc, ◌+◌, ◌<◌, ◌≤◌, List, [], ◌∷◌, ◌++◌, length, take, drop, get_or, Option, Some, None, refl, sym, ap, subst, ◌∙◌, arith, append_assoc, length-append, length-drop, length-take}
use Rattle.std.specs.Prelude.{map}
use Rattle.std.specs.List.{AllByRecursion, concat}
use Rattle.std.proofs.Math.Seq.{take-add, take-append_seam}
use Rattle.std.proofs.lemmas.List.{append-nil, take_all, take_more}
use Rattle.outside_api.specs.Link.{text_of}
use Rattle.depot_rows.specs.db_records.declared.change.Change.{Change}
use Rattle.journal_groups.specs.Groups.{IsGroup, group_text, groups_text, mark, open_byte}
use Rattle.journal_groups.specs.Reader.{HasTaken, State}
use Rattle.replica_pull.specs.Prefix.{AreWholeIn, HasNoGroup, changes_from}
use Rattle.replica_pull.proofs.Firsts.{all_whole}
use Rattle.replica_pull.proofs.Taking.{all_joined, groups_joined}
use Rattle.replica_chain.specs.Chronicle.{Chronicle, changes_of, generations_of, texts_of}
use Rattle.replica_chain.specs.Counting.{HasCounted, IsNextGroupOf}

-- a buffer of a piece has room
pub piece_has_room : (long made : ℕ) → long ≡ made → made ≡ 1048576 → 0 < long
piece_has_room long made is of = omega (arith, is, of)

-- ---- the groups of a text

-- what a reader answers: a group, or that none stands there
pub next_of : (old new : State) (found : Option (List Change)) → HasTaken old new found → IsNextGroupOf old new found
next_of old new (Some changes) has = has
next_of old new None has =
    let same = has.0 in (
      (ap (λ (state : State). state.left) same, ap (λ (state : State). state.at) same, ap (λ (state : State). state.number) same),
      λ changes behind are is. has.1.1.1.0 (first_byte has.1.0 has.1.1.0 (group_text old.number changes ++ behind) (sym has.1.1.1.1 ∙ is)),
    )
  where
    first_byte : (byte : ℕ) (rest behind : List ℕ) → mark byte ++ rest ≡ mark open_byte ++ behind → byte ≡ open_byte
    first_byte byte rest behind e = cc

-- one more was taken
pub counted_group : (text : List ℕ) (old new : State) (before now : ℕ) (changes : List Change) → HasCounted text old before → HasTaken old new (Some changes) → now ≡ before + 1 → HasCounted text new now
counted_group text old new before now changes has taken count = record {
  done = has.done ++ changes ∷ [];
  are_groups = all_joined IsGroup has.done (changes ∷ []) has.are_groups (taken.0, tt);
  is =
      has.is
      ∙ ap (λ (l : List ℕ). groups_text 1 has.done ++ l) (taken.1 ∙ ap (λ (n : ℕ). mark open_byte ++ (group_text n changes ++ new.left)) has.number)
      ∙ ap (λ (l : List ℕ). groups_text 1 has.done ++ (mark open_byte ++ (l ++ new.left))) (sym (append-nil (group_text (1 + length has.done) changes)))
      ∙ ap (λ (l : List ℕ). groups_text 1 has.done ++ l) (sym (append_assoc (mark open_byte) (group_text (1 + length has.done) changes ++ []) new.left))
      ∙ sym (append_assoc (groups_text 1 has.done) (groups_text (1 + length has.done) (changes ∷ [])) new.left)
      ∙ ap (λ (l : List ℕ). l ++ new.left) (sym (groups_joined 1 has.done (changes ∷ [])));
  number = (let one = taken.3 in let was = has.number in omega (arith, one, was, length-append has.done (changes ∷ [])));
  count = (let was = has.count in omega (arith, count, was, length-append has.done (changes ∷ [])));
}

-- more bytes came
pub counted_more : (text piece : List ℕ) (old new : State) (groups : ℕ) → HasCounted text old groups → new.left ≡ old.left ++ piece → new.number ≡ old.number → HasCounted (text ++ piece) new groups
counted_more text piece old new groups has left number = record {
  done = has.done;
  are_groups = has.are_groups;
  is =
      ap (λ (l : List ℕ). l ++ piece) has.is
      ∙ append_assoc (groups_text 1 has.done) old.left piece
      ∙ ap (λ (l : List ℕ). groups_text 1 has.done ++ l) (sym left);
  number = number ∙ has.number;
  count = has.count;
}

-- where no more groups stand, these are all
pub counted_all : (groups : List (List Change)) (reader : State) (count : ℕ) → HasCounted (groups_text 1 groups) reader count → HasNoGroup reader.number reader.left → AllByRecursion IsGroup groups → count ≡ length groups
counted_all groups reader count has none are =
    let next : 1 + length has.done ≡ suc (length has.done) = omega arith in
    let whole : AreWholeIn has.done (groups_text 1 groups) reader.left =
    record { are_groups = has.are_groups; is = has.is; none = subst (λ (n : ℕ). HasNoGroup n reader.left) (has.number ∙ next) none } in
    has.count ∙ ap (length {A = List Change}) (sym (all_whole has.done groups reader.left are whole))

-- the first bytes, and those that were found behind them
pub found_more : (text buffer : List ℕ) (at n : ℕ) → take n buffer ≡ take n (drop at text) → take at text ++ take n buffer ≡ take (at + n) text
found_more text buffer at n is = ap (λ (l : List ℕ). take at text ++ l) is ∙ sym (take-add at n text)

-- a piece that was found behind what is counted
pub counted_piece : (text buffer : List ℕ) (at n bytes : ℕ) (reader : State) (groups : ℕ) → n ≤ length buffer → n ≤ length (drop at text) → take n buffer ≡ take n (drop at text) → at ≤ length text
    → bytes ≡ at + length (take n buffer) → HasCounted (take at text ++ take n buffer) reader groups → HasCounted (take bytes text) reader groups × (bytes ≤ length text)
counted_piece text buffer at n bytes reader groups fits there same within bytes_are has =
    let now : bytes ≡ at + n = omega (arith, bytes_are, length-take n buffer, fits) in
    let all : take at text ++ take n buffer ≡ take bytes text = found_more text buffer at n same ∙ ap (λ (k : ℕ). take k text) (sym now) in
    (subst (λ (l : List ℕ). HasCounted l reader groups) all has, omega (arith, now, there, length-drop at text, within))

-- at the end of a text all its groups are counted
pub counted_text : (text : List ℕ) (groups : List (List Change)) (reader : State) (count bytes : ℕ) → text ≡ groups_text 1 groups → AllByRecursion IsGroup groups → HasNoGroup reader.number reader.left
    → HasCounted (take bytes text) reader count → bytes ≤ length text → length text ≤ bytes → (count ≡ length groups) × (bytes ≡ length (groups_text 1 groups))
counted_text text groups reader count bytes is are none has within ends =
    let whole : take bytes text ≡ groups_text 1 groups = take_all bytes text ends ∙ is in
    (counted_all groups reader count (subst (λ (l : List ℕ). HasCounted l reader count) whole has) none are, omega (arith, within, ends, ap length is))

-- ---- the generations

-- how many groups they have
abbrev pub groups_in : List (List (List Change)) → ℕ
groups_in [] = 0
groups_in (groups ∷ generations) = length groups + groups_in generations

-- and how many bytes
abbrev pub bytes_in : List (List (List Change)) → ℕ
bytes_in [] = 0
bytes_in (groups ∷ generations) = length (groups_text 1 groups) + bytes_in generations

pub bytes_in_texts : (generations : List (List (List Change))) → length (concat (map (groups_text 1) generations)) ≡ bytes_in generations
bytes_in_texts [] = refl
bytes_in_texts (groups ∷ generations) = omega (arith, bytes_in_texts generations, length-append (groups_text 1 groups) (concat (map (groups_text 1) generations)))

changes_in : (g : ℕ) (generations : List (List (List Change))) → length (changes_from (suc g) generations) ≡ groups_in generations + length generations
changes_in g [] = refl
changes_in g (groups ∷ generations) = omega (arith, changes_in (suc g) generations, length-append groups (changes_from (suc (suc g)) generations))

pub changes_in_all : (c : Chronicle) → length (changes_of c) ≡ groups_in (generations_of c) + length c.closed
changes_in_all c = go c.closed
  where
    go : (closed : List (List (List Change))) → length (changes_from 0 (closed ++ c.newest ∷ [])) ≡ groups_in (closed ++ c.newest ∷ []) + length closed
    go [] = omega (arith, ap length (append-nil c.newest))
    go (groups ∷ closed) =
        let rest = changes_in 0 (closed ++ c.newest ∷ []) in
        omega (arith, rest, length-append groups (changes_from 1 (closed ++ c.newest ∷ [])), length-append closed (c.newest ∷ []))

groups_in_joined : (xs ys : List (List (List Change))) → groups_in (xs ++ ys) ≡ groups_in xs + groups_in ys
groups_in_joined [] ys = omega arith
groups_in_joined (x ∷ xs) ys = omega (arith, groups_in_joined xs ys)

bytes_in_joined : (xs ys : List (List (List Change))) → bytes_in (xs ++ ys) ≡ bytes_in xs + bytes_in ys
bytes_in_joined [] ys = omega arith
bytes_in_joined (x ∷ xs) ys = omega (arith, bytes_in_joined xs ys)

-- a generation more
pub groups_in_more : (generations : List (List (List Change))) (i : ℕ) → i < length generations → groups_in (take (i + 1) generations) ≡ groups_in (take i generations) + length (get_or generations i [])
groups_in_more generations i within =
    let one = ap groups_in (take_more generations i [] within) ∙ groups_in_joined (take i generations) (get_or generations i [] ∷ []) in
    omega (arith, one)

pub bytes_in_more : (generations : List (List (List Change))) (i : ℕ) → i < length generations → bytes_in (take (i + 1) generations) ≡ bytes_in (take i generations) + length (groups_text 1 (get_or generations i []))
bytes_in_more generations i within =
    let one = ap bytes_in (take_more generations i [] within) ∙ bytes_in_joined (take i generations) (get_or generations i [] ∷ []) in
    omega (arith, one)

-- the text of one of them
pub text_in : (generations : List (List (List Change))) (i : ℕ) → i < length generations → text_of (map (groups_text 1) generations) i ≡ groups_text 1 (get_or generations i [])
text_in [] i within = absurd (omega (arith, within))
text_in (x ∷ generations) zero within = refl
text_in (x ∷ generations) (suc i) within = text_in generations i (omega (arith, within))

pub groups_at : (generations : List (List (List Change))) (i : ℕ) → AllByRecursion (AllByRecursion IsGroup) generations → AllByRecursion IsGroup (get_or generations i [])
groups_at [] i are = tt
groups_at (x ∷ generations) zero are = are.0
groups_at (x ∷ generations) (suc i) are = groups_at generations i are.1

newest_at : (closed : List (List (List Change))) (newest : List (List Change)) → get_or (closed ++ newest ∷ []) (length closed) [] ≡ newest
newest_at [] newest = refl
newest_at (x ∷ closed) newest = newest_at closed newest

-- the generations of a journal are those before the newest, and the newest
module _ (c : Chronicle) (last : ℕ) (is : last ≡ length c.closed) where
  many : length (generations_of c) ≡ length c.closed + 1
  many = length-append c.closed (c.newest ∷ [])

  pub newest_text : text_of (texts_of c) last ≡ groups_text 1 c.newest
  newest_text =
      text_in (generations_of c) last (omega (arith, is, many))
      ∙ ap (λ (n : ℕ). groups_text 1 (get_or (generations_of c) n [])) is
      ∙ ap (groups_text 1) (newest_at c.closed c.newest)

  pub newest_groups : AllByRecursion (AllByRecursion IsGroup) (generations_of c) → AllByRecursion IsGroup c.newest
  newest_groups are =
      subst (AllByRecursion IsGroup) (newest_at c.closed c.newest) (groups_at (generations_of c) (length c.closed) are)

  pub last_within : (generation : ℕ) → generation < last → generation < length (generations_of c)
  last_within generation below = omega (arith, is, many, below)

  pub older_text : (generation : ℕ) → generation < last → text_of (texts_of c) generation ≡ groups_text 1 (get_or (generations_of c) generation [])
  older_text generation below = text_in (generations_of c) generation (last_within generation below)

  closed_are : take last (generations_of c) ≡ c.closed
  closed_are = ap (λ (n : ℕ). take n (generations_of c)) is ∙ take-append_seam c.closed (c.newest ∷ [])

  -- all were counted
  pub counted_journal : (before_groups before_bytes groups bytes : ℕ) → before_groups ≡ groups_in (take last (generations_of c)) → before_bytes ≡ bytes_in (take last (generations_of c))
      → groups ≡ length c.newest → bytes ≡ length (groups_text 1 c.newest)
      → (before_bytes + bytes ≡ length (concat (texts_of c))) × (bytes ≡ length (groups_text 1 c.newest)) × (groups ≡ length c.newest) × (before_groups + groups + length c.closed ≡ length (changes_of c))
  counted_journal before_groups before_bytes groups bytes before size count long = (
    (let texts = bytes_in_texts (generations_of c) in let parts = bytes_in_joined c.closed (c.newest ∷ []) in let closed = ap bytes_in closed_are in omega (arith, size, long, texts, parts, closed)),
    long,
    count,
    (let all = changes_in_all c in let parts = groups_in_joined c.closed (c.newest ∷ []) in let closed = ap groups_in closed_are in omega (arith, before, count, all, parts, closed)),
  )
