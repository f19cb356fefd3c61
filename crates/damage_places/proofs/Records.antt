-- The records with which a group begins, and the first of them that is bad.
use Rattle.std.proofs.Common.{◌≡◌, ◌⊎◌, ◌<◌, ◌+◌, ℕ, suc, List, [], ◌∷◌, ◌++◌, length, inl, inr, refl, sym, ap, subst, ◌∙◌, arith, append_assoc, append-nil, length-append}
use Rattle.depot_rows.specs.db_records.declared.change.Change.{Change}
use Rattle.depot_rows.specs.db_records.declared.change.Op.{Op}
use Rattle.depot_rows.specs.db_records.declared.change.Op.TheVariants.{Put, Replace, Remove}
use Rattle.depot_rows.specs.db_records.declared.record.Record.{Record}
use Rattle.record_text.specs.Grammar.{IsRecord, spelling}
use Rattle.record_text.specs.Reading.{Done}
use Rattle.journal_groups.specs.Groups.{GroupBegins, AreRecords, IsGroup, body_of, change_text, head_of, group_text}
use Rattle.journal_groups.specs.Reading.{window_at, head_at}
use Rattle.journal_groups.proofs.Bodies.{window_again}
use Rattle.journal_groups.proofs.Texts.{body_cons, body_joined, length_cons, head_again}
use Rattle.recovery.specs.Pieces.{IsFirstBad, IsBadRecord, AreAllGood}
use Rattle.damage_places.proofs.Fronts.{parted, IsBefore, one_more}

positive : (n : ℕ) → 0 < suc n
positive n = omega arith

same_done : {A : Type 0} {x y : A} {a b : List ℕ} → Done x a ≡ Done y b → x ≡ y
same_done e = cc

rest_done : {A : Type 0} {x y : A} {a b : List ℕ} → Done x a ≡ Done y b → a ≡ b
rest_done e = cc

-- ---- records of one text

module _ (x y : Change) (a b : List ℕ) (fits : IsRecord x.row) (others : IsRecord y.row) (e : change_text x ++ a ≡ change_text y ++ b) where
  abbrev size : ℕ
  size = length (change_text x) + length (change_text y)

  read : Done x a ≡ Done y b
  read = sym (window_again size x a fits (omega arith)) ∙ ap (window_at size) e ∙ window_again size y b others (omega arith)

  one_record : x ≡ y
  one_record = same_done read

  one_rest : a ≡ b
  one_rest = rest_done read

-- one list of records is the front of the other
abbrev pub AreFronts : List Change → List Change → Type 0
AreFronts xs ys = ((more : List Change) × (ys ≡ xs ++ more)) ⊎ ((more : List Change) × (xs ≡ ys ++ more))

records_front : (xs ys : List Change) (a b : List ℕ) → AreRecords xs → AreRecords ys → body_of xs ++ a ≡ body_of ys ++ b → AreFronts xs ys
records_front [] ys a b are others e = inl (ys, refl)
records_front (x ∷ xs) [] a b are others e = inr (x ∷ xs, refl)
records_front (x ∷ xs) (y ∷ ys) a b are others e =
    let parts : change_text x ++ (body_of xs ++ a) ≡ change_text y ++ (body_of ys ++ b) = sym (body_cons x xs a) ∙ e ∙ body_cons y ys b in
    go (one_record x y (body_of xs ++ a) (body_of ys ++ b) are.0 others.0 parts)
    (records_front xs ys a b are.1 others.1 (one_rest x y (body_of xs ++ a) (body_of ys ++ b) are.0 others.0 parts))
  where
    go : x ≡ y → AreFronts xs ys → AreFronts (x ∷ xs) (y ∷ ys)
    go one (inl h) = inl (h.0, λ i. sym one i ∷ h.1 i)
    go one (inr h) = inr (h.0, λ i. one i ∷ h.1 i)

-- ---- the first that is bad

module _ (good : List Change → Type 0) (closed : (front behind : List Change) → good (front ++ behind) → good front) where
  -- what is good holds no first bad one
  good_never : (xs more : List Change) (left : ℕ) → IsFirstBad good xs left → good (xs ++ more) → ⊥
  good_never xs more left bad are = bad.none (closed (bad.front ++ bad.bad ∷ []) (bad.after ++ more) (subst good parts are))
    where
      parts : xs ++ more ≡ (bad.front ++ bad.bad ∷ []) ++ (bad.after ++ more)
      parts = ap (λ (l : List Change). l ++ more) bad.parts ∙ append_assoc bad.front (bad.bad ∷ bad.after) more ∙ sym (one_more bad.front bad.bad (bad.after ++ more))

  before_never : (xs ys : List Change) (left : ℕ) (bad : IsFirstBad good xs left) → IsBefore bad.front bad.bad ys → good ys → ⊥
  before_never xs ys left bad h are = bad.none (closed (bad.front ++ bad.bad ∷ []) h.0 (subst good (h.1 ∙ sym (one_more bad.front bad.bad h.0)) are))

  -- of a list and of a front of it the first bad one is the same
  one_bad : (xs ys more : List Change) (l m : ℕ) (a : IsFirstBad good xs l) (b : IsFirstBad good ys m) → ys ≡ xs ++ more → a.front ≡ b.front
  one_bad xs ys more l m a b e = go (parted a.front a.bad (a.after ++ more) b.front b.bad b.after parts)
    where
      parts : a.front ++ a.bad ∷ (a.after ++ more) ≡ b.front ++ b.bad ∷ b.after
      parts = sym (append_assoc a.front (a.bad ∷ a.after) more) ∙ ap (λ (l : List Change). l ++ more) (sym a.parts) ∙ sym e ∙ b.parts

      go : (a.front ≡ b.front) ⊎ (IsBefore a.front a.bad b.front ⊎ IsBefore b.front b.bad a.front) → a.front ≡ b.front
      go (inl h) = h
      go (inr (inl h)) = absurd (before_never xs b.front l a h b.good_front)
      go (inr (inr h)) = absurd (before_never ys a.front m b h a.good_front)

  -- ---- of a group

  module _ (number at : ℕ) (bytes : List ℕ) where
    module _ (xs ys : List Change) (end other : ℕ) (a : GroupBegins number at bytes xs end) (b : GroupBegins number at bytes ys other) where
      heads_read : Done a.size (body_of xs ++ a.rest) ≡ Done b.size (body_of ys ++ b.rest)
      heads_read =
          sym (head_again number a.size (body_of xs ++ a.rest) a.wide)
          ∙ ap (head_at number) (sym a.parts ∙ b.parts)
          ∙ head_again number b.size (body_of ys ++ b.rest) b.wide

      one_size : a.size ≡ b.size
      one_size = same_done heads_read

      fronts : AreFronts xs ys
      fronts = records_front xs ys a.rest b.rest a.are_records b.are_records (rest_done heads_read)

    -- where the first bad one stands
    place_at : (place : ℕ) (bad : IsBadRecord good (GroupBegins number at bytes) place)
        → place ≡ at + (length (head_of number bad.there.size) + length (body_of bad.bad.front))
    place_at place bad =
        let first = bad.bad in
        let whole = ap length bad.there.parts in
        let one = length-append (head_of number bad.there.size) (body_of bad.changes ++ bad.there.rest) in
        let two = length-append (body_of bad.changes) bad.there.rest in
        let three : length (body_of bad.changes) ≡ length (body_of first.front) + length (body_of (first.bad ∷ first.after)) =
        ap (λ (l : List Change). length (body_of l)) first.parts ∙ ap length (body_joined first.front (first.bad ∷ first.after))
        ∙ length-append (body_of first.front) (body_of (first.bad ∷ first.after)) in
        omega (arith, bad.place_is, bad.there.ends, first.left_is, whole, one, two, three)

    pub bad_once : (place other : ℕ) → IsBadRecord good (GroupBegins number at bytes) place → IsBadRecord good (GroupBegins number at bytes) other → place ≡ other
    bad_once place other a b =
        place_at place a
        ∙ (λ i. at + (length (head_of number (one_size a.changes b.changes a.end b.end a.there b.there i)) + length (body_of (same_front i))))
        ∙ sym (place_at other b)
      where
        go : AreFronts a.changes b.changes → a.bad.front ≡ b.bad.front
        go (inl h) = one_bad a.changes b.changes h.0 a.left b.left a.bad b.bad h.1
        go (inr h) = sym (one_bad b.changes a.changes h.0 b.left a.left b.bad a.bad h.1)

        same_front : a.bad.front ≡ b.bad.front
        same_front = go (fronts a.changes b.changes a.end b.end a.there b.there)

    pub bad_or_good : (place : ℕ) → IsBadRecord good (GroupBegins number at bytes) place → AreAllGood good (GroupBegins number at bytes) → ⊥
    bad_or_good place bad all = good_never bad.changes [] bad.left bad.bad (subst good (sym (append-nil bad.changes)) (all bad.changes bad.end bad.there))

  -- ---- a whole group that is good

  text_long : (op : Op) (row : Record) → 0 < length (spelling op row)
  text_long Put row = positive _
  text_long Replace row = positive _
  text_long Remove row = positive _

  no_more : (changes : List Change) → length (body_of changes) ≡ 0 → changes ≡ []
  no_more [] e = refl
  no_more (x ∷ xs) e = let one = length_cons x xs in let two = text_long x.op x.row in absurd (omega (arith, one, two, e))

  module _ (number at : ℕ) (changes : List Change) (rest : List ℕ) (is : IsGroup changes) (are : good changes) where
    abbrev text : List ℕ
    text = group_text number changes ++ rest

    abbrev own : GroupBegins number at text changes (at + length (group_text number changes))
    own = record {
      size = length (body_of changes);
      rest = rest;
      wide = is.1;
      are_records = is.0;
      within = omega arith;
      parts = append_assoc (head_of number (length (body_of changes))) (body_of changes) rest;
      ends = let one = length-append (group_text number changes) rest in omega (arith, one);
    }

    pub whole_never : (place : ℕ) → IsBadRecord good (GroupBegins number at text) place → ⊥
    whole_never place bad = go (fronts number at text bad.changes changes bad.end (at + length (group_text number changes)) bad.there own)
      where
        go : AreFronts bad.changes changes → ⊥
        go (inl h) = good_never bad.changes h.0 bad.left bad.bad (subst good h.1 are)
        go (inr h) =
            let size : bad.there.size ≡ length (body_of changes) = one_size number at text bad.changes changes bad.end (at + length (group_text number changes)) bad.there own in
            let long : length (body_of bad.changes) ≡ length (body_of changes) + length (body_of h.0) =
            ap (λ (l : List Change). length (body_of l)) h.1 ∙ ap length (body_joined changes h.0) ∙ length-append (body_of changes) (body_of h.0) in
            let none : length (body_of h.0) ≡ 0 = omega (arith, size, long, bad.there.within) in
            let whole : bad.changes ++ [] ≡ changes =
            append-nil bad.changes ∙ h.1 ∙ ap (λ (l : List Change). changes ++ l) (no_more h.0 none) ∙ append-nil changes in
            good_never bad.changes [] bad.left bad.bad (subst good (sym whole) are)
