-- What stands in the texts upstream behind what a node has.
use Rattle.std.proofs.Common.{◌≡◌, ℕ, zero, suc, ◌+◌, ◌-◌, ◌≤◌, ◌<◌, List, [], ◌∷◌, ◌++◌, length, take, drop, refl, sym, ap, subst, ◌∙◌, arith, length-append, length-take}
use Rattle.std.specs.Prelude.{map}
use Rattle.std.proofs.Math.Seq.{drop-append_seam, take-add, take-append_seam}
use Rattle.std.proofs.lemmas.List.{append-nil, drop-drop, drop-take, length-take-le, take-take, take_all}
use Rattle.outside_api.specs.Link.{Answers, IsEarlier, text_of}
use Rattle.outside_api.specs.declared.link.Fetched.TheVariants.{Bytes}
use Rattle.archive_file.specs.Archive.{Has}
use Rattle.depot_rows.specs.db_records.declared.change.Change.{Change}
use Rattle.journal_groups.specs.Groups.{group_text, groups_text, mark, open_byte}
use Rattle.recovery.specs.Holding.{group_texts}
use Rattle.replica_pull.proofs.Fronts.{earlier_front}
use Rattle.replica_pull.proofs.Taking.{groups_joined}
use Rattle.replica_chain.specs.Chronicle.{Chronicle, texts_of, with_changes}
use Rattle.replica_chain.proofs.Chains.{same_at}
use Rattle.replica_chain.proofs.Growing.{as_many, texts_are}

-- ---- lists with a last item

pub last_same : {A : Type 0} (front other : List A) (x y : A) → length front ≡ length other → front ++ x ∷ [] ≡ other ++ y ∷ [] → (front ≡ other) × (x ≡ y)
last_same [] [] x y long is = (refl, cc)
last_same [] (o ∷ other) x y long is = absurd (omega (arith, long))
last_same (f ∷ front) [] x y long is = absurd (omega (arith, long))
last_same (f ∷ front) (o ∷ other) x y long is =
    let tail : front ++ x ∷ [] ≡ other ++ y ∷ [] = cc in
    let head : f ≡ o = cc in
    let rest = last_same front other x y (omega (arith, long)) tail in
    ((λ i. head i ∷ rest.0 i), rest.1)

-- what a journal with changes that is earlier is: the generations before are the same, and so is the newest up to its length
pub record IsFrontOf (c : Chronicle) (texts : List (List ℕ)) : Type 0 where
  pub closed : map (groups_text 1) c.closed ≡ take (length c.closed) texts
  pub newest : groups_text 1 c.newest ≡ take (length (groups_text 1 c.newest)) (text_of texts (length c.closed))
  pub within : length (groups_text 1 c.newest) ≤ length (text_of texts (length c.closed))
  pub there : length c.closed ≤ length texts - 1

take_again : (n : ℕ) (xs : List ℕ) → take n xs ≡ take (length (take n xs)) xs
take_again zero xs = refl
take_again (suc n) [] = refl
take_again (suc n) (x ∷ xs) = ap (λ (l : List ℕ). x ∷ l) (take_again n xs)

pub closed_texts_long : (closed : List (List (List Change))) → length (map (group_texts 1) closed) ≡ length closed
closed_texts_long [] = refl
closed_texts_long (x ∷ closed) = ap suc (closed_texts_long closed)

pub front_of : (c : Chronicle) (texts : List (List ℕ)) → IsEarlier (texts_of c) texts → IsFrontOf c texts
front_of c texts e =
    let front = map (groups_text 1) c.closed in
    let text = groups_text 1 c.newest in
    let is : front ++ text ∷ [] ≡ take e.newest texts ++ take e.bytes (text_of texts e.newest) ∷ [] = sym (texts_are c) ∙ e.is in
    let long : length front ≡ length (take e.newest texts) = omega (arith, ap length is, length-append front (text ∷ []), length-append (take e.newest texts) (take e.bytes (text_of texts e.newest) ∷ [])) in
    let same = last_same front (take e.newest texts) text (take e.bytes (text_of texts e.newest)) long is in
    let index : e.newest ≡ length c.closed = omega (arith, long, length-take e.newest texts, as_many c.closed, e.there) in
    let newest_is : text ≡ take e.bytes (text_of texts (length c.closed)) = same.1 ∙ ap (λ (k : ℕ). take e.bytes (text_of texts k)) index in
    record {
      closed = same.0 ∙ ap (λ (k : ℕ). take k texts) index;
      newest = newest_is ∙ take_again e.bytes (text_of texts (length c.closed)) ∙ ap (λ (t : List ℕ). take (length t) (text_of texts (length c.closed))) (sym newest_is);
      within = omega (arith, ap length newest_is, length-take e.bytes (text_of texts (length c.closed)));
      there = omega (arith, index, e.there);
    }

-- a group that stands there behind it
pub earlier_with : (c : Chronicle) (changes : List Change) (texts : List (List ℕ)) (at n : ℕ) → IsEarlier (texts_of c) texts → at ≡ length (groups_text 1 c.newest)
    → n ≡ 5 + length (group_text (1 + length c.newest) changes)
    → Has (text_of texts (length c.closed)) (record { at = at; length = n }) (mark open_byte ++ group_text (1 + length c.newest) changes) → IsEarlier (texts_of (with_changes c changes)) texts
earlier_with c changes texts at n e at_is n_is has =
    let f = front_of c texts e in
    let text = text_of texts (length c.closed) in
    let group = mark open_byte ++ group_text (1 + length c.newest) changes in
    let front : take at text ≡ groups_text 1 c.newest = ap (λ (k : ℕ). take k text) at_is ∙ sym f.newest in
    let longer : groups_text 1 (c.newest ++ changes ∷ []) ≡ take (at + n) text =
    groups_joined 1 c.newest (changes ∷ [])
    ∙ ap (λ (l : List ℕ). groups_text 1 c.newest ++ (mark open_byte ++ l)) (append-nil (group_text (1 + length c.newest) changes))
    ∙ ap (λ (l : List ℕ). l ++ group) (sym front)
    ∙ ap (λ (l : List ℕ). take at text ++ l) (sym has.is)
    ∙ sym (take-add at n text) in
    record {
      newest = length c.closed;
      bytes = at + n;
      there = f.there;
      is = texts_are (with_changes c changes) ∙ (λ i. f.closed i ++ longer i ∷ []);
    }

-- ---- bytes that were fetched

-- where a text is the front of another, what stands in it stands there
front_has : (text more bytes : List ℕ) (at n : ℕ) → Has text (record { at = at; length = n }) bytes → Has (text ++ more) (record { at = at; length = n }) bytes
front_has text more bytes at n has = record {
  within = (let within = has.within in omega (arith, within, length-append text more));
  is = same_at text (text ++ more) (length text) at n (take-append_seam text more ∙ sym (take_all (length text) text (omega arith))) has.within ∙ has.is;
}

-- what is kept upstream stands there also later
pub has_later : (earlier now : List (List ℕ)) (g : ℕ) (bytes : List ℕ) (at n : ℕ) → IsEarlier earlier now → Has (text_of earlier g) (record { at = at; length = n }) bytes → Has (text_of now g) (record { at = at; length = n }) bytes
has_later earlier now g bytes at n e has =
    let front = earlier_front earlier now g e in
    subst (λ (text : List ℕ). Has text (record { at = at; length = n }) bytes) (sym front.1) (front_has (text_of earlier g) front.0 bytes at n has)

-- what was fetched stands there
pub fetched_has : (earlier now : List (List ℕ)) (g at n : ℕ) (buffer : List ℕ) → IsEarlier earlier now → Answers earlier g at (Bytes n) buffer → Has (text_of now g) (record { at = at; length = n }) (take n buffer)
fetched_has earlier now g at n buffer e answers =
    has_later earlier now g (take n buffer) at n e (record { within = within_of (text_of earlier g) at n answers.0 answers.1; is = sym answers.2 })
  where
    within_of : (text : List ℕ) (at n : ℕ) → 0 < n → n ≤ length (drop at text) → at + n ≤ length text
    within_of text zero n some le = omega (arith, le)
    within_of [] (suc at) n some le = absurd (omega (arith, some, le))
    within_of (x ∷ text) (suc at) n some le = let within = within_of text at n some le in omega (arith, within)

pub piece_has : (earlier now : List (List ℕ)) (g at n : ℕ) (buffer piece : List ℕ) → IsEarlier earlier now → Answers earlier g at (Bytes n) buffer → piece ≡ take n buffer → Has (text_of now g) (record { at = at; length = length piece }) piece
piece_has earlier now g at n buffer piece e answers is =
    let size : length (take n buffer) ≡ n = ap length answers.2 ∙ length-take-le n (drop at (text_of earlier g)) answers.1 in
    subst (λ (l : List ℕ). Has (text_of now g) (record { at = at; length = length l }) l) (sym is)
    (subst (λ (k : ℕ). Has (text_of now g) (record { at = at; length = k }) (take n buffer)) (sym size) (fetched_has earlier now g at n buffer e answers))

-- two pieces, one behind the other
pub has_both : (text one two : List ℕ) (at m n : ℕ) → Has text (record { at = at; length = m }) one → Has text (record { at = at + m; length = n }) two → Has text (record { at = at; length = m + n }) (one ++ two)
has_both text one two at m n first second = record {
  within = (let within = second.within in omega (arith, within));
  is =
      take-add m n (drop at text)
      ∙ ap (λ (l : List ℕ). l ++ take n (drop m (drop at text))) first.is
      ∙ ap (λ (l : List ℕ). one ++ take n l) (drop-drop m at text)
      ∙ ap (λ (l : List ℕ). one ++ l) second.is;
}

-- and each of them
pub has_first : (text one two : List ℕ) (at n : ℕ) → Has text (record { at = at; length = n }) (one ++ two) → n ≡ length (one ++ two) → Has text (record { at = at; length = length one }) one
has_first text one two at n has long = record {
  within = (let within = has.within in omega (arith, within, long, length-append one two));
  is =
      sym (take-take (length one) n (drop at text) (omega (arith, long, length-append one two)))
      ∙ ap (take (length one)) has.is
      ∙ take-append_seam one two;
}

pub has_second : (text one two : List ℕ) (at n : ℕ) → Has text (record { at = at; length = n }) (one ++ two) → n ≡ length (one ++ two) → Has text (record { at = at + length one; length = length two }) two
has_second text one two at n has long = record {
  within = (let within = has.within in omega (arith, within, long, length-append one two));
  is =
      ap (take (length two)) (sym (drop-drop (length one) at text))
      ∙ sym (drop-take (length one) (length two) (drop at text))
      ∙ ap (λ (k : ℕ). drop (length one) (take k (drop at text))) (let all : length one + length two ≡ n = omega (arith, long, length-append one two) in all)
      ∙ ap (drop (length one)) has.is
      ∙ drop-append_seam one two;
}
