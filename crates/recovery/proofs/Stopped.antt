-- The records that were read of a group whose text can't be read on are all that stand there.
use Rattle.std.proofs.Common.{◌≡◌, ◌⊎◌, inl, inr, ℕ, ◌+◌, ◌-◌, ◌<◌, ◌≤◌, List, [], ◌∷◌, ◌++◌, length, refl, sym, ◌∙◌, ap, subst, arith, append_assoc, length-append}
use Rattle.std.proofs.lemmas.Bool.{cases_lt}
use Rattle.std.proofs.lemmas.List.{append-nil}
use Rattle.depot_rows.specs.db_records.declared.change.Change.{Change}
use Rattle.record_text.specs.Grammar.{largest_wide}
use Rattle.record_text.proofs.RecordLaws.{record_reads}
use Rattle.journal_groups.specs.Groups.{GroupBegins, IsGroup, body_of, head_of, group_text, mark, open_byte}
use Rattle.journal_groups.specs.Causes as causes
use Rattle.journal_groups.specs.Causes.{GoesOn, in_group, in_body, BeginsWanted, StopsAt}
use Rattle.journal_groups.specs.Reader.{State, AreAllRecords, BeginsAt, HasRecords}
use Rattle.recovery.specs.Pieces.{HasStopped, IsBadPlace, IsBadRecord, IsTextDamage}
use Rattle.recovery.specs.declared.pieces.FileGroups.{FileGroups}
use Rattle.recovery.proofs.FirstBad.{bad_within}
use Rattle.recovery.proofs.Reading.{stops_before, ends_short}

-- of two fronts of one text the shorter is one of the other
front_of : (xs ys a b : List ℕ) → xs ++ a ≡ ys ++ b → length xs ≤ length ys → (more : List ℕ) × (ys ≡ xs ++ more)
front_of [] ys a b is short = (ys, refl)
front_of (x ∷ xs) [] a b is short = absurd (omega (arith, short))
front_of (x ∷ xs) (y ∷ ys) a b is short =
    let later = front_of xs ys a b (tails is) (omega (arith, short)) in
    (later.0, ap (λ (l : List ℕ). y ∷ l) later.1 ∙ ap (λ (n : ℕ). n ∷ (xs ++ later.0)) (sym (heads is)))
  where
    tails : {x y : ℕ} {l m : List ℕ} → x ∷ l ≡ y ∷ m → l ≡ m
    tails e = cc

    heads : {x y : ℕ} {l m : List ℕ} → x ∷ l ≡ y ∷ m → x ≡ y
    heads e = cc

-- the text of the records with which a group begins
abbrev begun_text : ℕ → ℕ → List Change → List ℕ
begun_text number size changes = mark open_byte ++ (head_of number size ++ body_of changes)

begun_parts : (number at : ℕ) (text group : List ℕ) (changes : List Change) (end : ℕ) (b : GroupBegins number at group changes end) → text ≡ mark open_byte ++ group → text ≡ begun_text number b.size changes ++ b.rest
begun_parts number at text group changes end b opened =
    opened
    ∙ ap (λ (l : List ℕ). mark open_byte ++ l) (b.parts ∙ sym (append_assoc (head_of number b.size) (body_of changes) b.rest))
    ∙ sym (append_assoc (mark open_byte) (head_of number b.size ++ body_of changes) b.rest)

-- they are a group, or may become one
begun_goes : (number at : ℕ) (bytes : List ℕ) (changes : List Change) (end : ℕ) (b : GroupBegins number at bytes changes end) → length (body_of changes) < b.size → GoesOn number (begun_text number b.size changes)
begun_goes number at bytes changes end b open_so = in_group (head_of number b.size ++ body_of changes) refl (in_body b.size (body_of changes) b.wide refl (record {
  changes = changes;
  rest = [];
  are_records = b.are_records;
  parts = sym (append-nil (body_of changes));
  goes_on = record_reads.ends [] refl;
  within = b.within;
  unfinished = λ none. open_so;
}))

begun_whole : (number at : ℕ) (bytes : List ℕ) (changes : List Change) (end : ℕ) (b : GroupBegins number at bytes changes end) → b.size ≡ length (body_of changes) → BeginsWanted number (begun_text number b.size changes)
begun_whole number at bytes changes end b whole =
    causes.group changes [] (b.are_records, subst (λ (n : ℕ). n ≤ largest_wide) whole b.wide)
    (ap (λ (n : ℕ). begun_text number n changes) whole ∙ ap (λ (l : List ℕ). mark open_byte ++ l) (sym (append-nil (group_text number changes))))

-- so they stand before the byte from which no text goes on
begun_before : (number at : ℕ) (text group : List ℕ) (left : ℕ) (changes : List Change) (end : ℕ) (stops : StopsAt number text left) (rest : List ℕ) → text ++ rest ≡ mark open_byte ++ group → (b : GroupBegins number at group changes end)
    → length (begun_text number b.size changes) ≤ length stops.front
begun_before number at text group left changes end stops rest opened b = elim (cases_lt (length stops.front) (length (begun_text number b.size changes))) [
  | inl behind ↦
      let front = stops.front ++ stops.bad ∷ [] in
      let mine = begun_text number b.size changes in
      let parts : front ++ (stops.after ++ rest) ≡ mine ++ b.rest =
      append_assoc stops.front (stops.bad ∷ []) (stops.after ++ rest) ∙ sym (append_assoc stops.front (stops.bad ∷ stops.after) rest) ∙ ap (λ (l : List ℕ). l ++ rest) (sym stops.parts)
      ∙ begun_parts number at (text ++ rest) group changes end b opened in
      let more = front_of front mine (stops.after ++ rest) b.rest parts (omega (arith, behind, length-append stops.front (stops.bad ∷ []))) in
      let none = stops.none more.0 in
      elim (cases_lt (length (body_of changes)) b.size) [
        | inl open_so ↦ absurd (none.0 (subst (GoesOn number) more.1 (begun_goes number at group changes end b (omega (arith, open_so)))))
        | inr most ↦ absurd (none.1 (subst (BeginsWanted number) more.1 (begun_whole number at group changes end b (omega (arith, most, b.within)))))
      ]
  | inr before ↦ omega (arith, before)
]

-- what is read of a part of a text stands in all of it
begins_more : (number at : ℕ) (text rest : List ℕ) (records : List Change) (end : ℕ) → BeginsAt number at text records end → BeginsAt number at (text ++ rest) records end
begins_more number at text rest records end b = record {
  group = b.group ++ rest;
  opened = ap (λ (l : List ℕ). l ++ rest) b.opened ∙ append_assoc (mark open_byte) b.group rest;
  begins = record {
    size = b.begins.size;
    rest = b.begins.rest ++ rest;
    wide = b.begins.wide;
    are_records = b.begins.are_records;
    within = b.begins.within;
    parts = ap (λ (l : List ℕ). l ++ rest) b.begins.parts
        ∙ append_assoc (head_of number b.begins.size) (body_of records ++ b.begins.rest) rest
        ∙ ap (λ (l : List ℕ). head_of number b.begins.size ++ l) (append_assoc (body_of records) b.begins.rest rest);
    ends = omega (arith, b.begins.ends, length-append b.begins.rest rest, length-append b.group rest);
  };
}

-- with no byte behind the part from which a text goes on there are no other records
all_more : (number at : ℕ) (text rest : List ℕ) (left : ℕ) (records : List Change) → StopsAt number text left → AreAllRecords number text records → AreAllRecords number (text ++ rest) records
all_more number at text rest left records stops all = λ group changes place end opened b.
    let mine = begun_text number b.size changes in
    let before = begun_before number place text group left changes end stops rest opened b in
    let short : length mine ≤ length text = omega (arith, before, ap length stops.parts, length-append stops.front (stops.bad ∷ stops.after)) in
    let front = front_of mine text b.rest rest (sym (begun_parts number place (text ++ rest) group changes end b opened)) short in
    let inside = (head_of number b.size ++ body_of changes) ++ front.0 in
    all inside changes 0 (length (head_of number b.size ++ body_of changes)) (front.1 ∙ append_assoc (mark open_byte) (head_of number b.size ++ body_of changes) front.0) (record {
      size = b.size;
      rest = front.0;
      wide = b.wide;
      are_records = b.are_records;
      within = b.within;
      parts = append_assoc (head_of number b.size) (body_of changes) front.0;
      ends = omega (arith, length-append (head_of number b.size ++ body_of changes) front.0);
    })

pub stopped_bad : (number at : ℕ) (left rest : List ℕ) (now : State) (place : ℕ) → StopsAt number left ((at + length left) - place) → HasRecords number at left now.records now.reached → HasStopped number at (left ++ rest) now place
stopped_bad number at left rest now place stops has = (stops_before number at left rest place stops, record { there = go has.there; all = all_more number at left rest ((at + length left) - place) now.records stops has.all })
  where
    go : (now.records ≡ []) ⊎ BeginsAt number at left now.records now.reached → (now.records ≡ []) ⊎ BeginsAt number at (left ++ rest) now.records now.reached
    go (inl none) = inl none
    go (inr b) = inr (begins_more number at left rest now.records now.reached b)

pub stopped_short : (number at : ℕ) (left rest : List ℕ) (now : State) (place : ℕ) → length rest ≡ 0 → GoesOn number left → place ≡ at + length left → HasRecords number at left now.records now.reached → HasStopped number at (left ++ rest) now place
stopped_short number at left [] now place none goes is has = (ends_short number at left [] place none goes is, subst (λ (l : List ℕ). HasRecords number at l now.records now.reached) (sym (append-nil left)) has)
stopped_short number at left (byte ∷ rest) now place none goes is has = absurd (omega (arith, none))

-- the same, said of the text as it was before more of it was read
pub stopped_before : (number same_number at same_at : ℕ) (text same_text : List ℕ) (now : State) (place : ℕ) → same_number ≡ number → same_at ≡ at → same_text ≡ text → HasStopped same_number same_at same_text now place → HasStopped number at text now place
stopped_before number same_number at same_at text same_text now place numbers places texts is =
    subst (λ (n : ℕ). HasStopped n at text now place) numbers (subst (λ (n : ℕ). HasStopped same_number n text now place) places (subst (λ (l : List ℕ). HasStopped same_number same_at l now place) texts is))

-- ---- what is told

-- a group begins with all of its records
pub group_begins : (number at end : ℕ) (text rest : List ℕ) (changes : List Change) → IsGroup changes → text ≡ mark open_byte ++ (group_text number changes ++ rest) → end ≡ at + (5 + length (group_text number changes)) → BeginsAt number at text changes end
group_begins number at end text rest changes is_group is ends = record {
  group = group_text number changes ++ rest;
  opened = is;
  begins = record {
    size = length (body_of changes);
    rest = rest;
    wide = is_group.1;
    are_records = is_group.0;
    within = omega arith;
    parts = append_assoc (head_of number (length (body_of changes))) (body_of changes) rest;
    ends = omega (arith, ends, length-append (group_text number changes) rest);
  };
}

-- the place of the first bad record of those with which a group begins
pub bad_record : (good : List Change → Type 0) (number at : ℕ) (text : List ℕ) (groups : FileGroups) (changes : List Change) (place : ℕ) → BeginsAt number at text changes groups.reader.reached → IsBadPlace good groups changes place
    → (found : ℕ) × ((place ≡ found - groups.front) × IsBadRecord good (BeginsAt number at text) found)
bad_record good number at text groups changes place there bad =
    let left = bad.0 in
    let b = there.begins in
    let within : left ≤ groups.reader.reached = omega (arith, bad_within good changes left bad.1.1, b.ends, ap length b.parts, length-append (head_of number b.size) (body_of changes ++ b.rest), length-append (body_of changes) b.rest) in
    (groups.reader.reached - left, (bad.1.0, record { changes = changes; end = groups.reader.reached; there = there; left = left; bad = bad.1.1; place_is = omega (arith, within) }))

-- that of the records before the place from which the text can't be read on
pub stopped_record : (good : List Change → Type 0) (number at : ℕ) (text : List ℕ) (groups : FileGroups) (stop place : ℕ) → HasStopped number at text groups.reader stop → IsBadPlace good groups groups.reader.records place
    → (found : ℕ) × ((place ≡ found - groups.front) × IsTextDamage good number at text found)
stopped_record good number at text groups stop place stopped bad = go stopped.1.there
  where
    never : (front after : List Change) (change : Change) → [] ≡ front ++ change ∷ after → ⊥
    never [] after change e = cc
    never (c ∷ front) after change e = cc

    go : (groups.reader.records ≡ []) ⊎ BeginsAt number at text groups.reader.records groups.reader.reached → (found : ℕ) × ((place ≡ found - groups.front) × IsTextDamage good number at text found)
    go (inl none) = absurd (never bad.1.1.front bad.1.1.after bad.1.1.bad (sym none ∙ bad.1.1.parts))
    go (inr there) = let told = bad_record good number at text groups groups.reader.records place there bad in (told.0, (told.1.0, inl told.1.1))

-- where these are good the text itself is at fault
pub stopped_text : (good : List Change → Type 0) (number at : ℕ) (text : List ℕ) (now : State) (stop : ℕ) → ((front behind : List Change) → good (front ++ behind) → good front) → HasStopped number at text now stop → good now.records → IsTextDamage good number at text stop
stopped_text good number at text now stop fronts stopped are =
    inr (λ changes end there. (let all = stopped.1.all there.group changes (at + 5) end there.opened there.begins in fronts changes all.0 (subst good all.1 are)), stopped.0)
