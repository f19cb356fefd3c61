-- Why a group, and what a call wants, isn't there.
use Rattle.std.proofs.Common.{◌≡◌, ℕ, suc, ◌<◌, ◌^◌, Bool, true, false, eqb, List, [], ◌∷◌, ◌++◌, length, Option, Some, None, refl, sym, ap, subst, ◌∙◌, append_assoc}
use Rattle.std.proofs.lemmas.Bool.{eqb-true}
use Rattle.db_records.specs.declared.change.Change.{Change}
use Rattle.record_text.specs.declared.fault.Part.{Part}
use Rattle.record_text.specs.Reading.{Reading, Done, Ends, Wrong, and_then}
use Rattle.journal_groups.specs.Groups.{head_of, mark, open_byte}
use Rattle.journal_groups.specs.Reading.{head_at, body_at, group_at, mark_at, behind_mark, next_at}
use Rattle.journal_groups.specs.Causes.{GroupGoesOn, in_head, in_body, GoesOn, in_mark, in_group, BeginsWanted, closed, group, StopsAt, GroupStopsAt}
use Rattle.journal_groups.proofs.Texts.{head_again, head_done, group_again, mark_again, mark_done, next_group, next_ends}
use Rattle.journal_groups.proofs.Chained.{head_reads, marked_at, marked_reads, opened, mark_is}
use Rattle.journal_groups.proofs.Halts.{IsWrong, begins_ends, none_wrong, wrong_then, second, first_ends, first_wrong, way_of, no_done_ends, no_done_wrong, no_ends_wrong, body_ends, body_goes, body_halts}

wrong_ends : {A : Type 0} (part : Part) (left : ℕ) → (let r : Reading A = Wrong part left in r) ≡ Ends → ⊥
wrong_ends part left e = cc

wrong_left : {A : Type 0} (part q : Part) (left m : ℕ) → (let r : Reading A = Wrong part left in r) ≡ Wrong q m → left ≡ m
wrong_left part q left m e = cc

not_ends : {A : Type 0} (r : Reading A) → IsWrong r → r ≡ Ends → ⊥
not_ends r w e = wrong_ends w.0 w.1.0 (sym w.1.1 ∙ e)

not_done : {A : Type 0} (r : Reading A) (a : A) (rest : List ℕ) → IsWrong r → r ≡ Done a rest → ⊥
not_done r a rest w e = no_done_wrong a rest w.0 w.1.0 (sym e ∙ w.1.1)

-- ---- a group

pub group_ends : (number : ℕ) (bytes : List ℕ) → number < 2 ^ 64 → group_at number bytes ≡ Ends → GroupGoesOn number bytes
group_ends number bytes small e =
    elim (way_of (head_at number bytes) body_at Ends e) [
      | second size rest f g ↦ (let h = head_done number bytes size rest f in in_body size rest h.0 h.1 (body_ends size rest g))
      | first_ends f same ↦ in_head ((head_reads number small).ends bytes f)
      | first_wrong part left f same ↦ absurd (wrong_ends part left same)
    ]

pub group_goes : (number : ℕ) (bytes : List ℕ) → number < 2 ^ 64 → GroupGoesOn number bytes → group_at number bytes ≡ Ends
group_goes number bytes small (in_head b) = ap (λ r. and_then r body_at) (begins_ends (head_at number) _ _ (head_reads number small) bytes b)
group_goes number bytes small (in_body size body le parts g) = ap (group_at number) parts ∙ ap (λ r. and_then r body_at) (head_again number size body le) ∙ body_goes size body g

record GroupHalts (number : ℕ) (bytes : List ℕ) (left : ℕ) : Type 0 where
  front : List ℕ
  bad : ℕ
  after : List ℕ
  parts : bytes ≡ front ++ bad ∷ after
  place : left ≡ suc (length after)
  goes : GroupGoesOn number front
  wrong : (more : List ℕ) → IsWrong (group_at number ((front ++ bad ∷ []) ++ more))

moved_front : (text front more : List ℕ) (bad : ℕ) → ((text ++ front) ++ bad ∷ []) ++ more ≡ text ++ ((front ++ bad ∷ []) ++ more)
moved_front text front more bad = ap (λ (t : List ℕ). t ++ more) (append_assoc text front (bad ∷ [])) ∙ append_assoc text (front ++ bad ∷ []) more

group_halts : (number : ℕ) (bytes : List ℕ) (part : Part) (left : ℕ) → number < 2 ^ 64 → group_at number bytes ≡ Wrong part left → GroupHalts number bytes left
group_halts number bytes part left small e =
    elim (way_of (head_at number bytes) body_at (Wrong part left) e) [
      | second size rest f g ↦
          let h = head_done number bytes size rest f in
          let b = body_halts size rest part left g in
          let text = head_of number size in
          record {
            front = text ++ b.front;
            bad = b.bad;
            after = b.after;
            parts = h.1 ∙ ap (λ (t : List ℕ). text ++ t) b.parts ∙ sym (append_assoc text b.front (b.bad ∷ b.after));
            place = b.place;
            goes = in_body size b.front h.0 refl b.goes;
            wrong = λ more.
                subst IsWrong (sym (ap (group_at number) (moved_front text b.front more b.bad) ∙ ap (λ r. and_then r body_at) (head_again number size ((b.front ++ b.bad ∷ []) ++ more) h.0))) (b.wrong more);
          }
      | first_ends f same ↦ absurd (no_ends_wrong part left same)
      | first_wrong q m f same ↦
          let s = (head_reads number small).wrong bytes q m f in
          record {
            front = s.front;
            bad = s.bad;
            after = s.after;
            parts = s.parts;
            place = sym (wrong_left q part m left same) ∙ s.place;
            goes = in_head s.begins;
            wrong = λ more. wrong_then (head_at number ((s.front ++ s.bad ∷ []) ++ more)) body_at (none_wrong (head_at number) _ _ (head_reads number small) (s.front ++ s.bad ∷ []) more s.none);
          }
    ]

pub group_stops : (number : ℕ) (bytes : List ℕ) (part : Part) (left : ℕ) → number < 2 ^ 64 → group_at number bytes ≡ Wrong part left → GroupStopsAt number bytes left
group_stops number bytes part left small e =
    let h = group_halts number bytes part left small e in
    record {
      front = h.front;
      bad = h.bad;
      after = h.after;
      parts = h.parts;
      place = h.place;
      goes_on = h.goes;
      none = λ more.
          let all = (h.front ++ h.bad ∷ []) ++ more in (
            λ g. not_ends (group_at number all) (h.wrong more) (group_goes number all small g),
            λ changes rest is same. not_done (group_at number all) changes rest (h.wrong more) (ap (group_at number) same ∙ group_again number changes rest is),
          );
    }

-- ---- what a call wants

opened_ends : (r : Reading ℕ) → opened r ≡ Ends → r ≡ Ends
opened_ends (Done byte rest) e = absurd (no_done_ends (eqb byte open_byte) rest e)
opened_ends Ends e = refl
opened_ends (Wrong part left) e = absurd (wrong_ends part left e)

opened_wrong : (r : Reading ℕ) (part : Part) (left : ℕ) → opened r ≡ Wrong part left → r ≡ Wrong part left
opened_wrong (Done byte rest) part left e = absurd (no_done_wrong (eqb byte open_byte) rest part left e)
opened_wrong Ends part left e = absurd (no_ends_wrong part left e)
opened_wrong (Wrong q m) part left e =
    let p : q ≡ part = cc in
    let n : m ≡ left = cc in
    ap (λ (x : Part). Wrong x m) p ∙ ap (λ (x : ℕ). Wrong part x) n

abbrev some : Reading (List Change) → Reading (Option (List Change))
some r = and_then r (λ changes after. Done (Some changes) after)

some_ends : (r : Reading (List Change)) → some r ≡ Ends → r ≡ Ends
some_ends (Done changes rest) e = absurd (no_done_ends (Some changes) rest e)
some_ends Ends e = refl
some_ends (Wrong part left) e = absurd (wrong_ends part left e)

some_wrong : (r : Reading (List Change)) (part : Part) (left : ℕ) → some r ≡ Wrong part left → r ≡ Wrong part left
some_wrong (Done changes rest) part left e = absurd (no_done_wrong (Some changes) rest part left e)
some_wrong Ends part left e = absurd (no_ends_wrong part left e)
some_wrong (Wrong q m) part left e =
    let p : q ≡ part = cc in
    let n : m ≡ left = cc in
    ap (λ (x : Part). Wrong x m) p ∙ ap (λ (x : ℕ). Wrong part x) n

behind_ends : (number : ℕ) (o : Bool) (rest : List ℕ) → behind_mark number o rest ≡ Ends → (o ≡ true) × (group_at number rest ≡ Ends)
behind_ends number true rest e = (refl, some_ends (group_at number rest) e)
behind_ends number false rest e = absurd (no_done_ends None rest e)

behind_wrong : (number : ℕ) (o : Bool) (rest : List ℕ) (part : Part) (left : ℕ) → behind_mark number o rest ≡ Wrong part left → (o ≡ true) × (group_at number rest ≡ Wrong part left)
behind_wrong number true rest part left e = (refl, some_wrong (group_at number rest) part left e)
behind_wrong number false rest part left e = absurd (no_done_wrong None rest part left e)

-- an open mark at the front
pub opened_parts : (bytes rest : List ℕ) (o : Bool) → mark_at bytes ≡ Done o rest → o ≡ true → bytes ≡ mark open_byte ++ rest
opened_parts bytes rest o e is =
    let m = mark_done bytes o rest e in
    m.1.1 ∙ ap (λ (n : ℕ). mark n ++ rest) (eqb-true m.0 open_byte (m.1.0 ∙ is))

pub next_goes_on : (number : ℕ) (bytes : List ℕ) → number < 2 ^ 64 → next_at number bytes ≡ Ends → GoesOn number bytes
next_goes_on number bytes small e =
    elim (way_of (mark_at bytes) (behind_mark number) Ends e) [
      | second o rest f g ↦ (let b = behind_ends number o rest g in in_group rest (opened_parts bytes rest o f b.0) (group_ends number rest small b.1))
      | first_ends f same ↦ in_mark (marked_reads.ends bytes (opened_ends (marked_at bytes) (sym (mark_is bytes) ∙ f)))
      | first_wrong part left f same ↦ absurd (wrong_ends part left same)
    ]

opened_group : (number : ℕ) (rest : List ℕ) → next_at number (mark open_byte ++ rest) ≡ some (group_at number rest)
opened_group number rest = ap (λ r. and_then r (behind_mark number)) (mark_again open_byte rest)

pub goes_next : (number : ℕ) (bytes : List ℕ) → number < 2 ^ 64 → GoesOn number bytes → next_at number bytes ≡ Ends
goes_next number bytes small (in_mark b) = ap (λ r. and_then r (behind_mark number)) (mark_is bytes ∙ ap opened (begins_ends marked_at _ _ marked_reads bytes b))
goes_next number bytes small (in_group rest parts g) = ap (next_at number) parts ∙ opened_group number rest ∙ ap some (group_goes number rest small g)

-- what is wanted is read
wanted_done : (number : ℕ) (bytes : List ℕ) → BeginsWanted number bytes → IsWrong (next_at number bytes) → ⊥
wanted_done number bytes (closed byte rest apart parts) w = not_done (next_at number bytes) None rest w (ap (next_at number) parts ∙ next_ends number byte rest apart)
wanted_done number bytes (group changes rest is parts) w = not_done (next_at number bytes) (Some changes) rest w (ap (next_at number) parts ∙ next_group number changes rest is)

record NextHalts (number : ℕ) (bytes : List ℕ) (left : ℕ) : Type 0 where
  front : List ℕ
  bad : ℕ
  after : List ℕ
  parts : bytes ≡ front ++ bad ∷ after
  place : left ≡ suc (length after)
  goes : GoesOn number front
  wrong : (more : List ℕ) → IsWrong (next_at number ((front ++ bad ∷ []) ++ more))

next_halts : (number : ℕ) (bytes : List ℕ) (part : Part) (left : ℕ) → number < 2 ^ 64 → next_at number bytes ≡ Wrong part left → NextHalts number bytes left
next_halts number bytes part left small e =
    elim (way_of (mark_at bytes) (behind_mark number) (Wrong part left) e) [
      | second o rest f g ↦
          let b = behind_wrong number o rest part left g in
          let h = group_halts number rest part left small b.1 in
          let text = mark open_byte in
          record {
            front = text ++ h.front;
            bad = h.bad;
            after = h.after;
            parts = opened_parts bytes rest o f b.0 ∙ ap (λ (t : List ℕ). text ++ t) h.parts ∙ sym (append_assoc text h.front (h.bad ∷ h.after));
            place = h.place;
            goes = in_group h.front refl h.goes;
            wrong = λ more.
                subst IsWrong (sym (ap (next_at number) (moved_front text h.front more h.bad) ∙ opened_group number ((h.front ++ h.bad ∷ []) ++ more)))
                (wrong_then (group_at number ((h.front ++ h.bad ∷ []) ++ more)) (λ changes after. Done (Some changes) after) (h.wrong more));
          }
      | first_ends f same ↦ absurd (no_ends_wrong part left same)
      | first_wrong q m f same ↦
          let s = marked_reads.wrong bytes q m (opened_wrong (marked_at bytes) q m (sym (mark_is bytes) ∙ f)) in
          record {
            front = s.front;
            bad = s.bad;
            after = s.after;
            parts = s.parts;
            place = sym (wrong_left q part m left same) ∙ s.place;
            goes = in_mark s.begins;
            wrong = λ more.
                let all = (s.front ++ s.bad ∷ []) ++ more in
                subst IsWrong (sym (ap (λ r. and_then r (behind_mark number)) (mark_is all)))
                (wrong_then (opened (marked_at all)) (behind_mark number) (wrong_then (marked_at all) (λ byte rest. Done (eqb byte open_byte) rest) (none_wrong marked_at _ _ marked_reads (s.front ++ s.bad ∷ []) more s.none)));
          }
    ]

pub next_stops : (number : ℕ) (bytes : List ℕ) (part : Part) (left : ℕ) → number < 2 ^ 64 → next_at number bytes ≡ Wrong part left → StopsAt number bytes left
next_stops number bytes part left small e =
    let h = next_halts number bytes part left small e in
    record {
      front = h.front;
      bad = h.bad;
      after = h.after;
      parts = h.parts;
      place = h.place;
      goes_on = h.goes;
      none = λ more.
          let all = (h.front ++ h.bad ∷ []) ++ more in
          (λ g. not_ends (next_at number all) (h.wrong more) (goes_next number all small g), λ w. wanted_done number all w (h.wrong more));
    }
