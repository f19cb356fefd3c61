-- A text that is damaged is so at one place, and not where it goes on with a good group or ends.
use Rattle.std.proofs.Common.{◌≡◌, ◌≢◌, ◌⊎◌, ◌<◌, ◌+◌, ◌-◌, ◌^◌, ℕ, suc, List, ◌++◌, length, inl, inr, sym, ap, subst, ◌∙◌, arith}
use Rattle.depot_rows.specs.db_records.declared.change.Change.{Change}
use Rattle.record_text.specs.Reading.{Reading, Done, Ends}
use Rattle.journal_groups.specs.Groups.{GroupBegins, IsGroup, group_text, mark, open_byte}
use Rattle.journal_groups.specs.Causes.{GoesOn, GroupGoesOn, StopsAt, GroupStopsAt, closed as closed_mark, group as open_group}
use Rattle.journal_groups.specs.Reader.{BeginsAt}
use Rattle.journal_groups.specs.Reading.{group_at}
use Rattle.journal_groups.proofs.Causes.{group_goes}
use Rattle.journal_groups.proofs.Texts.{group_again}
use Rattle.recovery.specs.Damage.{IsCheckpointDamage}
use Rattle.recovery.specs.Holding.{ArePuts}
use Rattle.recovery.specs.Pieces.{IsBadRecord, AreAllGood, IsTextDamage, IsUnreadable}
use Rattle.recovery.proofs.Groups.{unreadable_never}
use Rattle.recovery.proofs.OnePut.{puts_first}
use Rattle.damage_places.proofs.Fronts.{stop_once, one_more}
use Rattle.damage_places.proofs.Records.{bad_once, bad_or_good, whole_never}

-- ---- bytes from which no text goes on

stops_once : (number : ℕ) (text : List ℕ) (left other : ℕ) → StopsAt number text left → StopsAt number text other → left ≡ other
stops_once number text left other a b =
    a.place ∙ ap suc (stop_once (GoesOn number) a.front a.bad a.after b.front b.bad b.after (sym a.parts ∙ b.parts) a.goes_on b.goes_on
    (λ more. (a.none more).0) (λ more. (b.none more).0)) ∙ sym b.place

stops_or_goes : (number : ℕ) (text : List ℕ) (left : ℕ) → StopsAt number text left → GoesOn number text → ⊥
stops_or_goes number text left stops goes = (stops.none stops.after).0 (subst (GoesOn number) (stops.parts ∙ sym (one_more stops.front stops.bad stops.after)) goes)

unreadable_once : (number at : ℕ) (text : List ℕ) (place other : ℕ) → IsUnreadable number at text place → IsUnreadable number at text other → place ≡ other
unreadable_once number at text place other (inl a) (inl b) =
    let same = stops_once number text ((at + length text) - place) ((at + length text) - other) a b in
    omega (arith, same, a.place, b.place)
unreadable_once number at text place other (inl a) (inr b) = absurd (stops_or_goes number text ((at + length text) - place) a b.0)
unreadable_once number at text place other (inr a) (inl b) = absurd (stops_or_goes number text ((at + length text) - other) b a.0)
unreadable_once number at text place other (inr a) (inr b) = a.1 ∙ sym b.1

group_stops_once : (number : ℕ) (text : List ℕ) (left other : ℕ) → GroupStopsAt number text left → GroupStopsAt number text other → left ≡ other
group_stops_once number text left other a b =
    a.place ∙ ap suc (stop_once (GroupGoesOn number) a.front a.bad a.after b.front b.bad b.after (sym a.parts ∙ b.parts) a.goes_on b.goes_on
    (λ more. (a.none more).0) (λ more. (b.none more).0)) ∙ sym b.place

group_stops_or_goes : (number : ℕ) (text : List ℕ) (left : ℕ) → GroupStopsAt number text left → GroupGoesOn number text → ⊥
group_stops_or_goes number text left stops goes =
    (stops.none stops.after).0 (subst (GroupGoesOn number) (stops.parts ∙ sym (one_more stops.front stops.bad stops.after)) goes)

-- ---- a checkpoint

checkpoint_unreadable : (generation : ℕ) (file : List ℕ) (place other : ℕ)
    → GroupStopsAt generation file (length file - place) ⊎ (GroupGoesOn generation file × (place ≡ length file))
    → GroupStopsAt generation file (length file - other) ⊎ (GroupGoesOn generation file × (other ≡ length file)) → place ≡ other
checkpoint_unreadable generation file place other (inl a) (inl b) =
    let same = group_stops_once generation file (length file - place) (length file - other) a b in
    omega (arith, same, a.place, b.place)
checkpoint_unreadable generation file place other (inl a) (inr b) = absurd (group_stops_or_goes generation file (length file - place) a b.0)
checkpoint_unreadable generation file place other (inr a) (inl b) = absurd (group_stops_or_goes generation file (length file - other) b a.0)
checkpoint_unreadable generation file place other (inr a) (inr b) = a.1 ∙ sym b.1

pub checkpoint_once : (generation : ℕ) (file : List ℕ) (place other : ℕ) → IsCheckpointDamage generation file place → IsCheckpointDamage generation file other → place ≡ other
checkpoint_once generation file place other (inl a) (inl b) = bad_once ArePuts puts_first generation 0 file place other a b
checkpoint_once generation file place other (inl a) (inr b) = absurd (bad_or_good ArePuts puts_first generation 0 file place a b.0)
checkpoint_once generation file place other (inr a) (inl b) = absurd (bad_or_good ArePuts puts_first generation 0 file other b a.0)
checkpoint_once generation file place other (inr a) (inr b) = checkpoint_unreadable generation file place other a.1 b.1

ends_or_done : {A : Type 0} (r : Reading A) (x : A) (rest : List ℕ) → r ≡ Ends → r ≡ Done x rest → ⊥
ends_or_done r x rest e f = let g : Ends ≡ Done x rest = sym e ∙ f in cc

-- it isn't damaged where its puts stand
pub checkpoint_never : (generation : ℕ) (file : List ℕ) (place : ℕ) (puts : List Change) (rest : List ℕ) → generation < 2 ^ 64 → ArePuts puts → IsGroup puts
    → file ≡ group_text generation puts ++ rest → IsCheckpointDamage generation file place → ⊥
checkpoint_never generation file place puts rest small are is e (inl bad) =
    whole_never ArePuts puts_first generation 0 puts rest is are place (subst (λ (text : List ℕ). IsBadRecord ArePuts (GroupBegins generation 0 text) place) e bad)
checkpoint_never generation file place puts rest small are is e (inr (good, inl stops)) =
    (stops.none stops.after).1 puts rest is (one_more stops.front stops.bad stops.after ∙ sym stops.parts ∙ e)
checkpoint_never generation file place puts rest small are is e (inr (good, inr goes)) =
    ends_or_done (group_at generation file) puts rest (group_goes generation file small goes.0) (ap (group_at generation) e ∙ group_again generation puts rest is)

-- ---- a text behind groups

behind_mark : {xs ys : List ℕ} → mark open_byte ++ xs ≡ mark open_byte ++ ys → xs ≡ ys
behind_mark e = cc

module _ (good : List Change → Type 0) (closed : (front behind : List Change) → good (front ++ behind) → good front) (number at : ℕ) where
  -- a bad record is one of the group behind the mark
  bad_behind : (text group : List ℕ) (place : ℕ) → text ≡ mark open_byte ++ group → IsBadRecord good (BeginsAt number at text) place
      → IsBadRecord good (GroupBegins number (at + 5) group) place
  bad_behind text group place e bad =
      let same : bad.there.group ≡ group = behind_mark (sym bad.there.opened ∙ e) in
      record {
        changes = bad.changes;
        end = bad.end;
        there = subst (λ (g : List ℕ). GroupBegins number (at + 5) g bad.changes bad.end) same bad.there.begins;
        left = bad.left;
        bad = bad.bad;
        place_is = bad.place_is;
      }

  all_behind : (text group : List ℕ) → text ≡ mark open_byte ++ group → AreAllGood good (BeginsAt number at text) → AreAllGood good (GroupBegins number (at + 5) group)
  all_behind text group e all = λ changes end begins. all changes end (record { group = group; opened = e; begins = begins })

  bad_and_all : (text : List ℕ) (place : ℕ) → IsBadRecord good (BeginsAt number at text) place → AreAllGood good (BeginsAt number at text) → ⊥
  bad_and_all text place bad all =
      let group = bad.there.group in
      bad_or_good good closed number (at + 5) group place (bad_behind text group place bad.there.opened bad) (all_behind text group bad.there.opened all)

  pub text_once : (text : List ℕ) (place other : ℕ) → IsTextDamage good number at text place → IsTextDamage good number at text other → place ≡ other
  text_once text place other (inl a) (inl b) =
      let group = a.there.group in
      bad_once good closed number (at + 5) group place other (bad_behind text group place a.there.opened a) (bad_behind text group other a.there.opened b)
  text_once text place other (inl a) (inr b) = absurd (bad_and_all text place a b.0)
  text_once text place other (inr a) (inl b) = absurd (bad_and_all text other b a.0)
  text_once text place other (inr a) (inr b) = unreadable_once number at text place other a.1 b.1

  -- it isn't damaged where a good group stands
  pub group_never : (text rest : List ℕ) (changes : List Change) (place : ℕ) → number < 2 ^ 64 → IsGroup changes → good changes
      → text ≡ mark open_byte ++ (group_text number changes ++ rest) → IsTextDamage good number at text place → ⊥
  group_never text rest changes place small is are e (inl bad) =
      whole_never good closed number (at + 5) changes rest is are place (bad_behind text (group_text number changes ++ rest) place e bad)
  group_never text rest changes place small is are e (inr stops) = unreadable_never number at text place small stops.1 (open_group changes rest is e)

  -- nor where it ends
  pub end_never : (text rest : List ℕ) (byte place : ℕ) → number < 2 ^ 64 → byte ≢ open_byte → text ≡ mark byte ++ rest → IsTextDamage good number at text place → ⊥
  end_never text rest byte place small shut e (inl bad) = shut (other (sym e ∙ bad.there.opened))
    where
      other : {b c : ℕ} {xs ys : List ℕ} → mark b ++ xs ≡ mark c ++ ys → b ≡ c
      other e = cc
  end_never text rest byte place small shut e (inr stops) = unreadable_never number at text place small stops.1 (closed_mark byte rest shut e)
