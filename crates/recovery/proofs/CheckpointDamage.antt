-- Where a checkpoint is damaged, whose records are taken one after another.
use Rattle.std.proofs.Common.{◌≡◌, ◌⊎◌, inl, inr, ℕ, ◌+◌, ◌-◌, ◌<◌, ◌≤◌, ◌^◌, List, [], ◌∷◌, ◌++◌, length, refl, sym, ap, subst, ◌∙◌, arith, append_assoc, append-nil, length-append}
use Rattle.depot_rows.specs.db_records.declared.change.Change.{Change}
use Rattle.record_text.specs.declared.fault.Part.{Part}
use Rattle.record_text.specs.declared.fault.RecordFault.TheVariants as records
use Rattle.record_text.specs.Reading.{Reading, Done, Ends, Wrong, and_then}
use Rattle.record_text.specs.Grammar.{IsRecord, largest_wide}
use Rattle.journal_groups.specs.declared.fault.GroupFault.TheVariants.{BadGroup, Short}
use Rattle.journal_groups.specs.Groups.{AreRecords, GroupBegins, body_of, change_text, group_text, head_of}
use Rattle.journal_groups.specs.Causes.{GroupStopsAt}
use Rattle.journal_groups.specs.Reading.{FailsAt, body_at, group_at, head_at, window_at}
use Rattle.journal_groups.proofs.Bodies.{fails_body, window_done, with_front}
use Rattle.journal_groups.proofs.Causes.{group_ends, group_goes, group_stops}
use Rattle.journal_groups.proofs.Chained.{head_reads}
use Rattle.journal_groups.proofs.Halts.{no_done_ends, window_never}
use Rattle.journal_groups.proofs.Records.{NoRecord, same_first}
use Rattle.journal_groups.proofs.Texts.{body_cons, body_joined, body_many, group_again, head_again}
use Rattle.journal_groups.proofs.Whole.{records_joined}
use Rattle.recovery.specs.Damage.{IsCheckpointDamage}
use Rattle.recovery.specs.Holding.{ArePuts}
use Rattle.recovery.specs.Pieces.{AreAllGood, IsStop}
use Rattle.recovery.specs.Reading.{IsCheckpoint}
use Rattle.recovery.proofs.OnePut.{puts_first}

no_bytes : (l : List ℕ) → length l ≡ 0 → l ≡ []
no_bytes [] none = refl
no_bytes (x ∷ l) none = absurd (omega (arith, none))

-- all of a text was read
all_of : (text left rest : List ℕ) → text ≡ left ++ rest → length rest ≡ 0 → left ≡ text
all_of text left rest parts none = sym (parts ∙ ap (λ (l : List ℕ). left ++ l) (no_bytes rest none) ∙ append-nil left)

-- a byte with which a group can't go on is one whatever follows
stops_more : (number : ℕ) (bytes rest : List ℕ) (left : ℕ) → GroupStopsAt number bytes left → GroupStopsAt number (bytes ++ rest) (left + length rest)
stops_more number bytes rest left s = record {
  front = s.front;
  bad = s.bad;
  after = s.after ++ rest;
  parts = ap (λ (l : List ℕ). l ++ rest) s.parts ∙ append_assoc s.front (s.bad ∷ s.after) rest;
  place = omega (arith, s.place, length-append s.after rest);
  goes_on = s.goes_on;
  none = s.none;
}

-- ---- the text of one record more

long_one : (change : Change) → length (body_of (change ∷ [])) ≡ length (change_text change)
long_one change = ap length (append-nil (change_text change))

pub long_more : (puts : List Change) (change : Change) → length (body_of (puts ++ change ∷ [])) ≡ length (body_of puts) + length (change_text change)
long_more puts change = omega (arith, ap length (body_joined puts (change ∷ [])), length-append (body_of puts) (body_of (change ∷ [])), long_one change)

pub text_more : (puts : List Change) (change : Change) (rest : List ℕ) → body_of puts ++ (change_text change ++ rest) ≡ body_of (puts ++ change ∷ []) ++ rest
text_more puts change rest =
    ap (λ (t : List ℕ). body_of puts ++ t) (sym (body_cons change [] rest)) ∙ sym (append_assoc (body_of puts) (body_of (change ∷ [])) rest) ∙ ap (λ (t : List ℕ). t ++ rest) (sym (body_joined puts (change ∷ [])))

-- ---- a head that can't be read

module _ (number : ℕ) (small : number < 2 ^ 64) where
  no_head : (left rest : List ℕ) (part : Part) (l : ℕ) → head_at number left ≡ Wrong part l → AreAllGood ArePuts (GroupBegins number 0 (left ++ rest))
  no_head left rest part l wrong = λ changes end b.
      let s = (head_reads number small).wrong left part l wrong in
      absurd (s.none b.size (s.after ++ rest) (body_of changes ++ b.rest) b.wide
      (append_assoc s.front (s.bad ∷ []) (s.after ++ rest) ∙ sym (append_assoc s.front (s.bad ∷ s.after) rest) ∙ ap (λ (t : List ℕ). t ++ rest) (sym s.parts) ∙ b.parts))

  short_head : (file : List ℕ) → head_at number file ≡ Ends → AreAllGood ArePuts (GroupBegins number 0 file)
  short_head file ends = λ changes end b.
      absurd (no_done_ends b.size (body_of changes ++ b.rest) (sym (ap (head_at number) b.parts ∙ head_again number b.size (body_of changes ++ b.rest) b.wide) ∙ ends))

  pub head_damage : (at place : ℕ) (file : List ℕ) → at ≡ 0 → IsStop at file (head_at number) place → IsCheckpointDamage number file place
  head_damage at place file begin stop = go stop.stops
    where
      go : FailsAt at stop.left (BadGroup place) (head_at number stop.left) ⊎ (FailsAt at stop.left (Short place) (head_at number stop.left) × (length stop.rest ≡ 0)) → IsCheckpointDamage number file place
      go (inl (part, (l, (wrong, is)))) =
          let stopped = stops_more number stop.left stop.rest l (group_stops number stop.left part l small (ap (λ r. and_then r body_at) wrong)) in
          let n : l + length stop.rest ≡ length (stop.left ++ stop.rest) - place = omega (arith, is, begin, length-append stop.left stop.rest) in
          subst (λ (f : List ℕ). IsCheckpointDamage number f place) (sym stop.parts) (inr (no_head stop.left stop.rest part l wrong, inl (subst (GroupStopsAt number (stop.left ++ stop.rest)) n stopped)))
      go (inr ((ends, is), none)) =
          let all = all_of file stop.left stop.rest stop.parts none in
          let whole : head_at number file ≡ Ends = ap (head_at number) (sym all) ∙ ends in
          inr (short_head file whole, inr (group_ends number file small (ap (λ r. and_then r body_at) whole), omega (arith, is, begin, ap length all)))

-- ---- a group whose head and first records were taken

abbrev begun : ℕ → ℕ → List Change → List ℕ → List ℕ
begun number size puts text = head_of number size ++ (body_of puts ++ text)

begun_long : (number size : ℕ) (puts : List Change) (text : List ℕ) → length (begun number size puts text) ≡ length (head_of number size) + (length (body_of puts) + length text)
begun_long number size puts text = omega (arith, length-append (head_of number size) (body_of puts ++ text), length-append (body_of puts) text)

-- with no record behind the first ones all records are among them
all_good : (number size left : ℕ) (puts : List Change) (text : List ℕ) → size ≤ largest_wide → AreRecords puts → size ≡ length (body_of puts) + left → NoRecord left text → ArePuts puts → AreAllGood ArePuts (GroupBegins number 0 (begun number size puts text))
all_good number size left puts text wide are sizes none good = λ changes end b.
    let one = head_again number size (body_of puts ++ text) wide in
    let two = ap (head_at number) b.parts ∙ head_again number b.size (body_of changes ++ b.rest) b.wide in
    let same = done_is size b.size (body_of puts ++ text) (body_of changes ++ b.rest) (sym one ∙ two) in
    let front = same_first puts changes size left text b.rest are b.are_records sizes (omega (arith, b.within, same.0)) same.1 none in
    puts_first changes front.0 (subst ArePuts front.1 good)
  where
    done_is : (a b : ℕ) (r s : List ℕ) → (let x : Reading ℕ = Done a r in x) ≡ Done b s → (a ≡ b) × (r ≡ s)
    done_is a b r s e = (cc, cc)

module _ (number size left : ℕ) (puts : List Change) (small : number < 2 ^ 64) (wide : size ≤ largest_wide) (are : AreRecords puts) (sizes : size ≡ length (body_of puts) + left) (good : ArePuts puts) where
  begun_read : (text : List ℕ) → group_at number (begun number size puts text) ≡ with_front puts (body_at left text)
  begun_read text = ap (λ r. and_then r body_at) (head_again number size (body_of puts ++ text) wide) ∙ body_many puts size left text are sizes

  wrong_record : (text rest : List ℕ) (place l : ℕ) (part : Part) → 0 < left → window_at left text ≡ Wrong part l → place + l ≡ length (head_of number size) + length (body_of puts) + length text → IsCheckpointDamage number (begun number size puts (text ++ rest)) place
  wrong_record text rest place l part some wrong is =
      let stopped = stops_more number (begun number size puts text) rest l (group_stops number (begun number size puts text) part l small (begun_read text ∙ fails_body (records.Wrong part l) puts left text some wrong)) in
      let joined : begun number size puts text ++ rest ≡ begun number size puts (text ++ rest) = append_assoc (head_of number size) (body_of puts ++ text) rest ∙ ap (λ (t : List ℕ). head_of number size ++ t) (append_assoc (body_of puts) text rest) in
      let n : l + length rest ≡ length (begun number size puts (text ++ rest)) - place = omega (arith, is, begun_long number size puts (text ++ rest), length-append text rest) in
      inr (all_good number size left puts (text ++ rest) wide are sizes (λ change after read. window_never left text rest part l change after wrong read) good, inl (subst (GroupStopsAt number (begun number size puts (text ++ rest))) n (subst (λ (t : List ℕ). GroupStopsAt number t (l + length rest)) joined stopped)))

  short_record : (text : List ℕ) (place : ℕ) → 0 < left → window_at left text ≡ Ends → place ≡ length (head_of number size) + length (body_of puts) + length text → IsCheckpointDamage number (begun number size puts text) place
  short_record text place some ends is =
      let goes = group_ends number (begun number size puts text) small (begun_read text ∙ fails_body records.Cut puts left text some ends) in
      inr (all_good number size left puts text wide are sizes (λ change after read. no_done_ends change after (sym read ∙ ends)) good, inr (goes, omega (arith, is, begun_long number size puts text)))

  -- the next record can't be read
  pub record_damage : (at place : ℕ) (text file : List ℕ) → 0 < left → file ≡ begun number size puts text → at ≡ length (head_of number size) + length (body_of puts) → IsStop at text (window_at left) place → IsCheckpointDamage number file place
  record_damage at place text file some is behind stop = subst (λ (f : List ℕ). IsCheckpointDamage number f place) (sym is) (go stop.stops)
    where
      go : FailsAt at stop.left (BadGroup place) (window_at left stop.left) ⊎ (FailsAt at stop.left (Short place) (window_at left stop.left) × (length stop.rest ≡ 0)) → IsCheckpointDamage number (begun number size puts text) place
      go (inl (part, (l, (wrong, found)))) =
          subst (λ (t : List ℕ). IsCheckpointDamage number (begun number size puts t) place) (sym stop.parts) (wrong_record stop.left stop.rest place l part some wrong (omega (arith, found, behind)))
      go (inr ((ends, found), none)) =
          let all = all_of text stop.left stop.rest stop.parts none in
          short_record text place some (ap (window_at left) (sym all) ∙ ends) (omega (arith, found, behind, ap length all))

  -- the next record is no put above the others
  pub put_damage : (behind place : ℕ) (change : Change) (rest file : List ℕ) → IsRecord change.row → left ≡ length (change_text change) + behind → (ArePuts (puts ++ change ∷ []) → ⊥) → file ≡ begun number size puts (change_text change ++ rest)
      → place ≡ length (head_of number size) + length (body_of puts) → IsCheckpointDamage number file place
  put_damage behind place change rest file fits parted none is at =
      let text = change_text change in
      inl (record {
        changes = puts ++ change ∷ [];
        end = place + length text;
        there = record {
          size = size;
          rest = rest;
          wide = wide;
          are_records = records_joined puts (change ∷ []) are (fits, tt);
          within = omega (arith, long_more puts change, sizes, parted);
          parts = is ∙ ap (λ (t : List ℕ). head_of number size ++ t) (text_more puts change rest);
          ends = omega (arith, at, ap length is, begun_long number size puts (text ++ rest), length-append text rest);
        };
        left = length (body_of (change ∷ []));
        bad = record { front = puts; bad = change; after = []; parts = refl; good_front = good; none = none; left_is = refl };
        place_is = omega (arith, long_one change);
      })

-- ---- a file that begins with a checkpoint isn't damaged

pub never_damaged : (number place : ℕ) (file behind : List ℕ) (puts : List Change) → number < 2 ^ 64 → IsCheckpoint puts → file ≡ group_text number puts ++ behind → IsCheckpointDamage number file place → ⊥
never_damaged number place file behind puts small is text damage = go damage
  where
    parts : file ≡ begun number (length (body_of puts)) puts behind
    parts = text ∙ append_assoc (head_of number (length (body_of puts))) (body_of puts) behind

    good : AreAllGood ArePuts (GroupBegins number 0 file)
    good = subst (λ (f : List ℕ). AreAllGood ArePuts (GroupBegins number 0 f)) (sym parts)
        (all_good number (length (body_of puts)) 0 puts behind is.is_group.1 is.is_group.0 (omega arith) (λ change after read. (let found = window_done 0 behind change after read in omega (arith, found.within, found.long))) is.are_puts)

    go : IsCheckpointDamage number file place → ⊥
    go (inl bad) =
        let b = bad.bad in
        b.none (puts_first (b.front ++ b.bad ∷ []) b.after (subst ArePuts (b.parts ∙ sym (append_assoc b.front (b.bad ∷ []) b.after)) (good bad.changes bad.end bad.there)))
    go (inr (all, inl stops)) = (stops.none stops.after).1 puts behind is.is_group (append_assoc stops.front (stops.bad ∷ []) stops.after ∙ sym stops.parts ∙ text)
    go (inr (all, inr (goes, end))) = no_done_ends puts behind (sym (ap (group_at number) text ∙ group_again number puts behind is.is_group) ∙ group_goes number file small goes)
