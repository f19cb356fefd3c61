-- The puts of a checkpoint that were taken of its file.
use Rattle.std.proofs.Common.{◌≡◌, ℕ, ◌+◌, ◌*◌, ◌<◌, ◌≤◌, List, [], ◌∷◌, ◌++◌, length, Option, Some, None, Result, Ok, Err, OnOk, refl, sym, ap, subst, ◌∙◌, arith, append_assoc}
use Rattle.outside_api.specs.Disk.{Files}
use Rattle.depot_rows.specs.db_records.declared.change.Change.{Change}
use Rattle.depot_rows.specs.table_changes.Changed.{AllRows, AllFitIn, FitsIn, changed_by, changed_in, no_rows}
use Rattle.record_text.specs.Grammar.{IsRecord, largest_wide}
use Rattle.journal_groups.specs.Groups.{body_of, change_text, head_of}
use Rattle.journal_groups.specs.Reading.{window_at}
use Rattle.journal_groups.proofs.Whole.{records_joined}
use Rattle.recovery.specs.Damage.{IsCheckpointDamage}
use Rattle.recovery.specs.Holding.{ArePuts}
use Rattle.recovery.specs.Pieces.{IsStop, KnowsEnd, text_left}
use Rattle.recovery.specs.Reading.{HasCheckpoint, HasPut, HasTaken, IsLastOf}
use Rattle.recovery.specs.declared.pieces.FileGroups.{FileGroups}
use Rattle.recovery.proofs.CheckpointDamage.{long_more, put_damage, record_damage, text_more}
use Rattle.recovery.proofs.Fits.{changed_joined, fits_behind}
use Rattle.recovery.proofs.PutsFit.{puts_fit}

-- ---- one put more

-- the last of some puts was put behind all others
pub last_put : (puts : List Change) (waiting : Option Change) (rows : AllRows) → HasPut puts waiting rows → IsLastOf puts waiting
last_put puts None rows has = has.all_but_last.0
last_put puts (Some last) rows has = (has.all_but_last.0, has.all_but_last.1.0)

-- the put that waits fits
pub waiting_fits : (puts : List Change) (waiting : Change) (rows : AllRows) → HasPut puts (Some waiting) rows → FitsIn rows waiting
waiting_fits puts waiting rows has =
    let front = has.all_but_last.0 in
    let all : puts ≡ front ++ waiting ∷ [] = has.all_but_last.1.0 in
    let fit : AllFitIn no_rows (front ++ waiting ∷ []) = subst (AllFitIn no_rows) all (puts_fit puts has.are_puts) in
    subst (λ (r : AllRows). FitsIn r waiting) (sym has.all_but_last.1.1) (fits_behind no_rows front (waiting ∷ []) fit).0

-- where it is made, all are
waiting_put : (puts : List Change) (waiting : Change) (rows after : AllRows) → HasPut puts (Some waiting) rows → after ≡ changed_in rows waiting → after ≡ changed_by no_rows puts
waiting_put puts waiting rows after has made =
    let front = has.all_but_last.0 in
    made
    ∙ ap (λ (r : AllRows). changed_in r waiting) has.all_but_last.1.1
    ∙ sym (changed_joined no_rows front (waiting ∷ []))
    ∙ ap (λ (l : List Change). changed_by no_rows l) (sym has.all_but_last.1.0)

pub waiting_made : {A E : Type 0} (puts : List Change) (waiting : Change) (rows after : AllRows) (r : Result A E) → HasPut puts (Some waiting) rows → OnOk r (after ≡ changed_in rows waiting) → OnOk r (after ≡ changed_by no_rows puts)
waiting_made puts waiting rows after (Ok a) has made = waiting_put puts waiting rows after has made
waiting_made puts waiting rows after (Err e) has made = tt

pub none_waits : (puts : List Change) (rows : AllRows) → HasPut puts None rows → rows ≡ changed_by no_rows puts
none_waits puts rows has = has.all_but_last.1 ∙ ap (λ (l : List Change). changed_by no_rows l) (sym has.all_but_last.0)

-- a put more waits, after the one before it was made
pub one_put : (puts : List Change) (after : AllRows) (change : Change) → ArePuts (puts ++ change ∷ []) → after ≡ changed_by no_rows puts → HasPut (puts ++ change ∷ []) (Some change) after
one_put puts after change more made = record {
  are_puts = more;
  all_but_last = (puts, (refl, made));
}

-- ---- what was taken of the file

pub head_taken : (seen : Files → Type 0) (generation size : ℕ) (front : List ℕ) (groups next : FileGroups) → front ≡ [] → (groups.file ≡ 2 + 2 * generation) × (groups.front ≡ length front) × (groups.reader.at ≡ 0) × (groups.reader.number ≡ generation)
    → (size ≤ largest_wide) × (next.reader.at ≡ groups.reader.at + length (head_of groups.reader.number size)) → (next.file ≡ groups.file) × (next.front ≡ groups.front)
    → ((files : Files) → seen files → KnowsEnd next files × (files (2 + 2 * generation) ≡ head_of groups.reader.number size ++ text_left next files)) → HasTaken seen generation next size []
head_taken seen generation size front groups next none at come same text = record {
  size = size;
  wide = come.0;
  are_records = tt;
  sizes = omega arith;
  at = omega (arith, come.1, at.2, ap (λ (n : ℕ). length (head_of n size)) at.3);
  front = same.1 ∙ at.1 ∙ ap length none;
  of_file = same.0 ∙ at.0;
  text = λ files read. let here = text files read in (here.0, here.1 ∙ ap (λ (n : ℕ). head_of n size ++ text_left next files) at.3);
}

-- the same, of a disk that reads alike
pub taken_alike : (seen other : Files → Type 0) (generation left : ℕ) (groups : FileGroups) (puts : List Change) → ((files : Files) → other files → seen files) → HasTaken seen generation groups left puts → HasTaken other generation groups left puts
taken_alike seen other generation left groups puts leads taken = record {
  size = taken.size;
  wide = taken.wide;
  are_records = taken.are_records;
  sizes = taken.sizes;
  at = taken.at;
  front = taken.front;
  of_file = taken.of_file;
  text = λ files read. taken.text files (leads files read);
}

module _ (seen : Files → Type 0) (generation left : ℕ) (groups : FileGroups) (puts : List Change) (taken : HasTaken seen generation groups left puts) where
  pub record_taken : (next : FileGroups) (change : Change) (behind : ℕ) → IsRecord change.row → left ≡ length (change_text change) + behind → next.reader.at ≡ groups.reader.at + length (change_text change) → next.file ≡ groups.file → next.front ≡ groups.front
      → ((files : Files) → seen files → KnowsEnd next files × (text_left groups files ≡ change_text change ++ text_left next files)) → HasTaken seen generation next behind (puts ++ change ∷ [])
  record_taken next change behind fits parted at file front first = record {
    size = taken.size;
    wide = taken.wide;
    are_records = records_joined puts (change ∷ []) taken.are_records (fits, tt);
    sizes = omega (arith, taken.sizes, parted, long_more puts change);
    at = omega (arith, at, taken.at, long_more puts change);
    front = front ∙ taken.front;
    of_file = file ∙ taken.of_file;
    text = λ files read.
        let here = first files read in
        (here.0, (taken.text files read).1 ∙ ap (λ (t : List ℕ). head_of generation taken.size ++ (body_of puts ++ t)) here.1 ∙ ap (λ (t : List ℕ). head_of generation taken.size ++ t) (text_more puts change (text_left next files)));
  }

  -- ---- damage of what is next

  module _ (files : Files) (read : seen files) (last : generation ≤ 4095) (good : ArePuts puts) where
    pub stopped : (place : ℕ) → 0 < left → IsStop groups.reader.at (text_left groups files) (window_at left) place → IsCheckpointDamage generation (files (2 + 2 * generation)) place
    stopped place some stop =
        record_damage generation taken.size left puts (omega (arith, last)) taken.wide taken.are_records taken.sizes good groups.reader.at place (text_left groups files) (files (2 + 2 * generation)) some (taken.text files read).1 taken.at stop

    pub misput : (next : FileGroups) (change : Change) (behind : ℕ) → IsRecord change.row → left ≡ length (change_text change) + behind → text_left groups files ≡ change_text change ++ text_left next files → (ArePuts (puts ++ change ∷ []) → ⊥)
        → IsCheckpointDamage generation (files (2 + 2 * generation)) groups.reader.at
    misput next change behind fits parted first none =
        put_damage generation taken.size left puts (omega (arith, last)) taken.wide taken.are_records taken.sizes good behind groups.reader.at change (text_left next files) (files (2 + 2 * generation)) fits parted none
        ((taken.text files read).1 ∙ ap (λ (t : List ℕ). head_of generation taken.size ++ (body_of puts ++ t)) first) taken.at

-- all of its records were taken
pub checkpoint_taken : (seen : Files → Type 0) (generation : ℕ) (groups : FileGroups) (puts : List Change) (rows : AllRows) → HasTaken seen generation groups 0 puts → ArePuts puts → rows ≡ changed_by no_rows puts → HasCheckpoint seen generation rows
checkpoint_taken seen generation groups puts rows taken are put =
    let whole : taken.size ≡ length (body_of puts) = omega (arith, taken.sizes) in
    record {
      puts = puts;
      is = record { are_puts = are; is_group = (taken.are_records, omega (arith, taken.wide, whole)); fit = puts_fit puts are };
      rows_are = put;
      text = λ files read. record {
        behind = text_left groups files;
        is = (taken.text files read).1 ∙ ap (λ (n : ℕ). head_of generation n ++ (body_of puts ++ text_left groups files)) whole ∙ sym (append_assoc (head_of generation (length (body_of puts))) (body_of puts) (text_left groups files));
      };
    }

pub checkpoint_alike : (seen other : Files → Type 0) (generation : ℕ) (rows : AllRows) → ((files : Files) → other files → seen files) → HasCheckpoint seen generation rows → HasCheckpoint other generation rows
checkpoint_alike seen other generation rows leads has = record { puts = has.puts; is = has.is; rows_are = has.rows_are; text = λ files read. has.text files (leads files read) }
