-- One group more of a journal, and the changes that it makes.
use Rattle.std.proofs.Common.{◌≡◌, ℕ, suc, ◌+◌, ◌<◌, ◌≤◌, ◌^◌, List, [], ◌∷◌, ◌++◌, length, Some, sym, ◌∙◌, ap, subst, arith, append_assoc, length-append}
use Rattle.std.specs.List.{AllByRecursion}
use Rattle.std.proofs.lemmas.List.{append-nil}
use Rattle.outside_api.specs.Disk.{Files}
use Rattle.depot_rows.specs.db_records.declared.change.Change.{Change}
use Rattle.journal_groups.specs.Groups.{IsGroup, group_text, groups_text, mark, open_byte}
use Rattle.journal_groups.specs.Causes.{BeginsWanted}
use Rattle.journal_groups.specs.Committed.{HasGroups}
use Rattle.depot_rows.specs.table_changes.Changed.{AllRows, AllFitIn, changed_by}
use Rattle.recovery.specs.Holding.{joined}
use Rattle.recovery.specs.Pieces.{IsFirst, KnowsEnd, HasCome, text_left}
use Rattle.recovery.specs.Reading.{SoFar}
use Rattle.recovery.specs.declared.pieces.FileGroups.{FileGroups}
use Rattle.recovery.proofs.Fits.{changed_joined, fits_joined, fits_front, fits_behind, joined_append}
use Rattle.recovery.proofs.Groups.{behind_groups, begins_wanted}

text_more : (n : ℕ) (done : List (List Change)) (c : List Change) (rest : List ℕ) → groups_text n done ++ (mark open_byte ++ (group_text (n + length done) c ++ rest)) ≡ groups_text n (done ++ c ∷ []) ++ rest
text_more n [] c rest =
    let same : n + 0 ≡ n = omega arith in
    ap (λ (k : ℕ). mark open_byte ++ (group_text k c ++ rest)) same
    ∙ ap (λ (l : List ℕ). mark open_byte ++ (l ++ rest)) (sym (append-nil (group_text n c)))
    ∙ sym (append_assoc (mark open_byte) (group_text n c ++ []) rest)
text_more n (d ∷ done) c rest =
    let tail = mark open_byte ++ (group_text (n + suc (length done)) c ++ rest) in
    let shift : n + suc (length done) ≡ suc n + length done = omega arith in
    append_assoc (mark open_byte) (group_text n d ++ groups_text (suc n) done) tail
    ∙ ap (λ (l : List ℕ). mark open_byte ++ l) (append_assoc (group_text n d) (groups_text (suc n) done) tail)
    ∙ ap (λ (k : ℕ). mark open_byte ++ (group_text n d ++ (groups_text (suc n) done ++ (mark open_byte ++ (group_text k c ++ rest))))) shift
    ∙ ap (λ (l : List ℕ). mark open_byte ++ (group_text n d ++ l)) (text_more (suc n) done c rest)
    ∙ ap (λ (l : List ℕ). mark open_byte ++ l) (sym (append_assoc (group_text n d) (groups_text (suc n) (done ++ c ∷ [])) rest))
    ∙ sym (append_assoc (mark open_byte) (group_text n d ++ groups_text (suc n) (done ++ c ∷ [])) rest)

long_more : (n : ℕ) (done : List (List Change)) (c : List Change) → length (groups_text n (done ++ c ∷ [])) ≡ length (groups_text n done) + (5 + length (group_text (n + length done) c))
long_more n done c =
    let g = group_text (n + length done) c in
    omega (arith, ap length (text_more n done c []), length-append (groups_text n done) (mark open_byte ++ (g ++ [])), length-append g [], length-append (groups_text n (done ++ c ∷ [])) [])

-- each group has a byte
pub few : (n : ℕ) (done : List (List Change)) → length done ≤ length (groups_text n done)
few n [] = omega arith
few n (d ∷ done) = omega (arith, few (suc n) done, length-append (group_text n d) (groups_text (suc n) done))

all_more : (done : List (List Change)) (c : List Change) → AllByRecursion IsGroup done → IsGroup c → AllByRecursion IsGroup (done ++ c ∷ [])
all_more [] c are is = (is, tt)
all_more (d ∷ done) c are is = (are.0, all_more done c are.1 is)

joined_more : (done : List (List Change)) (c : List Change) → joined (done ++ c ∷ []) ≡ joined done ++ c
joined_more done c = joined_append done (c ∷ []) ∙ ap (λ (l : List Change). joined done ++ l) (append-nil c)

length_more : (done : List (List Change)) (c : List Change) → length (done ++ c ∷ []) ≡ length done + 1
length_more done c = length-append done (c ∷ [])

module _ (seen : Files → Type 0) (file count : ℕ) (groups : FileGroups) (old now : AllRows) (so_far : SoFar seen file count groups old now) where
  pub small_number : groups.reader.at < 2 ^ 63 → groups.reader.number < 2 ^ 64
  small_number short = omega (arith, short, so_far.number, so_far.at, few 1 so_far.done)

  pub small_count : groups.reader.at < 2 ^ 63 → count + 1 < 2 ^ 64
  small_count short = omega (arith, short, so_far.count_is, so_far.at, few 1 so_far.done)

  -- behind some of the groups of a text stand others, or a mark that isn't open
  pub next_wanted : (files : Files) → seen files → (all : List (List Change)) → HasGroups 1 (files file) all → BeginsWanted groups.reader.number (text_left groups files)
  next_wanted files read all has =
      let later = behind_groups 1 (files file) (text_left groups files) so_far.done all so_far.are_groups (so_far.text files read).1 has in
      subst (λ (n : ℕ). BeginsWanted n (text_left groups files)) (sym so_far.number) (begins_wanted (1 + length so_far.done) (text_left groups files) later.0 later.1.1)

  module _ (next : FileGroups) (changes : List Change) (come : HasCome groups next (Some changes)) where
    more_text : (files : Files) → seen files → IsFirst groups.reader.number (text_left groups files) (text_left next files) (Some changes) → files file ≡ groups_text 1 (so_far.done ++ changes ∷ []) ++ text_left next files
    more_text files read first =
        (so_far.text files read).1
        ∙ ap (λ (l : List ℕ). groups_text 1 so_far.done ++ l) (first.1 ∙ ap (λ (n : ℕ). mark open_byte ++ (group_text n changes ++ text_left next files)) so_far.number)
        ∙ text_more 1 so_far.done changes (text_left next files)

    -- where all changes of the text fit, so do those of its next group
    pub next_fit : (files : Files) → seen files → IsFirst groups.reader.number (text_left groups files) (text_left next files) (Some changes) → (all : List (List Change)) → HasGroups 1 (files file) all → AllFitIn old (joined all) → AllFitIn now changes
    next_fit files read first all has fit =
        let later = behind_groups 1 (files file) (text_left next files) (so_far.done ++ changes ∷ []) all (all_more so_far.done changes so_far.are_groups come.0) (more_text files read first) has in
        let parts : joined all ≡ (joined so_far.done ++ changes) ++ joined later.0 = ap joined later.1.0 ∙ joined_append (so_far.done ++ changes ∷ []) later.0 ∙ ap (λ (l : List Change). l ++ joined later.0) (joined_more so_far.done changes) in
        subst (λ (rows : AllRows). AllFitIn rows changes) (sym so_far.rows_are) (fits_behind old (joined so_far.done) changes (fits_front old (joined so_far.done ++ changes) (joined later.0) (subst (AllFitIn old) parts fit)))

    -- the group is one of those that were read
    pub one_more : (after : AllRows) → AllFitIn now changes → after ≡ changed_by now changes → next.file ≡ groups.file
        → ((files : Files) → seen files → KnowsEnd next files × IsFirst groups.reader.number (text_left groups files) (text_left next files) (Some changes)) → SoFar seen file (count + 1) next old after
    one_more after fit made same_file first = record {
      done = so_far.done ++ changes ∷ [];
      are_groups = all_more so_far.done changes so_far.are_groups come.0;
      fit = subst (AllFitIn old) (sym (joined_more so_far.done changes)) (fits_joined old (joined so_far.done) changes so_far.fit (subst (λ (rows : AllRows). AllFitIn rows changes) so_far.rows_are fit));
      rows_are = made ∙ ap (λ (rows : AllRows). changed_by rows changes) so_far.rows_are ∙ sym (changed_joined old (joined so_far.done) changes) ∙ ap (changed_by old) (sym (joined_more so_far.done changes));
      count_is = omega (arith, so_far.count_is, length_more so_far.done changes);
      number = omega (arith, come.1, so_far.number, length_more so_far.done changes);
      at = come.2 ∙ ap (λ (n : ℕ). groups.reader.at + (5 + length (group_text n changes))) so_far.number ∙ ap (λ (n : ℕ). n + (5 + length (group_text (1 + length so_far.done) changes))) so_far.at ∙ sym (long_more 1 so_far.done changes);
      of_file = same_file ∙ so_far.of_file;
      text = λ files read. let found = first files read in (found.0, more_text files read found.1);
    }
