-- What was read of the files is what they hold.
use Rattle.std.proofs.Common.{◌≡◌, ℕ, suc, ◌+◌, ◌*◌, ◌≤◌, List, [], ◌∷◌, ◌++◌, length, replicate, Some, refl, sym, ◌∙◌, ap, subst, arith, append_assoc, length-append}
use Rattle.std.proofs.lemmas.List.{length-replicate}
use Rattle.std.specs.List.{AllByRecursion}
use Rattle.outside_api.specs.Disk.{Files}
use Rattle.depot_rows.specs.db_records.declared.change.Change.{Change}
use Rattle.depot_rows.specs.db_records.declared.table.TableId.{TableId}
use Rattle.journal_groups.specs.Groups.{IsGroup, group_text, groups_text, body_of, mark, open_byte}
use Rattle.journal_groups.specs.Committed.{HasGroups}
use Rattle.journal_groups.proofs.Committed.{groups_are}
use Rattle.disk_journal.specs.Images.{Begins, IsRoot, IsAtRest}
use Rattle.disk_journal.specs.Text as texts
use Rattle.disk_journal.specs.Text.{blocks, AreGroupsFrom}
use Rattle.depot_rows.specs.table_changes.Changed.{AllRows, AllFitIn, changed_by, no_rows}
use Rattle.recovery.specs.Holding.{Hold, HasAllRows, group_texts, joined}
use Rattle.recovery.specs.Reading.{IsCheckpoint}
use Rattle.recovery.proofs.Fits.{changed_joined, fits_joined, fits_front, fits_behind}
use Rattle.recovery.proofs.Groups.{one_group}

pub blocks_of : (n : ℕ) (groups : List (List Change)) → blocks (group_texts n groups) ≡ groups_text n groups
blocks_of n [] = refl
blocks_of n (g ∷ groups) = append_assoc (mark open_byte) (group_text n g) (blocks (group_texts (suc n) groups)) ∙ ap (λ (l : List ℕ). mark open_byte ++ (group_text n g ++ l)) (blocks_of (suc n) groups)

is_group : (number : ℕ) (changes : List Change) → texts.IsGroup number (group_text number changes)
is_group number changes = record { records = body_of changes; is = simp append_assoc }

pub are_texts : (n : ℕ) (groups : List (List Change)) → AreGroupsFrom n (group_texts n groups)
are_texts n [] = tt
are_texts n (g ∷ groups) =
    let next : suc n ≡ n + 1 = omega arith in
    (is_group n g, subst (λ (k : ℕ). AreGroupsFrom k (group_texts (suc n) groups)) next (are_texts (suc n) groups))

pub length_texts : (n : ℕ) (groups : List (List Change)) → length (group_texts n groups) ≡ length groups
length_texts n [] = refl
length_texts n (g ∷ groups) = ap suc (length_texts (suc n) groups)

pub read_rows : (generation : ℕ) (puts : List Change) (groups : List (List Change)) (mid rows : AllRows) → IsCheckpoint puts → AllByRecursion IsGroup groups → mid ≡ changed_by no_rows puts → AllFitIn mid (joined groups) → rows ≡ changed_by mid (joined groups)
    → HasAllRows (record { generation = generation; checkpoint = group_text generation puts; groups = group_texts 1 groups }) rows
read_rows generation puts groups mid rows is are mid_is fit rows_is = record {
  puts = puts;
  groups = groups;
  are = record { checkpoint = refl; journal = refl; are_puts = is.are_puts; are_groups = (is.is_group, are) };
  fit = fits_joined no_rows puts (joined groups) is.fit (subst (λ (r : AllRows). AllFitIn r (joined groups)) mid_is fit);
  rows_are = λ table. ap (λ (r : AllRows). r table) (rows_is ∙ ap (λ (r : AllRows). changed_by r (joined groups)) mid_is ∙ sym (changed_joined no_rows puts (joined groups)));
}

pub read_rest : (generation : ℕ) (puts : List Change) (groups : List (List Change)) (files : Files) → IsRoot generation (files 0) → Begins (group_text generation puts) (files (2 + 2 * generation)) → HasGroups 1 (files (1 + 2 * generation)) groups
    → IsAtRest (record { generation = generation; checkpoint = group_text generation puts; groups = group_texts 1 groups }) files
read_rest generation puts groups files root begins has = record {
  root = root;
  byte = has.byte;
  closed = has.closed;
  behind = has.after;
  form = record {
    checkpoint = begins;
    file = has.parts ∙ ap (λ (l : List ℕ). l ++ (mark has.byte ++ has.after)) (sym (blocks_of 1 groups)) ∙ sym (append_assoc (blocks (group_texts 1 groups)) (mark has.byte) has.after);
  };
}

pub last_generation : (generation : ℕ) (root : List ℕ) → IsRoot generation root → generation ≤ 4095
last_generation generation root is = omega (arith, is.long, ap length is.is, length-append (replicate generation 101) is.tail, length-replicate {A = ℕ} generation 101)

module _ (files : Files) (rows : AllRows) (hold : Hold files rows) where
  pub held_root : IsRoot hold.was.generation (files 0)
  held_root = hold.committed.rest.root

  pub held_checkpoint : IsCheckpoint hold.has.puts
  held_checkpoint = record { are_puts = hold.has.are.are_puts; is_group = hold.has.are.are_groups.0; fit = fits_front no_rows hold.has.puts (joined hold.has.groups) hold.has.fit }

  pub held_begins : (generation : ℕ) → generation ≡ hold.was.generation → Begins (group_text generation hold.has.puts) (files (2 + 2 * generation))
  held_begins generation same =
      subst (λ (n : ℕ). Begins (group_text n hold.has.puts) (files (2 + 2 * n))) (sym same)
      (subst (λ (l : List ℕ). Begins l (files (2 + 2 * hold.was.generation))) hold.has.are.checkpoint hold.committed.rest.form.checkpoint)

  pub held_groups : (generation : ℕ) → generation ≡ hold.was.generation → HasGroups 1 (files (1 + 2 * generation)) hold.has.groups
  held_groups generation same =
      let rest = hold.committed.rest in
      subst (λ (n : ℕ). HasGroups 1 (files (1 + 2 * n)) hold.has.groups) (sym same) (record {
        byte = rest.byte;
        after = rest.behind;
        closed = rest.closed;
        are_groups = hold.has.are.are_groups.1;
        parts =
            rest.form.file
            ∙ append_assoc (blocks hold.was.groups) (mark rest.byte) rest.behind
            ∙ ap (λ (l : List ℕ). l ++ (mark rest.byte ++ rest.behind)) (ap blocks hold.has.are.journal ∙ blocks_of 1 hold.has.groups);
      })

  -- the puts that were read are those that are held
  pub held_puts : (generation : ℕ) (puts : List Change) → generation ≡ hold.was.generation → IsCheckpoint puts → Begins (group_text generation puts) (files (2 + 2 * generation)) → hold.has.puts ≡ puts
  held_puts generation puts same is begins =
      let held = held_begins generation same in
      one_group generation (files (2 + 2 * generation)) held.behind begins.behind hold.has.puts puts hold.has.are.are_groups.0 is.is_group held.is begins.is

  pub held_fit : (puts : List Change) (mid : AllRows) → hold.has.puts ≡ puts → mid ≡ changed_by no_rows puts → AllFitIn mid (joined hold.has.groups)
  held_fit puts mid same mid_is =
      subst (λ (r : AllRows). AllFitIn r (joined hold.has.groups)) (ap (changed_by no_rows) same ∙ sym mid_is) (fits_behind no_rows hold.has.puts (joined hold.has.groups) hold.has.fit)

  -- and the groups those that are held
  pub held_same : (generation : ℕ) (groups : List (List Change)) → generation ≡ hold.was.generation → HasGroups 1 (files (1 + 2 * generation)) groups → hold.has.groups ≡ groups
  held_same generation groups same has =
      let file = files (1 + 2 * generation) in
      some_same (sym (groups_are file hold.has.groups (held_groups generation same)) ∙ groups_are file groups has)
    where
      some_same : {a b : List (List Change)} → Some a ≡ Some b → a ≡ b
      some_same e = cc

  pub held_rows : (generation : ℕ) (puts : List Change) (groups : List (List Change)) (mid read : AllRows) → generation ≡ hold.was.generation → hold.has.puts ≡ puts → HasGroups 1 (files (1 + 2 * generation)) groups
      → mid ≡ changed_by no_rows puts → read ≡ changed_by mid (joined groups) → (table : TableId) → read table ≡ rows table
  held_rows generation puts groups mid read same puts_are has mid_is read_is table =
      let one = held_same generation groups same has in
      ap (λ (r : AllRows). r table) (
      read_is
      ∙ ap (λ (r : AllRows). changed_by r (joined groups)) (mid_is ∙ ap (changed_by no_rows) (sym puts_are))
      ∙ ap (λ (l : List (List Change)). changed_by (changed_by no_rows hold.has.puts) (joined l)) (sym one)
      ∙ sym (changed_joined no_rows hold.has.puts (joined hold.has.groups)))
      ∙ sym (hold.has.rows_are table)

-- files are of one generation
pub generation_once : (files : Files) (one other : AllRows) (hold : Hold files one) (h : Hold files other) → h.was.generation ≡ hold.was.generation
generation_once files one other hold h = sym h.committed.root ∙ hold.committed.root

-- they have one list of groups of it
pub groups_once : (files : Files) (one other : AllRows) (hold : Hold files one) (h : Hold files other) → h.was.groups ≡ hold.was.groups
groups_once files one other hold h =
    let same = held_same files one hold h.was.generation h.has.groups (generation_once files one other hold h) (held_groups files other h h.was.generation refl) in
    h.has.are.journal ∙ (ap (group_texts 1) (sym same) ∙ sym hold.has.are.journal)

-- and they hold one set of rows
pub rows_once : (files : Files) (one other : AllRows) → Hold files one → Hold files other → (table : TableId) → other table ≡ one table
rows_once files one other hold h table =
    let same = generation_once files one other hold h in
    let puts : hold.has.puts ≡ h.has.puts = held_puts files one hold h.was.generation h.has.puts same (held_checkpoint files other h) (held_begins files other h h.was.generation refl) in
    h.has.rows_are table
    ∙ (ap (λ (r : AllRows). r table) (changed_joined no_rows h.has.puts (joined h.has.groups))
    ∙ held_rows files one hold h.was.generation h.has.puts h.has.groups (changed_by no_rows h.has.puts) (changed_by (changed_by no_rows h.has.puts) (joined h.has.groups)) same puts
    (held_groups files other h h.was.generation refl) refl refl table)
