-- The places at which the files of a depot are damaged.
use Rattle.std.proofs.Common.{◌≡◌, ◌⊎◌, ◌≤◌, ◌<◌, ◌+◌, ◌*◌, ◌^◌, ℕ, zero, suc, List, [], ◌∷◌, ◌++◌, length, take, drop, Some, inl, inr, refl, sym, ap, subst, ◌∙◌, arith, append_assoc}
use Rattle.std.proofs.lemmas.Bool.{cases_lt}
use Rattle.std.proofs.lemmas.List.{take-append-drop}
use Rattle.outside_api.specs.Disk.{Files}
use Rattle.disk_journal.specs.Images.{Begins, IsRoot, generation_of}
use Rattle.disk_journal.specs.Text.{blocks}
use Rattle.depot_rows.specs.db_records.declared.change.Change.{Change}
use Rattle.depot_rows.specs.db_records.declared.record.Record.{Record}
use Rattle.depot_rows.specs.db_records.declared.record.Record.TheVariants.{Rev}
use Rattle.depot_rows.specs.db_records.declared.table.TableId.TheVariants as tables
use Rattle.depot_rows.specs.table_changes.Changed.{AllRows, changed_by, no_rows}
use Rattle.journal_groups.specs.Groups.{group_text}
use Rattle.journal_groups.proofs.Committed.{groups_are}
use Rattle.recovery.specs.Contents.{AreWhole, IsBadAt, IsSpotDamage}
use Rattle.recovery.specs.Damage.{BeginsRoot, IsRootDamage, IsCheckpointDamage, IsJournalDamage, IsRulesDamage, IsJournalDiskDamage, of_root, of_checkpoint, of_journal, of_rules, IsArchiveDamage, IsDamage}
use Rattle.recovery.specs.Holding.{Hold, group_texts, spot_end, spots_end}
use Rattle.recovery.specs.Reading.{IsCheckpoint}
use Rattle.recovery.specs.Rules.{SuitFiles}
use Rattle.recovery.specs.declared.fault.DepotDisk.{DepotDisk}
use Rattle.recovery.specs.declared.fault.DepotDisk.TheVariants.{Journal, Archive}
use Rattle.recovery.proofs.Damaged.{open_bytes}
use Rattle.recovery.proofs.GoodSpots.{end_at, whole_at, whole_row}
use Rattle.recovery.proofs.Groups.{one_group}
use Rattle.recovery.proofs.Held.{last_generation, held_root, held_checkpoint, held_begins, held_groups, held_puts, held_fit, rows_once}
use Rattle.damage_places.proofs.Fronts.{parted, IsBefore}
use Rattle.damage_places.proofs.Texts.{checkpoint_once, checkpoint_never}
use Rattle.damage_places.proofs.Journals.{journal_once, journal_never}

-- ---- lists

take_less : (n m : ℕ) (xs : List ℕ) → n ≤ m → take n (take m xs) ≡ take n xs
take_less zero m xs low = refl
take_less (suc n) zero xs low = absurd (omega (arith, low))
take_less (suc n) (suc m) [] low = refl
take_less (suc n) (suc m) (x ∷ xs) low = ap (λ (l : List ℕ). x ∷ l) (take_less n m xs (omega (arith, low)))

same_behind : {A : Type 0} (xs ys zs : List A) → xs ++ ys ≡ xs ++ zs → ys ≡ zs
same_behind [] ys zs e = e
same_behind {A} (x ∷ xs) ys zs e = same_behind xs ys zs (tails e)
  where
    tails : {u v : A} {us vs : List A} → u ∷ us ≡ v ∷ vs → us ≡ vs
    tails e = cc

-- ---- the root

-- of bytes with which a root may begin each front is such
shorter_begins : (bytes : List ℕ) (n m : ℕ) → n ≤ m → BeginsRoot (take m bytes) → BeginsRoot (take n bytes)
shorter_begins bytes n m low b = record {
  generation = b.generation;
  more = drop n (take m bytes) ++ b.more;
  root = subst (IsRoot b.generation) parts b.root;
}
  where
    taken : take n (take m bytes) ≡ take n bytes
    taken = take_less n m bytes low

    parts : take m bytes ++ b.more ≡ take n bytes ++ (drop n (take m bytes) ++ b.more)
    parts =
        ap (λ (l : List ℕ). l ++ b.more) (sym (take-append-drop n (take m bytes)) ∙ ap (λ (l : List ℕ). l ++ drop n (take m bytes)) taken)
        ∙ append_assoc (take n bytes) (drop n (take m bytes)) b.more

root_once : (bytes : List ℕ) (place other : ℕ) → IsRootDamage bytes place → IsRootDamage bytes other → place ≡ other
root_once bytes place other a b = elim (cases_lt place other) [
  | inl less ↦ absurd (a.stops (let w = b.within in omega (arith, w, less)) (shorter_begins bytes (place + 1) other (omega (arith, less)) b.goes_on))
  | inr most ↦ elim (cases_lt other place) [
    | inl less ↦ absurd (b.stops (let w = a.within in omega (arith, w, less)) (shorter_begins bytes (other + 1) place (omega (arith, less)) a.goes_on))
    | inr least ↦ omega (arith, most, least)
  ]
]

root_holds : (generation : ℕ) (root : List ℕ) → IsRoot generation root → generation_of root ≡ generation
root_holds generation root is = ap generation_of is.is ∙ open_bytes generation is.tail is.shut

one_generation : (root : List ℕ) (n m : ℕ) → IsRoot n root → IsRoot m root → n ≡ m
one_generation root n m a b = sym (root_holds n root a) ∙ root_holds m root b

-- ---- the archive

abbrev place_of : Record → ℕ
place_of (Rev row) = row.at
place_of _ = 0

bad_place : (file : List ℕ) (row : Record) (place : ℕ) → IsBadAt file row place → place ≡ place_of row
bad_place file (Rev row) place bad = bad.0
bad_place file _ place bad = absurd bad

-- a bad row isn't among those that are whole
bad_before : (file : List ℕ) (rows : List Record) (place other : ℕ) (a : IsSpotDamage file rows place) (b : IsSpotDamage file rows other) → IsBefore a.front a.row b.front → ⊥
bad_before file rows place other a b h =
    let end : spot_end a.row ≤ spots_end b.front = subst (λ (l : List Record). spot_end a.row ≤ spots_end l) (sym h.1) (end_at a.front a.row h.0) in
    let low = b.within in
    whole_row file a.row place (whole_at file a.front a.row h.0 (subst (AreWhole file) h.1 b.whole)) (omega (arith, end, low)) a.bad

spot_once : (file : List ℕ) (rows : List Record) (place other : ℕ) → IsSpotDamage file rows place → IsSpotDamage file rows other → place ≡ other
spot_once file rows place other a b = go (parted a.front a.row a.after b.front b.row b.after parts)
  where
    parts : a.front ++ a.row ∷ a.after ≡ b.front ++ b.row ∷ b.after
    parts = sym a.parts ∙ b.parts

    behind : (xs ys : List Record) (x y : Record) (l m : List Record) → xs ≡ ys → xs ++ x ∷ l ≡ ys ++ y ∷ m → x ≡ y
    behind xs ys x y l m e f = first (same_behind xs (x ∷ l) (y ∷ m) (f ∙ ap (λ (zs : List Record). zs ++ y ∷ m) (sym e)))
      where
        first : {u v : Record} {us vs : List Record} → u ∷ us ≡ v ∷ vs → u ≡ v
        first e = cc

    go : (a.front ≡ b.front) ⊎ (IsBefore a.front a.row b.front ⊎ IsBefore b.front b.row a.front) → place ≡ other
    go (inl h) =
        bad_place file a.row place a.bad ∙ ap place_of (behind a.front b.front a.row b.row a.after b.after h parts) ∙ sym (bad_place file b.row other b.bad)
    go (inr (inl h)) = absurd (bad_before file rows place other a b h)
    go (inr (inr h)) = absurd (bad_before file rows other place b a h)

-- ---- files that hold rows

module _ (journal : Files) (short : (n : ℕ) → length (journal n) < 2 ^ 63) where
  -- they are damaged at most by the rules
  module _ (rows : AllRows) (hold : Hold journal rows) where
    same_generation : (generation : ℕ) → IsRoot generation (journal 0) → generation ≡ hold.was.generation
    same_generation generation root = one_generation (journal 0) generation hold.was.generation root (held_root journal rows hold)

    root_never : (place : ℕ) → IsRootDamage (journal 0) place → ⊥
    root_never place d = d.none hold.was.generation (held_root journal rows hold)

    held_checkpoint_never : (generation place : ℕ) → IsRoot generation (journal 0) → IsCheckpointDamage generation (journal (2 + 2 * generation)) place → ⊥
    held_checkpoint_never generation place root d =
        let begins = held_begins journal rows hold generation (same_generation generation root) in
        let is = held_checkpoint journal rows hold in
        let low = last_generation generation (journal 0) root in
        checkpoint_never generation (journal (2 + 2 * generation)) place hold.has.puts begins.behind (omega (arith, low)) is.are_puts is.is_group begins.is d

    held_journal_never : (generation place : ℕ) (puts : List Change) → IsRoot generation (journal 0) → IsCheckpoint puts → Begins (group_text generation puts) (journal (2 + 2 * generation))
        → IsJournalDamage (changed_by no_rows puts) (journal (1 + 2 * generation)) place → ⊥
    held_journal_never generation place puts root is begins d =
        let same = same_generation generation root in
        let puts_are = held_puts journal rows hold generation puts same is begins in
        journal_never (changed_by no_rows puts) (journal (1 + 2 * generation)) (short (1 + 2 * generation)) place hold.has.groups
        (held_groups journal rows hold generation same) (held_fit journal rows hold puts (changed_by no_rows puts) puts_are refl) d

  abbrev hold_of : (file place : ℕ) (r : IsRulesDamage journal file place) → Hold journal r.rows
  hold_of file place r = record { was = r.was; committed = r.committed; has = r.has }

  -- the file and the place of a damage by the rules
  rules_file : (file other place else_place : ℕ) → IsRulesDamage journal file place → IsRulesDamage journal other else_place → (file ≡ other) × (place ≡ else_place)
  rules_file file other place else_place a b =
      let h = hold_of file place a in
      let k = hold_of other else_place b in
      let generation : a.was.generation ≡ b.was.generation = sym a.committed.root ∙ b.committed.root in
      let groups : h.has.groups ≡ k.has.groups =
      same_some (sym (groups_are (journal (1 + 2 * a.was.generation)) h.has.groups (held_groups journal a.rows h a.was.generation refl))
      ∙ groups_are (journal (1 + 2 * a.was.generation)) k.has.groups (held_groups journal b.rows k a.was.generation generation)) in
      let texts : a.was.groups ≡ b.was.groups = a.has.are.journal ∙ ap (group_texts 1) groups ∙ sym b.has.are.journal in
      (a.file_is ∙ ap (λ (n : ℕ). 1 + 2 * n) generation ∙ sym b.file_is, a.place_is ∙ ap (λ (l : List (List ℕ)). length (blocks l)) texts ∙ sym b.place_is)
    where
      same_some : {x y : List (List Change)} → Some x ≡ Some y → x ≡ y
      same_some e = cc

  -- ---- the disk of the journal

  abbrev Same : ℕ → ℕ → ℕ → ℕ → Type 0
  Same file other place else_place = (file ≡ other) × (place ≡ else_place)

  -- a checkpoint or a journal that is damaged isn't one of the other kinds
  checkpoint_and_journal : (n m place other : ℕ) (puts : List Change) → IsRoot n (journal 0) → IsRoot m (journal 0) → IsCheckpointDamage n (journal (2 + 2 * n)) place
      → IsCheckpoint puts → Begins (group_text m puts) (journal (2 + 2 * m)) → ⊥
  checkpoint_and_journal n m place other puts root again d is begins =
      let same : m ≡ n = one_generation (journal 0) m n again root in
      let low = last_generation n (journal 0) root in
      let moved : Begins (group_text n puts) (journal (2 + 2 * n)) = subst (λ (k : ℕ). Begins (group_text k puts) (journal (2 + 2 * k))) same begins in
      checkpoint_never n (journal (2 + 2 * n)) place puts moved.behind (omega (arith, low)) is.are_puts is.is_group moved.is d

  disk_once : (file other place else_place : ℕ) → IsJournalDiskDamage journal file place → IsJournalDiskDamage journal other else_place → Same file other place else_place
  disk_once file other place else_place (of_root e d) (of_root f g) = (e ∙ sym f, root_once (journal 0) place else_place d g)
  disk_once file other place else_place (of_root e d) (of_checkpoint n root f g) = absurd (d.none n root)
  disk_once file other place else_place (of_root e d) (of_journal n puts root is begins f g) = absurd (d.none n root)
  disk_once file other place else_place (of_root e d) (of_rules r) = absurd (root_never r.rows (hold_of other else_place r) place d)
  disk_once file other place else_place (of_checkpoint n root e d) (of_root f g) = absurd (g.none n root)
  disk_once file other place else_place (of_checkpoint n root e d) (of_checkpoint m again f g) =
      let same : m ≡ n = one_generation (journal 0) m n again root in (
        e ∙ ap (λ (k : ℕ). 2 + 2 * k) (sym same) ∙ sym f,
        checkpoint_once n (journal (2 + 2 * n)) place else_place d (subst (λ (k : ℕ). IsCheckpointDamage k (journal (2 + 2 * k)) else_place) same g),
      )
  disk_once file other place else_place (of_checkpoint n root e d) (of_journal m puts again is begins f g) =
      absurd (checkpoint_and_journal n m place else_place puts root again d is begins)
  disk_once file other place else_place (of_checkpoint n root e d) (of_rules r) = absurd (held_checkpoint_never r.rows (hold_of other else_place r) n place root d)
  disk_once file other place else_place (of_journal n puts root is begins e d) (of_root f g) = absurd (g.none n root)
  disk_once file other place else_place (of_journal n puts root is begins e d) (of_checkpoint m again f g) =
      absurd (checkpoint_and_journal m n else_place place puts again root g is begins)
  disk_once file other place else_place (of_journal n puts root is begins e d) (of_journal m more again are starts f g) =
      let same : m ≡ n = one_generation (journal 0) m n again root in
      let moved : Begins (group_text n more) (journal (2 + 2 * n)) = subst (λ (k : ℕ). Begins (group_text k more) (journal (2 + 2 * k))) same starts in
      let puts_are : more ≡ puts = one_group n (journal (2 + 2 * n)) moved.behind begins.behind more puts are.is_group is.is_group moved.is begins.is in
      let one : IsJournalDamage (changed_by no_rows more) (journal (1 + 2 * n)) else_place =
      subst (λ (k : ℕ). IsJournalDamage (changed_by no_rows more) (journal (1 + 2 * k)) else_place) same g in (
        e ∙ ap (λ (k : ℕ). 1 + 2 * k) (sym same) ∙ sym f,
        journal_once (changed_by no_rows puts) (journal (1 + 2 * n)) (short (1 + 2 * n)) place else_place d
            (subst (λ (l : List Change). IsJournalDamage (changed_by no_rows l) (journal (1 + 2 * n)) else_place) puts_are one),
      )
  disk_once file other place else_place (of_journal n puts root is begins e d) (of_rules r) =
      absurd (held_journal_never r.rows (hold_of other else_place r) n place puts root is begins d)
  disk_once file other place else_place (of_rules r) (of_root f g) = absurd (root_never r.rows (hold_of file place r) else_place g)
  disk_once file other place else_place (of_rules r) (of_checkpoint m again f g) = absurd (held_checkpoint_never r.rows (hold_of file place r) m else_place again g)
  disk_once file other place else_place (of_rules r) (of_journal m puts again is begins f g) =
      absurd (held_journal_never r.rows (hold_of file place r) m else_place puts again is begins g)
  disk_once file other place else_place (of_rules r) (of_rules q) = rules_file file other place else_place r q

  -- ---- both disks

  module _ (archive : Files) where
    -- where the archive is damaged the journal's disk isn't
    archive_alone : (file place other : ℕ) → IsArchiveDamage journal archive other → IsJournalDiskDamage journal file place → ⊥
    archive_alone file place other a (of_root e d) = root_never a.rows a.hold place d
    archive_alone file place other a (of_checkpoint n root e d) = held_checkpoint_never a.rows a.hold n place root d
    archive_alone file place other a (of_journal n puts root is begins e d) = held_journal_never a.rows a.hold n place puts root is begins d
    archive_alone file place other a (of_rules r) =
        let same_rows : a.rows ≡ r.rows = λ i table. rows_once journal r.rows a.rows (hold_of file place r) a.hold table i in
        let generation : a.hold.was.generation ≡ r.was.generation = sym a.hold.committed.root ∙ r.committed.root in
        r.broken (subst (λ (n : ℕ). SuitFiles n r.rows) generation (subst (SuitFiles a.hold.was.generation) same_rows a.suit))

    archive_once : (place other : ℕ) → IsArchiveDamage journal archive place → IsArchiveDamage journal archive other → place ≡ other
    archive_once place other a b =
        spot_once (archive 0) (a.rows tables.Rev) place other a.spot
        (subst (λ (rs : List Record). IsSpotDamage (archive 0) rs other) (rows_once journal a.rows b.rows a.hold b.hold tables.Rev) b.spot)

    pub damage_once : (disk other_disk : DepotDisk) (file other place else_place : ℕ) → IsDamage journal archive disk file place → IsDamage journal archive other_disk other else_place
        → (disk ≡ other_disk) × (file ≡ other) × (place ≡ else_place)
    damage_once Journal Journal file other place else_place a b = let h = disk_once file other place else_place a b in (refl, h.0, h.1)
    damage_once Journal Archive file other place else_place a b = absurd (archive_alone file place else_place b.1 a)
    damage_once Archive Journal file other place else_place a b = absurd (archive_alone other else_place place a.1 b)
    damage_once Archive Archive file other place else_place a b = (refl, a.0 ∙ sym b.0, archive_once place else_place a.1 b.1)
