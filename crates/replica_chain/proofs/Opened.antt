-- Files that are opened as those of a node.
use Rattle.std.proofs.Common.{◌≡◌, ℕ, ◌+◌, ◌*◌, ◌≤◌, List, [], ◌∷◌, ◌++◌, length, take, get_or, refl, sym, ap, subst, ◌∙◌, arith}
use Rattle.std.specs.Prelude.{map}
use Rattle.std.specs.List.{concat}
use Rattle.std.proofs.lemmas.List.{map-append}
use Rattle.outside_api.specs.Disk.{Files, NoMore}
use Rattle.outside_api.specs.Says.{DiskSays}
use Rattle.archive_file.specs.Archive.{disk_of as archive_disk_of, used_of}
use Rattle.archive_file.specs.declared.archive.Archive.{Archive}
use Rattle.depot_rows.specs.db_records.declared.table.TableId.TheVariants.{Rev}
use Rattle.depot_rows.specs.table_changes.Changed.{AllRows, rows_of}
use Rattle.depot_rows.specs.table_store.declared.tables.Tables.{Tables}
use Rattle.disk_journal.specs.Images.{Committed, HasCommitted}
use Rattle.disk_journal.specs.Keeping.{KeepsOlder}
use Rattle.disk_journal.specs.Older.{AreOlder, IsClosed}
use Rattle.disk_journal.specs.Scanned.{IsMarkOf}
use Rattle.disk_journal.specs.Stands.{nothing, disk_of, generation_of_journal}
use Rattle.disk_journal.specs.Text.{blocks}
use Rattle.disk_journal.specs.declared.journal.Journal.{Journal}
use Rattle.journal_groups.specs.Groups.{groups_text}
use Rattle.recovery.specs.Contents.{AreWhole}
use Rattle.recovery.specs.Holding.{HasAllRows, Hold, group_texts, spots_end}
use Rattle.recovery.specs.Opening.{HasSynced, IsOpen}
use Rattle.recovery.specs.declared.open.Opened.{Opened}
use Rattle.replica_chain.specs.Chronicle.{Chronicle, changes_of, generations_of, rows_made, texts_of}
use Rattle.replica_chain.specs.Ends.{HasTexts, IsLooked}
use Rattle.replica_chain.specs.Node.{AllReach, CanFollow, HasContentsOf, HasFrontTo, IsNode}
use Rattle.replica_chain.specs.Opening.{AreWritten, IsFresh}
use Rattle.replica_chain.specs.declared.counting.Counts.{Counts}
use Rattle.replica_chain.specs.declared.node.Node.{Node}
use Rattle.replica_chain.proofs.Following.{closed_texts_long}
use Rattle.replica_chain.proofs.Generations.{bytes_closed}
use Rattle.replica_chain.proofs.Told.{texts_of_blocks}

-- ---- the texts

-- files that read the same have the same groups
same_older : (older : List (List (List ℕ))) (files image : Files) → ((file : ℕ) → image file ≡ files file) → AreOlder older files → AreOlder older image
same_older older files image same are generation within =
    subst (IsClosed (get_or older generation [])) (sym (same (1 + 2 * generation))) (are generation within)

module _ {D : Type 0} (disk_says : DiskSays D) (image : (disk : D) (files : Files) → disk_says.seen disk files → disk_says.may_leave disk files)
    (one : (disk : D) (c d : Files) → disk_says.seen disk c → disk_says.seen disk d → (file : ℕ) → c file ≡ d file)
    (opened : Opened D) (was : Committed) (open_now : IsOpen disk_says was opened) (c : Chronicle) (files : Files) (sees : disk_says.seen (disk_of opened.journal) files) (written : AreWritten c files) where
  committed : HasCommitted was files
  committed = open_now.stands.holds files (image (disk_of opened.journal) files sees)

  -- it is of the newest generation
  pub opened_at : generation_of_journal opened.journal ≡ length c.closed
  opened_at = open_now.stands.generation ∙ written.generation was committed

  pub opened_texts : HasTexts disk_says opened.journal (texts_of c)
  opened_texts = record {
    was = was;
    doubt = nothing;
    before = map (group_texts 1) c.closed;
    files = files;
    stands = open_now.stands;
    sees = sees;
    as_many = closed_texts_long c.closed ∙ sym (written.generation was committed);
    older = written.older;
    are =
        texts_of_blocks (generations_of c)
        ∙ ap (map blocks) (map-append (group_texts 1) c.closed (c.newest ∷ []) ∙ ap (λ (groups : List (List ℕ)). map (group_texts 1) c.closed ++ groups ∷ []) (sym (written.newest_are was committed)));
  }

  module _ (durable : NoMore (disk_says.seen (disk_of opened.journal)) (disk_says.may_leave (disk_of opened.journal))) (hold : Hold files (rows_of opened.tables)) (contents : Files)
      (told : disk_says.seen (archive_disk_of opened.archive) contents) (archive_durable : NoMore (disk_says.seen (archive_disk_of opened.archive)) (disk_says.may_leave (archive_disk_of opened.archive)))
      (within : opened.tables.archive_end ≤ length (contents 0)) (whole : AreWhole (contents 0) (rows_of opened.tables Rev)) where
    abbrev rows : AllRows
    rows = rows_of opened.tables

    made : rows ≡ rows_made c
    made = written.rows rows hold

    opened_older : KeepsOlder disk_says opened.journal (map (group_texts 1) c.closed)
    opened_older = record {
      tells = (files, sees);
      count = closed_texts_long c.closed ∙ sym opened_at;
      each = λ found left. same_older (map (group_texts 1) c.closed) files found (one (disk_of opened.journal) found files (durable found left) sees) written.older;
    }

    opened_front : (place : ℕ) → place ≤ length (contents 0) → HasFrontTo (disk_says.may_leave (archive_disk_of opened.archive)) place (contents 0)
    opened_front place le = record {
      within = le;
      has = λ found left.
          let same = one (archive_disk_of opened.archive) found contents (archive_durable found left) told 0 in
          record { within = (let long = ap length same in omega (arith, long, le)); is = ap (take place) same };
    }

    opened_contents : HasContentsOf disk_says opened.archive rows
    opened_contents =
        let end = open_now.archive_end in
        let used = open_now.used in
        record { bytes = contents 0; front = opened_front (used_of opened.archive) (omega (arith, used, within)); ends = omega (arith, end, used); whole = whole }

    its_contents : (archive : Archive D) → archive ≡ opened.archive → HasContentsOf disk_says archive (rows_made c)
    its_contents archive is = subst (λ (a : Archive D). HasContentsOf disk_says a (rows_made c)) (sym is) (subst (HasContentsOf disk_says opened.archive) made opened_contents)

    pub opened_node : (node : Node D) (before_bytes before_groups newest_bytes newest_groups : ℕ) → IsLooked disk_says opened.journal node.link.journal → ((file : List ℕ) → IsMarkOf node.link.scanned file) → node.archive ≡ opened.archive → node.tables ≡ opened.tables
        → node.before ≡ before_bytes → node.at ≡ newest_bytes → node.number ≡ 1 + newest_groups → node.changes ≡ before_groups + newest_groups + generation_of_journal opened.journal
        → before_bytes + newest_bytes ≡ length (concat (texts_of c)) → newest_bytes ≡ length (groups_text 1 c.newest) → newest_groups ≡ length c.newest
        → before_groups + newest_groups + length c.closed ≡ length (changes_of c) → IsNode disk_says node c
    opened_node node before_bytes before_groups newest_bytes newest_groups looked nothing_scanned archive tables before at number changes bytes newest groups all =
        let has : HasAllRows was (rows_made c) = subst (HasAllRows was) made open_now.rows in
        record {
          was = was;
          doubt = nothing;
          stands = looked.stands was nothing open_now.stands;
          keeps = looked.keeps (map (group_texts 1) c.closed) opened_older;
          scanned = λ found seen. nothing_scanned _;
          are = written.newest_are was committed;
          are_groups = written.are_groups;
          has = has;
          pending = c;
          is_pending = refl;
          pending_has = has;
          rows = ap rows_of tables ∙ made;
          tells = (contents, subst (λ (a : Archive D). disk_says.seen (archive_disk_of a) contents) (sym archive) told);
          contents = its_contents node.archive archive;
          pending_contents = its_contents node.archive archive;
          before =
              (let closed = bytes_closed c in omega (arith, closed, before, bytes, newest));
          at = at ∙ newest;
          number = number ∙ ap (λ (n : ℕ). 1 + n) groups;
          changes = (let g = opened_at in omega (arith, changes, all, g));
        }

-- ---- the node

-- it is made of files that are open, of which the journal was looked at, and of what was counted
pub record IsNodeOf {D : Type 0} (opened : Opened D) (journal : Journal D) (counts : Counts) (node : Node D) : Type 0 where
  pub journal_is : node.link.journal ≡ journal
  pub archive_is : node.archive ≡ opened.archive
  pub tables_are : node.tables ≡ opened.tables
  pub rest : node.rest ≡ []
  pub before : node.before ≡ counts.before.bytes
  pub at : node.at ≡ counts.newest.bytes
  pub number : node.number ≡ 1 + counts.newest.groups
  pub changes : node.changes ≡ counts.before.groups + counts.newest.groups + generation_of_journal journal

-- all groups and bytes were counted
abbrev pub HasAll : Counts → Chronicle → Type 0
HasAll counts c =
    (counts.before.bytes + counts.newest.bytes ≡ length (concat (texts_of c))) × (counts.newest.bytes ≡ length (groups_text 1 c.newest))
    × (counts.newest.groups ≡ length c.newest) × (counts.before.groups + counts.newest.groups + length c.closed ≡ length (changes_of c))

module _ {D : Type 0} (disk_says : DiskSays D) (opened : Opened D) (was : Committed) (open_now : IsOpen disk_says was opened) (journal : Journal D) (looked : IsLooked disk_says opened.journal journal)
    (counts : Counts) (node : Node D) (of : IsNodeOf opened journal counts node) where
  its_looked : IsLooked disk_says opened.journal node.link.journal
  its_looked = subst (IsLooked disk_says opened.journal) (sym of.journal_is) looked

  same_generation : generation_of_journal journal ≡ generation_of_journal opened.journal
  same_generation = let now = (looked.stands was nothing open_now.stands).generation in let before = open_now.stands.generation in omega (arith, now, before)

  module _ (archive : D) (synced : HasSynced disk_says archive (archive_disk_of opened.archive)) (within : (contents : Files) → disk_says.seen archive contents → opened.tables.archive_end ≤ length (contents 0)) where
    reaches : AllReach (disk_says.may_leave (archive_disk_of opened.archive)) (used_of opened.archive)
    reaches image left =
        let fits = within image (synced.same.no_more image (synced.durable image left)) in
        let used = open_now.used in
        omega (arith, fits, used)

    pub opened_can : CanFollow disk_says node
    opened_can =
        let now = ap generation_of_journal of.journal_is in
        let before = of.before in
        let at = of.at in
        let few = counts.before.few in
        let newest_few = counts.newest.few in
        record {
          was = was;
          doubt = nothing;
          stands = its_looked.stands was nothing open_now.stands;
          archive_end = (let fits = opened.tables.end_fits in let used = open_now.used in let same = ap used_of of.archive_is in omega (arith, fits, used, same));
          room = subst (λ (a : Archive D). AllReach (disk_says.may_leave (archive_disk_of a)) (used_of a)) (sym of.archive_is) reaches;
          short = (let short = counts.short in omega (arith, short, before, at, ap length of.rest));
          numbered = (let number = of.number in omega (arith, number, newest_few, at));
          counted = (let changes = of.changes in omega (arith, changes, few, newest_few, before, at, now));
        }

    pub opened_fresh : IsFresh disk_says node
    opened_fresh = record {
      rest = of.rest;
      settled = (was, its_looked.stands was nothing open_now.stands);
      used = ap used_of of.archive_is ∙ open_now.used ∙ open_now.archive_end ∙ ap (λ (tables : Tables). spots_end (rows_of tables Rev)) (sym of.tables_are);
    }

    pub opened_is : ((disk : D) (files : Files) → disk_says.seen disk files → disk_says.may_leave disk files) → ((disk : D) (c d : Files) → disk_says.seen disk c → disk_says.seen disk d → (file : ℕ) → c file ≡ d file)
        → (disk : D) → HasSynced disk_says disk (disk_of opened.journal) → (c : Chronicle) (files contents : Files) → disk_says.seen disk files → disk_says.seen archive contents → AreWritten c files → Hold files (rows_of opened.tables)
        → AreWhole (contents 0) (rows_of opened.tables Rev) → HasAll counts c → ((file : List ℕ) → IsMarkOf node.link.scanned file) → IsNode disk_says node c
    opened_is image one disk read c files contents sees told written hold whole all nothing_scanned =
        opened_node disk_says image one opened was open_now c files (read.same.kept files sees) written read.durable hold contents (synced.same.kept contents told) synced.durable (within contents told) whole
        node counts.before.bytes counts.before.groups counts.newest.bytes counts.newest.groups its_looked nothing_scanned of.archive_is of.tables_are of.before of.at of.number
        (of.changes ∙ ap (λ (n : ℕ). counts.before.groups + counts.newest.groups + n) same_generation) all.0 all.1 all.2 all.3
