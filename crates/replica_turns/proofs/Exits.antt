-- What a depot that replicas follow leaves: each pair of images was written from the first change on, perhaps with the change of a fault place.
use Rattle.std.proofs.Common.{◌≡◌, ◌⊎◌, ◌≤◌, ◌<◌, ◌+◌, ◌*◌, ℕ, Bool, true, false, List, [], ◌∷◌, ◌++◌, Some, length, take, inl, inr, refl, sym, ap, subst, ◌∙◌, arith, length-append}
use Rattle.std.specs.Prelude.{map}
use Rattle.std.specs.List.{AllByRecursion}
use Rattle.std.proofs.Math.Seq.{take-append_seam}
use Rattle.std.proofs.lemmas.Bool.{cases_order}
use Rattle.std.proofs.lemmas.List.{length-map}
use Rattle.outside_api.specs.Disk.{Files}
use Rattle.outside_api.specs.Says.{DiskSays}
use Rattle.archive_file.specs.Archive as archives
use Rattle.depot_rows.specs.db_records.declared.change.Change.{Change}
use Rattle.depot_rows.specs.db_records.declared.table.TableId.TheVariants.{Rev}
use Rattle.depot_rows.specs.depot_model.Commands.{step}
use Rattle.depot_rows.specs.depot_model.Deeds.{Deed}
use Rattle.depot_rows.specs.depot_model.Places.{Placed, taken}
use Rattle.depot_rows.specs.table_changes.Changed.{AllRows, changed_by, rows_of}
use Rattle.disk_journal.specs.Images.{Committed, HasCommitted}
use Rattle.disk_journal.specs.Older.{AreOlder, IsClosed}
use Rattle.disk_journal.specs.Stands.{Doubtful, HasWithOrWithout, IsImage, Stands, disk_of, group, nothing, opening}
use Rattle.disk_journal.specs.Text.{AreGroups, blocks}
use Rattle.disk_journal.specs.declared.journal.Journal.{Journal}
use Rattle.disk_journal.proofs.Keeping.{older_more}
use Rattle.disk_journal.proofs.Standing.{image_text}
use Rattle.journal_groups.specs.Committed as texts
use Rattle.journal_groups.specs.Groups.{IsGroup, groups_text, mark}
use Rattle.journal_groups.proofs.Committed.{groups_are}
use Rattle.recovery.specs.Holding.{HasAllRows, group_texts, spots_end}
use Rattle.recovery.specs.Standing.{StandFor}
use Rattle.recovery.proofs.Held.{blocks_of}
use Rattle.recovery.proofs.OneGroup.{last_of}
use Rattle.depot_commit.specs.Growing.{Chronicle, HasGroups, IsWritten, older_after, with_changes}
use Rattle.depot_commit.specs.Holding.{StandsWith}
use Rattle.depot_commit.specs.Opening.{opens_generation}
use Rattle.depot_commit.specs.Running.{IsDoubtOf, IsOfFault}
use Rattle.depot_commit.specs.Writing.{next_if, with_doubtful}
use Rattle.depot_commit.proofs.Growing.{are_with, generation_with, groups_with, older_with}
use Rattle.depot_commit.proofs.Kept.{kept_in_doubt}
use Rattle.serial_depot.specs.Running.{HasRun}
use Rattle.serial_depot.specs.declared.depot.SerialDepot.{SerialDepot}
use Rattle.replica_turns.specs.Master.{AllFit, AreGroupsOf, IsMaster, IsNth, Past, all_changes, first_of}
use Rattle.replica_turns.specs.Written.{HasJournal, IsDepotThen, IsWrittenAfter, Leave, PairGoesOn, rows_made}
use Rattle.replica_turns.proofs.OneMore.{IsOneMore, fewer_now, one_longer, one_more, rows_now}

-- ---- one list of groups

some_groups : {a b : List (List Change)} → Some a ≡ Some b → a ≡ b
some_groups e = cc

-- groups are told by their text
groups_once : (gs hs : List (List Change)) → AllByRecursion IsGroup gs → AllByRecursion IsGroup hs → groups_text 1 gs ≡ groups_text 1 hs → gs ≡ hs
groups_once gs hs are others same = some_groups (sym (groups_are text gs (its gs are same)) ∙ groups_are text hs (its hs others refl))
  where
    text : List ℕ
    text = groups_text 1 hs ++ (mark 109 ++ [])

    its : (groups : List (List Change)) → AllByRecursion IsGroup groups → groups_text 1 groups ≡ groups_text 1 hs → texts.HasGroups 1 text groups
    its groups are is = record { byte = 109; after = []; closed = λ e. omega (arith, e); are_groups = are; parts = ap (λ (t : List ℕ). t ++ (mark 109 ++ [])) (sym is) }

same_front : (xs ys rest others : List ℕ) → length xs ≡ length ys → xs ++ rest ≡ ys ++ others → xs ≡ ys
same_front xs ys rest others long same =
    sym (take-append_seam xs rest) ∙ (ap (take (length xs)) same ∙ (ap (λ (n : ℕ). take n (ys ++ others)) long ∙ take-append_seam ys others))

-- what is committed of a journal that has these groups
pub generation_is : {D : Type 0} (disk_says : DiskSays D) (journal : Journal D) (c : Chronicle) → HasGroups disk_says journal c → (was : Committed) (doubt : Doubtful) → Stands disk_says journal was doubt → was.generation ≡ length c.closed
generation_is disk_says journal c groups was doubt stands =
    let here = stands.generation in
    let count = groups.keeps.count in
    let all = length-map c.closed (group_texts 1) in
    omega (arith, here, count, all)

module _ {D : Type 0} (disk_says : DiskSays D) (journal : Journal D) (c : Chronicle) (groups : HasGroups disk_says journal c) (was : Committed) (doubt : Doubtful) (stands : Stands disk_says journal was doubt)
    (image : Files) (left : disk_says.may_leave (disk_of journal) image) where
  same_text : blocks was.groups ≡ blocks groups.was.groups
  same_text =
      let generation : was.generation ≡ groups.was.generation = sym stands.generation ∙ groups.stands.generation in
      let mine = image_text was doubt image (stands.each image left) in
      let its = image_text groups.was groups.doubt image (groups.stands.each image left) in
      same_front (blocks was.groups) (blocks groups.was.groups) mine.0 its.0 (sym stands.length ∙ groups.stands.length) (sym mine.1 ∙ (ap (λ (g : ℕ). image (1 + 2 * g)) generation ∙ its.1))

  pub newest_is : (rows : AllRows) → HasAllRows was rows → was.groups ≡ group_texts 1 c.newest
  newest_is rows has =
      let texts : groups_text 1 has.groups ≡ groups_text 1 c.newest =
      sym (blocks_of 1 has.groups) ∙ (ap blocks (sym has.are.journal) ∙ (same_text ∙ (ap blocks groups.are ∙ blocks_of 1 c.newest))) in
      has.are.journal ∙ ap (group_texts 1) (groups_once has.groups c.newest has.are.are_groups.1 (last_of (AllByRecursion IsGroup) c.closed c.newest groups.are_groups) texts)

-- ---- an image of the journal's disk

-- The groups c are those of what is committed.
module _ (c : Chronicle) (are_groups : AreGroupsOf c) (was : Committed) (generation : was.generation ≡ length c.closed) (newest : was.groups ≡ group_texts 1 c.newest) (journal : Files) where
  -- the image has it
  pub journal_as : AreOlder (map (group_texts 1) c.closed) journal → HasCommitted was journal → (rows : AllRows) → HasAllRows was rows → rows ≡ rows_made c → HasJournal c journal
  journal_as older committed rows has made = record {
    are_groups = are_groups;
    older = older;
    was = was;
    committed = committed;
    generation = generation;
    newest = newest;
    has = subst (HasAllRows was) made has;
  }

  -- it has it with what is in doubt
  pub older_in_doubt : AreGroups was.groups → AreOlder (map (group_texts 1) c.closed) journal → (doubt : Doubtful) → IsImage was doubt journal → AreOlder (older_after was (map (group_texts 1) c.closed) doubt false) journal
  older_in_doubt are older nothing image = older
  older_in_doubt are older (group text) image = older
  older_in_doubt are older (opening checkpoint) image =
      let all : was.generation ≡ length (map (group_texts 1) c.closed) = generation ∙ sym (length-map c.closed (group_texts 1)) in
      older_more (map (group_texts 1) c.closed) was.groups journal older
      (subst (λ (g : ℕ). IsClosed was.groups (journal (1 + 2 * g))) all (record { are_groups = are; byte = image.byte; closed = image.closed; behind = image.behind; is = image.form.file }))

  pub journal_with : (doubt : Doubtful) (opens : Bool) (changes : List Change) → IsWritten (length was.groups + 1) opens doubt changes → AreOlder (older_after was (map (group_texts 1) c.closed) doubt false) journal
      → HasCommitted (with_doubtful was doubt) journal → (after_it : AllRows) → HasAllRows (with_doubtful was doubt) after_it → after_it ≡ rows_made (with_changes opens changes c) → HasJournal (with_changes opens changes c) journal
  journal_with doubt opens changes is older committed after_it has rows = record {
    are_groups = are_with was c doubt changes are_groups opens is;
    older = subst (λ (o : List (List (List ℕ))). AreOlder o journal) (older_with was c doubt changes newest opens is) older;
    was = with_doubtful was doubt;
    committed = committed;
    generation = generation_with (length was.groups + 1) opens doubt changes is was ∙ next_closed opens;
    newest = groups_with was c doubt changes newest opens is;
    has = subst (HasAllRows (with_doubtful was doubt)) rows has;
  }
    where
      next_closed : (b : Bool) → next_if b was.generation ≡ length (with_changes b changes c).closed
      next_closed false = generation
      next_closed true = let all = length-append c.closed (c.newest ∷ []) in omega (arith, all, generation)

-- ---- a pair

-- an image that stands with all of these stands with this one
pub pair_stands : (images : Files → Type 0) (used : ℕ) (j a : Files) → images a → (d : List Deed) → StandsWith images used j d → StandFor d j a
pair_stands images used j a here d stands = record {
  was = stands.was;
  committed = stands.committed;
  rows = stands.rows;
  has = stands.has;
  stand = stands.stand;
  deletes = stands.kept.deletes;
  generation = stands.generation;
  within = (stands.kept.contents a here).within;
  contents = (stands.kept.contents a here).contents;
}

-- a depot for each number below a bound, where there is one for each
chosen : (P : ℕ → List Deed → Type 0) (bound : ℕ) → ((n : ℕ) → n < bound → (d : List Deed) × P n d) → (after : ℕ → List Deed) × ((n : ℕ) → n < bound → P n (after n))
chosen P bound each = (λ n. (pick n (cases_order n bound)).0, λ n less. (pick n (cases_order n bound)).1 less)
  where
    pick : (n : ℕ) → (n ≡ bound) ⊎ ((n < bound) ⊎ (bound < n)) → (d : List Deed) × (n < bound → P n d)
    pick n (inl same) = ([], λ less. absurd (omega (arith, same, less)))
    pick n (inr (inl below)) = let one = each n below in (one.0, λ less. one.1)
    pick n (inr (inr above)) = ([], λ less. absurd (omega (arith, above, less)))

module _ {D : Type 0} (disk_says : DiskSays D) (past : Past) (start : List Deed) (places : List Placed) (since : ℕ) (depot : SerialDepot D) (ran : HasRun disk_says depot since start places) (c : Chronicle)
    (master : IsMaster disk_says past start places depot c) where
  abbrev current : List Deed
  current = taken step start places

  abbrev rows : AllRows
  rows = rows_of depot.tables

  abbrev images : Files → Type 0
  images = disk_says.may_leave (archives.disk_of depot.archive)

  abbrev used : ℕ
  used = archives.used_of depot.archive

  -- ---- a pair

  module _ (archive : Files) (archive_left : images archive) where
    abbrev Then : Chronicle → ℕ → List Deed → Type 0
    Then now n d = IsNth past start places n d × IsDepotThen archive (first_of n now) (rows_made now) d

    -- the depot after a number of changes, where the spots of the last rows end no earlier
    depot_then : (n : ℕ) → n ≤ length (all_changes c) → (last : AllRows) → spots_end (rows Rev) ≤ spots_end (last Rev) → (d : List Deed) × (IsNth past start places n d × IsDepotThen archive (first_of n c) last d)
    depot_then n within last rise =
        let nth = master.each n within in
        let ends = master.ends n within in
        (nth.depot, (nth.is, record { stand = nth.stand; deletes = nth.kept.deletes; within = omega (arith, ends, rise); contents = nth.kept.contents archive archive_left }))

    -- a journal with these changes, before each of which there was a depot
    written : (now : Chronicle) (more : ℕ) → length (all_changes now) ≡ past.count + master.changes + more → (AllFit c → AllFit now) → ((n : ℕ) → n < length (all_changes now) → (d : List Deed) × Then now n d)
        → (journal : Files) → HasJournal now journal → (d : List Deed) → StandFor d journal archive → IsWrittenAfter past start places more d journal archive
    written now more count fit each journal has d stands =
        let depots = chosen (Then now) (length (all_changes now)) each in
        record {
          now = record { count = length (all_changes now); after = depots.0; journal = now };
          goes_on = record {
            changes = master.changes;
            count = count;
            are_changes = master.are_changes;
            each = λ n less. (depots.1 n less).0;
            fit = λ fits. fit (master.fit fits);
          };
          written = record { has = has; count = refl; each = λ n less. (depots.1 n less).1 };
          stands = stands;
        }

    -- one with those that there are
    pub all_written : (journal : Files) → HasJournal c journal → (d : List Deed) → StandFor d journal archive → IsWrittenAfter past start places 0 d journal archive
    all_written =
        let count = master.count in
        let all = ap (λ (r : AllRows). spots_end (r Rev)) master.rows in
        written c 0 (omega (arith, count)) (λ fits. fits) (λ n less. depot_then n (omega (arith, less)) (rows_made c) (omega (arith, all)))

    -- one with one change more
    pub one_more_written : (now : Chronicle) (after_it : AllRows) → IsOneMore c now rows after_it → (journal : Files) → HasJournal now journal → (d : List Deed) → StandFor d journal archive → IsWrittenAfter past start places 1 d journal archive
    one_more_written now after_it one =
        let count = master.count in
        let longer = one_longer c now rows after_it master.rows one in
        written now 1 (omega (arith, count, longer)) one.fit (each longer)
      where
        each : length (all_changes now) ≡ length (all_changes c) + 1 → (n : ℕ) → n < length (all_changes now) → (d : List Deed) × Then now n d
        each longer n less =
            let few : n ≤ length (all_changes c) = omega (arith, less, longer) in
            let rise = one.rise in
            let all = ap (λ (r : AllRows). spots_end (r Rev)) (rows_now c now rows after_it master.rows one) in
            let was = depot_then n few (rows_made now) (omega (arith, rise, all)) in
            (was.0, (was.1.0, subst (λ (r : AllRows). IsDepotThen archive r (rows_made now) was.0) (sym (fewer_now c now rows after_it master.rows one n few)) was.1.1))

  -- ---- the pairs that are left

  module _ (journal archive : Files) (journal_left : disk_says.may_leave (disk_of depot.journal) journal) (archive_left : images archive) where
    closed_count : ran.over.was.generation ≡ length c.closed
    closed_count = generation_is disk_says depot.journal c master.groups ran.over.was ran.over.doubt ran.over.stands

    newest : ran.over.was.groups ≡ group_texts 1 c.newest
    newest = newest_is disk_says depot.journal c master.groups ran.over.was ran.over.doubt ran.over.stands journal journal_left rows ran.over.has

    older : AreOlder (map (group_texts 1) c.closed) journal
    older = master.groups.keeps.each journal journal_left

    -- what is committed
    whole : HasCommitted ran.over.was journal → PairGoesOn past start places journal archive
    whole committed = inl (all_written archive archive_left journal (journal_as c master.groups.are_groups ran.over.was closed_count newest journal older committed rows ran.over.has master.rows) current (pair_stands images used journal archive archive_left current (record {
      was = ran.over.was;
      committed = committed;
      rows = rows;
      has = ran.over.has;
      stand = ran.over.stand;
      generation = ran.over.generation;
      kept = ran.over.kept;
    })))

    -- with what is in doubt
    module _ (doubt : Doubtful) (is_image : IsImage ran.over.was doubt journal) (f : IsOfFault images used rows ran.over.was doubt start places) (committed : HasCommitted (with_doubtful ran.over.was doubt) journal) where
      abbrev changes : List Change
      changes = f.writes.changes

      abbrev opens : Bool
      opens = opens_generation f.request

      abbrev now : Chronicle
      now = with_changes opens changes c

      one : IsOneMore c now rows (changed_by rows changes)
      one = one_more rows current f.request changes ran.over.stand (f.writes.made.differences current ran.over.stand) f.writes.some c master.rows (ran.over.generation ∙ closed_count)

      has_doubted : HasJournal now journal
      has_doubted = journal_with c master.groups.are_groups ran.over.was closed_count newest journal doubt opens changes f.writes.is
          (older_in_doubt c master.groups.are_groups ran.over.was closed_count newest journal ran.over.stands.are_groups older doubt is_image) committed (changed_by rows changes) f.writes.has
          (rows_now c now rows (changed_by rows changes) master.rows one)

      in_doubt : PairGoesOn past start places journal archive
      in_doubt =
          let kept = kept_in_doubt images used ran.over.was rows start places ran.over.has ran.over.stand ran.over.generation doubt f journal committed in
          inr (record {
            before = kept.before;
            faulty = kept.faulty;
            later = kept.later;
            parts = kept.parts;
            fault = kept.fault;
            quiet = kept.quiet;
            stands = one_more_written archive archive_left now (changed_by rows changes) one journal has_doubted _ (pair_stands images used journal archive archive_left _ kept.stands);
          })

    pair_goes_on : (doubt : Doubtful) → IsImage ran.over.was doubt journal → IsDoubtOf images used rows ran.over.was start places doubt → HasWithOrWithout ran.over.was doubt journal → PairGoesOn past start places journal archive
    pair_goes_on nothing is none committed = whole committed
    pair_goes_on (group text) is f (inl committed) = whole committed
    pair_goes_on (group text) is f (inr committed) = in_doubt (group text) is f committed
    pair_goes_on (opening checkpoint) is f (inl committed) = whole committed
    pair_goes_on (opening checkpoint) is f (inr committed) = in_doubt (opening checkpoint) is f committed

  -- what the depot leaves
  pub leaves_written : Leave disk_says (disk_of depot.journal) (archives.disk_of depot.archive) (PairGoesOn past start places)
  leaves_written = record {
    journal_tells = master.groups.keeps.tells;
    archive_tells = ran.tells;
    pairs = λ j a j_left a_left. pair_goes_on j a j_left a_left ran.over.doubt (ran.over.stands.each j j_left) ran.over.in_doubt (ran.over.stands.holds j j_left);
  }
