-- Places at which nothing is written leave the rows, the contents, the groups and the run of tables and a journal.
use Rattle.std.proofs.Common.{◌≡◌, ℕ, Bool, true, false, cond, List, [], ◌∷◌, ◌++◌, inl, inr, map, refl, sym, ap, subst, ◌∙◌, append_assoc, append-nil, arith}
use Rattle.std.specs.Prelude.{count_by, if◌then◌else◌}
use Rattle.std.specs.List.{AllByRecursion}
use Rattle.std.proofs.lemmas.Bool.{true≢false}
use mathlib.Core.List.{map-append}
use Rattle.depot_rows.specs.db_records.Table.{table_number}
use Rattle.depot_rows.specs.db_records.declared.change.Change.{Change}
use Rattle.depot_rows.specs.db_records.declared.table.TableId.{TableId}
use Rattle.depot_rows.specs.depot_model.Deeds.{Deed}
use Rattle.depot_rows.specs.depot_model.Commands.{step}
use Rattle.depot_rows.specs.depot_model.Places.{Placed, done_at, taken}
use Rattle.depot_rows.specs.depot_model.Step.{after}
use Rattle.depot_rows.specs.Standing.{Stand}
use Rattle.depot_runs.specs.Kept.{IsChange, NoChange}
use Rattle.depot_rows.specs.table_changes.Changed.{AllRows, changed_by, rows_of}
use Rattle.depot_rows.specs.table_store.declared.tables.Tables.{Tables}
use Rattle.disk_journal.specs.declared.journal.Journal.{Journal}
use Rattle.locked_tables.specs.Known.{GoesOnWithout}
use Rattle.locked_tables.specs.Taken.{archive_lane, end_after, journal_lane, placed_of, rows_after, rows_behind}
use Rattle.locked_tables.specs.declared.taken.Taken.{Taken}
use Rattle.locked_tables.proofs.Archive.{end_append}
use Rattle.locked_tables.proofs.Rows.{after_append}
use Rattle.order_words.specs.Lanes.{has_lane}
use Rattle.outside_api.specs.Disk.{Files}
use Rattle.outside_api.specs.Says.{DiskSays}
use Rattle.depot_commit.specs.Growing.{Chronicle, grown}
use Rattle.depot_commit.specs.Opening.{opens_generation}
use Rattle.depot_commit.specs.Placing.{HasRunBeside, LeavesRows}
use Rattle.depot_commit.proofs.Growing.{grown_none}
use Rattle.depot_commit.proofs.Places.{no_difference, same_stand}
use Rattle.depot_commit.proofs.Steps.{over_faulted, over_idle}
use Rattle.replica_turns.specs.Master.{AreChanges}
use Rattle.session_loop.specs.Taking.{placed_by}
use Rattle.shared_depot.specs.Common.{AreQuiet, GoesOnQuietly, IsQuiet, chronicle_after}
use Rattle.shared_depot.specs.Stored.{is_unwritten, stores_of}
use Rattle.shared_depot.proofs.Stored.{count_append, count_first, stores_append}

-- ---- orders one behind another

pub rows_append : (rows : AllRows) (xs ys : List Taken) → rows_after rows (xs ++ ys) ≡ rows_after (rows_after rows xs) ys
rows_append rows xs ys = λ k table. after_append table xs ys rows k table

pub chronicle_append : (c : Chronicle) (xs ys : List Taken) → chronicle_after c (xs ++ ys) ≡ chronicle_after (chronicle_after c xs) ys
chronicle_append c [] ys = refl
chronicle_append c (x ∷ xs) ys = chronicle_append (grown (opens_generation x.request) x.fault x.changes c) xs ys

-- ---- places of which none is a change

all_idle : (n : ℕ) (d : List Deed) (places : List Placed) → n ≡ 0 → NoChange d places → AreChanges n d places
all_idle n d [] same none = same
all_idle n d (p ∷ places) same none = inl (none.0, all_idle n (after d (done_at step d p)) places same none.1)

changes_behind : (n : ℕ) (d : List Deed) (places more : List Placed) → AreChanges n d places → NoChange (taken step d places) more → AreChanges n d (places ++ more)
changes_behind n d [] more are none = all_idle n d more are none
changes_behind n d (p ∷ places) more (inl are) none = inl (are.0, changes_behind n (after d (done_at step d p)) places more are.1 none)
changes_behind n d (p ∷ places) more (inr are) none = inr (are.0, are.1, are.2, changes_behind are.1 (after d (done_at step d p)) places more are.3 none)

-- ---- quiet places

module _ (begins : ℕ → List Deed → Type 0) where
  -- those behind an order are quiet where all are
  pub quiet_behind : (rows : AllRows) (end : ℕ) (xs ys : List Taken) → AreQuiet begins rows end (xs ++ ys) → AreQuiet begins (rows_after rows xs) (end_after end xs) ys
  quiet_behind rows end [] ys all = all
  quiet_behind rows end (x ∷ xs) ys all = quiet_behind (rows_behind rows x) (if has_lane x.lanes archive_lane then x.end else end) xs ys all.1

  -- one more
  pub quiet_more : (rows : AllRows) (end : ℕ) (order : List Taken) (entry : Taken) → AreQuiet begins rows end order
      → (has_lane entry.lanes journal_lane ≡ false → IsQuiet begins (rows_after rows order) (end_after end order) entry) → AreQuiet begins rows end (order ++ entry ∷ [])
  quiet_more rows end [] entry all is = (is, tt)
  quiet_more rows end (x ∷ xs) entry all is = (all.0, quiet_more (rows_behind rows x) (if has_lane x.lanes archive_lane then x.end else end) xs entry all.1 is)

  -- ---- one place

  either_rows : (b : Bool) (rows : AllRows) (table : TableId) → (if b then rows table else rows table) ≡ rows table
  either_rows true rows table = refl
  either_rows false rows table = refl

  -- it leaves the rows
  pub rows_left : (rows : AllRows) (entry : Taken) → entry.changes ≡ [] → rows_behind rows entry ≡ rows
  rows_left rows entry none = λ k table. (ap (λ (l : List Change). if has_lane entry.lanes (table_number table) then changed_by rows l table else rows table) none ∙ either_rows (has_lane entry.lanes (table_number table)) rows table) k

  -- the end of the archive
  pub end_left : (rows : AllRows) (end : ℕ) (entry : Taken) → IsQuiet begins rows end entry → (if has_lane entry.lanes archive_lane then entry.end else end) ≡ end
  end_left rows end entry is = go (has_lane entry.lanes archive_lane) refl
    where
      go : (b : Bool) → has_lane entry.lanes archive_lane ≡ b → (if b then entry.end else end) ≡ end
      go true touches = (is.unstored touches).1
      go false spares = refl

  -- and the contents
  pub stores_left : (rows : AllRows) (end : ℕ) (entry : Taken) → IsQuiet begins rows end entry → (if has_lane entry.lanes archive_lane then entry.stores else []) ≡ []
  stores_left rows end entry is = go (has_lane entry.lanes archive_lane) refl
    where
      go : (b : Bool) → has_lane entry.lanes archive_lane ≡ b → (if b then entry.stores else []) ≡ []
      go true touches = (is.unstored touches).0
      go false spares = refl

  -- ---- each of an order

  module _ (rows : AllRows) (end : ℕ) where
    abbrev AllQuiet : List Taken → Type 0
    AllQuiet order = AllByRecursion (IsQuiet begins rows end) order

    -- where none touches the journal's lane, each leaves the rows and the end for the next
    pub all_quiet : (order : List Taken) → AreQuiet begins rows end order → AllByRecursion (λ (entry : Taken). has_lane entry.lanes journal_lane ≡ false) order → AllQuiet order
    all_quiet [] all silent = tt
    all_quiet (entry ∷ order) all silent =
        let here : IsQuiet begins rows end entry = all.0 silent.0 in (
          here,
          all_quiet order
              (subst (λ (n : ℕ). AreQuiet begins rows n order) (end_left rows end entry here)
              (subst (λ (r : AllRows). AreQuiet begins r (if has_lane entry.lanes archive_lane then entry.end else end) order) (rows_left rows entry here.unchanged) all.1)) silent.1,
        )

    rows_stay : (order : List Taken) → AllQuiet order → rows_after rows order ≡ rows
    rows_stay [] all = refl
    rows_stay (entry ∷ order) all = ap (λ (r : AllRows). rows_after r order) (rows_left rows entry all.0.unchanged) ∙ rows_stay order all.1

    end_stays : (order : List Taken) → AllQuiet order → end_after end order ≡ end
    end_stays [] all = refl
    end_stays (entry ∷ order) all = ap (λ (n : ℕ). end_after n order) (end_left rows end entry all.0) ∙ end_stays order all.1

    none_stored : (order : List Taken) → AllQuiet order → stores_of order ≡ []
    none_stored [] all = refl
    none_stored (entry ∷ order) all = ap (λ (l : List (List ℕ)). l ++ stores_of order) (stores_left rows end entry all.0) ∙ none_stored order all.1

    none_unwritten : (order : List Taken) → AllQuiet order → count_by is_unwritten order ≡ 0
    none_unwritten [] all = refl
    none_unwritten (entry ∷ order) all =
        let rest = none_unwritten order all.1 in
        let first = count_first is_unwritten entry order in
        let here = ap (λ (b : Bool). let n : ℕ = cond b 1 0 in n) all.0.written in
        omega (arith, rest, first, here)

    chronicle_stays : (c : Chronicle) (order : List Taken) → AllQuiet order → chronicle_after c order ≡ c
    chronicle_stays c [] all = refl
    chronicle_stays c (entry ∷ order) all =
        ap (λ (now : Chronicle). chronicle_after now order) (sym (grown_none (opens_generation entry.request) entry.fault entry.changes c all.0.unchanged)) ∙ chronicle_stays c order all.1

    -- none of them is a change
    abbrev NoneIs : List Deed → Taken → List Taken → Bool → Type 0
    NoneIs d entry order fault = (IsChange d (placed_by entry.request fault) → ⊥) × NoChange (after d (done_at step d (placed_by entry.request fault))) (map placed_of order)

    none_changes : (since : ℕ) (start : List Deed) → begins since start → (d : List Deed) → Stand rows d → (order : List Taken) → AllQuiet order → NoChange d (map placed_of order)
    none_changes since start at d stand [] all = tt
    none_changes since start at d stand (entry ∷ order) all = go entry.fault refl (λ next there. none_changes since start at next there order all.1)
      where
        go : (fault : Bool) → entry.fault ≡ fault → ((next : List Deed) → Stand rows next → NoChange next (map placed_of order)) → NoneIs d entry order entry.fault
        go true failed later = subst (NoneIs d entry order) (sym failed) (λ change. true≢false change.0, later d stand)
        go false fine later =
            let next : List Deed = after d (step d entry.request).deeds in
            let there : Stand rows next = all.0.leaves since start at fine d stand in
            subst (NoneIs d entry order) (sym fine) (λ change. no_difference d next (same_stand rows d next stand there) change.1, later next there)

    -- tables and a journal that have run some places have run these behind them
    module _ {D : Type 0} (disk_says : DiskSays D) (images : Files → Type 0) (from : ℕ) (stores : List (List ℕ))
        (tables : Tables) (journal : Journal D) (same : rows_of tables ≡ rows) (since : ℕ) (start : List Deed) (at : begins since start) where
      abbrev Ran : List Placed → Type 0
      Ran places = HasRunBeside disk_says images from stores tables journal since start places

      one_more : (places : List Placed) (entry : Taken) → IsQuiet begins rows end entry → Ran places → Ran (places ++ placed_of entry ∷ [])
      one_more places entry is ran = go entry.fault refl
        where
          go : (fault : Bool) → entry.fault ≡ fault → Ran (places ++ placed_of entry ∷ [])
          go true failed =
              subst (λ (b : Bool). Ran (places ++ placed_by entry.request b ∷ [])) (sym failed)
              (over_faulted disk_says _ _ tables journal since start places entry.request ran)
          go false fine =
              subst (λ (b : Bool). Ran (places ++ placed_by entry.request b ∷ [])) (sym fine)
              (over_idle disk_says _ _ tables journal since start places entry.request ran
              (subst (λ (r : AllRows). LeavesRows r entry.request) (sym same) (is.leaves since start at fine)))

      pub all_more : (order : List Taken) (places : List Placed) → AllQuiet order → Ran places → Ran (places ++ map placed_of order)
      all_more [] places all ran = subst Ran (sym (append-nil places)) ran
      all_more (entry ∷ order) places all ran =
          subst Ran (append_assoc places (placed_of entry ∷ []) (map placed_of order)) (all_more order (places ++ placed_of entry ∷ []) all.1 (one_more places entry all.0 ran))

-- ---- an order that goes on without touching the journal's lane

module _ {D : Type 0} (disk_says : DiskSays D) (rows : AllRows) (end : ℕ) (images : Files → Type 0) (begins : ℕ → List Deed → Type 0) where
  pub goes_on_quietly : (known order : List Taken) → AreQuiet begins rows end order → GoesOnWithout journal_lane known order → GoesOnQuietly disk_says rows end images begins known order
  goes_on_quietly known order all on =
      let behind = on.behind in
      let here : AllByRecursion (IsQuiet begins (rows_after rows known) (end_after end known)) behind =
      all_quiet begins (rows_after rows known) (end_after end known) behind (quiet_behind begins rows end known behind (subst (AreQuiet begins rows end) on.parts all)) on.untouched in
      record {
        begins_it = (behind, sym on.parts);
        rows_are = ap (rows_after rows) on.parts ∙ (rows_append rows known behind ∙ rows_stay begins (rows_after rows known) (end_after end known) behind here);
        end_is = ap (end_after end) on.parts ∙ (end_append known behind end ∙ end_stays begins (rows_after rows known) (end_after end known) behind here);
        stores =
            ap stores_of on.parts
            ∙ (stores_append known behind
            ∙ (ap (λ (l : List (List ℕ)). stores_of known ++ l) (none_stored begins (rows_after rows known) (end_after end known) behind here)
            ∙ append-nil (stores_of known)));
        chronicle = λ c.
            ap (chronicle_after c) on.parts
            ∙ (chronicle_append c known behind ∙ chronicle_stays begins (rows_after rows known) (end_after end known) (chronicle_after c known) behind here);
        idle = λ n since start at stand are.
            subst (AreChanges n start) (sym (ap (map placed_of) on.parts ∙ map-append placed_of known behind))
            (changes_behind n start (map placed_of known) (map placed_of behind) are
            (none_changes begins (rows_after rows known) (end_after end known) since start at (taken step start (map placed_of known)) stand behind here));
        unwritten =
            let parts = ap (count_by is_unwritten) on.parts ∙ count_append is_unwritten known behind in
            let none = none_unwritten begins (rows_after rows known) (end_after end known) behind here in
            omega (arith, parts, none);
        runs = λ tables journal same since start at ran.
            subst (λ (l : List Placed). HasRunBeside disk_says images end (stores_of known) tables journal since start l) (sym (ap (map placed_of) on.parts ∙ map-append placed_of known behind))
            (all_more begins (rows_after rows known) (end_after end known) disk_says images end (stores_of known) tables journal (λ k table. same table k) since start at behind (map placed_of known) here ran);
      }
