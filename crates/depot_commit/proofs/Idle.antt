-- A place at which nothing is written, or was, since a disk failed.
use Rattle.std.proofs.Common.{◌≡◌, ℕ, Bool, true, false, List, [], ◌∷◌, ◌++◌, refl, sym, ap, subst, ◌∙◌, ⊎_elim}
use Rattle.std.specs.Prelude.{if◌then◌else◌}
use Rattle.std.proofs.lemmas.Bool.{true≢false}
use Rattle.outside_api.specs.Count.{HasRisen}
use Rattle.outside_api.specs.Disk.{Files}
use Rattle.outside_api.specs.Says.{DiskSays}
use Rattle.command_core.specs.declared.outcome.Outcome.{Outcome}
use Rattle.disk_journal.specs.declared.journal.Journal.{Journal}
use Rattle.depot_rows.specs.db_records.declared.change.Change.{Change}
use Rattle.depot_rows.specs.depot_model.Deeds.{Deed}
use Rattle.depot_rows.specs.depot_model.Places.{Placed}
use Rattle.depot_rows.specs.depot_model.declared.request.Request.{Request}
use Rattle.depot_rows.specs.table_changes.Changed.{AllRows, changed_by, rows_of}
use Rattle.depot_rows.specs.table_store.declared.tables.Tables.{Tables}
use Rattle.session_loop.specs.Taking.{IsProper, placed_by}
use Rattle.sound_requests.specs.Asked.{is_typed}
use Rattle.depot_commit.specs.Committing.{AreChangesOf, AreRowsAfter, IsOutcomeOf}
use Rattle.depot_commit.specs.Growing.{Chronicle, HasGroups, grown}
use Rattle.depot_commit.specs.Placing.{AreCounted, HasLanded, HasRunBeside}
use Rattle.depot_commit.specs.Running.{HasRunOver}
use Rattle.depot_commit.specs.Storing.{stores_end}
use Rattle.depot_commit.specs.Telling.{IsTold, IsUnwritten}
use Rattle.depot_commit.specs.declared.landing.Landed.{Landed}
use Rattle.depot_commit.specs.declared.telling.Told.{Told}
use Rattle.depot_commit.proofs.Beside.{beside_same}
use Rattle.depot_commit.proofs.Growing.{grown_fault, grown_none}
use Rattle.depot_commit.proofs.Outcomes.{told_changes}
use Rattle.depot_commit.proofs.Steps.{over_faulted, over_idle}

-- where all could be read it changes nothing
pub none_changed : (told : Told) → IsUnwritten told → told.unread ≡ false → told.changes ≡ []
none_changed told unwritten read = ⊎_elim (λ none. none) (λ unread. absurd (true≢false (sym unread ∙ read))) unwritten

module _ (told : Told) (unwritten : IsUnwritten told) where
  -- nothing is changed
  pub none_kept : [] ≡ (if told.unread then [] else told.changes)
  none_kept = go told.unread refl
    where
      go : (unread : Bool) → told.unread ≡ unread → [] ≡ (if unread then [] else told.changes)
      go true is = refl
      go false is = sym (none_changed told unwritten is)

  -- the rows stay
  pub rows_unwritten : (rows : AllRows) → AreRowsAfter rows told.changes told.unread rows
  rows_unwritten rows = go told.unread refl
    where
      go : (unread : Bool) → told.unread ≡ unread → AreRowsAfter rows told.changes unread rows
      go true is = refl
      go false is = ap (changed_by rows) (sym (none_changed told unwritten is))

  -- so do the groups
  pub grown_unwritten : (opens : Bool) (c : Chronicle) → c ≡ grown opens told.unread told.changes c
  grown_unwritten opens c = go told.unread refl
    where
      go : (unread : Bool) → told.unread ≡ unread → c ≡ grown opens unread told.changes c
      go true is = grown_fault opens told.changes c
      go false is = grown_none opens false told.changes c (none_changed told unwritten is)

  -- tables and a journal have run one place more
  module _ {D : Type 0} {disk_says : DiskSays D} {images : Files → Type 0} {used : ℕ} {tables : Tables} {journal : Journal D} {since : ℕ} {start : List Deed} {places : List Placed} where
    pub ran_unwritten : HasRunOver disk_says images used tables journal since start places → (request : Request) (outcome : Outcome) → IsProper request → is_typed request ≡ true
        → IsOutcomeOf (rows_of tables) tables.archive_end request outcome → IsTold outcome request.number told → HasRunOver disk_says images used tables journal since start (places ++ placed_by request told.unread ∷ [])
    ran_unwritten h request outcome proper typed is t = go told.unread refl
      where
        made : AreChangesOf (rows_of tables) request told.changes
        made = told_changes h.stand is t proper typed

        go : (unread : Bool) → told.unread ≡ unread → HasRunOver disk_says images used tables journal since start (places ++ placed_by request unread ∷ [])
        go true unread = over_faulted disk_says images used tables journal since start places request h
        go false read =
            over_idle disk_says images used tables journal since start places request h
            (subst (AreChangesOf (rows_of tables) request) (none_changed told unwritten read) made).stand

-- ---- a command for which nothing counts as stored

module _ {D : Type 0} {disk_says : DiskSays D} {fault was : Bool} (is : fault ≡ was) where
  pub nothing_grows : {journal : Journal D} (opens : Bool) (changes : List Change) {c : Chronicle} → c ≡ grown opens was changes c → HasGroups disk_says journal c → HasGroups disk_says journal (grown opens fault changes c)
  nothing_grows {journal} opens changes {c} same has = subst (λ (b : Bool). HasGroups disk_says journal (grown opens b changes c)) (sym is) (subst (HasGroups disk_says journal) same has)

  pub grows_as : {journal : Journal D} (opens : Bool) {changes same : List Change} → changes ≡ same → (c : Chronicle) → HasGroups disk_says journal (grown opens was changes c) → HasGroups disk_says journal (grown opens fault same c)
  grows_as {journal} opens {changes} {same} e c has = subst (λ (b : Bool). HasGroups disk_says journal (grown opens b same c)) (sym is) (subst (λ (l : List Change). HasGroups disk_says journal (grown opens was l c)) e has)

  pub ran_as : {stored stores : List (List ℕ)} → stored ≡ stores → {images : Files → Type 0} {from : ℕ} (before : List (List ℕ)) {tables : Tables} {journal : Journal D} {since : ℕ} {start : List Deed} (places : List Placed) (request : Request)
      → HasRunBeside disk_says images from (before ++ stores) tables journal since start (places ++ placed_by request was ∷ []) → HasRunBeside disk_says images from (before ++ stored) tables journal since start (places ++ placed_by request fault ∷ [])
  ran_as {stored} {stores} same {images} {from} before {tables} {journal} {since} {start} places request h =
      let Ran : List (List ℕ) → Bool → Type 0 = λ more b. HasRunBeside disk_says images from (before ++ more) tables journal since start (places ++ placed_by request b ∷ []) in
      subst (λ (more : List (List ℕ)). Ran more fault) (sym same) (subst (Ran stores) (sym is) h)

  pub nothing_ran : {stored : List (List ℕ)} → stored ≡ [] → {images : Files → Type 0} {from : ℕ} {before : List (List ℕ)} {tables : Tables} {journal : Journal D} {since : ℕ} {start : List Deed} (places : List Placed) (request : Request)
      → HasRunBeside disk_says images from before tables journal since start (places ++ placed_by request was ∷ []) → HasRunBeside disk_says images from (before ++ stored) tables journal since start (places ++ placed_by request fault ∷ [])
  nothing_ran none {images} {from} {before} {tables} {journal} {since} {start} places request h =
      ran_as none before places request (beside_same disk_says images from tables journal since start (places ++ placed_by request was ∷ []) before h)

module _ {told : Told} {landed : Landed} where
  -- as much of the store is used as was
  pub landed_nothing : {S : Type 0} {stores : List (List ℕ) → S → S → Type 0} {used : ℕ} {old new : S} → (landed.changes ≡ []) × (landed.stored ≡ []) → [] ≡ (if landed.answer.place.fault then [] else told.changes)
      → stores [] old new → HasLanded stores told landed used used old new
  landed_nothing {S} {stores} {used} {old} {new} nothing unchanged unstored = record {
    stored = subst (λ (l : List (List ℕ)). stores l old new) (sym nothing.1) unstored;
    end = ap (λ (l : List (List ℕ)). stores_end l used) (sym nothing.1);
    none = λ none. nothing.1;
    changes = nothing.0 ∙ unchanged;
  }

  -- a disk failed
  pub counted_fault : {before now contents_before contents_now : ℕ} → landed.answer.place.fault ≡ true → (landed.lost ≡ false → HasRisen before now)
      → (landed.lost ≡ true → HasRisen contents_before contents_now) → AreCounted told landed before now contents_before contents_now
  counted_fault fault risen risen_contents = record {
    only = λ whole. absurd (true≢false (sym fault ∙ whole));
    only_contents = λ whole. absurd (true≢false (sym fault ∙ whole));
    read = λ whole. absurd (true≢false (sym fault ∙ whole));
    cause = λ failed kept. risen kept;
    cause_contents = λ lost whole. risen_contents lost;
    lost = λ lost. fault;
  }
