-- What a journal has makes the rows of the tables, and fits, when a command is committed.
use Rattle.std.proofs.Common.{◌≡◌, ◌≢◌, ◌+◌, ℕ, suc, Bool, true, false, List, [], ◌∷◌, ◌++◌, length, refl, sym, ap, subst, ◌∙◌, append-nil, arith}
use Rattle.std.proofs.lemmas.List.{length-append, length-map}
use Rattle.depot_commit.proofs.Checkpointed.{made_opened, next_told}
use Rattle.depot_commit.specs.Committing.{AreRowsAfter}
use Rattle.depot_commit.specs.Growing.{Chronicle, HasGroups, grown, with_changes}
use Rattle.depot_commit.specs.Opening.{opens_generation}
use Rattle.depot_commit.specs.Running.{HasRunOver}
use Rattle.depot_commit.specs.command_core.Outcomes.{IsOutcome}
use Rattle.depot_commit.specs.command_core.declared.outcome.Outcome.{Outcome}
use Rattle.depot_rows.specs.db_records.declared.change.Change.{Change}
use Rattle.depot_rows.specs.depot_model.Commands.{step}
use Rattle.depot_rows.specs.depot_model.Deeds.{Deed}
use Rattle.depot_rows.specs.depot_model.Places.{Placed, taken}
use Rattle.depot_rows.specs.depot_model.declared.request.Request.{Request}
use Rattle.depot_rows.specs.table_changes.Changed.{AllFitIn, AllRows, changed_by, changed_in, no_rows, rows_of}
use Rattle.depot_rows.specs.table_store.declared.tables.Tables.{Tables}
use Rattle.disk_journal.specs.declared.journal.Journal.{Journal}
use Rattle.outside_api.specs.Disk.{Files}
use Rattle.outside_api.specs.Says.{DiskSays}
use Rattle.recovery.specs.Holding.{group_texts, joined}
use Rattle.replica_pull.proofs.Counted.{rows_on, with_groups, with_next}
use Rattle.replica_pull.specs.Prefix.{begun}
use Rattle.replica_turns.proofs.Fits.{fit_next, fit_with}
use Rattle.replica_turns.specs.Master.{Past, all_changes}
use Rattle.shared_depot.specs.Common.{HasFitGroups}
use Rattle.step_limits.specs.Limits.{generation_in}

module _ {D : Type 0} (disk_says : DiskSays D) (past : Past) (tables tables' : Tables) (journal journal' : Journal D) (c : Chronicle) (before : HasFitGroups disk_says past tables journal c)
    (images : Files → Type 0) (used since : ℕ) (start : List Deed) (places : List Placed) (h : HasRunOver disk_says images used tables journal since start places)
    (request : Request) (outcome : Outcome) (is : IsOutcome (rows_of tables) tables.archive_end (taken step start places) request outcome) where
  -- the generation that it tells
  generation_is : generation_in (taken step start places) + 1 ≡ suc (length c.closed)
  generation_is =
      let told = h.generation in
      let stands = h.stands.generation in
      let count = before.groups.keeps.count in
      let same = length-map c.closed (group_texts 1) in
      omega (arith, told, stands, count, same)

  -- the rows after these changes more
  rows_with : (now : Chronicle) (extra : List (List Change)) → all_changes now ≡ all_changes c ++ extra → rows_of tables' ≡ changed_by (rows_of tables) (joined extra) → rows_of tables' ≡ changed_by no_rows (joined (all_changes now))
  rows_with now extra more rows =
      rows
      ∙ ap (λ (r : AllRows). changed_by r (joined extra)) before.rows
      ∙ sym (rows_on (all_changes c) extra)
      ∙ ap (λ (l : List (List Change)). changed_by no_rows (joined l)) (sym more)

  written_as : (opens : Bool) → opens_generation request ≡ opens → outcome.changes ≢ [] → rows_of tables' ≡ changed_by (rows_of tables) outcome.changes
      → HasGroups disk_says journal' (with_changes opens outcome.changes c) → HasFitGroups disk_says past tables' journal' (with_changes opens outcome.changes c)
  written_as false opening some rows groups = record {
    groups = groups;
    rows = rows_with (with_changes false outcome.changes c) (outcome.changes ∷ []) (with_groups 0 c.closed c.newest (outcome.changes ∷ []))
        (rows ∙ ap (changed_by (rows_of tables)) (sym (append-nil outcome.changes)));
    fit = λ first. fit_with 0 no_rows c.closed c.newest (outcome.changes ∷ []) (before.fit first)
        (subst (AllFitIn (changed_by no_rows (joined (all_changes c)))) (sym (append-nil outcome.changes)) (subst (λ (r : AllRows). AllFitIn r outcome.changes) before.rows is.changes.fit));
  }
  written_as true opening some rows groups =
      let index : suc (length c.closed) ≡ 0 + length (c.closed ++ c.newest ∷ []) = (let all = length-append c.closed (c.newest ∷ []) in omega (arith, all)) in
      let opened = made_opened (rows_of tables) (taken step start places) request outcome.changes h.stand is.changes some opening in
      let told = generation_in (taken step start places) + 1 in
      let begins : changed_in (rows_of tables) (next_told told) ≡ changed_by (rows_of tables) (joined (begun (suc (length c.closed)))) = ap (λ (n : ℕ). changed_in (rows_of tables) (next_told n)) generation_is in
      record {
        groups = groups;
        rows = rows_with (with_changes true outcome.changes c) (begun (suc (length c.closed))) (with_next 0 (c.closed ++ c.newest ∷ []) (suc (length c.closed)) index) (rows ∙ (opened ∙ begins));
        fit = λ first. fit_next 0 no_rows (c.closed ++ c.newest ∷ []) (before.fit first);
      }

  -- the place of the request
  pub written_placed : (fault : Bool) → AreRowsAfter (rows_of tables) outcome.changes fault (rows_of tables') → HasGroups disk_says journal' (grown (opens_generation request) fault outcome.changes c)
      → HasFitGroups disk_says past tables' journal' (grown (opens_generation request) fault outcome.changes c)
  written_placed fault rows groups = go fault outcome.changes refl rows groups
    where
      go : (fault : Bool) (changes : List Change) → outcome.changes ≡ changes → AreRowsAfter (rows_of tables) changes fault (rows_of tables') → HasGroups disk_says journal' (grown (opens_generation request) fault changes c)
          → HasFitGroups disk_says past tables' journal' (grown (opens_generation request) fault changes c)
      go true [] same rows groups = record { groups = groups; rows = rows ∙ before.rows; fit = before.fit }
      go true (change ∷ changes) same rows groups = record { groups = groups; rows = rows ∙ before.rows; fit = before.fit }
      go false [] same rows groups = record { groups = groups; rows = rows ∙ before.rows; fit = before.fit }
      go false (change ∷ changes) same rows groups =
          let some : outcome.changes ≢ [] = λ none. (let e = sym same ∙ none in cc) in
          let Grows : List Change → Type 0 = λ cs. HasGroups disk_says journal' (with_changes (opens_generation request) cs c) in
          let Is : List Change → Type 0 = λ cs. HasFitGroups disk_says past tables' journal' (with_changes (opens_generation request) cs c) in
          subst Is same (written_as (opens_generation request) refl some (rows ∙ ap (changed_by (rows_of tables)) (sym same)) (subst Grows (sym same) groups))
