-- A place of a run over the depot that replicas follow.
use Rattle.std.proofs.Common.{◌≡◌, ◌≢◌, ◌⊎◌, ◌≤◌, ◌<◌, ◌+◌, ℕ, Bool, true, false, List, [], ◌∷◌, ◌++◌, length, take, inl, inr, refl, sym, ap, subst, ◌∙◌, append-nil, arith, length-append}
use Rattle.std.specs.Prelude.{map}
use Rattle.std.proofs.Math.Nat.{eq-or-lt_of_le}
use Rattle.std.proofs.Math.Seq.{get_or-append_seam, take-append_seam}
use Rattle.std.proofs.lemmas.List.{length-map, map-append}
use Rattle.outside_api.specs.Link.{IsEarlier, text_of}
use Rattle.outside_api.specs.Says.{DiskSays}
use Rattle.archive_file.specs.Archive as archives
use Rattle.depot_commit.specs.command_core.Outcomes.{IsOutcome}
use Rattle.depot_commit.specs.command_core.declared.outcome.Outcome.{Outcome}
use Rattle.depot_rows.specs.db_records.declared.change.Change.{Change}
use Rattle.depot_rows.specs.db_records.declared.table.TableId.TheVariants.{Rev}
use Rattle.depot_rows.specs.depot_model.Deeds.{Deed}
use Rattle.depot_rows.specs.depot_model.Places.{Placed, done_at, taken}
use Rattle.depot_rows.specs.depot_model.Step.{after}
use Rattle.depot_rows.specs.depot_model.declared.request.Request.{Request}
use Rattle.depot_rows.specs.Standing.{Stand}
use Rattle.depot_runs.specs.Kept.{IsChange}
use Rattle.depot_runs.specs.Replica.{IsAfterChanges}
use Rattle.depot_rows.specs.depot_model.Commands.{step}
use Rattle.journal_groups.specs.Groups.{groups_text}
use Rattle.recovery.specs.Holding.{group_texts, spots_end}
use Rattle.replica_pull.specs.Prefix.{HasGrown, first_rows}
use Rattle.replica_pull.proofs.Taking.{groups_joined}
use Rattle.depot_commit.specs.Committing.{AreRowsAfter}
use Rattle.depot_commit.specs.Growing.{Chronicle, HasGroups, KeepsStored, generations_of, grown, with_changes}
use Rattle.depot_commit.specs.Holding.{KeepContents}
use Rattle.depot_commit.specs.Opening.{opens_generation}
use Rattle.serial_depot.specs.Running.{HasRun}
use Rattle.serial_depot.specs.declared.depot.SerialDepot.{SerialDepot}
use Rattle.depot_commit.proofs.Checkpointed.{made_differ}
use Rattle.depot_commit.proofs.Places.{no_difference, same_stand, taken-push}
use Rattle.depot_commit.proofs.Stored.{contents_kept}
use Rattle.session_loop.specs.Taking.{placed_by}
use Rattle.depot_rows.specs.table_changes.Changed.{AllRows, changed_by, rows_of}
use Rattle.replica_turns.specs.Master.{AreChanges, HasNth, IsMaster, IsNth, Past, all_changes, first_of, texts_in}
use Rattle.replica_turns.proofs.OneMore.{IsOneMore, all_now, ends_now, fewer_now, one_longer, one_more, rows_now}
use Rattle.step_limits.specs.Limits.{generation_in}

-- ---- places that are changes

changes_idle : (n : ℕ) (d : List Deed) (places : List Placed) (p : Placed) → AreChanges n d places → (IsChange (taken step d places) p → ⊥) → AreChanges n d (places ++ p ∷ [])
changes_idle n d [] p are idle = inl (idle, are)
changes_idle n d (first ∷ places) p (inl are) idle = inl (are.0, changes_idle n (after d (done_at step d first)) places p are.1 idle)
changes_idle n d (first ∷ places) p (inr are) idle = inr (are.0, are.1, are.2, changes_idle are.1 (after d (done_at step d first)) places p are.3 idle)

changes_more : (n : ℕ) (d : List Deed) (places : List Placed) (p : Placed) → AreChanges n d places → IsChange (taken step d places) p → AreChanges (n + 1) d (places ++ p ∷ [])
changes_more n d [] p are is = inr (is, 0, omega (arith, are), refl)
changes_more n d (first ∷ places) p (inl are) is = inl (are.0, changes_more n (after d (done_at step d first)) places p are.1 is)
changes_more n d (first ∷ places) p (inr are) is =
    let same = are.2 in
    inr (are.0, are.1 + 1, omega (arith, same), changes_more are.1 (after d (done_at step d first)) places p are.3 is)

after_all : (n : ℕ) (d : List Deed) (places : List Placed) → AreChanges n d places → IsAfterChanges n d places (taken step d places)
after_all n d [] are = (are, refl)
after_all n d (first ∷ places) (inl are) = inr (inl (are.0, after_all n (after d (done_at step d first)) places are.1))
after_all n d (first ∷ places) (inr are) = inr (inr (are.0, are.1, are.2, after_all are.1 (after d (done_at step d first)) places are.3))

after_longer : (n : ℕ) (d : List Deed) (places more : List Placed) (e : List Deed) → IsAfterChanges n d places e → IsAfterChanges n d (places ++ more) e
after_longer n d [] [] e is = is
after_longer n d [] (p ∷ more) e is = inl is
after_longer n d (first ∷ places) more e (inl is) = inl is
after_longer n d (first ∷ places) more e (inr (inl is)) = inr (inl (is.0, after_longer n (after d (done_at step d first)) places more e is.1))
after_longer n d (first ∷ places) more e (inr (inr is)) = inr (inr (is.0, is.1, is.2, after_longer is.1 (after d (done_at step d first)) places more e is.3))

pub nth_longer : (past : Past) (start : List Deed) (places more : List Placed) (n : ℕ) (d : List Deed) → IsNth past start places n d → IsNth past start (places ++ more) n d
nth_longer past start places more n d (inl before) = inl before
nth_longer past start places more n d (inr is) = inr (is.0, is.1, after_longer is.0 start places more d is.2)

-- ---- texts that grow

pub earlier_by : (front : List (List ℕ)) (last more : List ℕ) (behind : List (List ℕ)) → IsEarlier (front ++ last ∷ []) (front ++ (last ++ more) ∷ behind)
earlier_by front last more behind =
    let texts = front ++ (last ++ more) ∷ behind in
    let here : text_of texts (length front) ≡ last ++ more = get_or-append_seam front (last ++ more) behind [] in
    let whole : take (length last) (text_of texts (length front)) ≡ last = ap (take (length last)) here ∙ take-append_seam last more in
    let front_is : take (length front) texts ≡ front = take-append_seam front ((last ++ more) ∷ behind) in
    let many = length-append front ((last ++ more) ∷ behind) in
    record {
      newest = length front;
      bytes = length last;
      there = omega (arith, many);
      is = λ i. sym front_is i ++ sym whole i ∷ [];
    }

changes_grow : (opens : Bool) (changes : List Change) (c : Chronicle) → IsEarlier (texts_in c) (texts_in (with_changes opens changes c))
changes_grow opens changes c = go opens
  where
    text : List (List Change) → List ℕ
    text = groups_text 1

    before : map (groups_text 1) (c.closed ++ c.newest ∷ []) ≡ map (groups_text 1) c.closed ++ groups_text 1 c.newest ∷ []
    before = map-append (groups_text 1) c.closed (c.newest ∷ [])

    go : (opens : Bool) → IsEarlier (texts_in c) (texts_in (with_changes opens changes c))
    go false =
        let more = groups_text (1 + length c.newest) (changes ∷ []) in
        let now : map (groups_text 1) (c.closed ++ (c.newest ++ changes ∷ []) ∷ []) ≡ map (groups_text 1) c.closed ++ (groups_text 1 c.newest ++ more) ∷ [] =
        map-append (groups_text 1) c.closed ((c.newest ++ changes ∷ []) ∷ []) ∙ ap (λ (t : List ℕ). map (groups_text 1) c.closed ++ t ∷ []) (groups_joined 1 c.newest (changes ∷ [])) in
        subst (λ (t : List (List ℕ)). IsEarlier t (texts_in (with_changes false changes c))) (sym before)
        (subst (IsEarlier (map (groups_text 1) c.closed ++ groups_text 1 c.newest ∷ [])) (sym now) (earlier_by (map (groups_text 1) c.closed) (groups_text 1 c.newest) more []))
    go true =
        let now : map (groups_text 1) ((c.closed ++ c.newest ∷ []) ++ [] ∷ []) ≡ map (groups_text 1) c.closed ++ (groups_text 1 c.newest ++ []) ∷ [] ∷ [] =
        map-append (groups_text 1) (c.closed ++ c.newest ∷ []) ([] ∷ [])
        ∙ ap (λ (t : List (List ℕ)). t ++ [] ∷ []) before
        ∙ seam (map (groups_text 1) c.closed) (groups_text 1 c.newest)
        ∙ ap (λ (t : List ℕ). map (groups_text 1) c.closed ++ t ∷ [] ∷ []) (sym (append-nil (groups_text 1 c.newest))) in
        subst (λ (t : List (List ℕ)). IsEarlier t (texts_in (with_changes true changes c))) (sym before)
        (subst (IsEarlier (map (groups_text 1) c.closed ++ groups_text 1 c.newest ∷ [])) (sym now) (earlier_by (map (groups_text 1) c.closed) (groups_text 1 c.newest) [] ([] ∷ [])))
      where
        seam : (front : List (List ℕ)) (last : List ℕ) → (front ++ last ∷ []) ++ [] ∷ [] ≡ front ++ last ∷ [] ∷ []
        seam [] last = refl
        seam (x ∷ front) last = ap (λ (t : List (List ℕ)). x ∷ t) (seam front last)

pub texts_grow : (opens fault : Bool) (changes : List Change) (c : Chronicle) → HasGrown (texts_in c) (texts_in (grown opens fault changes c))
texts_grow opens fault [] c = inl refl
texts_grow opens true (change ∷ changes) c = inl refl
texts_grow opens false (change ∷ changes) c = inr (changes_grow opens (change ∷ changes) c)

-- ---- what stays

module _ {D : Type 0} (disk_says : DiskSays D) (past : Past) (start : List Deed) (places : List Placed) (old new : SerialDepot D) (c : Chronicle) (master : IsMaster disk_says past start places old c)
    (stored : KeepsStored disk_says old.archive new.archive) where
  -- what the archive has it keeps
  nth_kept : (Known : ℕ → List Deed → Type 0) → ((n : ℕ) (d : List Deed) → IsNth past start places n d → Known n d) → (now : Chronicle) (n : ℕ) → first_rows n (generations_of now) ≡ first_rows n (generations_of c)
      → n ≤ length (all_changes c) → HasNth disk_says new.archive (Known n) now n
  nth_kept Known more now n same within =
      let was = master.each n within in
      let old_images = disk_says.may_leave (archives.disk_of old.archive) in
      let new_images = disk_says.may_leave (archives.disk_of new.archive) in
      let kept = contents_kept old_images new_images (archives.used_of old.archive) (archives.used_of new.archive) (first_rows n (generations_of c)) was.depot stored.more stored.below was.stand was.kept in
      record {
        depot = was.depot;
        is = more n was.depot was.is;
        stand = subst (λ (rows : AllRows). Stand rows was.depot) (sym same) was.stand;
        kept = subst (λ (rows : AllRows). KeepContents new_images (archives.used_of new.archive) rows was.depot) (sym same) kept;
      }

  -- where the rows stay, so does the end of their spots
  ends_stay : rows_of new.tables ≡ rows_of old.tables → (n : ℕ) → n ≤ length (all_changes c) → spots_end (first_of n c Rev) ≤ spots_end (rows_of new.tables Rev)
  ends_stay same n within = subst (λ (rows : AllRows). spots_end (first_of n c Rev) ≤ spots_end (rows Rev)) (sym same) (master.ends n within)

  -- no command was taken
  pub unmoved_master : rows_of new.tables ≡ rows_of old.tables → HasGroups disk_says new.journal c → IsMaster disk_says past start places new c
  unmoved_master same groups = record {
    groups = groups;
    rows = same ∙ master.rows;
    changes = master.changes;
    count = master.count;
    are_changes = master.are_changes;
    each = λ n within. nth_kept (IsNth past start places) (λ k d is. is) c n refl within;
    ends = ends_stay same;
    fit = master.fit;
  }

-- ---- a place

module _ {D : Type 0} (disk_says : DiskSays D) (past : Past) (start : List Deed) (places : List Placed) (old new : SerialDepot D) (c : Chronicle)
    (master : IsMaster disk_says past start places old c) (since : ℕ) (h : HasRun disk_says old since start places) (stored : KeepsStored disk_says old.archive new.archive) where
  abbrev current : List Deed
  current = taken step start places

  -- nothing was written
  quiet_place : (p : Placed) → (IsChange current p → ⊥) → rows_of new.tables ≡ rows_of old.tables → HasGroups disk_says new.journal c → IsMaster disk_says past start (places ++ p ∷ []) new c
  quiet_place p idle same groups = record {
    groups = groups;
    rows = same ∙ master.rows;
    changes = master.changes;
    count = master.count;
    are_changes = changes_idle master.changes start places p master.are_changes idle;
    each = λ n within. nth_kept disk_says past start places old new c master stored (IsNth past start (places ++ p ∷ [])) (nth_longer past start places (p ∷ [])) c n refl within;
    ends = ends_stay disk_says past start places old new c master stored same;
    fit = master.fit;
  }

  -- one change more
  module _ (p : Placed) (is : IsChange current p) (now : Chronicle) (groups : HasGroups disk_says new.journal now) (ran : HasRun disk_says new since start (places ++ p ∷ []))
      (m : IsOneMore c now (rows_of old.tables) (rows_of new.tables)) where
    now_changes : AreChanges (master.changes + 1) start (places ++ p ∷ [])
    now_changes = changes_more master.changes start places p master.are_changes is

    counted : length (all_changes now) ≡ past.count + (master.changes + 1)
    counted = let was = master.count in let all = one_longer c now (rows_of old.tables) (rows_of new.tables) master.rows m in omega (arith, was, all)

    nth_now : (n : ℕ) → (n ≡ length (all_changes now)) ⊎ (n < length (all_changes now)) → HasNth disk_says new.archive (IsNth past start (places ++ p ∷ []) n) now n
    nth_now n (inl last) =
        let same = all_now c now (rows_of old.tables) (rows_of new.tables) master.rows m n last in
        let images = disk_says.may_leave (archives.disk_of new.archive) in
        record {
          depot = taken step start (places ++ p ∷ []);
          is = inr (master.changes + 1, last ∙ counted, after_all (master.changes + 1) start (places ++ p ∷ []) now_changes);
          stand = subst (λ (r : AllRows). Stand r (taken step start (places ++ p ∷ []))) (sym same) ran.over.stand;
          kept = subst (λ (r : AllRows). KeepContents images (archives.used_of new.archive) r (taken step start (places ++ p ∷ []))) (sym same) ran.over.kept;
        }
    nth_now n (inr less) =
        let within : n ≤ length (all_changes c) = (let all = one_longer c now (rows_of old.tables) (rows_of new.tables) master.rows m in omega (arith, less, all)) in
        nth_kept disk_says past start places old new c master stored (IsNth past start (places ++ p ∷ [])) (nth_longer past start places (p ∷ [])) now n
        (fewer_now c now (rows_of old.tables) (rows_of new.tables) master.rows m n within) within

    changed_place : IsMaster disk_says past start (places ++ p ∷ []) new now
    changed_place = record {
      groups = groups;
      rows = rows_now c now (rows_of old.tables) (rows_of new.tables) master.rows m;
      changes = master.changes + 1;
      count = counted;
      are_changes = now_changes;
      each = λ n within. nth_now n (eq-or-lt_of_le within);
      ends = ends_now c now (rows_of old.tables) (rows_of new.tables) master.rows m master.ends;
      fit = λ first. m.fit (master.fit first);
    }

  -- ---- the place of a request

  module _ (request : Request) (outcome : Outcome) (is : IsOutcome (rows_of old.tables) old.tables.archive_end current request outcome) where
    -- the generation that it tells
    generation_is : generation_in current ≡ length c.closed
    generation_is =
        let told = h.over.generation in
        let stands = h.over.stands.generation in
        let count = master.groups.keeps.count in
        let same = length-map c.closed (group_texts 1) in
        omega (arith, told, stands, count, same)

    written : outcome.changes ≢ [] → HasRun disk_says new since start (places ++ placed_by request false ∷ []) → rows_of new.tables ≡ changed_by (rows_of old.tables) outcome.changes
        → HasGroups disk_says new.journal (with_changes (opens_generation request) outcome.changes c)
        → IsMaster disk_says past start (places ++ placed_by request false ∷ []) new (with_changes (opens_generation request) outcome.changes c)
    written some ran rows groups =
        let now = with_changes (opens_generation request) outcome.changes c in
        changed_place (placed_by request false) (refl, made_differ (rows_of old.tables) current request outcome.changes h.over.stand is.changes some) now groups ran
        (subst (IsOneMore c now (rows_of old.tables)) (sym rows) (one_more (rows_of old.tables) current request outcome.changes h.over.stand is.changes some c master.rows generation_is))

    pub place_master : (fault : Bool) → HasRun disk_says new since start (places ++ placed_by request fault ∷ []) → AreRowsAfter (rows_of old.tables) outcome.changes fault (rows_of new.tables)
        → HasGroups disk_says new.journal (grown (opens_generation request) fault outcome.changes c)
        → IsMaster disk_says past start (places ++ placed_by request fault ∷ []) new (grown (opens_generation request) fault outcome.changes c)
    place_master fault ran rows groups = go fault outcome.changes refl ran rows groups
      where
        go : (fault : Bool) (changes : List Change) → outcome.changes ≡ changes → HasRun disk_says new since start (places ++ placed_by request fault ∷ [])
            → AreRowsAfter (rows_of old.tables) changes fault (rows_of new.tables) → HasGroups disk_says new.journal (grown (opens_generation request) fault changes c)
            → IsMaster disk_says past start (places ++ placed_by request fault ∷ []) new (grown (opens_generation request) fault changes c)
        go true [] same ran rows groups = quiet_place (placed_by request true) (λ change. let e = change.0 in cc) rows groups
        go true (change ∷ changes) same ran rows groups = quiet_place (placed_by request true) (λ change. let e = change.0 in cc) rows groups
        go false [] same ran rows groups =
            let after_it : Stand (rows_of old.tables) (after current (step current request).deeds) =
            subst (λ (r : AllRows). Stand r (after current (step current request).deeds)) rows
            (subst (Stand (rows_of new.tables)) (taken-push start places (placed_by request false)) ran.over.stand) in
            quiet_place (placed_by request false)
            (λ change. no_difference current (after current (step current request).deeds) (same_stand (rows_of old.tables) current (after current (step current request).deeds) h.over.stand after_it) change.1) rows groups
        go false (change ∷ changes) same ran rows groups =
            let some : outcome.changes ≢ [] = λ none. (let e = sym same ∙ none in cc) in
            let Grows : List Change → Type 0 = λ cs. HasGroups disk_says new.journal (with_changes (opens_generation request) cs c) in
            let Is : List Change → Type 0 = λ cs. IsMaster disk_says past start (places ++ placed_by request false ∷ []) new (with_changes (opens_generation request) cs c) in
            subst Is same (written some ran (rows ∙ ap (changed_by (rows_of old.tables)) (sym same)) (subst Grows (sym same) groups))
