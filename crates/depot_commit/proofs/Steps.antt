-- Tables and a journal after one place more.
use Rattle.std.proofs.Common.{◌≡◌, ◌⊎◌, ℕ, true, false, List, [], ◌∷◌, ◌++◌, length, refl, sym, ap, subst, ◌∙◌, inl, inr, ⊎_elim, arith, append_assoc}
use Rattle.std.proofs.lemmas.List.{length_push}
use Rattle.std.specs.Prelude.{codes}
use Rattle.depot_rows.specs.db_records.declared.key.Key.TheVariants as keys
use Rattle.outside_api.specs.Disk.{Files}
use Rattle.outside_api.specs.Moments.{LeavesOnly}
use Rattle.outside_api.specs.Says.{DiskSays}
use Rattle.depot_rows.specs.db_records.declared.change.Change.{Change}
use Rattle.disk_journal.specs.Images.{Committed, HasCommitted}
use Rattle.disk_journal.specs.Stands.{Doubtful, nothing, group, opening, HasWithOrWithout, Stands}
use Rattle.disk_journal.specs.declared.journal.Journal.{Journal}
use Rattle.depot_rows.specs.table_changes.Changed.{AllRows, changed_by, rows_of}
use Rattle.depot_rows.specs.table_store.declared.tables.Tables.{Tables}
use Rattle.depot_rows.specs.depot_model.Commands.{step}
use Rattle.depot_rows.specs.depot_model.Deeds.{Deed}
use Rattle.depot_runs.specs.Kept.{IsChange}
use Rattle.depot_rows.specs.depot_model.Places.{Placed, taken}
use Rattle.depot_rows.specs.depot_model.Records.{SameRows}
use Rattle.depot_rows.specs.depot_model.Rules.{value_of}
use Rattle.depot_rows.specs.depot_model.Step.{after}
use Rattle.depot_rows.specs.depot_model.Steps.Submitting.{content_at}
use Rattle.depot_rows.specs.depot_model.declared.request.Request.{Request}
use Rattle.depot_rows.specs.Standing.{Stand}
use Rattle.recovery.specs.Holding.{HasAllRows}
use Rattle.session_loop.specs.Taking.{placed_by}
use Rattle.depot_commit.specs.Holding.{KeepContents, StandsWith, IsKeptSometime}
use Rattle.depot_commit.specs.Placing.{LeavesRows}
use Rattle.depot_commit.specs.Writing.{IsLeft, with_doubtful}
use Rattle.depot_commit.specs.Running.{IsOfFault, IsDoubtOf, IsWrittenFor, HasRunOver}
use Rattle.depot_commit.proofs.Contents.{contents_alike}
use Rattle.depot_commit.proofs.Kept.{kept_in_doubt, kept_now, told_with}
use Rattle.depot_commit.proofs.Places.{taken-push, taken-append, quiet_more, same_stand, no_difference, kept_more, kept_whole}
use Rattle.depot_commit.proofs.Staying.{contents_stay}
use Rattle.step_limits.specs.Limits.{generation_in}
use Rattle.depot_facts.specs.Contents.{SameContents}

true_is_not_false : true ≡ false → ⊥
true_is_not_false e = cc

-- kept for some of the first places, with one place more
sometime_more : (images : Files → Type 0) (used : ℕ) (start : List Deed) (places : List Placed) (p : Placed) (image : Files) → IsKeptSometime images used start places image → IsKeptSometime images used start (places ++ p ∷ []) image
sometime_more images used start places p image (k, le, kept) = (k, omega (arith, length_push places p), kept_more (StandsWith images used image) start places p k le kept)

-- the depot after a fault place, which does nothing, and the places after it
behind_fault : (images : Files → Type 0) (used : ℕ) (rows : AllRows) (was : Committed) (doubt : Doubtful) (start : List Deed) (places : List Placed) → (f : IsOfFault images used rows was doubt start places) → taken step start places ≡ taken step (taken step start f.before) f.later
behind_fault images used rows was doubt start places f = ap (taken step start) f.parts ∙ taken-append start f.before (placed_by f.request true ∷ f.later)

module _ (images : Files → Type 0) (used : ℕ) (rows : AllRows) (was : Committed) (start : List Deed) (places : List Placed) (p : Placed) (idle : IsChange (taken step start places) p → ⊥)
    (same_contents : SameContents (taken step start places) (taken step start (places ++ p ∷ []))) where
  fault_more : (doubt : Doubtful) → IsOfFault images used rows was doubt start places → IsOfFault images used rows was doubt start (places ++ p ∷ [])
  fault_more doubt f =
      let Idle : List Deed → Type 0 = λ d. IsChange d p → ⊥ in
      record {
        before = f.before;
        request = f.request;
        later = f.later ++ p ∷ [];
        parts = ap (λ (ps : List Placed). ps ++ p ∷ []) f.parts ∙ append_assoc f.before (placed_by f.request true ∷ f.later) (p ∷ []);
        quiet = quiet_more (taken step start f.before) f.later p f.quiet (subst Idle (behind_fault images used rows was doubt start places f) idle);
        stand = f.stand;
        same_contents = λ path n. f.same_contents path n ∙ same_contents path n;
        writes = f.writes;
        kept = f.kept;
      }

  -- one more place, after which the depot is another with the same rows and contents, leaves in doubt what was
  doubt_more : (doubt : Doubtful) → IsDoubtOf images used rows was start places doubt → IsDoubtOf images used rows was start (places ++ p ∷ []) doubt
  doubt_more nothing h = tt
  doubt_more (group text) f = fault_more (group text) f
  doubt_more (opening checkpoint) f = fault_more (opening checkpoint) f

-- an image with or without what was written
either_way : (was : Committed) (written : Doubtful) (image : Files) → HasWithOrWithout was written image → HasCommitted was image ⊎ HasCommitted (with_doubtful was written) image
either_way was nothing image committed = inl committed
either_way was (group text) image either = either
either_way was (opening checkpoint) image either = either

-- what was written is in doubt, where a fault place has written it
doubt_of_it : (images : Files → Type 0) (used : ℕ) (rows : AllRows) (was : Committed) (start : List Deed) (places : List Placed) (written : Doubtful)
    → IsOfFault images used rows was written start places → IsDoubtOf images used rows was start places written
doubt_of_it images used rows was start places nothing f = tt
doubt_of_it images used rows was start places (group text) f = f
doubt_of_it images used rows was start places (opening checkpoint) f = f

module _ {D : Type 0} (disk_says : DiskSays D) (images : Files → Type 0) (used : ℕ) (tables : Tables) (journal : Journal D) (since : ℕ) (start : List Deed) (places : List Placed) (request : Request)
    (h : HasRunOver disk_says images used tables journal since start places) where
  abbrev current : List Deed
  current = taken step start places

  abbrev deeds : List Deed
  deeds = (step current request).deeds

  abbrev rows : AllRows
  rows = rows_of tables

  abbrev done : List Placed
  done = places ++ placed_by request false ∷ []

  abbrev failed : List Placed
  failed = places ++ placed_by request true ∷ []

  done_is : taken step start done ≡ after current deeds
  done_is = taken-push start places (placed_by request false)

  failed_is : taken step start failed ≡ current
  failed_is = taken-push start places (placed_by request true)

  -- a fault place leaves the contents
  contents_failed : SameContents current (taken step start failed)
  contents_failed path n = ap (λ (d : List Deed). content_at d path n) (sym failed_is)

  -- a disk failed before the commit
  pub over_faulted : HasRunOver disk_says images used tables journal since start failed
  over_faulted =
      let On : List Deed → Type 0 = Stand rows in
      let With : List Deed → Type 0 = KeepContents images used rows in
      record {
        was = h.was;
        doubt = h.doubt;
        stands = h.stands;
        has = h.has;
        stand = subst On (sym failed_is) h.stand;
        generation = ap generation_in failed_is ∙ h.generation;
        kept = subst With (sym failed_is) h.kept;
        in_doubt = doubt_more images used rows h.was start places (placed_by request true) (λ change. absurd (true_is_not_false change.0)) contents_failed h.doubt h.in_doubt;
        later = h.later;
        any_moment = λ image left. sometime_more images used start places (placed_by request true) image (h.any_moment image left);
      }

  -- the command changed no row
  pub over_idle : LeavesRows rows request → HasRunOver disk_says images used tables journal since start done
  over_idle leaves =
      let stand : Stand rows (after current deeds) = leaves current h.stand in
      let same_rows : SameRows current (after current deeds) = same_stand rows current (after current deeds) h.stand stand in
      let same_contents : SameContents current (after current deeds) = contents_stay current deeds h.stand.sound stand.sound same_rows in
      let On : List Deed → Type 0 = Stand rows in
      let With : List Deed → Type 0 = KeepContents images used rows in
      let Contents : List Deed → Type 0 = SameContents current in
      record {
        was = h.was;
        doubt = h.doubt;
        stands = h.stands;
        has = h.has;
        stand = subst On (sym done_is) stand;
        generation = ap generation_in done_is ∙ (sym (ap value_of (same_rows (keys.Counter (codes "journal")))) ∙ h.generation);
        kept = subst With (sym done_is) (record {
          ends = h.kept.ends;
          deletes = h.kept.deletes;
          contents = λ archive here. contents_alike rows rows current (after current deeds) archive archive refl refl same_contents (h.kept.contents archive here);
        });
        in_doubt = doubt_more images used rows h.was start places (placed_by request false) (λ change. no_difference current (after current deeds) same_rows change.1) (subst Contents (sym done_is) same_contents) h.doubt h.in_doubt;
        later = h.later;
        any_moment = λ image left. sometime_more images used start places (placed_by request false) image (h.any_moment image left);
      }

  module _ (tables' : Tables) (journal' : Journal D) (written : Doubtful) (writes : IsWrittenFor rows h.was request written)
      (with_contents : KeepContents images used (changed_by rows writes.changes) (after current deeds)) (leaves : LeavesOnly disk_says journal.disk journal'.disk (HasWithOrWithout h.was written)) where
    abbrev changes : List Change
    changes = writes.changes

    -- each image since is kept, where each that has what was written is
    moments : (p : Placed) → ((image : Files) → HasCommitted (with_doubtful h.was written) image → IsKeptSometime images used start (places ++ p ∷ []) image) → (image : Files) → disk_says.left_since journal'.disk since image
        → IsKeptSometime images used start (places ++ p ∷ []) image
    moments p with_it_kept image left =
        let was_kept : HasCommitted h.was image → IsKeptSometime images used start (places ++ p ∷ []) image
        = λ has_it.
        sometime_more images used start places p image (length places, omega arith, kept_whole (StandsWith images used image) start places (kept_now images used h.was rows start places h.has h.stand h.generation h.kept nothing tt image has_it)) in
        ⊎_elim
        (λ was_left. sometime_more images used start places p image (h.any_moment image was_left))
        (λ fresh. ⊎_elim was_kept (with_it_kept image) (either_way h.was written image fresh))
        (leaves.before since image h.later left)

    -- it is done
    pub over_done : Stands disk_says journal' (with_doubtful h.was written) nothing → rows_of tables' ≡ changed_by rows changes → HasRunOver disk_says images used tables' journal' since start done
    over_done stands rows_are =
        let On : List Deed → Type 0 = Stand (changed_by rows changes) in
        let now : Stand (changed_by rows changes) (taken step start done) = subst On (sym done_is) (writes.made.stand current h.stand) in
        let generation : generation_in (taken step start done) ≡ (with_doubtful h.was written).generation =
        ap generation_in done_is ∙ told_with rows h.was request written writes current h.stand h.generation in
        let Has : AllRows → Type 0 = HasAllRows (with_doubtful h.was written) in
        let OnRows : AllRows → Type 0 = λ r. Stand r (taken step start done) in
        let With : List Deed → Type 0 = KeepContents images used (changed_by rows changes) in
        let WithRows : AllRows → Type 0 = λ r. KeepContents images used r (taken step start done) in
        let kept : KeepContents images used (changed_by rows changes) (taken step start done) = subst With (sym done_is) with_contents in
        record {
          was = with_doubtful h.was written;
          doubt = nothing;
          stands = stands;
          has = subst Has (sym rows_are) writes.has;
          stand = subst OnRows (sym rows_are) now;
          generation = generation;
          kept = subst WithRows (sym rows_are) kept;
          in_doubt = tt;
          later = omega (arith, h.later, leaves.later);
          any_moment = moments (placed_by request false) (λ image committed. (
            length done,
            omega arith,
            kept_whole (StandsWith images used image) start done (inl (record { was = with_doubtful h.was written; committed = committed; rows = changed_by rows changes; has = writes.has; stand = now; generation = generation; kept = kept })),
          ));
        }

    -- what the fault place would have done
    of_this_fault : IsOfFault images used rows h.was written start failed
    of_this_fault = record {
      before = places;
      request = request;
      later = [];
      parts = refl;
      quiet = tt;
      stand = h.stand;
      same_contents = contents_failed;
      writes = writes;
      kept = with_contents;
    }

    doubt_after : (now : Doubtful) → IsLeft written now → IsDoubtOf images used rows h.was start failed now
    doubt_after now (inl none) = let P : Doubtful → Type 0 = IsDoubtOf images used rows h.was start failed in subst P (sym none) tt
    doubt_after now (inr this) =
        let P : Doubtful → Type 0 = IsDoubtOf images used rows h.was start failed in
        subst P (sym this) (doubt_of_it images used rows h.was start failed written of_this_fault)

    -- it failed
    pub over_failed : (now : Doubtful) → IsLeft written now → Stands disk_says journal' h.was now → rows_of tables' ≡ rows → HasRunOver disk_says images used tables' journal' since start failed
    over_failed now after_fault stands rows_are =
        let On : List Deed → Type 0 = Stand rows in
        let Has : AllRows → Type 0 = HasAllRows h.was in
        let OnRows : AllRows → Type 0 = λ r. Stand r (taken step start failed) in
        let With : List Deed → Type 0 = KeepContents images used rows in
        let WithRows : AllRows → Type 0 = λ r. KeepContents images used r (taken step start failed) in
        let Doubt : AllRows → Type 0 = λ r. IsDoubtOf images used r h.was start failed now in
        let generation : generation_in (taken step start failed) ≡ h.was.generation = ap generation_in failed_is ∙ h.generation in
        record {
          was = h.was;
          doubt = now;
          stands = stands;
          has = subst Has (sym rows_are) h.has;
          stand = subst OnRows (sym rows_are) (subst On (sym failed_is) h.stand);
          generation = generation;
          kept = subst WithRows (sym rows_are) (subst With (sym failed_is) h.kept);
          in_doubt = subst Doubt (sym rows_are) (doubt_after now after_fault);
          later = omega (arith, h.later, leaves.later);
          any_moment = moments (placed_by request true) (λ image committed. (
            length failed,
            omega arith,
            kept_whole (StandsWith images used image) start failed (inr (kept_in_doubt images used h.was rows start failed h.has (subst On (sym failed_is) h.stand) generation written of_this_fault image committed)),
          ));
        }
