-- Which depots an image stands for after places.
use Rattle.std.proofs.Common.{◌≡◌, ◌⊎◌, ◌+◌, ℕ, true, List, length, take, refl, sym, ap, subst, inl, inr, ◌∙◌}
use Rattle.outside_api.specs.Disk.{Files}
use Rattle.disk_journal.specs.Images.{Committed, HasCommitted}
use Rattle.disk_journal.specs.Stands.{Doubtful, nothing, group, opening, HasWithOrWithout}
use Rattle.depot_rows.specs.table_changes.Changed.{AllRows, changed_by}
use Rattle.depot_rows.specs.depot_model.Commands.{step}
use Rattle.depot_rows.specs.depot_model.Deeds.{Deed}
use Rattle.depot_runs.specs.Kept.{IsKept, KeptInDoubt}
use Rattle.depot_rows.specs.depot_model.Places.{Placed, deeds_of, taken}
use Rattle.depot_rows.specs.depot_model.Step.{Step, after}
use Rattle.depot_rows.specs.depot_model.declared.request.Request.{Request}
use Rattle.depot_rows.specs.Standing.{Stand}
use Rattle.recovery.specs.Holding.{HasAllRows}
use Rattle.session_loop.specs.Taking.{placed_by}
use Rattle.depot_commit.specs.Holding.{KeepContents, StandsWith}
use Rattle.depot_commit.specs.Running.{IsOfFault, IsDoubtOf, IsWrittenFor}
use Rattle.depot_commit.specs.Writing.{next_if, with_doubtful}
use Rattle.depot_commit.specs.Opening.{opens_generation}
use Rattle.depot_commit.proofs.Contents.{contents_alike}
use Rattle.depot_commit.proofs.Growing.{generation_with}
use Rattle.depot_commit.proofs.Laws.{steps_alike, contents_after_alike}
use Rattle.depot_commit.proofs.Places.{same_stand}
use Rattle.step_limits.specs.Limits.{generation_in}
use Rattle.depot_facts.specs.Contents.{SameContents}

-- what is kept by one reading is kept by another that follows from it
pub kept_leads : (P Q : List Deed → Type 0) → ((d : List Deed) → P d → Q d) → (d : List Deed) (places : List Placed) (k : ℕ) → IsKept P d places k → IsKept Q d places k
kept_leads P Q leads d places k (inl stands) = inl (leads (taken step d (take k places)) stands)
kept_leads P Q leads d places k (inr f) = inr (record {
  before = f.before;
  faulty = f.faulty;
  later = f.later;
  parts = f.parts;
  fault = f.fault;
  quiet = f.quiet;
  stands = leads (after (taken step d (take k places)) (deeds_of step (taken step d f.before) f.faulty.request)) f.stands;
})

-- the depot after a request tells the generation of what is committed with what was written for it
pub told_with : (rows : AllRows) (was : Committed) (request : Request) (written : Doubtful) (writes : IsWrittenFor rows was request written) (d : List Deed) → Stand rows d → generation_in d ≡ was.generation
    → generation_in (after d (step d request).deeds) ≡ (with_doubtful was written).generation
told_with rows was request written writes d stand is =
    writes.made.generation d stand writes.some ∙ (ap (next_if (opens_generation request)) is ∙ sym (generation_with (length was.groups + 1) (opens_generation request) written writes.changes writes.is was))

module _ (images : Files → Type 0) (used : ℕ) (was : Committed) (rows : AllRows) (start : List Deed) (places : List Placed) (has : HasAllRows was rows) (stand : Stand rows (taken step start places)) (generation : generation_in (taken step start places) ≡ was.generation) where
  -- With what one fault place would have done: the depot answers its request now as it did then.
  pub kept_in_doubt : (doubt : Doubtful) → IsOfFault images used rows was doubt start places → (image : Files) → HasCommitted (with_doubtful was doubt) image → KeptInDoubt (StandsWith images used image) start places
  kept_in_doubt doubt f image committed =
      let left = with_doubtful was doubt in
      let after_it = changed_by rows f.writes.changes in
      let earlier = taken step start f.before in
      let now = taken step start places in
      let deeds = (step earlier f.request).deeds in
      let same : step now f.request ≡ step earlier f.request = sym (steps_alike earlier now f.request f.stand.sound stand.sound (same_stand rows earlier now f.stand stand) f.same_contents) in
      let After : Step → Type 0 = λ s. Stand after_it (after now s.deeds) in
      let Tells : Step → Type 0 = λ s. generation_in (after now s.deeds) ≡ left.generation in
      let same_contents : SameContents (after earlier deeds) (after now deeds) =
      contents_after_alike earlier now f.request f.stand.sound stand.sound (same_stand rows earlier now f.stand stand) f.same_contents in
      record {
        before = f.before;
        faulty = placed_by f.request true;
        later = f.later;
        parts = f.parts;
        fault = refl;
        quiet = f.quiet;
        stands = record {
          was = left;
          committed = committed;
          rows = after_it;
          has = f.writes.has;
          stand = subst After same (f.writes.made.stand now stand);
          generation = subst Tells same (told_with rows was f.request doubt f.writes now stand generation);
          kept = record {
            ends = f.kept.ends;
            deletes = f.kept.deletes;
            contents = λ archive here. contents_alike after_it after_it (after earlier deeds) (after now deeds) archive archive refl refl same_contents (f.kept.contents archive here);
          };
        };
      }

  -- the run, or that
  pub kept_now : KeepContents images used rows (taken step start places) → (doubt : Doubtful) → IsDoubtOf images used rows was start places doubt → (image : Files) → HasWithOrWithout was doubt image
      → StandsWith images used image (taken step start places) ⊎ KeptInDoubt (StandsWith images used image) start places
  kept_now kept nothing none image committed = inl (record { was = was; committed = committed; rows = rows; has = has; stand = stand; generation = generation; kept = kept })
  kept_now kept (group text) f image (inl committed) = inl (record { was = was; committed = committed; rows = rows; has = has; stand = stand; generation = generation; kept = kept })
  kept_now kept (group text) f image (inr committed) = inr (kept_in_doubt (group text) f image committed)
  kept_now kept (opening checkpoint) f image (inl committed) = inl (record { was = was; committed = committed; rows = rows; has = has; stand = stand; generation = generation; kept = kept })
  kept_now kept (opening checkpoint) f image (inr committed) = inr (kept_in_doubt (opening checkpoint) f image committed)
