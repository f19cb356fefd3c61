-- One commit more of a run.
use Rattle.std.proofs.Common.{◌≡◌, ◌≢◌, ◌⊎◌, inl, inr, ⊎_elim, ℕ, zero, suc, ◌+◌, ◌<◌, ◌≤◌, List, [], ◌∷◌, ◌++◌, length, take, get_or, set, refl, sym, ◌∙◌, ap, subst, arith, length-append, get_or-set_other, get_or-set_same, below_more}
use Rattle.std.proofs.lemmas.List.{take-append-le, take_all}
use Rattle.outside_api.specs.Disk.{Files}
use Rattle.outside_api.specs.Moments.{LeavesOnly, weaker, then}
use Rattle.outside_api.specs.Says.{DiskSays}
use Rattle.db_records.specs.declared.change.Change.{Change}
use Rattle.disk_journal.specs.Images.{Committed, HasCommitted}
use Rattle.disk_journal.specs.Stands.{Doubtful, nothing, group, HasWithOrWithout, Stands}
use Rattle.disk_journal.specs.declared.journal.Journal.{Journal}
use Rattle.journal_runs.specs.declared.landing.Landing.{Landing}
use Rattle.journal_runs.specs.declared.landing.Landing.TheVariants.{Landed, Faulted, NoMemory}
use Rattle.journal_runs.specs.Runs.{IsAfterFault, next_group, with_changes, StandsAfter, IsCaused, after, IsPrefix}

-- what one commit more adds
abbrev then_one : Committed → List Change → Landing → Committed
then_one was changes Landed = with_changes was changes
then_one was changes Faulted = was
then_one was changes NoMemory = was

after-push : (was : Committed) (batch : List (List Change)) (landings : List Landing) (changes : List Change) (landing : Landing) → length batch ≡ length landings → after was (batch ++ changes ∷ []) (landings ++ landing ∷ []) ≡ then_one (after was batch landings) changes landing
after-push was [] [] changes Landed long = refl
after-push was [] [] changes Faulted long = refl
after-push was [] [] changes NoMemory long = refl
after-push was [] (l ∷ landings) changes landing long = absurd (omega arith)
after-push was (b ∷ batch) [] changes landing long = absurd (omega arith)
after-push was (b ∷ batch) (Landed ∷ landings) changes landing long = after-push (with_changes was b) batch landings changes landing (omega arith)
after-push was (b ∷ batch) (Faulted ∷ landings) changes landing long = after-push was batch landings changes landing (omega arith)
after-push was (b ∷ batch) (NoMemory ∷ landings) changes landing long = after-push was batch landings changes landing (omega arith)

before_last : (batch : List (List Change)) (changes : List Change) (k : ℕ) → k < length batch → get_or (batch ++ changes ∷ []) k [] ≡ get_or batch k []
before_last [] changes k lt = absurd (omega (arith, lt))
before_last (b ∷ batch) changes zero lt = refl
before_last (b ∷ batch) changes (suc k) lt = before_last batch changes k (omega (arith, lt))

last_one : (batch : List (List Change)) (changes : List Change) → get_or (batch ++ changes ∷ []) (length batch) [] ≡ changes
last_one [] changes = refl
last_one (b ∷ batch) changes = last_one batch changes

module _ (was : Committed) (batch : List (List Change)) (landings : List Landing) (changes : List Change) (landing : Landing) (long : length batch ≡ length landings) where
  -- what had landed by some commit is the same in the longer run
  same_front : (k : ℕ) → k ≤ length batch → after was (take k (batch ++ changes ∷ [])) (take k (landings ++ landing ∷ [])) ≡ after was (take k batch) (take k landings)
  same_front k le =
      ap (λ (l : List (List Change)). after was l (take k (landings ++ landing ∷ []))) (take-append-le k batch (changes ∷ []) le)
      ∙ ap (λ (l : List Landing). after was (take k batch) l) (take-append-le k landings (landing ∷ []) (omega (arith, le, long)))

  longer : length (batch ++ changes ∷ []) ≡ length batch + 1
  longer = length-append batch (changes ∷ [])

  pub keeps : (c : Files) → IsPrefix was batch landings c → IsPrefix was (batch ++ changes ∷ []) (landings ++ landing ∷ []) c
  keeps c prefix = record {
    count = prefix.count;
    within = omega (arith, prefix.within, longer);
    has = ⊎_elim
        (λ has. inl (subst (λ w. HasCommitted w c) (sym (same_front prefix.count prefix.within)) has))
        (λ next. inr (
          omega (arith, next.0, longer),
          subst (λ w. HasCommitted w c)
              (sym (ap (λ (w : Committed). with_changes w (get_or (batch ++ changes ∷ []) prefix.count [])) (same_front prefix.count prefix.within) ∙ ap (λ (l : List Change). with_changes (after was (take prefix.count batch) (take prefix.count landings)) l) (before_last batch changes prefix.count next.0)))
              next.1,
        ))
        prefix.has;
  }

  whole_front : after was (take (length batch) batch) (take (length batch) landings) ≡ after was batch landings
  whole_front =
      ap (λ (l : List (List Change)). after was l (take (length batch) landings)) (take_all (length batch) batch (omega arith))
      ∙ ap (λ (l : List Landing). after was batch l) (take_all (length batch) landings (omega (arith, long)))

  all_front : after was (take (length batch) (batch ++ changes ∷ [])) (take (length batch) (landings ++ landing ∷ [])) ≡ after was batch landings
  all_front = same_front (length batch) (omega arith) ∙ whole_front

  -- what had landed before the last commit
  pub whole : (c : Files) → HasCommitted (after was batch landings) c → IsPrefix was (batch ++ changes ∷ []) (landings ++ landing ∷ []) c
  whole c has = record { count = length batch; within = omega (arith, longer); has = inl (subst (λ w. HasCommitted w c) (sym all_front) has) }

  -- and that with the last one's group
  pub newest : (c : Files) → HasCommitted (with_changes (after was batch landings) changes) c → IsPrefix was (batch ++ changes ∷ []) (landings ++ landing ∷ []) c
  newest c has = record {
    count = length batch;
    within = omega (arith, longer);
    has = inr (
      omega (arith, longer),
      subst (λ w. HasCommitted w c) (sym (ap (λ (w : Committed). with_changes w (get_or (batch ++ changes ∷ []) (length batch) [])) all_front ∙ ap (λ (l : List Change). with_changes (after was batch landings) l) (last_one batch changes))) has,
    );
  }

-- how far a run has come
pub record Progress {D : Type 0} (disk_says : DiskSays D) (old now : Journal D) (batch : List (List Change)) (landings : List Landing) (was : Committed) : Type 0 where
  pub doubt : Doubtful
  pub stands : Stands disk_says now (after was batch landings) doubt
  pub so_far : (c : Files) → HasWithOrWithout (after was batch landings) doubt c → IsPrefix was batch landings c
  pub any_moment : LeavesOnly disk_says old.disk now.disk (IsPrefix was batch landings)

module _ {D : Type 0} (disk_says : DiskSays D) where
  -- before the first commit
  pub started_run : (journal : Journal D) (was : Committed) → Stands disk_says journal was nothing → LeavesOnly disk_says journal.disk journal.disk (HasCommitted was) → Progress disk_says journal journal [] [] was
  started_run journal was stands run =
      let here : (c : Files) → HasCommitted was c → IsPrefix was [] [] c = λ c has. record { count = 0; within = omega arith; has = inl has } in
      record { doubt = nothing; stands = stands; so_far = here; any_moment = weaker disk_says journal.disk journal.disk (HasCommitted was) (IsPrefix was [] []) here run }

  module _ (old mid new : Journal D) (batch : List (List Change)) (landings : List Landing) (was : Committed) (changes : List Change) (landing : Landing) (long : length batch ≡ length landings) (so_far : Progress disk_says old mid batch landings was)
      (run : LeavesOnly disk_says mid.disk new.disk (λ c. HasWithOrWithout (after was batch landings) so_far.doubt c ⊎ HasWithOrWithout (after was batch landings) (group (next_group (after was batch landings) changes)) c)) where
    was_kept : (c : Files) → HasWithOrWithout (after was batch landings) so_far.doubt c → IsPrefix was (batch ++ changes ∷ []) (landings ++ landing ∷ []) c
    was_kept c has = keeps was batch landings changes landing long c (so_far.so_far c has)

    either : (c : Files) → HasWithOrWithout (after was batch landings) (group (next_group (after was batch landings) changes)) c → IsPrefix was (batch ++ changes ∷ []) (landings ++ landing ∷ []) c
    either c has = ⊎_elim (whole was batch landings changes landing long c) (newest was batch landings changes landing long c) has

    pub moments : LeavesOnly disk_says old.disk new.disk (IsPrefix was (batch ++ changes ∷ []) (landings ++ landing ∷ []))
    moments =
        then disk_says old.disk mid.disk new.disk (IsPrefix was (batch ++ changes ∷ []) (landings ++ landing ∷ []))
        (weaker disk_says old.disk mid.disk (IsPrefix was batch landings) (IsPrefix was (batch ++ changes ∷ []) (landings ++ landing ∷ [])) (keeps was batch landings changes landing long) so_far.any_moment)
        (weaker disk_says mid.disk new.disk _ (IsPrefix was (batch ++ changes ∷ []) (landings ++ landing ∷ [])) (λ c has. ⊎_elim (was_kept c) (either c) has) run)

    pub in_doubt_then : (now : Doubtful) → IsAfterFault so_far.doubt (next_group (after was batch landings) changes) now → (c : Files) → HasWithOrWithout (after was batch landings) now c → IsPrefix was (batch ++ changes ∷ []) (landings ++ landing ∷ []) c
    in_doubt_then now (inl same) c has = was_kept c (subst (λ d. HasWithOrWithout (after was batch landings) d c) same has)
    in_doubt_then now (inr (inl none)) c has = whole was batch landings changes landing long c (subst (λ d. HasWithOrWithout (after was batch landings) d c) none has)
    in_doubt_then now (inr (inr one)) c has = either c (subst (λ d. HasWithOrWithout (after was batch landings) d c) one has)

  pub one_more : (old mid new : Journal D) (batch : List (List Change)) (landings : List Landing) (was : Committed) (changes : List Change) (landing : Landing) (long : length batch ≡ length landings) (so_far : Progress disk_says old mid batch landings was)
      → StandsAfter disk_says new (after was batch landings) so_far.doubt changes landing
      → LeavesOnly disk_says mid.disk new.disk (λ c. HasWithOrWithout (after was batch landings) so_far.doubt c ⊎ HasWithOrWithout (after was batch landings) (group (next_group (after was batch landings) changes)) c)
      → Progress disk_says old new (batch ++ changes ∷ []) (landings ++ landing ∷ []) was
  one_more old mid new batch landings was changes Landed long so_far stands run =
      let grown = after-push was batch landings changes Landed long in
      record {
        doubt = nothing;
        stands = subst (λ w. Stands disk_says new w nothing) (sym grown) stands;
        so_far = λ c has. newest was batch landings changes Landed long c (subst (λ w. HasCommitted w c) grown has);
        any_moment = moments old mid new batch landings was changes Landed long so_far run;
      }
  one_more old mid new batch landings was changes Faulted long so_far stands run =
      let same = after-push was batch landings changes Faulted long in
      record {
        doubt = stands.0;
        stands = subst (λ w. Stands disk_says new w stands.0) (sym same) stands.2;
        so_far = λ c has. in_doubt_then old mid new batch landings was changes Faulted long so_far run stands.0 stands.1 c (subst (λ w. HasWithOrWithout w stands.0 c) same has);
        any_moment = moments old mid new batch landings was changes Faulted long so_far run;
      }
  one_more old mid new batch landings was changes NoMemory long so_far stands run =
      let same = after-push was batch landings changes NoMemory long in
      record {
        doubt = so_far.doubt;
        stands = subst (λ w. Stands disk_says new w so_far.doubt) (sym same) stands;
        so_far = λ c has. was_kept old mid new batch landings was changes NoMemory long so_far run c (subst (λ w. HasWithOrWithout w so_far.doubt c) same has);
        any_moment = moments old mid new batch landings was changes NoMemory long so_far run;
      }

-- a fault that had its cause by some moment has it later
pub caused_later : (before mid now : ℕ) (landing : Landing) → mid ≤ now → IsCaused before mid landing → IsCaused before now landing
caused_later before mid now Landed le cause = tt
caused_later before mid now NoMemory le cause = tt
caused_later before mid now Faulted le cause = omega (arith, le, cause)

pub caused_since : (before mid now : ℕ) (landing : Landing) → before ≤ mid → IsCaused mid now landing → IsCaused before now landing
caused_since before mid now Landed le cause = tt
caused_since before mid now NoMemory le cause = tt
caused_since before mid now Faulted le cause = omega (arith, le, cause)

-- the causes of the faults so far, and of one more
pub caused_more : (before mid now : ℕ) (landings : List Landing) (i : ℕ) (landing : Landing) → before ≤ mid → mid ≤ now → i < length landings → ((k : ℕ) → k < i → IsCaused before mid (get_or landings k NoMemory)) → IsCaused mid now landing → (k : ℕ) → k < i + 1 → IsCaused before now (get_or (set landings i landing) k NoMemory)
caused_more before mid now landings i landing first second within below here =
    below_more (λ k. IsCaused before now (get_or (set landings i landing) k NoMemory)) i
    (λ k h.
    let ne : k ≢ i = λ e. omega (arith, e, h) in
    subst (λ (l : Landing). IsCaused before now l) (sym (get_or-set_other landings i k landing NoMemory ne)) (caused_later before mid now (get_or landings k NoMemory) second (below k h)))
    (subst (λ (l : Landing). IsCaused before now l) (sym (get_or-set_same landings i landing NoMemory within)) (caused_since before mid now landing first here))

-- a run that has come to its end
pub all_of : {D : Type 0} (disk_says : DiskSays D) (old now : Journal D) (i : ℕ) (batch : List (List Change)) (landings : List Landing) (was : Committed) → length batch ≤ i → length landings ≤ i
    → Progress disk_says old now (take i batch) (take i landings) was → Progress disk_says old now batch landings was
all_of disk_says old now i batch landings was one two so_far =
    subst (λ (b : List (List Change)). Progress disk_says old now b landings was) (take_all i batch one)
    (subst (λ (l : List Landing). Progress disk_says old now (take i batch) l was) (take_all i landings two) so_far)
