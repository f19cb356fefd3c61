-- Locks of one client let no other client lock a file. This project's own choice.
use Rattle.std.specs.Prelude.{refl, ℕ, Bool, true, false, not, List, [], ◌∷◌, Option, Some, None, if◌then◌else◌, is_some}
use Rattle.std.proofs.Common.{inl, inr}
use Rattle.depot_rows.specs.depot_path.Bytes.{same}
use Rattle.depot_rows.specs.depot_model.declared.request.Caller.{Caller}
use Rattle.depot_rows.specs.depot_model.declared.refusal.Refusal.TheVariants.{Locked}
use Rattle.depot_rows.specs.depot_model.Asking.{may_at}
use Rattle.depot_rows.specs.depot_model.Deeds.{Deed, Hold}
use Rattle.depot_rows.specs.depot_model.Opened.{holder, opened}
use Rattle.depot_rows.specs.depot_model.Step.{Step as ModelStep, after, refuse_if, unless}
use Rattle.depot_rows.specs.depot_model.Steps.Opening.{held}
use Rattle.depot_rows.specs.depot_model.Steps.Reverting.{lock_file}
use Rattle.opened_files.specs.Locks.{NoOther, StaysFree, hold_step, locking}

-- the step, unless a client that isn't the caller's has the lock
abbrev pub tested : Caller → List ℕ → List ℕ → Bool → ModelStep
tested caller path who own = unless (refuse_if (not own) (Locked path who) ∷ []) (hold_step caller path)

module _ (d e : List Deed) (caller : Caller) (path : List ℕ) (later : StaysFree caller.client d e) where
  after_hold : StaysFree caller.client d (Hold (held caller path) ∷ e)
  after_hold p free = go (same path p) (is_some (opened e caller.client p)) (later p free)
    where
      go : (a b : Bool) → NoOther caller.client (holder e p) → NoOther caller.client (if a then (if b then Some caller.client else None) else holder e p)
      go true true h = inr refl
      go true false h = inl refl
      go false b h = h

  stays : (may : Bool) (who : Option (List ℕ)) → StaysFree caller.client d (after e (locking caller path may who).deeds)
  stays false who = later
  stays true None = after_hold
  stays true (Some c) = go (same c caller.client)
    where
      go : (b : Bool) → StaysFree caller.client d (after e (tested caller path c b).deeds)
      go true = after_hold
      go false = later

pub lock_stays : (d e : List Deed) (caller : Caller) (path : List ℕ) → StaysFree caller.client d e → StaysFree caller.client d (after e (lock_file d caller path).deeds)
lock_stays d e caller path later = stays d e caller path later (may_at d caller path 4) (holder d path)
