-- What a lock of a file does by who has its lock.
use Rattle.std.proofs.Common.{◌≡◌, ℕ, Bool, true, false, List, [], ◌∷◌, Option, Some, None, inl, inr, refl, sym, ap, subst, ◌∙◌}
use Rattle.std.specs.Prelude.{if◌then◌else◌}
use Rattle.depot_rows.specs.depot_path.Bytes.{same}
use Rattle.depot_rows.specs.depot_path.Path.{is_path}
use Rattle.depot_rows.specs.depot_model.declared.request.Caller.{Caller}
use Rattle.depot_rows.specs.depot_model.Deeds.{Deed, Free, Hold}
use Rattle.depot_rows.specs.depot_model.Opened.{holder}
use Rattle.depot_rows.specs.depot_model.Step.{refuses}
use Rattle.depot_rows.specs.depot_model.declared.refusal.Refusal.TheVariants.{Locked}
use Rattle.depot_rows.specs.depot_model.Steps.Opening.{held}
use Rattle.depot_rows.specs.Effects.{Follow}
use Rattle.depot_rows.specs.declared.deed.Deed.TheVariants as dones
use Rattle.depot_rows.specs.declared.deed.Held.{Held}
use Rattle.depot_rows.proofs.Allowed.{free_file}
use Rattle.depot_rows.proofs.Keys.{same-is, same-self}
use Rattle.opened_files.specs.Locks.{NoOther, hold_step, locking, other_of}
use Rattle.opened_files.specs.Staying.{tested}

-- no other client, where none is found
pub none_other : (client : List ℕ) (who : Option (List ℕ)) → None ≡ other_of client who → NoOther client who
none_other client None e = inl refl
none_other client (Some c) e = go (same c client) refl e
  where
    go : (b : Bool) → same c client ≡ b → None ≡ (if b then None else Some c) → NoOther client (Some c)
    go true k h = inr (ap (λ (x : List ℕ). Some x) (same-is c client k))
    go false k h = absurd cc

-- the step where no other client has the lock, and where one has it
pub locks : (caller : Caller) (path : List ℕ) (who : Option (List ℕ)) → NoOther caller.client who → hold_step caller path ≡ locking caller path true who
locks caller path who (inl none) = sym (ap (λ (o : Option (List ℕ)). locking caller path true o) none)
locks caller path who (inr own) =
    sym (ap (λ (o : Option (List ℕ)). locking caller path true o) own ∙ ap (λ (b : Bool). tested caller path caller.client b) (same-self caller.client))

pub other_locks : (caller : Caller) (path : List ℕ) (who : Option (List ℕ)) (other : List ℕ) → Some other ≡ other_of caller.client who
    → refuses (Locked path other) ≡ locking caller path true who
other_locks caller path None other e = absurd cc
other_locks caller path (Some c) other e = go (same c caller.client) e
  where
    go : (b : Bool) → Some other ≡ (if b then None else Some c) → refuses (Locked path other) ≡ tested caller path c b
    go true h = absurd cc
    go false h = let one : other ≡ c = cc in ap (λ (x : List ℕ). refuses (Locked path x)) one

abbrev pub own_file : Caller → List ℕ → Held
own_file caller path = record { client = caller.client; path = path }

-- the deed of a lock may follow
pub may_hold : (e : List Deed) (caller : Caller) (path : List ℕ) (file : Held) → is_path path ≡ true → file ≡ own_file caller path → NoOther caller.client (holder e path)
    → Follow e (dones.Hold file ∷ []) (Hold (held caller path) ∷ [])
may_hold e caller path file is own free =
    let here : Follow e (dones.Hold (own_file caller path) ∷ []) (Hold (held caller path) ∷ []) = (refl, (is, free_file e (own_file caller path) is free), tt) in
    subst (λ (f : Held). Follow e (dones.Hold f ∷ []) (Hold (held caller path) ∷ [])) (sym own) here

-- the deed of an unlock may follow
pub may_free : (e : List Deed) (caller : Caller) (path : List ℕ) (file : Held) → is_path path ≡ true → file ≡ own_file caller path
    → Follow e (dones.Free file ∷ []) (Free (held caller path) ∷ [])
may_free e caller path file is own =
    let here : Follow e (dones.Free (own_file caller path) ∷ []) (Free (held caller path) ∷ []) = (refl, is, tt) in
    subst (λ (f : Held). Follow e (dones.Free f ∷ []) (Free (held caller path) ∷ [])) (sym own) here
