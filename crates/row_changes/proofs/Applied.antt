-- Deeds, one after another.
use Rattle.std.proofs.Common.{◌≡◌, ℕ, ◌+◌, ◌<◌, Bool, true, false, IsTrue, List, [], ◌∷◌, ◌++◌, length, take, drop, get_or, Option, Some, None, Result, Ok, Err, OnOk, refl, sym, ap, ◌∙◌, subst}
use Rattle.std.specs.Prelude.{option_map}
use Rattle.std.specs.List.{list_any}
use Rattle.std.proofs.lemmas.List.{take_more, drop_more, take-append-drop}
use Rattle.std.proofs.lemmas.Bool.{or_parts}
use Rattle.depot_rows.specs.depot_path.Path.{printed}
use Rattle.depot_rows.specs.db_records.declared.key.Key.{Key}
use Rattle.depot_rows.specs.db_records.declared.key.Key.TheVariants as keys
use Rattle.depot_rows.specs.db_records.declared.record.Record.{Record}
use Rattle.depot_rows.specs.db_records.declared.record.Record.TheVariants as rows
use Rattle.depot_rows.specs.db_records.declared.table.TableId.TheVariants as table_ids
use Rattle.depot_rows.specs.depot_model.Deeds as model
use Rattle.depot_rows.specs.depot_model.Records.{record_of, unplaced}
use Rattle.depot_rows.specs.depot_model.Rules.{Rows, NotBoth, lock_of}
use Rattle.depot_rows.specs.declared.deed.Deed.{Deed}
use Rattle.depot_rows.specs.declared.deed.Deed.TheVariants as deeds
use Rattle.depot_rows.specs.Effects.{effect, effects, May, Follow, AreRowsIn}
use Rattle.depot_rows.proofs.Following.{rows_after, stays_apart}
use Rattle.row_changes.specs.Overlay.{Touched, seen, Becomes}
use Rattle.row_changes.specs.Locking.{is_hold, MayLock, AllMayLock}

-- what is done to all rows is done under any premise
pub done-always : {A E : Type 0} (r : Result A E) (P : Type 0) (rows : Rows) (made : Rows → Rows) (old new : Touched)
    → OnOk r ((rows : Rows) → Becomes rows made old new) → OnOk r (P → Becomes rows made old new)
done-always (Ok a) P rows made old new h = λ _. h rows
done-always (Err e) P rows made old new h = h

pub done-here : {A E : Type 0} (r : Result A E) (P : Type 0) (rows : Rows) (made : Rows → Rows) (old new : Touched)
    → OnOk r (Becomes rows made old new) → OnOk r (P → Becomes rows made old new)
done-here (Ok a) P rows made old new h = λ _. h
done-here (Err e) P rows made old new h = h

pub effects-push : (deeds : List Deed) (deed : Deed) (before : Rows) → effects (deeds ++ deed ∷ []) before ≡ effect deed (effects deeds before)
effects-push [] deed before = refl
effects-push (x ∷ xs) deed before = effects-push xs deed (effect x before)

next-may : (deeds : List Deed) (deed : Deed) (later : List Deed) (before : Rows) → AllMayLock (deeds ++ deed ∷ later) before → MayLock deed (effects deeds before)
next-may [] deed later before all = all.0
next-may (x ∷ xs) deed later before all = next-may xs deed later (effect x before) all.1

-- one deed more
module _ (before : Rows) (all : List Deed) (i : ℕ) (deed : Deed) (h : i < length all) (item : deed ≡ get_or all i deed) where
  split : all ≡ take i all ++ deed ∷ drop (i + 1) all
  split = sym (take-append-drop i all) ∙ ap (λ l. take i all ++ l) (drop_more all i deed h ∙ ap (λ x. x ∷ drop (i + 1) all) (sym item))

  more : take (i + 1) all ≡ take i all ++ deed ∷ []
  more = take_more all i deed h ∙ ap (λ x. take i all ++ x ∷ []) (sym item)

  pub deed-step : (old new : Touched) → (AllMayLock all before → (q : Key) → seen old before q ≡ effects (take i all) before q)
      → (MayLock deed (seen old before) → Becomes before (effect deed) old new)
      → AllMayLock all before → (q : Key) → seen new before q ≡ effects (take (i + 1) all) before q
  deed-step old new so becomes may q =
      let is : seen old before ≡ effects (take i all) before = λ j k. so may k j in
      let allowed : MayLock deed (seen old before) =
      subst (MayLock deed) (sym is) (next-may (take i all) deed (drop (i + 1) all) before (subst (λ l. AllMayLock l before) split may)) in
      becomes allowed q ∙ ap (λ (r : Rows). effect deed r q) is ∙ ap (λ (r : Rows). r q) (sym (effects-push (take i all) deed before))
      ∙ ap (λ l. effects l before q) (sym more)

-- ---- locks

lock-unplaced : (o : Option Record) → lock_of (option_map unplaced o) ≡ lock_of o
lock-unplaced None = refl
lock-unplaced (Some r) = of r
  where
    of : (r : Record) → lock_of (Some (unplaced r)) ≡ lock_of (Some r)
    of (rows.Working r) = refl
    of _ = refl

may-lock : (done : Deed) (d : List model.Deed) (before : Rows) → AreRowsIn before d table_ids.Working → May done (record_of d) → MayLock done before
may-lock (deeds.Hold held) d before has may = λ client apart.
    let q : Key = keys.Working (printed held.path) client in
    sym (lock-unplaced (before q)) ∙ ap lock_of (has q refl) ∙ may.1 client apart
may-lock (deeds.Spec a b x) d before has may = tt
may-lock (deeds.Guard a) d before has may = tt
may-lock (deeds.Group a b) d before has may = tt
may-lock (deeds.Count a b) d before has may = tt
may-lock (deeds.Pend a) d before has may = tt
may-lock (deeds.Drop a) d before has may = tt
may-lock (deeds.Open a) d before has may = tt
may-lock (deeds.Shut a) d before has may = tt
may-lock (deeds.Free a) d before has may = tt
may-lock (deeds.Got a b) d before has may = tt
may-lock (deeds.Tag a b x) d before has may = tt
may-lock (deeds.Owe a) d before has may = tt
may-lock (deeds.Paid a b x) d before has may = tt
may-lock (deeds.Land a) d before has may = tt

all-may-lock : (dones : List Deed) (d done : List model.Deed) (before : Rows) → AreRowsIn before d table_ids.Working → NotBoth d → Follow d dones done → AllMayLock dones before
all-may-lock [] d done before has apart follow = tt
all-may-lock (x ∷ xs) d [] before has apart follow = absurd follow
all-may-lock (x ∷ xs) d (y ∷ ys) before has apart follow =
    (may-lock x d before has follow.1, all-may-lock xs (y ∷ d) ys (effect x before) (rows_after table_ids.Working before d x y has apart follow.0 follow.1) (stays_apart d x y apart follow.0 follow.1) follow.2)

no-hold : (done : Deed) (before : Rows) → is_hold done ≡ false → MayLock done before
no-hold (deeds.Hold held) before e = absurd cc
no-hold (deeds.Spec a b x) before e = tt
no-hold (deeds.Guard a) before e = tt
no-hold (deeds.Group a b) before e = tt
no-hold (deeds.Count a b) before e = tt
no-hold (deeds.Pend a) before e = tt
no-hold (deeds.Drop a) before e = tt
no-hold (deeds.Open a) before e = tt
no-hold (deeds.Shut a) before e = tt
no-hold (deeds.Free a) before e = tt
no-hold (deeds.Got a b) before e = tt
no-hold (deeds.Tag a b x) before e = tt
no-hold (deeds.Owe a) before e = tt
no-hold (deeds.Paid a b x) before e = tt
no-hold (deeds.Land a) before e = tt

no-holds : (dones : List Deed) (before : Rows) → list_any is_hold dones ≡ false → AllMayLock dones before
no-holds [] before e = tt
no-holds (x ∷ xs) before e = let two = or_parts (is_hold x) (list_any is_hold xs) e in (no-hold x before two.0, no-holds xs (effect x before) two.1)

-- deeds that follow may lock what they lock, where the table of opened files is the depot's
pub may-lock-all : (dones : List Deed) (d done : List model.Deed) (before : Rows) → NotBoth d → Follow d dones done
    → (IsTrue (list_any is_hold dones) → AreRowsIn before d table_ids.Working) → AllMayLock dones before
may-lock-all dones d done before apart follow has = go (list_any is_hold dones) refl
  where
    go : (b : Bool) → list_any is_hold dones ≡ b → AllMayLock dones before
    go true e = all-may-lock dones d done before (has e) apart follow
    go false e = no-holds dones before e
