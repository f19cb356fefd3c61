-- A step that submits no change and stores nothing.
use Rattle.std.proofs.Common.{◌≡◌, ℕ, List, [], ◌∷◌, sym, subst}
use Rattle.depot_rows.specs.table_changes.Changed.{AllRows}
use Rattle.depot_rows.specs.depot_model.Deeds as model
use Rattle.depot_rows.specs.depot_model.Step.{Step as ModelStep}
use Rattle.depot_rows.specs.Effects.{Follow}
use Rattle.depot_rows.specs.declared.deed.Deed.{Deed}
use Rattle.depot_rows.specs.declared.deed.Deed.TheVariants as deeds
use Rattle.reply_rows.specs.declared.step.Step.{Step}
use Rattle.reply_rows.specs.Made.{IsMade}
use Rattle.step_stores.specs.Stored.{AreStored, IsStoring, LandNothing, NothingLands}

-- one deed less
later : (deed : model.Deed) (told : List model.Deed) → NothingLands (deed ∷ told) → NothingLands told
later (model.Spec kind name form) told h = h
later (model.Guard lines) told h = h
later (model.Group name names) told h = h
later (model.Count name value) told h = h
later (model.Pend p) told h = h
later (model.Drop n) told h = h
later (model.Open o) told h = h
later (model.Shut held) told h = h
later (model.Hold held) told h = h
later (model.Free held) told h = h
later (model.Got held rev) told h = h
later (model.Tag label path rev) told h = h
later (model.Owe o) told h = h
later (model.Paid held from how) told h = h
later (model.Land l) told h = absurd h

-- deeds of the code land nothing where those of the model don't
pub none_land : (d : List model.Deed) (dones : List Deed) (told : List model.Deed) → Follow d dones told → NothingLands told → LandNothing dones
none_land d [] told follow h = tt
none_land d (done ∷ dones) [] follow h = absurd follow
none_land d (deeds.Land l ∷ dones) (deed ∷ told) follow h =
    let P : model.Deed → Type 0 = λ x. NothingLands (x ∷ told) in
    absurd (subst P (sym follow.0.1) h)
none_land d (deeds.Spec kind name form ∷ dones) (deed ∷ told) follow h = none_land (deed ∷ d) dones told follow.2 (later deed told h)
none_land d (deeds.Guard lines ∷ dones) (deed ∷ told) follow h = none_land (deed ∷ d) dones told follow.2 (later deed told h)
none_land d (deeds.Group name names ∷ dones) (deed ∷ told) follow h = none_land (deed ∷ d) dones told follow.2 (later deed told h)
none_land d (deeds.Count name value ∷ dones) (deed ∷ told) follow h = none_land (deed ∷ d) dones told follow.2 (later deed told h)
none_land d (deeds.Pend p ∷ dones) (deed ∷ told) follow h = none_land (deed ∷ d) dones told follow.2 (later deed told h)
none_land d (deeds.Drop n ∷ dones) (deed ∷ told) follow h = none_land (deed ∷ d) dones told follow.2 (later deed told h)
none_land d (deeds.Open o ∷ dones) (deed ∷ told) follow h = none_land (deed ∷ d) dones told follow.2 (later deed told h)
none_land d (deeds.Shut held ∷ dones) (deed ∷ told) follow h = none_land (deed ∷ d) dones told follow.2 (later deed told h)
none_land d (deeds.Hold held ∷ dones) (deed ∷ told) follow h = none_land (deed ∷ d) dones told follow.2 (later deed told h)
none_land d (deeds.Free held ∷ dones) (deed ∷ told) follow h = none_land (deed ∷ d) dones told follow.2 (later deed told h)
none_land d (deeds.Got held rev ∷ dones) (deed ∷ told) follow h = none_land (deed ∷ d) dones told follow.2 (later deed told h)
none_land d (deeds.Tag label path rev ∷ dones) (deed ∷ told) follow h = none_land (deed ∷ d) dones told follow.2 (later deed told h)
none_land d (deeds.Owe o ∷ dones) (deed ∷ told) follow h = none_land (deed ∷ d) dones told follow.2 (later deed told h)
none_land d (deeds.Paid held from how ∷ dones) (deed ∷ told) follow h = none_land (deed ∷ d) dones told follow.2 (later deed told h)

-- nothing is stored where nothing lands
stores_nothing : (all : AllRows) (from : ℕ) (d : List model.Deed) (stores : List (List ℕ)) (dones : List Deed) (told : List model.Deed)
    → stores ≡ [] → LandNothing dones → NothingLands told → AreStored all from d stores dones told
stores_nothing all from d stores [] told is none h = (is, (none, h))
stores_nothing all from d stores (deeds.Land l ∷ dones) told is none h = absurd none
stores_nothing all from d stores (deeds.Spec kind name form ∷ dones) told is none h = (is, (none, h))
stores_nothing all from d stores (deeds.Guard lines ∷ dones) told is none h = (is, (none, h))
stores_nothing all from d stores (deeds.Group name names ∷ dones) told is none h = (is, (none, h))
stores_nothing all from d stores (deeds.Count name value ∷ dones) told is none h = (is, (none, h))
stores_nothing all from d stores (deeds.Pend p ∷ dones) told is none h = (is, (none, h))
stores_nothing all from d stores (deeds.Drop n ∷ dones) told is none h = (is, (none, h))
stores_nothing all from d stores (deeds.Open o ∷ dones) told is none h = (is, (none, h))
stores_nothing all from d stores (deeds.Shut held ∷ dones) told is none h = (is, (none, h))
stores_nothing all from d stores (deeds.Hold held ∷ dones) told is none h = (is, (none, h))
stores_nothing all from d stores (deeds.Free held ∷ dones) told is none h = (is, (none, h))
stores_nothing all from d stores (deeds.Got held rev ∷ dones) told is none h = (is, (none, h))
stores_nothing all from d stores (deeds.Tag label path rev ∷ dones) told is none h = (is, (none, h))
stores_nothing all from d stores (deeds.Owe o ∷ dones) told is none h = (is, (none, h))
stores_nothing all from d stores (deeds.Paid held from' how ∷ dones) told is none h = (is, (none, h))

-- a step that stores nothing, of a command that lands nothing
pub made_stores : (all : AllRows) (from : ℕ) (d : List model.Deed) (told : ModelStep) (step : Step) → IsMade all d d told step → NothingLands told.deeds
    → IsStoring all from d told step
made_stores all from d told step made h = record {
  deeds = made.deeds;
  rows = made.rows;
  stores = stores_nothing all from d step.stores step.deeds told.deeds made.stores (none_land d step.deeds told.deeds made.deeds h) h;
  reads = made.reads;
}
