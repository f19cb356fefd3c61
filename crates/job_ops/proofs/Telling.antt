-- Deeds that save forms.
use Rattle.std.proofs.Common.{◌≡◌, ℕ, List, [], ◌∷◌, Some, Option, None}
use Rattle.depot_rows.specs.depot_model.Deeds as model
use Rattle.depot_rows.specs.depot_model.Deeds.{Deed}
use Rattle.depot_rows.specs.depot_model.Fixes.{closed, closes, job}
use Rattle.depot_rows.specs.spec_form.Form.{FormValue}
use Rattle.depot_rows.specs.Deed.{IsDeed, deed_of}
use Rattle.depot_rows.specs.Effects.{Follow, May}
use Rattle.depot_rows.specs.depot_model.Records.{record_of}
use Rattle.depot_rows.specs.declared.deed.Deed.{Deed as Done}
use Rattle.depot_rows.specs.declared.deed.Deed.TheVariants.{Spec, Guard, Group, Count, Pend, Drop, Open, Shut, Hold, Free, Got, Tag, Owe, Paid, Land}
use Rattle.depot_facts.specs.Following.{AreTold}

abbrev pub AreSpecs : List Deed → Type 0
AreSpecs [] = Unit {0}
AreSpecs (model.Spec kind name form ∷ deeds) = AreSpecs deeds
AreSpecs _ = ⊥

one_follows : (e : List Deed) (done : Done) (kind : model.SpecKind) (name : List ℕ) (form : FormValue) → deed_of done ≡ Some (model.Spec kind name form)
    → IsDeed e done (model.Spec kind name form) × May done (record_of e)
one_follows e (Spec k n f) kind name form is = (is, tt)
one_follows e (Guard lines) kind name form is = absurd cc
one_follows e (Group n users) kind name form is = absurd cc
one_follows e (Count n value) kind name form is = absurd cc
one_follows e (Pend p) kind name form is = absurd cc
one_follows e (Drop n) kind name form is = absurd cc
one_follows e (Open o) kind name form is = absurd cc
one_follows e (Shut held) kind name form is = absurd cc
one_follows e (Hold held) kind name form is = absurd cc
one_follows e (Free held) kind name form is = absurd cc
one_follows e (Got held rev) kind name form is = absurd cc
one_follows e (Tag label path rev) kind name form is = absurd cc
one_follows e (Owe o) kind name form is = absurd cc
one_follows e (Paid held from how) kind name form is = absurd cc
one_follows e (Land l) kind name form is = absurd cc

pub specs_follow : (e : List Deed) (dones : List Done) (told : List Deed) → AreTold dones told → AreSpecs told → Follow e dones told
specs_follow e [] [] are specs = tt
specs_follow e [] (deed ∷ told) are specs = absurd are
specs_follow e (done ∷ dones) [] are specs = absurd are
specs_follow e (done ∷ dones) (model.Spec kind name form ∷ told) are specs =
    let here = one_follows e done kind name form are.0 in
    (here.0, here.1, specs_follow (model.Spec kind name form ∷ e) dones told are.1 specs)
specs_follow e (done ∷ dones) (model.Guard lines ∷ told) are specs = absurd specs
specs_follow e (done ∷ dones) (model.Group n users ∷ told) are specs = absurd specs
specs_follow e (done ∷ dones) (model.Count n value ∷ told) are specs = absurd specs
specs_follow e (done ∷ dones) (model.Pend p ∷ told) are specs = absurd specs
specs_follow e (done ∷ dones) (model.Drop n ∷ told) are specs = absurd specs
specs_follow e (done ∷ dones) (model.Open o ∷ told) are specs = absurd specs
specs_follow e (done ∷ dones) (model.Shut held ∷ told) are specs = absurd specs
specs_follow e (done ∷ dones) (model.Hold held ∷ told) are specs = absurd specs
specs_follow e (done ∷ dones) (model.Free held ∷ told) are specs = absurd specs
specs_follow e (done ∷ dones) (model.Got held rev ∷ told) are specs = absurd specs
specs_follow e (done ∷ dones) (model.Tag label path rev ∷ told) are specs = absurd specs
specs_follow e (done ∷ dones) (model.Owe o ∷ told) are specs = absurd specs
specs_follow e (done ∷ dones) (model.Paid held from how ∷ told) are specs = absurd specs
specs_follow e (done ∷ dones) (model.Land l ∷ told) are specs = absurd specs

-- the deeds that close a job save a form
pub closes_specs : (d : List Deed) (name : List ℕ) → AreSpecs (closes d name)
closes_specs d name = go (job d name)
  where
    go : (o : Option FormValue) → AreSpecs (elim o as (λ _. List Deed) [ None ↦ [] | Some form ↦ model.Spec model.JobForm name (closed form) ∷ [] ])
    go None = tt
    go (Some form) = tt
