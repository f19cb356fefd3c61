-- What is read of a depot in which no shelved file is: the same without the forms of shelved files.
use Rattle.std.proofs.Common.{◌≡◌, ℕ, List, [], ◌∷◌, ◌++◌, length, refl, ap}
use Rattle.std.specs.Prelude.{flat_map}
use Rattle.std.specs.Option.{option_or, option_map_or}
use Rattle.depot_model.specs.spec_form.Form.{FormValue}
use Rattle.depot_model.specs.Arguments.{landed_paths, submitted}
use Rattle.depot_model.specs.Deeds.{Deed, Entry, Landing, Pend, Land, Spec, ClientForm, LabelForm, ShelfForm, JobForm, FixForm}
use Rattle.depot_model.specs.Latest.{latest, keys_of, have_said, label_said, spec_said, guard_said, group_said, group_name}
use Rattle.depot_model.specs.Numbers.{landings, pending_said}
use Rattle.depot_model.specs.Records.{integrations, pair_of}
use Rattle.depot_model.specs.Revisions.{Revision, revisions, entries_at}
use Rattle.depot_model.specs.Sorted.{inserted, all_inserted}
use Rattle.depot_model.specs.Steps.Changes.{numbers, number_inserted}
use Rattle.depot_runs.specs.Folds.{without_shelves}

pub record Alike (d e : List Deed) : Type 0 where
  pub made : (path : List ℕ) → revisions d path ≡ revisions e path
  pub files : submitted d ≡ submitted e
  pub credits : integrations d ≡ integrations e
  pub landed : landings d ≡ landings e
  pub pendings : (n : ℕ) → latest (pending_said n) d ≡ latest (pending_said n) e
  pub numbered : numbers d ≡ numbers e
  pub gots : (client path : List ℕ) → latest (have_said client path) d ≡ latest (have_said client path) e
  pub tags : (label path : List ℕ) → latest (label_said label path) d ≡ latest (label_said label path) e
  pub clients : (name : List ℕ) → latest (spec_said ClientForm name) d ≡ latest (spec_said ClientForm name) e
  pub labels : (name : List ℕ) → latest (spec_said LabelForm name) d ≡ latest (spec_said LabelForm name) e
  pub guards : latest guard_said d ≡ latest guard_said e
  pub members : (name : List ℕ) → latest (group_said name) d ≡ latest (group_said name) e
  pub groups : keys_of group_name d ≡ keys_of group_name e

module _ (d e : List Deed) (alike : Alike d e) where
  made_next : (deed : Deed) (path : List ℕ) → revisions (deed ∷ d) path ≡ revisions (deed ∷ e) path
  made_next (Land l) path = ap (λ (rs : List Revision). rs ++ entries_at path l) (alike.made path)
  made_next _ path = alike.made path

  credits_next : (deed : Deed) → integrations (deed ∷ d) ≡ integrations (deed ∷ e)
  credits_next (Land l) = λ i.
      flat_map (λ (x : Entry). flat_map (pair_of l.change x.path (length (alike.made x.path i ++ entries_at x.path l))) x.credits) l.entries ++ alike.credits i
  credits_next _ = alike.credits

  landed_next : (deed : Deed) → landings (deed ∷ d) ≡ landings (deed ∷ e)
  landed_next (Land l) = ap (λ (ls : List Landing). l ∷ ls) alike.landed
  landed_next _ = alike.landed

  numbered_next : (deed : Deed) → numbers (deed ∷ d) ≡ numbers (deed ∷ e)
  numbered_next (Pend p) = ap (number_inserted p.change) alike.numbered
  numbered_next (Land l) = ap (number_inserted l.change) alike.numbered
  numbered_next _ = alike.numbered

  next : (deed : Deed) → Alike (deed ∷ d) (deed ∷ e)
  next deed = record {
    made = made_next deed;
    files = ap (all_inserted (landed_paths deed)) alike.files;
    credits = credits_next deed;
    landed = landed_next deed;
    pendings = λ n. ap (option_or (pending_said n deed)) (alike.pendings n);
    numbered = numbered_next deed;
    gots = λ client path. ap (option_or (have_said client path deed)) (alike.gots client path);
    tags = λ label path. ap (option_or (label_said label path deed)) (alike.tags label path);
    clients = λ name. ap (option_or (spec_said ClientForm name deed)) (alike.clients name);
    labels = λ name. ap (option_or (spec_said LabelForm name deed)) (alike.labels name);
    guards = ap (option_or (guard_said deed)) alike.guards;
    members = λ name. ap (option_or (group_said name deed)) (alike.members name);
    groups = ap (option_map_or inserted (group_name deed) (λ (keys : List (List ℕ)). keys)) alike.groups;
  }

  shelf : (name : List ℕ) (form : FormValue) → Alike (Spec ShelfForm name form ∷ d) e
  shelf name form = record {
    made = alike.made;
    files = alike.files;
    credits = alike.credits;
    landed = alike.landed;
    pendings = alike.pendings;
    numbered = alike.numbered;
    gots = alike.gots;
    tags = alike.tags;
    clients = alike.clients;
    labels = alike.labels;
    guards = alike.guards;
    members = alike.members;
    groups = alike.groups;
  }

nothing : Alike [] []
nothing = record {
  made = λ path. refl;
  files = refl;
  credits = refl;
  landed = refl;
  pendings = λ n. refl;
  numbered = refl;
  gots = λ client path. refl;
  tags = λ label path. refl;
  clients = λ name. refl;
  labels = λ name. refl;
  guards = refl;
  members = λ name. refl;
  groups = refl;
}

pub apart : (d : List Deed) → Alike d (without_shelves d)
apart [] = nothing
apart (Spec ShelfForm name form ∷ d) = shelf d (without_shelves d) (apart d) name form
apart (Spec ClientForm name form ∷ d) = next d (without_shelves d) (apart d) (Spec ClientForm name form)
apart (Spec LabelForm name form ∷ d) = next d (without_shelves d) (apart d) (Spec LabelForm name form)
apart (Spec JobForm name form ∷ d) = next d (without_shelves d) (apart d) (Spec JobForm name form)
apart (Spec FixForm name form ∷ d) = next d (without_shelves d) (apart d) (Spec FixForm name form)
apart (deed ∷ d) = next d (without_shelves d) (apart d) deed
