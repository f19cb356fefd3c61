-- The deeds of the model that deeds of the code are. A deed is the model's in all that it tells; but a submitted change tells of a content only
-- its digest, its length and its place in the archive, and of each entry also the number of the revision that it becomes. This project's own
-- choice.
use Rattle.std.specs.Prelude.{◌≡◌, ℕ, ◌+◌, List, [], ◌∷◌, length, map, Option, Some, None, option_map}
use Rattle.depot_rows.specs.declared.deed.SpecKind.{SpecKind}
use Rattle.depot_rows.specs.declared.deed.SpecKind.TheVariants.{Client, Label, Shelf, Job, Fix}
use Rattle.depot_rows.specs.declared.deed.Action.{Action}
use Rattle.depot_rows.specs.declared.deed.Action.TheVariants.{Add, Edit, Delete, Branch, Integrate, MoveAdd, MoveDelete}
use Rattle.depot_rows.specs.declared.deed.How.{How}
use Rattle.depot_rows.specs.declared.deed.How.TheVariants.{CopyFrom, BranchFrom, DeleteFrom, Ignored, MovedFrom}
use Rattle.depot_rows.specs.declared.deed.Pending.{Pending}
use Rattle.depot_rows.specs.declared.deed.Source.{Source}
use Rattle.depot_rows.specs.declared.deed.Opening.{Opening}
use Rattle.depot_rows.specs.declared.deed.Held.{Held}
use Rattle.depot_rows.specs.declared.deed.Owing.{Owing}
use Rattle.depot_rows.specs.declared.deed.Credit.{Credit}
use Rattle.depot_rows.specs.declared.deed.Stored.{Stored}
use Rattle.depot_rows.specs.declared.deed.Entry.{Entry}
use Rattle.depot_rows.specs.declared.deed.Landing.{Landing}
use Rattle.depot_rows.specs.declared.deed.Deed.{Deed}
use Rattle.depot_rows.specs.declared.deed.Deed.TheVariants.{Spec, Guard, Group, Count, Pend, Drop, Open, Shut, Hold, Free, Got, Tag, Owe, Paid, Land}
use Rattle.depot_model.specs.Deeds as model
use Rattle.depot_model.specs.Records.{digest}
use Rattle.depot_model.specs.Revisions.{head}

abbrev pub kind_of : SpecKind → model.SpecKind
kind_of Client = model.ClientForm
kind_of Label = model.LabelForm
kind_of Shelf = model.ShelfForm
kind_of Job = model.JobForm
kind_of Fix = model.FixForm

abbrev pub action_of : Action → model.Action
action_of Add = model.Add
action_of Edit = model.Edit
action_of Delete = model.Delete
action_of Branch = model.Branch
action_of Integrate = model.Integrate
action_of MoveAdd = model.MoveAdd
action_of MoveDelete = model.MoveDelete

abbrev pub how_of : How → model.How
how_of CopyFrom = model.CopyFrom
how_of BranchFrom = model.BranchFrom
how_of DeleteFrom = model.DeleteFrom
how_of Ignored = model.Ignored
how_of MovedFrom = model.MovedFrom

abbrev pub pending_of : Pending → model.Pending
pending_of p = record { change = p.change; user = p.user; client = p.client; moment = p.moment; text = p.text }

abbrev pub source_of : Source → model.Source
source_of s = record { path = s.path; rev = s.rev }

abbrev pub opening_of : Opening → model.Opening
opening_of o = record {
  client = o.client;
  path = o.path;
  base = o.base;
  action = action_of o.action;
  file_type = o.file_type;
  change = o.change;
  source = option_map source_of o.source;
  moved = o.moved;
}

abbrev pub held_of : Held → model.Held
held_of held = record { client = held.client; path = held.path }

abbrev pub owing_of : Owing → model.Owing
owing_of o = record { client = o.client; path = o.path; from = o.from; first = o.first; last = o.last }

abbrev pub credit_of : Credit → model.Credit
credit_of c = record { from = c.from; first = c.first; last = c.last; how = how_of c.how }

-- the deed of the model, of each kind but a submitted change
abbrev pub deed_of : Deed → Option model.Deed
deed_of (Spec kind name form) = Some (model.Spec (kind_of kind) name form)
deed_of (Guard lines) = Some (model.Guard lines)
deed_of (Group name users) = Some (model.Group name users)
deed_of (Count name value) = Some (model.Count name value)
deed_of (Pend p) = Some (model.Pend (pending_of p))
deed_of (Drop n) = Some (model.Drop n)
deed_of (Open o) = Some (model.Open (opening_of o))
deed_of (Shut held) = Some (model.Shut (held_of held))
deed_of (Hold held) = Some (model.Hold (held_of held))
deed_of (Free held) = Some (model.Free (held_of held))
deed_of (Got held rev) = Some (model.Got (held_of held) rev)
deed_of (Tag label path rev) = Some (model.Tag label path rev)
deed_of (Owe o) = Some (model.Owe (owing_of o))
deed_of (Paid held from how) = Some (model.Paid (held_of held) from (how_of how))
deed_of (Land l) = None

-- what is stored is the content
abbrev pub IsStored : Option Stored → Option (List ℕ) → Type 0
IsStored None None = Unit {0}
IsStored (Some s) (Some content) = (s.digest ≡ digest content) × (s.spot.length ≡ length content)
IsStored _ _ = ⊥

-- an entry is the model's, and becomes the next revision of its path
pub record IsEntry (d : List model.Deed) (e : Entry) (entry : model.Entry) : Type 0 where
  pub path : e.path ≡ entry.path
  pub rev : e.rev ≡ head d entry.path + 1
  pub action : action_of e.action ≡ entry.action
  pub file_type : e.file_type ≡ entry.file_type
  pub content : IsStored e.content entry.content
  pub credits : map credit_of e.credits ≡ entry.credits
  pub moved : e.moved ≡ entry.moved

abbrev pub AreEntries : List model.Deed → List Entry → List model.Entry → Type 0
AreEntries d [] [] = Unit {0}
AreEntries d (e ∷ es) (entry ∷ entries) = IsEntry d e entry × AreEntries d es entries
AreEntries d _ _ = ⊥

pub record IsLanding (d : List model.Deed) (l : Landing) (landing : model.Landing) : Type 0 where
  pub change : l.change ≡ landing.change
  pub user : l.user ≡ landing.user
  pub client : l.client ≡ landing.client
  pub moment : l.moment ≡ landing.moment
  pub text : l.text ≡ landing.text
  pub entries : AreEntries d l.entries landing.entries

-- a deed is the model's over the depot before it
abbrev pub IsDeed : List model.Deed → Deed → model.Deed → Type 0
IsDeed d (Land l) deed = (landing : model.Landing) × (model.Land landing ≡ deed) × IsLanding d l landing
IsDeed d done deed = deed_of done ≡ Some deed
