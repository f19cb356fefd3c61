-- What a client has opened after what a command has done for it so far, over the depot before the command. This project's own choice.
use Rattle.std.specs.Prelude.{◌≡◌, ℕ, Bool, true, false, List, ◌++◌, Option, Some, None, option_map}
use Rattle.std.specs.BTreeMap.{BTreeMap, Updates, get}
use Rattle.std.specs.List.{list_all}
use Rattle.depot_rows.specs.depot_path.Bytes.{same}
use Rattle.depot_rows.specs.depot_path.Order.{path_cmp}
use Rattle.depot_rows.specs.depot_model.Deeds.{Deed, Open, Shut, Got, Owe, Paid, Opening}
use Rattle.depot_rows.specs.depot_model.Opened.{opened}
use Rattle.depot_rows.specs.Deed.{opening_of}
use Rattle.depot_rows.specs.declared.deed.Deed.{Deed as Done}
use Rattle.depot_rows.specs.declared.deed.Deed.TheVariants as dones
use Rattle.depot_rows.specs.declared.deed.Opening.{Opening as DoneOpening}
use Rattle.opening_reads.specs.declared.own_openings.OwnOpenings.{OwnOpenings}

-- a deed on the files of a client: those that it has opened, those of its have list, and the resolves that it owes
abbrev pub is_of : List ℕ → Deed → Bool
is_of client (Open o) = same o.client client
is_of client (Shut held) = same held.client client
is_of client (Got held rev) = same held.client client
is_of client (Owe o) = same o.client client
is_of client (Paid held from how) = same held.client client
is_of client _ = false

-- such deeds alone were done between two depots
pub record Came (client : List ℕ) (d e : List Deed) : Type 0 where
  pub deeds : List Deed
  pub those : e ≡ deeds ++ d
  pub own : list_all (is_of client) deeds ≡ true

-- each file that was opened or shut, with its opening afterwards
abbrev pub Changed : Type 0
Changed = BTreeMap (List ℕ) (Option DoneOpening)

-- the opening of a file, which is the one before unless it was opened or shut
abbrev pub opened_after : Changed → List ℕ → Option Opening → Option Opening
opened_after changed path before = elim (get path_cmp changed path) [ None ↦ before | Some opening ↦ option_map opening_of opening ]

-- what a deed makes of them
abbrev pub BecomesBy : Done → Changed → Changed → Type 0
BecomesBy (dones.Open o) old new = Updates path_cmp old new o.path (Some (Some o))
BecomesBy (dones.Shut held) old new = Updates path_cmp old new held.path (Some None)
BecomesBy _ old new = new ≡ old

-- the openings of the client in the depot e, after deeds on its files over the depot d
pub record IsOwn (own : OwnOpenings) (client : List ℕ) (d e : List Deed) : Type 0 where
  pub came : Came client d e
  pub told : (path : List ℕ) → opened e client path ≡ opened_after own.changed path (opened d client path)
