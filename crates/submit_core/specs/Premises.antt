-- What is read for the files of a submit. This project's own choice.
use Rattle.std.specs.Prelude.{◌≡◌, ℕ, List, [], ◌∷◌, Some}
use Rattle.depot_rows.specs.db_records.declared.table.TableId.TheVariants as tables
use Rattle.depot_rows.specs.table_changes.Changed.{AllRows}
use Rattle.depot_rows.specs.depot_model.declared.request.Content.{Content}
use Rattle.depot_rows.specs.depot_model.declared.request.Request.{Request}
use Rattle.depot_rows.specs.depot_model.Deeds.{Deed}
use Rattle.depot_rows.specs.depot_model.Opened.{opened}
use Rattle.depot_rows.specs.depot_model.Rules.{IsSound}
use Rattle.depot_rows.specs.Deed.{opening_of}
use Rattle.depot_rows.specs.Standing.{HasRows}
use Rattle.depot_rows.specs.declared.deed.Opening.{Opening}
use Rattle.named_files.specs.Asked.{IsAsker}
use Rattle.named_files.specs.declared.asker.Asker.{Asker}

-- the asker and the contents are those of the request, and the rows are the depot's
pub record Reads (all : AllRows) (d : List Deed) (request : Request) (asker : Asker) (contents : List Content) : Type 0 where
  pub sound : IsSound d
  pub asked : IsAsker d request.caller asker
  pub given : contents ≡ request.contents
  pub resolves : HasRows all d tables.Resolve
  pub workings : HasRows all d tables.Working
  pub revisions : HasRows all d tables.Rev

-- the client has the file opened so
abbrev pub IsOpened : List Deed → List ℕ → Opening → Type 0
IsOpened d client o = opened d client o.path ≡ Some (opening_of o)

abbrev pub AreOpened : List Deed → List ℕ → List Opening → Type 0
AreOpened d client [] = Unit {0}
AreOpened d client (o ∷ os) = IsOpened d client o × AreOpened d client os
