-- What a step stores: a command that is no submit lands nothing, so that it stores nothing.
use Rattle.std.proofs.Common.{◌≡◌, ℕ, true, false, List, [], ◌∷◌, refl}
use Rattle.std.specs.Prelude.{◌&&◌}
use Rattle.std.specs.List.{list_all}
use Rattle.std.proofs.lemmas.Bool.{and_parts}
use Rattle.depot_rows.specs.db_records.declared.table.TableId.{TableId}
use Rattle.depot_rows.specs.db_records.declared.table.TableId.TheVariants as ids
use Rattle.depot_rows.specs.table_changes.Changed.{AllRows}
use Rattle.depot_rows.specs.depot_model.Commands.{own_step}
use Rattle.depot_rows.specs.depot_model.Deeds as model
use Rattle.depot_rows.specs.depot_model.Refusals.{refusal_row}
use Rattle.depot_rows.specs.depot_model.Step.{refuses}
use Rattle.depot_rows.specs.depot_model.Tables.{is_in, own_tables, writes}
use Rattle.depot_rows.specs.depot_model.declared.command.Command.{Command}
use Rattle.depot_rows.specs.depot_model.declared.command.Command.TheVariants.{SubmitChange, SubmitDefault}
use Rattle.depot_rows.specs.depot_model.declared.refusal.Refusal.{Refusal}
use Rattle.depot_rows.specs.depot_model.declared.request.Request.{Request}
use Rattle.depot_rows.specs.declared.deed.Deed.{Deed}
use Rattle.depot_rows.specs.declared.deed.Deed.TheVariants as deeds
use Rattle.reply_rows.specs.Made.{told}
use Rattle.reply_rows.proofs.Bare.{refuses_made}
use Rattle.step_stores.specs.Stored.{AreStored, IsStoring, NothingLands}
use Rattle.step_stores.proofs.Storing.{made_stores}
use Rattle.step_tables.specs.DeedTables.{stays_in}
use Rattle.step_tables.proofs.Whole.{own_stays}
use Rattle.command_core.specs.Families.{is_submit}

-- a refusal stores nothing
pub refuses_storing : (all : AllRows) (from : ℕ) (d : List model.Deed) (why : Refusal) → IsStoring all from d (refuses why) (told (refusal_row why ∷ []))
refuses_storing all from d why = made_stores all from d (refuses why) (told (refusal_row why ∷ [])) (refuses_made all d d why) tt

-- deeds that stay in tables without that of revisions land nothing
module _ (tables : List TableId) (without : is_in tables ids.Rev ≡ false) where
  lands_out : (l : model.Landing) → stays_in tables (model.Land l) ≡ true → ⊥
  lands_out l e =
      let fourth = (and_parts (is_in tables ids.Change) (is_in tables ids.Rev && true) (and_parts (is_in tables ids.Integed) (is_in tables ids.Change && (is_in tables ids.Rev && true)) (and_parts (is_in tables ids.Counter) (is_in tables ids.Integed && (is_in tables ids.Change && (is_in tables ids.Rev && true))) e).1).1).1 in
      let last = (and_parts (is_in tables ids.Rev) true fourth).0 in
      absurd cc

  none_land : (deeds : List model.Deed) → list_all (stays_in tables) deeds ≡ true → NothingLands deeds
  none_land [] e = tt
  none_land (model.Land l ∷ deeds) e = absurd (lands_out l (and_parts (stays_in tables (model.Land l)) (list_all (stays_in tables) deeds) e).0)
  none_land (deed ∷ deeds) e = none_land deeds (and_parts (stays_in tables deed) (list_all (stays_in tables) deeds) e).1

lands_nothing : (command : Command) → is_submit command ≡ false → writes command ids.Rev ≡ false
lands_nothing (SubmitChange n) e = absurd cc
lands_nothing (SubmitDefault text) e = absurd cc
lands_nothing _ e = refl

pub own_lands_nothing : (d : List model.Deed) (request : Request) (command : Command) → is_submit command ≡ false → NothingLands (own_step d request command).deeds
own_lands_nothing d request command e = none_land (own_tables command).written (lands_nothing command e) (own_step d request command).deeds (own_stays d request command).each

-- where nothing lands nothing is stored
pub stores_none : (all : AllRows) (from : ℕ) (d : List model.Deed) (stores : List (List ℕ)) (dones : List Deed) (told : List model.Deed)
    → AreStored all from d stores dones told → NothingLands told → stores ≡ []
stores_none all from d stores (deeds.Land l ∷ dones) (model.Land m ∷ told) stored nothing = absurd nothing
stores_none all from d stores (deeds.Land l ∷ dones) [] stored nothing = stored.0
stores_none all from d stores (deeds.Land l ∷ dones) (deed ∷ told) stored nothing = stored.0
stores_none all from d stores dones told stored nothing = stored.0
