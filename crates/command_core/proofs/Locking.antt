-- Where a deed of a step locks a file, the command writes the table of opened files.
use Rattle.std.proofs.Common.{◌≡◌, Bool, true, false, List, [], ◌∷◌, Result, Ok, Err, refl, sym, ap, ◌∙◌}
use Rattle.std.specs.Prelude.{◌||◌, ◌&&◌, IsTrue}
use Rattle.std.specs.List.{list_any, list_all}
use Rattle.std.proofs.lemmas.Option.{same_Some}
use Rattle.std.proofs.lemmas.Bool.{or_right}
use Rattle.depot_rows.specs.db_records.declared.table.TableId.{TableId}
use Rattle.depot_rows.specs.db_records.declared.table.TableId.TheVariants.{Working}
use Rattle.depot_rows.specs.table_changes.Changed.{AllRows}
use Rattle.depot_rows.specs.depot_model.declared.command.Command.{Command}
use Rattle.depot_rows.specs.depot_model.declared.request.Request.{Request}
use Rattle.depot_rows.specs.depot_model.declared.request.WordFault.{WordFault}
use Rattle.depot_rows.specs.depot_model.Commands.{step, whole_step}
use Rattle.depot_rows.specs.depot_model.Common.{word_refusal}
use Rattle.depot_rows.specs.depot_model.Deeds as model
use Rattle.depot_rows.specs.depot_model.Step.{Step as ModelStep, refuses}
use Rattle.depot_rows.specs.depot_model.Tables.{is_in, own_tables, reads, writes}
use Rattle.depot_rows.specs.declared.deed.Deed.{Deed}
use Rattle.depot_rows.specs.declared.deed.Deed.TheVariants.{Spec, Guard, Group, Count, Pend, Drop, Open, Shut, Hold, Free, Got, Tag, Owe, Paid, Land}
use Rattle.depot_rows.specs.Deed.{IsDeed}
use Rattle.depot_rows.specs.Effects.{Follow}
use Rattle.depot_rows.specs.Standing.{HasRows}
use Rattle.row_changes.specs.Locking.{is_hold}
use Rattle.step_tables.specs.DeedTables.{stays_in}
use Rattle.step_tables.proofs.Whole.{step_stays}
use Rattle.command_core.specs.Outcomes.{HasNeeded, HasNeededBy}

-- a deed of the model locks a file
abbrev locks : model.Deed → Bool
locks (model.Hold held) = true
locks _ = false

one_locks : (d : List model.Deed) (done : Deed) (deed : model.Deed) → IsDeed d done deed → is_hold done ≡ locks deed
one_locks d (Spec kind name form) deed is = ap locks (same_Some _ _ is)
one_locks d (Guard lines) deed is = ap locks (same_Some _ _ is)
one_locks d (Group name users) deed is = ap locks (same_Some _ _ is)
one_locks d (Count name value) deed is = ap locks (same_Some _ _ is)
one_locks d (Pend p) deed is = ap locks (same_Some _ _ is)
one_locks d (Drop n) deed is = ap locks (same_Some _ _ is)
one_locks d (Open o) deed is = ap locks (same_Some _ _ is)
one_locks d (Shut held) deed is = ap locks (same_Some _ _ is)
one_locks d (Hold held) deed is = ap locks (same_Some _ _ is)
one_locks d (Free held) deed is = ap locks (same_Some _ _ is)
one_locks d (Got held rev) deed is = ap locks (same_Some _ _ is)
one_locks d (Tag label path rev) deed is = ap locks (same_Some _ _ is)
one_locks d (Owe o) deed is = ap locks (same_Some _ _ is)
one_locks d (Paid held from how) deed is = ap locks (same_Some _ _ is)
one_locks d (Land l) deed is = ap locks is.1

-- deeds that follow a depot lock a file exactly where the model's do
lock_alike : (d : List model.Deed) (dones : List Deed) (deeds : List model.Deed) → Follow d dones deeds → list_any is_hold dones ≡ list_any locks deeds
lock_alike d [] [] follow = refl
lock_alike d [] (deed ∷ deeds) follow = absurd follow
lock_alike d (done ∷ dones) [] follow = absurd follow
lock_alike d (done ∷ dones) (deed ∷ deeds) follow = λ i. one_locks d done deed follow.0 i || lock_alike (deed ∷ d) dones deeds follow.2 i

-- a deed that stays in tables without that of opened files locks none
module _ (tables : List TableId) (without : is_in tables Working ≡ false) where
  both_are : (a b : Bool) → (a && b) ≡ true → (a ≡ true) × (b ≡ true)
  both_are true b e = (refl, e)
  both_are false b e = absurd cc

  one_stays : (deed : model.Deed) → stays_in tables deed ≡ true → locks deed ≡ false
  one_stays (model.Hold held) e = absurd (let here = (both_are (is_in tables Working) true e).0 in cc)
  one_stays (model.Spec kind name form) e = refl
  one_stays (model.Guard lines) e = refl
  one_stays (model.Group name users) e = refl
  one_stays (model.Count name value) e = refl
  one_stays (model.Pend p) e = refl
  one_stays (model.Drop n) e = refl
  one_stays (model.Open o) e = refl
  one_stays (model.Shut held) e = refl
  one_stays (model.Free held) e = refl
  one_stays (model.Got held rev) e = refl
  one_stays (model.Tag label path rev) e = refl
  one_stays (model.Owe o) e = refl
  one_stays (model.Paid held from how) e = refl
  one_stays (model.Land l) e = refl

  none_locks : (deeds : List model.Deed) → list_all (stays_in tables) deeds ≡ true → list_any locks deeds ≡ false
  none_locks [] e = refl
  none_locks (deed ∷ deeds) e =
      let parts = both_are (stays_in tables deed) (list_all (stays_in tables) deeds) e in
      λ i. one_stays deed parts.0 i || none_locks deeds parts.1 i

module _ (all : AllRows) (d : List model.Deed) (request : Request) where
  abbrev step_for : Result Command WordFault → ModelStep
  step_for asked = elim asked [ Err fault ↦ refuses (word_refusal fault) | Ok command ↦ whole_step d request command ]

  by_command : (command : Command) (dones : List Deed) → request.command ≡ Ok command → HasNeededBy all d (Ok command) → Follow d dones (step d request).deeds
      → IsTrue (list_any is_hold dones) → (written : Bool) → writes command Working ≡ written → HasRows all d Working
  by_command command dones asked has follow held true e = has Working (or_right (reads command Working) (writes command Working) e)
  by_command command dones asked has follow held false e =
      absurd (let one : true ≡ false = sym held ∙ lock_alike d dones (step d request).deeds follow
      ∙ none_locks (own_tables command).written e (step d request).deeds (step_stays d request command asked).each in cc)

  by_words : (asked : Result Command WordFault) (dones : List Deed) → request.command ≡ asked → HasNeededBy all d asked → Follow d dones (step d request).deeds
      → IsTrue (list_any is_hold dones) → HasRows all d Working
  by_words (Ok command) dones asked has follow held = by_command command dones asked has follow held (writes command Working) refl
  by_words (Err fault) dones asked has follow held =
      absurd (let one : true ≡ false = sym held ∙ lock_alike d dones (step d request).deeds follow ∙ ap (λ k. list_any locks (step_for k).deeds) asked in cc)

  pub opened_has_rows : (dones : List Deed) → HasNeeded all d request → Follow d dones (step d request).deeds → IsTrue (list_any is_hold dones) → HasRows all d Working
  opened_has_rows dones has follow held = by_words request.command dones refl has follow held
