use Rattle.std.proofs.Common.{◌≡◌, ℕ, List, [], ◌∷◌, Option, Some, refl, sym, ap, subst, ◌∙◌}
use Rattle.std.specs.Prelude.{codes, true}
use Rattle.std.specs.Option.{option_copied}
use Rattle.depot_rows.specs.depot_path.Path.{is_path}
use Rattle.depot_rows.specs.table_changes.Changed.{AllRows, rows_of}
use Rattle.depot_rows.specs.depot_model.declared.refusal.Refusal.TheVariants.{Locked}
use Rattle.depot_rows.specs.depot_model.Deeds.{Deed, Hold}
use Rattle.depot_rows.specs.depot_model.Opened.{holder}
use Rattle.depot_rows.specs.depot_model.Rows.{row, path_field, text_field}
use Rattle.depot_rows.specs.depot_model.Step.{Step as ModelStep}
use Rattle.depot_rows.specs.depot_model.Steps.Opening.{held}
use Rattle.depot_rows.specs.depot_model.Steps.Reverting.{lock_file}
use Rattle.depot_rows.specs.declared.deed.Deed.TheVariants as dones
use Rattle.reply_rows.specs.Made.{IsMade}
use Rattle.reply_rows.specs.declared.step.Step.{Step}
use Rattle.reply_rows.proofs.Joined.{made_done, made_refusal}
use Rattle.command_parts.proofs.Refused.{first_told, if_ok, none_found, passed_first}
use Rattle.opened_files.specs.Locks.{NoOther, Reads, StaysFree, locking, other_of}
use Rattle.opened_files.specs.declared.locking.Locking.{Locking}
use Rattle.opened_files.proofs.Locked.{locks, may_hold, none_other, other_locks}
use Rattle.opened_files.proofs.locking.LockingFileAct.act.Goals as goal

abbrev Done : AllRows → Locking → List ℕ → Step → Type 0
Done rows own path step =
    (d e : List Deed) → Reads own.caller.now own.asker.now rows d → StaysFree own.caller.now.client d e → IsMade rows d e (lock_file d own.caller.now path) step

pub returns-in-Some : goal.returns-in-Some
returns-in-Some c = if_ok {Q = Done (rows_of c.args.tables.now) c.args.self.now c.args.path.now} _ _ c.tells.ensures (λ step told d e reads later.
    first_told (rows_of c.args.tables.now) d e _ _ _ _ c.in-Some.row step c.in-Some.is (c.in_ok-row.ensures d c.args.self.now.caller.now reads.asked) told)

pub returns-in-Some-other_of : goal.returns-in-Some-other_of
returns-in-Some-other_of c = if_ok {Q = Done (rows_of c.args.tables.now) c.args.self.now c.args.path.now} _ _ c.tells-in-Some-other_of.ensures (λ step told d e reads later.
    let caller = c.args.self.now.caller.now in
    let path = c.args.path.now in
    let rows = rows_of c.args.tables.now in
    let other = c.in-Some-other_of.other.now in
    let there : Some other ≡ other_of caller.client c.in_ok-who.who = ap option_copied (sym c.in-Some-other_of.is) ∙ c.other_of.ensures in
    passed_first rows d e _ _ _ _ step c.in_default.not-Some (c.in_ok-row.ensures d caller reads.asked)
    (subst (λ (w : Option (List ℕ)). IsMade rows d e (locking caller path true w) step) (c.in_ok-who.ensures d reads.sound reads.listed)
    (subst (λ (m : ModelStep). IsMade rows d e m step) (other_locks caller path c.in_ok-who.who other there)
    (made_refusal rows d e (Locked path other) c.in_ok-row-2.row step c.in_ok-row-2.ensures told))))

pub returns : goal.returns
returns c = if_ok {Q = Done (rows_of c.args.tables.now) c.args.self.now c.args.path.now} _ _ c.holds.ensures (λ step made d e reads later.
    let caller = c.args.self.now.caller.now in
    let path = c.args.path.now in
    let rows = rows_of c.args.tables.now in
    let file = c.in_ok-file.file in
    let bytes = c.as_bytes-bytes.ensures in
    let who_is : c.in_ok-who.who ≡ holder d path = c.in_ok-who.ensures d reads.sound reads.listed in
    let free = none_other caller.client c.in_ok-who.who (ap option_copied (sym (none_found _ c.in_default-other_of.not-Some)) ∙ c.other_of.ensures) in
    passed_first rows d e _ _ _ _ step c.in_default.not-Some (c.in_ok-row.ensures d caller reads.asked)
    (subst (λ (w : Option (List ℕ)). IsMade rows d e (locking caller path true w) step) who_is
    (subst (λ (m : ModelStep). IsMade rows d e m step) (locks caller path c.in_ok-who.who free)
    (made_done rows d e (dones.Hold file ∷ []) (Hold (held caller path) ∷ []) c.in_ok-row-3.row
    (row (path_field (codes "depotFile") path ∷ text_field (codes "action") (codes "locked") ∷ [])) step
    (may_hold e caller path file (ap is_path (sym bytes.value) ∙ bytes.path) c.in_ok-file.ensures
    (later path (subst (λ (w : Option (List ℕ)). NoOther caller.client w) who_is free)))
    c.in_ok-row-3.ensures refl made))))
