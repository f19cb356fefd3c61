use Rattle.std.proofs.Common.{◌≡◌, ℕ, Bool, List, [], ◌∷◌, true, false, refl, sym, ap, subst, ◌∙◌}
use Rattle.std.specs.Prelude.{codes}
use Rattle.depot_rows.specs.depot_path.Path.{is_path}
use Rattle.depot_rows.specs.table_changes.Changed.{AllRows, rows_of}
use Rattle.depot_rows.specs.depot_model.Deeds.{Deed, Free}
use Rattle.depot_rows.specs.depot_model.Opened.{holder}
use Rattle.depot_rows.specs.depot_model.Rows.{row, path_field, text_field}
use Rattle.depot_rows.specs.depot_model.Step.{nothing}
use Rattle.depot_rows.specs.depot_model.Steps.Opening.{held}
use Rattle.depot_rows.specs.depot_model.Steps.Reverting.{is_held_by, unlock_file}
use Rattle.depot_rows.specs.declared.deed.Deed.TheVariants as dones
use Rattle.reply_rows.specs.Made.{IsMade}
use Rattle.reply_rows.specs.declared.step.Step.{Step}
use Rattle.reply_rows.proofs.Bare.{tells_made}
use Rattle.reply_rows.proofs.Joined.{made_done}
use Rattle.command_parts.proofs.Refused.{first_told, if_ok, passed_first}
use Rattle.opened_files.proofs.Locked.{may_free}
use Rattle.opened_files.specs.Locks.{Reads, unlocking}
use Rattle.opened_files.specs.declared.locking.Unlocking.{Unlocking}
use Rattle.opened_files.proofs.locking.UnlockingFileAct.act.Goals as goal

abbrev Done : AllRows → Unlocking → List ℕ → Step → Type 0
Done rows own path step =
    (d e : List Deed) → Reads own.caller.now own.asker.now rows d → Unit {0} → IsMade rows d e (unlock_file d own.caller.now path) step

pub returns-in-Some : goal.returns-in-Some
returns-in-Some c = if_ok {Q = Done (rows_of c.args.tables.now) c.args.self.now c.args.path.now} _ _ c.tells.ensures (λ step told d e reads later.
    first_told (rows_of c.args.tables.now) d e _ _ _ _ c.in-Some.row step c.in-Some.is (c.in_ok-row.ensures d c.args.self.now.caller.now reads.asked) told)

pub returns-then-not-is_own : goal.returns-then-not-is_own
returns-then-not-is_own c = λ d e reads later.
    let caller = c.args.self.now.caller.now in
    let rows = rows_of c.args.tables.now in
    let other : false ≡ is_held_by caller (holder d c.args.path.now) =
    sym c.if-not-is_own.true ∙ c.is_own.ensures ∙ ap (is_held_by caller) (c.in_ok-who.ensures d reads.sound reads.listed) in
    passed_first rows d e _ _ _ _ c.new.result c.in_default.not-Some (c.in_ok-row.ensures d caller reads.asked)
    (subst (λ (b : Bool). IsMade rows d e (unlocking caller c.args.path.now b) c.new.result) other
    (subst (λ (s : Step). IsMade rows d e nothing s) (sym c.new.ensures) (tells_made rows d e [] tt)))

pub returns : goal.returns
returns c = if_ok {Q = Done (rows_of c.args.tables.now) c.args.self.now c.args.path.now} _ _ c.frees.ensures (λ step made d e reads later.
    let caller = c.args.self.now.caller.now in
    let path = c.args.path.now in
    let file = c.in_ok-file.file in
    let rows = rows_of c.args.tables.now in
    let bytes = c.as_bytes-bytes.ensures in
    let own : true ≡ is_held_by caller (holder d path) = sym c.if-not-is_own.false ∙ c.is_own.ensures ∙ ap (is_held_by caller) (c.in_ok-who.ensures d reads.sound reads.listed) in
    passed_first rows d e _ _ _ _ step c.in_default.not-Some (c.in_ok-row.ensures d caller reads.asked)
    (subst (λ (b : Bool). IsMade rows d e (unlocking caller path b) step) own
    (made_done rows d e (dones.Free file ∷ []) (Free (held caller path) ∷ []) c.in_ok-row-2.row
    (row (path_field (codes "depotFile") path ∷ text_field (codes "action") (codes "unlocked") ∷ [])) step
    (may_free e caller path file (ap is_path (sym bytes.value) ∙ bytes.path) c.in_ok-file.ensures) c.in_ok-row-2.ensures refl made)))
