use Rattle.std.proofs.Common.{◌≡◌, ℕ, List, [], ◌∷◌, Some, refl, sym, ap, subst, ◌∙◌}
use Rattle.std.specs.Prelude.{option_map}
use Rattle.std.specs.Option.{option_copied}
use Rattle.depot_rows.specs.db_records.declared.record.Record.TheVariants.{Working}
use Rattle.depot_rows.specs.depot_path.Path.{is_path}
use Rattle.depot_rows.specs.table_changes.Changed.{AllRows, rows_of}
use Rattle.depot_rows.specs.depot_model.Deeds.{Deed, Open}
use Rattle.depot_rows.specs.depot_model.Step.{Step as ModelStep, nothing}
use Rattle.depot_rows.specs.depot_model.Steps.Reverting.{reopen_file, reopen_row}
use Rattle.depot_rows.specs.Deed.{opening_of}
use Rattle.depot_rows.specs.declared.deed.Deed.TheVariants as dones
use Rattle.depot_rows.specs.declared.deed.Opening.{Opening}
use Rattle.opening_reads.specs.Read.{opening_in_row}
use Rattle.reply_rows.specs.Made.{IsMade}
use Rattle.reply_rows.specs.declared.step.Step.{Step}
use Rattle.reply_rows.proofs.Bare.{tells_made}
use Rattle.reply_rows.proofs.Joined.{made_done}
use Rattle.command_parts.proofs.Refused.{first_told, if_ok, none_found, passed_first}
use Rattle.opened_files.specs.Locks.{Reads}
use Rattle.opened_files.specs.declared.reopening.Reopening.{Reopening}
use Rattle.opened_files.proofs.Reopened.{not_reopened, reopened_by}
use Rattle.opened_files.proofs.reopening.ReopeningFileAct.act.Goals as goal

abbrev Done : AllRows → Reopening → List ℕ → Step → Type 0
Done rows own path step =
    (d e : List Deed) → Reads own.caller.now own.asker.now rows d → Unit {0} → IsMade rows d e (reopen_file d own.caller.now own.change own.file_type.now path) step

pub returns-in_default : goal.returns-in_default
returns-in_default c = λ d e reads later.
    let own = c.args.self.now in
    let rows = rows_of c.args.tables.now in
    subst (λ (m : ModelStep). IsMade rows d e m c.new.result)
    (not_reopened d own.caller.now c.args.path.now own.change own.file_type.now
    (ap (λ r. option_map Working (option_copied r)) (sym (none_found _ c.in_default.not-Some)) ∙ c.in_ok-row.ensures d reads.listed))
    (subst (λ (s : Step). IsMade rows d e nothing s) (sym c.new.ensures) (tells_made rows d e [] tt))

pub returns-in-Some-2 : goal.returns-in-Some-2
returns-in-Some-2 c = if_ok {Q = Done (rows_of c.args.tables.now) c.args.self.now c.args.path.now} _ _ c.tells.ensures (λ step told d e reads later.
    let own = c.args.self.now in
    let caller = own.caller.now in
    let path = c.args.path.now in
    let rows = rows_of c.args.tables.now in
    subst (λ (m : ModelStep). IsMade rows d e m step)
    (reopened_by d caller path own.change own.file_type.now c.in-Some.row.now reads.sound
    (ap (λ r. option_map Working (option_copied r)) (sym c.in-Some.is) ∙ c.in_ok-row.ensures d reads.listed))
    (first_told rows d e _ [] _ _ c.in-Some-2.told step c.in-Some-2.is (c.in_ok-told.ensures d caller reads.asked) told))

pub returns : goal.returns
returns c = if_ok {Q = Done (rows_of c.args.tables.now) c.args.self.now c.args.path.now} _ _ c.opens.ensures (λ step made d e reads later.
    let own = c.args.self.now in
    let caller = own.caller.now in
    let path = c.args.path.now in
    let rows = rows_of c.args.tables.now in
    let opening = c.in_ok-opening.opening in
    let is = opening_in_row caller.client path c.in-Some.row.now own.change own.file_type.now in
    let one : opening ≡ is = c.in_ok-opening.ensures in
    let bytes = c.as_bytes-bytes.ensures in
    subst (λ (m : ModelStep). IsMade rows d e m step)
    (reopened_by d caller path own.change own.file_type.now c.in-Some.row.now reads.sound
    (ap (λ r. option_map Working (option_copied r)) (sym c.in-Some.is) ∙ c.in_ok-row.ensures d reads.listed))
    (passed_first rows d e _ [] _ _ step c.in_default-2.not-Some (c.in_ok-told.ensures d caller reads.asked)
    (made_done rows d e (dones.Open opening ∷ []) (Open (opening_of is) ∷ []) c.in_ok-told-2.told (reopen_row (opening_of is)) step
    (ap (λ (o : Opening). Some (Open (opening_of o))) one, ap (λ (o : Opening). is_path o.path) one ∙ ap is_path (sym bytes.value) ∙ bytes.path, tt)
    (c.in_ok-told-2.ensures ∙ ap (λ (o : Opening). reopen_row (opening_of o)) one) refl made)))
