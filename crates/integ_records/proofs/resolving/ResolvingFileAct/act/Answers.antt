use Rattle.std.proofs.Common.{ℕ, List, [], Some, None, map, sym, ap, subst, ◌∙◌}
use Rattle.std.specs.Prelude.{option_map}
use Rattle.std.specs.Option.{option_copied}
use Rattle.depot_rows.specs.db_records.declared.record.Record.TheVariants.{Working}
use Rattle.depot_rows.specs.table_changes.Changed.{AllRows, rows_of}
use Rattle.depot_rows.specs.depot_model.Deeds.{Deed, Opening, Owing}
use Rattle.depot_rows.specs.depot_model.Step.{Step as ModelStep, nothing}
use Rattle.depot_rows.specs.depot_model.Steps.Resolving.{resolve_file}
use Rattle.depot_rows.specs.Deed.{opening_of, owing_of}
use Rattle.depot_rows.specs.declared.deed.Opening.{Opening as OpeningSaid}
use Rattle.depot_rows.specs.declared.deed.Owing.{Owing as OwingSaid}
use Rattle.reply_rows.specs.Made.{IsMade}
use Rattle.reply_rows.specs.declared.step.Step.{Step}
use Rattle.reply_rows.proofs.Bare.{tells_made}
use Rattle.opening_reads.proofs.Opens.{row_opens}
use Rattle.command_parts.proofs.Refused.{first_told, if_ok, none_found, passed_first}
use Rattle.integ_records.specs.Turns.{Reads, turns}
use Rattle.integ_records.specs.declared.resolving.Resolving.{Resolving}
use Rattle.integ_records.proofs.Files.{not_resolved, resolved_by}
use Rattle.integ_records.proofs.resolving.ResolvingFileAct.act.Goals as goal

abbrev Resolves : AllRows → Resolving → List ℕ → Step → Type 0
Resolves rows own path step = (d e : List Deed) → Reads own.caller.now own.asker.now rows d → Unit {0} → IsMade rows d e (resolve_file own.taking d own.caller.now path) step

pub returns-in-Some : goal.returns-in-Some
returns-in-Some c = if_ok {Q = Resolves (rows_of c.args.tables.now) c.args.self.now c.args.path.now} _ _ c.tells.ensures (λ step told d e reads later.
    first_told (rows_of c.args.tables.now) d e _ [] _ _ c.in-Some.row step c.in-Some.is (c.in_ok-row.ensures d c.args.self.now.caller.now reads.asked) told)

pub returns-in_default-2 : goal.returns-in_default-2
returns-in_default-2 c = λ d e reads later.
    let own = c.args.self.now in
    let caller = own.caller.now in
    let rows = rows_of c.args.tables.now in
    passed_first rows d e _ [] _ _ c.new.result c.in_default.not-Some (c.in_ok-row.ensures d caller reads.asked)
    (subst (λ (m : ModelStep). IsMade rows d e m c.new.result)
    (not_resolved d caller own.taking c.args.path.now
    (ap (λ r. option_map Working (option_copied r)) (sym (none_found _ c.in_default-2.not-Some)) ∙ c.in_ok-working.ensures d reads.listed))
    (subst (λ (s : Step). IsMade rows d e nothing s) (sym c.new.ensures) (tells_made rows d e [] tt)))

pub returns : goal.returns
returns c = if_ok {Q = Resolves (rows_of c.args.tables.now) c.args.self.now c.args.path.now} _ _ c.turns.ensures (λ step made d e reads later.
    let own = c.args.self.now in
    let caller = own.caller.now in
    let client = caller.client in
    let path = c.args.path.now in
    let rows = rows_of c.args.tables.now in
    passed_first rows d e _ [] _ _ step c.in_default.not-Some (c.in_ok-row.ensures d caller reads.asked)
    (resolved_by d caller own.taking path reads.sound (λ m. IsMade rows d e m step) c.in-Some-2.working.now
    (ap (λ r. option_map Working (option_copied r)) (sym c.in-Some-2.is) ∙ c.in_ok-working.ensures d reads.listed)
    (λ o opened_is row_is.
    let opening = ap (λ (x : OpeningSaid). opening_of x) c.in_ok-opening.ensures ∙ row_opens d client path o c.in-Some-2.working.now None None reads.sound opened_is row_is in
    let owings = ap (λ (xs : List OwingSaid). map owing_of xs) c.as_slice.ensures ∙ c.in_ok-owings.ensures d o reads.sound reads.owed opened_is in
    subst (λ (xs : List Owing). IsMade rows d e (turns d own.taking (Some o) xs) step) owings
    (subst (λ (x : Opening). IsMade rows d e (turns d own.taking (Some x) (map owing_of c.as_slice.result.now)) step) opening (made d e reads.revisions)))))
