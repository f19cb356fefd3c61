use Rattle.std.proofs.Common.{ℕ, List, [], sym, ap, subst, ◌∙◌}
use Rattle.depot_rows.specs.table_changes.Changed.{AllRows, rows_of}
use Rattle.depot_rows.specs.depot_model.Choice.{Choice}
use Rattle.depot_rows.specs.depot_model.Deeds.{Deed}
use Rattle.depot_rows.specs.depot_model.Step.{nothing}
use Rattle.depot_rows.specs.depot_model.Steps.Integrating.{integrate_file}
use Rattle.reply_rows.specs.Made.{IsMade}
use Rattle.reply_rows.specs.declared.step.Step.{Step}
use Rattle.reply_rows.proofs.Bare.{tells_made}
use Rattle.revision_reads.specs.Choice.{choice_of}
use Rattle.named_files.specs.declared.listing.Listing.TheVariants.{Submitted}
use Rattle.named_files.proofs.Wanting.{reads_wanted}
use Rattle.command_parts.proofs.Refused.{first_told, if_ok, passed_first}
use Rattle.integ_records.specs.Reading.{ReadsOwn}
use Rattle.integ_records.specs.declared.integrating.Integrating.{Integrating}
use Rattle.integ_records.proofs.Integrated.{integrates_at}
use Rattle.integ_records.proofs.integrating.Integrating.integrate_file.Goals as goal

abbrev Integrates : AllRows → Integrating → List ℕ → Step → Type 0
Integrates rows own s step =
    (d e : List Deed) → ReadsOwn own.caller.now own.asker.now own.own rows d e → IsMade rows d e (integrate_file d own.caller.now own.change own.from.now own.to.now e s) step

pub returns-in-Some : goal.returns-in-Some
returns-in-Some c = if_ok {Q = Integrates (rows_of c.args.tables.now) c.args.self.now c.args.path.now} _ _ c.tells.ensures (λ step told d e reads.
    first_told (rows_of c.args.tables.now) d e _ [] _ _ c.in-Some.row step c.in-Some.is (c.in_ok-row.ensures d c.args.self.now.caller.now reads.reads.shown.asked) told)

pub returns-in-PassedOver : goal.returns-in-PassedOver
returns-in-PassedOver c = λ d e reads.
    let own = c.args.self.now in
    let caller = own.caller.now in
    let rows = rows_of c.args.tables.now in
    let read = reads.reads.shown in
    passed_first rows d e _ [] _ _ c.new.result c.in_default.not-Some (c.in_ok-row.ensures d caller read.asked)
    (subst (λ (x : Choice). IsMade rows d e (integrates_at d e caller own.change own.from.now own.to.now c.args.path.now x) c.new.result)
    (ap choice_of (sym c.in-PassedOver.is) ∙ c.in_ok-chosen_of.ensures d read.sound (reads_wanted caller own.asker.now Submitted rows d read own.from.now.spec.wanted))
    (subst (λ (s : Step). IsMade rows d e nothing s) (sym c.new.ensures) (tells_made rows d e [] tt)))

pub returns-in-At : goal.returns-in-At
returns-in-At c = if_ok {Q = Integrates (rows_of c.args.tables.now) c.args.self.now c.args.path.now} _ _ c.integrate_chosen.ensures (λ step made d e reads.
    let own = c.args.self.now in
    let caller = own.caller.now in
    let rows = rows_of c.args.tables.now in
    let read = reads.reads.shown in
    passed_first rows d e _ [] _ _ step c.in_default.not-Some (c.in_ok-row.ensures d caller read.asked)
    (subst (λ (x : Choice). IsMade rows d e (integrates_at d e caller own.change own.from.now own.to.now c.args.path.now x) step)
    (ap choice_of (sym c.in-At.is) ∙ c.in_ok-chosen_of.ensures d read.sound (reads_wanted caller own.asker.now Submitted rows d read own.from.now.spec.wanted))
    (made d e reads)))
