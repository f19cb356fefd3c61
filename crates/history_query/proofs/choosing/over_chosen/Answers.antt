use Rattle.std.proofs.Common.{List, [], ◌∷◌, refl, sym, subst}
use Rattle.std.specs.List.{All}
use Rattle.std.proofs.lemmas.List.Elements.{All-nil}
use Rattle.depot_rows.specs.db_records.declared.rows.RevRecord.{RevRecord}
use Rattle.depot_rows.specs.table_changes.Changed.{rows_of}
use Rattle.depot_rows.specs.depot_model.declared.command.FileArgument.{FileArgument}
use Rattle.depot_rows.specs.depot_model.declared.refusal.Refusal.TheVariants.{NoSuchFile}
use Rattle.depot_rows.specs.depot_model.Arguments.{everything}
use Rattle.depot_rows.specs.depot_model.Refusals.{refusal_row}
use Rattle.depot_rows.specs.depot_model.Step.{Step as ModelStep, tells}
use Rattle.named_files.proofs.Heads.{over_listed}
use Rattle.reply_rows.specs.Made.{IsMade}
use Rattle.history_query.specs.Choosing.{IsChosen}
use Rattle.history_query.proofs.choosing.over_chosen.Goals as goal

pub returns : goal.returns
returns g c = λ d asked reads has.
    let rows = rows_of c.args.tables.now in
    let caller = c.args.caller.now in
    let none = subst (λ (l : List RevRecord). All (IsChosen rows d caller everything.spec.wanted) l) (sym c.none.ensures.rows) (All-nil (IsChosen rows d caller everything.spec.wanted)) in
    subst (λ (m : ModelStep). IsMade rows d d m c.in_ok-step.step)
    (over_listed d caller (λ (a : FileArgument). tells (refusal_row (NoSuchFile a.text) ∷ [])) _ c.args.arguments.now)
    (c.in_ok-step.ensures everything d (record {
      sound = reads.sound;
      asked = asked;
      listed = reads.has_rev;
      has_have = reads.has_have;
      has_label = reads.has_label;
      has_domain = reads.has_domain;
      has_rev = reads.has_rev;
      has_change = reads.has_change;
    }) (has, reads, refl, none))
