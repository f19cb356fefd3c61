use Rattle.std.proofs.Common.{ℕ, List, [], ◌++◌, ◌-◌, length, take, drop, refl, sym, ap, subst, ◌∙◌}
use Rattle.std.specs.Prelude.{flat_map}
use Rattle.depot_rows.specs.depot_model.declared.command.FileArgument.{FileArgument}
use Rattle.depot_rows.specs.table_changes.Changed.{rows_of}
use Rattle.depot_rows.specs.depot_model.Arguments.{is_in}
use Rattle.depot_rows.specs.depot_model.Step.{both, nothing}
use Rattle.depot_rows.specs.depot_model.Steps.Reverting.{both_ends, revert_named, revert_over, selected}
use Rattle.reply_rows.specs.Made.{IsMade}
use Rattle.reply_rows.specs.declared.step.Step.{Step}
use Rattle.reply_rows.proofs.Bare.{tells_made}
use Rattle.opened_files.proofs.Reverts.{argument_then, parted_arguments}
use Rattle.opened_files.proofs.reverting.revert_over.Goals as goal

pub loop-rest-init : goal.loop-rest-init
loop-rest-init c = λ d reads.
    let rows = rows_of c.args.tables.now in (
      nothing,
      [],
      record {
        made = subst (λ (s : Step). IsMade rows d d nothing s) (sym c.new-step.ensures) (tells_made rows d d [] tt);
        alike = λ q. ap (λ (t : List (List ℕ)). is_in t q) c.new-taken.ensures;
      },
      refl,
    )

pub loop-rest-preserved : goal.loop-rest-preserved
loop-rest-preserved c = λ d reads.
    let files = c.args.files.now in
    let caller = files.caller.now in
    let before = c.loop-rest.invariant d reads in
    let m = before.0 in
    let now = before.1 in
    let rest = c.loop-rest.rest.now in
    let argument = c.argument-item.result in
    let after = take (length rest - 1) (drop 1 rest) in
    let named = selected d caller files.change argument in (
      both m (revert_named d caller now argument named),
      flat_map (both_ends d caller) named ++ now,
      c.in_ok-add_argument.ensures d m now reads before.2,
      argument_then d caller files.change m now argument after
          ∙ ap (λ (x : List FileArgument). both m (revert_over d caller files.change now x)) (parted_arguments rest argument c.in-len1-up.len_at_least c.argument-item.is) ∙ before.3,
    )
