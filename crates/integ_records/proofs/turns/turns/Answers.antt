use Rattle.std.proofs.Common.{◌-◌, [], Bool, List, length, take, drop, refl, sym, ap, subst, ◌∙◌}
use Rattle.std.specs.Prelude.{Some, map}
use Rattle.depot_rows.specs.table_changes.Changed.{rows_of}
use Rattle.depot_rows.specs.depot_model.Latest.{when}
use Rattle.depot_rows.specs.depot_model.Step.{Step as ModelStep, both, nothing}
use Rattle.depot_rows.specs.depot_model.Steps.Resolving.{resolve_one}
use Rattle.depot_rows.specs.Deed.{opening_of, owing_of}
use Rattle.depot_rows.specs.declared.deed.Owing.{Owing}
use Rattle.reply_rows.specs.Made.{IsMade}
use Rattle.reply_rows.specs.declared.step.Step.{Step}
use Rattle.reply_rows.proofs.Bare.{tells_made}
use Rattle.file_steps.proofs.Going.{parted}
use Rattle.integ_records.specs.Turns.{turns}
use Rattle.integ_records.proofs.Turning.{no_turns, shut_turns, turn_first}
use Rattle.integ_records.proofs.turns.turns.Goals as goal

pub loop-rest-init : goal.loop-rest-init
loop-rest-init c = λ d e has. (
  nothing,
  subst (λ (s : Step). IsMade (rows_of c.args.tables.now) d e nothing s) (sym c.new-step.ensures) (tells_made (rows_of c.args.tables.now) d e [] tt),
  refl,
)

pub loop-rest-preserved : goal.loop-rest-preserved
loop-rest-preserved c = λ d e has.
    let at = c.loop-rest in
    let now = at.invariant d e has in
    let taking = c.args.taking in
    let o = opening_of at.opening in
    let owing = c.owing-item.result in
    let later = take (length at.rest.now - 1) (drop 1 at.rest.now) in
    let stays = ap (λ (b : Bool). when b (opening_of c.add_turn.new.opening)) c.if-not-stays.false in (
      both now.0 (resolve_one d taking o (owing_of owing)),
      c.in_ok-stays.ensures.step d e now.0 has now.1,
      turn_first d taking now.0 o (owing_of owing) (map owing_of later) (opening_of c.add_turn.new.opening) (c.in_ok-stays.ensures.left d has ∙ stays)
          ∙ ap (λ (xs : List Owing). both now.0 (turns d taking (Some o) (map owing_of xs))) (parted at.rest.now owing c.in-len1-up.len_at_least c.owing-item.is) ∙ now.2,
    )

pub returns-then-not-stays : goal.returns-then-not-stays
returns-then-not-stays c = λ d e has.
    let at = c.loop-rest in
    let now = at.invariant d e has in
    let taking = c.args.taking in
    let rows = rows_of c.args.tables.now in
    let o = opening_of at.opening in
    let owing = c.owing-item.result in
    let later = take (length at.rest.now - 1) (drop 1 at.rest.now) in
    let shut = ap (λ (b : Bool). when b (opening_of c.add_turn.new.opening)) c.if-not-stays.true in
    subst (λ (m : ModelStep). IsMade rows d e m c.add_turn.new.step)
    (shut_turns d taking now.0 o (owing_of owing) (map owing_of later) (c.in_ok-stays.ensures.left d has ∙ shut)
    ∙ ap (λ (xs : List Owing). both now.0 (turns d taking (Some o) (map owing_of xs))) (parted at.rest.now owing c.in-len1-up.len_at_least c.owing-item.is) ∙ now.2)
    (c.in_ok-stays.ensures.step d e now.0 has now.1)

pub returns : goal.returns
returns c = λ d e has.
    let at = c.loop-rest in
    let now = at.invariant d e has in
    subst (λ (m : ModelStep). IsMade (rows_of c.args.tables.now) d e m at.step) (no_turns d c.args.taking now.0 (opening_of at.opening) at.rest.now c.in_default.len_below ∙ now.2) now.1
