use Rattle.std.proofs.Common.{Bool, [], ◌∷◌, sym, ap, subst, ◌∙◌}
use Rattle.std.specs.Prelude.{if◌then◌else◌}
use Rattle.depot_rows.specs.depot_path.Path.{is_path}
use Rattle.depot_rows.specs.depot_model.Deeds.{Got}
use Rattle.depot_rows.specs.depot_model.Step.{does}
use Rattle.depot_rows.specs.depot_model.Steps.Opening.{held}
use Rattle.depot_rows.specs.declared.deed.Deed.TheVariants as dones
use Rattle.reply_rows.specs.Made.{IsMade}
use Rattle.reply_rows.proofs.Joined.{made_done, made_row}
use Rattle.have_sync.specs.Syncing.{changed_row}
use Rattle.have_sync.proofs.Synced.{changed_bare, may_get}
use Rattle.have_sync.proofs.Numbers.{apart_test, same_test}
use Rattle.have_sync.proofs.syncing.get.Goals as goal

pub returns-then-stays : goal.returns-then-stays
returns-then-stays c = λ all d e asked has.
    let caller = c.args.caller.now in
    let path = c.args.path.now in
    let wanted = c.args.wanted.rev in
    let row = changed_row d caller path c.args.had wanted c.args.word.now in
    subst (λ (b : Bool). IsMade all d e (does (if b then [] else Got (held caller path) wanted ∷ []) row) c.in_ok-again.again) (sym (same_test c.args.had wanted c.if-stays.true))
    (made_row all d e c.in_ok-told.told row c.in_ok-again.again (c.in_ok-told.ensures d caller asked has)
    (changed_bare d caller path c.args.had wanted c.args.word.now) c.in_ok-again.ensures)

pub returns : goal.returns
returns c = λ all d e asked has.
    let caller = c.args.caller.now in
    let path = c.args.path.now in
    let wanted = c.args.wanted.rev in
    let row = changed_row d caller path c.args.had wanted c.args.word.now in
    let bytes = c.as_bytes-bytes.ensures in
    subst (λ (b : Bool). IsMade all d e (does (if b then [] else Got (held caller path) wanted ∷ []) row) c.in_ok-step.step) (sym (apart_test c.args.had wanted c.if-stays.false))
    (made_done all d e (dones.Got c.in_ok-file.file wanted ∷ []) (Got (held caller path) wanted ∷ []) c.in_ok-row.row row c.in_ok-step.step
    (may_get e caller path wanted c.in_ok-file.file (ap is_path (sym bytes.value) ∙ bytes.path) c.in_ok-file.ensures)
    (c.in_ok-row.ensures d caller asked has) (changed_bare d caller path c.args.had wanted c.args.word.now) c.in_ok-step.ensures)
