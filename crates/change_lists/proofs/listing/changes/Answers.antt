use Rattle.std.proofs.Common.{◌≡◌, List, ◌++◌, sym, subst}
use Rattle.std.specs.Prelude.{flat_map, map}
use Rattle.depot_rows.specs.table_changes.Changed.{rows_of}
use Rattle.depot_rows.specs.depot_model.declared.reply.Row.{Row}
use Rattle.depot_rows.specs.depot_model.Steps.Changes.{change_row, changes, missing}
use Rattle.reply_rows.specs.declared.step.Step.{Step}
use Rattle.reply_rows.specs.Made.{IsMade, told}
use Rattle.reply_rows.proofs.Bare.{tells_made}
use Rattle.named_files.specs.Sets.{ShownReads}
use Rattle.named_files.specs.declared.listing.Listing.TheVariants.{Submitted}
use Rattle.change_lists.specs.Listed.{changes_listed}
use Rattle.change_lists.proofs.ListedRows.{all_bare}
use Rattle.change_lists.proofs.listing.changes.Goals as goal

pub returns : goal.returns
returns c = λ d sound asked domain have label change rev.
    let all = rows_of c.args.tables.now in
    let caller = c.args.caller.now in
    let reads : ShownReads caller c.args.asker.now Submitted all d =
    record { sound = sound; asked = asked; listed = rev; has_have = have; has_label = label; has_domain = domain; has_rev = rev; has_change = change } in
    let most = c.args.most in
    let status = c.args.status.now in
    let user = c.args.user.now in
    let client = c.args.client.now in
    let files = c.args.files.now in
    let shown = changes_listed d caller most status user client files in
    let rows = flat_map (missing d caller) files ++ map change_row shown in
    let same : c.in_ok-rows.rows ≡ rows = c.in_ok-rows.ensures d reads in
    let made = subst (λ (r : List Row). IsMade all d d (changes d caller most status user client files) (told r)) (sym same) (tells_made all d d rows (all_bare d caller files shown)) in
    subst (λ (s : Step). IsMade all d d (changes d caller most status user client files) (record s { rows = c.in_ok-rows.rows })) (sym c.new-step.ensures) made
