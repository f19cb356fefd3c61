use Rattle.std.proofs.Common.{List, [], ◌∷◌, ap, ◌∙◌}
use Rattle.std.specs.Prelude.{codes, None, flat_map}
use Rattle.depot_rows.specs.depot_model.declared.reply.Row.{Row}
use Rattle.depot_rows.specs.depot_model.Steps.Changing.{default_text}
use Rattle.depot_rows.specs.declared.deed.Opening.{Opening}
use Rattle.reply_rows.specs.Made.{told}
use Rattle.opening_reads.specs.InChange.{opened_in}
use Rattle.change_lists.specs.Showing.{listed_text, shown_row}
use Rattle.change_lists.proofs.Shown.{row_is}
use Rattle.change_lists.proofs.showing.show_new.Goals as goal

pub returns : goal.returns
returns c = λ d sound asked has.
    let caller = c.args.caller.now in
    let asker = c.args.asker.now in
    let openings = c.in_ok-openings.openings in
    let files = c.as_slice-2.ensures ∙ c.in_ok-files.ensures ∙ ap (λ (l : List Opening). flat_map (λ (o : Opening). listed_text asker o.path) l) c.as_slice.ensures in
    c.in_ok-step.ensures
    ∙ ap (λ (r : Row). told (r ∷ []))
    (c.in_ok-row.ensures
    ∙ (λ i. shown_row None (c.as_bytes-client.ensures.value i) (c.as_bytes-user.ensures.value i) (codes "new") default_text (files i))
    ∙ row_is d caller asker asked (codes "new") caller.client caller.user (codes "new") default_text openings (opened_in d caller.client 0) (c.in_ok-openings.ensures d sound has))
