use Rattle.std.proofs.Common.{List, [], ◌∷◌, ap, ◌∙◌}
use Rattle.std.specs.Prelude.{Some, decimal, flat_map}
use Rattle.depot_rows.specs.depot_model.declared.reply.Row.{Row}
use Rattle.depot_rows.specs.declared.deed.Opening.{Opening}
use Rattle.reply_rows.specs.Made.{told}
use Rattle.change_lists.specs.Showing.{listed_text, openings_told, shown_row}
use Rattle.change_lists.proofs.Shown.{row_is}
use Rattle.change_lists.proofs.showing.show_row.Goals as goal

pub returns : goal.returns
returns c = λ d caller sound asked has.
    let asker = c.args.asker.now in
    let r = c.args.row.now in
    let n = c.args.change in
    let openings = c.in_ok-openings.openings in
    let files = c.as_slice-2.ensures ∙ c.in_ok-files.ensures ∙ ap (λ (l : List Opening). flat_map (λ (o : Opening). listed_text asker o.path) l) c.as_slice.ensures in
    c.in_ok-step.ensures
    ∙ ap (λ (t : Row). told (t ∷ []))
    (c.in_ok-row.ensures
    ∙ (λ i. shown_row (Some n) (c.as_bytes-client.ensures i) (c.as_bytes-user.ensures i) (c.as_bytes-status.ensures i) (c.as_bytes-text.ensures i) (files i))
    ∙ row_is d caller asker asked (decimal n) r.client r.user r.status r.text openings (openings_told d r) (c.in_ok-openings.ensures d sound has))
