use Rattle.std.proofs.Common.{◌≡◌, Bool, true, false, sym, ap, ◌∙◌}
use Rattle.std.specs.Prelude.{◌&&◌}
use Rattle.depot_rows.specs.protect_table.Rights.{may}
use Rattle.depot_rows.specs.depot_model.Asking.{may_list}
use Rattle.depot_rows.specs.depot_model.Revisions.{is_live_head}
use Rattle.history_query.proofs.directories.is_seen.Goals as goal

pub returns-then-not-may : goal.returns-then-not-may
returns-then-not-may c = λ d caller sound asked has.
    let path = c.args.path.now in
    let not_listed : may_list d caller path ≡ false =
    sym (c.may.ensures ∙ (λ i. may (asked.protects i) (asked.who i) path 1)) ∙ c.if-not-may.true in
    ap (λ (b : Bool). b && is_live_head d path) (sym not_listed)

pub returns : goal.returns
returns c = λ d caller sound asked has.
    let path = c.args.path.now in
    let listed : may_list d caller path ≡ true =
    sym (c.may.ensures ∙ (λ i. may (asked.protects i) (asked.who i) path 1)) ∙ c.if-not-may.false in
    c.in_ok-live.ensures d sound has ∙ ap (λ (b : Bool). b && is_live_head d path) (sym listed)
