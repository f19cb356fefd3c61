use Rattle.std.proofs.Common.{◌≡◌, ℕ, Bool, true, false, List, Some, sym, ap, ◌∙◌}
use Rattle.std.specs.Prelude.{if◌then◌else◌}
use Rattle.depot_rows.specs.view_map.Mapping.{mapped}
use Rattle.depot_rows.specs.view_map.declared.line.ViewLine.{ViewLine}
use Rattle.depot_rows.specs.depot_path.declared.revision.Wanted.TheVariants.{Head}
use Rattle.depot_rows.specs.depot_model.Arguments.{in_client_syntax}
use Rattle.depot_rows.specs.depot_model.Choice.{shown}
use Rattle.revision_reads.specs.Shown.{shown_in}
use Rattle.history_query.proofs.Above.{shown_mapped}
use Rattle.history_query.proofs.directories.seen_of.Goals as goal

pub returns-then-not-in_client_syntax : goal.returns-then-not-in_client_syntax
returns-then-not-in_client_syntax c = λ d sound asked has.
    let caller = c.args.caller.now in
    let pattern = c.args.pattern.now in
    let plain : in_client_syntax caller.client pattern ≡ false =
    ap (λ (name : List ℕ). in_client_syntax name pattern) (sym asked.client) ∙ sym c.in_client_syntax.ensures ∙ c.if-not-in_client_syntax.true in
    ap (λ (b : Bool). if b then shown d caller Head c.args.path else Some c.args.path) (sym plain)

pub returns : goal.returns
returns c = λ d sound asked has.
    let caller = c.args.caller.now in
    let pattern = c.args.pattern.now in
    let path = c.args.path in
    let there : in_client_syntax caller.client pattern ≡ true =
    ap (λ (name : List ℕ). in_client_syntax name pattern) (sym asked.client) ∙ sym c.in_client_syntax.ensures ∙ c.if-not-in_client_syntax.false in
    c.in_ok-place.ensures d sound has (has, tt)
    ∙ ap (λ (v : List ViewLine). shown_in d caller Head (mapped v path)) asked.view
    ∙ shown_mapped d caller path
    ∙ ap (λ (b : Bool). if b then shown d caller Head path else Some path) (sym there)
