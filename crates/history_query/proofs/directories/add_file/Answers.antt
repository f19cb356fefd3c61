use Rattle.std.proofs.Common.{◌≡◌, ℕ, Bool, Option, true, false, List, Some, None, sym, ap, ◌∙◌}
use Rattle.std.specs.Prelude.{◌&&◌, flat_map, if◌then◌else◌}
use Rattle.std.specs.Option.{option_to_list}
use Rattle.depot_rows.specs.depot_path.Path.{is_path}
use Rattle.depot_rows.specs.depot_path.declared.revision.Wanted.TheVariants.{Head}
use Rattle.depot_rows.specs.depot_model.Arguments.{in_client_syntax}
use Rattle.depot_rows.specs.depot_model.Asking.{may_list}
use Rattle.depot_rows.specs.depot_model.Choice.{shown}
use Rattle.depot_rows.specs.depot_model.Revisions.{is_live_head}
use Rattle.depot_rows.specs.depot_model.Steps.History.{directories}
use Rattle.history_query.specs.Directories.{all_fitting}
use Rattle.history_query.proofs.Above.{begun_alone}
use Rattle.history_query.proofs.directories.add_file.Goals as goal

pub returns-then-not-visible : goal.returns-then-not-visible
returns-then-not-visible c = λ d sound asked has.
    let caller = c.args.caller.now in
    let pattern = c.args.pattern.now in
    let path = c.args.path in
    let bytes = c.as_bytes-bytes in
    let old : List (List ℕ) = c.args.set.now in
    let place = if in_client_syntax caller.client pattern then shown d caller Head path else Some path in
    let hidden : (may_list d caller path && is_live_head d path) ≡ false = sym (c.in_ok-visible.ensures d caller sound asked has) ∙ c.if-not-visible.true in
    ap (λ (b : Bool). all_fitting pattern (flat_map directories (option_to_list (if b then place else None))) old) (sym hidden)
    ∙ begun_alone d caller c.args.asker.now asked pattern path (ap is_path (sym bytes.ensures.value) ∙ bytes.ensures.path) old

pub returns : goal.returns
returns c = λ d sound asked has.
    let caller = c.args.caller.now in
    let pattern = c.args.pattern.now in
    let path = c.args.path in
    let bytes = c.as_bytes-bytes in
    let old : List (List ℕ) = c.args.set.now in
    let place = if in_client_syntax caller.client pattern then shown d caller Head path else Some path in
    let there : (may_list d caller path && is_live_head d path) ≡ true = sym (c.in_ok-visible.ensures d caller sound asked has) ∙ c.if-not-visible.false in
    c.in_ok-add_seen.ensures
    ∙ ap (λ (o : Option (List ℕ)). all_fitting pattern (flat_map directories (option_to_list o)) old) (c.in_ok-seen.ensures d sound asked has)
    ∙ ap (λ (b : Bool). all_fitting pattern (flat_map directories (option_to_list (if b then place else None))) old) (sym there)
    ∙ begun_alone d caller c.args.asker.now asked pattern path (ap is_path (sym bytes.ensures.value) ∙ bytes.ensures.path) old
