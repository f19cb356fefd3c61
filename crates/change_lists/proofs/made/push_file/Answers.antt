use Rattle.std.proofs.Common.{Bool, List, ℕ, [], ◌++◌, sym, ap, ◌∙◌}
use Rattle.std.specs.Prelude.{flat_map, if◌then◌else◌}
use Rattle.std.specs.Option.{option_to_list}
use Rattle.depot_rows.specs.depot_model.Range.{in_range}
use Rattle.depot_rows.specs.depot_model.Steps.Changes.{change_at}
use Rattle.change_lists.proofs.made.push_file.Goals as goal

pub returns : goal.returns
returns c = λ d sound has has_change has_wanted.
    let path = c.args.path.now in
    let was = c.args.made.now.items in
    c.in_ok-push_changes.ensures d has
    ∙ ap (λ (l : List ℕ). was ++ flat_map (λ rev. option_to_list (change_at d path rev)) l) (c.deref.ensures.value ∙ c.in_ok-revs.ensures d sound has has_change has_wanted)
    ∙ ap (λ (b : Bool). was ++ (if b then [] else flat_map (λ rev. option_to_list (change_at d path rev)) (in_range d c.args.caller.now path c.args.argument.now.spec.wanted)))
    (sym c.if-contains.false ∙ c.contains.ensures)
