use Rattle.std.proofs.Common.{ℕ, List, sym, ap, ◌∙◌}
use Rattle.std.specs.Prelude.{flat_map}
use Rattle.history_query.specs.Directories.{all_fitting, begun_directories}
use Rattle.history_query.proofs.Fitting.{last_fits}
use Rattle.history_query.proofs.directories.directories_among.Goals as goal

pub loop-path-preserved : goal.loop-path-preserved
loop-path-preserved c = λ d sound asked has.
    let at = c.loop-path in
    let pattern = c.args.pattern.now in
    let directories = begun_directories d c.args.caller.now c.args.asker.now pattern in
    let before : List (List ℕ) = c.pop.new.self.items in
    let path : List ℕ = c.in-Some.path in
    let set : List (List ℕ) = at.set in
    (λ i. all_fitting pattern (flat_map directories before) (c.in_ok-add_file.ensures d sound asked has i))
    ∙ sym (last_fits pattern directories before path set)
    ∙ ap (λ (l : List (List ℕ)). all_fitting pattern (flat_map directories l) set) (sym c.in-Some.ensures.items)
    ∙ at.invariant d sound asked has

pub loop-path-init : goal.loop-path-init
loop-path-init c = λ d sound asked has. λ i.
    all_fitting c.args.pattern.now (flat_map (begun_directories d c.args.caller.now c.args.asker.now c.args.pattern.now) (c.into_vec-rest.ensures i)) (c.new-set.ensures i)
