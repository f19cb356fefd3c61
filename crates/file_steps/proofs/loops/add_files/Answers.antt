use Rattle.std.proofs.Common.{ℕ, List, ◌-◌, length, take, drop, ap, subst, ◌∙◌}
use Rattle.std.specs.Prelude.{filter, not, if◌then◌else◌}
use Rattle.std.specs.List.{list_any}
use Rattle.depot_rows.specs.table_changes.Changed.{rows_of}
use Rattle.depot_rows.specs.depot_model.declared.command.FileArgument.{FileArgument}
use Rattle.depot_rows.specs.depot_model.Deeds.{Deed}
use Rattle.depot_rows.specs.depot_model.Step.{Step as ModelStep, all_of, both, nothing}
use Rattle.file_steps.specs.Goes.{Goes}
use Rattle.file_steps.proofs.Going.{files_next, parted}
use Rattle.file_steps.proofs.loops.add_files.Goals as goal

pub loop-rest-preserved : goal.loop-rest-preserved
loop-rest-preserved g c =
    let at = c.loop-rest in
    let set = c.args.set.now in
    let rows = rows_of c.args.tables.now in
    let argument = c.args.argument.now in
    let acts = g.A.WalkAct.acts c.args.act.now in
    let rest = at.rest.now in
    let path = c.path-item.result in
    record {
      goes = λ d model reads goes.
          let now = at.invariant.goes d model reads goes in
          let act = acts d argument in
          let taken = λ (p : List ℕ). list_any (λ a. g.S.FileSet.names set d a p) c.args.earlier.now in (
            both now.0 (if taken path then nothing else act path),
            subst (λ (f : List Deed → FileArgument → List ℕ → ModelStep). Goes (g.A.WalkAct.stands c.add_file.new.act set argument rows d) rows d d (both now.0 (if taken path then nothing else f d argument path)) c.add_file.new.step)
                at.invariant.same (c.in_ok-add_file.ensures.step d now.0 reads now.1),
            files_next act taken now.0 path (take (length rest - 1) (drop 1 rest))
                ∙ ap (λ (x : List (List ℕ)). both now.0 (all_of act (filter (λ p. not (taken p)) x))) (parted rest path c.in-len1-up.len_at_least c.path-item.is) ∙ now.2,
          );
      same = c.in_ok-add_file.ensures.same ∙ at.invariant.same;
    }
