use Rattle.std.proofs.Common.{ℕ, List, ◌-◌, length, take, drop, ap, ◌∙◌}
use Rattle.std.specs.Prelude.{if◌then◌else◌}
use Rattle.depot_rows.specs.depot_model.Arguments.{is_in, not_in}
use Rattle.depot_rows.specs.depot_model.Step.{all_of, both, nothing}
use Rattle.file_steps.proofs.Going.{parted}
use Rattle.file_steps.proofs.Spelling.{taken_next}
use Rattle.file_steps.proofs.spelled.add_files.Goals as goal

pub loop-rest-preserved : goal.loop-rest-preserved
loop-rest-preserved g c = λ d model own goes.
    let now = c.loop-rest.invariant d model own goes in
    let rest = c.loop-rest.rest.now in
    let path = c.path-item.result in
    let act = g.A.FileAct.acts c.args.act.now d c.args.argument.now in
    let taken = c.args.taken.now in (
      both now.0 (if is_in taken path then nothing else act path),
      c.in_ok-add_file.ensures d now.0 own now.1,
      taken_next act taken now.0 path (take (length rest - 1) (drop 1 rest))
          ∙ ap (λ (x : List (List ℕ)). both now.0 (all_of act (not_in taken x))) (parted rest path c.in-len1-up.len_at_least c.path-item.is) ∙ now.2,
    )
