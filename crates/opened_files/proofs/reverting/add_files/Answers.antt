use Rattle.std.proofs.Common.{ℕ, List, ◌++◌, ◌-◌, length, take, drop, ap, ◌∙◌}
use Rattle.std.specs.Prelude.{flat_map, if◌then◌else◌}
use Rattle.depot_rows.specs.table_changes.Changed.{rows_of}
use Rattle.depot_rows.specs.depot_model.Arguments.{is_in}
use Rattle.depot_rows.specs.depot_model.Step.{both, nothing}
use Rattle.depot_rows.specs.depot_model.Steps.Reverting.{both_ends, revert_file, revert_files}
use Rattle.file_steps.proofs.Going.{parted}
use Rattle.opened_files.proofs.Reverts.{ends_first, file_then, last_reverted}
use Rattle.opened_files.proofs.reverting.add_files.Goals as goal

pub loop-rest-preserved : goal.loop-rest-preserved
loop-rest-preserved c = λ d done seen reads was.
    let caller = c.args.caller.now in
    let before = c.loop-rest.invariant d done seen reads was in
    let m = before.0 in
    let now = before.1 in
    let rest = c.loop-rest.rest.now in
    let path = c.path-item.result in
    let after = take (length rest - 1) (drop 1 rest) in
    let ends = both_ends d caller path in
    let one = parted rest path c.in-len1-up.len_at_least c.path-item.is in (
      both m (if is_in now path then nothing else revert_file d caller path),
      ends ++ now,
      c.in_ok-add_file.ensures d m now reads before.2,
      file_then d caller m now path after ∙ ap (λ (x : List (List ℕ)). both m (revert_files d caller now x)) one ∙ before.3,
      λ q. ends_first ends (flat_map (both_ends d caller) after) now q
          ∙ ap (λ (x : List (List ℕ)). is_in (flat_map (both_ends d caller) x ++ now) q) one ∙ before.4 q,
    )

pub returns : goal.returns
returns c = λ d done seen reads was.
    let caller = c.args.caller.now in
    let paths = c.args.paths.now in
    let before = c.loop-rest.invariant d done seen reads was in
    last_reverted d caller (rows_of c.args.tables.now) before.0 (both done (revert_files d caller seen paths)) before.1 (flat_map (both_ends d caller) paths ++ seen)
    c.loop-rest.rest.now c.loop-rest.step c.loop-rest.taken c.in_default.len_below before.3 before.4 before.2
