use Rattle.std.proofs.Common.{ℕ, List, [], ◌∷◌, ◌++◌, ap, ◌∙◌}
use Rattle.std.specs.Prelude.{◌==◌, false, flat_map, if◌then◌else◌, length}
use Rattle.depot_rows.specs.table_changes.Changed.{rows_of}
use Rattle.depot_rows.specs.depot_model.Arguments.{is_in, named, submitted}
use Rattle.depot_rows.specs.depot_model.Refusals.{refusal_row}
use Rattle.depot_rows.specs.depot_model.declared.refusal.Refusal.TheVariants.{NoSuchFile}
use Rattle.revision_reads.proofs.Wanting.{wanted_had}
use Rattle.change_lists.specs.Listed.{made_in_file}
use Rattle.change_lists.proofs.ListedRows.{files_give}
use Rattle.change_lists.proofs.made.push_argument.Goals as goal

pub returns-clause-rows : goal.returns-clause-rows
returns-clause-rows c = λ d reads.
    let a = c.args.argument.now in
    c.in_ok-push_missing.ensures
    ∙ ap (λ (l : List (List ℕ)). c.args.rows.now ++ (if length l == 0 then refusal_row (NoSuchFile a.text) ∷ [] else [])) (c.as_slice.ensures ∙ c.in_ok-paths.ensures d reads)

pub returns-clause-made : goal.returns-clause-made
returns-clause-made c = λ d reads.
    let a = c.args.argument.now in
    let caller = c.args.caller.now in
    let taken = c.args.taken.now in
    let rows = rows_of c.args.tables.now in
    let had = wanted_had rows d reads.has_domain reads.has_have reads.has_label reads.has_change reads.has_rev a.spec.wanted in
    c.in_ok-push_files.ensures d reads.sound reads.has_rev reads.has_change had
    ∙ ap (λ (l : List (List ℕ)). c.args.made.now.items ++ flat_map (made_in_file d caller a taken) l) (c.as_slice-2.ensures ∙ c.in_ok-paths.ensures d reads)
    ∙ ap (λ (l : List ℕ). c.args.made.now.items ++ l) (files_give d caller a taken (named false d caller (submitted d) a))

pub returns-clause-taken : goal.returns-clause-taken
returns-clause-taken c = λ d reads path.
    c.in_ok-take.ensures path ∙ ap (λ (l : List (List ℕ)). is_in (c.args.taken.now ++ l) path) (c.in_ok-paths.ensures d reads)
