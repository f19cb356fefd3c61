use Rattle.std.proofs.Common.{◌++◌, ℕ, List, ap, sym, subst, append-nil, ◌∙◌}
use Rattle.std.specs.Option.{option_to_list}
use Rattle.std.specs.Prelude.{filter_map, option_map}
use Rattle.std.proofs.lemmas.List.{drop_all}
use Rattle.depot_rows.specs.table_changes.Changed.{rows_of}
use Rattle.depot_rows.specs.depot_model.Deeds.{LabelForm}
use Rattle.depot_rows.specs.depot_model.Latest.{spec}
use Rattle.depot_rows.specs.depot_model.Steps.Labels.{labels, listed}
use Rattle.reply_rows.specs.declared.step.Step.{Step}
use Rattle.reply_rows.specs.Made.{IsMade}
use Rattle.spec_ops.proofs.Made.{labels_made, row_moved}
use Rattle.spec_ops.proofs.labels.label_list.Goals as goal

pub loop-name-preserved : goal.loop-name-preserved
loop-name-preserved c = λ d sound has.
    let names = c.as_slice-names.result.now in
    row_moved (λ (name : List ℕ). option_map (listed name) (spec d LabelForm name)) c.loop-name.rows c.push_label.new.rows names c.loop-name.name-index c.name-item.result
    c.loop-name-test.true c.name-item.is
    (c.in_ok-push_label.ensures d sound has ∙ ap (λ (name : List ℕ). c.loop-name.rows ++ option_to_list (option_map (listed name) (spec d LabelForm name))) c.as_bytes.ensures)
    ∙ c.loop-name.invariant d sound has

pub returns : goal.returns
returns c = λ d sound has.
    let names = c.as_slice-names.result.now in
    let rows = c.loop-name.rows in
    let told = filter_map (λ (name : List ℕ). option_map (listed name) (spec d LabelForm name)) in
    let is = sym (append-nil rows) ∙ ap (λ (l : List (List ℕ)). rows ++ told l) (sym (drop_all c.loop-name.name-index names c.loop-name-test.false)) ∙ c.loop-name.invariant d sound has
    ∙ ap told (c.as_slice-names.ensures ∙ c.in_ok-labels.ensures d has) in
    subst (λ (s : Step). IsMade (rows_of c.args.tables.now) d d (labels d) (record s { rows = rows })) (sym c.new.ensures) (labels_made (rows_of c.args.tables.now) d rows is)
