use Rattle.std.proofs.Common.{◌+◌, ℕ, Bool, List, drop, refl, sym, ap, ◌∙◌}
use Rattle.std.specs.Prelude.{◌||◌, codes, decimal, filter}
use Rattle.std.specs.List.{list_any}
use Rattle.std.proofs.lemmas.List.{drop_all}
use Rattle.depot_rows.specs.depot_path.Bytes.{begins_with}
use Rattle.depot_rows.specs.depot_model.Deeds.{ShelfForm}
use Rattle.depot_rows.specs.depot_model.Latest.{keys_of, spec_name}
use Rattle.job_fixes.proofs.Steps.{back}
use Rattle.held_changes.specs.Holding.{is_held}
use Rattle.held_changes.proofs.Held.{shelved_begun}
use Rattle.held_changes.proofs.holding.is_shelved.Goals as goal

pub loop-name-init : goal.loop-name-init
loop-name-init c = λ d sound has.
    let n = c.args.change in
    let all = keys_of (spec_name ShelfForm) d in
    ap (λ (number : List ℕ). list_any (is_held ShelfForm d (codes "kept") number) c.as_slice-names.result.now) (c.as_bytes-spelled.ensures ∙ c.in_ok-number.ensures)
    ∙ ap (list_any (is_held ShelfForm d (codes "kept") (decimal n))) (c.as_slice-names.ensures ∙ c.in_ok-found.ensures d ShelfForm refl has)
    ∙ ap (λ (start : List ℕ). list_any (is_held ShelfForm d (codes "kept") (decimal n)) (filter (λ name. begins_with name start) all)) (c.as_bytes.ensures ∙ c.in_ok-start.ensures)
    ∙ shelved_begun d sound n

pub returns-then-branch : goal.returns-then-branch
returns-then-branch c = λ d sound has.
    let names = c.as_slice-names.result.now in
    let i = c.loop-name.name-index in
    let test = is_held ShelfForm d (codes "kept") c.as_bytes-spelled.result.now in
    ap (λ (b : Bool). b || list_any test (drop (i + 1) names)) (sym c.if-branch.true ∙ c.in_ok-is_held_under.ensures d sound has)
    ∙ ap (list_any test) (sym (back names i c.name-item.result c.loop-name-test.true c.name-item.is)) ∙ c.loop-name.invariant d sound has

pub loop-name-preserved : goal.loop-name-preserved
loop-name-preserved c = λ d sound has.
    let names = c.as_slice-names.result.now in
    let i = c.loop-name.name-index in
    let test = is_held ShelfForm d (codes "kept") c.as_bytes-spelled.result.now in
    ap (λ (b : Bool). b || list_any test (drop (i + 1) names)) (sym c.if-branch.false ∙ c.in_ok-is_held_under.ensures d sound has)
    ∙ ap (list_any test) (sym (back names i c.name-item.result c.loop-name-test.true c.name-item.is)) ∙ c.loop-name.invariant d sound has

pub returns : goal.returns
returns c = λ d sound has.
    let test = is_held ShelfForm d (codes "kept") c.as_bytes-spelled.result.now in
    ap (list_any test) (sym (drop_all c.loop-name.name-index c.as_slice-names.result.now c.loop-name-test.false)) ∙ c.loop-name.invariant d sound has
