use Rattle.std.proofs.Common.{Bool, ℕ, List, Option, Some, None, sym, ap, ◌∙◌}
use Rattle.std.specs.Prelude.{option_and_then, option_map}
use Rattle.depot_rows.specs.depot_model.Deeds.{Opening}
use Rattle.depot_rows.specs.depot_model.Latest.{when}
use Rattle.depot_rows.specs.depot_model.Opened.{is_moved_with, named_back}
use Rattle.depot_rows.specs.Deed.{opening_of}
use Rattle.depot_rows.specs.declared.deed.Opening.{Opening as Done}
use Rattle.command_parts.proofs.Refused.{none_found}
use Rattle.opened_files.proofs.moving.other_end.Goals as goal

-- the opening at the other end of a move, where it names a file back
abbrev back_named : List ℕ → Option Opening → Option Opening
back_named path found = elim found [ None ↦ None | Some o ↦ when (is_moved_with path o) o ]

pub returns-in_default : goal.returns-in_default
returns-in_default c = λ d e sound has own.
    let o = c.args.opening.now in
    ap (λ (m : Option (List ℕ)). option_and_then (named_back e o.client o.path) m) (sym (none_found _ c.in_default.not-Some))

pub returns-in_default-2 : goal.returns-in_default-2
returns-in_default-2 c = λ d e sound has own.
    let o = c.args.opening.now in
    ap (λ (x : Option Opening). back_named o.path x)
    (ap (λ (x : Option Done). option_map opening_of x) (sym (none_found _ c.in_default-2.not-Some)) ∙ c.in_ok-other.ensures d e sound has own)
    ∙ ap (λ (m : Option (List ℕ)). option_and_then (named_back e o.client o.path) m) (sym c.in-Some.is)

pub returns-then-is_end : goal.returns-then-is_end
returns-then-is_end c = λ d e sound has own.
    let o = c.args.opening.now in
    let other = opening_of c.in-Some-2.other in
    ap (λ (b : Bool). when b other) (sym c.if-is_end.true ∙ c.is_end.ensures)
    ∙ ap (λ (x : Option Opening). back_named o.path x) (ap (λ (x : Option Done). option_map opening_of x) (sym c.in-Some-2.is) ∙ c.in_ok-other.ensures d e sound has own)
    ∙ ap (λ (m : Option (List ℕ)). option_and_then (named_back e o.client o.path) m) (sym c.in-Some.is)

pub returns : goal.returns
returns c = λ d e sound has own.
    let o = c.args.opening.now in
    let other = opening_of c.in-Some-2.other in
    ap (λ (b : Bool). when b other) (sym c.if-is_end.false ∙ c.is_end.ensures)
    ∙ ap (λ (x : Option Opening). back_named o.path x) (ap (λ (x : Option Done). option_map opening_of x) (sym c.in-Some-2.is) ∙ c.in_ok-other.ensures d e sound has own)
    ∙ ap (λ (m : Option (List ℕ)). option_and_then (named_back e o.client o.path) m) (sym c.in-Some.is)
