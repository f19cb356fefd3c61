use Rattle.std.proofs.Common.{Option, [], ◌∷◌, ◌++◌, sym, ap, subst, ◌∙◌}
use Rattle.std.specs.Prelude.{option_map}
use Rattle.depot_rows.specs.depot_path.Path.{is_path}
use Rattle.depot_rows.specs.depot_model.Deeds.{Open as Opens, Opening}
use Rattle.depot_rows.specs.depot_model.Steps.Moving.{opening_at, renamed, shut}
use Rattle.depot_rows.specs.Deed.{opening_of}
use Rattle.depot_rows.specs.Effects.{Follow}
use Rattle.depot_rows.specs.declared.deed.Opening.{Opening as Done}
use Rattle.command_parts.proofs.Refused.{none_found}
use Rattle.opened_files.proofs.Moves.{follow_again}
use Rattle.opened_files.proofs.moving.deeds_again.Goals as goal

pub returns-in-Some : goal.returns-in-Some
returns-in-Some c = λ d e sound has own head_is.
    let o = c.args.opening.now in
    let t = c.args.target.now in
    let there = c.as_bytes-target.ensures in
    let here = c.as_bytes-path.ensures in
    let first = shut (opening_of o) ∷ Opens (opening_at e c.args.change (opening_of o) t) ∷ [] in
    subst (λ (x : Option Opening). Follow e c.add_renamed.new.deeds (first ++ renamed c.args.change t x))
    (ap (λ (x : Option Done). option_map opening_of x) (sym c.in-Some.is) ∙ c.in_ok-other.ensures d e sound has own)
    (c.in_ok-add_renamed.ensures e first
    (follow_again e c.args.change o t c.args.base c.in_ok-file.file c.in_ok-at.at _ _ _ c.new-deeds.ensures c.in_ok-shut.ensures.done c.in_ok-open.ensures.done head_is
    c.in_ok-file.ensures c.in_ok-at.ensures (ap is_path (sym there.value) ∙ there.path) (ap is_path (sym here.value) ∙ here.path)))

pub returns : goal.returns
returns c = λ d e sound has own head_is.
    let o = c.args.opening.now in
    let t = c.args.target.now in
    let there = c.as_bytes-target.ensures in
    let here = c.as_bytes-path.ensures in
    subst (λ (x : Option Opening). Follow e c.open.new.self (shut (opening_of o) ∷ Opens (opening_at e c.args.change (opening_of o) t) ∷ renamed c.args.change t x))
    (ap (λ (x : Option Done). option_map opening_of x) (sym (none_found _ c.in_default.not-Some)) ∙ c.in_ok-other.ensures d e sound has own)
    (follow_again e c.args.change o t c.args.base c.in_ok-file.file c.in_ok-at.at _ _ _ c.new-deeds.ensures c.in_ok-shut.ensures.done c.in_ok-open.ensures.done head_is
    c.in_ok-file.ensures c.in_ok-at.ensures (ap is_path (sym there.value) ∙ there.path) (ap is_path (sym here.value) ∙ here.path))
