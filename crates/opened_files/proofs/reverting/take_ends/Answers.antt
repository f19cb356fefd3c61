use Rattle.std.proofs.Common.{ℕ, List, Option, [], ◌∷◌, ◌++◌, sym, ap, ◌∙◌}
use Rattle.std.specs.Option.{option_to_list}
use Rattle.depot_rows.specs.depot_model.Arguments.{is_in}
use Rattle.depot_rows.specs.depot_model.Sorted.{path_inserted}
use Rattle.opened_files.proofs.Reverts.{other_first, taken_more}
use Rattle.opened_files.proofs.reverting.take_ends.Goals as goal

pub returns-in_ok-insert-in-Some : goal.returns-in_ok-insert-in-Some
returns-in_ok-insert-in-Some c = λ seen alike q.
    let path = c.args.path.now in
    let other = c.in-Some.other in
    taken_more c.insert.new.self c.insert-in-Some.new.self (path ∷ seen) other c.in_ok-insert-in-Some.ensures.ok
    (taken_more c.args.taken.now c.insert.new.self seen path (c.in_ok-insert.ensures.ok ∙ ap (λ (p : List ℕ). path_inserted p c.args.taken.now) c.in_ok-file.ensures) alike) q
    ∙ other_first path (other ∷ []) seen q
    ∙ ap (λ (o : Option (List ℕ)). is_in ((path ∷ option_to_list o) ++ seen) q) (sym c.in-Some.is)

pub returns-in-None : goal.returns-in-None
returns-in-None c = λ seen alike q.
    let path = c.args.path.now in
    taken_more c.args.taken.now c.insert.new.self seen path (c.in_ok-insert.ensures.ok ∙ ap (λ (p : List ℕ). path_inserted p c.args.taken.now) c.in_ok-file.ensures) alike q
    ∙ ap (λ (o : Option (List ℕ)). is_in ((path ∷ option_to_list o) ++ seen) q) (sym c.in-None.is)
