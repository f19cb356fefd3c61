use Rattle.std.proofs.Common.{◌≡◌, ◌≤◌, Bool, true, false, List, [], ◌∷◌, ℕ, length, refl, sym, ap, arith, ◌∙◌, ◌++◌}
use Rattle.std.specs.Prelude.{◌==◌, flat_map, map}
use Rattle.std.proofs.lemmas.Bool.{false≢true, true≢false}
use Rattle.std.proofs.lemmas.Bool.Decides.{nat_tests}
use Rattle.depot_rows.specs.depot_model.declared.command.FileArgument.{FileArgument}
use Rattle.depot_rows.specs.depot_model.declared.reply.Row.{Row}
use Rattle.depot_rows.specs.depot_model.Steps.Changes.{at_most, change_row, missing, numbers}
use Rattle.change_lists.specs.Listed.{changes_listed, listed_at, rows_asked}
use Rattle.change_lists.proofs.ListedRows.{all_are, rows_are}
use Rattle.change_lists.proofs.listing.changes_told.Goals as goal

not_zero : (m : ℕ) → 1 ≤ m → (m == 0) ≡ false
not_zero m h = grind (arith, nat_tests)

empty_is : (l : List FileArgument) (b : Bool) → b ≡ (length l == 0) → b ≡ true → l ≡ []
empty_is [] b e t = refl
empty_is (a ∷ l) b e t = absurd (true≢false (sym t ∙ e ∙ not_zero (length (a ∷ l)) (omega arith)))

pub returns-then-is_empty : goal.returns-then-is_empty
returns-then-is_empty c = λ d reads.
    let caller = c.args.caller.now in
    let status = c.args.status.now in
    let user = c.args.user.now in
    let client = c.args.client.now in
    let most = c.args.most in
    let none = empty_is c.args.files.now c.is_empty.result c.is_empty.ensures c.if-is_empty.true in
    c.in_ok-tell_newest.ensures d caller reads.sound reads.asked reads.has_change reads.has_rev
    ∙ ap (λ (l : List Row). l ++ at_most most (flat_map (listed_at d caller status user client) (numbers d))) c.new-rows.ensures
    ∙ sym (all_are d caller status user client most)
    ∙ ap (λ (l : List FileArgument). flat_map (missing d caller) l ++ map change_row (changes_listed d caller most status user client l)) (sym none)

pub returns : goal.returns
returns c = λ d reads.
    let caller = c.args.caller.now in
    let files = c.args.files.now in
    let status = c.args.status.now in
    let user = c.args.user.now in
    let client = c.args.client.now in
    let numbers = c.in_falling_order-numbers in
    c.in_ok-tell_numbers.ensures d reads.has_change
    ∙ (λ i. (c.in_ok-made.ensures.rows d reads ∙ ap (λ (l : List Row). l ++ flat_map (missing d caller) files) c.new-rows.ensures) i
    ++ at_most c.args.most (rows_asked d status user client (c.deref.ensures.value i)))
    ∙ ap (λ (l : List Row). flat_map (missing d caller) files ++ l)
    (sym (rows_are d caller status user client c.args.most c.in_ok-made.made.items files numbers.result.items
    (λ none. false≢true (sym c.if-is_empty.false ∙ c.is_empty.ensures ∙ ap (λ (l : List FileArgument). length l == 0) none))
    (c.in_ok-made.ensures.made d reads) numbers.ensures.falls numbers.ensures.same))
