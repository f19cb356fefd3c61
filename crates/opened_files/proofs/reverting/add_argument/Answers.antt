use Rattle.std.proofs.Common.{◌≡◌, ℕ, List, [], ◌++◌, true, false, sym, subst, ◌∙◌}
use Rattle.std.specs.Prelude.{flat_map}
use Rattle.depot_rows.specs.table_changes.Changed.{rows_of}
use Rattle.depot_rows.specs.depot_model.Step.{Step as ModelStep, after, both}
use Rattle.depot_rows.specs.depot_model.Steps.Reverting.{both_ends, not_open, revert_files, selected}
use Rattle.reply_rows.specs.Made.{IsMade}
use Rattle.opened_files.specs.Reverts.{AreAlike, IsReverted}
use Rattle.opening_parts.proofs.Joined.{joined_made}
use Rattle.opened_files.proofs.Reverts.{chosen_are, none_named, some_named}
use Rattle.opened_files.proofs.reverting.add_argument.Goals as goal

pub returns : goal.returns
returns c = λ d done seen reads was.
    let files = c.args.files.now in
    let caller = files.caller.now in
    let argument = c.args.argument.now in
    let rows = rows_of c.args.tables.now in
    let own = selected d caller files.change argument in
    let are : c.in_ok-paths.paths ≡ own =
    c.in_ok-paths.ensures d (record { sound = reads.sound; asked = reads.asked; listed = reads.listed }) ∙ chosen_are d caller files.change argument in
    let some : own ≡ [] → ⊥ = λ none. let empty : true ≡ false = sym (c.is_empty.ensures.1 (are ∙ none)) ∙ c.if-is_empty.false in absurd cc in
    let P : List (List ℕ) → Type 0 =
    λ ps. IsReverted rows d (both done (revert_files d caller seen ps)) (flat_map (both_ends d caller) ps ++ seen) c.add_files.new.step c.add_files.new.taken in
    subst (λ (x : ModelStep). IsReverted rows d (both done x) (flat_map (both_ends d caller) own ++ seen) c.add_files.new.step c.add_files.new.taken)
    (some_named d caller seen argument own some)
    (subst P (c.as_slice.ensures ∙ are) (c.in_ok-add_files.ensures d done seen reads was))

pub returns-then-is_empty : goal.returns-then-is_empty
returns-then-is_empty c = λ d done seen reads was.
    let files = c.args.files.now in
    let caller = files.caller.now in
    let argument = c.args.argument.now in
    let rows = rows_of c.args.tables.now in
    let own = selected d caller files.change argument in
    let are : c.in_ok-paths.paths ≡ own =
    c.in_ok-paths.ensures d (record { sound = reads.sound; asked = reads.asked; listed = reads.listed }) ∙ chosen_are d caller files.change argument in
    let none : own ≡ [] = sym are ∙ c.is_empty.ensures.0 c.if-is_empty.true in
    let said = c.in_ok-add.ensures in
    record {
      made =
          subst (λ (x : ModelStep). IsMade rows d d (both done x) c.add.new.self) (none_named d caller seen argument own none)
          (joined_made rows d d done (not_open argument) c.args.step.now c.in_ok-more.more c.add.new.self was.made (c.in_ok-more.ensures rows d (after d done.deeds)) said.deeds
          said.rows said.stores said.reads);
      alike = subst (λ (x : List (List ℕ)). AreAlike c.args.taken.now (flat_map (both_ends d caller) x ++ seen)) (sym none) was.alike;
    }
