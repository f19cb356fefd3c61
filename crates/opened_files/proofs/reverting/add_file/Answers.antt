use Rattle.std.proofs.Common.{◌≡◌, ℕ, Bool, List, false, ◌++◌, sym, subst, ◌∙◌}
use Rattle.std.specs.Prelude.{if◌then◌else◌}
use Rattle.depot_rows.specs.table_changes.Changed.{rows_of}
use Rattle.depot_rows.specs.depot_model.Arguments.{is_in}
use Rattle.depot_rows.specs.depot_model.Step.{after, both, nothing}
use Rattle.depot_rows.specs.depot_model.Steps.Reverting.{revert_file}
use Rattle.reply_rows.specs.Made.{IsMade}
use Rattle.opened_files.specs.Reverts.{AreAlike}
use Rattle.opening_parts.proofs.Joined.{joined_made}
use Rattle.opened_files.proofs.reverting.add_file.Goals as goal

pub returns : goal.returns
returns c = λ d done seen reads was.
    let caller = c.args.caller.now in
    let path = c.args.path.now in
    let rows = rows_of c.args.tables.now in
    let not_taken : is_in seen path ≡ false = sym (was.alike path) ∙ sym c.contains.ensures ∙ c.if-contains.false in
    let ends = c.in_ok-other.ensures d reads in
    let said = c.in_ok-add.ensures in
    record {
      made =
          subst (λ (b : Bool). IsMade rows d d (both done (if b then nothing else revert_file d caller path)) c.add.new.self) (sym not_taken)
          (joined_made rows d d done (revert_file d caller path) c.args.step.now c.in_ok-more.more c.add.new.self was.made
          (c.in_ok-more.ensures d (after d done.deeds) reads ends) said.deeds said.rows said.stores said.reads);
      alike = subst (λ (x : List (List ℕ)). AreAlike c.take_ends-2.new.taken (x ++ seen)) ends (c.in_ok-take_ends-2.ensures seen was.alike);
    }
