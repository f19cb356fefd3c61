use Rattle.std.proofs.Common.{◌≡◌, ℕ, List, ◌∷◌, Option, sym, subst}
use Rattle.std.specs.Option.{option_to_list}
use Rattle.depot_rows.specs.table_changes.Changed.{rows_of}
use Rattle.depot_rows.specs.depot_model.Deeds.{Deed}
use Rattle.depot_rows.specs.depot_model.Step.{Step as ModelStep, after, all_of, both, nothing}
use Rattle.depot_rows.specs.depot_model.Steps.Reverting.{both_ends, revert_file, shut}
use Rattle.reply_rows.specs.Made.{IsMade}
use Rattle.reply_rows.specs.declared.step.Step.{Step}
use Rattle.reply_rows.proofs.Joined.{both_nothing}
use Rattle.command_parts.proofs.Refused.{first_told, if_ok, none_found, passed_first}
use Rattle.opening_parts.proofs.Joined.{joined_made}
use Rattle.opened_files.specs.Reverts.{Reads}
use Rattle.opened_files.proofs.reverting.revert_file.Goals as goal

pub returns-in-Some : goal.returns-in-Some
returns-in-Some c =
    let rows = rows_of c.args.tables.now in
    let Q : Step → Type 0 = λ step. (d e : List Deed) → Reads c.args.caller.now c.args.asker.now rows d
    → c.args.path.now ∷ option_to_list c.args.other.now ≡ both_ends d c.args.caller.now c.args.path.now
    → IsMade rows d e (revert_file d c.args.caller.now c.args.path.now) step in
    if_ok {Q = Q} _ _ c.tells.ensures (λ step told d e reads are.
    first_told rows d e _ _ _ _ c.in-Some.row step c.in-Some.is (c.in_ok-row.ensures d c.args.caller.now reads.asked) told)

pub returns-in_default-other : goal.returns-in_default-other
returns-in_default-other c = λ d e reads are.
    let caller = c.args.caller.now in
    let path = c.args.path.now in
    let rows = rows_of c.args.tables.now in
    let step = c.in_ok-step.step in
    passed_first rows d e _ _ _ _ step c.in_default.not-Some (c.in_ok-row.ensures d caller reads.asked)
    (subst (λ (ends : List (List ℕ)). IsMade rows d e (all_of (shut d caller) ends) step) are
    (subst (λ (o : Option (List ℕ)). IsMade rows d e (all_of (shut d caller) (path ∷ option_to_list o)) step) (sym (none_found _ c.in_default-other.not-Some))
    (subst (λ (m : ModelStep). IsMade rows d e m step) (sym (both_nothing (shut d caller path))) (c.in_ok-step.ensures d e reads.had))))

pub returns : goal.returns
returns c = λ d e reads are.
    let caller = c.args.caller.now in
    let path = c.args.path.now in
    let other = c.in-Some-other.other in
    let rows = rows_of c.args.tables.now in
    let said = c.in_ok-add.ensures in
    let first = shut d caller path in
    let second = shut d caller other in
    passed_first rows d e _ _ _ _ c.add.new.self c.in_default.not-Some (c.in_ok-row.ensures d caller reads.asked)
    (subst (λ (ends : List (List ℕ)). IsMade rows d e (all_of (shut d caller) ends) c.add.new.self) are
    (subst (λ (o : Option (List ℕ)). IsMade rows d e (all_of (shut d caller) (path ∷ option_to_list o)) c.add.new.self) (sym c.in-Some-other.is)
    (joined_made rows d e first (both second nothing) c.in_ok-step.step c.in_ok-more.more c.add.new.self (c.in_ok-step.ensures d e reads.had)
    (subst (λ (m : ModelStep). IsMade rows d (after e first.deeds) m c.in_ok-more.more) (sym (both_nothing second)) (c.in_ok-more.ensures d (after e first.deeds) reads.had))
    said.deeds said.rows said.stores said.reads)))
