use Rattle.std.proofs.Common.{◌≡◌, ℕ, sym, subst, ◌∙◌}
use Rattle.depot_rows.specs.table_changes.Changed.{AllRows, rows_of}
use Rattle.recovery.specs.Damage.{IsDamage}
use Rattle.recovery.specs.Faults.{Tells}
use Rattle.recovery.specs.Rules.{SuitFiles}
use Rattle.recovery.proofs.Damaged.{hold_found, one_generation, rules_damage}
use Rattle.recovery.proofs.Looks.{passed_nothing}
use Rattle.recovery.proofs.PassedOn.{passed_on, unless_anyway, unless_passed}
use Rattle.recovery.proofs.rules.read_kept_rows.Goals as goal

pub returns-in_err-found-clause-only : goal.returns-in_err-found-clause-only
returns-in_err-found-clause-only g c = λ files rows read hold suit.
    passed_nothing c.from_residual.result c.in_err-found.field-0.0 _ c.from_residual.ensures.1 (c.in_err-found.ensures.only files rows read hold)

pub returns-in_err-found-clause-damaged : goal.returns-in_err-found-clause-damaged
returns-in_err-found-clause-damaged g c = λ files contents read.
    passed_on c.from_residual.result c.in_err-found.field-0.0 (Tells (IsDamage files contents)) c.from_residual.ensures.1 (c.in_err-found.ensures.damaged files contents read)

pub returns-in_err-check_rules-clause-damaged : goal.returns-in_err-check_rules-clause-damaged
returns-in_err-check_rules-clause-damaged g c = λ files contents read.
    let found = c.in_ok-found.ensures.found in
    let fault = c.in_err-check_rules.field-0.0 in
    passed_on c.from_residual-in_err-check_rules.result fault (Tells (IsDamage files contents)) c.from_residual-in_err-check_rules.ensures.1 (
    rules_damage files contents found.was (rows_of c.in_ok-found.found.tables) c.in_ok-found.found.generation c.in_ok-found.found.end.length fault found.has found.are_groups (found.at_rest files read) found.generation found.long c.in_err-check_rules.ensures.only c.in_err-check_rules.ensures.told)

pub returns-in_err-check_rules-clause-only : goal.returns-in_err-check_rules-clause-only
returns-in_err-check_rules-clause-only g c = λ files rows read hold suit.
    let found = c.in_ok-found.ensures.found in
    let each = c.in_ok-found.ensures.only files rows read hold in
    let same : ◌≡◌ {A = AllRows} (rows_of c.in_ok-found.found.tables) rows = λ i table. each table i in
    let held = hold_found found.was (rows_of c.in_ok-found.found.tables) files found.has found.are_groups (found.at_rest files read) in
    let generation : c.in_ok-found.found.generation ≡ hold.was.generation = found.generation ∙ one_generation files (rows_of c.in_ok-found.found.tables) rows held hold in
    passed_nothing c.from_residual-in_err-check_rules.result c.in_err-check_rules.field-0.0 _ c.from_residual-in_err-check_rules.ensures.1 (
    c.in_err-check_rules.ensures.only (subst (SuitFiles c.in_ok-found.found.generation) (sym same) (subst (λ (n : ℕ). SuitFiles n rows) (sym generation) suit)))

pub returns-clause-only : goal.returns-clause-only
returns-clause-only g c = λ files rows read hold suit table. c.in_ok-found.ensures.only files rows read hold table

pub returns-in_err-found-clause-unfailed : goal.returns-in_err-found-clause-unfailed
returns-in_err-found-clause-unfailed g c = unless_passed c.from_residual.result c.in_err-found.field-0.0 _ c.from_residual.ensures.1 (λ other. c.in_err-found.ensures.unfailed other)

pub returns-in_err-check_rules-clause-unfailed : goal.returns-in_err-check_rules-clause-unfailed
returns-in_err-check_rules-clause-unfailed g c = unless_anyway c.from_residual-in_err-check_rules.result _ c.in_ok-found.ensures.unfailed
