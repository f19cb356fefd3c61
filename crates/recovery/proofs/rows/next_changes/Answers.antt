use Rattle.std.proofs.Common.{◌≡◌, ℕ, ◌-◌, List, Option, Err, sym, ap, subst, ◌∙◌}
use Rattle.depot_rows.specs.db_records.declared.change.Change.{Change}
use Rattle.depot_rows.specs.table_changes.Changed.{AllFitIn}
use Rattle.depot_rows.specs.table_changes.Drafts.{rows_of_draft}
use Rattle.recovery.specs.Faults.{IfDamaged}
use Rattle.recovery.specs.Pieces.{text_left, IsBadPlace, IsTextDamage}
use Rattle.recovery.specs.declared.fault.OpenFault.{OpenFault}
use Rattle.recovery.proofs.Fits.{fits_front}
use Rattle.recovery.proofs.Groups.{unreadable_never}
use Rattle.recovery.proofs.PassedOn.{passed_damage, unless_anyway, unless_passed}
use Rattle.recovery.proofs.Stopped.{stopped_record, stopped_text}
use Rattle.recovery.proofs.rows.next_changes.Goals as goal

pub returns-in_err-make_changes-in-Err-clause-only : goal.returns-in_err-make_changes-in-Err-clause-only
returns-in_err-make_changes-in-Err-clause-only g c = λ files read knows small wanted.
    let groups = c.args.groups.now in
    let stopped = rw c.in-Err.is at (c.in_ok-found.ensures.stopped files read knows) in
    absurd (unreadable_never groups.reader.number groups.reader.at (text_left groups files) c.in-Err.place small stopped.0 wanted)

pub returns-in_err-make_changes-in-Err-clause-damaged : goal.returns-in_err-make_changes-in-Err-clause-damaged
returns-in_err-make_changes-in-Err-clause-damaged g c = λ files read knows.
    let groups = c.args.groups.now in
    let next = c.next.new.self in
    let good = AllFitIn (rows_of_draft c.args.draft.now) in
    let stopped = rw c.in-Err.is at (c.in_ok-found.ensures.stopped files read knows) in
    let P : ℕ → Type 0 = λ place. (found : ℕ) × ((place ≡ found - groups.front) × IsTextDamage good groups.reader.number groups.reader.at (text_left groups files) found) in
    passed_damage (Unit {0}) (IsBadPlace good next c.records.result.now) P _ c.in_err-make_changes-in-Err.field-0.0 c.from_residual-in_err-make_changes-in-Err.ensures.1 c.in_err-make_changes-in-Err.ensures.damaged (λ place bad.
    let told = stopped_record good groups.reader.number groups.reader.at (text_left groups files) next c.in-Err.place place stopped (subst (λ (l : List Change). IsBadPlace good next l place) c.records.ensures bad) in
    (told.0, (told.1.0 ∙ ap (λ (n : ℕ). told.0 - n) c.next.ensures.file.1, told.1.1)))

pub returns-in_ok-make_changes-in-Err-clause-only : goal.returns-in_ok-make_changes-in-Err-clause-only
returns-in_ok-make_changes-in-Err-clause-only g c = λ files read knows small wanted.
    let groups = c.args.groups.now in
    let stopped = rw c.in-Err.is at (c.in_ok-found.ensures.stopped files read knows) in
    absurd (unreadable_never groups.reader.number groups.reader.at (text_left groups files) c.in-Err.place small stopped.0 wanted)

pub returns-in_ok-make_changes-in-Err-clause-damaged : goal.returns-in_ok-make_changes-in-Err-clause-damaged
returns-in_ok-make_changes-in-Err-clause-damaged g c = λ files read knows.
    let groups = c.args.groups.now in
    let next = c.next.new.self in
    let place = c.in-Err.place in
    let good = AllFitIn (rows_of_draft c.args.draft.now) in
    let stopped = rw c.in-Err.is at (c.in_ok-found.ensures.stopped files read knows) in
    let P : ℕ → Type 0 = λ place. (found : ℕ) × ((place ≡ found - groups.front) × IsTextDamage good groups.reader.number groups.reader.at (text_left groups files) found) in
    let are = subst good c.records.ensures c.in_ok-make_changes-in-Err.ensures.fit in
    let told : P (place - next.front) = (place, (ap (λ (n : ℕ). place - n) c.next.ensures.file.1, stopped_text good groups.reader.number groups.reader.at (text_left groups files) next.reader place (fits_front (rows_of_draft c.args.draft.now)) stopped are)) in
    subst (λ (fault : OpenFault). IfDamaged {X = Option (List Change)} (Err fault) P) (sym c.damaged.ensures) told

pub returns-in_err-found-clause-unfailed : goal.returns-in_err-found-clause-unfailed
returns-in_err-found-clause-unfailed g c = unless_passed c.from_residual.result c.in_err-found.field-0.0 _ c.from_residual.ensures.1 (λ other. c.in_err-found.ensures.unfailed other)

pub returns-in_err-make_changes-in-Err-clause-unfailed : goal.returns-in_err-make_changes-in-Err-clause-unfailed
returns-in_err-make_changes-in-Err-clause-unfailed g c = unless_anyway c.from_residual-in_err-make_changes-in-Err.result _ c.in_ok-found.ensures.unfailed

pub returns-in_ok-make_changes-in-Err-clause-unfailed : goal.returns-in_ok-make_changes-in-Err-clause-unfailed
returns-in_ok-make_changes-in-Err-clause-unfailed g c = λ other. c.in_ok-found.ensures.unfailed
