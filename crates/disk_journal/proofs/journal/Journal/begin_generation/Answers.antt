use Rattle.std.proofs.Common.{◌+◌, ◌*◌, inl, inr, length, refl, arith}
use Rattle.outside_api.specs.Disk.{Files, After, OnFile, Torn}
use Rattle.outside_api.specs.Moments.{weaker, then, started, goes_on}
use Rattle.disk_journal.specs.Images.{HasCommitted, HasEither, with_generation, IsAtRest, IsOpening}
use Rattle.disk_journal.specs.Stands.{nothing, opening}
use Rattle.disk_journal.proofs.Images.{rest_holds}
use Rattle.disk_journal.proofs.Opening.{opening_holds}
use Rattle.disk_journal.proofs.Keeping.{older_closed, older_kept, tells_two}
use Rattle.disk_journal.proofs.Standing.{standing, first_file, second_file, both_files, root_torn, root_opened, opening_room, next_mark}
use Rattle.disk_journal.proofs.Runs.{IsApart, Keeps, KeepsAlways, kept_one, kept_two, always_call, always_one, always_two}
use Rattle.disk_journal.proofs.journal.Journal.begin_generation.Goals as goal

pub write_through-requires-2 : goal.write_through-requires-2
write_through-requires-2 g c =
    let was = c.requires.rest.0 in
    let stands = c.requires.rest.1 in
    let first : (f : Files) → g.D.Disk.says.may_leave c.write_at.new.self f → IsAtRest was f = λ f left. first_file g.D.Disk.says g.met.D.Disk.reads_an_image c.args.self.now was stands c.checkpoint_file.result (length c.args.checkpoint.now) f (omega (arith, c.checkpoint_file.ensures)) (c.write_at.ensures.crash f left) in
    let both : (f : Files) → g.D.Disk.says.may_leave c.write_through.new.disk f → IsOpening was c.args.checkpoint.now f = λ f left. both_files g.D.Disk.says g.met.D.Disk.reads_an_image c.args.self.now was stands c.write_at.new.self first c.args.checkpoint.now c.checkpoint_file.result c.journal_file.result (omega (arith, c.checkpoint_file.ensures)) (omega (arith, c.journal_file.ensures)) c.requires.below c.in_ok-write_at.ensures.written.from f (c.in_ok-write_through.ensures.durable f left) in
    λ files read. omega (arith, opening_room was c.args.checkpoint.now files (both files (g.met.D.Disk.reads_an_image c.write_through.new.disk files read)), c.requires.below)

pub returns-in_err-write_at-clause-err : goal.returns-in_err-write_at-clause-err
returns-in_err-write_at-clause-err g c = λ was stands is_err.
    let first : (f : Files) → g.D.Disk.says.may_leave c.write_at.new.self f → IsAtRest was f = λ f left. first_file g.D.Disk.says g.met.D.Disk.reads_an_image c.args.self.now was stands c.checkpoint_file.result (length c.args.checkpoint.now) f (omega (arith, c.checkpoint_file.ensures)) (c.write_at.ensures.crash f left) in
    let P : Files → Type 0 = HasCommitted was in
    let at_start = started g.D.Disk.says c.args.self.now.disk P (λ f left. stands.holds f (g.met.D.Disk.only_now c.args.self.now.disk f left)) in
    let run1 = goes_on g.D.Disk.says c.args.self.now.disk c.args.self.now.disk c.write_at.new.self P at_start c.write_at.ensures.time (λ f left. rest_holds was f stands.are_groups (first f left)) in
    inl (record { stands = standing g.D.Disk.says _ was nothing stands.generation stands.are_groups stands.count stands.length stands.known first; any_moment = run1 })

pub returns-in_err-write_at-clause-any_moment : goal.returns-in_err-write_at-clause-any_moment
returns-in_err-write_at-clause-any_moment g c = λ was stands.
    let first : (f : Files) → g.D.Disk.says.may_leave c.write_at.new.self f → IsAtRest was f = λ f left. first_file g.D.Disk.says g.met.D.Disk.reads_an_image c.args.self.now was stands c.checkpoint_file.result (length c.args.checkpoint.now) f (omega (arith, c.checkpoint_file.ensures)) (c.write_at.ensures.crash f left) in
    let P : Files → Type 0 = HasEither was (with_generation was c.args.checkpoint.now) in
    let at_start = started g.D.Disk.says c.args.self.now.disk P (λ f left. inl (stands.holds f (g.met.D.Disk.only_now c.args.self.now.disk f left))) in
    let run1 = goes_on g.D.Disk.says c.args.self.now.disk c.args.self.now.disk c.write_at.new.self P at_start c.write_at.ensures.time (λ f left. inl (rest_holds was f stands.are_groups (first f left))) in
    run1

pub returns-in_err-write_through-clause-err : goal.returns-in_err-write_through-clause-err
returns-in_err-write_through-clause-err g c = λ was stands is_err.
    let first : (f : Files) → g.D.Disk.says.may_leave c.write_at.new.self f → IsAtRest was f = λ f left. first_file g.D.Disk.says g.met.D.Disk.reads_an_image c.args.self.now was stands c.checkpoint_file.result (length c.args.checkpoint.now) f (omega (arith, c.checkpoint_file.ensures)) (c.write_at.ensures.crash f left) in
    let second : (f : Files) → After (OnFile c.journal_file.result (Torn 0 5)) (g.D.Disk.says.may_leave c.write_at.new.self) f → IsAtRest was f = λ f after. second_file g.D.Disk.says g.met.D.Disk.reads_an_image c.args.self.now was stands c.write_at.new.self first c.journal_file.result 5 f (omega (arith, c.journal_file.ensures)) after in
    let P : Files → Type 0 = HasCommitted was in
    let at_start = started g.D.Disk.says c.args.self.now.disk P (λ f left. stands.holds f (g.met.D.Disk.only_now c.args.self.now.disk f left)) in
    let run1 = goes_on g.D.Disk.says c.args.self.now.disk c.args.self.now.disk c.write_at.new.self P at_start c.write_at.ensures.time (λ f left. rest_holds was f stands.are_groups (first f left)) in
    let run2 = then g.D.Disk.says c.args.self.now.disk c.write_at.new.self c.write_through.new.disk P run1 (weaker g.D.Disk.says c.write_at.new.self c.write_through.new.disk _ P (λ f after. rest_holds was f stands.are_groups (second f after)) c.write_through.ensures.any_moment) in
    inl (record { stands = standing g.D.Disk.says _ was nothing stands.generation stands.are_groups stands.count stands.length stands.known (λ f left. second f (c.write_through.ensures.crash f left)); any_moment = run2 })

pub returns-in_err-write_through-clause-any_moment : goal.returns-in_err-write_through-clause-any_moment
returns-in_err-write_through-clause-any_moment g c = λ was stands.
    let first : (f : Files) → g.D.Disk.says.may_leave c.write_at.new.self f → IsAtRest was f = λ f left. first_file g.D.Disk.says g.met.D.Disk.reads_an_image c.args.self.now was stands c.checkpoint_file.result (length c.args.checkpoint.now) f (omega (arith, c.checkpoint_file.ensures)) (c.write_at.ensures.crash f left) in
    let second : (f : Files) → After (OnFile c.journal_file.result (Torn 0 5)) (g.D.Disk.says.may_leave c.write_at.new.self) f → IsAtRest was f = λ f after. second_file g.D.Disk.says g.met.D.Disk.reads_an_image c.args.self.now was stands c.write_at.new.self first c.journal_file.result 5 f (omega (arith, c.journal_file.ensures)) after in
    let P : Files → Type 0 = HasEither was (with_generation was c.args.checkpoint.now) in
    let at_start = started g.D.Disk.says c.args.self.now.disk P (λ f left. inl (stands.holds f (g.met.D.Disk.only_now c.args.self.now.disk f left))) in
    let run1 = goes_on g.D.Disk.says c.args.self.now.disk c.args.self.now.disk c.write_at.new.self P at_start c.write_at.ensures.time (λ f left. inl (rest_holds was f stands.are_groups (first f left))) in
    let run2 = then g.D.Disk.says c.args.self.now.disk c.write_at.new.self c.write_through.new.disk P run1 (weaker g.D.Disk.says c.write_at.new.self c.write_through.new.disk _ P (λ f after. inl (rest_holds was f stands.are_groups (second f after))) c.write_through.ensures.any_moment) in
    run2

pub returns-in_err-write_through-2-clause-err : goal.returns-in_err-write_through-2-clause-err
returns-in_err-write_through-2-clause-err g c = λ was stands is_err.
    let first : (f : Files) → g.D.Disk.says.may_leave c.write_at.new.self f → IsAtRest was f = λ f left. first_file g.D.Disk.says g.met.D.Disk.reads_an_image c.args.self.now was stands c.checkpoint_file.result (length c.args.checkpoint.now) f (omega (arith, c.checkpoint_file.ensures)) (c.write_at.ensures.crash f left) in
    let both : (f : Files) → g.D.Disk.says.may_leave c.write_through.new.disk f → IsOpening was c.args.checkpoint.now f = λ f left. both_files g.D.Disk.says g.met.D.Disk.reads_an_image c.args.self.now was stands c.write_at.new.self first c.args.checkpoint.now c.checkpoint_file.result c.journal_file.result (omega (arith, c.checkpoint_file.ensures)) (omega (arith, c.journal_file.ensures)) c.requires.below c.in_ok-write_at.ensures.written.from f (c.in_ok-write_through.ensures.durable f left) in
    let torn : (f : Files) → After (OnFile 0 (Torn c.args.self.now.end.generation 1)) (g.D.Disk.says.may_leave c.write_through.new.disk) f → IsOpening was c.args.checkpoint.now f = root_torn g.D.Disk.says g.met.D.Disk.reads_an_image c.args.self.now was stands c.args.checkpoint.now c.write_through.new.disk both in
    inr (standing g.D.Disk.says _ was (opening c.args.checkpoint.now) stands.generation stands.are_groups stands.count stands.length refl (λ f left. torn f (c.write_through-2.ensures.crash f left)))

pub returns-in_err-write_through-2-clause-any_moment : goal.returns-in_err-write_through-2-clause-any_moment
returns-in_err-write_through-2-clause-any_moment g c = λ was stands.
    let first : (f : Files) → g.D.Disk.says.may_leave c.write_at.new.self f → IsAtRest was f = λ f left. first_file g.D.Disk.says g.met.D.Disk.reads_an_image c.args.self.now was stands c.checkpoint_file.result (length c.args.checkpoint.now) f (omega (arith, c.checkpoint_file.ensures)) (c.write_at.ensures.crash f left) in
    let second : (f : Files) → After (OnFile c.journal_file.result (Torn 0 5)) (g.D.Disk.says.may_leave c.write_at.new.self) f → IsAtRest was f = λ f after. second_file g.D.Disk.says g.met.D.Disk.reads_an_image c.args.self.now was stands c.write_at.new.self first c.journal_file.result 5 f (omega (arith, c.journal_file.ensures)) after in
    let both : (f : Files) → g.D.Disk.says.may_leave c.write_through.new.disk f → IsOpening was c.args.checkpoint.now f = λ f left. both_files g.D.Disk.says g.met.D.Disk.reads_an_image c.args.self.now was stands c.write_at.new.self first c.args.checkpoint.now c.checkpoint_file.result c.journal_file.result (omega (arith, c.checkpoint_file.ensures)) (omega (arith, c.journal_file.ensures)) c.requires.below c.in_ok-write_at.ensures.written.from f (c.in_ok-write_through.ensures.durable f left) in
    let torn : (f : Files) → After (OnFile 0 (Torn c.args.self.now.end.generation 1)) (g.D.Disk.says.may_leave c.write_through.new.disk) f → IsOpening was c.args.checkpoint.now f = root_torn g.D.Disk.says g.met.D.Disk.reads_an_image c.args.self.now was stands c.args.checkpoint.now c.write_through.new.disk both in
    let P : Files → Type 0 = HasEither was (with_generation was c.args.checkpoint.now) in
    let at_start = started g.D.Disk.says c.args.self.now.disk P (λ f left. inl (stands.holds f (g.met.D.Disk.only_now c.args.self.now.disk f left))) in
    let run1 = goes_on g.D.Disk.says c.args.self.now.disk c.args.self.now.disk c.write_at.new.self P at_start c.write_at.ensures.time (λ f left. inl (rest_holds was f stands.are_groups (first f left))) in
    let run2 = then g.D.Disk.says c.args.self.now.disk c.write_at.new.self c.write_through.new.disk P run1 (weaker g.D.Disk.says c.write_at.new.self c.write_through.new.disk _ P (λ f after. inl (rest_holds was f stands.are_groups (second f after))) c.write_through.ensures.any_moment) in
    let run3 = then g.D.Disk.says c.args.self.now.disk c.write_through.new.disk c.write_through-2.new.disk P run2 (weaker g.D.Disk.says c.write_through.new.disk c.write_through-2.new.disk _ P (λ f after. opening_holds was c.args.checkpoint.now f stands.are_groups (torn f after)) c.write_through-2.ensures.any_moment) in
    run3

pub returns-clause-any_moment : goal.returns-clause-any_moment
returns-clause-any_moment g c = λ was stands.
    let first : (f : Files) → g.D.Disk.says.may_leave c.write_at.new.self f → IsAtRest was f = λ f left. first_file g.D.Disk.says g.met.D.Disk.reads_an_image c.args.self.now was stands c.checkpoint_file.result (length c.args.checkpoint.now) f (omega (arith, c.checkpoint_file.ensures)) (c.write_at.ensures.crash f left) in
    let second : (f : Files) → After (OnFile c.journal_file.result (Torn 0 5)) (g.D.Disk.says.may_leave c.write_at.new.self) f → IsAtRest was f = λ f after. second_file g.D.Disk.says g.met.D.Disk.reads_an_image c.args.self.now was stands c.write_at.new.self first c.journal_file.result 5 f (omega (arith, c.journal_file.ensures)) after in
    let both : (f : Files) → g.D.Disk.says.may_leave c.write_through.new.disk f → IsOpening was c.args.checkpoint.now f = λ f left. both_files g.D.Disk.says g.met.D.Disk.reads_an_image c.args.self.now was stands c.write_at.new.self first c.args.checkpoint.now c.checkpoint_file.result c.journal_file.result (omega (arith, c.checkpoint_file.ensures)) (omega (arith, c.journal_file.ensures)) c.requires.below c.in_ok-write_at.ensures.written.from f (c.in_ok-write_through.ensures.durable f left) in
    let torn : (f : Files) → After (OnFile 0 (Torn c.args.self.now.end.generation 1)) (g.D.Disk.says.may_leave c.write_through.new.disk) f → IsOpening was c.args.checkpoint.now f = root_torn g.D.Disk.says g.met.D.Disk.reads_an_image c.args.self.now was stands c.args.checkpoint.now c.write_through.new.disk both in
    let P : Files → Type 0 = HasEither was (with_generation was c.args.checkpoint.now) in
    let at_start = started g.D.Disk.says c.args.self.now.disk P (λ f left. inl (stands.holds f (g.met.D.Disk.only_now c.args.self.now.disk f left))) in
    let run1 = goes_on g.D.Disk.says c.args.self.now.disk c.args.self.now.disk c.write_at.new.self P at_start c.write_at.ensures.time (λ f left. inl (rest_holds was f stands.are_groups (first f left))) in
    let run2 = then g.D.Disk.says c.args.self.now.disk c.write_at.new.self c.write_through.new.disk P run1 (weaker g.D.Disk.says c.write_at.new.self c.write_through.new.disk _ P (λ f after. inl (rest_holds was f stands.are_groups (second f after))) c.write_through.ensures.any_moment) in
    let run3 = then g.D.Disk.says c.args.self.now.disk c.write_through.new.disk c.write_through-2.new.disk P run2 (weaker g.D.Disk.says c.write_through.new.disk c.write_through-2.new.disk _ P (λ f after. opening_holds was c.args.checkpoint.now f stands.are_groups (torn f after)) c.write_through-2.ensures.any_moment) in
    run3

pub returns-clause-ok : goal.returns-clause-ok
returns-clause-ok g c = λ was stands.
    let first : (f : Files) → g.D.Disk.says.may_leave c.write_at.new.self f → IsAtRest was f = λ f left. first_file g.D.Disk.says g.met.D.Disk.reads_an_image c.args.self.now was stands c.checkpoint_file.result (length c.args.checkpoint.now) f (omega (arith, c.checkpoint_file.ensures)) (c.write_at.ensures.crash f left) in
    let both : (f : Files) → g.D.Disk.says.may_leave c.write_through.new.disk f → IsOpening was c.args.checkpoint.now f = λ f left. both_files g.D.Disk.says g.met.D.Disk.reads_an_image c.args.self.now was stands c.write_at.new.self first c.args.checkpoint.now c.checkpoint_file.result c.journal_file.result (omega (arith, c.checkpoint_file.ensures)) (omega (arith, c.journal_file.ensures)) c.requires.below c.in_ok-write_at.ensures.written.from f (c.in_ok-write_through.ensures.durable f left) in
    let opened = root_opened g.D.Disk.says g.met.D.Disk.reads_an_image c.args.self.now was stands c.args.checkpoint.now c.write_through.new.disk both in
    standing g.D.Disk.says _ (with_generation was c.args.checkpoint.now) nothing (omega (arith, stands.generation)) tt refl refl refl (λ f left. opened f (c.in_ok-write_through-2.ensures.durable f left))

pub returns-in_err-write_at-clause-older : goal.returns-in_err-write_at-clause-older
returns-in_err-write_at-clause-older g c =
    let first : IsApart (3 + 2 * c.args.self.now.end.generation) c.checkpoint_file.result = λ f some lt e. omega (arith, lt, e, c.checkpoint_file.ensures) in
    kept_one g.D.Disk.says (3 + 2 * c.args.self.now.end.generation) c.checkpoint_file.result (Torn 0 (length c.args.checkpoint.now)) first c.args.self.now.disk c.write_at.new.self c.write_at.ensures.crash

pub returns-in_err-write_at-clause-any_older : goal.returns-in_err-write_at-clause-any_older
returns-in_err-write_at-clause-any_older g c =
    let first : IsApart (3 + 2 * c.args.self.now.end.generation) c.checkpoint_file.result = λ f some lt e. omega (arith, lt, e, c.checkpoint_file.ensures) in
    always_call g.D.Disk.says (3 + 2 * c.args.self.now.end.generation) c.checkpoint_file.result (Torn 0 (length c.args.checkpoint.now)) first c.args.self.now.disk c.write_at.new.self (g.met.D.Disk.only_now c.args.self.now.disk) c.write_at.ensures.time c.write_at.ensures.crash

pub returns-in_err-write_through-clause-older : goal.returns-in_err-write_through-clause-older
returns-in_err-write_through-clause-older g c =
    let first : IsApart (3 + 2 * c.args.self.now.end.generation) c.checkpoint_file.result = λ f some lt e. omega (arith, lt, e, c.checkpoint_file.ensures) in
    let second : IsApart (3 + 2 * c.args.self.now.end.generation) c.journal_file.result = λ f some lt e. omega (arith, lt, e, c.journal_file.ensures) in
    let kept1 : Keeps g.D.Disk.says (3 + 2 * c.args.self.now.end.generation) c.args.self.now.disk c.write_at.new.self = kept_one g.D.Disk.says (3 + 2 * c.args.self.now.end.generation) c.checkpoint_file.result (Torn 0 (length c.args.checkpoint.now)) first c.args.self.now.disk c.write_at.new.self c.write_at.ensures.crash in
    let kept2 : Keeps g.D.Disk.says (3 + 2 * c.args.self.now.end.generation) c.args.self.now.disk c.write_through.new.disk = kept_two g.D.Disk.says (3 + 2 * c.args.self.now.end.generation) c.args.self.now.disk c.write_at.new.self c.write_through.new.disk kept1 (kept_one g.D.Disk.says (3 + 2 * c.args.self.now.end.generation) c.journal_file.result (Torn 0 5) second c.write_at.new.self c.write_through.new.disk c.write_through.ensures.crash) in
    kept2

pub returns-in_err-write_through-clause-any_older : goal.returns-in_err-write_through-clause-any_older
returns-in_err-write_through-clause-any_older g c =
    let first : IsApart (3 + 2 * c.args.self.now.end.generation) c.checkpoint_file.result = λ f some lt e. omega (arith, lt, e, c.checkpoint_file.ensures) in
    let second : IsApart (3 + 2 * c.args.self.now.end.generation) c.journal_file.result = λ f some lt e. omega (arith, lt, e, c.journal_file.ensures) in
    let kept1 : Keeps g.D.Disk.says (3 + 2 * c.args.self.now.end.generation) c.args.self.now.disk c.write_at.new.self = kept_one g.D.Disk.says (3 + 2 * c.args.self.now.end.generation) c.checkpoint_file.result (Torn 0 (length c.args.checkpoint.now)) first c.args.self.now.disk c.write_at.new.self c.write_at.ensures.crash in
    let always1 : KeepsAlways g.D.Disk.says (3 + 2 * c.args.self.now.end.generation) c.args.self.now.disk c.write_at.new.self = always_call g.D.Disk.says (3 + 2 * c.args.self.now.end.generation) c.checkpoint_file.result (Torn 0 (length c.args.checkpoint.now)) first c.args.self.now.disk c.write_at.new.self (g.met.D.Disk.only_now c.args.self.now.disk) c.write_at.ensures.time c.write_at.ensures.crash in
    let always2 : KeepsAlways g.D.Disk.says (3 + 2 * c.args.self.now.end.generation) c.args.self.now.disk c.write_through.new.disk = always_two g.D.Disk.says (3 + 2 * c.args.self.now.end.generation) c.args.self.now.disk c.write_at.new.self c.write_through.new.disk kept1 always1 (always_one g.D.Disk.says (3 + 2 * c.args.self.now.end.generation) c.journal_file.result (Torn 0 5) second c.write_at.new.self c.write_through.new.disk c.write_through.ensures.any_moment) in
    always2

pub returns-in_err-write_through-2-clause-older : goal.returns-in_err-write_through-2-clause-older
returns-in_err-write_through-2-clause-older g c =
    let first : IsApart (3 + 2 * c.args.self.now.end.generation) c.checkpoint_file.result = λ f some lt e. omega (arith, lt, e, c.checkpoint_file.ensures) in
    let second : IsApart (3 + 2 * c.args.self.now.end.generation) c.journal_file.result = λ f some lt e. omega (arith, lt, e, c.journal_file.ensures) in
    let third : IsApart (3 + 2 * c.args.self.now.end.generation) 0 = λ f some lt e. omega (arith, some, e) in
    let kept1 : Keeps g.D.Disk.says (3 + 2 * c.args.self.now.end.generation) c.args.self.now.disk c.write_at.new.self = kept_one g.D.Disk.says (3 + 2 * c.args.self.now.end.generation) c.checkpoint_file.result (Torn 0 (length c.args.checkpoint.now)) first c.args.self.now.disk c.write_at.new.self c.write_at.ensures.crash in
    let kept2 : Keeps g.D.Disk.says (3 + 2 * c.args.self.now.end.generation) c.args.self.now.disk c.write_through.new.disk = kept_two g.D.Disk.says (3 + 2 * c.args.self.now.end.generation) c.args.self.now.disk c.write_at.new.self c.write_through.new.disk kept1 (kept_one g.D.Disk.says (3 + 2 * c.args.self.now.end.generation) c.journal_file.result (Torn 0 5) second c.write_at.new.self c.write_through.new.disk c.write_through.ensures.crash) in
    let kept3 : Keeps g.D.Disk.says (3 + 2 * c.args.self.now.end.generation) c.args.self.now.disk c.write_through-2.new.disk = kept_two g.D.Disk.says (3 + 2 * c.args.self.now.end.generation) c.args.self.now.disk c.write_through.new.disk c.write_through-2.new.disk kept2 (kept_one g.D.Disk.says (3 + 2 * c.args.self.now.end.generation) 0 (Torn c.args.self.now.end.generation 1) third c.write_through.new.disk c.write_through-2.new.disk c.write_through-2.ensures.crash) in
    kept3

pub returns-in_err-write_through-2-clause-any_older : goal.returns-in_err-write_through-2-clause-any_older
returns-in_err-write_through-2-clause-any_older g c =
    let first : IsApart (3 + 2 * c.args.self.now.end.generation) c.checkpoint_file.result = λ f some lt e. omega (arith, lt, e, c.checkpoint_file.ensures) in
    let second : IsApart (3 + 2 * c.args.self.now.end.generation) c.journal_file.result = λ f some lt e. omega (arith, lt, e, c.journal_file.ensures) in
    let third : IsApart (3 + 2 * c.args.self.now.end.generation) 0 = λ f some lt e. omega (arith, some, e) in
    let kept1 : Keeps g.D.Disk.says (3 + 2 * c.args.self.now.end.generation) c.args.self.now.disk c.write_at.new.self = kept_one g.D.Disk.says (3 + 2 * c.args.self.now.end.generation) c.checkpoint_file.result (Torn 0 (length c.args.checkpoint.now)) first c.args.self.now.disk c.write_at.new.self c.write_at.ensures.crash in
    let kept2 : Keeps g.D.Disk.says (3 + 2 * c.args.self.now.end.generation) c.args.self.now.disk c.write_through.new.disk = kept_two g.D.Disk.says (3 + 2 * c.args.self.now.end.generation) c.args.self.now.disk c.write_at.new.self c.write_through.new.disk kept1 (kept_one g.D.Disk.says (3 + 2 * c.args.self.now.end.generation) c.journal_file.result (Torn 0 5) second c.write_at.new.self c.write_through.new.disk c.write_through.ensures.crash) in
    let always1 : KeepsAlways g.D.Disk.says (3 + 2 * c.args.self.now.end.generation) c.args.self.now.disk c.write_at.new.self = always_call g.D.Disk.says (3 + 2 * c.args.self.now.end.generation) c.checkpoint_file.result (Torn 0 (length c.args.checkpoint.now)) first c.args.self.now.disk c.write_at.new.self (g.met.D.Disk.only_now c.args.self.now.disk) c.write_at.ensures.time c.write_at.ensures.crash in
    let always2 : KeepsAlways g.D.Disk.says (3 + 2 * c.args.self.now.end.generation) c.args.self.now.disk c.write_through.new.disk = always_two g.D.Disk.says (3 + 2 * c.args.self.now.end.generation) c.args.self.now.disk c.write_at.new.self c.write_through.new.disk kept1 always1 (always_one g.D.Disk.says (3 + 2 * c.args.self.now.end.generation) c.journal_file.result (Torn 0 5) second c.write_at.new.self c.write_through.new.disk c.write_through.ensures.any_moment) in
    let always3 : KeepsAlways g.D.Disk.says (3 + 2 * c.args.self.now.end.generation) c.args.self.now.disk c.write_through-2.new.disk = always_two g.D.Disk.says (3 + 2 * c.args.self.now.end.generation) c.args.self.now.disk c.write_through.new.disk c.write_through-2.new.disk kept2 always2 (always_one g.D.Disk.says (3 + 2 * c.args.self.now.end.generation) 0 (Torn c.args.self.now.end.generation 1) third c.write_through.new.disk c.write_through-2.new.disk c.write_through-2.ensures.any_moment) in
    always3

pub returns-clause-older : goal.returns-clause-older
returns-clause-older g c =
    let first : IsApart (3 + 2 * c.args.self.now.end.generation) c.checkpoint_file.result = λ f some lt e. omega (arith, lt, e, c.checkpoint_file.ensures) in
    let second : IsApart (3 + 2 * c.args.self.now.end.generation) c.journal_file.result = λ f some lt e. omega (arith, lt, e, c.journal_file.ensures) in
    let third : IsApart (3 + 2 * c.args.self.now.end.generation) 0 = λ f some lt e. omega (arith, some, e) in
    let kept1 : Keeps g.D.Disk.says (3 + 2 * c.args.self.now.end.generation) c.args.self.now.disk c.write_at.new.self = kept_one g.D.Disk.says (3 + 2 * c.args.self.now.end.generation) c.checkpoint_file.result (Torn 0 (length c.args.checkpoint.now)) first c.args.self.now.disk c.write_at.new.self c.write_at.ensures.crash in
    let kept2 : Keeps g.D.Disk.says (3 + 2 * c.args.self.now.end.generation) c.args.self.now.disk c.write_through.new.disk = kept_two g.D.Disk.says (3 + 2 * c.args.self.now.end.generation) c.args.self.now.disk c.write_at.new.self c.write_through.new.disk kept1 (kept_one g.D.Disk.says (3 + 2 * c.args.self.now.end.generation) c.journal_file.result (Torn 0 5) second c.write_at.new.self c.write_through.new.disk c.write_through.ensures.crash) in
    let kept3 : Keeps g.D.Disk.says (3 + 2 * c.args.self.now.end.generation) c.args.self.now.disk c.write_through-2.new.disk = kept_two g.D.Disk.says (3 + 2 * c.args.self.now.end.generation) c.args.self.now.disk c.write_through.new.disk c.write_through-2.new.disk kept2 (kept_one g.D.Disk.says (3 + 2 * c.args.self.now.end.generation) 0 (Torn c.args.self.now.end.generation 1) third c.write_through.new.disk c.write_through-2.new.disk c.write_through-2.ensures.crash) in
    kept3

pub returns-clause-any_older : goal.returns-clause-any_older
returns-clause-any_older g c =
    let first : IsApart (3 + 2 * c.args.self.now.end.generation) c.checkpoint_file.result = λ f some lt e. omega (arith, lt, e, c.checkpoint_file.ensures) in
    let second : IsApart (3 + 2 * c.args.self.now.end.generation) c.journal_file.result = λ f some lt e. omega (arith, lt, e, c.journal_file.ensures) in
    let third : IsApart (3 + 2 * c.args.self.now.end.generation) 0 = λ f some lt e. omega (arith, some, e) in
    let kept1 : Keeps g.D.Disk.says (3 + 2 * c.args.self.now.end.generation) c.args.self.now.disk c.write_at.new.self = kept_one g.D.Disk.says (3 + 2 * c.args.self.now.end.generation) c.checkpoint_file.result (Torn 0 (length c.args.checkpoint.now)) first c.args.self.now.disk c.write_at.new.self c.write_at.ensures.crash in
    let kept2 : Keeps g.D.Disk.says (3 + 2 * c.args.self.now.end.generation) c.args.self.now.disk c.write_through.new.disk = kept_two g.D.Disk.says (3 + 2 * c.args.self.now.end.generation) c.args.self.now.disk c.write_at.new.self c.write_through.new.disk kept1 (kept_one g.D.Disk.says (3 + 2 * c.args.self.now.end.generation) c.journal_file.result (Torn 0 5) second c.write_at.new.self c.write_through.new.disk c.write_through.ensures.crash) in
    let always1 : KeepsAlways g.D.Disk.says (3 + 2 * c.args.self.now.end.generation) c.args.self.now.disk c.write_at.new.self = always_call g.D.Disk.says (3 + 2 * c.args.self.now.end.generation) c.checkpoint_file.result (Torn 0 (length c.args.checkpoint.now)) first c.args.self.now.disk c.write_at.new.self (g.met.D.Disk.only_now c.args.self.now.disk) c.write_at.ensures.time c.write_at.ensures.crash in
    let always2 : KeepsAlways g.D.Disk.says (3 + 2 * c.args.self.now.end.generation) c.args.self.now.disk c.write_through.new.disk = always_two g.D.Disk.says (3 + 2 * c.args.self.now.end.generation) c.args.self.now.disk c.write_at.new.self c.write_through.new.disk kept1 always1 (always_one g.D.Disk.says (3 + 2 * c.args.self.now.end.generation) c.journal_file.result (Torn 0 5) second c.write_at.new.self c.write_through.new.disk c.write_through.ensures.any_moment) in
    let always3 : KeepsAlways g.D.Disk.says (3 + 2 * c.args.self.now.end.generation) c.args.self.now.disk c.write_through-2.new.disk = always_two g.D.Disk.says (3 + 2 * c.args.self.now.end.generation) c.args.self.now.disk c.write_through.new.disk c.write_through-2.new.disk kept2 always2 (always_one g.D.Disk.says (3 + 2 * c.args.self.now.end.generation) 0 (Torn c.args.self.now.end.generation 1) third c.write_through.new.disk c.write_through-2.new.disk c.write_through-2.ensures.any_moment) in
    always3

pub returns-clause-closed : goal.returns-clause-closed
returns-clause-closed g c = λ was stands image left.
    let first : (f : Files) → g.D.Disk.says.may_leave c.write_at.new.self f → IsAtRest was f = λ f there. first_file g.D.Disk.says g.met.D.Disk.reads_an_image c.args.self.now was stands c.checkpoint_file.result (length c.args.checkpoint.now) f (omega (arith, c.checkpoint_file.ensures)) (c.write_at.ensures.crash f there) in
    let both : (f : Files) → g.D.Disk.says.may_leave c.write_through.new.disk f → IsOpening was c.args.checkpoint.now f = λ f there. both_files g.D.Disk.says g.met.D.Disk.reads_an_image c.args.self.now was stands c.write_at.new.self first c.args.checkpoint.now c.checkpoint_file.result c.journal_file.result (omega (arith, c.checkpoint_file.ensures)) (omega (arith, c.journal_file.ensures)) c.requires.below c.in_ok-write_at.ensures.written.from f (c.in_ok-write_through.ensures.durable f there) in
    next_mark g.D.Disk.says g.met.D.Disk.reads_an_image c.args.self.now was stands c.args.checkpoint.now c.write_through.new.disk both image (c.in_ok-write_through-2.ensures.durable image left)

pub returns-in_err-write_at-clause-keeps : goal.returns-in_err-write_at-clause-keeps
returns-in_err-write_at-clause-keeps g c = λ older keeps is_err.
    older_kept g.D.Disk.says c.args.self.now _ older keeps (3 + 2 * c.args.self.now.end.generation) (omega arith) refl c.write_at.ensures.told (returns-in_err-write_at-clause-older g c)

pub returns-in_err-write_through-clause-keeps : goal.returns-in_err-write_through-clause-keeps
returns-in_err-write_through-clause-keeps g c = λ older keeps is_err.
    older_kept g.D.Disk.says c.args.self.now _ older keeps (3 + 2 * c.args.self.now.end.generation) (omega arith) refl (tells_two (g.D.Disk.says.seen c.args.self.now.disk) (g.D.Disk.says.seen c.write_at.new.self) (g.D.Disk.says.seen c.write_through.new.disk) c.write_at.ensures.told c.write_through.ensures.told) (returns-in_err-write_through-clause-older g c)

pub returns-in_err-write_through-2-clause-keeps : goal.returns-in_err-write_through-2-clause-keeps
returns-in_err-write_through-2-clause-keeps g c = λ older keeps is_err.
    older_kept g.D.Disk.says c.args.self.now _ older keeps (3 + 2 * c.args.self.now.end.generation) (omega arith) refl (tells_two (g.D.Disk.says.seen c.args.self.now.disk) (g.D.Disk.says.seen c.write_through.new.disk) (g.D.Disk.says.seen c.write_through-2.new.disk) (tells_two (g.D.Disk.says.seen c.args.self.now.disk) (g.D.Disk.says.seen c.write_at.new.self) (g.D.Disk.says.seen c.write_through.new.disk) c.write_at.ensures.told c.write_through.ensures.told) c.write_through-2.ensures.told) (returns-in_err-write_through-2-clause-older g c)

pub returns-clause-closes : goal.returns-clause-closes
returns-clause-closes g c = λ was older stands keeps.
    older_closed g.D.Disk.says c.args.self.now _ older keeps was stands (3 + 2 * c.args.self.now.end.generation) (omega arith) refl (tells_two (g.D.Disk.says.seen c.args.self.now.disk) (g.D.Disk.says.seen c.write_through.new.disk) (g.D.Disk.says.seen c.write_through-2.new.disk) (tells_two (g.D.Disk.says.seen c.args.self.now.disk) (g.D.Disk.says.seen c.write_at.new.self) (g.D.Disk.says.seen c.write_through.new.disk) c.write_at.ensures.told c.write_through.ensures.told) c.write_through-2.ensures.told) (returns-clause-older g c)
