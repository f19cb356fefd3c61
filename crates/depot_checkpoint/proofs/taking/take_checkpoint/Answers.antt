use Rattle.std.proofs.Common.{◌≡◌, ◌+◌, ◌<◌, ◌≤◌, ℕ, refl, sym, subst, ◌∙◌, arith}
use Rattle.std.proofs.lemmas.Bool.Decides.{nat_tests}
use Rattle.outside_api.specs.Moments.{weaker}
use Rattle.checkpoint_file.specs.Generations.{StandsForEither}
use Rattle.disk_journal.specs.Stands.{disk_of, nothing}
use Rattle.depot_rows.specs.table_changes.Changed.{rows_of}
use Rattle.depot_checkpoint.specs.Taking.{StandsBeforeOrAfter}
use Rattle.depot_checkpoint.proofs.Checkpoints.{may_have_begun, stands_begun, stands_either, stands_last}
use Rattle.depot_checkpoint.proofs.taking.take_checkpoint.Goals as goal

pub returns-then-generation-ge-LAST-clause-taken : goal.returns-then-generation-ge-LAST-clause-taken
returns-then-generation-ge-LAST-clause-taken g c = λ was d archive stands of_depot image left.
    let n : ℕ = c.generation-generation.result in
    let test = c.if-generation-ge-LAST.true in
    let reached : 4095 ≤ n = grind (arith, nat_tests) in
    let same : n ≡ was.generation = c.generation-generation.ensures ∙ stands.generation in
    stands_last was (rows_of c.args.tables.now) d archive of_depot (subst (λ (k : ℕ). 4095 ≤ k) same reached) image (stands.holds image left)

pub returns-in-Ok-clause-taken : goal.returns-in-Ok-clause-taken
returns-in-Ok-clause-taken g c = λ was d archive stands of_depot image left.
    let n : ℕ = c.generation-generation.result in
    let test = c.if-generation-ge-LAST.false in
    let less : n < 4095 = grind (arith, nat_tests) in
    let same : n ≡ was.generation = c.generation-generation.ensures ∙ stands.generation in
    let next = (c.in_ok-text.ensures was d of_depot.has of_depot.stand of_depot.generation (sym same)).0 in
    stands_begun was (rows_of c.args.tables.now) d archive of_depot (subst (λ (k : ℕ). k < 4095) same less) image
    (c.in-Ok.ensures.opened was (rows_of c.args.tables.now) d archive stands of_depot next image left)

pub returns-in-Ok-clause-any_moment : goal.returns-in-Ok-clause-any_moment
returns-in-Ok-clause-any_moment g c = λ was d archive stands of_depot.
    let n : ℕ = c.generation-generation.result in
    let test = c.if-generation-ge-LAST.false in
    let less : n < 4095 = grind (arith, nat_tests) in
    let same : n ≡ was.generation = c.generation-generation.ensures ∙ stands.generation in
    let next = (c.in_ok-text.ensures was d of_depot.has of_depot.stand of_depot.generation (sym same)).0 in
    weaker g.D.Disk.says (disk_of c.args.journal.now) (disk_of c.write_generation.new.journal) (StandsForEither (was.generation + 1) d archive) (StandsBeforeOrAfter d archive)
    (stands_either was (rows_of c.args.tables.now) d archive of_depot (subst (λ (k : ℕ). k < 4095) same less))
    (c.write_generation.ensures.opens was (rows_of c.args.tables.now) d archive stands of_depot next)

pub returns-clause-any_moment : goal.returns-clause-any_moment
returns-clause-any_moment g c = λ was d archive stands of_depot.
    let n : ℕ = c.generation-generation.result in
    let test = c.if-generation-ge-LAST.false in
    let less : n < 4095 = grind (arith, nat_tests) in
    let same : n ≡ was.generation = c.generation-generation.ensures ∙ stands.generation in
    let next = (c.in_ok-text.ensures was d of_depot.has of_depot.stand of_depot.generation (sym same)).0 in
    weaker g.D.Disk.says (disk_of c.args.journal.now) (disk_of c.write_generation.new.journal) (StandsForEither (was.generation + 1) d archive) (StandsBeforeOrAfter d archive)
    (stands_either was (rows_of c.args.tables.now) d archive of_depot (subst (λ (k : ℕ). k < 4095) same less))
    (c.write_generation.ensures.opens was (rows_of c.args.tables.now) d archive stands of_depot next)

-- ---- the groups of the journal

pub returns-in-Ok-clause-begun : goal.returns-in-Ok-clause-begun
returns-in-Ok-clause-begun g c = λ was d older can.
    let same : c.generation-generation.result ≡ was.generation = c.generation-generation.ensures ∙ can.stands.generation in
    record {
      text = c.in_ok-text.text;
      next = (c.in_ok-text.ensures was d can.has can.stand can.generation (sym same)).1;
      stands = c.in-Ok.ensures.ok was can.stands;
      keeps = c.in-Ok.ensures.closes was older can.stands can.keeps;
    }

pub returns-clause-begins : goal.returns-clause-begins
returns-clause-begins g c = λ was d older can failed.
    let same : c.generation-generation.result ≡ was.generation = c.generation-generation.ensures ∙ can.stands.generation in
    let text = c.in_ok-text.text in
    may_have_begun g.D.Disk.says c.args.journal.now c.write_generation.new.journal was (rows_of c.args.tables.now) d older text
    (c.in_ok-text.ensures was d can.has can.stand can.generation (sym same)).1 (c.in-Err-DiskFault.ensures.err was can.stands refl) (c.in-Err-DiskFault.ensures.keeps older can.keeps refl)

pub returns-in_err-text-clause-begins : goal.returns-in_err-text-clause-begins
returns-in_err-text-clause-begins g c = λ was d older can failed. record { doubt = nothing; next = tt; stands = can.stands; keeps = can.keeps }

-- ---- the count of the disk

pub returns-in-Ok-clause-only : goal.returns-in-Ok-clause-only
returns-in-Ok-clause-only g c = λ other. c.in-Ok.ensures.only (λ failed. absurd cc)

pub returns-in-Err-NoGeneration-clause-only : goal.returns-in-Err-NoGeneration-clause-only
returns-in-Err-NoGeneration-clause-only g c = λ other. c.in-Err-NoGeneration.ensures.only (λ failed. absurd cc)
