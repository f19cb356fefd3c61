use Rattle.std.proofs.Common.{◌≡◌, ℕ, ◌<◌, Err, refl, subst, arith}
use Rattle.std.proofs.lemmas.Bool.{true≢false}
use Rattle.checkpoint_file.specs.declared.fault.CheckpointFault.{CheckpointFault}
use Rattle.checkpoint_file.specs.declared.fault.CheckpointFault.TheVariants.{NoGeneration, DiskFault}
use Rattle.outside_api.specs.Count.{HasRisen}
use Rattle.disk_journal.specs.Stands.{generation_of_journal}
use Rattle.depot_commit.specs.Writing.{CanWrite}
use Rattle.depot_commit.proofs.Writings.{left, wrote}
use Rattle.depot_commit.proofs.writing.commit.Goals as goal

-- ---- a group

pub commit-requires-clause-prepared : goal.commit-requires-clause-prepared
commit-requires-clause-prepared g c = subst (CanWrite c.args.journal.now) c.in-Group.is c.requires.can

pub returns-in-Ok-clause-written : goal.returns-in-Ok-clause-written
returns-in-Ok-clause-written g c = λ was stands. wrote c.in-Group.is (record { stands = c.in-Ok.ensures.ok was stands; any_moment = c.commit.ensures.any_moment was stands; keeps = c.commit.ensures.keeps })

pub returns-in-Err-clause-written : goal.returns-in-Err-clause-written
returns-in-Err-clause-written g c = λ was stands.
    let stands_by = left g.D.Disk.says c.args.journal.now c.commit.new.self was _ (c.in-Err.ensures.err was stands refl) in
    wrote c.in-Group.is (record { stands = stands_by; any_moment = c.commit.ensures.any_moment was stands; keeps = c.commit.ensures.keeps })

pub returns-in-Err-clause-only : goal.returns-in-Err-clause-only
returns-in-Err-clause-only g c = λ kept. absurd (true≢false kept)

-- ---- a generation

pub write_generation-requires : goal.write_generation-requires
write_generation-requires g c = record { rest = c.requires.stands }

pub returns-in-Ok-write_generation-clause-written : goal.returns-in-Ok-write_generation-clause-written
returns-in-Ok-write_generation-clause-written g c = λ was stands.
    let ok = c.in-Ok-write_generation.ensures in
    wrote c.in-Generation.is (record { stands = ok.ok was stands; any_moment = c.write_generation.ensures.any_image was stands; keeps = λ older keeps. ok.closes was older stands keeps })

pub returns-in-Err-write_generation-clause-written : goal.returns-in-Err-write_generation-clause-written
returns-in-Err-write_generation-clause-written g c = λ was stands.
    let stands_by = left g.D.Disk.says c.args.journal.now c.write_generation.new.journal was _ (c.in-Err-write_generation.ensures.err was stands refl) in
    wrote c.in-Generation.is (record { stands = stands_by; any_moment = c.write_generation.ensures.any_image was stands; keeps = λ older keeps. c.in-Err-write_generation.ensures.keeps older keeps refl })

-- below the last generation the disk has failed
disk_failed : (fault : CheckpointFault) (before now generation : ℕ) → generation < 4095 → (fault ≡ NoGeneration → generation ≡ 4095) → (fault ≡ DiskFault → HasRisen before now) → HasRisen before now
disk_failed NoGeneration before now generation below last risen = let is = last refl in absurd (omega (arith, below, is))
disk_failed DiskFault before now generation below last risen = risen refl

pub returns-in-Ok-write_generation-clause-only : goal.returns-in-Ok-write_generation-clause-only
returns-in-Ok-write_generation-clause-only g c = λ kept. c.in-Ok-write_generation.ensures.only (λ failed. absurd cc)

pub returns-in-Err-write_generation-clause-only : goal.returns-in-Err-write_generation-clause-only
returns-in-Err-write_generation-clause-only g c = λ kept. absurd (true≢false kept)

pub returns-in-Err-write_generation-clause-cause : goal.returns-in-Err-write_generation-clause-cause
returns-in-Err-write_generation-clause-cause g c = λ failed.
    let below : generation_of_journal c.args.journal.now < 4095 = subst (CanWrite c.args.journal.now) c.in-Generation.is c.requires.can in
    disk_failed c.in-Err-write_generation.field-0 _ _ (generation_of_journal c.args.journal.now) below (λ e. c.in-Err-write_generation.ensures.only_last (λ i. Err (e i))) (λ e. c.in-Err-write_generation.ensures.cause (λ i. Err (e i)))
