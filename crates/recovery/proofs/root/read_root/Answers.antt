use Rattle.std.proofs.Common.{◌≡◌, ◌≢◌, ◌≤◌, ℕ, List, Result, length, take, refl, sym, subst, ◌∙◌, Ok, arith}
use Rattle.std.proofs.lemmas.List.{take_all}
use Rattle.disk_journal.specs.Images.{IsRoot}
use Rattle.recovery.specs.Damage.{of_root, IsDamage}
use Rattle.recovery.specs.Faults.{Tells}
use Rattle.recovery.proofs.RootDamage.{damage_of_front, damage_behind}
use Rattle.recovery.proofs.PassedOn.{unless_failed}
use Rattle.recovery.proofs.root.read_root.Goals as goal

whole_root : (bytes file : List ℕ) → bytes ≡ take 4095 file → length file ≤ 4095 → bytes ≡ file
whole_root bytes file is short = is ∙ take_all 4095 file short

same_ok : {a b : ℕ} → ◌≡◌ {A = Result ℕ ℕ} (Ok a) (Ok b) → a ≡ b
same_ok e = cc

pub returns-in-Ok-clause-root : goal.returns-in-Ok-clause-root
returns-in-Ok-clause-root g c = λ files read.
    let bytes = c.in_ok-count.ensures.bytes files (c.length.ensures.same.kept files read) in
    subst (IsRoot c.in-Ok.generation) (whole_root _ (files 0) bytes (omega (arith, c.in_ok-length.ensures.length files read, c.if-length.true))) c.in-Ok.ensures.root

pub returns-in-Ok-clause-only : goal.returns-in-Ok-clause-only
returns-in-Ok-clause-only g c = λ files generation read is.
    let bytes = c.in_ok-count.ensures.bytes files (c.length.ensures.same.kept files read) in
    same_ok (c.in-Ok.ensures.only generation (subst (IsRoot generation) (sym (whole_root _ (files 0) bytes (omega (arith, is.long)))) is))

pub returns-in-Err-clause-only : goal.returns-in-Err-clause-only
returns-in-Err-clause-only g c = λ files generation read is.
    let bytes = c.in_ok-count.ensures.bytes files (c.length.ensures.same.kept files read) in
    absurd (c.in-Err.ensures.damaged.none generation (subst (IsRoot generation) (sym (whole_root _ (files 0) bytes (omega (arith, is.long)))) is))

pub returns-in-Err-clause-damaged : goal.returns-in-Err-clause-damaged
returns-in-Err-clause-damaged g c = λ files contents read.
    let bytes = c.in_ok-count.ensures.bytes files (c.length.ensures.same.kept files read) in
    subst (Tells (IsDamage files contents)) (sym c.damaged-in-Err.ensures) (of_root refl (damage_of_front (files 0) _ c.in-Err.place bytes c.in-Err.ensures.damaged))

pub returns-in-Ok-2-clause-damaged : goal.returns-in-Ok-2-clause-damaged
returns-in-Ok-2-clause-damaged g c = λ files contents read.
    let bytes = c.in_ok-count.ensures.bytes files (c.length.ensures.same.kept files read) in
    let other : length (files 0) ≢ 4095 = λ long. c.if-length.false (c.in_ok-length.ensures.length files read ∙ long) in
    subst (Tells (IsDamage files contents)) (sym c.damaged.ensures) (of_root refl (damage_behind c.in-Ok.generation (files 0) _ bytes c.in-Ok.ensures.root other))

pub returns-in_err-length-clause-unfailed : goal.returns-in_err-length-clause-unfailed
returns-in_err-length-clause-unfailed g c = unless_failed c.from_residual.result _ c.from_residual.ensures.1

pub returns-in_err-count-clause-unfailed : goal.returns-in_err-count-clause-unfailed
returns-in_err-count-clause-unfailed g c = unless_failed c.from_residual-in_err-count.result _ c.from_residual-in_err-count.ensures.1
