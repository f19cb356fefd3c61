use Rattle.std.proofs.Common.{◌≡◌, inl, inr, ◌+◌, ◌*◌, [], ◌∷◌, ◌++◌, length, refl, subst, ◌∙◌, ap, arith, length-append}
use Rattle.outside_api.specs.Disk.{Files, Torn}
use Rattle.outside_api.specs.Moments.{weaker, then}
use Rattle.disk_journal.specs.Text.{mark, IsGroup}
use Rattle.disk_journal.specs.Images.{HasCommitted, HasEither, with_group, IsReady}
use Rattle.disk_journal.specs.Stands.{nothing, group, group_of}
use Rattle.disk_journal.proofs.Blocks.{are_groups-push, length_push}
use Rattle.disk_journal.proofs.Images.{rest_holds, ready_holds}
use Rattle.disk_journal.proofs.Keeping.{older_kept, tells_two}
use Rattle.disk_journal.proofs.Standing.{standing, room, behind_rest, behind_ready, mark_room, mark_ready, mark_opened, mark_behind}
use Rattle.disk_journal.proofs.Runs.{IsApart, kept_one, kept_two, always_one, always_two}
use Rattle.disk_journal.proofs.journal.Journal.commit.Goals as goal

pub write_through-requires : goal.write_through-requires
write_through-requires g c = room g.D.Disk.says g.met.D.Disk.reads_an_image c.args.self.now c.requires.rest.0 nothing c.journal_file-file.result c.requires.rest.1 c.journal_file-file.ensures

pub write_through-requires-2 : goal.write_through-requires-2
write_through-requires-2 g c =
    let was = c.requires.rest.0 in
    let stands = c.requires.rest.1 in
    let added = group_of c.args.prepared in
    let file_of : c.journal_file-file.result ≡ 1 + 2 * was.generation = omega (arith, c.journal_file-file.ensures, stands.generation) in
    let ready : (f : Files) → g.D.Disk.says.may_leave c.write_through.new.disk f → IsReady was added f = λ f left. behind_ready g.D.Disk.says g.met.D.Disk.reads_an_image c.args.self.now was c.journal_file-file.result stands c.journal_file-file.ensures added c.as_bytes-text.result.now (c.as_bytes-text.ensures ∙ c.requires.prepared.text) f (c.in_ok-write_through.ensures.durable f left) in
    mark_room g.D.Disk.says g.met.D.Disk.reads_an_image c.args.self.now was c.journal_file-file.result added file_of stands.length c.write_through.new.disk ready

pub returns-in_err-write_through-clause-err : goal.returns-in_err-write_through-clause-err
returns-in_err-write_through-clause-err g c = λ was stands is_err.
    let rest = behind_rest g.D.Disk.says g.met.D.Disk.reads_an_image c.args.self.now was c.journal_file-file.result stands c.journal_file-file.ensures (length c.as_bytes-text.result.now) in
    inl (record {
      stands = standing g.D.Disk.says _ was nothing stands.generation stands.are_groups stands.count stands.length stands.known (λ image left. rest image (c.write_through.ensures.crash image left));
      any_moment = weaker g.D.Disk.says c.args.self.now.disk c.write_through.new.disk _ (HasCommitted was) (λ f after. rest_holds was f stands.are_groups (rest f after)) c.write_through.ensures.any_moment;
    })

pub returns-in_err-write_through-clause-any_moment : goal.returns-in_err-write_through-clause-any_moment
returns-in_err-write_through-clause-any_moment g c = λ was stands.
    let rest = behind_rest g.D.Disk.says g.met.D.Disk.reads_an_image c.args.self.now was c.journal_file-file.result stands c.journal_file-file.ensures (length c.as_bytes-text.result.now) in
    weaker g.D.Disk.says c.args.self.now.disk c.write_through.new.disk _ (HasEither was (with_group was (group_of c.args.prepared))) (λ f after. inl (rest_holds was f stands.are_groups (rest f after))) c.write_through.ensures.any_moment

pub returns-in_err-write_through-2-clause-err : goal.returns-in_err-write_through-2-clause-err
returns-in_err-write_through-2-clause-err g c = λ was stands is_err.
    let added = group_of c.args.prepared in
    let file_of : c.journal_file-file.result ≡ 1 + 2 * was.generation = omega (arith, c.journal_file-file.ensures, stands.generation) in
    let ready : (f : Files) → g.D.Disk.says.may_leave c.write_through.new.disk f → IsReady was added f = λ f left. behind_ready g.D.Disk.says g.met.D.Disk.reads_an_image c.args.self.now was c.journal_file-file.result stands c.journal_file-file.ensures added c.as_bytes-text.result.now (c.as_bytes-text.ensures ∙ c.requires.prepared.text) f (c.in_ok-write_through.ensures.durable f left) in
    let marked = mark_ready g.D.Disk.says g.met.D.Disk.reads_an_image c.args.self.now was c.journal_file-file.result added file_of stands.length c.write_through.new.disk ready in
    inr (standing g.D.Disk.says _ was (group added) stands.generation stands.are_groups stands.count stands.length (refl, c.requires.prepared.is_group) (λ image left. marked image (c.write_through-2.ensures.crash image left)))

pub returns-in_err-write_through-2-clause-any_moment : goal.returns-in_err-write_through-2-clause-any_moment
returns-in_err-write_through-2-clause-any_moment g c = λ was stands.
    let added = group_of c.args.prepared in
    let file_of : c.journal_file-file.result ≡ 1 + 2 * was.generation = omega (arith, c.journal_file-file.ensures, stands.generation) in
    let rest = behind_rest g.D.Disk.says g.met.D.Disk.reads_an_image c.args.self.now was c.journal_file-file.result stands c.journal_file-file.ensures (length c.as_bytes-text.result.now) in
    let ready : (f : Files) → g.D.Disk.says.may_leave c.write_through.new.disk f → IsReady was added f = λ f left. behind_ready g.D.Disk.says g.met.D.Disk.reads_an_image c.args.self.now was c.journal_file-file.result stands c.journal_file-file.ensures added c.as_bytes-text.result.now (c.as_bytes-text.ensures ∙ c.requires.prepared.text) f (c.in_ok-write_through.ensures.durable f left) in
    let marked = mark_ready g.D.Disk.says g.met.D.Disk.reads_an_image c.args.self.now was c.journal_file-file.result added file_of stands.length c.write_through.new.disk ready in
    let next : IsGroup (length was.groups + 1) added = subst (λ n. IsGroup n added) (omega (arith, stands.count)) c.requires.prepared.is_group in
    let P : Files → Type 0 = HasEither was (with_group was added) in
    let first = weaker g.D.Disk.says c.args.self.now.disk c.write_through.new.disk _ P (λ f after. inl (rest_holds was f stands.are_groups (rest f after))) c.write_through.ensures.any_moment in
    let second = weaker g.D.Disk.says c.write_through.new.disk c.write_through-2.new.disk _ P (λ f after. ready_holds was added f stands.are_groups next (marked f after)) c.write_through-2.ensures.any_moment in
    then g.D.Disk.says c.args.self.now.disk c.write_through.new.disk c.write_through-2.new.disk P first second

pub returns-clause-any_moment : goal.returns-clause-any_moment
returns-clause-any_moment g c = λ was stands.
    let added = group_of c.args.prepared in
    let file_of : c.journal_file-file.result ≡ 1 + 2 * was.generation = omega (arith, c.journal_file-file.ensures, stands.generation) in
    let rest = behind_rest g.D.Disk.says g.met.D.Disk.reads_an_image c.args.self.now was c.journal_file-file.result stands c.journal_file-file.ensures (length c.as_bytes-text.result.now) in
    let ready : (f : Files) → g.D.Disk.says.may_leave c.write_through.new.disk f → IsReady was added f = λ f left. behind_ready g.D.Disk.says g.met.D.Disk.reads_an_image c.args.self.now was c.journal_file-file.result stands c.journal_file-file.ensures added c.as_bytes-text.result.now (c.as_bytes-text.ensures ∙ c.requires.prepared.text) f (c.in_ok-write_through.ensures.durable f left) in
    let marked = mark_ready g.D.Disk.says g.met.D.Disk.reads_an_image c.args.self.now was c.journal_file-file.result added file_of stands.length c.write_through.new.disk ready in
    let next : IsGroup (length was.groups + 1) added = subst (λ n. IsGroup n added) (omega (arith, stands.count)) c.requires.prepared.is_group in
    let P : Files → Type 0 = HasEither was (with_group was added) in
    let first = weaker g.D.Disk.says c.args.self.now.disk c.write_through.new.disk _ P (λ f after. inl (rest_holds was f stands.are_groups (rest f after))) c.write_through.ensures.any_moment in
    let second = weaker g.D.Disk.says c.write_through.new.disk c.write_through-2.new.disk _ P (λ f after. ready_holds was added f stands.are_groups next (marked f after)) c.write_through-2.ensures.any_moment in
    then g.D.Disk.says c.args.self.now.disk c.write_through.new.disk c.write_through-2.new.disk P first second

pub returns-clause-ok : goal.returns-clause-ok
returns-clause-ok g c = λ was stands.
    let added = group_of c.args.prepared in
    let file_of : c.journal_file-file.result ≡ 1 + 2 * was.generation = omega (arith, c.journal_file-file.ensures, stands.generation) in
    let ready : (f : Files) → g.D.Disk.says.may_leave c.write_through.new.disk f → IsReady was added f = λ f left. behind_ready g.D.Disk.says g.met.D.Disk.reads_an_image c.args.self.now was c.journal_file-file.result stands c.journal_file-file.ensures added c.as_bytes-text.result.now (c.as_bytes-text.ensures ∙ c.requires.prepared.text) f (c.in_ok-write_through.ensures.durable f left) in
    let opened = mark_opened g.D.Disk.says g.met.D.Disk.reads_an_image c.args.self.now was c.journal_file-file.result added file_of stands.length c.write_through.new.disk ready in
    let next : IsGroup (1 + length was.groups) added = subst (λ n. IsGroup n added) (omega (arith, stands.count)) c.requires.prepared.is_group in
    let longer = length-append added (mark 109) in
    let size : c.args.prepared.size ≡ length (added ++ mark 109) = c.args.prepared.size_is ∙ ap length c.requires.prepared.text in
    standing g.D.Disk.says _ (with_group was added) nothing stands.generation (are_groups-push 1 was.groups added stands.are_groups next) (omega (arith, stands.count, length-append was.groups (added ∷ []))) (omega (arith, stands.length, length_push was.groups added, longer, size)) refl (λ image left. opened image (c.in_ok-write_through-2.ensures.durable image left))

pub returns-clause-receipt : goal.returns-clause-receipt
returns-clause-receipt g c = λ was stands. (stands.generation, omega (arith, stands.count))

pub returns-in_err-write_through-clause-older : goal.returns-in_err-write_through-clause-older
returns-in_err-write_through-clause-older g c =
    let apart : IsApart (1 + 2 * c.args.self.now.end.generation) c.journal_file-file.result = λ f some lt e. omega (arith, lt, e, c.journal_file-file.ensures) in
    kept_one g.D.Disk.says (1 + 2 * c.args.self.now.end.generation) c.journal_file-file.result (Torn (c.args.self.now.end.length + 5) (length c.as_bytes-text.result.now)) apart c.args.self.now.disk c.write_through.new.disk c.write_through.ensures.crash

pub returns-in_err-write_through-clause-any_older : goal.returns-in_err-write_through-clause-any_older
returns-in_err-write_through-clause-any_older g c =
    let apart : IsApart (1 + 2 * c.args.self.now.end.generation) c.journal_file-file.result = λ f some lt e. omega (arith, lt, e, c.journal_file-file.ensures) in
    always_one g.D.Disk.says (1 + 2 * c.args.self.now.end.generation) c.journal_file-file.result (Torn (c.args.self.now.end.length + 5) (length c.as_bytes-text.result.now)) apart c.args.self.now.disk c.write_through.new.disk c.write_through.ensures.any_moment

pub returns-in_err-write_through-2-clause-older : goal.returns-in_err-write_through-2-clause-older
returns-in_err-write_through-2-clause-older g c =
    let apart : IsApart (1 + 2 * c.args.self.now.end.generation) c.journal_file-file.result = λ f some lt e. omega (arith, lt, e, c.journal_file-file.ensures) in
    kept_two g.D.Disk.says (1 + 2 * c.args.self.now.end.generation) c.args.self.now.disk c.write_through.new.disk c.write_through-2.new.disk (kept_one g.D.Disk.says (1 + 2 * c.args.self.now.end.generation) c.journal_file-file.result (Torn (c.args.self.now.end.length + 5) (length c.as_bytes-text.result.now)) apart c.args.self.now.disk c.write_through.new.disk c.write_through.ensures.crash) (kept_one g.D.Disk.says (1 + 2 * c.args.self.now.end.generation) c.journal_file-file.result (Torn (c.args.self.now.end.length + 1) 1) apart c.write_through.new.disk c.write_through-2.new.disk c.write_through-2.ensures.crash)

pub returns-in_err-write_through-2-clause-any_older : goal.returns-in_err-write_through-2-clause-any_older
returns-in_err-write_through-2-clause-any_older g c =
    let apart : IsApart (1 + 2 * c.args.self.now.end.generation) c.journal_file-file.result = λ f some lt e. omega (arith, lt, e, c.journal_file-file.ensures) in
    always_two g.D.Disk.says (1 + 2 * c.args.self.now.end.generation) c.args.self.now.disk c.write_through.new.disk c.write_through-2.new.disk (kept_one g.D.Disk.says (1 + 2 * c.args.self.now.end.generation) c.journal_file-file.result (Torn (c.args.self.now.end.length + 5) (length c.as_bytes-text.result.now)) apart c.args.self.now.disk c.write_through.new.disk c.write_through.ensures.crash) (always_one g.D.Disk.says (1 + 2 * c.args.self.now.end.generation) c.journal_file-file.result (Torn (c.args.self.now.end.length + 5) (length c.as_bytes-text.result.now)) apart c.args.self.now.disk c.write_through.new.disk c.write_through.ensures.any_moment) (always_one g.D.Disk.says (1 + 2 * c.args.self.now.end.generation) c.journal_file-file.result (Torn (c.args.self.now.end.length + 1) 1) apart c.write_through.new.disk c.write_through-2.new.disk c.write_through-2.ensures.any_moment)

pub returns-clause-older : goal.returns-clause-older
returns-clause-older g c =
    let apart : IsApart (1 + 2 * c.args.self.now.end.generation) c.journal_file-file.result = λ f some lt e. omega (arith, lt, e, c.journal_file-file.ensures) in
    kept_two g.D.Disk.says (1 + 2 * c.args.self.now.end.generation) c.args.self.now.disk c.write_through.new.disk c.write_through-2.new.disk (kept_one g.D.Disk.says (1 + 2 * c.args.self.now.end.generation) c.journal_file-file.result (Torn (c.args.self.now.end.length + 5) (length c.as_bytes-text.result.now)) apart c.args.self.now.disk c.write_through.new.disk c.write_through.ensures.crash) (kept_one g.D.Disk.says (1 + 2 * c.args.self.now.end.generation) c.journal_file-file.result (Torn (c.args.self.now.end.length + 1) 1) apart c.write_through.new.disk c.write_through-2.new.disk c.write_through-2.ensures.crash)

pub returns-clause-any_older : goal.returns-clause-any_older
returns-clause-any_older g c =
    let apart : IsApart (1 + 2 * c.args.self.now.end.generation) c.journal_file-file.result = λ f some lt e. omega (arith, lt, e, c.journal_file-file.ensures) in
    always_two g.D.Disk.says (1 + 2 * c.args.self.now.end.generation) c.args.self.now.disk c.write_through.new.disk c.write_through-2.new.disk (kept_one g.D.Disk.says (1 + 2 * c.args.self.now.end.generation) c.journal_file-file.result (Torn (c.args.self.now.end.length + 5) (length c.as_bytes-text.result.now)) apart c.args.self.now.disk c.write_through.new.disk c.write_through.ensures.crash) (always_one g.D.Disk.says (1 + 2 * c.args.self.now.end.generation) c.journal_file-file.result (Torn (c.args.self.now.end.length + 5) (length c.as_bytes-text.result.now)) apart c.args.self.now.disk c.write_through.new.disk c.write_through.ensures.any_moment) (always_one g.D.Disk.says (1 + 2 * c.args.self.now.end.generation) c.journal_file-file.result (Torn (c.args.self.now.end.length + 1) 1) apart c.write_through.new.disk c.write_through-2.new.disk c.write_through-2.ensures.any_moment)

pub returns-clause-closed : goal.returns-clause-closed
returns-clause-closed g c = λ was stands image left.
    let added = group_of c.args.prepared in
    let file_of : c.journal_file-file.result ≡ 1 + 2 * was.generation = omega (arith, c.journal_file-file.ensures, stands.generation) in
    let ready : (f : Files) → g.D.Disk.says.may_leave c.write_through.new.disk f → IsReady was added f = λ f there. behind_ready g.D.Disk.says g.met.D.Disk.reads_an_image c.args.self.now was c.journal_file-file.result stands c.journal_file-file.ensures added c.as_bytes-text.result.now (c.as_bytes-text.ensures ∙ c.requires.prepared.text) f (c.in_ok-write_through.ensures.durable f there) in
    mark_behind g.D.Disk.says g.met.D.Disk.reads_an_image c.args.self.now was c.journal_file-file.result added file_of stands.length c.write_through.new.disk ready image (c.in_ok-write_through-2.ensures.durable image left)

pub returns-in_err-write_through-clause-keeps : goal.returns-in_err-write_through-clause-keeps
returns-in_err-write_through-clause-keeps g c = λ older keeps.
    older_kept g.D.Disk.says c.args.self.now _ older keeps (1 + 2 * c.args.self.now.end.generation) (omega arith) refl c.write_through.ensures.told (returns-in_err-write_through-clause-older g c)

pub returns-in_err-write_through-2-clause-keeps : goal.returns-in_err-write_through-2-clause-keeps
returns-in_err-write_through-2-clause-keeps g c = λ older keeps.
    older_kept g.D.Disk.says c.args.self.now _ older keeps (1 + 2 * c.args.self.now.end.generation) (omega arith) refl (tells_two (g.D.Disk.says.seen c.args.self.now.disk) (g.D.Disk.says.seen c.write_through.new.disk) (g.D.Disk.says.seen c.write_through-2.new.disk) c.write_through.ensures.told c.write_through-2.ensures.told) (returns-in_err-write_through-2-clause-older g c)

pub returns-clause-keeps : goal.returns-clause-keeps
returns-clause-keeps g c = λ older keeps.
    older_kept g.D.Disk.says c.args.self.now _ older keeps (1 + 2 * c.args.self.now.end.generation) (omega arith) refl (tells_two (g.D.Disk.says.seen c.args.self.now.disk) (g.D.Disk.says.seen c.write_through.new.disk) (g.D.Disk.says.seen c.write_through-2.new.disk) c.write_through.ensures.told c.write_through-2.ensures.told) (returns-clause-older g c)
