use Rattle.std.proofs.Common.{◌≡◌, ◌<◌, ◌^◌, ℕ, max, List, sym, subst, arith}
use Rattle.outside_api.specs.Disk.{Files}
use Rattle.archive_file.specs.Archive.{disk_of, used_of}
use Rattle.replica_chain.specs.Copying.{AtBadContent, AtNoBytes, IsAbsent, IsBadContent, KeepsUsed, named_ends}
use Rattle.replica_chain.proofs.Brought.{filled_none, filled_to}
use Rattle.replica_chain.proofs.Copied.{absent_more, copied_read, exact_end, keeps_read}
use Rattle.replica_chain.proofs.PassedOn.{bytes_lead, content_each, no_bytes_told, no_digest_told, passed_fault}
use Rattle.replica_chain.proofs.contents.bring_contents.Goals as goal

-- not all was copied

pub returns-in_err-copy_contents-clause-filled : goal.returns-in_err-copy_contents-clause-filled
returns-in_err-copy_contents-clause-filled g c =
    let copied = c.copy_contents.ensures in
    filled_none g.D.Disk.says (g.C.Contents.tells c.args.contents.now) (g.C.Contents.tells c.copy_contents.new.contents) c.args.archive.now c.copy_contents.new.archive copied.keeps c.requires.small c.requires.room copied.grows

pub returns-in_err-copy_contents-clause-absent : goal.returns-in_err-copy_contents-clause-absent
returns-in_err-copy_contents-clause-absent g c =
    let fault = c.in_err-copy_contents.field-0.0 in
    let named = named_ends c.args.changes.now in
    let used = used_of c.args.archive.now in
    let end = c.spots_end-end in
    let P : ℕ → Type 0 = λ place. (bytes : List ℕ) → g.C.Contents.tells c.copy_contents.new.contents bytes → IsAbsent bytes (used_of c.copy_contents.new.archive) named place in
    passed_fault (AtNoBytes P) _ fault c.from_residual.ensures.1
    (bytes_lead _ P fault
    (λ place absent bytes told. subst (λ (from : ℕ). IsAbsent bytes from named place) (sym c.copy_contents.ensures.keeps.used) (absent_more bytes used end.result named place end.ensures (absent bytes told)))
    c.in_err-copy_contents.ensures.absent)

pub returns-in_err-copy_contents-clause-bad : goal.returns-in_err-copy_contents-clause-bad
returns-in_err-copy_contents-clause-bad g c =
    let fault = c.in_err-copy_contents.field-0.0 in
    let P : ℕ → Type 0 = λ place. (files : Files) → g.D.Disk.says.seen (disk_of c.copy_contents.new.archive) files → IsBadContent (files 0) c.args.changes.now place in
    passed_fault (AtBadContent P) _ fault c.from_residual.ensures.1 (no_digest_told P fault c.in_err-copy_contents.ensures.only)

pub returns-in_err-copy_contents-clause-contents_reached : goal.returns-in_err-copy_contents-clause-contents_reached
returns-in_err-copy_contents-clause-contents_reached g c = c.copy_contents.ensures.contents_reached

-- a content has another digest, or wasn't read

pub returns-in_err-check_contents-clause-filled : goal.returns-in_err-check_contents-clause-filled
returns-in_err-check_contents-clause-filled g c =
    let says = g.D.Disk.says in
    let archive = c.args.archive.now in
    let copied = c.copy_contents.ensures in
    let checked = c.check_contents.ensures in
    let keeps = keeps_read says archive c.copy_contents.new.archive c.check_contents.new.archive copied.keeps checked.reads checked.used in
    filled_none says (g.C.Contents.tells c.args.contents.now) (g.C.Contents.tells c.copy_contents.new.contents) archive c.check_contents.new.archive keeps c.requires.small c.requires.room copied.grows

pub returns-in_err-check_contents-clause-absent : goal.returns-in_err-check_contents-clause-absent
returns-in_err-check_contents-clause-absent g c =
    let fault = c.in_err-check_contents.field-0.0 in
    let P : ℕ → Type 0 = λ place. (bytes : List ℕ) → g.C.Contents.tells c.copy_contents.new.contents bytes → IsAbsent bytes (used_of c.check_contents.new.archive) (named_ends c.args.changes.now) place in
    passed_fault (AtNoBytes P) _ fault c.from_residual-in_err-check_contents.ensures.1 (no_bytes_told P fault c.in_err-check_contents.ensures.only)

pub returns-in_err-check_contents-clause-bad : goal.returns-in_err-check_contents-clause-bad
returns-in_err-check_contents-clause-bad g c =
    let fault = c.in_err-check_contents.field-0.0 in
    let copied = c.in_ok-copy_contents.ensures in
    let changes = c.args.changes.now in
    let exact = exact_end (used_of c.args.archive.now) c.spots_end-end.result (named_ends changes) c.spots_end-end.ensures copied.fits c.requires.small in
    let S : Files → Type 0 = g.D.Disk.says.seen (disk_of c.check_contents.new.archive) in
    passed_fault (AtBadContent (λ place. (files : Files) → S files → IsBadContent (files 0) changes place)) _ fault c.from_residual-in_err-check_contents.ensures.1
    (content_each S (λ files. IsBadContent (files 0) changes) fault
    (λ files sees.
    let read = c.check_contents.ensures.reads.same.no_more files sees in
    let reach = copied.copied.reach files (g.met.D.Disk.reads_an_image (disk_of c.copy_contents.new.archive) files read) in
    c.in_err-check_contents.ensures.bad files read (omega (arith, exact.0, reach))))

pub returns-in_err-check_contents-clause-contents_reached : goal.returns-in_err-check_contents-clause-contents_reached
returns-in_err-check_contents-clause-contents_reached g c = c.copy_contents.ensures.contents_reached

-- they were brought

pub keep-requires : goal.keep-requires
keep-requires g c =
    let exact = exact_end (used_of c.args.archive.now) c.spots_end-end.result (named_ends c.args.changes.now) c.spots_end-end.ensures c.in_ok-copy_contents.ensures.fits c.requires.small in
    omega (arith, exact.1)

pub returns-clause-filled : goal.returns-clause-filled
returns-clause-filled g c =
    let says = g.D.Disk.says in
    let archive = c.args.archive.now in
    let end = c.spots_end-end.result in
    let copied = c.in_ok-copy_contents.ensures in
    let checked = c.check_contents.ensures in
    let before = g.C.Contents.tells c.args.contents.now in
    let now = g.C.Contents.tells c.copy_contents.new.contents in
    let exact = exact_end (used_of archive) end (named_ends c.args.changes.now) c.spots_end-end.ensures copied.fits c.requires.small in
    let keeps : KeepsUsed says archive c.check_contents.new.archive = keeps_read says archive c.copy_contents.new.archive c.check_contents.new.archive c.copy_contents.ensures.keeps checked.reads checked.used in
    let same = keeps.used in
    let used : used_of c.keep.new.self ≡ max (used_of archive) end = omega (arith, c.keep.ensures.used, same) in
    let small : used_of c.keep.new.self < 2 ^ 63 = omega (arith, used, exact.1, c.requires.small) in
    filled_to says before now archive c.check_contents.new.archive keeps c.keep.new.self end c.keep.ensures.disk used small (copied_read says before now archive c.copy_contents.new.archive c.check_contents.new.archive end copied.copied checked.reads)

pub returns-clause-brought : goal.returns-clause-brought
returns-clause-brought g c =
    let changes = c.args.changes.now in
    let copied = c.in_ok-copy_contents.ensures in
    let exact = exact_end (used_of c.args.archive.now) c.spots_end-end.result (named_ends changes) c.spots_end-end.ensures copied.fits c.requires.small in
    record {
      within = omega (arith, exact.0, c.keep.ensures.used);
      named = λ files sees.
          let seen = subst (λ (disk : g.row.D.Denot). g.D.Disk.says.seen disk files) c.keep.ensures.disk sees in
          let read = c.check_contents.ensures.reads.same.no_more files seen in
          let reach = copied.copied.reach files (g.met.D.Disk.reads_an_image (disk_of c.copy_contents.new.archive) files read) in
          c.in_ok-check_contents.ensures.good files read (omega (arith, exact.0, reach));
    }

pub returns-clause-contents_reached : goal.returns-clause-contents_reached
returns-clause-contents_reached g c = c.copy_contents.ensures.contents_reached
