use Rattle.std.proofs.Common.{◌≡◌, ◌+◌, ◌*◌, ◌^◌, ◌<◌, ◌≤◌, ◌++◌, length, take, drop, refl, sym, ap, subst, ◌∙◌, arith, length-take, append_assoc}
use Rattle.disk_journal.specs.Older.{IsClosed}
use Rattle.disk_journal.specs.Text.{mark, blocks}
use Rattle.disk_journal.proofs.Fetched.{text_read, at_end, same_room, before_end}
use Rattle.disk_journal.proofs.Scanning.{scanned_on, text_within}
use Rattle.disk_journal.proofs.fetch.fetch_closed.Goals as goal

pub returns-in_err-place-clause-scanned : goal.returns-in_err-place-clause-scanned
returns-in_err-place-clause-scanned g c = λ has files read. has files (c.committed_length.ensures.same.no_more files read)

pub returns-in_err-length-clause-scanned : goal.returns-in_err-length-clause-scanned
returns-in_err-length-clause-scanned g c =
    scanned_on g.D.Disk.says c.args.disk.now c.committed_length-2.new.disk c.args.scanned.now c.args.generation c.journal_file-file.result c.place_in.result c.in_ok-place.place c.journal_file-file.ensures
    (λ files read. c.committed_length.ensures.same.no_more files (c.committed_length-2.ensures.same.no_more files read)) c.place_in.ensures.reached c.in_ok-place.ensures.reached

pub returns-then-at-length-clause-scanned : goal.returns-then-at-length-clause-scanned
returns-then-at-length-clause-scanned g c =
    scanned_on g.D.Disk.says c.args.disk.now c.committed_length-2.new.disk c.args.scanned.now c.args.generation c.journal_file-file.result c.place_in.result c.in_ok-place.place c.journal_file-file.ensures
    (λ files read. c.committed_length.ensures.same.no_more files (c.committed_length-2.ensures.same.no_more files read)) c.place_in.ensures.reached c.in_ok-place.ensures.reached

pub returns-in_err-count-clause-scanned : goal.returns-in_err-count-clause-scanned
returns-in_err-count-clause-scanned g c =
    scanned_on g.D.Disk.says c.args.disk.now c.fill.new.disk c.args.scanned.now c.args.generation c.journal_file-file.result c.place_in.result c.in_ok-place.place c.journal_file-file.ensures
    (λ files read. c.committed_length.ensures.same.no_more files (c.committed_length-2.ensures.same.no_more files (c.fill.ensures.same.no_more files read))) c.place_in.ensures.reached c.in_ok-place.ensures.reached

pub returns-clause-scanned : goal.returns-clause-scanned
returns-clause-scanned g c =
    scanned_on g.D.Disk.says c.args.disk.now c.fill.new.disk c.args.scanned.now c.args.generation c.journal_file-file.result c.place_in.result c.in_ok-place.place c.journal_file-file.ensures
    (λ files read. c.committed_length.ensures.same.no_more files (c.committed_length-2.ensures.same.no_more files (c.fill.ensures.same.no_more files read))) c.place_in.ensures.reached c.in_ok-place.ensures.reached

pub returns-then-at-length-clause-text : goal.returns-then-at-length-clause-text
returns-then-at-length-clause-text g c = λ groups files has read is.
    let read_between = c.committed_length-2.ensures.same.no_more files read in
    let small : length (blocks groups) < 2 ^ 63 = omega (arith, text_within groups (files (1 + 2 * c.args.generation)) is, g.met.D.Disk.within c.committed_length.new.disk files (1 + 2 * c.args.generation) read_between) in
    let reaches = c.in_ok-length.ensures.text groups files read_between (subst (λ f. IsClosed groups (files f)) (sym c.journal_file-file.ensures) is) (has files read groups is) in
    (at_end groups c.saturating_add.result c.in_ok-length.length c.args.at (length c.args.buffer.now) reaches small (omega (arith, c.saturating_add.ensures)) c.requires.room c.if-at-length.true, refl)

pub returns-clause-text : goal.returns-clause-text
returns-clause-text g c = λ groups files has read is.
    let read_then = c.fill.ensures.same.no_more files read in
    let read_between = c.committed_length-2.ensures.same.no_more files read_then in
    let here = subst (λ f. IsClosed groups (files f)) (sym c.journal_file-file.ensures) is in
    let small : length (blocks groups) < 2 ^ 63 = omega (arith, text_within groups (files c.journal_file-file.result) here, g.met.D.Disk.within c.committed_length.new.disk files c.journal_file-file.result read_between) in
    let reaches = c.in_ok-length.ensures.text groups files read_between here (has files read groups is) in
    let file : files c.journal_file-file.result ≡ blocks groups ++ (mark here.byte ++ here.behind) = here.is ∙ append_assoc (blocks groups) (mark here.byte) here.behind in
    let room = c.room_for-room.result in
    let slice : length (take room c.args.buffer.now) ≡ room = omega (arith, length-take room c.args.buffer.now, c.room_for-room.ensures) in
    let part : length c.fill.new.buffer ≡ room = c.fill.auto.buffer ∙ slice in
    let fits : c.in_ok-count.count ≤ room = subst (λ n. c.in_ok-count.count ≤ n) slice c.in_ok-count.ensures.fits in
    let bytes : take c.in_ok-count.count c.fill.new.buffer ≡ take room (drop c.args.at (files c.journal_file-file.result)) = c.in_ok-count.ensures.bytes files read_then ∙ ap (λ n. take n (drop c.args.at (files c.journal_file-file.result))) slice in
    text_read (blocks groups) (mark here.byte ++ here.behind) (files c.journal_file-file.result) c.fill.new.buffer _ c.args.at (length c.args.buffer.now) room c.in_ok-count.count file
    (before_end groups c.saturating_add.result c.in_ok-length.length c.args.at reaches c.if-at-length.false) c.requires.room
    (c.room_for-room.ensures ∙ same_room groups c.saturating_add.result c.in_ok-length.length c.args.at (length c.args.buffer.now) reaches small (omega (arith, c.saturating_add.ensures)) c.if-at-length.false) part fits bytes
