use Rattle.std.proofs.Common.{[], ◌<◌, get_or, refl, ◌≡◌, ◌-◌, ◌≤◌, ◌∙◌, ◌++◌, length, take, drop, min, ap, subst, arith, length-take}
use Rattle.disk_journal.specs.Text.{blocks}
use Rattle.outside_api.specs.declared.link.Fetched.TheVariants.{Bytes, End}
use Rattle.disk_journal.proofs.Fetched.{text_read}
use Rattle.disk_journal.proofs.Keeping.{older_read}
use Rattle.disk_journal.proofs.Linked.{answers_older, answers_newest, answers_later}
use Rattle.disk_journal.proofs.Standing.{image_text}
use Rattle.disk_journal.proofs.journal.Journal.fetch_on.Goals as goal

pub returns-clause-text : goal.returns-clause-text
returns-clause-text g c = λ was doubt files stands read same.
    let text = image_text was doubt files (stands.each files (g.met.D.Disk.reads_an_image c.args.self.now.disk files read)) in
    let file : files c.journal_file-file.result ≡ blocks was.groups ++ text.0 = ap files (omega (arith, c.journal_file-file.ensures, same)) ∙ text.1 in
    let room = c.room_for-room.result in
    let slice : length (take room c.args.buffer.now) ≡ room = omega (arith, length-take room c.args.buffer.now, c.room_for-room.ensures) in
    let part : length c.fill.new.buffer ≡ room = c.fill.auto.buffer ∙ slice in
    let fits : c.in_ok-count.count ≤ room = subst (λ n. c.in_ok-count.count ≤ n) slice c.in_ok-count.ensures.fits in
    let bytes : take c.in_ok-count.count c.fill.new.buffer ≡ take room (drop c.args.at (files c.journal_file-file.result)) = c.in_ok-count.ensures.bytes files read ∙ ap (λ n. take n (drop c.args.at (files c.journal_file-file.result))) slice in
    text_read (blocks was.groups) text.0 (files c.journal_file-file.result) c.fill.new.buffer _ c.args.at (length c.args.buffer.now) room c.in_ok-count.count file
    (omega (arith, c.if-at-self.false, stands.length)) c.requires.room (c.room_for-room.ensures ∙ ap (λ n. min (length c.args.buffer.now) (n - c.args.at)) stands.length) part fits bytes

pub returns-then-generation-self-2-clause-older : goal.returns-then-generation-self-2-clause-older
returns-then-generation-self-2-clause-older g c = λ groups files has below read is.
    c.in_ok-fetched.ensures.text groups files (c.fetch_closed.ensures.scanned has) (c.fetch_closed.ensures.same.kept files read) is

pub returns-then-generation-self-2-clause-as_link : goal.returns-then-generation-self-2-clause-as_link
returns-then-generation-self-2-clause-as_link g c = λ was doubt before files stands read count are has.
    let lt : c.args.generation < length before = omega (arith, c.if-generation-self-2.true, stands.generation, count) in
    let groups = get_or before c.args.generation [] in
    answers_older before was c.args.generation c.args.at (length c.args.buffer.now) c.in_ok-fetched.fetched c.fetch_closed.new.buffer lt
    (c.in_ok-fetched.ensures.text groups files (c.fetch_closed.ensures.scanned has) (c.fetch_closed.ensures.same.kept files read) (are c.args.generation lt))

pub returns-clause-as_link : goal.returns-clause-as_link
returns-clause-as_link g c = λ was doubt before files stands read count are has.
    let same : c.args.generation ≡ was.generation = omega (arith, c.if-generation-self.false, c.if-generation-self-2.false, stands.generation) in
    answers_newest before was c.args.generation c.args.at (length c.args.buffer.now) (Bytes c.in_ok-count.count) _ (omega (arith, same, count)) (returns-clause-text g c was doubt files stands read same)

pub returns-then-generation-self-clause-text : goal.returns-then-generation-self-clause-text
returns-then-generation-self-clause-text g c = λ was doubt files stands read same.
    absurd (omega (arith, c.if-generation-self.true, stands.generation, same))

pub returns-then-generation-self-clause-older : goal.returns-then-generation-self-clause-older
returns-then-generation-self-clause-older g c = λ groups files has below read is. absurd (omega (arith, c.if-generation-self.true, below))

pub returns-then-generation-self-clause-as_link : goal.returns-then-generation-self-clause-as_link
returns-then-generation-self-clause-as_link g c = λ was doubt before files stands read count are has.
    answers_later before was c.args.generation c.args.at c.args.buffer.now (omega (arith, c.if-generation-self.true, stands.generation, count))

pub returns-then-generation-self-2-clause-text : goal.returns-then-generation-self-2-clause-text
returns-then-generation-self-2-clause-text g c = λ was doubt files stands read same.
    absurd (omega (arith, c.if-generation-self-2.true, stands.generation, same))

pub returns-then-at-self-clause-text : goal.returns-then-at-self-clause-text
returns-then-at-self-clause-text g c = λ was doubt files stands read same. (omega (arith, c.if-at-self.true, stands.length), refl)

pub returns-then-at-self-clause-older : goal.returns-then-at-self-clause-older
returns-then-at-self-clause-older g c = λ groups files has below read is. absurd (omega (arith, c.if-generation-self-2.false, below))

pub returns-then-at-self-clause-as_link : goal.returns-then-at-self-clause-as_link
returns-then-at-self-clause-as_link g c = λ was doubt before files stands read count are has.
    let same : c.args.generation ≡ was.generation = omega (arith, c.if-generation-self.false, c.if-generation-self-2.false, stands.generation) in
    answers_newest before was c.args.generation c.args.at (length c.args.buffer.now) End c.args.buffer.now (omega (arith, same, count)) (omega (arith, c.if-at-self.true, stands.length), refl)

pub returns-clause-older : goal.returns-clause-older
returns-clause-older g c = λ groups files has below read is. absurd (omega (arith, c.if-generation-self-2.false, below))

pub returns-then-generation-self-2-clause-keeps : goal.returns-then-generation-self-2-clause-keeps
returns-then-generation-self-2-clause-keeps g c = λ older keeps. older_read g.D.Disk.says c.args.self.now _ older keeps refl c.fetch_closed.ensures.same c.fetch_closed.ensures.crash

pub returns-in_err-fetched-clause-keeps : goal.returns-in_err-fetched-clause-keeps
returns-in_err-fetched-clause-keeps g c = λ older keeps. older_read g.D.Disk.says c.args.self.now _ older keeps refl c.fetch_closed.ensures.same c.fetch_closed.ensures.crash

pub returns-clause-keeps : goal.returns-clause-keeps
returns-clause-keeps g c = λ older keeps. older_read g.D.Disk.says c.args.self.now _ older keeps refl c.fill.ensures.same c.fill.ensures.crash

pub returns-in_err-count-clause-keeps : goal.returns-in_err-count-clause-keeps
returns-in_err-count-clause-keeps g c = λ older keeps. older_read g.D.Disk.says c.args.self.now _ older keeps refl c.fill.ensures.same c.fill.ensures.crash

pub returns-then-generation-self-clause-as_link_after : goal.returns-then-generation-self-clause-as_link_after
returns-then-generation-self-clause-as_link_after g c = λ was doubt before files stands read count are has.
    answers_later before was c.args.generation c.args.at c.args.buffer.now (omega (arith, c.if-generation-self.true, stands.generation, count))

pub returns-then-generation-self-2-clause-as_link_after : goal.returns-then-generation-self-2-clause-as_link_after
returns-then-generation-self-2-clause-as_link_after g c = λ was doubt before files stands read count are has.
    let lt : c.args.generation < length before = omega (arith, c.if-generation-self-2.true, stands.generation, count) in
    let groups = get_or before c.args.generation [] in
    answers_older before was c.args.generation c.args.at (length c.args.buffer.now) c.in_ok-fetched.fetched c.fetch_closed.new.buffer lt
    (c.in_ok-fetched.ensures.text groups files has read (are c.args.generation lt))

pub returns-then-at-self-clause-as_link_after : goal.returns-then-at-self-clause-as_link_after
returns-then-at-self-clause-as_link_after g c = λ was doubt before files stands read count are has.
    let same : c.args.generation ≡ was.generation = omega (arith, c.if-generation-self.false, c.if-generation-self-2.false, stands.generation) in
    answers_newest before was c.args.generation c.args.at (length c.args.buffer.now) End c.args.buffer.now (omega (arith, same, count)) (omega (arith, c.if-at-self.true, stands.length), refl)

pub returns-clause-as_link_after : goal.returns-clause-as_link_after
returns-clause-as_link_after g c = λ was doubt before files stands read count are has.
    let same : c.args.generation ≡ was.generation = omega (arith, c.if-generation-self.false, c.if-generation-self-2.false, stands.generation) in
    let text = image_text was doubt files (stands.each files (g.met.D.Disk.reads_an_image c.fill.new.disk files read)) in
    let file : files c.journal_file-file.result ≡ blocks was.groups ++ text.0 = ap files (omega (arith, c.journal_file-file.ensures, same)) ∙ text.1 in
    let room = c.room_for-room.result in
    let slice : length (take room c.args.buffer.now) ≡ room = omega (arith, length-take room c.args.buffer.now, c.room_for-room.ensures) in
    let part : length c.fill.new.buffer ≡ room = c.fill.auto.buffer ∙ slice in
    let fits : c.in_ok-count.count ≤ room = subst (λ n. c.in_ok-count.count ≤ n) slice c.in_ok-count.ensures.fits in
    let bytes : take c.in_ok-count.count c.fill.new.buffer ≡ take room (drop c.args.at (files c.journal_file-file.result)) = c.in_ok-count.ensures.bytes files (c.fill.ensures.same.no_more files read) ∙ ap (λ n. take n (drop c.args.at (files c.journal_file-file.result))) slice in
    answers_newest before was c.args.generation c.args.at (length c.args.buffer.now) (Bytes c.in_ok-count.count) _ (omega (arith, same, count))
    (text_read (blocks was.groups) text.0 (files c.journal_file-file.result) c.fill.new.buffer _ c.args.at (length c.args.buffer.now) room c.in_ok-count.count file
    (omega (arith, c.if-at-self.false, stands.length)) c.requires.room (c.room_for-room.ensures ∙ ap (λ n. min (length c.args.buffer.now) (n - c.args.at)) stands.length) part fits bytes)

pub returns-clause-scanned : goal.returns-clause-scanned
returns-clause-scanned g c = λ has files read. has files (c.fill.ensures.same.no_more files read)

pub returns-in_err-count-clause-scanned : goal.returns-in_err-count-clause-scanned
returns-in_err-count-clause-scanned g c = λ has files read. has files (c.fill.ensures.same.no_more files read)
