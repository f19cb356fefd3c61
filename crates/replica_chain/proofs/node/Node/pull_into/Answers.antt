use Rattle.std.proofs.Common.{◌≡◌, ◌⊎◌, inr, ℕ, ◌+◌, ◌≤◌, length, length-take, refl, sym, subst, ap, arith}
use Rattle.outside_api.specs.Link.{Fits}
use Rattle.outside_api.specs.declared.link.Fetched.{Fetched}
use Rattle.outside_api.specs.declared.link.Fetched.TheVariants as fetches
use Rattle.replica_chain.specs.Pulling.{HasStopped, IsFetched, IsUnread}
use Rattle.replica_chain.proofs.Closing.{begun_earlier}
use Rattle.replica_chain.proofs.Followed.{behind_later, fetched_stands, goes_later, is_fetched, told_as, told_now, unmoved_goes}
use Rattle.replica_chain.proofs.Growing.{earlier_self}
use Rattle.replica_chain.proofs.PassedOn.{passed_fault}
use Rattle.outside_api.specs.Reaching.{once, stays}
use Rattle.replica_chain.proofs.Kept.{keeps_first, keeps_same}
use Rattle.replica_chain.proofs.node.Node.pull_into.Goals as goal

pub overflow_add-awaited : goal.overflow_add-awaited
overflow_add-awaited g c = let short = c.requires.can.short in omega (arith, short, c.len.ensures)

pub returns-in_err-fetched-clause-node : goal.returns-in_err-fetched-clause-node
returns-in_err-fetched-clause-node g c = λ chronicle n. record { now = chronicle; no_fewer = earlier_self chronicle; is_node = n }

pub returns-in_err-fetched-clause-behind : goal.returns-in_err-fetched-clause-behind
returns-in_err-fetched-clause-behind g c = λ chronicle up told bytes groups b.
    let node = c.args.self.now in
    let more = c.fetch.ensures.grows up.texts told in
    unmoved_goes g.D.Disk.says g.met.D.Disk.only_now node chronicle up (g.L.Link.says.tells c.fetch.new.self) (g.C.Contents.tells c.args.contents.now) bytes b more.0 more.1 more.2

pub returns-in-End-clause-node : goal.returns-in-End-clause-node
returns-in-End-clause-node g c = λ chronicle n. record { now = chronicle; no_fewer = earlier_self chronicle; is_node = n }

pub returns-in-End-clause-followed : goal.returns-in-End-clause-followed
returns-in-End-clause-followed g c =
    let node = c.args.self.now in
    let f = c.in_ok-fetched.fetched in
    let buffer = c.fetch.new.buffer in
    let fetched = is_fetched g.L.Link.says c.fetch.new.self node f buffer (length c.args.buffer.now) c.generation-generation.result (node.at + c.len.result) c.in_ok-fetched.ensures.fits c.requires.most c.generation-generation.ensures
    (ap (λ (n : ℕ). node.at + n) c.len.ensures) c.in_ok-fetched.ensures.answer in
    record {
      fetched = fetches.End;
      buffer = buffer;
      is_fetched = subst (λ (x : Fetched). IsFetched g.L.Link.says c.fetch.new.self node x buffer) c.in-End.is fetched;
      has_moved = (record { generation = refl; rows = refl; before = refl; at = refl; number = refl; changes = refl }, refl);
    }

pub returns-in-End-clause-behind : goal.returns-in-End-clause-behind
returns-in-End-clause-behind g c = λ chronicle up told bytes groups b.
    let node = c.args.self.now in
    let more = c.fetch.ensures.grows up.texts told in
    unmoved_goes g.D.Disk.says g.met.D.Disk.only_now node chronicle up (g.L.Link.says.tells c.fetch.new.self) (g.C.Contents.tells c.args.contents.now) bytes b more.0 more.1 more.2

-- ---- the next generation

pub returns-in_err-pass-in-Next-clause-stopped : goal.returns-in_err-pass-in-Next-clause-stopped
returns-in_err-pass-in-Next-clause-stopped g c =
    let says = g.D.Disk.says in
    let node = c.args.self.now in
    let new = c.pass.new.self in
    let link = c.fetch.new.self in
    let told = g.C.Contents.tells c.args.contents.now in
    let buffer = c.fetch.new.buffer in
    let fault = c.in_err-pass-in-Next.field-0.0 in
    let fetched = is_fetched g.L.Link.says link node c.in_ok-fetched.fetched buffer (length c.args.buffer.now) c.generation-generation.result (node.at + c.len.result) c.in_ok-fetched.ensures.fits c.requires.most c.generation-generation.ensures
    (ap (λ (n : ℕ). node.at + n) c.len.ensures) c.in_ok-fetched.ensures.answer in
    passed_fault (λ fault. IsUnread node new fault ⊎ HasStopped says g.L.Link.says told link node new fault) _ fault c.from_residual-in_err-pass-in-Next.ensures.1
    (inr (record {
      fetched = fetches.Next;
      buffer = buffer;
      is_fetched = subst (λ (x : Fetched). IsFetched g.L.Link.says link node x buffer) c.in-Next.is fetched;
      is_stopped = c.in_err-pass-in-Next.ensures.stopped;
    }))

pub returns-in_ok-pass-in-Next-clause-followed : goal.returns-in_ok-pass-in-Next-clause-followed
returns-in_ok-pass-in-Next-clause-followed g c =
    let node = c.args.self.now in
    let link = c.fetch.new.self in
    let buffer = c.fetch.new.buffer in
    let fetched = is_fetched g.L.Link.says link node c.in_ok-fetched.fetched buffer (length c.args.buffer.now) c.generation-generation.result (node.at + c.len.result) c.in_ok-fetched.ensures.fits c.requires.most c.generation-generation.ensures
    (ap (λ (n : ℕ). node.at + n) c.len.ensures) c.in_ok-fetched.ensures.answer in
    record {
      fetched = fetches.Next;
      buffer = buffer;
      is_fetched = subst (λ (x : Fetched). IsFetched g.L.Link.says link node x buffer) c.in-Next.is fetched;
      has_moved = c.in_ok-pass-in-Next.ensures.passed;
    }

pub returns-in_err-pass-in-Next-clause-behind : goal.returns-in_err-pass-in-Next-clause-behind
returns-in_err-pass-in-Next-clause-behind g c = λ chronicle up told bytes_told groups b.
    let says = g.D.Disk.says in
    let node = c.args.self.now in
    let link = c.fetch.new.self in
    let T = g.L.Link.says.tells link in
    let B = g.C.Contents.tells c.args.contents.now in
    let more = c.fetch.ensures.grows up.texts told in
    let later = told_now says chronicle up more.0 more.2 in
    let at_later = behind_later says chronicle up more.0 more.2 node b in
    let fetched = is_fetched g.L.Link.says link node c.in_ok-fetched.fetched c.fetch.new.buffer (length c.args.buffer.now) c.generation-generation.result (node.at + c.len.result) c.in_ok-fetched.ensures.fits c.requires.most
    c.generation-generation.ensures (ap (λ (n : ℕ). node.at + n) c.len.ensures) c.in_ok-fetched.ensures.answer in
    let next = subst (λ (x : Fetched). IsFetched g.L.Link.says link node x c.fetch.new.buffer) c.in-Next.is fetched in
    let answer = next.answers more.0 more.1 in
    let of = groups more.0 more.1 in
    goes_later says chronicle up more.0 more.2 node c.pass.new.self T B more.1
    (told_as says node c.pass.new.self chronicle later (λ texts. texts ≡ more.0) (λ texts. texts ≡ more.0) (λ bytes. bytes ≡ up.bytes) B (λ texts is. is) (λ bytes is. subst B (sym is) bytes_told)
    (c.pass.ensures.behind chronicle later at_later (begun_earlier says node chronicle later at_later answer.0 answer.1.0 c.fetch.new.buffer answer.1.1 of.0 of.1)))

pub returns-in_ok-pass-in-Next-clause-behind : goal.returns-in_ok-pass-in-Next-clause-behind
returns-in_ok-pass-in-Next-clause-behind g c = λ chronicle up told bytes_told groups b.
    let says = g.D.Disk.says in
    let node = c.args.self.now in
    let link = c.fetch.new.self in
    let T = g.L.Link.says.tells link in
    let B = g.C.Contents.tells c.args.contents.now in
    let more = c.fetch.ensures.grows up.texts told in
    let later = told_now says chronicle up more.0 more.2 in
    let at_later = behind_later says chronicle up more.0 more.2 node b in
    let fetched = is_fetched g.L.Link.says link node c.in_ok-fetched.fetched c.fetch.new.buffer (length c.args.buffer.now) c.generation-generation.result (node.at + c.len.result) c.in_ok-fetched.ensures.fits c.requires.most
    c.generation-generation.ensures (ap (λ (n : ℕ). node.at + n) c.len.ensures) c.in_ok-fetched.ensures.answer in
    let next = subst (λ (x : Fetched). IsFetched g.L.Link.says link node x c.fetch.new.buffer) c.in-Next.is fetched in
    let answer = next.answers more.0 more.1 in
    let of = groups more.0 more.1 in
    goes_later says chronicle up more.0 more.2 node c.pass.new.self T B more.1
    (told_as says node c.pass.new.self chronicle later (λ texts. texts ≡ more.0) (λ texts. texts ≡ more.0) (λ bytes. bytes ≡ up.bytes) B (λ texts is. is) (λ bytes is. subst B (sym is) bytes_told)
    (c.pass.ensures.behind chronicle later at_later (begun_earlier says node chronicle later at_later answer.0 answer.1.0 c.fetch.new.buffer answer.1.1 of.0 of.1)))

-- ---- a piece

pub take_piece-requires-clause-most : goal.take_piece-requires-clause-most
take_piece-requires-clause-most g c = let fits : c.in-Bytes.count ≤ length c.args.buffer.now = subst (λ (x : Fetched). Fits x (length c.args.buffer.now)) c.in-Bytes.is c.in_ok-fetched.ensures.fits in omega (arith, fits, c.requires.most, length-take c.in-Bytes.count c.fetch.new.buffer)

pub returns-in_err-changes-in-Bytes-clause-stopped : goal.returns-in_err-changes-in-Bytes-clause-stopped
returns-in_err-changes-in-Bytes-clause-stopped g c =
    let says = g.D.Disk.says in
    let node = c.args.self.now in
    let new = c.take_piece.new.self in
    let link = c.fetch.new.self in
    let told = g.C.Contents.tells c.take_piece.new.contents in
    let buffer = c.fetch.new.buffer in
    let fault = c.in_err-changes-in-Bytes.field-0.0 in
    let fetched = is_fetched g.L.Link.says link node c.in_ok-fetched.fetched buffer (length c.args.buffer.now) c.generation-generation.result (node.at + c.len.result) c.in_ok-fetched.ensures.fits c.requires.most c.generation-generation.ensures
    (ap (λ (n : ℕ). node.at + n) c.len.ensures) c.in_ok-fetched.ensures.answer in
    passed_fault (λ fault. IsUnread node new fault ⊎ HasStopped says g.L.Link.says told link node new fault) _ fault c.from_residual-in_err-changes-in-Bytes.ensures.1
    (inr (record {
      fetched = fetches.Bytes c.in-Bytes.count;
      buffer = buffer;
      is_fetched = subst (λ (x : Fetched). IsFetched g.L.Link.says link node x buffer) c.in-Bytes.is fetched;
      is_stopped = c.in_err-changes-in-Bytes.ensures.untaken;
    }))

pub returns-in_ok-changes-in-Bytes-clause-followed : goal.returns-in_ok-changes-in-Bytes-clause-followed
returns-in_ok-changes-in-Bytes-clause-followed g c =
    let node = c.args.self.now in
    let link = c.fetch.new.self in
    let buffer = c.fetch.new.buffer in
    let fetched = is_fetched g.L.Link.says link node c.in_ok-fetched.fetched buffer (length c.args.buffer.now) c.generation-generation.result (node.at + c.len.result) c.in_ok-fetched.ensures.fits c.requires.most c.generation-generation.ensures
    (ap (λ (n : ℕ). node.at + n) c.len.ensures) c.in_ok-fetched.ensures.answer in
    record {
      fetched = fetches.Bytes c.in-Bytes.count;
      buffer = buffer;
      is_fetched = subst (λ (x : Fetched). IsFetched g.L.Link.says link node x buffer) c.in-Bytes.is fetched;
      has_moved = (refl, c.in_ok-changes-in-Bytes.ensures.taken);
    }

pub returns-in_err-changes-in-Bytes-clause-behind : goal.returns-in_err-changes-in-Bytes-clause-behind
returns-in_err-changes-in-Bytes-clause-behind g c = λ chronicle up told bytes_told groups b.
    let says = g.D.Disk.says in
    let node = c.args.self.now in
    let link = c.fetch.new.self in
    let buffer = c.fetch.new.buffer in
    let more = c.fetch.ensures.grows up.texts told in
    let later = told_now says chronicle up more.0 more.2 in
    let at_later = behind_later says chronicle up more.0 more.2 node b in
    let fetched = is_fetched g.L.Link.says link node c.in_ok-fetched.fetched buffer (length c.args.buffer.now) c.generation-generation.result (node.at + c.len.result) c.in_ok-fetched.ensures.fits c.requires.most c.generation-generation.ensures
    (ap (λ (n : ℕ). node.at + n) c.len.ensures) c.in_ok-fetched.ensures.answer in
    let some = subst (λ (x : Fetched). IsFetched g.L.Link.says link node x buffer) c.in-Bytes.is fetched in
    goes_later says chronicle up more.0 more.2 node c.take_piece.new.self (g.L.Link.says.tells link) (g.C.Contents.tells c.take_piece.new.contents) more.1
    (c.take_piece.ensures.behind chronicle later bytes_told at_later (fetched_stands says node chronicle later at_later.is_node g.L.Link.says link c.in-Bytes.count buffer _ some refl more.1))

pub returns-in_ok-changes-in-Bytes-clause-behind : goal.returns-in_ok-changes-in-Bytes-clause-behind
returns-in_ok-changes-in-Bytes-clause-behind g c = λ chronicle up told bytes_told groups b.
    let says = g.D.Disk.says in
    let node = c.args.self.now in
    let link = c.fetch.new.self in
    let buffer = c.fetch.new.buffer in
    let more = c.fetch.ensures.grows up.texts told in
    let later = told_now says chronicle up more.0 more.2 in
    let at_later = behind_later says chronicle up more.0 more.2 node b in
    let fetched = is_fetched g.L.Link.says link node c.in_ok-fetched.fetched buffer (length c.args.buffer.now) c.generation-generation.result (node.at + c.len.result) c.in_ok-fetched.ensures.fits c.requires.most c.generation-generation.ensures
    (ap (λ (n : ℕ). node.at + n) c.len.ensures) c.in_ok-fetched.ensures.answer in
    let some = subst (λ (x : Fetched). IsFetched g.L.Link.says link node x buffer) c.in-Bytes.is fetched in
    goes_later says chronicle up more.0 more.2 node c.take_piece.new.self (g.L.Link.says.tells link) (g.C.Contents.tells c.take_piece.new.contents) more.1
    (c.take_piece.ensures.behind chronicle later bytes_told at_later (fetched_stands says node chronicle later at_later.is_node g.L.Link.says link c.in-Bytes.count buffer _ some refl more.1))

pub returns-in_err-fetched-clause-link_reached : goal.returns-in_err-fetched-clause-link_reached
returns-in_err-fetched-clause-link_reached g c = once c.fetch.ensures.keeps

pub returns-in-End-clause-link_reached : goal.returns-in-End-clause-link_reached
returns-in-End-clause-link_reached g c = once c.fetch.ensures.keeps

pub returns-in_err-pass-in-Next-clause-link_reached : goal.returns-in_err-pass-in-Next-clause-link_reached
returns-in_err-pass-in-Next-clause-link_reached g c = once c.fetch.ensures.keeps

pub returns-in_ok-pass-in-Next-clause-link_reached : goal.returns-in_ok-pass-in-Next-clause-link_reached
returns-in_ok-pass-in-Next-clause-link_reached g c = once c.fetch.ensures.keeps

pub returns-in_err-changes-in-Bytes-clause-link_reached : goal.returns-in_err-changes-in-Bytes-clause-link_reached
returns-in_err-changes-in-Bytes-clause-link_reached g c = once c.fetch.ensures.keeps

pub returns-in_ok-changes-in-Bytes-clause-link_reached : goal.returns-in_ok-changes-in-Bytes-clause-link_reached
returns-in_ok-changes-in-Bytes-clause-link_reached g c = once c.fetch.ensures.keeps

pub returns-in_err-fetched-clause-contents_reached : goal.returns-in_err-fetched-clause-contents_reached
returns-in_err-fetched-clause-contents_reached g c = stays

pub returns-in-End-clause-contents_reached : goal.returns-in-End-clause-contents_reached
returns-in-End-clause-contents_reached g c = stays

pub returns-in_err-pass-in-Next-clause-contents_reached : goal.returns-in_err-pass-in-Next-clause-contents_reached
returns-in_err-pass-in-Next-clause-contents_reached g c = stays

pub returns-in_ok-pass-in-Next-clause-contents_reached : goal.returns-in_ok-pass-in-Next-clause-contents_reached
returns-in_ok-pass-in-Next-clause-contents_reached g c = stays

pub returns-in_err-changes-in-Bytes-clause-contents_reached : goal.returns-in_err-changes-in-Bytes-clause-contents_reached
returns-in_err-changes-in-Bytes-clause-contents_reached g c = c.take_piece.ensures.contents_reached

pub returns-in_ok-changes-in-Bytes-clause-contents_reached : goal.returns-in_ok-changes-in-Bytes-clause-contents_reached
returns-in_ok-changes-in-Bytes-clause-contents_reached g c = c.take_piece.ensures.contents_reached

pub returns-in_err-fetched-clause-keeps : goal.returns-in_err-fetched-clause-keeps
returns-in_err-fetched-clause-keeps g c = keeps_first g.D.Disk.says g.met.D.Disk.only_now c.args.self.now.archive

pub returns-in-End-clause-keeps : goal.returns-in-End-clause-keeps
returns-in-End-clause-keeps g c = keeps_first g.D.Disk.says g.met.D.Disk.only_now c.args.self.now.archive

pub returns-in_err-pass-in-Next-clause-keeps : goal.returns-in_err-pass-in-Next-clause-keeps
returns-in_err-pass-in-Next-clause-keeps g c = keeps_same g.D.Disk.says g.met.D.Disk.only_now c.args.self.now.archive c.pass.new.self.archive c.pass.ensures.archive

pub returns-in_ok-pass-in-Next-clause-keeps : goal.returns-in_ok-pass-in-Next-clause-keeps
returns-in_ok-pass-in-Next-clause-keeps g c = keeps_same g.D.Disk.says g.met.D.Disk.only_now c.args.self.now.archive c.pass.new.self.archive c.pass.ensures.archive

pub returns-in_err-changes-in-Bytes-clause-keeps : goal.returns-in_err-changes-in-Bytes-clause-keeps
returns-in_err-changes-in-Bytes-clause-keeps g c = c.take_piece.ensures.keeps

pub returns-in_ok-changes-in-Bytes-clause-keeps : goal.returns-in_ok-changes-in-Bytes-clause-keeps
returns-in_ok-changes-in-Bytes-clause-keeps g c = c.take_piece.ensures.keeps
