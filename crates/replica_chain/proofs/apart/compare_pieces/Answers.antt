use Rattle.std.proofs.Common.{◌≡◌, ◌≤◌, ◌<◌, ⊎_elim, ℕ, List, arith, min, subst, length-take}
use Rattle.outside_api.specs.Link.{Answers}
use Rattle.outside_api.specs.declared.link.Fetched.{Fetched}
use Rattle.outside_api.specs.declared.link.Fetched.TheVariants.{Bytes, End, Next}
use Rattle.replica_chain.proofs.Parting.{closed_alike, open_alike, parted, same_on}
use Rattle.replica_chain.proofs.apart.compare_pieces.Goals as goal

-- what was fetched is this
known : (journal : List (List ℕ)) (generation at : ℕ) (buffer : List ℕ) (fetched is : Fetched) → fetched ≡ is → Answers journal generation at fetched buffer → Answers journal generation at is buffer
known journal generation at buffer fetched is same = subst (λ (f : Fetched). Answers journal generation at f buffer) same

pub returns-in-End-default-clause-compared : goal.returns-in-End-default-clause-compared
returns-in-End-default-clause-compared c = λ texts others generation so_far goes more.
    open_alike texts others generation c.args.at so_far c.args.node_bytes.now (known texts generation c.args.at c.args.node_bytes.now c.args.node End c.in-End-default.is-0 goes)

pub returns-in-Next-Next-clause-compared : goal.returns-in-Next-Next-clause-compared
returns-in-Next-Next-clause-compared c = λ texts others generation so_far goes more.
    closed_alike texts others generation c.args.at so_far c.args.node_bytes.now c.args.up_bytes.now
    (known texts generation c.args.at c.args.node_bytes.now c.args.node Next c.in-Next-Next.is-0 goes)
    (known others generation c.args.at c.args.up_bytes.now c.args.up Next c.in-Next-Next.is-1 more)

pub returns-then-same-least-clause-compared : goal.returns-then-same-least-clause-compared
returns-then-same-least-clause-compared c = λ texts others generation so_far goes more.
    let count = c.in-Bytes-Bytes.count in
    let most = c.in-Bytes-Bytes.most in
    let least = c.min-least.result in
    let same = c.common-same.result in
    let first = known texts generation c.args.at c.args.node_bytes.now c.args.node (Bytes count) c.in-Bytes-Bytes.is-0 goes in
    let second = known others generation c.args.at c.args.up_bytes.now c.args.up (Bytes most) c.in-Bytes-Bytes.is-1 more in
    let least_is : least ≡ min count most = c.min-least.ensures in
    let fewer : same < least = ⊎_elim (λ (none : same ≡ 0). omega (arith, none, least_is, first.0, second.0)) (λ (other : (same ≡ 0 → ⊥) × (same < least)). other.1) c.if-same-least.either in
    parted texts others generation c.args.at so_far c.args.node_bytes.now c.args.up_bytes.now count most least same first second
    (omega (arith, least_is)) (omega (arith, least_is)) c.common-same.ensures (omega (arith, fewer)) fewer

pub returns-else-same-least-clause-compared : goal.returns-else-same-least-clause-compared
returns-else-same-least-clause-compared c = λ texts others generation so_far goes more.
    let count = c.in-Bytes-Bytes.count in
    let most = c.in-Bytes-Bytes.most in
    let least = c.min-least.result in
    let same = c.common-same.result in
    let first = known texts generation c.args.at c.args.node_bytes.now c.args.node (Bytes count) c.in-Bytes-Bytes.is-0 goes in
    let second = known others generation c.args.at c.args.up_bytes.now c.args.up (Bytes most) c.in-Bytes-Bytes.is-1 more in
    let least_is : least ≡ min count most = c.min-least.ensures in
    let common = c.common-same.ensures in
    let within : same ≤ least = omega (arith, common.within_one, length-take least c.args.node_bytes.now) in
    same_on texts others generation c.args.at so_far c.args.node_bytes.now c.args.up_bytes.now count most least same first second
    (omega (arith, least_is)) (omega (arith, least_is)) common within
