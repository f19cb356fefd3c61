use Rattle.std.proofs.Common.{◌≡◌, ◌+◌, ◌<◌, ◌≤◌, ℕ, ap, arith, refl}
use Rattle.std.proofs.lemmas.Bool.Decides.{nat_tests}
use Rattle.depot_rows.specs.table_changes.Changed.{rows_of}
use Rattle.disk_journal.specs.Stands.{generation_of_journal}
use Rattle.replica_chain.proofs.Growing.{earlier_self}
use Rattle.replica_chain.proofs.Begun.{begun_can, begun_fewer, begun_goes, begun_passed, unpassed, unwritten_can, unwritten_fewer, unwritten_goes, unwritten_where}
use Rattle.replica_chain.proofs.Steps.{at_first}
use Rattle.replica_chain.proofs.node.Node.pass.Goals as goal

-- ---- nothing was written

pub returns-then-generation-ge-LAST-clause-stopped : goal.returns-then-generation-ge-LAST-clause-stopped
returns-then-generation-ge-LAST-clause-stopped g c =
    let n : ℕ = c.generation-generation.result in
    let test = c.if-generation-ge-LAST.true in
    let reached : 4095 ≤ n = grind (arith, nat_tests) in
    (record { generation = refl; rows = refl; before = refl; at = refl; number = refl; changes = refl }, omega (arith, reached, c.generation-generation.ensures, c.args.self.now.link.journal.end.last))

pub returns-then-generation-ge-LAST-clause-node : goal.returns-then-generation-ge-LAST-clause-node
returns-then-generation-ge-LAST-clause-node g c = λ chronicle n. record { now = chronicle; no_fewer = earlier_self chronicle; is_node = n }

pub returns-then-generation-ge-LAST-clause-behind : goal.returns-then-generation-ge-LAST-clause-behind
returns-then-generation-ge-LAST-clause-behind g c = λ chronicle up b next.
    let node = c.args.self.now in
    at_first g.D.Disk.says g.met.D.Disk.only_now node chronicle up (λ bytes. bytes ≡ up.bytes) refl b

pub returns-in_err-tables-clause-node : goal.returns-in_err-tables-clause-node
returns-in_err-tables-clause-node g c = λ chronicle n. record { now = chronicle; no_fewer = earlier_self chronicle; is_node = n }

pub returns-in_err-tables-clause-behind : goal.returns-in_err-tables-clause-behind
returns-in_err-tables-clause-behind g c = λ chronicle up b next.
    let node = c.args.self.now in
    at_first g.D.Disk.says g.met.D.Disk.only_now node chronicle up (λ bytes. bytes ≡ up.bytes) refl b

-- ---- it was begun

pub write_next-requires-clause-last : goal.write_next-requires-clause-last
write_next-requires-clause-last g c =
    let n : ℕ = c.generation-generation.result in
    let test = c.if-generation-ge-LAST.false in
    let less : n < 4095 = grind (arith, nat_tests) in
    omega (arith, less, c.generation-generation.ensures)

pub write_next-requires-clause-next : goal.write_next-requires-clause-next
write_next-requires-clause-next g c = ap (λ (n : ℕ). n + 1) c.generation-generation.ensures

pub write_next-requires-clause-rest : goal.write_next-requires-clause-rest
write_next-requires-clause-rest g c = c.requires.settled

pub returns-in-Ok-clause-can : goal.returns-in-Ok-clause-can
returns-in-Ok-clause-can g c =
    let n : ℕ = c.generation-generation.result in
    let test = c.if-generation-ge-LAST.false in
    let below : n < 4095 = grind (arith, nat_tests) in
    let less : generation_of_journal c.args.self.now.link.journal < 4095 = omega (arith, below, c.generation-generation.ensures) in
    let next_is : n + 1 ≡ generation_of_journal c.args.self.now.link.journal + 1 = ap (λ (k : ℕ). k + 1) c.generation-generation.ensures in
    begun_can g.D.Disk.says c.args.self.now c.requires.settled (record { journal = c.write_next.new.journal; scanned = c.nothing-self.result }) (rows_of c.in_ok-tables.tables) (n + 1) next_is less c.in_ok-tables.ensures.rows
    c.in_ok-tables.tables refl c.new.result c.new.ensures c.in-Ok.ensures.generation c.in-Ok.ensures.ok c.requires.can

pub returns-in-Ok-clause-passed : goal.returns-in-Ok-clause-passed
returns-in-Ok-clause-passed g c =
    let n : ℕ = c.generation-generation.result in
    let test = c.if-generation-ge-LAST.false in
    let below : n < 4095 = grind (arith, nat_tests) in
    let less : generation_of_journal c.args.self.now.link.journal < 4095 = omega (arith, below, c.generation-generation.ensures) in
    let next_is : n + 1 ≡ generation_of_journal c.args.self.now.link.journal + 1 = ap (λ (k : ℕ). k + 1) c.generation-generation.ensures in
    begun_passed g.D.Disk.says c.args.self.now c.requires.settled (record { journal = c.write_next.new.journal; scanned = c.nothing-self.result }) (rows_of c.in_ok-tables.tables) (n + 1) next_is less c.in_ok-tables.ensures.rows
    c.in_ok-tables.tables refl c.new.result c.new.ensures c.in-Ok.ensures.generation

pub returns-in-Ok-clause-node : goal.returns-in-Ok-clause-node
returns-in-Ok-clause-node g c = λ chronicle is_node.
    let n : ℕ = c.generation-generation.result in
    let test = c.if-generation-ge-LAST.false in
    let below : n < 4095 = grind (arith, nat_tests) in
    let less : generation_of_journal c.args.self.now.link.journal < 4095 = omega (arith, below, c.generation-generation.ensures) in
    let next_is : n + 1 ≡ generation_of_journal c.args.self.now.link.journal + 1 = ap (λ (k : ℕ). k + 1) c.generation-generation.ensures in
    begun_fewer g.D.Disk.says c.args.self.now c.requires.settled (record { journal = c.write_next.new.journal; scanned = c.nothing-self.result }) (rows_of c.in_ok-tables.tables) (n + 1) next_is less c.in_ok-tables.ensures.rows
    c.in_ok-tables.tables refl c.new.result c.new.ensures c.in-Ok.ensures.generation c.in-Ok.ensures.ok c.in-Ok.ensures.checkpoint c.in-Ok.ensures.closes (λ scanned files sees. c.nothing-self.ensures _) chronicle is_node

pub returns-in-Ok-clause-behind : goal.returns-in-Ok-clause-behind
returns-in-Ok-clause-behind g c = λ chronicle up b next.
    let n : ℕ = c.generation-generation.result in
    let test = c.if-generation-ge-LAST.false in
    let below : n < 4095 = grind (arith, nat_tests) in
    let less : generation_of_journal c.args.self.now.link.journal < 4095 = omega (arith, below, c.generation-generation.ensures) in
    let next_is : n + 1 ≡ generation_of_journal c.args.self.now.link.journal + 1 = ap (λ (k : ℕ). k + 1) c.generation-generation.ensures in
    begun_goes g.D.Disk.says c.args.self.now c.requires.settled (record { journal = c.write_next.new.journal; scanned = c.nothing-self.result }) (rows_of c.in_ok-tables.tables) (n + 1) next_is less c.in_ok-tables.ensures.rows
    c.in_ok-tables.tables refl c.new.result c.new.ensures c.in-Ok.ensures.generation c.in-Ok.ensures.ok c.in-Ok.ensures.checkpoint c.in-Ok.ensures.closes (λ scanned files sees. c.nothing-self.ensures _) c.write_next.ensures.any_moment chronicle up b next

-- ---- it wasn't, or is in doubt

pub returns-in-Err-clause-can : goal.returns-in-Err-clause-can
returns-in-Err-clause-can g c =
    let n : ℕ = c.generation-generation.result in
    let test = c.if-generation-ge-LAST.false in
    let below : n < 4095 = grind (arith, nat_tests) in
    let less : generation_of_journal c.args.self.now.link.journal < 4095 = omega (arith, below, c.generation-generation.ensures) in
    let next_is : n + 1 ≡ generation_of_journal c.args.self.now.link.journal + 1 = ap (λ (k : ℕ). k + 1) c.generation-generation.ensures in
    unwritten_can g.D.Disk.says c.args.self.now c.requires.settled (record { journal = c.write_next.new.journal; scanned = c.nothing-self.result }) (rows_of c.in_ok-tables.tables) (n + 1) next_is less c.in_ok-tables.ensures.rows (λ was stands. c.in-Err.ensures.err was stands refl) c.requires.can

pub returns-in-Err-clause-stopped : goal.returns-in-Err-clause-stopped
returns-in-Err-clause-stopped g c =
    let n : ℕ = c.generation-generation.result in
    let test = c.if-generation-ge-LAST.false in
    let below : n < 4095 = grind (arith, nat_tests) in
    let less : generation_of_journal c.args.self.now.link.journal < 4095 = omega (arith, below, c.generation-generation.ensures) in
    let next_is : n + 1 ≡ generation_of_journal c.args.self.now.link.journal + 1 = ap (λ (k : ℕ). k + 1) c.generation-generation.ensures in
    unpassed c.args.self.now _ c.in-Err.fault c.in-Err.ensures.only (unwritten_where g.D.Disk.says c.args.self.now c.requires.settled (record { journal = c.write_next.new.journal; scanned = c.nothing-self.result }) (rows_of c.in_ok-tables.tables) (n + 1) next_is less c.in_ok-tables.ensures.rows (λ was stands. c.in-Err.ensures.err was stands refl))

pub returns-in-Err-clause-node : goal.returns-in-Err-clause-node
returns-in-Err-clause-node g c = λ chronicle is_node.
    let n : ℕ = c.generation-generation.result in
    let test = c.if-generation-ge-LAST.false in
    let below : n < 4095 = grind (arith, nat_tests) in
    let less : generation_of_journal c.args.self.now.link.journal < 4095 = omega (arith, below, c.generation-generation.ensures) in
    let next_is : n + 1 ≡ generation_of_journal c.args.self.now.link.journal + 1 = ap (λ (k : ℕ). k + 1) c.generation-generation.ensures in
    unwritten_fewer g.D.Disk.says c.args.self.now c.requires.settled (record { journal = c.write_next.new.journal; scanned = c.nothing-self.result }) (rows_of c.in_ok-tables.tables) (n + 1) next_is less c.in_ok-tables.ensures.rows (λ was stands. c.in-Err.ensures.err was stands refl) (λ older kept. c.in-Err.ensures.keeps older kept refl) (λ scanned files sees. c.nothing-self.ensures _) chronicle is_node

pub returns-in-Err-clause-behind : goal.returns-in-Err-clause-behind
returns-in-Err-clause-behind g c = λ chronicle up b next.
    let n : ℕ = c.generation-generation.result in
    let test = c.if-generation-ge-LAST.false in
    let below : n < 4095 = grind (arith, nat_tests) in
    let less : generation_of_journal c.args.self.now.link.journal < 4095 = omega (arith, below, c.generation-generation.ensures) in
    let next_is : n + 1 ≡ generation_of_journal c.args.self.now.link.journal + 1 = ap (λ (k : ℕ). k + 1) c.generation-generation.ensures in
    unwritten_goes g.D.Disk.says c.args.self.now c.requires.settled (record { journal = c.write_next.new.journal; scanned = c.nothing-self.result }) (rows_of c.in_ok-tables.tables) (n + 1) next_is less c.in_ok-tables.ensures.rows (λ was stands. c.in-Err.ensures.err was stands refl) (λ older kept. c.in-Err.ensures.keeps older kept refl) (λ scanned files sees. c.nothing-self.ensures _) c.write_next.ensures.any_moment chronicle up b next
