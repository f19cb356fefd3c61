use Rattle.std.proofs.Common.{◌∙◌, ℕ, arith, subst}
use Rattle.std.proofs.lemmas.List.{length-replicate}
use Rattle.disk_journal.specs.Stands.{disk_of}
use Rattle.replica_chain.specs.Apart.{IsCompared}
use Rattle.replica_chain.proofs.Parting.{alike_more, alike_open, texts_count}
use Rattle.replica_chain.proofs.Told.{kept_texts, looked_on, not_looked}
use Rattle.replica_chain.proofs.apart.first_departure.Goals as goal

pub loop-generation-init : goal.loop-generation-init
loop-generation-init g c = record {
  alike = λ texts others told told_up generation below. absurd (omega (arith, below));
  room = length-replicate {A = ℕ} 65536 0;
  other_room = length-replicate {A = ℕ} 65536 0;
  node_looked = not_looked g.D.Disk.says c.args.node.now (g.met.D.Disk.only_now (disk_of c.args.node.now));
  up_looked = not_looked g.D.Disk.says c.args.up.now (g.met.D.Disk.only_now (disk_of c.args.up.now));
  node_faults = omega arith;
  up_faults = omega arith;
}

pub loop-generation-preserved : goal.loop-generation-preserved
loop-generation-preserved g c =
    let says = g.D.Disk.says in
    let inv = c.loop-generation.invariant in
    record {
      alike = λ texts others told told_up.
          alike_more texts others c.loop-generation.generation (inv.alike texts others told told_up)
          (subst (IsCompared texts others c.loop-generation.generation) c.in-Closed.is
          (c.in_ok-compare_generation.ensures.exactly texts others (kept_texts says c.args.node.now c.loop-generation.node inv.node_looked texts told) (kept_texts says c.args.up.now c.loop-generation.up inv.up_looked others told_up)));
      room = c.compare_generation.auto.buffer ∙ inv.room;
      other_room = c.compare_generation.auto.other ∙ inv.other_room;
      node_looked = looked_on says c.args.node.now c.loop-generation.node c.compare_generation.new.node inv.node_looked c.compare_generation.ensures.node_looked;
      up_looked = looked_on says c.args.up.now c.loop-generation.up c.compare_generation.new.up inv.up_looked c.compare_generation.ensures.up_looked;
      node_faults = omega (arith, inv.node_faults, c.compare_generation.ensures.node_faults);
      up_faults = omega (arith, inv.up_faults, c.compare_generation.ensures.up_faults);
    }

pub returns-in-Open-clause-exactly : goal.returns-in-Open-clause-exactly
returns-in-Open-clause-exactly g c = λ texts others told told_up.
    let says = g.D.Disk.says in
    let inv = c.loop-generation.invariant in
    alike_open texts others c.loop-generation.generation (inv.alike texts others told told_up)
    (subst (IsCompared texts others c.loop-generation.generation) c.in-Open.is
    (c.in_ok-compare_generation.ensures.exactly texts others (kept_texts says c.args.node.now c.loop-generation.node inv.node_looked texts told) (kept_texts says c.args.up.now c.loop-generation.up inv.up_looked others told_up)))

pub returns-in-Apart-clause-exactly : goal.returns-in-Apart-clause-exactly
returns-in-Apart-clause-exactly g c = λ texts others told told_up.
    let says = g.D.Disk.says in
    let inv = c.loop-generation.invariant in
    record {
      there = omega (arith, texts_count says c.args.node.now texts told, c.generation-newest.ensures, c.loop-generation-test.true);
      here =
          subst (IsCompared texts others c.loop-generation.generation) c.in-Apart.is
          (c.in_ok-compare_generation.ensures.exactly texts others (kept_texts says c.args.node.now c.loop-generation.node inv.node_looked texts told) (kept_texts says c.args.up.now c.loop-generation.up inv.up_looked others told_up));
      before = inv.alike texts others told told_up;
    }

pub compare_generation-requires-clause-room : goal.compare_generation-requires-clause-room
compare_generation-requires-clause-room g c = omega (arith, c.loop-generation.invariant.room)

pub compare_generation-requires-clause-other_room : goal.compare_generation-requires-clause-other_room
compare_generation-requires-clause-other_room g c = omega (arith, c.loop-generation.invariant.other_room)

pub returns-in_err-compare_generation-clause-node_looked : goal.returns-in_err-compare_generation-clause-node_looked
returns-in_err-compare_generation-clause-node_looked g c = looked_on g.D.Disk.says c.args.node.now c.loop-generation.node c.compare_generation.new.node c.loop-generation.invariant.node_looked c.compare_generation.ensures.node_looked

pub returns-in_err-compare_generation-clause-up_looked : goal.returns-in_err-compare_generation-clause-up_looked
returns-in_err-compare_generation-clause-up_looked g c = looked_on g.D.Disk.says c.args.up.now c.loop-generation.up c.compare_generation.new.up c.loop-generation.invariant.up_looked c.compare_generation.ensures.up_looked

pub returns-in-Open-clause-node_looked : goal.returns-in-Open-clause-node_looked
returns-in-Open-clause-node_looked g c = looked_on g.D.Disk.says c.args.node.now c.loop-generation.node c.compare_generation.new.node c.loop-generation.invariant.node_looked c.compare_generation.ensures.node_looked

pub returns-in-Open-clause-up_looked : goal.returns-in-Open-clause-up_looked
returns-in-Open-clause-up_looked g c = looked_on g.D.Disk.says c.args.up.now c.loop-generation.up c.compare_generation.new.up c.loop-generation.invariant.up_looked c.compare_generation.ensures.up_looked

pub returns-in-Apart-clause-node_looked : goal.returns-in-Apart-clause-node_looked
returns-in-Apart-clause-node_looked g c = looked_on g.D.Disk.says c.args.node.now c.loop-generation.node c.compare_generation.new.node c.loop-generation.invariant.node_looked c.compare_generation.ensures.node_looked

pub returns-in-Apart-clause-up_looked : goal.returns-in-Apart-clause-up_looked
returns-in-Apart-clause-up_looked g c = looked_on g.D.Disk.says c.args.up.now c.loop-generation.up c.compare_generation.new.up c.loop-generation.invariant.up_looked c.compare_generation.ensures.up_looked

pub returns-in-Closed-clause-node_looked : goal.returns-in-Closed-clause-node_looked
returns-in-Closed-clause-node_looked g c = looked_on g.D.Disk.says c.args.node.now c.loop-generation.node c.compare_generation.new.node c.loop-generation.invariant.node_looked c.compare_generation.ensures.node_looked

pub returns-in-Closed-clause-up_looked : goal.returns-in-Closed-clause-up_looked
returns-in-Closed-clause-up_looked g c = looked_on g.D.Disk.says c.args.up.now c.loop-generation.up c.compare_generation.new.up c.loop-generation.invariant.up_looked c.compare_generation.ensures.up_looked

-- the newest is closed too
pub returns-in-Closed-clause-exactly : goal.returns-in-Closed-clause-exactly
returns-in-Closed-clause-exactly g c = λ texts others told told_up generation below.
    let says = g.D.Disk.says in
    let inv = c.loop-generation.invariant in
    alike_more texts others c.loop-generation.generation (inv.alike texts others told told_up)
    (subst (IsCompared texts others c.loop-generation.generation) c.in-Closed.is
    (c.in_ok-compare_generation.ensures.exactly texts others (kept_texts says c.args.node.now c.loop-generation.node inv.node_looked texts told) (kept_texts says c.args.up.now c.loop-generation.up inv.up_looked others told_up)))
    generation (omega (arith, below, texts_count says c.args.node.now texts told, c.generation-newest.ensures))

pub returns-clause-exactly : goal.returns-clause-exactly
returns-clause-exactly g c = λ texts others told told_up generation below.
    c.loop-generation.invariant.alike texts others told told_up generation
    (omega (arith, below, texts_count g.D.Disk.says c.args.node.now texts told, c.generation-newest.ensures, c.loop-generation-test.false))
