use Rattle.std.proofs.Common.{arith, subst, sym}
use Rattle.disk_journal.specs.Stands.{disk_of}
use Rattle.outside_api.specs.Link.{Fits}
use Rattle.replica_chain.specs.Ends.{IsLooked}
use Rattle.replica_chain.proofs.Parting.{answered, same_at_first, texts_short}
use Rattle.replica_chain.proofs.Told.{looked_on, not_looked}
use Rattle.replica_chain.proofs.apart.compare_generation.Goals as goal

pub loop-at-init : goal.loop-at-init
loop-at-init g c = record {
  same = λ texts others told told_up. same_at_first g.D.Disk.says texts others c.args.generation;
  node_scanned = λ files read. c.nothing-node_scanned.ensures _;
  up_scanned = λ files read. c.nothing-up_scanned.ensures _;
  node_looked = not_looked g.D.Disk.says c.args.node.now (g.met.D.Disk.only_now (disk_of c.args.node.now));
  up_looked = not_looked g.D.Disk.says c.args.up.now (g.met.D.Disk.only_now (disk_of c.args.up.now));
  node_faults = omega arith;
  up_faults = omega arith;
}

pub compare_pieces-requires-clause-node_fits : goal.compare_pieces-requires-clause-node_fits
compare_pieces-requires-clause-node_fits g c = subst (Fits c.in_ok-of_node.of_node) (sym c.fetch_on.auto.buffer) c.in_ok-of_node.ensures.fits

pub compare_pieces-requires-clause-up_fits : goal.compare_pieces-requires-clause-up_fits
compare_pieces-requires-clause-up_fits g c = subst (Fits c.in_ok-of_up.of_up) (sym c.fetch_on-in-loop-at.auto.buffer) c.in_ok-of_up.ensures.fits

pub loop-at-preserved : goal.loop-at-preserved
loop-at-preserved g c =
    let says = g.D.Disk.says in
    let inv = c.loop-at.invariant in
    let node_look : IsLooked says c.loop-at.node c.fetch_on.new.self = record {
      stands = c.fetch_on.ensures.stands;
      keeps = c.fetch_on.ensures.keeps;
      reads = record { same = c.fetch_on.ensures.same; no_more = c.fetch_on.ensures.crash; any_moment = c.fetch_on.ensures.any_moment };
    } in
    let up_look : IsLooked says c.loop-at.up c.fetch_on-in-loop-at.new.self = record {
      stands = c.fetch_on-in-loop-at.ensures.stands;
      keeps = c.fetch_on-in-loop-at.ensures.keeps;
      reads = record { same = c.fetch_on-in-loop-at.ensures.same; no_more = c.fetch_on-in-loop-at.ensures.crash; any_moment = c.fetch_on-in-loop-at.ensures.any_moment };
    } in
    record {
      same = λ texts others told told_up.
          c.in-Same.ensures.compared texts others c.args.generation (inv.same texts others told told_up)
          (answered says c.args.node.now c.loop-at.node texts c.args.generation c.loop-at.at c.in_ok-of_node.of_node c.fetch_on.new.buffer inv.node_looked told
          (λ was doubt before files stands sees count older. c.in_ok-of_node.ensures.as_link was doubt before files stands sees count older inv.node_scanned))
          (answered says c.args.up.now c.loop-at.up others c.args.generation c.loop-at.at c.in_ok-of_up.of_up c.fetch_on-in-loop-at.new.buffer inv.up_looked told_up
          (λ was doubt before files stands sees count older. c.in_ok-of_up.ensures.as_link was doubt before files stands sees count older inv.up_scanned));
      node_scanned = c.fetch_on.ensures.scanned inv.node_scanned;
      up_scanned = c.fetch_on-in-loop-at.ensures.scanned inv.up_scanned;
      node_looked = looked_on says c.args.node.now c.loop-at.node c.fetch_on.new.self inv.node_looked node_look;
      up_looked = looked_on says c.args.up.now c.loop-at.up c.fetch_on-in-loop-at.new.self inv.up_looked up_look;
      node_faults = omega (arith, inv.node_faults, c.fetch_on.ensures.cause.never_falls);
      up_faults = omega (arith, inv.up_faults, c.fetch_on-in-loop-at.ensures.cause.never_falls);
    }

pub returns-in-Last-clause-exactly : goal.returns-in-Last-clause-exactly
returns-in-Last-clause-exactly g c = λ texts others told told_up.
    let says = g.D.Disk.says in
    let inv = c.loop-at.invariant in
    c.in-Last.ensures.compared texts others c.args.generation (inv.same texts others told told_up)
    (answered says c.args.node.now c.loop-at.node texts c.args.generation c.loop-at.at c.in_ok-of_node.of_node c.fetch_on.new.buffer inv.node_looked told
    (λ was doubt before files stands sees count older. c.in_ok-of_node.ensures.as_link was doubt before files stands sees count older inv.node_scanned))
    (answered says c.args.up.now c.loop-at.up others c.args.generation c.loop-at.at c.in_ok-of_up.of_up c.fetch_on-in-loop-at.new.buffer inv.up_looked told_up
    (λ was doubt before files stands sees count older. c.in_ok-of_up.ensures.as_link was doubt before files stands sees count older inv.up_scanned))

pub returns-in-Last-clause-node_looked : goal.returns-in-Last-clause-node_looked
returns-in-Last-clause-node_looked g c = looked_on g.D.Disk.says c.args.node.now c.loop-at.node c.fetch_on.new.self c.loop-at.invariant.node_looked (record {
  stands = c.fetch_on.ensures.stands;
  keeps = c.fetch_on.ensures.keeps;
  reads = record { same = c.fetch_on.ensures.same; no_more = c.fetch_on.ensures.crash; any_moment = c.fetch_on.ensures.any_moment };
})

pub returns-in-Last-clause-up_looked : goal.returns-in-Last-clause-up_looked
returns-in-Last-clause-up_looked g c = looked_on g.D.Disk.says c.args.up.now c.loop-at.up c.fetch_on-in-loop-at.new.self c.loop-at.invariant.up_looked (record {
  stands = c.fetch_on-in-loop-at.ensures.stands;
  keeps = c.fetch_on-in-loop-at.ensures.keeps;
  reads = record { same = c.fetch_on-in-loop-at.ensures.same; no_more = c.fetch_on-in-loop-at.ensures.crash; any_moment = c.fetch_on-in-loop-at.ensures.any_moment };
})

pub returns-in_err-of_node-clause-node_looked : goal.returns-in_err-of_node-clause-node_looked
returns-in_err-of_node-clause-node_looked g c = looked_on g.D.Disk.says c.args.node.now c.loop-at.node c.fetch_on.new.self c.loop-at.invariant.node_looked (record {
  stands = c.fetch_on.ensures.stands;
  keeps = c.fetch_on.ensures.keeps;
  reads = record { same = c.fetch_on.ensures.same; no_more = c.fetch_on.ensures.crash; any_moment = c.fetch_on.ensures.any_moment };
})

pub returns-in_err-of_up-clause-node_looked : goal.returns-in_err-of_up-clause-node_looked
returns-in_err-of_up-clause-node_looked g c = looked_on g.D.Disk.says c.args.node.now c.loop-at.node c.fetch_on.new.self c.loop-at.invariant.node_looked (record {
  stands = c.fetch_on.ensures.stands;
  keeps = c.fetch_on.ensures.keeps;
  reads = record { same = c.fetch_on.ensures.same; no_more = c.fetch_on.ensures.crash; any_moment = c.fetch_on.ensures.any_moment };
})

pub returns-in_err-of_up-clause-up_looked : goal.returns-in_err-of_up-clause-up_looked
returns-in_err-of_up-clause-up_looked g c = looked_on g.D.Disk.says c.args.up.now c.loop-at.up c.fetch_on-in-loop-at.new.self c.loop-at.invariant.up_looked (record {
  stands = c.fetch_on-in-loop-at.ensures.stands;
  keeps = c.fetch_on-in-loop-at.ensures.keeps;
  reads = record { same = c.fetch_on-in-loop-at.ensures.same; no_more = c.fetch_on-in-loop-at.ensures.crash; any_moment = c.fetch_on-in-loop-at.ensures.any_moment };
})

-- no text is as long
pub returns-clause-exactly : goal.returns-clause-exactly
returns-clause-exactly g c = λ texts others told told_up.
    let same = c.loop-at.invariant.same texts others told told_up in
    let within = same.within_node in
    absurd (omega (arith, within, texts_short g.D.Disk.says g.met.D.Disk.reads_an_image g.met.D.Disk.within c.args.node.now texts told c.args.generation, c.loop-at-test.false))
