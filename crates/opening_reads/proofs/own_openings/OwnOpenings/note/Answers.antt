use Rattle.std.proofs.Common.{refl}
use Rattle.depot_rows.specs.depot_model.Step.{after}
use Rattle.opening_reads.proofs.OwnDeeds.{noted_all, noted_on}
use Rattle.opening_reads.proofs.own_openings.OwnOpenings.note.Goals as goal

pub loop-rest-init : goal.loop-rest-init
loop-rest-init c = λ client d e done follow theirs own. record { now = e; deeds = done; follow = follow; theirs = theirs; own_now = own; whole = refl }

pub loop-rest-preserved : goal.loop-rest-preserved
loop-rest-preserved c = λ client d e done follow theirs own.
    noted_on client d (after e done) c.loop-rest.rest.now c.deed-item.result c.loop-rest.self c.note_deed.new.self c.in-len1-up.len_at_least c.deed-item.is
    c.in_ok-note_deed.ensures (c.loop-rest.invariant client d e done follow theirs own)

pub returns : goal.returns
returns c = λ client d e done follow theirs own.
    noted_all client d (after e done) c.loop-rest.rest.now c.loop-rest.self c.in_default.len_below (c.loop-rest.invariant client d e done follow theirs own)
