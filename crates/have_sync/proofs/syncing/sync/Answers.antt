use Rattle.depot_rows.specs.table_changes.Changed.{rows_of}
use Rattle.depot_rows.specs.depot_model.Arguments.{everything}
use Rattle.have_sync.specs.Syncing.{Reads}
use Rattle.have_sync.proofs.syncing.sync.Goals as goal

pub returns : goal.returns
returns c = λ d sound asked domain have label resolve working change rev.
    let rows = rows_of c.args.tables.now in
    let reads : Reads c.args.caller.now c.args.asker.now rows d = record {
      shown = record { sound = sound; asked = asked; listed = rev; has_have = have; has_label = label; has_domain = domain; has_rev = rev; has_change = change };
      resolve = resolve;
      working = working;
    } in
    c.in_ok-step.ensures rows d d _ (c.shown_alone-told.ensures rows d d _ (c.in_ok-whole.ensures everything d reads.shown (reads, c.places_of.ensures)))
