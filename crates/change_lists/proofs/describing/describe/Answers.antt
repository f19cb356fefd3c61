use Rattle.depot_rows.specs.table_changes.Changed.{rows_of}
use Rattle.std.specs.Option.{option_copied}
use Rattle.change_lists.proofs.Described.{described_made}
use Rattle.change_lists.proofs.describing.describe.Goals as goal

pub returns : goal.returns
returns c = λ d caller sound asked has_change has_rev.
    described_made (rows_of c.args.tables.now) d caller c.args.change c.in_ok-step.step (option_copied c.change_of-found.result) sound.landed_or_pending
    (c.change_of-found.ensures d has_change) (c.in_ok-step.ensures d caller sound asked has_rev)
