use Rattle.std.proofs.Common.{None}
use Rattle.std.specs.Prelude.{option_map}
use Rattle.depot_rows.specs.Deed.{action_of, source_of}
use Rattle.integ_records.proofs.opened_targets.opening_over.Goals as goal

pub returns-clause-over_head : goal.returns-clause-over_head
returns-clause-over_head c = λ d over.
    λ i. record {
      client = c.in_ok-client.ensures i;
      path = c.in_ok-path.ensures i;
      base = over i;
      action = action_of c.args.action;
      file_type = c.args.file_type;
      change = c.unwrap_or-change.ensures i;
      source = option_map source_of c.args.source;
      moved = None;
    }
