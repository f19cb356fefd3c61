use Rattle.std.proofs.Common.{sym, ap, ◌∙◌}
use Rattle.depot_rows.specs.depot_path.Path.{is_path}
use Rattle.history_query.specs.Telling.{with_landed}
use Rattle.history_query.proofs.Told.{landed_with}
use Rattle.history_query.proofs.telling.told_of.Goals as goal

pub returns : goal.returns
returns c = λ d choice reads is.
    let bytes = c.as_bytes-bytes.ensures in
    c.with_change.ensures d reads.has_change ∙ ap (with_landed d) is ∙ landed_with d c.args.path.now reads.sound (ap is_path (sym bytes.value) ∙ bytes.path) choice
