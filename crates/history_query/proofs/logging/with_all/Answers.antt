use Rattle.std.proofs.Common.{Bor, List, ◌++◌, ◌+◌, ◌-◌, length, take, drop, map, append_assoc, ap, ◌∙◌}
use Rattle.std.specs.Prelude.{decimal}
use Rattle.depot_rows.specs.db_records.declared.rows.RevRecord.{RevRecord}
use Rattle.depot_rows.specs.depot_model.declared.reply.Field.{Field}
use Rattle.revision_reads.specs.History.{seen}
use Rattle.history_query.specs.Crediting.{credited}
use Rattle.history_query.specs.Logging.{logged, logged_from}
use Rattle.history_query.proofs.Pushed.{parted, parted_count}
use Rattle.history_query.proofs.logging.with_all.Goals as goal

pub loop-rest-preserved : goal.loop-rest-preserved
loop-rest-preserved c =
    let at = c.loop-rest in
    let rest = at.rest.now in
    let row = c.row-item.result in
    let n = at.index in
    let old : List Field = at.more in
    let credits = credited c.args.credits.now in
    let few = c.in-len1-up.len_at_least in record {
      shown = λ d has.
          let later = logged_from d (n + 1) credits (map (λ r. seen r.now) (take (length rest - 1) (drop 1 rest))) in
          ap (λ (fields : List Field). fields ++ later) (c.in_ok-more.ensures d has)
          ∙ append_assoc old (logged d (decimal n) credits (seen row.now)) later
          ∙ ap (λ (l : List (Bor RevRecord)). old ++ logged_from d n credits (map (λ r. seen r.now) l)) (parted rest row few c.row-item.is)
          ∙ at.invariant.shown d has;
      counted = parted_count rest n (length c.args.rows.now) few at.invariant.counted;
    }
