use Rattle.std.proofs.Common.{List, ap, sym, ◌++◌, ◌∙◌}
use Rattle.std.specs.List.{filter_map}
use Rattle.depot_rows.specs.db_records.declared.record.Record.{Record}
use Rattle.depot_rows.specs.declared.deed.Owing.{Owing}
use Rattle.opening_reads.specs.Owed.{owing_of_row}
use Rattle.opening_reads.proofs.Onwards.{one_more}
use Rattle.opening_reads.proofs.resolves.owings_in.Goals as goal

pub loop-row-preserved : goal.loop-row-preserved
loop-row-preserved c =
    let said = owing_of_row c.args.client.now c.args.path.now in
    ap (λ (l : List Owing). l ++ filter_map said c.next.new.self) c.in_ok-add_owing.ensures
    ∙ one_more c.loop-row.owings (said c.in-Some.row.now) (filter_map said c.next.new.self)
    ∙ ap (λ (rows : List Record). c.loop-row.owings ++ filter_map said rows) (sym c.in-Some.ensures.steps)
    ∙ c.loop-row.invariant
