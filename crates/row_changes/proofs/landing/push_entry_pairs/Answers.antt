use Rattle.std.proofs.Common.{ap, ◌∙◌, ◌≡◌, ◌++◌, take, List}
use Rattle.std.specs.Prelude.{flat_map}
use Rattle.std.proofs.lemmas.List.{take_all}
use Rattle.depot_rows.specs.db_records.declared.record.Record.TheVariants as rows
use Rattle.depot_rows.specs.depot_model.Records.{pair_of}
use Rattle.depot_rows.specs.declared.deed.Credit.{Credit}
use Rattle.depot_rows.specs.Deed.{credit_of}
use Rattle.row_changes.specs.Landing.{integed_rows}
use Rattle.row_changes.proofs.Landed.{flat-more, flat-map}
use Rattle.row_changes.proofs.landing.push_entry_pairs.Goals as goal

pub loop-credit-preserved : goal.loop-credit-preserved
loop-credit-preserved c = c.in_ok-push_pair.ensures
    ∙ flat-more (λ x. pair_of c.args.change c.args.entry.now.path c.args.entry.now.rev (credit_of x)) (λ r. rows.Integed r) c.args.rows.now.items c.loop-credit.rows.items
    c.as_slice-credits.result.now c.loop-credit.credit-index c.credit-item.result c.loop-credit-test.true c.credit-item.is c.loop-credit.invariant

pub returns : goal.returns
returns c =
    let all : take c.loop-credit.credit-index c.as_slice-credits.result.now ≡ c.args.entry.now.credits =
    take_all c.loop-credit.credit-index c.as_slice-credits.result.now c.loop-credit-test.false ∙ c.as_slice-credits.ensures in
    c.loop-credit.invariant
    ∙ ap (λ (l : List Credit). c.args.rows.now.items ++ integed_rows (flat_map (λ x. pair_of c.args.change c.args.entry.now.path c.args.entry.now.rev (credit_of x)) l)) all
    ∙ ap (λ l. c.args.rows.now.items ++ integed_rows l) (flat-map (pair_of c.args.change c.args.entry.now.path c.args.entry.now.rev) credit_of c.args.entry.now.credits)
