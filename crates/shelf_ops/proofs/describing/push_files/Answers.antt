use Rattle.std.proofs.Common.{◌∙◌, arith}
use Rattle.depot_rows.specs.depot_model.Steps.Shelving.{shelved_fields}
use Rattle.shelf_ops.proofs.Described.{numbered_all, numbered_on}
use Rattle.shelf_ops.proofs.describing.push_files.Goals as goal

pub returns : goal.returns
returns c = λ d sound has.
    numbered_all (shelved_fields d c.args.change) c.loop-rest.fields _ c.loop-rest.index c.loop-rest.rest.now (omega arith) (c.loop-rest.invariant.told d sound has)

pub loop-rest-preserved : goal.loop-rest-preserved
loop-rest-preserved c = record {
  told = λ d sound has.
      numbered_on (shelved_fields d c.args.change) c.loop-rest.fields c.push_file.new.fields c.loop-rest.index c.loop-rest.rest.now c.path-item.result c.in-len1-up.len_at_least
      c.path-item.is (c.in_ok-push_file.ensures d sound has)
      ∙ c.loop-rest.invariant.told d sound has;
  counted = omega arith;
}
