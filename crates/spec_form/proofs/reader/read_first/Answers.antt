use Rattle.spec_form.proofs.FieldsLemmas.{added_answer}
use Rattle.spec_form.proofs.reader.read_first.Goals as goal

pub returns : goal.returns
returns c =
    added_answer c.args.shape c.args.line.now c.args.fields.now c.add.new.self c.in_ok-new_field.field-0 c.add.result c.in_ok-new_field.ensures c.add.ensures
