use Rattle.std.proofs.Common.{ap, ◌∙◌}
use Rattle.shelf_ops.specs.Described.{kept_word}
use Rattle.shelf_ops.proofs.Described.{word_is}
use Rattle.shelf_ops.proofs.describing.kept_word.Goals as goal

pub returns : goal.returns
returns c = c.word_of-known.ensures ∙ ap kept_word c.form_value-word.ensures ∙ word_is c.args.form.now
