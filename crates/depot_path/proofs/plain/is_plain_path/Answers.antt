use Rattle.depot_path.proofs.PlainPaths.{plain_is_path, plain_is_printed, plain_is_read, told_plain}
use Rattle.depot_path.proofs.plain.is_plain_path.Goals as goal

pub returns-then-begins_with_slashes-clause-read : goal.returns-then-begins_with_slashes-clause-read
returns-then-begins_with_slashes-clause-read c = λ is.
    plain_is_read c.args.text.now (told_plain c.args.text.now c.after_slashes.result.now c.begins_with_slashes.result c.are_plain_components.result c.if-text-gt1024.false c.begins_with_slashes.ensures c.if-begins_with_slashes.true c.after_slashes.ensures c.are_plain_components.ensures is)

pub returns-then-begins_with_slashes-clause-printed : goal.returns-then-begins_with_slashes-clause-printed
returns-then-begins_with_slashes-clause-printed c = λ is.
    plain_is_printed c.args.text.now (told_plain c.args.text.now c.after_slashes.result.now c.begins_with_slashes.result c.are_plain_components.result c.if-text-gt1024.false c.begins_with_slashes.ensures c.if-begins_with_slashes.true c.after_slashes.ensures c.are_plain_components.ensures is)

pub returns-then-begins_with_slashes-clause-path : goal.returns-then-begins_with_slashes-clause-path
returns-then-begins_with_slashes-clause-path c = λ is.
    plain_is_path c.args.text.now (told_plain c.args.text.now c.after_slashes.result.now c.begins_with_slashes.result c.are_plain_components.result c.if-text-gt1024.false c.begins_with_slashes.ensures c.if-begins_with_slashes.true c.after_slashes.ensures c.are_plain_components.ensures is)
