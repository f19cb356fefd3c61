use Rattle.std.proofs.Common.{rules, sym, ◌∙◌}
use Rattle.replica_answers.proofs.Named.{shows_so}
use Rattle.replica_answers.proofs.printing.row_shown.Goals as goal

pub returns-in-Some-Rev : goal.returns-in-Some-Rev
returns-in-Some-Rev c = record {
  file = c.file-item.result.value;
  rev = c.in-Some.number;
  small = search rules;
  shows = shows_so c.args.row.now c.as_slice.result.now c.file-item.result c.rev-item.result c.in-Some.number c.as_slice.ensures c.in-len2-up.len_at_least c.file-item.is c.rev-item.is
      (c.has_name.ensures c.if-not-has_name.false) (c.has_name-2.ensures c.if-not-has_name-2.false) (sym c.as_bytes.ensures ∙ c.in-Some.ensures);
  there = search rules;
}
