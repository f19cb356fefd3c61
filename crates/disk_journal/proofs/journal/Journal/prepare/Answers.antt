use Rattle.std.proofs.Common.{◌++◌, length, sym, ap, subst, ◌∙◌, arith, length-append}
use Rattle.disk_journal.specs.Stands.{next_number}
use Rattle.disk_journal.specs.Text.{IsGroup, mark}
use Rattle.disk_journal.proofs.Grouped.{before_mark, body_within, is_group}
use Rattle.disk_journal.proofs.journal.Journal.prepare.Goals as goal

pub returns-clause-group : goal.returns-clause-group
returns-clause-group g c = before_mark c.in_ok-text.text c.append.new.self c.in_ok-append.ensures.ok ∙ c.in_ok-text.ensures

pub returns-clause-prepared : goal.returns-clause-prepared
returns-clause-prepared g c =
    let number = next_number c.args.self.now in
    let group = before_mark c.in_ok-text.text c.append.new.self c.in_ok-append.ensures.ok in
    record {
      is_group = subst (IsGroup number) (sym (group ∙ c.in_ok-text.ensures)) (is_group number c.args.changes.now);
      text = c.in_ok-append.ensures.ok ∙ ap (λ t. t ++ mark 109) (sym group);
    }

pub returns-clause-fits : goal.returns-clause-fits
returns-clause-fits g c = λ records.
    let long = ap length c.in_ok-append.ensures.ok ∙ length-append c.in_ok-text.text (mark 109) in
    let within = body_within (next_number c.args.self.now) c.args.changes.now in
    let same = ap length c.in_ok-text.ensures in
    let all = c.len-size.ensures in
    (records, omega (arith, long, within, same, all))
