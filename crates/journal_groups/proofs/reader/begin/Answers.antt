use Rattle.std.proofs.Common.{◌≡◌, ◌<◌, ◌≤◌, Bool, true, Some, length, sym, ap, subst, arith}
use Rattle.std.proofs.lemmas.Result.{err_from_is_err_and}
use Rattle.record_text.specs.Answers.{Fails}
use Rattle.record_text.specs.Reading.{Done, and_then}
use Rattle.journal_groups.specs.Reading.{head_at, body_at, group_at, mark_at, behind_mark}
use Rattle.journal_groups.proofs.Bodies.{fails_then}
use Rattle.journal_groups.proofs.Records.{no_mark, no_head}
use Rattle.journal_groups.proofs.Inside.{mark_suffix, mark_long, head_suffix}
use Rattle.journal_groups.proofs.Causes.{opened_parts}
use Rattle.journal_groups.proofs.Texts.{head_done}
use Rattle.journal_groups.proofs.Whole.{begun_here, next_closed, suffix_of}
use Rattle.journal_groups.proofs.reader.begin.Goals as goal

pub returns-then-not-opened : goal.returns-then-not-opened
returns-then-not-opened c = (c.in_ok-opened.rest.now, next_closed c.args.number c.args.bytes.now c.in_ok-opened.rest.now (subst (λ (b : Bool). mark_at c.args.bytes.now ≡ Done b c.in_ok-opened.rest.now) c.if-not-opened.true c.in_ok-opened.ensures))

pub overflow_sub-result : goal.overflow_sub-result
overflow_sub-result c =
    let m : length c.in_ok-opened.rest.now ≤ length c.args.bytes.now = (mark_suffix c.args.bytes.now c.in_ok-opened.opened c.in_ok-opened.rest.now c.in_ok-opened.ensures).0 in
    let h : length c.in_ok-size.rest.now ≤ length c.in_ok-opened.rest.now = (head_suffix c.args.number c.in_ok-opened.rest.now c.in_ok-size.size c.in_ok-size.rest.now c.in_ok-size.ensures).0 in
    omega arith

pub returns-in_err-opened : goal.returns-in_err-opened
returns-in_err-opened c =
    let p = err_from_is_err_and c.from_residual.result c.from_residual.ensures.1 in
    let fault = c.in_err-opened.field-0.0 in
    rw (p.1, p.2) (fails_then fault (mark_at c.args.bytes.now) (behind_mark c.args.number) c.in_err-opened.ensures, no_mark c.args.number c.args.bytes.now fault c.in_err-opened.ensures)

pub returns-in_err-size : goal.returns-in_err-size
returns-in_err-size c =
    let p = err_from_is_err_and c.from_residual-in_err-size.result c.from_residual-in_err-size.ensures.1 in
    let fault = c.in_err-size.field-0.0 in
    let rest = c.in_ok-opened.rest.now in
    let marked = subst (λ (b : Bool). mark_at c.args.bytes.now ≡ Done b rest) c.if-not-opened.false c.in_ok-opened.ensures in
    let failed = fails_then fault (group_at c.args.number rest) (λ changes after. Done (Some changes) after) (fails_then fault (head_at c.args.number rest) body_at c.in_err-size.ensures) in
    rw (p.1, p.2) (subst (Fails fault) (sym (ap (λ r. and_then r (behind_mark c.args.number)) marked)) failed, no_head c.args.number c.args.bytes.now rest true fault marked c.in_err-size.ensures)

pub returns : goal.returns
returns c =
    let bytes = c.args.bytes.now in
    let rest = c.in_ok-opened.rest.now in
    let after = c.in_ok-size.rest.now in
    let m = mark_suffix bytes c.in_ok-opened.opened rest c.in_ok-opened.ensures in
    let h = head_suffix c.args.number rest c.in_ok-size.size after c.in_ok-size.ensures in
    let long : length rest < length bytes = mark_long bytes c.in_ok-opened.opened rest c.in_ok-opened.ensures in
    let back = suffix_of bytes rest after m.0 m.1 h.0 h.1 in
    let head = head_done c.args.number rest c.in_ok-size.size after c.in_ok-size.ensures in
    let opened = opened_parts bytes rest c.in_ok-opened.opened c.in_ok-opened.ensures c.if-not-opened.false in
    begun_here c.args.number bytes rest after c.new.result c.in_ok-size.size _ c.new.ensures (omega (arith, long, h.0)) (omega (arith, m.0, h.0)) head.0 opened head.1 back
