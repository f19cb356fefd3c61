use Rattle.std.proofs.Common.{◌≡◌, sym, ◌∙◌, length}
use Rattle.std.specs.Prelude.{decimal}
use Rattle.disk_journal.proofs.Heads.{place_found, after_is, digits_are, none_some, some_some}
use Rattle.disk_journal.proofs.head.number_before.Goals as goal

pub returns-in_err-end-clause-number : goal.returns-in_err-end-clause-number
returns-in_err-end-clause-number c = λ n after low small is.
    absurd (none_some _ (sym c.in_err-end.was ∙ place_found c.args.ender n after c.args.bytes.now c.place_of.result low small is c.place_of.ensures.place))

pub returns-in_err-number-clause-number : goal.returns-in_err-number-clause-number
returns-in_err-number-clause-number c = λ n after low small is.
    let end : c.in_ok-end.end ≡ length (decimal n) = some_some _ _ (sym c.in_ok-end.was ∙ place_found c.args.ender n after c.args.bytes.now c.place_of.result low small is c.place_of.ensures.place) in
    absurd (none_some _ (sym c.in_err-number.was ∙ c.number_of.ensures n small (c.split_at.ensures.front ∙ digits_are c.args.ender n c.in_ok-end.end after c.args.bytes.now is end)))

pub returns-clause-number : goal.returns-clause-number
returns-clause-number c = λ n after low small is.
    let end : c.in_ok-end.end ≡ length (decimal n) = some_some _ _ (sym c.in_ok-end.was ∙ place_found c.args.ender n after c.args.bytes.now c.place_of.result low small is c.place_of.ensures.place) in (
      some_some _ _ (sym c.in_ok-number.was ∙ c.number_of.ensures n small (c.split_at.ensures.front ∙ digits_are c.args.ender n c.in_ok-end.end after c.args.bytes.now is end)),
      c.split_at-2.ensures.back ∙ after_is c.args.ender n c.in_ok-end.end after c.args.bytes.now is end,
    )
