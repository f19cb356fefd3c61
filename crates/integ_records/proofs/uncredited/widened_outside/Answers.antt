use Rattle.std.proofs.Common.{Bool, Some, sym, ap, ◌∙◌}
use Rattle.std.specs.Prelude.{if◌then◌else◌, not}
use Rattle.integ_records.specs.Ends.{widened}
use Rattle.integ_records.proofs.uncredited.widened_outside.Goals as goal

pub returns-then-credited : goal.returns-then-credited
returns-then-credited c =
    ap (λ (b : Bool). if not b then Some (widened c.args.ends c.args.rev) else c.args.ends) (sym c.if-credited.true ∙ c.is_in-credited.ensures)

pub returns-else-credited : goal.returns-else-credited
returns-else-credited c =
    ap Some c.widened.ensures
    ∙ ap (λ (b : Bool). if not b then Some (widened c.args.ends c.args.rev) else c.args.ends) (sym c.if-credited.false ∙ c.is_in-credited.ensures)
