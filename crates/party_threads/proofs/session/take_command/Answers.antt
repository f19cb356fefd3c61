use Rattle.std.proofs.Common.{[], ◌∷◌, inl, inr, refl}
use Rattle.depot_model.specs.Printed.{printed}
use Rattle.depot_model.specs.Rows.{memory_row}
use Rattle.party_threads.proofs.session.take_command.Goals as goal

pub returns-in-Ok-clause-answered : goal.returns-in-Ok-clause-answered
returns-in-Ok-clause-answered g c = record {
  moment = c.now.result;
  given = c.now.ensures;
  text = c.in-Ok.field-0.reply;
  told = inl (c.in-Ok.field-0, c.in-Ok.ensures.taken, refl);
  got = c.give.ensures.got;
}

pub returns-in-Err-clause-answered : goal.returns-in-Err-clause-answered
returns-in-Err-clause-answered g c = record {
  moment = c.now.result;
  given = c.now.ensures;
  text = printed (memory_row ∷ []) c.args.request.number;
  told = inr (c.in-Err.ensures.nothing, refl);
  got = c.give-in-Err.ensures.got;
}
