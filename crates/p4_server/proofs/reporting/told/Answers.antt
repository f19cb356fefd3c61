use Rattle.std.proofs.Common.{inl, refl}
use Rattle.p4_server.proofs.Promises.{told_of}
use Rattle.p4_server.proofs.reporting.told.Goals as goal

pub returns-in-Ok-clause-told : goal.returns-in-Ok-clause-told
returns-in-Ok-clause-told g c = inl (record {
  order_is = refl;
  parties_are = rw (c.deref.ensures.value, c.deref-2.ensures.value) at c.in-Ok.ensures.parties;
  sources_are = c.from_vec.ensures;
  told = told_of g.K.Sink.says c.args.out.now c.give_lines-cause.new.out c.in-Ok.report.text c.in-Ok.report.cause _ _ (rw c.as_slice.ensures at c.in-Ok.ensures.text) (rw c.as_slice.ensures at c.in-Ok.ensures.cause) (rw c.as_bytes.ensures at c.give_lines-cause.ensures);
})
