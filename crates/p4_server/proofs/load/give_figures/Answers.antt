use Rattle.std.proofs.Common.{inl}
use Rattle.p4_server.proofs.load.give_figures.Goals as goal

pub returns : goal.returns
returns g c = inl (c.in-Ok.figures, c.in-Ok.ensures, c.give_lines.ensures)
