use Rattle.std.specs.List.{sum_by}
use Rattle.depot_figures.specs.Figures.{file_size}
use Rattle.depot_figures.proofs.Figures.{ends_at}
use Rattle.depot_figures.proofs.files.bytes_of.Goals as goal

pub returns : goal.returns
returns c = λ d sound has.
    let at = c.loop-rest in
    ends_at (file_size d) at.sum (sum_by (file_size d) c.args.paths.now) at.rest.now c.in_default.len_below at.invariant.within (at.invariant.left d sound has)
