use Rattle.std.proofs.Common.{◌∙◌, List, sym, ap, subst}
use Rattle.locked_tables.specs.Taken.{rows_after}
use Rattle.locked_tables.specs.declared.taken.Taken.{Taken}
use Rattle.shared_depot.specs.Common.{AreQuiet, WasRun}
use Rattle.shared_depot.proofs.common.CommonDepot.new.Goals as goal

pub invariant_of-result : goal.invariant_of-result
invariant_of-result g c =
    let D = g.D.Disk in
    let none = c.requires.order in
    record {
      shown = λ table. c.requires.rows table ∙ sym (ap (λ (l : List Taken). rows_after g.N.Naming.rows l table) none);
      quiet = subst (AreQuiet g.N.Serving.begins g.N.Naming.rows g.N.Naming.end) (sym none) tt;
      run = subst (WasRun D.says g.N.Naming.rows g.N.Naming.end g.N.Imaging.images g.N.Serving.begins g.N.Serving.masters) (sym none) c.requires.run;
    }
