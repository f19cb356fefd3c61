use Rattle.std.proofs.Common.{◌≡◌, List, map, refl, sym, ap, subst}
use mathlib.Core.List.{IsPrefix}
use Rattle.locked_tables.specs.Known.{PartyKnown}
use Rattle.locked_tables.specs.Taken.{of_party, placed_of}
use Rattle.locked_tables.specs.declared.taken.Taken.{Taken}
use Rattle.replica_turns.specs.Going.{is_lost}
use Rattle.serial_depot.specs.Running.{HasRun}
use Rattle.serial_depot.specs.declared.depot.SerialDepot.{SerialDepot}
use Rattle.shared_depot.specs.Common.{HasAllStored, IsFollowed, KeepsOrder}
use Rattle.shared_depot.specs.Replicas.{mark_count}
use Rattle.shared_depot.proofs.Marks.{marked_still}
use Rattle.shared_depot.proofs.Order.{depot_ran}
use Rattle.shared_depot.proofs.common.CommonDepot.tell_alone.Goals as goal

pub invariant_of-self : goal.invariant_of-self
invariant_of-self g c =
    let D = g.D.Disk in
    subst (λ (l : List Taken). KeepsOrder D.says g.N.Naming.rows g.N.Naming.end g.N.Imaging.images g.N.Serving.begins g.N.Serving.masters l c.self.inside.tables)
    (sym c.tell.ensures.same) c.self.invariant

pub returns-clause-told : goal.returns-clause-told
returns-clause-told g c = λ request replica answer marks alone.
    let D = g.D.Disk in
    let rows = g.N.Naming.rows in
    let end = g.N.Naming.end in
    let images = g.N.Imaging.images in
    let begins = g.N.Serving.begins in
    let order = c.self.inside.order in
    let run = c.self.invariant.run in
    let party = c.args.pass.now.party in
    let known : c.tell.new.pass.list ≡ order = ap (λ (k : PartyKnown). k.list) c.tell.ensures.told in
    record {
      answered = λ archive all.
          let depot : SerialDepot g.row.D.Denot = record { tables = run.0; journal = run.1.0; archive = archive } in
          let here = subst (λ (l : List Taken). HasAllStored D.says end images begins l archive) known all in (
            depot,
            (
              λ since start at.
                  subst (λ (l : List Taken). HasRun D.says depot since start (map placed_of l)) (sym known)
                  (depot_ran D.says rows end images begins g.N.Serving.masters order run.0 run.1.0 run.1.1 archive here since start at),
              subst (λ (l : List Taken). IsFollowed D.says begins g.N.Serving.masters l depot) (sym known) (run.1.1.followed archive here),
              alone.answered depot,
              here.room,
            ),
          );
      heard = record {
        party = ap (λ (k : PartyKnown). k.party) c.tell.ensures.told;
        later = subst (IsPrefix c.args.pass.now.list) (sym known) c.tell.ensures.begins;
        own = subst (λ (l : List Taken). of_party party l ≡ of_party party c.args.pass.now.list) (sym known) c.tell.ensures.own;
        marks_party = refl;
        marked = marked_still (mark_count marks) (is_lost answer) alone.kept;
      };
    }
