use Rattle.std.proofs.Common.{◌≡◌, refl, ◌∷◌, ◌∙◌, ℕ, max, rules}
use Rattle.depot_rows.specs.db_records.declared.table.TableId.TheVariants.{Rev}
use Rattle.depot_rows.specs.table_changes.Changed.{rows_of}
use Rattle.recovery.specs.Contents.{IsBadAt, IsSpotDamage}
use Rattle.recovery.proofs.GoodSpots.{checked_none, checked_more, checked_all, checked_bad}
use Rattle.recovery.proofs.Looks.{reads_on}
use Rattle.recovery.proofs.PassedOn.{passed_damage, unless_passed}
use Rattle.recovery.proofs.contents.check_rows.Goals as goal

pub loop-row-init : goal.loop-row-init
loop-row-init g c = record {
  checked = checked_none (g.D.Disk.says.seen c.args.disk.now) c.args.limit (rows_of c.args.tables.now Rev) c.into_iter-row-iterator.result (c.into_iter-row-iterator.ensures.into_iter_gives ∙ c.revisions-row-items.ensures);
  reads = search rules;
  faults = refl;
}

pub returns-in_err-check_row-clause-damaged : goal.returns-in_err-check_row-clause-damaged
returns-in_err-check_row-clause-damaged g c = λ files read limit_is.
    let inv = c.loop-row.invariant in
    let rows = rows_of c.args.tables.now Rev in
    let row = c.in-Some.row.now in
    let rest = c.next.new.self in
    let head : c.loop-row.row-iterator ≡ row ∷ rest = search rules in
    passed_damage ℕ (IsBadAt (files 0) row) (IsSpotDamage (files 0) rows) c.from_residual.result c.in_err-check_row.field-0.0 c.from_residual.ensures.1 (c.in_err-check_row.ensures.damaged files (inv.reads.same.kept files read) limit_is)
    (λ place bad. checked_bad (g.D.Disk.says.seen c.args.disk.now) c.args.limit rows c.loop-row.row-iterator row rest c.loop-row.end files place inv.checked head read limit_is bad)

pub returns-clause-end : goal.returns-clause-end
returns-clause-end g c =
    let inv = c.loop-row.invariant in
    ((checked_all (g.D.Disk.says.seen c.args.disk.now) c.args.limit (rows_of c.args.tables.now Rev) c.loop-row.row-iterator c.loop-row.end inv.checked c.in-None.ensures.steps.0).0, inv.checked.within)

pub returns-clause-whole : goal.returns-clause-whole
returns-clause-whole g c = (checked_all (g.D.Disk.says.seen c.args.disk.now) c.args.limit (rows_of c.args.tables.now Rev) c.loop-row.row-iterator c.loop-row.end c.loop-row.invariant.checked c.in-None.ensures.steps.0).1

pub loop-row-preserved : goal.loop-row-preserved
loop-row-preserved g c =
    let inv = c.loop-row.invariant in
    let ok = c.in_ok-check_row.ensures in
    let row = c.in-Some.row.now in
    let rest = c.next.new.self in
    let head : c.loop-row.row-iterator ≡ row ∷ rest = search rules in
    let top : c.max-end.result ≡ max c.loop-row.end c.in_ok-check_row.field-0 = search rules in
    record {
      checked = checked_more (g.D.Disk.says.seen c.args.disk.now) c.args.limit (rows_of c.args.tables.now Rev) c.loop-row.row-iterator row rest c.loop-row.end c.in_ok-check_row.field-0 c.max-end.result inv.checked head ok.end.0 ok.end.1 top
          (λ files read limit_is. ok.whole files (inv.reads.same.kept files read) limit_is);
      reads = reads_on g.D.Disk.says c.args.disk.now c.loop-row.disk c.check_row.new.disk inv.reads c.check_row.ensures.reads;
      faults = ok.unfailed ∙ inv.faults;
    }

pub returns-in_err-check_row-clause-unfailed : goal.returns-in_err-check_row-clause-unfailed
returns-in_err-check_row-clause-unfailed g c = unless_passed c.from_residual.result c.in_err-check_row.field-0.0 _ c.from_residual.ensures.1 (λ other. c.in_err-check_row.ensures.unfailed other ∙ c.loop-row.invariant.faults)
