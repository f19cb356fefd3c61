use Rattle.std.proofs.Common.{sym, subst, ◌∙◌}
use Rattle.std.specs.Option.{option_copied}
use Rattle.depot_rows.specs.table_store.Rows.{IsRising}
use Rattle.have_sync.proofs.Onward.{all_below}
use Rattle.have_sync.proofs.place.Place.go_near.Goals as goal

pub returns-clause-place : goal.returns-clause-place
returns-clause-place c = λ at is.
    let was = c.args.self.now in
    c.go_on-reached.ensures.place (record {
      front = at.front;
      fits = at.fits;
      below = all_below c.args.key.now at.front was.rest (option_copied was.passed) (option_copied was.next) at.fits.ends (subst IsRising (sym at.fits.joined) c.table-table.ensures.rising)
          (sym c.has_passed_to-passed.ensures ∙ c.if-not-passed.false);
    })
