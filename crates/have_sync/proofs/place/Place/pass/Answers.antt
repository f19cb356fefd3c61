use Rattle.std.specs.Option.{option_copied}
use Rattle.have_sync.proofs.Onward.{left_behind}
use Rattle.have_sync.proofs.place.Place.pass.Goals as goal

pub returns-clause-place : goal.returns-clause-place
returns-clause-place c = λ key by e.
    let was = c.args.self.now in
    let on = left_behind key by.front was.rest was.version.now.rows (option_copied was.next) c.take_next-self.new.rest (option_copied c.take_next-self.result) by.fits.joined e c.take_next-self.ensures.first by.below in
    record {
      front = on.0;
      fits = record {
        joined = on.1;
        ends = on.2;
        all = c.take_next-self.ensures.none;
      };
      below = on.3;
    }
