use Rattle.std.proofs.Common.{◌++◌, List, sym, ap, ◌∙◌}
use Rattle.depot_rows.specs.db_records.declared.record.Record.{Record}
use Rattle.have_sync.proofs.Onward.{first_from, parted}
use Rattle.have_sync.proofs.place.Place.search.Goals as goal

pub returns-clause-place : goal.returns-clause-place
returns-clause-place c = λ up.
    let key = c.args.key.now in
    let rows = c.args.self.now.version.now.rows in
    let parts = parted key rows up in
    record {
      front = parts.front;
      fits = record {
        joined = ap (λ (l : List Record). parts.front ++ l) (sym c.take_next-self.ensures.first ∙ c.from_key-self.ensures) ∙ parts.joined;
        ends = tt;
        all = c.take_next-self.ensures.none;
      };
      below = parts.below;
    }

pub returns-clause-reached : goal.returns-clause-reached
returns-clause-reached c = first_from c.args.key.now c.args.self.now.version.now.rows _ _ (sym c.from_key-self.ensures ∙ c.take_next-self.ensures.first)
