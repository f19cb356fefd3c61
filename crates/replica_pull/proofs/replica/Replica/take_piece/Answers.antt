use Rattle.std.proofs.Common.{◌≡◌, ℕ, ◌+◌, ◌-◌, [], length, refl, sym, ◌∙◌, ap, arith, length-append}
use Rattle.depot_rows.specs.table_changes.Changed.{rows_of}
use Rattle.journal_groups.specs.Reader.{State}
use Rattle.replica_pull.specs.Replica.{with_piece}
use Rattle.replica_pull.proofs.Pieces.{many_taken, rest_taken, rest_waits}
use Rattle.replica_pull.proofs.replica.Replica.take_piece.Goals as goal

pub overflow_add-self-3 : goal.overflow_add-self-3
overflow_add-self-3 c =
    let r = c.args.self.now in
    let fed = c.in_ok-taken.ensures.fed in
    let many = many_taken r.filter (with_piece r c.args.piece.now) fed.1.0 (rows_of r.tables) (rows_of c.in_ok-taken.field-0.taken.tables) fed.0 fed.1.1.1.1.0 in
    omega (arith, many, fed.1.1.0, length-append r.rest c.args.piece.now, r.numbered, r.at_within, r.short, c.in_ok-taken.ensures.room)

pub overflow_add-self-4 : goal.overflow_add-self-4
overflow_add-self-4 c =
    let r = c.args.self.now in
    let fed = c.in_ok-taken.ensures.fed in
    let many = many_taken r.filter (with_piece r c.args.piece.now) fed.1.0 (rows_of r.tables) (rows_of c.in_ok-taken.field-0.taken.tables) fed.0 fed.1.1.1.1.0 in
    omega (arith, many, fed.1.1.0, length-append r.rest c.args.piece.now, r.counted, r.last, r.short, c.in_ok-taken.ensures.room)

pub invariant_of-self : goal.invariant_of-self
invariant_of-self c =
    let r = c.args.self.now in
    let fed = c.in_ok-taken.ensures.fed in
    let many = many_taken r.filter (with_piece r c.args.piece.now) fed.1.0 (rows_of r.tables) (rows_of c.in_ok-taken.field-0.taken.tables) fed.0 fed.1.1.1.1.0 in
    let left : length fed.1.0.left ≡ length c.in_ok-taken.field-0.rest = ap length fed.1.1.1.0 in
    let both = length-append r.rest c.args.piece.now in
    record {
      rest_within = omega (arith, many, left, both, r.rest_within);
      at_within = omega (arith, r.at_within);
      short = omega (arith, c.in_ok-taken.ensures.room);
      numbered = omega (arith, many, left, both, fed.1.1.0, r.numbered);
      counted = omega (arith, many, left, both, fed.1.1.0, r.counted);
      last = r.last;
    }

pub returns-clause-taken : goal.returns-clause-taken
returns-clause-taken c =
    let r = c.args.self.now in
    let piece = c.args.piece.now in
    let fed = c.in_ok-taken.ensures.fed in
    let groups = fed.0 in
    let now = fed.1.0 in
    let count = fed.1.1.0 in
    let taken = fed.1.1.1.1.0 in
    let rows = rows_of c.in_ok-taken.field-0.taken.tables in
    let rest = c.in_ok-taken.field-0.rest in
    let later : State = record { left = rest; at = (r.at + length piece) - length rest; number = r.number + c.in_ok-taken.field-0.taken.groups; records = []; reached = (r.at + length piece) - length rest } in
    let many = many_taken r.filter (with_piece r piece) now (rows_of r.tables) rows groups taken in
    let left : length now.left ≡ length rest = ap length fed.1.1.1.0 in
    let number : now.number ≡ r.number + c.in_ok-taken.field-0.taken.groups = taken.number ∙ ap (λ (n : ℕ). r.number + n) (sym count) in
    let at : now.at ≡ (r.at + length piece) - length rest = omega (arith, taken.place, many, left, length-append r.rest piece, r.rest_within) in
    record {
      filter = refl;
      generation = refl;
      at = refl;
      taken = refl;
      groups = groups;
      count_is = count;
      are = rest_taken r.filter now later fed.1.1.1.0 number at (with_piece r piece) (rows_of r.tables) rows groups taken;
      waits = rest_waits r.filter now later fed.1.1.1.0 number at rows fed.1.1.1.1.1;
      changes = refl;
    }
