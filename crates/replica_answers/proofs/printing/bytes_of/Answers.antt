use Rattle.std.proofs.Common.{◌≡◌, ◌≤◌, ◌+◌, ◌-◌, ◌++◌, ℕ, List, length, take, drop, Err, rules, sym, ap, subst, ◌∙◌, arith, length-append}
use Rattle.outside_api.specs.Reaching.{goes_on, stays}
use Rattle.archive_file.specs.Archive.{Has}
use Rattle.replica_answers.proofs.Digests.{front_longer, fronts, has_more, joined}
use Rattle.replica_answers.proofs.printing.bytes_of.Goals as goal

pub returns-in_err-piece_at-clause-absent : goal.returns-in_err-piece_at-clause-absent
returns-in_err-piece_at-clause-absent g c = λ now at told is.
    let e : c.from_residual.result ≡ Err c.in_err-piece_at.field-0.0 = search rules in
    let lack = c.in_err-piece_at.ensures.absent now at told (sym e ∙ is) in
    (lack.0, omega (arith, lack.1, c.saturating_add-end.ensures))

pub returns-in_err-piece_at-clause-reached : goal.returns-in_err-piece_at-clause-reached
returns-in_err-piece_at-clause-reached g c = goes_on stays c.piece_at.ensures.keeps

none_taken : (n : ℕ) (l : List ℕ) → take (n - n) l ≡ take 0 l
none_taken n l = let none : n - n ≡ 0 = omega arith in ap (λ (k : ℕ). take k l) none

pub loop-at-init : goal.loop-at-init
loop-at-init g c =
    let place = c.args.revision.now.at in
    record {
      above = omega arith;
      within = search rules;
      long = (let none = ap length c.new-bytes.ensures.items in omega (arith, none));
      told = λ before told.
          let now = c.piece_at.ensures.grows before told in
          let end = c.in_ok-piece_at.ensures.piece now.0 now.1.0 in
          let start : place ≤ c.saturating_add-end.result = search rules in (
            now.0,
            (
              now.1.0,
              (
                now.1.1,
                (
                  omega (arith, end.within),
                  record {
                    within = omega (arith, end.within, start);
                    is = none_taken place (drop place now.0) ∙ sym c.new-bytes.ensures.items;
                  },
                ),
              ),
            ),
          );
      reached = goes_on stays c.piece_at.ensures.keeps;
      count = c.in_ok-piece_at.ensures.only;
    }

pub returns-in_err-piece-clause-absent : goal.returns-in_err-piece-clause-absent
returns-in_err-piece-clause-absent g c = λ now at told is.
    let e : c.from_residual-in_err-piece.result ≡ Err c.in_err-piece.field-0.0 = search rules in
    let lack = c.in_err-piece.ensures.absent now at told (sym e ∙ is) in
    (lack.0, omega (arith, lack.1, c.min-length.ensures, c.loop-at.invariant.within, c.loop-at-test.true, c.saturating_add-end.ensures))

pub returns-in_err-piece-clause-reached : goal.returns-in_err-piece-clause-reached
returns-in_err-piece-clause-reached g c = goes_on c.loop-at.invariant.reached c.piece_at-in-loop-at.ensures.keeps

pub returns-in_err-extend_from_slice-clause-reached : goal.returns-in_err-extend_from_slice-clause-reached
returns-in_err-extend_from_slice-clause-reached g c = goes_on c.loop-at.invariant.reached c.piece_at-in-loop-at.ensures.keeps

pub loop-at-preserved : goal.loop-at-preserved
loop-at-preserved g c =
    let inv = c.loop-at.invariant in
    let place = c.args.revision.now.at in
    let at = c.loop-at.at in
    let n = c.min-length.result in
    let bytes = c.loop-at.bytes.items in
    let piece = c.in_ok-piece.piece in
    let items : c.extend_from_slice.new.self.items ≡ bytes ++ piece = c.in_ok-extend_from_slice.ensures.items ∙ ap (λ (l : List ℕ). bytes ++ l) c.as_bytes.ensures in
    record {
      above = omega (arith, inv.above);
      within = omega (arith, inv.within, c.min-length.ensures, c.loop-at-test.true);
      long = (let long = ap length items ∙ length-append bytes piece in omega (arith, long, inv.long, c.in_ok-piece.ensures.whole));
      told = λ before told.
          let mid = inv.told before told in
          let next = c.piece_at-in-loop-at.ensures.grows mid.0 mid.1.0 in
          let own = has_more mid.0 next.0 (record { at = place; length = at - place }) bytes next.1.1 mid.1.1.1.1 in
          let more = c.in_ok-piece.ensures.piece next.0 next.1.0 in
          let behind : at ≡ place + (at - place) = omega (arith, inv.above) in
          let both = joined next.0 place (at - place) n bytes piece own (subst (λ (p : ℕ). Has next.0 (record { at = p; length = n }) piece) behind more) in
          let size : (at - place) + n ≡ (at + n) - place = omega (arith, inv.above) in
          let whole : Has next.0 (record { at = place; length = (at - place) + n }) c.extend_from_slice.new.self.items =
          subst (λ (l : List ℕ). Has next.0 (record { at = place; length = (at - place) + n }) l) (sym items) both in (
            next.0,
            (
              next.1.0,
              (
                fronts before mid.0 next.0 mid.1.1.0 next.1.1,
                (omega (arith, mid.1.1.1.0, front_longer mid.0 next.0 next.1.1), subst (λ (k : ℕ). Has next.0 (record { at = place; length = k }) c.extend_from_slice.new.self.items) size whole),
              ),
            ),
          );
      reached = goes_on inv.reached c.piece_at-in-loop-at.ensures.keeps;
      count = c.in_ok-piece.ensures.only ∙ inv.count;
    }
