use Rattle.std.proofs.Common.{◌≡◌, ◌<◌, ◌≤◌, ◌+◌, ◌++◌, ◌∷◌, ℕ, suc, List, length, map, take, drop, get_or, set, Some, Err, rules, refl, sym, ap, subst, ◌∙◌, arith, length-set}
use Rattle.std.specs.Prelude.{IfErr}
use Rattle.std.proofs.lemmas.List.{length-map, take_all}
use Rattle.outside_api.specs.Reaching.{stays, then}
use Rattle.depot_rows.specs.depot_model.declared.reply.Reply.{Reply}
use Rattle.depot_rows.specs.depot_model.declared.reply.Row.{Row}
use Rattle.depot_rows.specs.table_changes.Changed.{rows_of}
use Rattle.reply_rows.specs.Made.{waiting}
use Rattle.replica_replies.specs.Prints.{IsShown}
use Rattle.replica_answers.specs.Printing.{AreDigested, AreGiven, Gives, GrowsTo, IsDigested, IsFirstFault, IsGivenIn}
use Rattle.replica_answers.proofs.Digests.{contents_more, front_same, fronts, given_more, gives_on}
use Rattle.replica_answers.proofs.Filled.{all_push, around, filled_all, filled_to, next, take_set, waits_set}
use Rattle.replica_answers.proofs.printing.fill_rows.Goals as goal

-- rows that wait for the same are as many
many : (rows other told : List Row) → map waiting rows ≡ map waiting other → other ≡ map waiting told → length rows ≡ length told
many rows other told same is =
    sym (length-map rows waiting) ∙ (ap length same ∙ (length-map other waiting ∙ (ap length is ∙ length-map told waiting)))

pub loop-next-init : goal.loop-next-init
loop-next-init g c = record {
  within = omega arith;
  same = ap (map waiting) c.into_vec-rows.ensures;
  digested = tt;
  told = λ d told before stand shown is tells has. c.into_vec-rows.ensures ∙ is;
  given = λ before told. (before, (told, (front_same before, tt)));
  reached = stays;
  count = refl;
}

pub returns-in_err-fill_row-clause-told : goal.returns-in_err-fill_row-clause-told
returns-in_err-fill_row-clause-told g c = λ d told before stand shown is tells has.
    let e : c.from_residual.result ≡ Err c.in_err-fill_row.field-0.0 = search rules in
    let inv = c.loop-next.invariant in
    let k = c.loop-next.next in
    let items = inv.told d told before stand shown is tells has in
    let mid = inv.given before tells in
    let long = many c.loop-next.rows.items c.args.reply.rows told inv.same is in
    let lt : k < length c.loop-next.rows.items = search rules in
    let n = next (λ (row : Row). (content : List ℕ) → row.content ≡ Some content → IsShown d row content) told shown k (omega (arith, lt, long)) in
    let row = c.index_mut-row.result.now in
    let row_is = c.index_mut-row.ensures.value ∙ (ap (λ (l : List Row). get_or l k row) items ∙ n.here row) in
    let filled = c.in_err-fill_row.ensures.told d n.row mid.0 stand n.so row_is mid.1.0 (contents_more before mid.0 (rows_of c.args.tables.now) d mid.1.1.0 has) in
    let Is : Reply → Type 0 = λ filled. filled.rows ≡ told in
    let Was : Unit {0} → Type 0 = λ _. c.fill_row.new.row ≡ n.row in
    subst (Gives Is) (sym e) (gives_on Was Is c.in_err-fill_row.field-0.0 filled)

pub returns-in_err-fill_row-clause-fault : goal.returns-in_err-fill_row-clause-fault
returns-in_err-fill_row-clause-fault g c = λ before tells.
    let e : c.from_residual.result ≡ Err c.in_err-fill_row.field-0.0 = search rules in
    let inv = c.loop-next.invariant in
    let k = c.loop-next.next in
    let all = rows_of c.args.tables.now in
    let mid = inv.given before tells in
    let lt : k < length c.loop-next.rows.items = search rules in
    let rows = c.loop-next.rows.items in
    let row = c.index_mut-row.result.now in
    let fault = c.in_err-fill_row.ensures.fault mid.0 mid.1.0 in
    let now = fault.1 in
    let apart : rows ≡ take k rows ++ row ∷ drop (suc k) rows = sym (around rows k row lt) ∙ ap (λ (r : Row). take k rows ++ r ∷ drop (suc k) rows) (sym c.index_mut-row.ensures.value) in
    subst (λ r. IfErr r (λ fault. GrowsTo (g.C.Contents.tells c.fill_row.new.contents) before (λ now. IsFirstFault all now c.args.reply.rows fault))) (sym e) (
      now.0,
      (
        now.1.0,
        (
          fronts before mid.0 now.0 mid.1.1.0 now.1.1.0,
          record {
            before = take k rows;
            row = row;
            after = drop (suc k) rows;
            are = sym inv.same ∙ ap (map waiting) apart;
            given = given_more all mid.0 now.0 (take k rows) now.1.1.0 mid.1.1.1;
            waits = fault.0;
            fault_is = now.1.1.1;
          },
        ),
      ),
    )

pub returns-in_err-fill_row-clause-reached : goal.returns-in_err-fill_row-clause-reached
returns-in_err-fill_row-clause-reached g c = then c.loop-next.invariant.reached c.fill_row.ensures.reached

pub loop-next-preserved : goal.loop-next-preserved
loop-next-preserved g c =
    let inv = c.loop-next.invariant in
    let k = c.loop-next.next in
    let all = rows_of c.args.tables.now in
    let rows = c.loop-next.rows.items in
    let row = c.index_mut-row.result.now in
    let new = c.fill_row.new.row in
    let lt : k < length rows = search rules in
    let up : suc k ≡ k + 1 = omega arith in
    record {
      within = (let long = length-set rows k new in omega (arith, lt, long));
      same = waits_set rows k new row (c.in_ok-fill_row.ensures.same ∙ ap waiting c.index_mut-row.ensures.value) ∙ inv.same;
      digested = subst (λ (m : ℕ). AreDigested all (take m (set rows k new))) up
          (subst (AreDigested all) (sym (take_set rows k new lt))
          (all_push (λ r. (content : List ℕ) → r.content ≡ Some content → IsDigested all r content) (take k rows) new inv.digested c.in_ok-fill_row.ensures.digested));
      told = λ d told before stand shown is tells has.
          let items = inv.told d told before stand shown is tells has in
          let mid = inv.given before tells in
          let long = many rows c.args.reply.rows told inv.same is in
          let n = next (λ (r : Row). (content : List ℕ) → r.content ≡ Some content → IsShown d r content) told shown k (omega (arith, lt, long)) in
          let row_is = c.index_mut-row.ensures.value ∙ (ap (λ (l : List Row). get_or l k row) items ∙ n.here row) in
          let filled = c.in_ok-fill_row.ensures.told d n.row mid.0 stand n.so row_is mid.1.0 (contents_more before mid.0 all d mid.1.1.0 has) in
          subst (λ (m : ℕ). set rows k new ≡ filled_to m told) up ((λ i. set (items i) k (filled i)) ∙ n.put);
      given = λ before tells.
          let mid = inv.given before tells in
          let next = c.in_ok-fill_row.ensures.given mid.0 mid.1.0 in
          let all_so = all_push (IsGivenIn all next.0) (take k rows) new (given_more all mid.0 next.0 (take k rows) next.1.1.0 mid.1.1.1) next.1.1.1 in (
            next.0,
            (
              next.1.0,
              (
                fronts before mid.0 next.0 mid.1.1.0 next.1.1.0,
                subst (λ (m : ℕ). AreGiven all next.0 (take m (set rows k new))) up (subst (AreGiven all next.0) (sym (take_set rows k new lt)) all_so),
              ),
            ),
          );
      reached = then inv.reached c.fill_row.ensures.reached;
      count = c.in_ok-fill_row.ensures.only ∙ inv.count;
    }

pub returns-clause-told : goal.returns-clause-told
returns-clause-told g c = λ d told before stand shown is tells has.
    let inv = c.loop-next.invariant in
    let items = inv.told d told before stand shown is tells has in
    let long = many c.loop-next.rows.items c.args.reply.rows told inv.same is in
    let end : length c.loop-next.rows.items ≤ c.loop-next.next = search rules in
    c.from_vec.ensures ∙ (items ∙ filled_all c.loop-next.next told (omega (arith, end, long)))

pub returns-clause-given : goal.returns-clause-given
returns-clause-given g c = λ before tells.
    let now = c.loop-next.invariant.given before tells in
    let end : length c.loop-next.rows.items ≤ c.loop-next.next = search rules in
    let whole = take_all c.loop-next.next c.loop-next.rows.items end ∙ sym c.from_vec.ensures in
    (now.0, (now.1.0, (now.1.1.0, subst (AreGiven (rows_of c.args.tables.now) now.0) whole now.1.1.1)))
