use Rattle.std.proofs.Common.{[], ap, get_or, length, subst, arith}
use Rattle.protect_table.specs.Numbers.{is_of, is_of_many, numbers_at}
use Rattle.protect_table.specs.declared.mode.Grantee.TheVariants.{User, Group}
use Rattle.protect_table.proofs.Naming.{AreWithin, group_more, of_table, rise_as, still_within, within_all}
use Rattle.protect_table.proofs.protects.Protects.last_said.Goals as goal

pub last_of-of_many-requires-clause-rising : goal.last_of-of_many-requires-clause-rising
last_of-of_many-requires-clause-rising c =
    let are = of_table _ _ c.args.self.now c.deref.ensures c.self.view_is c.self.invariant in
    rise_as c.as_slice.result.now c.deref.result.now.numbers.others is_of_many c.args.self.now c.as_slice.ensures are.others

pub last_of-last-requires-clause-rising : goal.last_of-last-requires-clause-rising
last_of-last-requires-clause-rising c =
    let are = of_table _ _ c.args.self.now c.deref.ensures c.self.view_is c.self.invariant in
    rise_as c.numbers_at-own.result.now _ (is_of User c.args.asked.now.who.now.user) c.args.self.now c.numbers_at-own.ensures (are.users c.args.asked.now.who.now.user)

pub loop-i-init : goal.loop-i-init
loop-i-init c =
    let asked = c.args.asked.now in
    let last = c.last_of-last in
    record {
      said = last.ensures.said;
      many = subst (AreWithin asked c.args.self.now last.result) c.as_slice.ensures
          (still_within asked c.args.self.now c.last_of-of_many.result last.result c.as_slice.result.now last.ensures.later c.last_of-of_many.ensures.within);
      own = subst (AreWithin asked c.args.self.now last.result) c.numbers_at-own.ensures last.ensures.within;
      of_groups = λ i low. absurd (omega (arith, low));
    }

pub last_of-last-requires-in-loop-i-clause-rising : goal.last_of-last-requires-in-loop-i-clause-rising
last_of-last-requires-in-loop-i-clause-rising c =
    let are = of_table _ _ c.args.self.now c.deref.ensures c.self.view_is c.self.invariant in
    rise_as c.numbers_at-of_group.result.now _ (is_of Group c.index-groups-i.result) c.args.self.now c.numbers_at-of_group.ensures (are.groups c.index-groups-i.result)

pub last_of-last-requires-in-loop-i-clause-said : goal.last_of-last-requires-in-loop-i-clause-said
last_of-last-requires-in-loop-i-clause-said c = c.loop-i.invariant.said

pub loop-i-preserved : goal.loop-i-preserved
loop-i-preserved c =
    let next = c.last_of-last-in-loop-i.ensures in
    group_more (omega arith) c.loop-i.invariant next.later next.said c.numbers_at-of_group.ensures c.index-groups-i.is next.within

pub returns-clause-said : goal.returns-clause-said
returns-clause-said c = c.loop-i.invariant.said

pub returns-clause-within : goal.returns-clause-within
returns-clause-within c =
    let are = of_table _ _ c.args.self.now c.deref.ensures c.self.view_is c.self.invariant in
    let h = c.loop-i.invariant in
    within_all c.args.asked.now c.deref.result.now.numbers c.args.self.now c.loop-i.last are h.many h.own
    (λ i low. subst (λ names. AreWithin c.args.asked.now c.args.self.now c.loop-i.last (numbers_at c.deref.result.now.numbers.groups (get_or names i []))) c.as_slice-groups.ensures
    (h.of_groups i (omega (arith, low, c.loop-i-test.false, ap length c.as_slice-groups.ensures))))
