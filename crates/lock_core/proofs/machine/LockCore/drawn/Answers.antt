use Rattle.std.proofs.Common.{◌≡◌, ℕ, length, sym, ap, ◌∙◌}
use Rattle.std.specs.Prelude.{◌%◌, slice_get}
use Rattle.lock_core.specs.Drawing.{going_parties}
use Rattle.lock_core.proofs.Chosen.{all_going, none_chosen, one_chosen}
use Rattle.lock_core.proofs.machine.LockCore.drawn.Goals as goal

pub returns-then-count-eq0 : goal.returns-then-count-eq0
returns-then-count-eq0 c = λ start s shows few.
    let all = all_going start c.args.self.now s c.args.others.now shows few c.party_count-end.result c.party_count-end.ensures in
    sym (none_chosen (going_parties s c.args.others.now) c.args.value (ap (length {A = ℕ}) (sym all) ∙ (sym c.count_below-count.ensures ∙ c.if-count-eq0.true)))

pub returns : goal.returns
returns c = λ start s shows few.
    let all = all_going start c.args.self.now s c.args.others.now shows few c.party_count-end.result c.party_count-end.ensures in
    let count_is : c.count_below-count.result ≡ length (going_parties s c.args.others.now) = c.count_below-count.ensures ∙ ap (length {A = ℕ}) all in
    c.nth_below.ensures
    ∙ ((λ k. slice_get (all k) (c.args.value % count_is k)) ∙ sym (one_chosen (going_parties s c.args.others.now) c.args.value (λ none. c.if-count-eq0.false (count_is ∙ none))))
