use Rattle.std.proofs.Common.{◌≡◌, ◌+◌, ℕ, suc, sym, subst, arith, slice_set}
use Rattle.table_changes.specs.Changed.{rows_of}
use Rattle.table_locks.specs.Prepared.{FollowFrom, Follows}
use Rattle.table_locks.proofs.Adding.{on_ok}
use Rattle.table_locks.proofs.Following.{follow_end, follow_step}
use Rattle.table_locks.proofs.preparing.+follow_from.Goals as goal

pub returns-then-from-held : goal.returns-then-from-held
returns-then-from-held g t c =
    let after = rows_of c.args.after.now in
    let changes = c.args.changes.now in
    let from = c.args.from in
    let olds = slice_set c.args.held.now from c.follow.new.held in
    let news = c.follow_from.new.held in
    let one = subst (λ h. Follows after changes h c.follow.new.held) (sym c.index-held-from.is) c.in_ok-follow.ensures in
    let next : from + 1 ≡ suc from = omega arith in
    on_ok c.follow_from.result (λ learnt. follow_step after changes from c.args.held.now news c.index-held-from.result c.follow.new.held c.index-held-from.is one (subst (λ (n : ℕ). FollowFrom n after changes olds news) next learnt)) c.follow_from.ensures

pub returns : goal.returns
returns g t c = follow_end (rows_of c.args.after.now) c.args.changes.now c.args.from c.args.held.now (omega arith)
