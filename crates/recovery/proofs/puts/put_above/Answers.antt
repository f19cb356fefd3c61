use Rattle.std.proofs.Common.{◌≡◌, Bool, true, false, [], ◌∷◌, ◌++◌, Option, sym, subst}
use Rattle.depot_rows.specs.db_records.declared.change.Change.{Change}
use Rattle.depot_rows.specs.table_changes.Drafts.{rows_of_draft}
use Rattle.recovery.specs.Reading.{HasPut}
use Rattle.recovery.proofs.Taken.{last_put, one_put}
use Rattle.recovery.proofs.puts.put_above.Goals as goal

not_both : {b : Bool} → b ≡ false → b ≡ true → ⊥
not_both e h = cc

pub put_waiting-requires : goal.put_waiting-requires
put_waiting-requires c =
    (c.requires.0, subst (λ (last : Option Change). HasPut c.requires.0 last (rows_of_draft c.args.draft.now)) (sym c.replace.ensures.value) c.requires.1)

pub returns-then-not-follows-clause-none : goal.returns-then-not-follows-clause-none
returns-then-not-follows-clause-none c = λ puts has _ more.
    let rows = rows_of_draft c.args.draft.now in
    not_both c.if-not-follows.true ((c.follows.ensures puts has.are_puts (last_put puts c.args.last.now rows has)).1 more)

pub returns-clause-above : goal.returns-clause-above
returns-clause-above c = λ puts has _.
    let rows = rows_of_draft c.args.draft.now in
    let more = (c.follows.ensures puts has.are_puts (last_put puts c.args.last.now rows has)).0 c.if-not-follows.false in
    let here = subst (λ (last : Option Change). HasPut puts last rows) (sym c.replace.ensures.value) has in
    subst (λ (last : Option Change). HasPut (puts ++ c.args.change ∷ []) last (rows_of_draft c.put_waiting.new.draft)) (sym c.replace.ensures.after)
    (one_put puts (rows_of_draft c.put_waiting.new.draft) c.args.change more (c.in_ok-put_waiting.ensures puts here))
