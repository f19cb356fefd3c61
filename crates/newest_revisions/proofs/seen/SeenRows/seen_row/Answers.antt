use Rattle.std.proofs.Common.{sym, subst}
use Rattle.std.specs.List.{All}
use Rattle.named_files.specs.HeadRows.{IsHead}
use Rattle.newest_revisions.specs.Seen.{kept}
use Rattle.newest_revisions.proofs.NewestRead.{newest_is}
use Rattle.newest_revisions.proofs.seen.SeenRows.seen_row.Goals as goal

pub returns-clause-heads : goal.returns-clause-heads
returns-clause-heads c = λ rows are. subst (All (IsHead rows)) (sym c.go_to-row.ensures.rows) are

pub returns-clause-row : goal.returns-clause-row
returns-clause-row c = λ r e rows are.
    let said = c.go_to-row.ensures in
    newest_is rows c.args.path.now c.in_ok-text.text (kept c.args.self.now) c.go_to-row.result c.in_ok-text.ensures.printed said.path said.found are r e
