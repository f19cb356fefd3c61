use Rattle.std.proofs.Common.{◌≡◌, List, sym, subst}
use Rattle.locked_tables.specs.Held.{AllNext, OnlyChange, lanes_next}
use Rattle.locked_tables.specs.Taken.{rows_after}
use Rattle.locked_tables.specs.declared.held_table.HeldTable.{HeldTable}
use Rattle.order_words.specs.Lanes.{is_among}
use Rattle.depot_model.specs.db_records.Table.{table_number}
use Rattle.depot_model.specs.db_records.declared.table.TableId.{TableId}
use Rattle.table_changes.specs.Changed.{rows_of}
use Rattle.table_locks.specs.Confirmed.{tables_of}
use Rattle.table_locks.specs.Prepared.{AllFollow, is_changed}
use Rattle.table_locks.proofs.Fitting.{still_known}
use Rattle.table_locks.proofs.Next.{all_next, lanes_exact, only_next, tables_follow}
use Rattle.table_locks.proofs.Written.{length_follow, rewritten}
use Rattle.table_locks.proofs.confirmed.Confirmed.prepare.Goals as goal

pub returns-clause-prepared : goal.returns-clause-prepared
returns-clause-prepared g c = λ order gathered confirmed made.
    let start = g.N.Naming.rows in
    let changes = c.args.changes.now in
    let after = rows_of c.args.after.now in
    let olds = c.args.self.held.items in
    let news = c.follow_from.new.held in
    let follow : AllFollow after changes olds news = subst (λ (l : List (HeldTable _)). AllFollow after changes l news) c.as_mut_slice.ensures.value c.in_ok-follow_from.ensures in
    let written = rewritten c.args.self.held.len olds news c.args.self.held.ok.0 (length_follow after changes olds news follow) in
    record {
      next = subst (AllNext start changes) (sym written) (all_next changes after start (rows_after start order) (λ i table. made table i) olds news follow (still_known start order olds confirmed.known));
      lanes = subst (λ (l : List (HeldTable _)). (table : TableId) → is_among (table_number table) (lanes_next l) ≡ is_changed changes table) (sym written) (lanes_exact changes after olds news follow c.requires.held);
      only = subst (λ (l : List (HeldTable _)). OnlyChange changes (lanes_next l)) (sym written) (only_next changes after olds news follow c.requires.held);
    }

pub returns-clause-held : goal.returns-clause-held
returns-clause-held g c =
    let changes = c.args.changes.now in
    let after = rows_of c.args.after.now in
    let olds = c.args.self.held.items in
    let news = c.follow_from.new.held in
    let follow : AllFollow after changes olds news = subst (λ (l : List (HeldTable _)). AllFollow after changes l news) c.as_mut_slice.ensures.value c.in_ok-follow_from.ensures in
    let written = rewritten c.args.self.held.len olds news c.args.self.held.ok.0 (length_follow after changes olds news follow) in
    subst (λ (l : List (HeldTable _)). tables_of l ≡ tables_of olds) (sym written) (tables_follow changes after olds news follow)
