use Rattle.std.proofs.Common.{◌≡◌, ◌++◌, length}
use Rattle.std.specs.Vec.Iter.{into_iter_items, into_iter_len}
use Rattle.table_changes.proofs.Drafts.{AllPut}
use Rattle.table_changes.proofs.draft.TablesDraft.finish.Given as goal

-- the drafts that were taken are put
abbrev pub invariant-loop-draft : goal.invariant-loop-draft
invariant-loop-draft l =
    record {
      items : l.yielded ++ into_iter_items l.draft-iterator ≡ l.fn.self.drafts.items;
      left : into_iter_len l.draft-iterator ≡ length (into_iter_items l.draft-iterator);
      put : AllPut l.fn.self.drafts.items l.fn.self.in_order l.tables (length l.yielded);
    }
