use Rattle.std.proofs.Common.{◌≡◌, List, [], ◌∷◌, ◌++◌, length, sym, ap, subst, ◌∙◌, append_assoc, append-nil, arith}
use Rattle.std.proofs.lemmas.List.{nil_from_length}
use Rattle.std.specs.Vec.Iter.{into_iter_items}
use Rattle.table_store.specs.Rows.{TableRows}
use Rattle.table_changes.proofs.Drafts.{AllPut, all_put, next_put, same_versions}
use Rattle.table_changes.proofs.draft.TablesDraft.finish.Goals as goal

pub loop-draft-preserved : goal.loop-draft-preserved
loop-draft-preserved c =
    let at = c.loop-draft in
    let self = c.args.self in
    let draft = c.in-Some.draft in
    let rest = into_iter_items c.next.new.self in
    let steps : into_iter_items at.draft-iterator ≡ draft ∷ rest = c.in-Some.ensures.steps.0 in
    let parts : at.yielded ++ draft ∷ rest ≡ self.drafts.items = rw (← steps) at.invariant.items in
    record {
      items = append_assoc at.yielded (draft ∷ []) rest ∙ parts;
      left =
          let was = at.invariant.left in
          let gone = c.in-Some.ensures.steps.1 in
          let short = ap length steps in
          omega arith;
      put = next_put self.drafts.items self.in_order at.yielded rest draft parts at.tables c.put.new.self c.in_ok-finish.field-0 c.in_ok-finish.ensures c.put.ensures.this_table c.put.ensures.others at.invariant.put;
    }

pub returns-clause-rows : goal.returns-clause-rows
returns-clause-rows c =
    let at = c.loop-draft in
    let self = c.args.self in
    let none : into_iter_items at.draft-iterator ≡ [] = nil_from_length (into_iter_items at.draft-iterator) (sym at.invariant.left ∙ c.in-None.ensures.steps.0) in
    let all : at.yielded ≡ self.drafts.items = sym (append-nil at.yielded) ∙ rw (← none) at.invariant.items in
    let Put : List TableRows → Type 0 = λ drafts. AllPut self.drafts.items self.in_order at.tables (length drafts) in
    same_versions at.tables c.set_archive_end.new.self c.set_archive_end.ensures.versions ∙ all_put self.drafts.items self.in_order at.tables (subst Put all at.invariant.put)
