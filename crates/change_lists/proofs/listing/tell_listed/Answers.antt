use Rattle.std.proofs.Common.{Bor, Option, sym, ap, ◌∙◌, [], ◌∷◌}
use Rattle.std.specs.Prelude.{option_map}
use Rattle.std.specs.Option.{option_copied}
use Rattle.depot_rows.specs.db_records.declared.record.Record.TheVariants as records
use Rattle.depot_rows.specs.db_records.declared.rows.ChangeRecord.{ChangeRecord}
use Rattle.depot_rows.specs.depot_model.declared.reply.Row.{Row}
use Rattle.change_lists.proofs.ListedRows.{none_asked, none_shown, one_listed}
use Rattle.change_lists.proofs.listing.tell_listed.Goals.{else-passes-via-then-passes+in_ok-is_listed+else-branch, else-passes-via-else-passes}
use Rattle.change_lists.proofs.listing.tell_listed.Goals as goal

pub returns-then-branch : goal.returns-then-branch
returns-then-branch c = λ d caller sound asked has_change has_rev.
    let f = c.args.filter.now in
    ap (λ (t : Row). t ∷ []) c.in_ok-told.ensures
    ∙ one_listed d caller f.status.now f.user.now f.client.now c.args.change c.in-Some.row.now
    (ap (λ (o : Option (Bor ChangeRecord)). option_map records.Change (option_copied o)) (sym c.in-Some.is) ∙ c.change_of.ensures d has_change)
    (sym c.if-passes.true ∙ c.passes.ensures) (sym c.if-branch.true ∙ c.in_ok-is_listed.ensures d caller sound asked has_rev)

pub returns : goal.returns
returns c = λ d caller sound asked has_change has_rev.
    let f = c.args.filter.now in
    let is = ap (λ (o : Option (Bor ChangeRecord)). option_map records.Change (option_copied o)) (sym c.in-Some.is) ∙ c.change_of.ensures d has_change in
    elim c.else-passes.branch [
      | else-passes-via-then-passes+in_ok-is_listed+else-branch w ↦
          none_shown d caller f.status.now f.user.now f.client.now c.args.change c.in-Some.row.now is (sym w.if-branch.false ∙ w.in_ok-is_listed.ensures d caller sound asked has_rev)
      | else-passes-via-else-passes w ↦ none_asked d caller f.status.now f.user.now f.client.now c.args.change c.in-Some.row.now is (sym w.if-passes.false ∙ c.passes.ensures)
    ]
