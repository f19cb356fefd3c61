use Rattle.std.proofs.Common.{◌≡◌, ◌++◌, Bool, true, false, subst, sym, ◌∙◌}
use Rattle.std.specs.Prelude.{OnOk}
use Rattle.record_text.specs.Layout.{working_parts, is_move}
use Rattle.record_text.specs.Grammar.{parts_spelling}
use Rattle.record_text.proofs.printing.put_working.Goals as goal

pub returns-then-moves : goal.returns-then-moves
returns-then-moves c =
    let m : true ≡ is_move c.args.row.now.action = sym c.if-moves.true ∙ c.moves.ensures in
    subst (λ (b : Bool). OnOk c.put_row.result (c.put_row.new.out.items ≡ c.args.out.now.items ++ parts_spelling (working_parts b c.args.row.now))) m c.put_row.ensures

pub returns-else-moves : goal.returns-else-moves
returns-else-moves c =
    let m : false ≡ is_move c.args.row.now.action = sym c.if-moves.false ∙ c.moves.ensures in
    subst (λ (b : Bool). OnOk c.put_row-else-moves.result (c.put_row-else-moves.new.out.items ≡ c.args.out.now.items ++ parts_spelling (working_parts b c.args.row.now))) m c.put_row-else-moves.ensures
