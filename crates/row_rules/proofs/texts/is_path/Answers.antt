use Rattle.std.proofs.Common.{◌≡◌, ℕ, Bool, true, false, List, Result, Ok, Err, sym, ap, ◌∙◌}
use Rattle.depot_rows.specs.depot_path.Bytes.{same}
use Rattle.depot_rows.specs.depot_path.Path.{path_of, printed}
use Rattle.depot_rows.specs.depot_path.declared.fault.PathFault.{PathFault}
use Rattle.depot_rows.specs.depot_model.Rules.{is_printed_path}
use Rattle.depot_rows.proofs.Keys.{same-self}
use Rattle.row_rules.proofs.texts.is_path.Goals as goal

printed_path : (text : List ℕ) → path_of text ≡ Ok text → printed text ≡ text → is_printed_path text ≡ true
printed_path text read print =
    ap (λ (r : Result (List ℕ) PathFault). elim r as (λ _. Bool) [ Err fault ↦ false | Ok path ↦ same (printed path) text ]) read ∙ ap (λ t. same t text) print ∙ same-self text

pub returns-then-is_plain_path : goal.returns-then-is_plain_path
returns-then-is_plain_path c =
    let plain = c.if-is_plain_path.true in
    sym (printed_path c.args.text.now (c.is_plain_path.ensures.read plain) (c.is_plain_path.ensures.printed plain))
