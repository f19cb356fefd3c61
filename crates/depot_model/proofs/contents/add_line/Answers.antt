use Rattle.std.proofs.Common.{◌++◌, ◌∷◌, [], Result, Ok, Err, sym, ap, ◌∙◌, OnErr}
use Rattle.std.specs.Map.{set_value}
use Rattle.indexmap.specs.IndexMap.{insert_entry}
use Rattle.std.proofs.lemmas.Map.Steps.{set_value_same}
use Rattle.db_records.specs.depot_path.Bytes.{same}
use Rattle.depot_model.proofs.Lines.{set_line, insert_line}
use Rattle.depot_model.proofs.contents.add_line.Goals as goal

on_error : {T E : Type 0} (r : Result T E) {Q : Type 0} → Q → OnErr r Q
on_error (Ok x) h = tt
on_error (Err e) h = h

pub returns-in_err-push-in-Some-clause-err : goal.returns-in_err-push-in-Some-clause-err
returns-in_err-push-in-Some-clause-err c =
    let files = c.args.files.now.entries in
    on_error c.from_residual.result
    ((c.get_mut.follows.holds c.push.new.self).0
    ∙ (ap (λ ls. set_value (same c.args.path) files ls) c.in_err-push-in-Some.ensures.err
    ∙ set_value_same (same c.args.path) files c.in-Some.lines.now (sym c.in-Some.ensures.value)))

pub returns-in_ok-push-in-Some-clause-ok : goal.returns-in_ok-push-in-Some-clause-ok
returns-in_ok-push-in-Some-clause-ok c =
    let files = c.args.files.now.entries in
    (c.get_mut.follows.holds c.push.new.self).0
    ∙ (ap (λ ls. set_value (same c.args.path) files ls) c.in_ok-push-in-Some.ensures.ok
    ∙ set_line files c.args.path c.in-Some.lines.now c.args.line (sym c.in-Some.ensures.value))

pub returns-in_ok-insert-in-None-clause-ok : goal.returns-in_ok-insert-in-None-clause-ok
returns-in_ok-insert-in-None-clause-ok c =
    let files = c.args.files.now.entries in
    let same_files = ap (λ m. insert_entry same m.entries c.args.path c.push-in-None.new.self) (c.get_mut.follows.holds-at-none) in
    c.in_ok-insert-in-None.ensures.entries ∙ (same_files
    ∙ (ap (λ ls. insert_entry same files c.args.path ls) (c.in_ok-push-in-None.ensures.ok ∙ ap (λ ls. ls ++ c.args.line ∷ []) c.new-lines.ensures)
    ∙ insert_line files c.args.path c.args.line (sym c.in-None.ensures.value)))
