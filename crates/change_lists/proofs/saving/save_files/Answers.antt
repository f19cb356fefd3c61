use Rattle.std.proofs.Common.{sym, ◌∙◌}
use Rattle.depot_rows.specs.table_changes.Changed.{rows_of}
use Rattle.command_parts.proofs.Refused.{granted_made, refused_made}
use Rattle.change_lists.specs.Saving.{file_refusals, with_limits}
use Rattle.change_lists.proofs.Saved.{none_refused}
use Rattle.change_lists.proofs.saving.save_files.Goals as goal

pub returns-in_ok-step-in-Some : goal.returns-in_ok-step-in-Some
returns-in_ok-step-in-Some c = λ d sound has_counter has_change has_working.
    let request = c.args.request.now in
    let paths = c.args.paths.now in
    refused_made (rows_of c.args.tables.now) d (file_refusals d request.caller c.args.number paths) (with_limits d request c.args.number c.args.text paths) c.in-Some.row
    c.in_ok-step-in-Some.step (sym c.in-Some.is ∙ c.in_ok-refused.ensures d has_change has_working) c.in_ok-step-in-Some.ensures

pub returns-in_ok-step-in-None : goal.returns-in_ok-step-in-None
returns-in_ok-step-in-None c = λ d sound has_counter has_change has_working.
    let request = c.args.request.now in
    let paths = c.args.paths.now in
    let none = sym c.in-None.is ∙ c.in_ok-refused.ensures d has_change has_working in
    granted_made (rows_of c.args.tables.now) d (file_refusals d request.caller c.args.number paths) (with_limits d request c.args.number c.args.text paths)
    c.in_ok-step-in-None.step none (c.in_ok-step-in-None.ensures d sound has_counter has_working (none_refused (file_refusals d request.caller c.args.number paths) none))
