use Rattle.std.proofs.Common.{◌≡◌, ℕ, List, Option, Some, sym, subst, ◌∙◌}
use Rattle.depot_rows.specs.table_changes.Changed.{rows_of}
use Rattle.depot_rows.specs.depot_model.Opened.{opened}
use Rattle.depot_rows.specs.depot_model.Steps.Submitting.{content_of}
use Rattle.depot_rows.specs.Deed.{IsStored, opening_of}
use Rattle.depot_rows.specs.declared.deed.Stored.{Stored}
use Rattle.depot_rows.proofs.Locks.{opened-is}
use Rattle.submit_core.proofs.Filing.{file_more, found_stored}
use Rattle.submit_core.proofs.entries.add_file.Goals as goal

pub returns : goal.returns
returns c = λ d request from taken reads is are.
    let all = rows_of c.args.tables.now in
    let o = opening_of c.args.opening.now in
    let client = (opened-is d request.caller.client o.path o is).0 in
    let own = subst (λ (k : List ℕ). opened d k o.path ≡ Some o) (sym client) is in
    let found = c.in_ok-found.ensures d request reads.sound reads.revisions reads.asked reads.given client in
    let stored = subst (λ (s : Option Stored). IsStored s (content_of d request o)) (sym c.in_ok-content.ensures.content)
    (found_stored all d c.in_ok-found.found (content_of d request o) c.args.files.now.end found) in
    let entry = c.in_ok-entry.ensures.entry d request reads.sound reads.resolves reads.revisions own stored in
    file_more all d request from taken o c.args.files.now _ c.in_ok-found.found c.in_ok-entry.entry are found (c.in_ok-entry.ensures.content ∙ c.in_ok-content.ensures.content) entry
    c.in_ok-push.ensures.ok c.in_ok-content.ensures.stores c.in_ok-content.ensures.end
