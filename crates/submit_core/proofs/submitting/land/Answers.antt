use Rattle.std.proofs.Common.{ℕ, List, [], ◌∷◌, ◌++◌, map, sym, ap, subst, ◌∙◌}
use Rattle.std.specs.Prelude.{codes, flat_map}
use Rattle.depot_rows.specs.table_changes.Changed.{rows_of}
use Rattle.depot_rows.specs.depot_model.Deeds.{Opening}
use Rattle.depot_rows.specs.depot_model.Fixes.{closing, fixes_of}
use Rattle.depot_rows.specs.depot_model.Rows.{number_field, row}
use Rattle.depot_rows.specs.depot_model.Steps.Submitting.{dropped, entry_of, got_and_shut, landing_number, landing_of, openings_of}
use Rattle.depot_rows.specs.Deed.{AreEntries, IsLanding}
use Rattle.depot_rows.specs.declared.deed.Entry.{Entry}
use Rattle.depot_rows.specs.declared.deed.Landing.{Landing}
use Rattle.depot_facts.specs.Following.{AreTold}
use Rattle.step_stores.specs.Stored.{ArePlaced}
use Rattle.submit_core.specs.Entries.{AreFiles}
use Rattle.submit_core.specs.Landing.{ends_of, row_of_entry}
use Rattle.submit_core.proofs.Ending.{dropped_told, ends_told, of_client, rows_told}
use Rattle.submit_core.proofs.Stepping.{landed_stores}
use Rattle.submit_core.proofs.submitting.land.Goals as goal

pub returns : goal.returns
returns c = λ d reads forms opened openings_are number may.
    let all = rows_of c.args.tables.now in
    let from = c.args.tables.now.archive_end in
    let request = c.args.request.now in
    let client = request.caller.client in
    let change = c.args.change in
    let text = c.args.text.now in
    let os = openings_of d request.caller change in
    let files = c.in_ok-files.files in
    let are : AreFiles all d request from os files =
    subst (λ (n : ℕ). AreFiles all d request n os files) c.archive_end.ensures.end
    (subst (λ (l : List Opening). AreFiles all d request c.archive_end.result l files) openings_are (c.in_ok-files.ensures d request reads opened)) in
    let landing = c.in_ok-landing.landing in
    let landing_is = c.in_ok-landing.ensures in
    let is : IsLanding d landing (landing_of d request change text os) = record {
      change = ap (λ (l : Landing). l.change) landing_is ∙ number;
      user = ap (λ (l : Landing). l.user) landing_is;
      client = ap (λ (l : Landing). l.client) landing_is;
      moment = ap (λ (l : Landing). l.moment) landing_is;
      text = ap (λ (l : Landing). l.text) landing_is;
      entries = subst (λ (es : List Entry). AreEntries d es (map (entry_of d request) os)) (sym (ap (λ (l : Landing). l.entries) landing_is)) are.entries;
    } in
    let placed : ArePlaced all d files.stores from landing.entries (map (entry_of d request) os) =
    subst (λ (es : List Entry). ArePlaced all d files.stores from es (map (entry_of d request) os)) (sym (ap (λ (l : Landing). l.entries) landing_is)) are.placed in
    let ends : AreTold (flat_map (ends_of client) c.as_slice-2.result.now) (flat_map (got_and_shut d) os) =
    subst (λ (es : List Entry). AreTold (flat_map (ends_of client) es) (flat_map (got_and_shut d) os)) (sym c.as_slice-2.ensures)
    (ends_told d request client files.entries os (of_client d request.caller change) are.entries) in
    let told : AreTold c.in_ok-later.later (dropped d change ++ flat_map (got_and_shut d) os ++ flat_map (closing d change (landing_number d change)) (fixes_of d change)) =
    subst (λ (m : ℕ). AreTold c.in_ok-later.later (dropped d change ++ flat_map (got_and_shut d) os ++ flat_map (closing d change m) (fixes_of d change))) number
    (c.in_ok-later.ensures d (flat_map (got_and_shut d) os) (dropped d change) reads.sound forms (dropped_told d change c.args.number number) ends) in
    let rows =
    c.in_ok-rows.ensures
    ∙ ap (λ (es : List Entry). map row_of_entry es ++ row (number_field (codes "submittedChange") c.args.number ∷ []) ∷ []) c.as_slice.ensures
    ∙ (λ i. rows_told d request files.entries os are.entries i ++ row (number_field (codes "submittedChange") (number i) ∷ []) ∷ []) in
    landed_stores all from d reads.sound request change text may landing c.in_ok-later.later _ is placed told c.in_ok-deeds.ensures rows c.new.ensures
