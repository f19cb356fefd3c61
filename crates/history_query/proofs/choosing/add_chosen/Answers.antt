use Rattle.std.proofs.Common.{◌≡◌, ◌∷◌, ◌++◌, [], Bool, List, Option, true, false, map, append-nil, Bor, sym, ap, subst, ◌∙◌}
use Rattle.std.specs.Prelude.{◌&&◌, if◌then◌else◌, is_some}
use Rattle.std.specs.List.{All}
use Rattle.std.specs.Option.{option_copied}
use Rattle.std.proofs.lemmas.List.{map_push}
use Rattle.std.proofs.lemmas.List.Elements.{All-push}
use Rattle.depot_rows.specs.db_records.declared.rows.RevRecord.{RevRecord}
use Rattle.depot_rows.specs.table_changes.Changed.{rows_of}
use Rattle.depot_rows.specs.depot_model.Arguments.{names}
use Rattle.depot_rows.specs.depot_model.Steps.Listing.{chosen_revision}
use Rattle.revision_reads.specs.History.{numbered_record, seen}
use Rattle.revision_reads.proofs.Wanting.{wanted_had}
use Rattle.named_files.proofs.Wanting.{reads_wanted, some_alike}
use Rattle.history_query.specs.Choosing.{IsChoice, IsChosen}
use Rattle.history_query.proofs.Chosen.{is_chosen}
use Rattle.history_query.proofs.choosing.add_chosen.Goals as goal

pub returns-in_ok-push-in-Some-2-clause-rows : goal.returns-in_ok-push-in-Some-2-clause-rows
returns-in_ok-push-in-Some-2-clause-rows c = λ d reads are old.
    let rows = rows_of c.args.tables.now in
    let caller = c.args.shown.now.caller.now in
    let wanted = c.args.argument.now.spec.wanted in
    let has = wanted_had rows d reads.has_domain reads.has_have reads.has_label reads.has_change reads.has_rev wanted in
    let said = c.in_ok-row.ensures in
    let r = c.in-Some.row in
    let before = c.args.found.now.rows.items in
    let choice : IsChoice rows d caller wanted c.args.path (option_copied c.in_ok-row.row) = record { row_is = said.row d are reads.sound reads.has_rev has; stored = said.stored are } in
    let one =
    is_chosen rows d caller wanted c.args.path said.read_again r.now (subst (λ (o : Option (Bor RevRecord)). IsChoice rows d caller wanted c.args.path (option_copied o)) c.in-Some.is choice) in
    subst (λ (l : List RevRecord). All (IsChosen rows d caller wanted) l)
    (sym (map_push (λ r. r.now) before r) ∙ ap (λ (l : List (Bor RevRecord)). map (λ r. r.now) l) (sym c.in_ok-push-in-Some.ensures.items))
    (All-push (IsChosen rows d caller wanted) (map (λ r. r.now) before) r.now old one)

pub returns-in-None-clause-paths : goal.returns-in-None-clause-paths
returns-in-None-clause-paths c = λ d reads are.
    let own = c.args.shown.now in
    let caller = own.caller.now in
    let a = c.args.argument.now in
    let path = c.args.path in
    let has = reads_wanted caller own.asker.now own.listing.now (rows_of c.args.tables.now) d reads a.spec.wanted in
    let row = c.in_ok-row.row in
    let none : is_some (chosen_revision d caller a path) ≡ false =
    sym (some_alike seen numbered_record (option_copied row) _ (c.in_ok-row.ensures.row d are reads.sound reads.has_rev has)) ∙ ap (λ (o : Option (Bor RevRecord)). is_some (option_copied o)) c.in-None.is in
    let named : names false d caller a.spec path ≡ true = sym (c.in_ok-named.ensures d reads) ∙ c.if-not-named.false in
    let listed : (names false d caller a.spec path && is_some (chosen_revision d caller a path)) ≡ false = (λ i. named i && none i) in
    sym (append-nil c.args.found.now.paths) ∙ ap (λ (b : Bool). c.args.found.now.paths ++ (if b then path ∷ [] else [])) (sym listed)
