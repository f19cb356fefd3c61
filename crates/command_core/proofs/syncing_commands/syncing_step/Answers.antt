use Rattle.std.proofs.Common.{List, refl, sym, subst}
use Rattle.std.specs.Prelude.{IsTrue}
use Rattle.std.specs.List.{list_all}
use Rattle.depot_rows.specs.db_records.declared.table.TableId.TheVariants as tables
use Rattle.depot_rows.specs.table_changes.Changed.{rows_of}
use Rattle.depot_rows.specs.depot_model.declared.command.Command.{Command}
use Rattle.depot_rows.specs.depot_model.declared.command.FileArgument.{FileArgument}
use Rattle.depot_rows.specs.depot_model.Commands.{own_step}
use Rattle.depot_rows.specs.depot_model.Steps.Placing.{have_step, where_is}
use Rattle.depot_rows.specs.depot_model.Steps.Resolving.{resolve}
use Rattle.depot_rows.specs.depot_model.Steps.Syncing.{sync}
use Rattle.depot_rows.specs.depot_model.Steps.Tagging.{labelsync, tag}
use Rattle.depot_rows.specs.depot_model.WellFormed.{asks_head, spells_path}
use Rattle.reply_rows.specs.Made.{IsMade}
use Rattle.command_core.specs.Outcomes.{IsFormed, HasTouched}
use Rattle.command_core.proofs.syncing_commands.syncing_step.Goals as goal

pub returns-in_ok-placed-in-Where : goal.returns-in_ok-placed-in-Where
returns-in_ok-placed-in-Where c = λ d sound asked family formed has.
    let placed = c.in_ok-placed-in-Where in
    let P : Command → Type 0 = λ k. IsFormed k → HasTouched (rows_of c.args.tables.now) d k → IsMade (rows_of c.args.tables.now) d d (own_step d c.args.request.now k) placed.placed in
    subst P (sym c.in-Where.is) (λ formed has. subst (λ (xs : List FileArgument). IsTrue (list_all spells_path xs) → IsMade (rows_of c.args.tables.now) d d (where_is d c.args.request.now.caller xs) placed.placed) c.as_slice.ensures
    (λ promised. placed.ensures d promised asked) formed.0) formed has

pub returns-in_ok-synced-in-Sync : goal.returns-in_ok-synced-in-Sync
returns-in_ok-synced-in-Sync c = λ d sound asked family formed has.
    let synced = c.in_ok-synced-in-Sync in
    let P : Command → Type 0 = λ k. HasTouched (rows_of c.args.tables.now) d k → IsMade (rows_of c.args.tables.now) d d (own_step d c.args.request.now k) synced.synced in
    subst P (sym c.in-Sync.is) (λ has. subst (λ (xs : List FileArgument). IsMade (rows_of c.args.tables.now) d d (sync d c.args.request.now.caller c.in-Sync.again c.in-Sync.shows xs) synced.synced) c.as_slice-in-Sync.ensures
    (synced.ensures d sound asked (has tables.Domain refl) (has tables.Have refl) (has tables.Label refl) (has tables.Resolve refl) (has tables.Working refl) (has tables.Change refl) (has tables.Rev refl))) has

pub returns-in_ok-listed-in-Have : goal.returns-in_ok-listed-in-Have
returns-in_ok-listed-in-Have c = λ d sound asked family formed has.
    let listed = c.in_ok-listed-in-Have in
    let P : Command → Type 0 = λ k. HasTouched (rows_of c.args.tables.now) d k → IsMade (rows_of c.args.tables.now) d d (own_step d c.args.request.now k) listed.listed in
    subst P (sym c.in-Have.is) (λ has. subst (λ (xs : List FileArgument). IsMade (rows_of c.args.tables.now) d d (have_step d c.args.request.now.caller xs) listed.listed) c.as_slice-in-Have.ensures
    (listed.ensures d sound asked (has tables.Have refl))) has

pub returns-in_ok-tagged-in-Tag : goal.returns-in_ok-tagged-in-Tag
returns-in_ok-tagged-in-Tag c = λ d sound asked family formed has.
    let tagged = c.in_ok-tagged-in-Tag in
    let P : Command → Type 0 = λ k. HasTouched (rows_of c.args.tables.now) d k → IsMade (rows_of c.args.tables.now) d d (own_step d c.args.request.now k) tagged.tagged in
    subst P (sym c.in-Tag.is) (λ has. subst (λ (xs : List FileArgument). IsMade (rows_of c.args.tables.now) d d (tag d c.args.request.now.caller c.in-Tag.label c.in-Tag.removes xs) tagged.tagged) c.as_slice-in-Tag.ensures
    (tagged.ensures d sound asked (has tables.Domain refl) (has tables.Have refl) (has tables.Label refl) (has tables.Change refl) (has tables.Rev refl))) has

pub returns-in_ok-synced-in-LabelSync : goal.returns-in_ok-synced-in-LabelSync
returns-in_ok-synced-in-LabelSync c = λ d sound asked family formed has.
    let synced = c.in_ok-synced-in-LabelSync in
    let P : Command → Type 0 = λ k. HasTouched (rows_of c.args.tables.now) d k → IsMade (rows_of c.args.tables.now) d d (own_step d c.args.request.now k) synced.synced in
    subst P (sym c.in-LabelSync.is) (λ has. subst (λ (xs : List FileArgument). IsMade (rows_of c.args.tables.now) d d (labelsync d c.args.request.now.caller c.in-LabelSync.label c.in-LabelSync.labelling xs) synced.synced) c.as_slice-in-LabelSync.ensures
    (synced.ensures d sound asked (has tables.Domain refl) (has tables.Have refl) (has tables.Label refl) (has tables.Change refl) (has tables.Rev refl))) has

pub returns-in_ok-opened-in-Integrate : goal.returns-in_ok-opened-in-Integrate
returns-in_ok-opened-in-Integrate c = λ d sound asked family formed has.
    let opened = c.in_ok-opened-in-Integrate in
    let P : Command → Type 0 = λ k. HasTouched (rows_of c.args.tables.now) d k → IsMade (rows_of c.args.tables.now) d d (own_step d c.args.request.now k) opened.opened in
    subst P (sym c.in-Integrate.is) (λ has. opened.ensures d sound asked (has tables.Domain refl) (has tables.Have refl) (has tables.Label refl) (has tables.Integed refl) (has tables.Working refl) (has tables.Change refl) (has tables.Rev refl)) has

pub returns-in_ok-resolved-in-Resolve : goal.returns-in_ok-resolved-in-Resolve
returns-in_ok-resolved-in-Resolve c = λ d sound asked family formed has.
    let resolved = c.in_ok-resolved-in-Resolve in
    let P : Command → Type 0 = λ k. IsFormed k → HasTouched (rows_of c.args.tables.now) d k → IsMade (rows_of c.args.tables.now) d d (own_step d c.args.request.now k) resolved.resolved in
    subst P (sym c.in-Resolve.is) (λ formed has. subst (λ (xs : List FileArgument). IsTrue (list_all asks_head xs) → IsMade (rows_of c.args.tables.now) d d (resolve d c.args.request.now.caller c.in-Resolve.taking xs) resolved.resolved) c.as_slice-in-Resolve.ensures
    (λ asks. resolved.ensures d asks sound asked (has tables.Domain refl) (has tables.Resolve refl) (has tables.Working refl) (has tables.Rev refl)) formed.1) formed has
