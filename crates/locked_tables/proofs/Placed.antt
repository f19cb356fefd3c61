-- What holds of an order that has one more place.
use Rattle.std.proofs.Common.{◌≡◌, ◌≤◌, ◌<◌, ◌++◌, ℕ, Bool, List, [], ◌∷◌, sym, ap, ◌∙◌, subst, arith}
use Rattle.std.specs.List.{AllByRecursion}
use Rattle.std.proofs.SliceLists.{all_by_recursion_push}
use Rattle.depot_model.specs.db_records.declared.table.TableId.{TableId}
use Rattle.order_words.specs.Lanes.{has_lane, is_among}
use Rattle.order_words.specs.Seats.{LaneState, OrderState, Run}
use Rattle.table_changes.specs.Changed.{AllRows, changed_by}
use Rattle.locked_tables.specs.Held.{OnlyChange}
use Rattle.locked_tables.specs.Known.{HasPlaceLeft, PartyKnown}
use Rattle.locked_tables.specs.Placing.{IsAnnounced, IsPlaced, TakesPlace, TouchesLanes, lanes_held}
use Rattle.locked_tables.specs.Taken.{IsOwn, TouchesItsParty, TouchesItsTables, archive_lane, journal_lane, party_lane, rows_after}
use Rattle.locked_tables.specs.declared.taken.Taken.{Taken}
use Rattle.locked_tables.proofs.Announced.{touches_its}
use Rattle.locked_tables.proofs.Lanes.{adds_alone, among_front, archive_among, between_held, journal_among, not_last}
use Rattle.locked_tables.proofs.Parties.{touches_party}
use Rattle.locked_tables.proofs.Rows.{rows_behind_all}
use Rattle.locked_tables.proofs.Room.{count_of, left_behind, within_kept}

module _ {run : Run} {entry : Taken} {archive journal : Bool} {party : ℕ} {tables : List ℕ} (touches : TouchesLanes run entry archive journal party tables) where
  are : (lane : ℕ) → has_lane entry.lanes lane ≡ is_among lane (lanes_held archive journal ++ party_lane party ∷ tables)
  are = adds_alone touches.are

  -- the archive's lane is touched just where it is held
  pub of_archive : has_lane entry.lanes archive_lane ≡ archive
  of_archive = are archive_lane ∙ (among_front archive_lane (lanes_held archive journal) party tables (omega arith, omega arith) touches.of_run.low touches.below ∙ archive_among archive journal)

  -- so is the journal's
  pub of_journal : has_lane entry.lanes journal_lane ≡ journal
  of_journal = are journal_lane ∙ (among_front journal_lane (lanes_held archive journal) party tables (omega arith, omega arith) touches.of_run.low touches.below ∙ journal_among archive journal)

  touches_tables : OnlyChange entry.changes tables → TouchesItsTables entry
  touches_tables only = touches_its entry (lanes_held archive journal) (party_lane party ∷ tables) are (λ table none. only table (not_last _ (party_lane party ∷ []) tables none))

  module _ (order after : List Taken) (last : after ≡ order ++ entry ∷ []) where
    -- the rows are those before with its changes
    pub rows_changed_by : OnlyChange entry.changes tables → (rows : AllRows) (table : TableId) → rows_after rows after table ≡ changed_by (rows_after rows order) entry.changes table
    rows_changed_by only rows table = ap (λ (l : List Taken). rows_after rows l table) last ∙ rows_behind_all table rows order entry (touches_tables only)

    pub tables_kept : OnlyChange entry.changes tables → AllByRecursion TouchesItsTables order → AllByRecursion TouchesItsTables after
    tables_kept only all = subst (AllByRecursion TouchesItsTables) (sym last) (all_by_recursion_push TouchesItsTables order entry all (touches_tables only))

    pub parties_kept : entry.request.party ≡ party → AllByRecursion (TouchesItsParty run) order → AllByRecursion (TouchesItsParty run) after
    parties_kept asks all =
        let own : TouchesItsParty run entry = touches_party run entry party touches.of_run asks tables touches.below (lanes_held archive journal) (between_held archive journal) are in
        subst (AllByRecursion (TouchesItsParty run)) (sym last) (all_by_recursion_push (TouchesItsParty run) order entry all own)

-- no party has more places than it may have, where the place's party might have one more
pub counts_kept : (places : ℕ → ℕ) (known : PartyKnown) (order after : List Taken) (entry : Taken) → after ≡ order ++ entry ∷ [] → IsOwn known.party known.list order after → entry.request.party ≡ known.party
    → HasPlaceLeft places known → ((party : ℕ) → count_of order party ≤ places party) → (party : ℕ) → count_of after party ≤ places party
counts_kept places known order after entry last own asks left within =
    let behind = subst (λ (p : ℕ). count_of order p < places p) (sym asks) (left_behind places known order after own left) in
    subst (λ (l : List Taken). (party : ℕ) → count_of l party ≤ places party) (sym last) (within_kept places order entry within behind)

-- the place of an entry, behind the announcement of one lane more
pub placed_around : {run : Run} {lanes more : ℕ} {before announced after settled : OrderState Taken} {seat ready : LaneState Taken} {old new : PartyKnown} {entry : Taken}
    → IsAnnounced lanes more before announced seat ready → IsPlaced run announced after old new entry → settled ≡ after → IsPlaced run before settled old new entry
placed_around {run} {lanes} {more} {before} {announced} {after} {settled} {seat} {ready} {old} {new} {entry} announces placed settled_is =
    let here : IsPlaced run (record before { checked = seat.lane ∷ before.checked }) after old new entry = subst (λ (o : OrderState Taken). IsPlaced run o after old new entry) announces.order placed in
    subst (λ (o : OrderState Taken). IsPlaced run before o old new entry) (sym settled_is) (record { order = here.order; pass = here.pass; own = here.own; party = here.party })

-- what it says of the list of the order alone
pub takes_place : {run : Run} {before after : OrderState Taken} {old new : PartyKnown} {entry : Taken} → IsPlaced run before after old new entry → TakesPlace before.list after.list old new entry
takes_place placed = record { last = ap (λ (o : OrderState Taken). o.list) placed.order; pass = placed.pass; own = placed.own }
