-- Seats of lanes that announce a place, and the tables that it changes.
use Rattle.std.proofs.Common.{◌≡◌, ◌≤◌, ℕ, ◌+◌, true, List, [], ◌∷◌, ◌++◌, length, Option, Some, IfSome, sym, ap, ◌∙◌, subst, arith}
use Rattle.depot_model.specs.db_records.Table.{table_number}
use Rattle.depot_model.specs.db_records.declared.change.Change.{Change}
use Rattle.depot_model.specs.db_records.declared.table.TableId.{TableId}
use Rattle.order_words.specs.Lanes.{has_lane, is_among, last_touch}
use Rattle.order_words.specs.Seats.{Run, LaneState, OrderState}
use Rattle.order_words.proofs.Touches.{last_touch_touched}
use Rattle.table_changes.specs.Changed.{AllRows, changed_by}
use Rattle.table_changes.specs.table_store.Rows.{TableRows}
use Rattle.locked_tables.specs.Known.{KnowsLane, LearnsPlace, TableKnown, at_rest}
use Rattle.locked_tables.specs.Placing.{AddsLanes, IsAnnounced}
use Rattle.locked_tables.specs.Taken.{TouchesItsTables, lanes_of, rows_after}
use Rattle.locked_tables.specs.Held.{IsNext, OnlyChange, known_of}
use Rattle.locked_tables.specs.declared.held_table.HeldTable.{HeldTable}
use Rattle.locked_tables.specs.declared.taken.Taken.{Taken}
use Rattle.locked_tables.proofs.Archive.{goes_on}
use Rattle.locked_tables.proofs.Lanes.{adds_both, has_this, not_last}
use Rattle.locked_tables.proofs.Rows.{rows_next}
use Rattle.locked_tables.proofs.Seats.{listed, same_touch, settled_at_rest}

-- a seat at rest is announced for the next place
module _ {run : Run} {lane lanes more : ℕ} {before announced : OrderState Taken} {seat ready : LaneState Taken}
    (rests : seat ≡ at_rest run lane seat.list) (announces : IsAnnounced lanes more before announced seat ready) where
  -- no place that it didn't know touches its lane
  pub knows : KnowsLane lane seat.list before.list
  knows = record { begins = announces.begins; last = same_touch run lane before.list seat.list seat rests announces.last }

  lane_is : ready.lane ≡ lane
  lane_is = ap (λ (s : LaneState Taken). s.lane) announces.seat ∙ ap (λ (s : LaneState Taken). s.lane) rests

  module _ {rest : List ℕ} {all : ℕ} (adds : AddsLanes more rest all) where
    -- its lane is touched beside the others
    pub lanes_with : AddsLanes lanes (lane ∷ rest) all
    lanes_with = adds_both (subst (λ (n : ℕ). AddsLanes lanes (n ∷ []) more) (ap (λ (s : LaneState Taken). s.lane) rests) announces.adds) adds

    -- an entry that touches these lanes comes at the place
    module _ {after : OrderState Taken} (taken : Taken) (placed : after ≡ record announced { list = announced.list ++ record taken { lanes = all } ∷ []; checked = [] }) where
      pub placed_behind : after ≡ record before { list = before.list ++ record taken { lanes = all } ∷ []; checked = [] }
      placed_behind = placed ∙ ap (λ (o : OrderState Taken). record o { list = o.list ++ record taken { lanes = all } ∷ []; checked = [] }) announces.order

      pub last : after.list ≡ before.list ++ record taken { lanes = all } ∷ []
      last = ap (λ (o : OrderState Taken). o.list) placed_behind

      pub is_placed : ready.word ≤ last_touch lanes_of ready.lane after.list
      is_placed =
          let word : ready.word ≡ length before.list + 1 = ap (λ (s : LaneState Taken). s.word) announces.seat in
          let there : last_touch lanes_of ready.lane after.list ≡ length before.list + 1 =
          ap (last_touch lanes_of ready.lane) last ∙ last_touch_touched lanes_of ready.lane before.list _ (ap (has_lane all) lane_is ∙ has_this lanes_with) in
          omega arith

      -- the seat is settled then
      module _ {settled : LaneState Taken} (settled_is : settled ≡ record ready { list = after.list; resting = true }) where
        -- and at rest again
        pub rests_again : last_touch lanes_of ready.lane after.list ≡ ready.word → settled ≡ at_rest run lane settled.list
        rests_again word =
            let run_is : ready.run ≡ run = ap (λ (s : LaneState Taken). s.run) announces.seat ∙ ap (λ (s : LaneState Taken). s.run) rests in
            listed run lane after.list settled (settled_at_rest run lane after.list ready settled run_is lane_is settled_is word)

        -- it has learnt of the place
        pub learns : {final : OrderState Taken} → final ≡ after → LearnsPlace lane before.list final.list seat.list settled.list
        learns {final} final_is = record { behind = goes_on lane seat.list before.list knows; learnt = ap (λ (s : LaneState Taken). s.list) settled_is ∙ ap (λ (o : OrderState Taken). o.list) (sym final_is) }

        -- a version that is the next of a table is the table after the places that it knows
        pub table_settled : (rows : AllRows) (table : TableId) (version : TableRows) → lane ≡ table_number table → last_touch lanes_of ready.lane after.list ≡ ready.word
            → version ≡ record { table = table; rows = changed_by (rows_after rows seat.list) taken.changes table }
            → (settled ≡ at_rest run (table_number version.table) settled.list) × (version.rows ≡ rows_after rows settled.list version.table)
        table_settled rows table version of_table word next =
            let table_is : version.table ≡ table = ap (λ (v : TableRows). v.table) next in
            let list_is = ap (λ (s : LaneState Taken). s.list) settled_is ∙ last in
            let here = subst (λ (n : ℕ). KnowsLane n seat.list before.list) of_table knows in (
              rests_again word ∙ ap (λ (n : ℕ). at_rest run n settled.list) (of_table ∙ ap table_number (sym table_is)),
              ap (λ (v : TableRows). v.rows) next
                  ∙ (sym (rows_next table rows seat.list before.list (record taken { lanes = all }) here.begins here.last (ap (has_lane all) (sym of_table) ∙ has_this lanes_with))
                  ∙ (λ i. rows_after rows (sym list_is i) (sym table_is i))),
            )

-- an entry touches its tables where those of its last lanes are all that it changes
pub touches_its : (entry : Taken) (front lanes : List ℕ) → ((i : ℕ) → has_lane entry.lanes i ≡ is_among i (front ++ lanes)) → OnlyChange entry.changes lanes → TouchesItsTables entry
touches_its entry front lanes are only = λ table none. only table (not_last (table_number table) front lanes (sym (are (table_number table)) ∙ none))

-- the version that is to follow a held table is the table after the changes
pub follows : {N : Type 0} (rows : AllRows) (changes : List Change) (held : HeldTable N) {version : TableRows} {known : TableKnown} → held.next ≡ Some version → known_of held ≡ known → IsNext rows changes held
    → version ≡ record { table = known.table; rows = changed_by (rows_after rows known.list) changes known.table }
follows rows changes held {version} {known} next is follow =
    let Follows : Option TableRows → TableKnown → Type 0 = λ n k. IfSome n (λ v. v ≡ record { table = k.table; rows = changed_by (rows_after rows k.list) changes k.table }) in
    subst (Follows (Some version)) is (subst (λ (n : Option TableRows). Follows n (known_of held)) next follow)
