-- Further tables are gathered.
use Rattle.std.proofs.Common.{Vec, ◌≡◌, ◌≢◌, ℕ, ◌+◌, ◌<◌, ◌≤◌, Bool, true, false, cond, not, List, [], ◌∷◌, ◌++◌, map, take, get_or, length, Result, Ok, Err, OnOk, refl, sym, ap, subst, ◌∙◌, append-nil}
use Rattle.std.specs.Prelude.{◌&&◌, filter}
use Rattle.std.specs.List.{AllByRecursion, list_any}
use Rattle.std.proofs.Math.Bool.{and-false}
use Rattle.std.proofs.SliceLists.{all_by_recursion_push}
use Rattle.std.proofs.lemmas.Bool.{or_from, or_parts}
use Rattle.std.proofs.lemmas.List.{map-append, take_all}
use Rattle.std.proofs.lemmas.List.Elements.{filter_more}
use Rattle.command_needs.specs.Sets.{needs_table}
use Rattle.command_needs.specs.declared.needs.Needs.{Needs}
use Rattle.depot_model.specs.db_records.Table.{all_tables}
use Rattle.depot_model.specs.db_records.declared.table.TableId.{TableId}
use Rattle.locked_tables.specs.Held.{known_of, table_held}
use Rattle.locked_tables.specs.Known.{TableKnown}
use Rattle.locked_tables.specs.Taken.{rows_after}
use Rattle.locked_tables.specs.declared.held_table.HeldTable.{HeldTable}
use Rattle.table_changes.specs.Changed.{AllRows, rows_of}
use Rattle.table_changes.specs.table_store.Rows.{TableRows}
use Rattle.table_changes.specs.table_store.Tables.{version_of}
use Rattle.table_locks.specs.Gathered.{AddsHeld, AddsPeeks, AllHeldSeen, HasSeen, IsShown, has_table, is_of, tables_held, tables_seen}
use Rattle.table_locks.specs.Ways.{holds_table, looks_at}
use Rattle.table_locks.specs.declared.gathered.Gathered.{Gathered}
use Rattle.table_locks.proofs.Seen.{shown_new, shown_put}
use Rattle.table_locks.proofs.Sets.{held_by, seen_by}
use Rattle.table_locks.proofs.Tables.{among_passing, first_at, is_table}

-- what a step that is done leaves
pub on_ok : {A E X Y : Type 0} (r : Result A E) → (X → Y) → OnOk r X → OnOk r Y
on_ok (Ok a) f x = f x
on_ok (Err e) f x = tt

-- ---- the version of one more table is put beside the others

module _ {N : Type 0} (start : AllRows) (table : TableId) (old new : Gathered N) (shown : IsShown start old) (apart : has_table old table ≡ false) (known : TableKnown) (is : known.table ≡ table) (version : TableRows)
    (seen : version ≡ record { table = known.table; rows = rows_after start known.list known.table }) (put : version_of new.tables version.table ≡ version)
    (others : (t : TableId) → t ≢ version.table → version_of new.tables t ≡ version_of old.tables t) where
  others_stay : (t : TableId) → t ≢ table → version_of new.tables t ≡ version_of old.tables t
  others_stay t ne = others t (λ same. ne (same ∙ (ap (λ (v : TableRows). v.table) seen ∙ is)))

  none : (list_any (λ (h : HeldTable N). is_of table (known_of h)) old.held.items ≡ false) × (list_any (is_of table) old.peeks.items ≡ false)
  none = or_parts (list_any (λ (h : HeldTable N). is_of table (known_of h)) old.held.items) (list_any (is_of table) old.peeks.items) apart

  held_still : AllHeldSeen start (rows_of new.tables) old.held.items
  held_still = shown_put (λ (h : HeldTable N). known_of h) start old.tables new.tables table others_stay old.held.items none.0 shown.held

  peeks_still : AllByRecursion (HasSeen start (rows_of new.tables)) old.peeks.items
  peeks_still = shown_put (λ (k : TableKnown). k) start old.tables new.tables table others_stay old.peeks.items none.1 shown.peeks

  now_seen : HasSeen start (rows_of new.tables) known
  now_seen = shown_new start new.tables version known seen put

  pub adds_held : (held : HeldTable N) → known_of held ≡ known → new.held.items ≡ old.held.items ++ held ∷ [] → new.peeks ≡ old.peeks → AddsHeld start (table ∷ []) old new
  adds_held held of items peeks = record {
    shown = record {
      held = subst (AllHeldSeen start (rows_of new.tables)) (sym items)
          (all_by_recursion_push (λ (h : HeldTable N). HasSeen start (rows_of new.tables) (known_of h)) old.held.items held held_still (subst (HasSeen start (rows_of new.tables)) (sym of) now_seen));
      peeks = subst (λ (v : Vec _ _). AllByRecursion (HasSeen start (rows_of new.tables)) v.items) (sym peeks) peeks_still;
    };
    held = ap (map (λ (h : HeldTable N). table_held h)) items
        ∙ (map-append (λ (h : HeldTable N). table_held h) old.held.items (held ∷ []) ∙ ap (λ (t : TableId). tables_held old ++ t ∷ []) (ap (λ (k : TableKnown). k.table) of ∙ is));
    peeks = peeks;
  }

  pub adds_peek : new.held ≡ old.held → new.peeks.items ≡ old.peeks.items ++ known ∷ [] → AddsPeeks start (table ∷ []) old new
  adds_peek held items = record {
    shown = record {
      held = subst (λ (v : Vec _ _). AllHeldSeen start (rows_of new.tables) v.items) (sym held) held_still;
      peeks = subst (AllByRecursion (HasSeen start (rows_of new.tables))) (sym items) (all_by_recursion_push (HasSeen start (rows_of new.tables)) old.peeks.items known peeks_still now_seen);
    };
    held = held;
    peeks = ap (map (λ (k : TableKnown). k.table)) items
        ∙ (map-append (λ (k : TableKnown). k.table) old.peeks.items (known ∷ []) ∙ ap (λ (t : TableId). tables_seen old ++ t ∷ []) is);
  }

-- ---- where a test passes the table

module _ {N : Type 0} (start : AllRows) (p : TableId → Bool) (table : TableId) (old : Gathered N) where
  same_passed : (b : Bool) → p table ≡ b → filter p (table ∷ []) ≡ cond b (table ∷ []) []
  same_passed b e = ap (λ (c : Bool). cond c (table ∷ []) []) e

  pub held_passed : (new : Gathered N) → p table ≡ true → AddsHeld start (table ∷ []) old new → AddsHeld start (filter p (table ∷ [])) old new
  held_passed new passes added = subst (λ (l : List TableId). AddsHeld start l old new) (sym (same_passed true passes)) added

  pub held_none : IsShown start old → p table ≡ false → AddsHeld start (filter p (table ∷ [])) old old
  held_none shown fails = record {
    shown = shown;
    held = sym (append-nil (tables_held old)) ∙ ap (λ (l : List TableId). tables_held old ++ l) (sym (same_passed false fails));
    peeks = refl;
  }

  pub peek_passed : (new : Gathered N) → p table ≡ true → AddsPeeks start (table ∷ []) old new → AddsPeeks start (filter p (table ∷ [])) old new
  peek_passed new passes added = subst (λ (l : List TableId). AddsPeeks start l old new) (sym (same_passed true passes)) added

  pub peek_none : IsShown start old → p table ≡ false → AddsPeeks start (filter p (table ∷ [])) old old
  peek_none shown fails = record {
    shown = shown;
    held = refl;
    peeks = sym (append-nil (tables_seen old)) ∙ ap (λ (l : List TableId). tables_seen old ++ l) (sym (same_passed false fails));
  }

-- ---- all tables, one after another

module _ (p : TableId → Bool) where
  pub filter_next : (i : ℕ) (d : TableId) → i < 11 → (xs ys : List TableId) → xs ≡ filter p (take i all_tables) → ys ≡ xs ++ filter p (get_or all_tables i d ∷ []) → ys ≡ filter p (take (i + 1) all_tables)
  filter_next i d lt xs ys so_far is = is ∙ (ap (λ (l : List TableId). l ++ filter p (get_or all_tables i d ∷ [])) so_far ∙ sym (filter_more p all_tables i d lt))

  pub filter_all : (i : ℕ) → length all_tables ≤ i → (xs : List TableId) → xs ≡ filter p (take i all_tables) → xs ≡ filter p all_tables
  filter_all i past xs so_far = so_far ∙ ap (filter p) (take_all i all_tables past)

  -- the next isn't among those that passed before it
  next_apart : (i : ℕ) (d : TableId) → i < 11 → (xs : List TableId) → xs ≡ filter p (take i all_tables) → list_any (is_table (get_or all_tables i d)) xs ≡ false
  next_apart i d lt xs so_far =
      let table = get_or all_tables i d in
      ap (list_any (is_table table)) so_far
      ∙ (among_passing p table (take i all_tables) ∙ (ap (λ (b : Bool). p table && b) (first_at i d lt) ∙ and-false (p table)))

-- what is only looked at isn't held
looked_unheld : (whole : Bool) (needs : Needs) (table : TableId) → looks_at whole needs table ≡ true → holds_table whole needs table ≡ false
looked_unheld whole needs table looks = go (needs_table needs table) (holds_table whole needs table) looks
  where
    go : (a b : Bool) → (a && not b) ≡ true → b ≡ false
    go true true e = absurd (cc e)
    go true false e = refl
    go false b e = absurd (cc e)

module _ {N : Type 0} (g : Gathered N) (whole : Bool) (needs : Needs) (i : ℕ) (d : TableId) (lt : i < 11) where
  abbrev next : TableId
  next = get_or all_tables i d

  -- the next table isn't held yet
  pub next_unheld : tables_held g ≡ filter (holds_table whole needs) (take i all_tables) → g.peeks.items ≡ [] → has_table g next ≡ false
  next_unheld held unseen = or_from (list_any (λ (h : HeldTable N). is_of next (known_of h)) g.held.items) (list_any (is_of next) g.peeks.items)
      (held_by g next ∙ next_apart (holds_table whole needs) i d lt (tables_held g) held) (ap (list_any (is_of next)) unseen)

  -- one at which it looks next is neither held nor looked at yet
  pub next_unseen : tables_held g ≡ filter (holds_table whole needs) all_tables → tables_seen g ≡ filter (looks_at whole needs) (take i all_tables) → looks_at whole needs next ≡ true → has_table g next ≡ false
  next_unseen held seen looks =
      let none : list_any (is_table next) (tables_held g) ≡ false = ap (list_any (is_table next)) held
      ∙ (among_passing (holds_table whole needs) next all_tables ∙ ap (λ (b : Bool). b && list_any (is_table next) all_tables) (looked_unheld whole needs next looks)) in
      or_from (list_any (λ (h : HeldTable N). is_of next (known_of h)) g.held.items) (list_any (is_of next) g.peeks.items)
      (held_by g next ∙ none) (seen_by g next ∙ next_apart (looks_at whole needs) i d lt (tables_seen g) seen)

module _ {N : Type 0} (g : Gathered N) (held : g.held.items ≡ []) (peeks : g.peeks.items ≡ []) where
  -- nothing is gathered yet
  pub none_shown : (start : AllRows) → IsShown start g
  none_shown start = record {
    held = subst (AllHeldSeen start (rows_of g.tables)) (sym held) tt;
    peeks = subst (AllByRecursion (HasSeen start (rows_of g.tables))) (sym peeks) tt;
  }
