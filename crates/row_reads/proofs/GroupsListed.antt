-- The rows of groups list the groups of a user that the depot has.
use Rattle.std.proofs.Common.{◌≡◌, ℕ, Bool, true, false, ◌||◌, cond, List, [], ◌∷◌, ◌++◌, map, Option, Some, None, refl, sym, ap, ◌∙◌, subst}
use Rattle.std.specs.Prelude.{IfSome, filter, flat_map, if◌then◌else◌, option_and_then, unwrap_or}
use Rattle.std.specs.List.{list_any}
use Rattle.std.specs.Option.{option_or}
use Rattle.std.specs.Ordering.{nat_cmp, is_eq, is_lt}
use Rattle.std.specs.Cmp.Lexicographic.{slice_cmp}
use Rattle.std.specs.declared.cmp.Ordering.{Ordering}
use Rattle.std.specs.declared.cmp.Ordering.TheVariants.{Less, Equal, Greater}
use Rattle.std.proofs.lemmas.Map.Text.{is_eq-slice_cmp}
use Rattle.std.proofs.lemmas.Slice.Eq.{bytes_eq-Decides}
use Rattle.std.proofs.lemmas.Bool.{or_right}
use Rattle.depot_rows.specs.depot_path.Bytes.{same}
use Rattle.depot_rows.specs.depot_path.Name.{is_name}
use Rattle.depot_rows.specs.db_records.Key.{key_cmp, key_table}
use Rattle.depot_rows.specs.db_records.Record.{key_of}
use Rattle.depot_rows.specs.db_records.declared.key.Key.{Key}
use Rattle.depot_rows.specs.db_records.declared.key.Key.TheVariants as keys
use Rattle.depot_rows.specs.db_records.declared.record.Record.{Record}
use Rattle.depot_rows.specs.db_records.declared.record.Record.TheVariants as records
use Rattle.depot_rows.specs.db_records.declared.table.TableId.{TableId}
use Rattle.depot_rows.specs.db_records.declared.table.TableId.TheVariants as tables
use Rattle.depot_rows.proofs.db_records.Order.{keys_equal}
use Rattle.depot_rows.specs.table_store.Rows.{AllAbove, AllOfTable, IsRising, TableRows, row_at}
use Rattle.row_order.proofs.Order.{AllAbove-lower, AllAbove-tied, turned_less}
use Rattle.depot_rows.specs.depot_model.Asking.{groups_of}
use Rattle.depot_rows.specs.depot_model.Deeds as deeds
use Rattle.depot_rows.specs.depot_model.Deeds.{Deed}
use Rattle.depot_rows.specs.depot_model.Latest.{keys_of, group_name, group_said, latest, users}
use Rattle.depot_rows.specs.depot_model.Records.{record_of}
use Rattle.depot_rows.specs.depot_model.Rules.{IsRow, IsSound}
use Rattle.depot_rows.specs.depot_model.Sorted.{inserted}
use Rattle.depot_rows.specs.table_store.Marks.{is_of_user}
use Rattle.row_reads.specs.Groups.{group_in, groups_in}
use Rattle.depot_rows.specs.Standing.{unplaced_at}
use Rattle.row_reads.proofs.Alike.{itself, rows_alike, above_all, here, behind, unplaced_row}

pub same_text : (a b : List ℕ) → same a b ≡ true → a ≡ b
same_text a b e = (bytes_eq-Decides a b).0 e

pub same_self : (a : List ℕ) → same a a ≡ true
same_self a = (bytes_eq-Decides a a).1 refl

-- ---- some of the rows

module _ (test : Record → Bool) where
  chosen_above : (k : Key) (r : Record) (kept : List Record) (b : Bool) → key_cmp (key_of r) k ≡ Greater → AllAbove k kept → AllAbove k (cond b (r ∷ kept) kept)
  chosen_above k r kept true e h = (e, h)
  chosen_above k r kept false e h = h

  above_kept : (k : Key) (rows : List Record) → AllAbove k rows → AllAbove k (filter test rows)
  above_kept k [] high = tt
  above_kept k (r ∷ rows) high = chosen_above k r (filter test rows) (test r) high.0 (above_kept k rows high.1)

  chosen_rise : (r : Record) (kept : List Record) (b : Bool) → AllAbove (key_of r) kept → IsRising kept → IsRising (cond b (r ∷ kept) kept)
  chosen_rise r kept true e h = (e, h)
  chosen_rise r kept false e h = h

  pub kept_rise : (rows : List Record) → IsRising rows → IsRising (filter test rows)
  kept_rise [] up = tt
  kept_rise (r ∷ rows) up = chosen_rise r (filter test rows) (test r) (above_kept (key_of r) rows up.0) (kept_rise rows up.1)

  chosen_of : (t : TableId) (r : Record) (kept : List Record) (b : Bool) → key_table (key_of r) ≡ t → AllOfTable t kept → AllOfTable t (cond b (r ∷ kept) kept)
  chosen_of t r kept true e h = (e, h)
  chosen_of t r kept false e h = h

  pub kept_of : (t : TableId) (rows : List Record) → AllOfTable t rows → AllOfTable t (filter test rows)
  kept_of t [] of = tt
  kept_of t (r ∷ rows) of = chosen_of t r (filter test rows) (test r) of.0 (kept_of t rows of.1)

  -- the row that has a key, where it passes
  abbrev pub pass : Bool → Record → Option Record
  pass b r = if b then Some r else None

  chosen_at : (key : Key) (r : Record) (rows : List Record) (b : Bool) (o : Ordering) → test r ≡ b → key_cmp (key_of r) key ≡ o → IsRising (r ∷ rows)
      → row_at key (filter test rows) ≡ option_and_then (λ x. pass (test x) x) (row_at key rows)
      → row_at key (cond b (r ∷ filter test rows) (filter test rows)) ≡ option_and_then (λ x. pass (test x) x) (row_at key (r ∷ rows))
  chosen_at key r rows true Equal e k up more =
      here key r (filter test rows) k ∙ sym (ap (λ found. option_and_then (λ x. pass (test x) x) found) (here key r rows k) ∙ ap (λ b. pass b r) e)
  chosen_at key r rows false Equal e k up more =
      above_all key (filter test rows) (above_kept key rows (AllAbove-tied (key_of r) key rows k up.0))
      ∙ sym (ap (λ found. option_and_then (λ x. pass (test x) x) found) (here key r rows k) ∙ ap (λ b. pass b r) e)
  chosen_at key r rows true Less e k up more =
      behind key r (filter test rows) Less k refl ∙ more ∙ sym (ap (λ found. option_and_then (λ x. pass (test x) x) found) (behind key r rows Less k refl))
  chosen_at key r rows true Greater e k up more =
      behind key r (filter test rows) Greater k refl ∙ more ∙ sym (ap (λ found. option_and_then (λ x. pass (test x) x) found) (behind key r rows Greater k refl))
  chosen_at key r rows false Less e k up more = more ∙ sym (ap (λ found. option_and_then (λ x. pass (test x) x) found) (behind key r rows Less k refl))
  chosen_at key r rows false Greater e k up more = more ∙ sym (ap (λ found. option_and_then (λ x. pass (test x) x) found) (behind key r rows Greater k refl))

  pub kept_at : (key : Key) (rows : List Record) → IsRising rows → row_at key (filter test rows) ≡ option_and_then (λ x. pass (test x) x) (row_at key rows)
  kept_at key [] up = refl
  kept_at key (r ∷ rows) up = chosen_at key r rows (test r) (key_cmp (key_of r) key) refl refl up (kept_at key rows up.1)

-- ---- the rows of a user in groups

module _ (user : List ℕ) where
  abbrev row_in : List ℕ → Record
  row_in group = records.Group (record { group = group; user = user })

  abbrev rows_in : List (List ℕ) → List Record
  rows_in groups = map row_in groups

  abbrev key_in : List ℕ → Key
  key_in group = keys.Group group user

  below_group : (a b : List ℕ) → slice_cmp nat_cmp a b ≡ Less → key_cmp (key_in a) (key_in b) ≡ Less
  below_group a b e = rw e refl

  above_group : (a b : List ℕ) → slice_cmp nat_cmp a b ≡ Greater → key_cmp (key_in a) (key_in b) ≡ Greater
  above_group a b e = rw e refl

  same_user : (a b u : List ℕ) → key_cmp (key_in a) (keys.Group b u) ≡ Equal → (a ≡ b) × (user ≡ u)
  same_user a b u e = let is : key_in a ≡ keys.Group b u = (keys_equal (key_in a) (keys.Group b u)).0 e in (cc, cc)

  are_groups : (groups : List (List ℕ)) → AllOfTable tables.Group (rows_in groups)
  are_groups [] = tt
  are_groups (g ∷ groups) = (refl, are_groups groups)

  -- a name in its place among names that rise
  abbrev placed : List ℕ → List ℕ → List (List ℕ) → Bool → Bool → List (List ℕ)
  placed x y ys is_there is_lower = if is_there then y ∷ ys else (if is_lower then x ∷ y ∷ ys else y ∷ inserted x ys)

  placed_above : (k : Key) (x y : List ℕ) (ys : List (List ℕ)) (b c : Bool) → AllAbove k (rows_in (y ∷ ys)) → key_cmp (key_in x) k ≡ Greater
      → AllAbove k (rows_in (inserted x ys)) → AllAbove k (rows_in (placed x y ys b c))
  placed_above k x y ys true c all high more = all
  placed_above k x y ys false true all high more = (high, all)
  placed_above k x y ys false false all high more = (all.0, more)

  inserted_above : (k : Key) (x : List ℕ) (ys : List (List ℕ)) → AllAbove k (rows_in ys) → key_cmp (key_in x) k ≡ Greater → AllAbove k (rows_in (inserted x ys))
  inserted_above k x [] all high = (high, tt)
  inserted_above k x (y ∷ ys) all high =
      placed_above k x y ys (same x y) (is_lt (slice_cmp nat_cmp x y)) all high (inserted_above k x ys all.1 high)

  placed_rise : (x y : List ℕ) (ys : List (List ℕ)) (b : Bool) (o : Ordering) → same x y ≡ b → slice_cmp nat_cmp x y ≡ o → IsRising (rows_in (y ∷ ys))
      → IsRising (rows_in (inserted x ys)) → IsRising (rows_in (placed x y ys b (is_lt o)))
  placed_rise x y ys true o e k up more = up
  placed_rise x y ys false Less e k up more =
      let turned = turned_less (key_in x) (key_in y) (below_group x y k) in
      ((turned, AllAbove-lower (key_in y) (key_in x) (rows_in ys) turned up.0), up)
  placed_rise x y ys false Greater e k up more = (inserted_above (key_in y) x ys up.0 (above_group x y k), more)
  placed_rise x y ys false Equal e k up more =
      let tied : is_eq (slice_cmp nat_cmp x y) ≡ true = ap is_eq k in
      absurd (let h : true ≡ false = sym tied ∙ is_eq-slice_cmp x y ∙ e in cc)

  inserted_rise : (x : List ℕ) (ys : List (List ℕ)) → IsRising (rows_in ys) → IsRising (rows_in (inserted x ys))
  inserted_rise x [] up = (tt, tt)
  inserted_rise x (y ∷ ys) up = placed_rise x y ys (same x y) (slice_cmp nat_cmp x y) refl refl up (inserted_rise x ys up.1)

  placed_has : (g x y : List ℕ) (ys : List (List ℕ)) (b c : Bool) → same x y ≡ b → same g x ≡ true → list_any (same g) (inserted x ys) ≡ true
      → list_any (same g) (placed x y ys b c) ≡ true
  placed_has g x y ys true c e is more =
      let P : List ℕ → Type 0 = λ z. (same g z || list_any (same g) ys) ≡ true in
      subst P (same_text x y e) (rw is refl)
  placed_has g x y ys false true e is more = rw is refl
  placed_has g x y ys false false e is more = or_right (same g y) (list_any (same g) (inserted x ys)) more

  inserted_has : (g x : List ℕ) (ys : List (List ℕ)) → same g x ≡ true → list_any (same g) (inserted x ys) ≡ true
  inserted_has g x [] is = rw is refl
  inserted_has g x (y ∷ ys) is = placed_has g x y ys (same x y) (is_lt (slice_cmp nat_cmp x y)) refl is (inserted_has g x ys is)

  either_true : (a b c : Bool) → (b ≡ true → c ≡ true) → (a || b) ≡ true → (a || c) ≡ true
  either_true true b c f e = refl
  either_true false b c f e = f e

  placed_keeps : (g x y : List ℕ) (ys : List (List ℕ)) (b c : Bool) → list_any (same g) (y ∷ ys) ≡ true
      → (list_any (same g) ys ≡ true → list_any (same g) (inserted x ys) ≡ true) → list_any (same g) (placed x y ys b c) ≡ true
  placed_keeps g x y ys true c is more = is
  placed_keeps g x y ys false true is more = or_right (same g x) (list_any (same g) (y ∷ ys)) is
  placed_keeps g x y ys false false is more = either_true (same g y) (list_any (same g) ys) (list_any (same g) (inserted x ys)) more is

  inserted_keeps : (g x : List ℕ) (ys : List (List ℕ)) → list_any (same g) ys ≡ true → list_any (same g) (inserted x ys) ≡ true
  inserted_keeps g x [] is = absurd cc
  inserted_keeps g x (y ∷ ys) is = placed_keeps g x y ys (same x y) (is_lt (slice_cmp nat_cmp x y)) is (inserted_keeps g x ys)

  -- ---- the groups of a depot

  names_rise : (d : List Deed) → IsRising (rows_in (keys_of group_name d))
  names_rise [] = tt
  names_rise (deeds.Group n us ∷ d) = inserted_rise n (keys_of group_name d) (names_rise d)
  names_rise (_ ∷ d) = names_rise d

  abbrev lists_in : List (List ℕ) → Bool
  lists_in us = list_any (same user) us

  -- a group that lists a user is named
  said_here : (g n : List ℕ) (us : List (List ℕ)) (d : List Deed) (b : Bool) → same n g ≡ b
      → lists_in (unwrap_or (option_or (if b then Some us else None) (latest (group_said g) d)) []) ≡ true
      → (lists_in (users d g) ≡ true → list_any (same g) (keys_of group_name d) ≡ true) → list_any (same g) (inserted n (keys_of group_name d)) ≡ true
  said_here g n us d true e is more =
      let P : List ℕ → Type 0 = λ x. same g x ≡ true in
      inserted_has g n (keys_of group_name d) (subst P (sym (same_text n g e)) (same_self g))
  said_here g n us d false e is more = inserted_keeps g n (keys_of group_name d) (more is)

  said : (g : List ℕ) (d : List Deed) → lists_in (users d g) ≡ true → list_any (same g) (keys_of group_name d) ≡ true
  said g [] is = absurd cc
  said g (deeds.Group n us ∷ d) is = said_here g n us d (same n g) refl is (said g d)
  said g (_ ∷ d) is = said g d is

  -- ---- the groups that pass a test, by name

  module _ (test : List ℕ → Bool) where
    abbrev passing : List (List ℕ) → List (List ℕ)
    passing groups = filter test groups

    first_above : (k : Key) (g : List ℕ) (kept : List (List ℕ)) (b : Bool) → key_cmp (key_in g) k ≡ Greater → AllAbove k (rows_in kept)
        → AllAbove k (rows_in (cond b (g ∷ kept) kept))
    first_above k g kept true e h = (e, h)
    first_above k g kept false e h = h

    passing_above : (k : Key) (groups : List (List ℕ)) → AllAbove k (rows_in groups) → AllAbove k (rows_in (passing groups))
    passing_above k [] high = tt
    passing_above k (g ∷ groups) high = first_above k g (passing groups) (test g) high.0 (passing_above k groups high.1)

    first_rises : (g : List ℕ) (kept : List (List ℕ)) (b : Bool) → AllAbove (key_in g) (rows_in kept) → IsRising (rows_in kept) → IsRising (rows_in (cond b (g ∷ kept) kept))
    first_rises g kept true e h = (e, h)
    first_rises g kept false e h = h

    passing_rise : (groups : List (List ℕ)) → IsRising (rows_in groups) → IsRising (rows_in (passing groups))
    passing_rise [] up = tt
    passing_rise (g ∷ groups) up = first_rises g (passing groups) (test g) (passing_above (key_in g) groups up.0) (passing_rise groups up.1)

    module _ (g : List ℕ) where
      -- a group that isn't the first is behind it
      not_first : (b rest : Bool) → (b ≡ true → ⊥) → (b || rest) ≡ true → rest ≡ true
      not_first true rest n e = absurd (n refl)
      not_first false rest n e = e

      elsewhere : (x : List ℕ) (groups : List (List ℕ)) (o : Ordering) → key_cmp (key_in x) (key_in g) ≡ o → is_eq o ≡ false
          → (same g x || list_any (same g) groups) ≡ true → list_any (same g) groups ≡ true
      elsewhere x groups o k n there = not_first (same g x) (list_any (same g) groups) (λ e.
          let P : List ℕ → Type 0 = λ y. key_cmp (key_in y) (key_in g) ≡ Equal in
          let tied : key_cmp (key_in x) (key_in g) ≡ Equal = subst P (same_text g x e) (itself (key_in g)) in
          let h : true ≡ false = ap is_eq (sym tied ∙ k) ∙ n in cc) there

      other : (x : List ℕ) (groups : List (List ℕ)) → test g ≡ true → test x ≡ false → (same g x || list_any (same g) groups) ≡ true
          → list_any (same g) groups ≡ true
      other x groups is e there = not_first (same g x) (list_any (same g) groups) (λ k.
          let h : true ≡ false = sym is ∙ ap test (same_text g x k) ∙ e in cc) there

      -- where the group passes and is there
      first_is : (x : List ℕ) (groups : List (List ℕ)) (b : Bool) (o : Ordering) → test g ≡ true → test x ≡ b → key_cmp (key_in x) (key_in g) ≡ o
          → (same g x || list_any (same g) groups) ≡ true
          → (list_any (same g) groups ≡ true → row_at (key_in g) (rows_in (passing groups)) ≡ Some (row_in g))
          → row_at (key_in g) (rows_in (cond b (x ∷ passing groups) (passing groups))) ≡ Some (row_in g)
      first_is x groups true Equal is e k there more =
          here (key_in g) (row_in x) (rows_in (passing groups)) k ∙ ap (λ n. Some (row_in n)) (same_user x g user k).0
      first_is x groups true Less is e k there more =
          behind (key_in g) (row_in x) (rows_in (passing groups)) Less k refl ∙ more (elsewhere x groups Less k refl there)
      first_is x groups true Greater is e k there more =
          behind (key_in g) (row_in x) (rows_in (passing groups)) Greater k refl ∙ more (elsewhere x groups Greater k refl there)
      first_is x groups false o is e k there more = more (other x groups is e there)

      is_there : (groups : List (List ℕ)) → test g ≡ true → list_any (same g) groups ≡ true → row_at (key_in g) (rows_in (passing groups)) ≡ Some (row_in g)
      is_there [] is there = absurd cc
      is_there (x ∷ groups) is there = first_is x groups (test x) (key_cmp (key_in x) (key_in g)) is refl refl there (is_there groups is)

      -- where it doesn't pass
      first_is_not : (x : List ℕ) (groups : List (List ℕ)) (b : Bool) (o : Ordering) → test g ≡ false → test x ≡ b → key_cmp (key_in x) (key_in g) ≡ o
          → row_at (key_in g) (rows_in (passing groups)) ≡ None → row_at (key_in g) (rows_in (cond b (x ∷ passing groups) (passing groups))) ≡ None
      first_is_not x groups true Equal is e k more = absurd (let h : true ≡ false = sym e ∙ ap test (same_user x g user k).0 ∙ is in cc)
      first_is_not x groups true Less is e k more = behind (key_in g) (row_in x) (rows_in (passing groups)) Less k refl ∙ more
      first_is_not x groups true Greater is e k more = behind (key_in g) (row_in x) (rows_in (passing groups)) Greater k refl ∙ more
      first_is_not x groups false o is e k more = more

      is_not_there : (groups : List (List ℕ)) → test g ≡ false → row_at (key_in g) (rows_in (passing groups)) ≡ None
      is_not_there [] is = refl
      is_not_there (x ∷ groups) is = first_is_not x groups (test x) (key_cmp (key_in x) (key_in g)) is refl refl (is_not_there groups is)

  -- no row of another user
  other_first : (g u x : List ℕ) (groups : List (List ℕ)) (o : Ordering) → (user ≡ u → ⊥) → key_cmp (key_in x) (keys.Group g u) ≡ o
      → row_at (keys.Group g u) (rows_in groups) ≡ None → row_at (keys.Group g u) (rows_in (x ∷ groups)) ≡ None
  other_first g u x groups Equal n k more = absurd (n (same_user x g u k).1)
  other_first g u x groups Less n k more = behind (keys.Group g u) (row_in x) (rows_in groups) Less k refl ∙ more
  other_first g u x groups Greater n k more = behind (keys.Group g u) (row_in x) (rows_in groups) Greater k refl ∙ more

  of_no_other : (g u : List ℕ) (groups : List (List ℕ)) → (user ≡ u → ⊥) → row_at (keys.Group g u) (rows_in groups) ≡ None
  of_no_other g u [] n = refl
  of_no_other g u (x ∷ groups) n = other_first g u x groups (key_cmp (key_in x) (keys.Group g u)) n refl (of_no_other g u groups n)

  -- ---- the rows that are of the user

  abbrev AllNames : List (List ℕ) → Type 0
  AllNames [] = Unit {0}
  AllNames (g ∷ groups) = (is_name g ≡ true) × AllNames groups

  named_in : (groups : List (List ℕ)) → AllNames groups → flat_map group_in (rows_in groups) ≡ groups
  named_in [] all = refl
  named_in (g ∷ groups) all =
      ap (λ b. (if b then g ∷ [] else []) ++ flat_map group_in (rows_in groups)) all.0 ∙ ap (λ (l : List (List ℕ)). g ∷ l) (named_in groups all.1)

  first_named : (test : List ℕ → Bool) (g : List ℕ) (kept : List (List ℕ)) (b : Bool) → test g ≡ b → (test g ≡ true → is_name g ≡ true) → AllNames kept
      → AllNames (cond b (g ∷ kept) kept)
  first_named test g kept true e h more = (h e, more)
  first_named test g kept false e h more = more

  all_named : (test : List ℕ → Bool) → ((g : List ℕ) → test g ≡ true → is_name g ≡ true) → (groups : List (List ℕ)) → AllNames (filter test groups)
  all_named test h [] = tt
  all_named test h (g ∷ groups) = first_named test g (filter test groups) (test g) refl (h g) (all_named test h groups)

  -- ---- the rows of a sound depot

  module _ (d : List Deed) (sound : IsSound d) where
    abbrev lists : List ℕ → Bool
    lists group = list_any (same user) (users d group)

    abbrev groups : List (List ℕ)
    groups = filter lists (keys_of group_name d)

    listed_name : (g : List ℕ) → lists g ≡ true → is_name g ≡ true
    listed_name g is =
        let P : Bool → Type 0 = λ b. IfSome (if b then Some (row_in g) else None) (IsRow (record_of d)) in
        let kept : IsRow (record_of d) (row_in g) = subst P is (sound.rules.each (key_in g)) in kept.0

    -- their rows
    own_at : (g : List ℕ) (b : Bool) → lists g ≡ b → row_at (key_in g) (rows_in groups) ≡ (if b then Some (row_in g) else None)
    own_at g true e = is_there lists g (keys_of group_name d) e (said g d e)
    own_at g false e = is_not_there lists g (keys_of group_name d) e

    own_rise : IsRising (rows_in groups)
    own_rise = passing_rise lists (keys_of group_name d) (names_rise d)

    own_names : flat_map group_in (rows_in groups) ≡ groups
    own_names = named_in groups (all_named lists listed_name (keys_of group_name d))

    module _ (rows : List Record) (up : IsRising rows) (of : AllOfTable tables.Group rows) (has : (key : Key) → key_table key ≡ tables.Group → row_at key rows ≡ record_of d key) where
      abbrev row_for : List ℕ → List ℕ → Bool → Option Record
      row_for g u b = if b then Some (records.Group (record { group = g; user = u })) else None

      abbrev passed : Option Record → Option Record
      passed found = option_and_then (λ x. if is_of_user user x then Some x else None) found

      passed_at : (g : List ℕ) (b : Bool) → lists g ≡ b → passed (row_for g user b) ≡ row_at (key_in g) (rows_in groups)
      passed_at g true e = ap (λ b. if b then Some (row_in g) else None) (same_self user) ∙ sym (own_at g true e)
      passed_at g false e = sym (own_at g false e)

      apart : (g u : List ℕ) (b : Bool) → same u user ≡ false → passed (row_for g u b) ≡ None
      apart g u true e = ap (λ b. if b then Some (records.Group (record { group = g; user = u })) else None) e
      apart g u false e = refl

      found_at : (g u : List ℕ) (b : Bool) → same u user ≡ b → row_at (keys.Group g u) (filter (is_of_user user) rows) ≡ row_at (keys.Group g u) (rows_in groups)
      found_at g u true e =
          let P : List ℕ → Type 0 = λ x. row_at (keys.Group g x) (filter (is_of_user user) rows) ≡ row_at (keys.Group g x) (rows_in groups) in
          subst P (sym (same_text u user e)) (kept_at (is_of_user user) (key_in g) rows up ∙ ap passed (has (key_in g) refl) ∙ passed_at g (lists g) refl)
      found_at g u false e =
          kept_at (is_of_user user) (keys.Group g u) rows up ∙ ap passed (has (keys.Group g u) refl) ∙ apart g u (list_any (same u) (users d g)) e
          ∙ sym (of_no_other g u groups (λ k. let h : true ≡ false = sym ((bytes_eq-Decides u user).1 (sym k)) ∙ e in cc))

      at_key : (key : Key) → key_table key ≡ tables.Group → row_at key (filter (is_of_user user) rows) ≡ row_at key (rows_in groups)
      at_key (keys.Group g u) k = found_at g u (same u user) refl
      at_key (keys.Counter name) k = absurd cc
      at_key (keys.Protect n) k = absurd cc
      at_key (keys.Domain a b) k = absurd cc
      at_key (keys.Have a b) k = absurd cc
      at_key (keys.Label a b) k = absurd cc
      at_key (keys.Integed a b x y u v how change) k = absurd cc
      at_key (keys.Resolve a b x) k = absurd cc
      at_key (keys.Working a b) k = absurd cc
      at_key (keys.Change n) k = absurd cc
      at_key (keys.Rev a n) k = absurd cc

      pub groups_listed : groups_in user rows ≡ groups_of d user
      groups_listed =
          ap (λ rs. flat_map group_in rs)
          (rows_alike tables.Group (filter (is_of_user user) rows) (rows_in groups) (kept_rise (is_of_user user) rows up) own_rise (kept_of (is_of_user user) tables.Group rows of)
          (are_groups groups) at_key)
          ∙ own_names

-- depots with the same rows have the same groups of a user
module _ (user : List ℕ) (d e : List Deed) (left : IsSound d) (right : IsSound e) (same_rows : (key : Key) → record_of d key ≡ record_of e key) where
  alike_at : (g u : List ℕ) (b : Bool) → same user u ≡ b
      → row_at (keys.Group g u) (rows_in user (groups user d left)) ≡ row_at (keys.Group g u) (rows_in user (groups user e right))
  alike_at g u true k =
      let P : List ℕ → Type 0 = λ x. row_at (keys.Group g x) (rows_in user (groups user d left)) ≡ row_at (keys.Group g x) (rows_in user (groups user e right)) in
      subst P (same_text user u k)
      (own_at user d left g (lists user d left g) refl ∙ same_rows (keys.Group g user) ∙ sym (own_at user e right g (lists user e right g) refl))
  alike_at g u false k =
      let other : user ≡ u → ⊥ = λ is. let h : true ≡ false = sym ((bytes_eq-Decides user u).1 is) ∙ k in cc in
      of_no_other user g u (groups user d left) other ∙ sym (of_no_other user g u (groups user e right) other)

  alike_key : (key : Key) → key_table key ≡ tables.Group → row_at key (rows_in user (groups user d left)) ≡ row_at key (rows_in user (groups user e right))
  alike_key (keys.Group g u) k = alike_at g u (same user u) refl
  alike_key (keys.Counter name) k = absurd cc
  alike_key (keys.Protect n) k = absurd cc
  alike_key (keys.Domain a b) k = absurd cc
  alike_key (keys.Have a b) k = absurd cc
  alike_key (keys.Label a b) k = absurd cc
  alike_key (keys.Integed a b x y u v how change) k = absurd cc
  alike_key (keys.Resolve a b x) k = absurd cc
  alike_key (keys.Working a b) k = absurd cc
  alike_key (keys.Change n) k = absurd cc
  alike_key (keys.Rev a n) k = absurd cc

  pub same_groups : groups_of d user ≡ groups_of e user
  same_groups =
      let alike = rows_alike tables.Group (rows_in user (groups user d left)) (rows_in user (groups user e right)) (own_rise user d left) (own_rise user e right)
      (are_groups user (groups user d left)) (are_groups user (groups user e right)) alike_key in
      sym (own_names user d left) ∙ ap (λ rs. flat_map group_in rs) alike ∙ own_names user e right

pub groups_told : (version : TableRows) (rows : List Record) → version.rows ≡ rows → version.table ≡ tables.Group → AllOfTable version.table version.rows
    → IsRising version.rows → (d : List Deed) → IsSound d → ((key : Key) → key_table key ≡ tables.Group → unplaced_at rows key ≡ record_of d key)
    → (user : List ℕ) → groups_in user rows ≡ groups_of d user
groups_told version rows are is of up d sound has user =
    let P : TableId → Type 0 = λ t. AllOfTable t rows in
    let Q : List Record → Type 0 = λ rs. AllOfTable version.table rs in
    let ours : AllOfTable tables.Group rows = subst P is (subst Q are of) in
    groups_listed user d sound rows (subst IsRising are up) ours (λ key k. sym (unplaced_row tables.Group (λ e. cc) rows ours key) ∙ has key k)
