-- The rows of a group list its users.
use Rattle.std.proofs.Common.{◌≡◌, ℕ, Bool, true, false, ◌&&◌, ◌||◌, ◌⊎◌, inl, inr, List, [], ◌∷◌, Option, Some, None, refl, sym, ap, ◌∙◌, subst}
use Rattle.std.specs.Prelude.{filter, if◌then◌else◌}
use Rattle.std.specs.List.{list_any}
use Rattle.std.specs.Cmp.Lexicographic.{slice_cmp}
use Rattle.std.specs.Ordering.{nat_cmp}
use Rattle.std.specs.declared.cmp.Ordering.TheVariants.{Equal}
use Rattle.std.proofs.lemmas.Bool.{or_from, or_right}
use Rattle.depot_rows.specs.depot_path.Bytes.{same}
use Rattle.depot_rows.specs.db_records.Key.{key_cmp, key_table}
use Rattle.depot_rows.specs.db_records.Record.{key_of}
use Rattle.depot_rows.specs.db_records.declared.key.Key.{Key}
use Rattle.depot_rows.specs.db_records.declared.key.Key.TheVariants as keys
use Rattle.depot_rows.specs.db_records.declared.record.Record.{Record}
use Rattle.depot_rows.specs.db_records.declared.record.Record.TheVariants as records
use Rattle.depot_rows.specs.db_records.declared.table.TableId.{TableId}
use Rattle.depot_rows.specs.db_records.declared.table.TableId.TheVariants as tables
use Rattle.depot_rows.proofs.db_records.Order.{keys_equal}
use Rattle.row_ranges.specs.Ranges.{has_row, is_in}
use Rattle.row_ranges.specs.declared.range.KeyRange.TheVariants.{GroupUsers}
use Rattle.depot_rows.specs.table_store.Rows.{AllOfTable, IsRising, TableRows, row_at}
use Rattle.depot_rows.specs.depot_model.Deeds.{Deed}
use Rattle.depot_rows.specs.depot_model.Latest.{users}
use Rattle.depot_rows.specs.depot_model.Records.{record_of}
use Rattle.depot_rows.specs.depot_model.Steps.Groups.{by_name}
use Rattle.depot_rows.specs.Standing.{unplaced_at}
use Rattle.row_reads.specs.Groups.{user_in, users_in}
use Rattle.row_reads.proofs.Alike.{unplaced_row}
use Rattle.row_reads.proofs.GroupsListed.{same_text, same_self}
use Rattle.row_reads.proofs.Named.{AllAre, AreRising, all_are, inserted_are, inserted_lacks, inserted_rise, names_read, rows_are, tied_then}

-- ---- users by name

names_rise : (us : List (List ℕ)) → AreRising (by_name us)
names_rise [] = tt
names_rise (u ∷ us) = inserted_rise u (by_name us) (names_rise us)

unlisted : (x : List ℕ) (us : List (List ℕ)) → list_any (same x) (by_name us) ≡ false → list_any (same x) us ≡ false
unlisted x [] lacks = refl
unlisted x (u ∷ us) lacks =
    let h = inserted_lacks x u (by_name us) lacks in
    or_from (same x u) (list_any (same x) us) h.0 (unlisted x us h.1)

abbrev IsListed : List (List ℕ) → List ℕ → Type 0
IsListed us x = list_any (same x) us ≡ true

all_listed : (us : List (List ℕ)) → AllAre (IsListed us) (by_name us)
all_listed [] = tt
all_listed (u ∷ us) =
    inserted_are (IsListed (u ∷ us)) u (by_name us) (ap (λ b. b || list_any (same u) us) (same_self u))
    (all_are (IsListed us) (IsListed (u ∷ us)) (λ x h. or_right (same x u) (list_any (same x) us) h) (by_name us) (all_listed us))

-- ---- their rows

module _ (group : List ℕ) where
  abbrev row_if : Bool → List ℕ → Option Record
  row_if listed user = if listed then Some (records.Group (record { group = group; user = user })) else None

  own : (b : Bool) (x : List ℕ) (r : Record) → row_if b x ≡ Some r → r ≡ records.Group (record { group = group; user = x })
  own false x r e = absurd cc
  own true x r e = let h : records.Group (record { group = group; user = x }) ≡ r = cc in sym h

  of_group : (a b : List ℕ) (c : Bool) → same group a ≡ c
      → ((x : List ℕ) × (keys.Group a b ≡ keys.Group group x)) ⊎ ((r : Record) → has_row (GroupUsers group) r ≡ true → key_cmp (key_of r) (keys.Group a b) ≡ Equal → ⊥)
  of_group a b true e = inl (b, ap (λ g. keys.Group g b) (sym (same_text group a e)))
  of_group a b false e = inr (λ r is k.
      let one : key_of r ≡ keys.Group a b = (keys_equal (key_of r) (keys.Group a b)).0 k in
      let P : Key → Type 0 = λ q. is_in (GroupUsers group) q ≡ true in
      let h : (same group a && true) ≡ true = subst P one is in
      let g : (false && true) ≡ true = sym (ap (λ b. b && true) e) ∙ h in
      cc)

  known : (q : Key) → key_table q ≡ tables.Group
      → ((x : List ℕ) × (q ≡ keys.Group group x)) ⊎ ((r : Record) → has_row (GroupUsers group) r ≡ true → key_cmp (key_of r) q ≡ Equal → ⊥)
  known (keys.Group a b) k = of_group a b (same group a) refl
  known (keys.Counter name) k = absurd cc
  known (keys.Domain a b) k = absurd cc
  known (keys.Protect n) k = absurd cc
  known (keys.Have a b) k = absurd cc
  known (keys.Label a b) k = absurd cc
  known (keys.Integed a b x y u v how change) k = absurd cc
  known (keys.Resolve a b x) k = absurd cc
  known (keys.Working a b) k = absurd cc
  known (keys.Change n) k = absurd cc
  known (keys.Rev a n) k = absurd cc

  compared : (a b : List ℕ) → key_cmp (keys.Group group a) (keys.Group group b) ≡ slice_cmp nat_cmp a b
  compared a b = tied_then group a b

  in_range : (x : List ℕ) → has_row (GroupUsers group) (records.Group (record { group = group; user = x })) ≡ true
  in_range x = ap (λ b. b && true) (same_self group)

  module _ (us : List (List ℕ)) where
    abbrev said : List ℕ → Option Record
    said x = row_if (list_any (same x) us) x

    key_is : (x : List ℕ) (r : Record) → said x ≡ Some r → key_of r ≡ keys.Group group x
    key_is x r e = let P : Record → Type 0 = λ s. key_of s ≡ keys.Group group x in subst P (sym (own (list_any (same x) us) x r e)) refl

    passes : (x : List ℕ) (r : Record) → said x ≡ Some r → has_row (GroupUsers group) r ≡ true
    passes x r e = let P : Record → Type 0 = λ s. has_row (GroupUsers group) s ≡ true in subst P (sym (own (list_any (same x) us) x r e)) (in_range x)

    one : (x : List ℕ) (r : Record) → said x ≡ Some r → user_in r ≡ x ∷ []
    one x r e = let P : Record → Type 0 = λ s. user_in s ≡ x ∷ [] in subst P (sym (own (list_any (same x) us) x r e)) refl

    abbrev HasRow : List ℕ → Type 0
    HasRow x = (r : Record) × (said x ≡ Some r)

    have_rows : AllAre HasRow (by_name us)
    have_rows = all_are (IsListed us) HasRow (λ x h. (records.Group (record { group = group; user = x }), ap (λ b. row_if b x) h)) (by_name us) (all_listed us)

    pub users_are : (rows : List Record) → IsRising rows → AllOfTable tables.Group rows → ((x : List ℕ) → row_at (keys.Group group x) rows ≡ said x)
        → users_in (filter (has_row (GroupUsers group)) rows) ≡ by_name us
    users_are rows up of has =
        ap (λ rs. users_in rs)
        (rows_are (keys.Group group) compared said key_is tables.Group (λ x. refl) (has_row (GroupUsers group)) passes known rows up of (by_name us) (names_rise us)
        (λ x lacks. ap (λ b. row_if b x) (unlisted x us lacks)) has)
        ∙ names_read (keys.Group group) compared said key_is user_in one (by_name us) have_rows

pub users_told : (version : TableRows) (rows : List Record) → version.rows ≡ rows → version.table ≡ tables.Group → AllOfTable version.table version.rows
    → IsRising version.rows → (d : List Deed) (group : List ℕ) → ((key : Key) → key_table key ≡ tables.Group → unplaced_at rows key ≡ record_of d key)
    → users_in (filter (has_row (GroupUsers group)) rows) ≡ by_name (users d group)
users_told version rows are is of up d group has =
    let P : TableId → Type 0 = λ t. AllOfTable t rows in
    let Q : List Record → Type 0 = λ rs. AllOfTable version.table rs in
    let ours : AllOfTable tables.Group rows = subst P is (subst Q are of) in
    users_are group (users d group) rows (subst IsRising are up) ours
    (λ x. sym (unplaced_row tables.Group (λ e. cc) rows ours (keys.Group group x)) ∙ has (keys.Group group x) refl)
