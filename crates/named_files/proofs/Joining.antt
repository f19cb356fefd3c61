-- The files that begin with one of some texts that are apart are those of each text in turn.
use Rattle.std.proofs.Common.{◌≡◌, ℕ, Bool, true, false, List, [], ◌∷◌, ◌++◌, refl, sym, ap, subst, ◌∙◌}
use Rattle.std.specs.Prelude.{◌||◌, filter, if◌then◌else◌}
use Rattle.std.specs.declared.cmp.Ordering.TheVariants.{Less}
use Rattle.depot_rows.specs.depot_path.Order.{path_cmp}
use Rattle.depot_rows.specs.depot_path.Path.{printed}
use Rattle.depot_rows.specs.db_records.declared.record.Record.{Record}
use Rattle.depot_rows.specs.db_records.declared.table.TableId.{TableId}
use Rattle.depot_rows.specs.table_store.Rows.{AllOfTable, IsRising, TableRows}
use Rattle.named_files.specs.Beginnings.{AreApart, AreBehind, has_one, in_turn}
use Rattle.named_files.specs.Listed.{has_beginning, listed, listing_table}
use Rattle.named_files.specs.declared.listing.Listing.{Listing}
use Rattle.named_files.proofs.Apart.{ahead_of_all}
use Rattle.depot_rows.proofs.Sorted.{not_itself, path_order}
use Rattle.depot_rows.specs.Rising.{Below, Rise}
use Rattle.named_files.proofs.RowsListed.{each_row, in_order, listed_rise, own_key}

none_left : (f : List ℕ → Bool) (p : List ℕ) (files : List (List ℕ)) → Below p files → ((q : List ℕ) → f q ≡ true → path_cmp q p ≡ Less) → filter f files ≡ []
none_left f p [] below before = refl
none_left f p (q ∷ files) below before = go (f q) refl (none_left f p files below.1 before)
  where
    go : (b : Bool) → f q ≡ b → filter f files ≡ [] → (if b then q ∷ filter f files else filter f files) ≡ []
    go true e more = absurd (not_itself p (path_order.trans p q p below.0 (before q e)))
    go false e more = more

-- where all that passes one test is before all that passes another one
in_two : (f g : List ℕ → Bool) → ((p q : List ℕ) → f p ≡ true → g q ≡ true → path_cmp p q ≡ Less) → (files : List (List ℕ)) → Rise files
    → filter f files ++ filter g files ≡ filter (λ p. f p || g p) files
in_two f g before [] rise = refl
in_two f g before (p ∷ files) rise = go (f p) refl (g p) refl (in_two f g before files rise.2)
  where
    both : List (List ℕ)
    both = filter (λ q. f q || g q) files

    none : g p ≡ true → filter f files ≡ []
    none k = none_left f p files rise.1 (λ q e. before q p e k)

    go : (s : Bool) → f p ≡ s → (t : Bool) → g p ≡ t → filter f files ++ filter g files ≡ both
        → (if s then p ∷ filter f files else filter f files) ++ (if t then p ∷ filter g files else filter g files) ≡ (if s || t then p ∷ both else both)
    go true e true k more = absurd (not_itself p (before p p e k))
    go true e false k more = λ i. p ∷ more i
    go false e true k more = ap (λ (l : List (List ℕ)). l ++ p ∷ filter g files) (none k) ∙ ap (λ (l : List (List ℕ)). p ∷ l) (sym (ap (λ (l : List (List ℕ)). l ++ filter g files) (none k)) ∙ more)
    go false e false k more = more

nothing : (files : List (List ℕ)) → in_turn [] files ≡ filter (has_one []) files
nothing [] = refl
nothing (p ∷ files) = nothing files

module _ (files : List (List ℕ)) (rise : Rise files) where
  one_more : (b : List ℕ) (bs : List (List ℕ)) → AreBehind b bs → in_turn bs files ≡ filter (has_one bs) files → in_turn (b ∷ bs) files ≡ filter (has_one (b ∷ bs)) files
  one_more b bs behind more =
      ap (λ (l : List (List ℕ)). filter (has_beginning b) files ++ l) more
      ∙ in_two (has_beginning b) (has_one bs) (λ p q at one. ahead_of_all b bs (printed p) (printed q) behind at one) files rise

  pub joined : (beginnings : List (List ℕ)) → AreApart beginnings → in_turn beginnings files ≡ filter (has_one beginnings) files
  joined [] apart = nothing files
  joined (b ∷ []) apart = one_more b [] apart (nothing files)
  joined (b ∷ c ∷ bs) apart = one_more b (c ∷ bs) apart (joined (c ∷ bs) apart.2)

-- so those of a list, as the rows of a table have it
pub listed_joined : (listing : Listing) (version : TableRows) (rows : List Record) → version.rows ≡ rows → version.table ≡ listing_table listing
    → AllOfTable version.table version.rows → IsRising version.rows → (beginnings : List (List ℕ)) → AreApart beginnings
    → in_turn beginnings (listed listing rows) ≡ filter (has_one beginnings) (listed listing rows)
listed_joined listing version rows are is of up beginnings apart =
    let P : TableId → Type 0 = λ t. AllOfTable t rows in
    let Q : List Record → Type 0 = λ rs. AllOfTable version.table rs in
    joined (listed listing rows)
    (listed_rise listing (own_key listing) (each_row listing) (in_order listing) rows (subst IsRising are up) (subst P is (subst Q are of))) beginnings apart
