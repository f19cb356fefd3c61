-- What the rows of a list tell of its files: which there are, and that they rise.
use Rattle.std.proofs.Common.{◌≡◌, ℕ, Bool, true, false, cond, List, [], ◌∷◌, ◌++◌, Option, Some, None, Result, Ok, Err, ◌⊎◌, inl, inr, refl, sym, ap, subst, ◌∙◌}
use Rattle.std.specs.Prelude.{◌||◌, ◌==◌, if◌then◌else◌, is_some}
use Rattle.std.specs.List.{list_any}
use Rattle.std.specs.Ordering.{ordering_then}
use Rattle.std.specs.declared.cmp.Ordering.{Ordering}
use Rattle.std.specs.declared.cmp.Ordering.TheVariants.{Less, Equal, Greater}
use Rattle.std.proofs.lemmas.List.Folds.{list_any-append}
use Rattle.std.proofs.lemmas.Bool.{false≢true}
use Rattle.depot_rows.specs.depot_path.Bytes.{same}
use Rattle.depot_rows.specs.depot_path.Order.{path_cmp}
use Rattle.depot_rows.specs.depot_path.Path.{path_of, path_fault, printed, is_path, unescaped, unless}
use Rattle.depot_rows.specs.depot_path.declared.fault.PathFault.{PathFault}
use Rattle.depot_rows.proofs.depot_path.Paths.{prints_path, reads_path}
use Rattle.depot_rows.specs.db_records.declared.key.Key.{Key}
use Rattle.depot_rows.specs.db_records.declared.key.Key.TheVariants as keys
use Rattle.depot_rows.specs.db_records.declared.record.Record.{Record}
use Rattle.depot_rows.specs.db_records.declared.record.Record.TheVariants as records
use Rattle.depot_rows.specs.db_records.declared.rows.HaveRecord.{HaveRecord}
use Rattle.depot_rows.specs.db_records.declared.rows.WorkingRecord.{WorkingRecord}
use Rattle.depot_rows.specs.db_records.declared.rows.RevRecord.{RevRecord}
use Rattle.depot_rows.specs.db_records.Key.{key_cmp}
use Rattle.depot_rows.specs.db_records.Record.{key_of, table_of}
use Rattle.depot_rows.specs.table_store.Rows.{is_at, row_at, AllAbove, AllOfTable, IsRising}
use Rattle.depot_rows.proofs.Keys.{at-is, at-self, number-is, same-is, same-self}
use Rattle.named_files.specs.Listed.{listed, listed_text, listing_table, path_in_text, paths_in}
pub use Rattle.named_files.specs.Listed.{own_key}
use Rattle.named_files.specs.declared.listing.Listing.{Listing}
use Rattle.named_files.specs.declared.listing.Listing.TheVariants.{Had, OpenedBy, Submitted}
use Rattle.depot_rows.specs.Rising.{Below, Rise}
use Rattle.named_files.proofs.Rising.{turned}
use Rattle.named_files.proofs.Walking.{text_self}

both_ways : (a b : Bool) → (a ≡ true → b ≡ true) → (b ≡ true → a ≡ true) → a ≡ b
both_ways true b to from = sym (to refl)
both_ways false true to from = from refl
both_ways false false to from = refl

pub same_turned : (a b : List ℕ) → same a b ≡ same b a
same_turned a b =
    both_ways (same a b) (same b a) (λ e. ap (λ c. same c a) (sym (same-is a b e)) ∙ same-self a) (λ e. ap (λ c. same c b) (sym (same-is b a e)) ∙ same-self b)

-- ---- the path in a text

read_is_path : (text x : List ℕ) → path_of text ≡ Ok x → is_path x ≡ true
read_is_path text x = go (path_fault text) refl
  where
    go : (fault : Option PathFault) → path_fault text ≡ fault → unless fault (unescaped 0 text) ≡ Ok x → is_path x ≡ true
    go None e is = let one : unescaped 0 text ≡ x = cc in sym (ap is_path one) ∙ reads_path text e
    go (Some fault) e is = absurd cc

-- no path, or one
abbrev pub Single : List (List ℕ) → Type 0
Single paths = (paths ≡ []) ⊎ ((x : List ℕ) × (is_path x ≡ true) × (paths ≡ x ∷ []))

pub single_text : (text : List ℕ) → Single (path_in_text text)
single_text text = go (path_of text) refl
  where
    go : (read : Result (List ℕ) PathFault) → path_of text ≡ read
        → Single (elim read as (λ _. List (List ℕ)) [ Err fault ↦ [] | Ok path ↦ if same (printed path) text then path ∷ [] else [] ])
    go (Err fault) e = inl refl
    go (Ok x) e = at (same (printed x) text)
      where
        at : (s : Bool) → Single (if s then x ∷ [] else [])
        at true = inr (x, read_is_path text x e, refl)
        at false = inl refl

single : (text : Option (List ℕ)) → Single (paths_in text)
single None = inl refl
single (Some text) = single_text text

-- a path is that of its own text alone
pub in_text : (p text : List ℕ) → is_path p ≡ true → list_any (same p) (path_in_text text) ≡ same (printed p) text
in_text p text is = go (path_of text) refl
  where
    own : same (printed p) text ≡ true → path_of text ≡ Ok p
    own e = sym (ap path_of (same-is (printed p) text e)) ∙ prints_path p is

    go : (read : Result (List ℕ) PathFault) → path_of text ≡ read
        → list_any (same p) (elim read as (λ _. List (List ℕ)) [ Err fault ↦ [] | Ok path ↦ if same (printed path) text then path ∷ [] else [] ]) ≡ same (printed p) text
    go (Err fault) e = both_ways false (same (printed p) text) (λ n. absurd (false≢true n)) (λ k. absurd (let h = sym (own k) ∙ e in cc))
    go (Ok x) e = at (same (printed x) text) refl
      where
        one : same (printed p) text ≡ true → p ≡ x
        one k = let h = sym (own k) ∙ e in cc

        at : (s : Bool) → same (printed x) text ≡ s → list_any (same p) (if s then x ∷ [] else []) ≡ same (printed p) text
        at true k = both_ways (same p x || false) (same (printed p) text)
            (λ h. ap (λ y. same (printed y) text) (same-is p x (first h)) ∙ k)
            (λ h. ap (λ b. b || false) (ap (same p) (sym (one h)) ∙ same-self p))
          where
            first : (same p x || false) ≡ true → same p x ≡ true
            first = here (same p x)
              where
                here : (b : Bool) → (b || false) ≡ true → b ≡ true
                here true h = refl
                here false h = h
        at false k = both_ways false (same (printed p) text) (λ n. absurd (false≢true n))
            (λ h. absurd (false≢true (sym k ∙ ap (λ y. same (printed y) text) (sym (one h)) ∙ h)))

-- ---- the files of a list

module _ (listing : Listing) (key : List ℕ → Key) (each : (row : Record) (p : List ℕ) → is_path p ≡ true → table_of row ≡ listing_table listing → list_any (same p) (paths_in (listed_text listing row)) ≡ is_at (key p) row)
    (order : (p q : List ℕ) → key_cmp (key q) (key p) ≡ Greater → path_cmp p q ≡ Less) where
  abbrev paths_at : Record → List (List ℕ)
  paths_at row = paths_in (listed_text listing row)

  pub in_listed : (p : List ℕ) → is_path p ≡ true → (rows : List Record) → AllOfTable (listing_table listing) rows → list_any (same p) (listed listing rows) ≡ is_some (row_at (key p) rows)
  in_listed p is [] of = refl
  in_listed p is (r ∷ rs) of =
      list_any-append (same p) (paths_at r) (listed listing rs)
      ∙ (λ i. each r p is of.0 i || in_listed p is rs of.1 i) ∙ go (is_at (key p) r)
    where
      go : (b : Bool) → (b || is_some (row_at (key p) rs)) ≡ is_some (cond b (Some r) (row_at (key p) rs))
      go true = refl
      go false = refl

  -- the key of a row that lists a path
  key_is : (r : Record) (x : List ℕ) → is_path x ≡ true → table_of r ≡ listing_table listing → paths_at r ≡ x ∷ [] → key_of r ≡ key x
  key_is r x is of e =
      let here : list_any (same x) (paths_at r) ≡ true = ap (list_any (same x)) e ∙ ap (λ b. b || false) (same-self x) in
      at-is (key_of r) (key x) (sym (each r x is of) ∙ here)

  below_listed : (x : List ℕ) (rs : List Record) → AllAbove (key x) rs → AllOfTable (listing_table listing) rs → Below x (listed listing rs)
  below_listed x [] above of = tt
  below_listed x (r ∷ rs) above of = go (single (listed_text listing r)) (below_listed x rs above.1 of.1)
    where
      go : Single (paths_at r) → Below x (listed listing rs) → Below x (paths_at r ++ listed listing rs)
      go (inl none) more = subst (λ (ps : List (List ℕ)). Below x (ps ++ listed listing rs)) (sym none) more
      go (inr one) more =
          let is : key_of r ≡ key one.0 = key_is r one.0 one.1 of.0 one.2 in
          let less : path_cmp x one.0 ≡ Less = order x one.0 (ap (λ k. key_cmp k (key x)) (sym is) ∙ above.0) in
          let both : Below x (one.0 ∷ listed listing rs) = (less, more) in
          subst (λ (ps : List (List ℕ)). Below x (ps ++ listed listing rs)) (sym one.2) both

  pub listed_rise : (rows : List Record) → IsRising rows → AllOfTable (listing_table listing) rows → Rise (listed listing rows)
  listed_rise [] up of = tt
  listed_rise (r ∷ rs) up of = go (single (listed_text listing r)) (listed_rise rs up.1 of.1)
    where
      go : Single (paths_at r) → Rise (listed listing rs) → Rise (paths_at r ++ listed listing rs)
      go (inl none) more = subst (λ (ps : List (List ℕ)). Rise (ps ++ listed listing rs)) (sym none) more
      go (inr one) more =
          let is : key_of r ≡ key one.0 = key_is r one.0 one.1 of.0 one.2 in
          let below : Below one.0 (listed listing rs) = below_listed one.0 rs (subst (λ (k : Key). AllAbove k rs) is up.0) of.1 in
          let both : Rise (one.0 ∷ listed listing rs) = (one.1, below, more) in
          subst (λ (ps : List (List ℕ)). Rise (ps ++ listed listing rs)) (sym one.2) both

-- ---- each list

-- a path is that of a text that a test chooses, where the test holds and it is its own text
in_chosen : (p text : List ℕ) (t b : Bool) → is_path p ≡ true → (t ≡ true → printed p ≡ text → b ≡ true) → (b ≡ true → (t ≡ true) × (printed p ≡ text))
    → list_any (same p) (paths_in (if t then Some text else None)) ≡ b
in_chosen p text true b is to from =
    in_text p text is ∙ both_ways (same (printed p) text) b (λ e. to refl (same-is (printed p) text e))
    (λ e. ap (same (printed p)) (sym (from e).1) ∙ same-self (printed p))
in_chosen p text false b is to from = both_ways false b (λ e. absurd (false≢true e)) (λ e. (from e).0)

have_each : (client : List ℕ) (r : HaveRecord) (p : List ℕ) → is_path p ≡ true
    → list_any (same p) (paths_in (listed_text (Had client) (records.Have r))) ≡ is_at (keys.Have client (printed p)) (records.Have r)
have_each client r p is =
    in_chosen p r.path (same client r.client) (is_at (keys.Have client (printed p)) (records.Have r)) is
    (λ e k. at-self (keys.Have r.client r.path) (keys.Have client (printed p)) (λ i. keys.Have (sym (same-is client r.client e) i) (sym k i)))
    (λ e.
    let one : keys.Have r.client r.path ≡ keys.Have client (printed p) = at-is (keys.Have r.client r.path) (keys.Have client (printed p)) e in
    let client_is : client ≡ r.client = cc in
    let path_is : printed p ≡ r.path = cc in
    (ap (λ x. same client x) (sym client_is) ∙ same-self client, path_is))

working_each : (client : List ℕ) (r : WorkingRecord) (p : List ℕ) → is_path p ≡ true
    → list_any (same p) (paths_in (listed_text (OpenedBy client) (records.Working r))) ≡ is_at (keys.Working (printed p) client) (records.Working r)
working_each client r p is =
    in_chosen p r.path (same client r.client) (is_at (keys.Working (printed p) client) (records.Working r)) is
    (λ e k. at-self (keys.Working r.path r.client) (keys.Working (printed p) client) (λ i. keys.Working (sym k i) (sym (same-is client r.client e) i)))
    (λ e.
    let one : keys.Working r.path r.client ≡ keys.Working (printed p) client = at-is (keys.Working r.path r.client) (keys.Working (printed p) client) e in
    let client_is : client ≡ r.client = cc in
    let path_is : printed p ≡ r.path = cc in
    (ap (λ x. same client x) (sym client_is) ∙ same-self client, path_is))

rev_each : (r : RevRecord) (p : List ℕ) → is_path p ≡ true
    → list_any (same p) (paths_in (listed_text Submitted (records.Rev r))) ≡ is_at (keys.Rev (printed p) 1) (records.Rev r)
rev_each r p is =
    in_chosen p r.path (r.rev == 1) (is_at (keys.Rev (printed p) 1) (records.Rev r)) is
    (λ e k. at-self (keys.Rev r.path r.rev) (keys.Rev (printed p) 1) (λ i. keys.Rev (sym k i) (number-is r.rev 1 e i)))
    (λ e.
    let one : keys.Rev r.path r.rev ≡ keys.Rev (printed p) 1 = at-is (keys.Rev r.path r.rev) (keys.Rev (printed p) 1) e in
    let number_is : r.rev ≡ 1 = cc in
    let path_is : printed p ≡ r.path = cc in
    (ap (λ (n : ℕ). n == 1) number_is, path_is))

pub each_row : (listing : Listing) (row : Record) (p : List ℕ) → is_path p ≡ true → table_of row ≡ listing_table listing
    → list_any (same p) (paths_in (listed_text listing row)) ≡ is_at (own_key listing p) row
each_row (Had client) (records.Have r) p is of = have_each client r p is
each_row (OpenedBy client) (records.Working r) p is of = working_each client r p is
each_row Submitted (records.Rev r) p is of = rev_each r p is
each_row (Had client) (records.Counter r) p is of = absurd cc
each_row (Had client) (records.Group r) p is of = absurd cc
each_row (Had client) (records.Protect r) p is of = absurd cc
each_row (Had client) (records.Domain r) p is of = absurd cc
each_row (Had client) (records.Label r) p is of = absurd cc
each_row (Had client) (records.Integed r) p is of = absurd cc
each_row (Had client) (records.Resolve r) p is of = absurd cc
each_row (Had client) (records.Working r) p is of = absurd cc
each_row (Had client) (records.Change r) p is of = absurd cc
each_row (Had client) (records.Rev r) p is of = absurd cc
each_row (OpenedBy client) (records.Counter r) p is of = absurd cc
each_row (OpenedBy client) (records.Group r) p is of = absurd cc
each_row (OpenedBy client) (records.Protect r) p is of = absurd cc
each_row (OpenedBy client) (records.Domain r) p is of = absurd cc
each_row (OpenedBy client) (records.Have r) p is of = absurd cc
each_row (OpenedBy client) (records.Label r) p is of = absurd cc
each_row (OpenedBy client) (records.Integed r) p is of = absurd cc
each_row (OpenedBy client) (records.Resolve r) p is of = absurd cc
each_row (OpenedBy client) (records.Change r) p is of = absurd cc
each_row (OpenedBy client) (records.Rev r) p is of = absurd cc
each_row Submitted (records.Counter r) p is of = absurd cc
each_row Submitted (records.Group r) p is of = absurd cc
each_row Submitted (records.Protect r) p is of = absurd cc
each_row Submitted (records.Domain r) p is of = absurd cc
each_row Submitted (records.Have r) p is of = absurd cc
each_row Submitted (records.Label r) p is of = absurd cc
each_row Submitted (records.Integed r) p is of = absurd cc
each_row Submitted (records.Resolve r) p is of = absurd cc
each_row Submitted (records.Working r) p is of = absurd cc
each_row Submitted (records.Change r) p is of = absurd cc

alone : (o : Ordering) → ordering_then o Equal ≡ Greater → o ≡ Greater
alone Less e = e
alone Equal e = e
alone Greater e = e

pub in_order : (listing : Listing) (p q : List ℕ) → key_cmp (own_key listing q) (own_key listing p) ≡ Greater → path_cmp p q ≡ Less
in_order (Had client) p q e =
    turned p q (alone (path_cmp q p) ((λ i. ordering_then (sym (text_self client) i) (ordering_then (path_cmp q p) Equal)) ∙ e))
in_order (OpenedBy client) p q e =
    turned p q (alone (path_cmp q p) ((λ i. ordering_then (path_cmp q p) (ordering_then (sym (text_self client) i) Equal)) ∙ e))
in_order Submitted p q e = turned p q (alone (path_cmp q p) e)
