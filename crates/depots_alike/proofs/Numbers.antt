-- changes, in sound depots with the same rows and contents. What a depot tells of numbers that were dropped isn't listed.
use Rattle.std.proofs.Common.{◌≡◌, ℕ, Bool, true, false, cond, List, [], ◌∷◌, ◌++◌, length, map, Option, Some, None, refl, sym, ap, subst, ◌∙◌}
use Rattle.std.specs.Prelude.{◌&&◌, ◌||◌, ◌==◌, if◌then◌else◌, filter, filter_map, flat_map, nat_lt, is_some, option_map}
use Rattle.std.specs.List.{list_any}
use Rattle.std.specs.Option.{option_or, option_flatten}
use Rattle.std.specs.Ordering.{is_lt, nat_cmp}
use Rattle.std.specs.Cmp.{IsTotalOrder}
use Rattle.std.specs.declared.cmp.Ordering.TheVariants.{Less, Equal, Greater}
use Rattle.std.proofs.lemmas.Bool.{true≢false, eqb-true, eq-eqb, or_parts}
use Rattle.std.proofs.lemmas.Cmp.{nat_cmp_total}
use Rattle.depot_rows.specs.depot_model.declared.command.FileArgument.{FileArgument}
use Rattle.depot_rows.specs.depot_model.declared.refusal.Refusal.TheVariants.{NoSuchFile}
use Rattle.depot_rows.specs.depot_model.declared.request.Caller.{Caller}
use Rattle.depot_rows.specs.depot_model.Arguments.{named, not_in, submitted}
use Rattle.depot_rows.specs.depot_model.Deeds.{Deed, Pend, Drop, Land, Landing}
use Rattle.depot_rows.specs.depot_model.Latest.{latest, when}
use Rattle.depot_rows.specs.depot_model.Numbers.{pending, pending_said, landing}
use Rattle.depot_rows.specs.depot_model.Refusals.{refusal_row}
use Rattle.depot_rows.specs.depot_model.Revisions.{Revision, revision}
use Rattle.depot_rows.specs.depot_model.Step.{tells}
use Rattle.depot_rows.specs.depot_model.Steps.Changes.{Listed, number_inserted, numbers, listed_pending, listed_landing, is_listable, listed_submitted, listed, change_at, made_of, made_over, is_made, passes, change_row, at_most, missing, changes}
use Rattle.depot_facts.specs.Contents.{bare, seen}
use Rattle.depots_alike.proofs.Alike.{alike_of}
use Rattle.depots_alike.proofs.Changes.{files_of_change_same}
use Rattle.depots_alike.proofs.Choosing.{may_list_same, revision_same}
use Rattle.depots_alike.proofs.Files.{named_submitted}
use Rattle.depots_alike.proofs.Names.{only_some}
use Rattle.depots_alike.proofs.Ordered.{IsOrder, Rise, one_list, put, put_rises, has_put, filter_rises, has_filter}
use Rattle.depots_alike.proofs.Ranges.{in_range_same}
use Rattle.depots_alike.proofs.Searches.{pending_same, landing_same}
use Rattle.depots_alike.proofs.Twins.{Twins}

-- ---- numbers that fall

is_less : (m n : ℕ) → is_lt (nat_cmp m n) ≡ nat_lt m n
is_less m n = go (nat_lt m n) (m == n)
  where
    go : (a b : Bool) → is_lt (cond a Less (cond b Equal Greater)) ≡ a
    go true b = refl
    go false true = refl
    go false false = refl

one_number : (m n : ℕ) → nat_cmp m n ≡ Equal → m ≡ n
one_number m n e = go (nat_lt m n) (m == n) refl e
  where
    go : (a b : Bool) → (m == n) ≡ b → cond a Less (cond b Equal Greater) ≡ Equal → m ≡ n
    go true b k f = absurd cc
    go false true k f = eqb-true m n k
    go false false k f = absurd cc

falling : IsTotalOrder (λ (m : ℕ) (n : ℕ). nat_cmp n m)
falling = record {
  antisymm = λ m n. nat_cmp_total.antisymm n m;
  trans = λ l m n e f. nat_cmp_total.trans n m l f e;
  congr = λ l m n e. ap (λ k. nat_cmp n k) (sym (one_number m l e));
}

numbers_ordered : IsOrder (λ (m : ℕ) (n : ℕ). m == n) (λ (m : ℕ) (n : ℕ). nat_cmp n m) (λ _. true)
numbers_ordered = record {
  is = λ m n e. eqb-true m n e;
  self = λ n. eq-eqb n n refl;
  total = falling;
  one = λ m n _ _ e. sym (one_number n m e);
}

number_put : (n : ℕ) (ns : List ℕ) → number_inserted n ns ≡ put numbers_ordered n ns
number_put n [] = refl
number_put n (m ∷ ns) = λ i. if n == m then m ∷ ns else (if sym (is_less m n) i then n ∷ m ∷ ns else m ∷ number_put n ns i)

abbrev has : List ℕ → ℕ → Bool
has ns n = list_any (λ m. n == m) ns

numbers_fall : (d : List Deed) → Rise numbers_ordered (numbers d)
numbers_fall [] = tt
numbers_fall (Pend p ∷ d) =
    let P : List ℕ → Type 0 = λ ns. Rise numbers_ordered ns in
    subst P (sym (number_put p.change (numbers d))) (put_rises numbers_ordered p.change (numbers d) refl (numbers_fall d))
numbers_fall (Land l ∷ d) =
    let P : List ℕ → Type 0 = λ ns. Rise numbers_ordered ns in
    subst P (sym (number_put l.change (numbers d))) (put_rises numbers_ordered l.change (numbers d) refl (numbers_fall d))
numbers_fall (_ ∷ d) = numbers_fall d

has_inserted : (z n : ℕ) (ns : List ℕ) → has (number_inserted n ns) z ≡ ((z == n) || has ns z)
has_inserted z n ns = ap (λ xs. has xs z) (number_put n ns) ∙ has_put numbers_ordered z n ns

-- ---- a number that a depot doesn't have is neither pending nor landed

equal_turned : (m n : ℕ) → (m == n) ≡ (n == m)
equal_turned m n = go (m == n) refl (n == m) refl
  where
    go : (a : Bool) → (m == n) ≡ a → (b : Bool) → (n == m) ≡ b → a ≡ b
    go true e true f = refl
    go false e false f = refl
    go true e false f = absurd (true≢false (sym (eq-eqb n m (sym (eqb-true m n e))) ∙ f))
    go false e true f = absurd (true≢false (sym (eq-eqb m n (sym (eqb-true n m f))) ∙ e))

parts_of : (z n : ℕ) (ns : List ℕ) → has (number_inserted n ns) z ≡ false → ((n == z) ≡ false) × (has ns z ≡ false)
parts_of z n ns e = let parts = or_parts (z == n) (has ns z) (sym (has_inserted z n ns) ∙ e) in (equal_turned n z ∙ parts.0, parts.1)

not_pending : (z : ℕ) (d : List Deed) → has (numbers d) z ≡ false → pending d z ≡ None
not_pending z [] e = refl
not_pending z (Pend p ∷ d) e =
    let parts = parts_of z p.change (numbers d) e in
    ap (λ b. option_flatten (option_or (when b (Some p)) (latest (pending_said z) d))) parts.0 ∙ not_pending z d parts.1
not_pending z (Land l ∷ d) e =
    let parts = parts_of z l.change (numbers d) e in
    ap (λ b. option_flatten (option_or (when b None) (latest (pending_said z) d))) parts.0 ∙ not_pending z d parts.1
not_pending z (Drop n ∷ d) e = go (n == z) (not_pending z d e)
  where
    go : (b : Bool) → pending d z ≡ None → option_flatten (option_or (when b None) (latest (pending_said z) d)) ≡ None
    go true h = refl
    go false h = h
not_pending z (_ ∷ d) e = not_pending z d e

not_landed : (z : ℕ) (d : List Deed) → has (numbers d) z ≡ false → landing d z ≡ None
not_landed z [] e = refl
not_landed z (Pend p ∷ d) e = not_landed z d (parts_of z p.change (numbers d) e).1
not_landed z (Land l ∷ d) e =
    let parts = parts_of z l.change (numbers d) e in
    ap (λ b. cond b (Some l) (landing d z)) parts.0 ∙ not_landed z d parts.1
not_landed z (_ ∷ d) e = not_landed z d e

-- ---- what is listed

only_test : (a b c : Bool) → (a ≡ false → c ≡ false) → ((a && b) && c) ≡ (b && c)
only_test true b c h = refl
only_test false b c h = none b ∙ sym (ap (λ x. b && x) (h refl))
  where
    none : (b : Bool) → false ≡ (b && false)
    none true = refl
    none false = refl

change_seen : (o : Option Revision) → option_map (λ (r : Revision). r.landing.change) (option_map seen o) ≡ option_map (λ (r : Revision). r.landing.change) o
change_seen None = refl
change_seen (Some r) = refl

module _ (d e : List Deed) (twins : Twins d e) (caller : Caller) where
  listable_same : (n : ℕ) → is_listable d caller n ≡ is_listable e caller n
  listable_same n = λ i. list_any (λ path. may_list_same d e (alike_of d e twins) caller path i) (files_of_change_same d e twins caller n i)

  bare_listed : (n : ℕ) (o : Option Landing) (b : Bool)
      → (elim (option_map bare o) as (λ _. Option Listed) [ None ↦ None | Some l ↦ if b then Some (listed_landing l) else None ])
      ≡ (elim o as (λ _. Option Listed) [ None ↦ None | Some l ↦ if b then Some (listed_landing l) else None ])
  bare_listed n None b = refl
  bare_listed n (Some l) b = refl

  submitted_listed : (n : ℕ) → listed_submitted d caller n ≡ listed_submitted e caller n
  submitted_listed n = sym (bare_listed n (landing d n) (is_listable d caller n))
      ∙ (λ i. elim (landing_same d e twins n i) as (λ _. Option Listed) [ None ↦ None | Some l ↦ if listable_same n i then Some (listed_landing l) else None ])
      ∙ bare_listed n (landing e n) (is_listable e caller n)

  listed_same : (n : ℕ) → listed d caller n ≡ listed e caller n
  listed_same n = λ i. option_or (option_map listed_pending (pending_same d e twins n i)) (submitted_listed n i)

  -- ---- changes that made a named revision

  change_at_same : (path : List ℕ) (n : ℕ) → change_at d path n ≡ change_at e path n
  change_at_same path n = sym (change_seen (revision d path n))
      ∙ ap (option_map (λ (r : Revision). r.landing.change)) (revision_same d e (alike_of d e twins) path n) ∙ change_seen (revision e path n)

  made_of_same : (a : FileArgument) (paths : List (List ℕ)) → made_of d caller a paths ≡ made_of e caller a paths
  made_of_same a paths = λ i. flat_map (λ path. filter_map (λ n. change_at_same path n i) (in_range_same d e (alike_of d e twins) caller path (a.spec).wanted i)) paths

  made_over_same : (taken others : List (List ℕ)) → taken ≡ others → (arguments : List FileArgument)
      → made_over d caller taken arguments ≡ made_over e caller others arguments
  made_over_same taken others one [] = refl
  made_over_same taken others one (a ∷ arguments) = λ i.
      made_of_same a (not_in (one i) (named_submitted d e twins caller a i)) i
      ++ made_over_same (taken ++ named false d caller (submitted d) a) (others ++ named false e caller (submitted e) a)
      (λ j. one j ++ named_submitted d e twins caller a j) arguments i

  is_made_same : (arguments : List FileArgument) (n : ℕ) → is_made d caller arguments n ≡ is_made e caller arguments n
  is_made_same [] n = refl
  is_made_same (a ∷ arguments) n = λ i. list_any (λ m. m == n) (made_over_same [] [] refl (a ∷ arguments) i)

  -- ---- changes

  missing_same : (a : FileArgument) → missing d caller a ≡ missing e caller a
  missing_same a = ap (λ (files : List (List ℕ)). if length files == 0 then refusal_row (NoSuchFile a.text) ∷ [] else []) (named_submitted d e twins caller a)

not_listed : (d : List Deed) (caller : Caller) (z : ℕ) → has (numbers d) z ≡ false → is_some (listed d caller z) ≡ false
not_listed d caller z e = λ i. is_some (option_or (option_map listed_pending (not_pending z d e i))
    (elim (not_landed z d e i) as (λ _. Option Listed) [ None ↦ None | Some l ↦ if is_listable d caller z then Some (listed_landing l) else None ]))

abbrev shown_numbers : List Deed → Caller → List FileArgument → List ℕ
shown_numbers d caller arguments = filter (λ n. is_some (listed d caller n)) (filter (is_made d caller arguments) (numbers d))

shown_fall : (d : List Deed) (caller : Caller) (arguments : List FileArgument) → Rise numbers_ordered (shown_numbers d caller arguments)
shown_fall d caller arguments = filter_rises numbers_ordered (λ n. is_some (listed d caller n)) (filter (is_made d caller arguments) (numbers d))
    (filter_rises numbers_ordered (is_made d caller arguments) (numbers d) (numbers_fall d))

shown_has : (d : List Deed) (caller : Caller) (arguments : List FileArgument) (z : ℕ)
    → has (shown_numbers d caller arguments) z ≡ (is_made d caller arguments z && is_some (listed d caller z))
shown_has d caller arguments z =
    has_filter numbers_ordered (λ n. is_some (listed d caller n)) (filter (is_made d caller arguments) (numbers d)) z
    ∙ ap (λ b. b && is_some (listed d caller z)) (has_filter numbers_ordered (is_made d caller arguments) (numbers d) z)
    ∙ only_test (has (numbers d) z) (is_made d caller arguments z) (is_some (listed d caller z)) (not_listed d caller z)

module _ (d e : List Deed) (twins : Twins d e) (caller : Caller) where
  shown_same : (arguments : List FileArgument) → shown_numbers d caller arguments ≡ shown_numbers e caller arguments
  shown_same arguments = one_list numbers_ordered (shown_numbers d caller arguments) (shown_numbers e caller arguments)
      (shown_fall d caller arguments) (shown_fall e caller arguments)
      (λ z. shown_has d caller arguments z ∙ (λ i. is_made_same d e twins caller arguments z i && is_some (listed_same d e twins caller z i))
      ∙ sym (shown_has e caller arguments z))

  all_listed_same : (arguments : List FileArgument)
      → filter_map (listed d caller) (filter (is_made d caller arguments) (numbers d)) ≡ filter_map (listed e caller) (filter (is_made e caller arguments) (numbers e))
  all_listed_same arguments =
      only_some (listed d caller) (filter (is_made d caller arguments) (numbers d))
      ∙ (λ i. filter_map (λ n. listed_same d e twins caller n i) (shown_same arguments i))
      ∙ sym (only_some (listed e caller) (filter (is_made e caller arguments) (numbers e)))

  pub changes_same : (most : Option ℕ) (status user client : Option (List ℕ)) (arguments : List FileArgument)
      → changes d caller most status user client arguments ≡ changes e caller most status user client arguments
  changes_same most status user client arguments = λ i. tells (flat_map (λ a. missing_same d e twins caller a i) arguments
      ++ map change_row (at_most most (filter (λ l. passes status l.status && passes user l.user && passes client l.client) (all_listed_same arguments i))))
