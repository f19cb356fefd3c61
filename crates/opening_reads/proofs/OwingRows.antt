-- The owed resolves of rows are those of the model.
use Rattle.std.proofs.Common.{◌≡◌, ℕ, Bool, true, false, List, [], ◌∷◌, map, Option, Some, None, inl, inr, refl, sym, ap, ◌∙◌}
use Rattle.std.specs.Prelude.{if◌then◌else◌, filter, option_map}
use Rattle.std.specs.List.{filter_map, cons_option, list_all}
use Rattle.depot_rows.specs.depot_path.Path.{printed, is_path}
use Rattle.depot_rows.specs.depot_model.Arguments.{paths_of}
use Rattle.depot_rows.specs.depot_model.Deeds.{Deed, Opening, Owing}
use Rattle.depot_rows.specs.depot_model.Opened.{opened, owed, Resolve}
use Rattle.depot_rows.specs.depot_model.Records.{resolve_record}
use Rattle.depot_rows.specs.depot_model.Rules.{has_paths}
use Rattle.depot_rows.specs.depot_model.Steps.Submitting.{is_unpaid, owed_from, resolves_of}
use Rattle.depot_rows.specs.Deed.{owing_of}
use Rattle.depot_rows.specs.declared.deed.Owing.{Owing as OwingSaid}
use Rattle.depot_rows.proofs.Entries.{In}
use Rattle.depot_rows.proofs.Locks.{opened-is}
use Rattle.depot_facts.proofs.Listed.{in_filter, in_map, in_filter_map}
use Rattle.depot_facts.proofs.OpenFiles.{owed_is}
use Rattle.opening_reads.specs.Owed.{owing_from, owing_of_row}
use Rattle.opening_reads.specs.Read.{path_in_text}
use Rattle.opening_reads.proofs.Opens.{path_is}
use Rattle.opening_reads.proofs.OwedRows.{row_owes}

-- a resolve of a file of a client from a path
pub record IsOfFile (client path : List ℕ) (r : Resolve) : Type 0 where
  pub client_is : r.owing.client ≡ client
  pub path_is : r.owing.path ≡ path
  pub from_path : is_path r.owing.from ≡ true

module _ (client path : List ℕ) where
  row_owing : (r : Resolve) → IsOfFile client path r → option_map owing_of (owing_of_row client path (resolve_record r)) ≡ (if is_unpaid r then Some r.owing else None)
  row_owing r is =
      ap (λ (b : Bool). option_map owing_of (if b then option_map (owing_from client path r.owing.first r.owing.last) (path_in_text (printed r.owing.from)) else None)) (row_owes r)
      ∙ ap (λ (q : Option (List ℕ)). option_map owing_of (if is_unpaid r then option_map (owing_from client path r.owing.first r.owing.last) q else None)) (path_is r.owing.from is.from_path)
      ∙ go (is_unpaid r)
    where
      go : (b : Bool) → option_map owing_of (if b then Some (owing_from client path r.owing.first r.owing.last r.owing.from) else None) ≡ (if b then Some r.owing else None)
      go true = λ i. Some (record {
        client = sym is.client_is i;
        path = sym is.path_is i;
        from = r.owing.from;
        first = r.owing.first;
        last = r.owing.last;
      })
      go false = refl

  rows_owing : (rs : List Resolve) → ((r : Resolve) → In rs r → IsOfFile client path r)
      → map owing_of (filter_map (owing_of_row client path) (map resolve_record rs)) ≡ map (λ (r : Resolve). r.owing) (filter is_unpaid rs)
  rows_owing [] each = refl
  rows_owing (r ∷ rs) each =
      go (owing_of_row client path (resolve_record r)) (is_unpaid r) (row_owing r (each r (inl refl))) (rows_owing rs (λ x h. each x (inr h)))
    where
      go : (o : Option OwingSaid) (b : Bool) → option_map owing_of o ≡ (if b then Some r.owing else None)
          → map owing_of (filter_map (owing_of_row client path) (map resolve_record rs)) ≡ map (λ (x : Resolve). x.owing) (filter is_unpaid rs)
          → map owing_of (cons_option o (filter_map (owing_of_row client path) (map resolve_record rs)))
          ≡ map (λ (x : Resolve). x.owing) (if b then r ∷ filter is_unpaid rs else filter is_unpaid rs)
      go None true e rest = absurd cc
      go None false e rest = rest
      go (Some x) true e rest = let one : owing_of x ≡ r.owing = cc in λ i. one i ∷ rest i
      go (Some x) false e rest = absurd cc

-- the resolves of an opened file are of that file
pub of_own_file : (d : List Deed) → list_all has_paths d ≡ true → (c p : List ℕ) (o : Opening) → opened d c p ≡ Some o → (r : Resolve) → In (resolves_of d o) r
    → IsOfFile c p r
of_own_file d paths c p o opened_is r h =
    let own = opened-is d c p o opened_is in
    let x = in_filter_map (owed d o.client o.path) (paths_of (owed_from o.client o.path) d) r h in
    let is = owed_is d paths o.client o.path x.0 r x.1.1 in
    record { client_is = is.client ∙ own.0; path_is = is.path ∙ own.1; from_path = ap is_path is.from_is ∙ is.from_path }

pub owings_told : (d : List Deed) → list_all has_paths d ≡ true → (c p : List ℕ) (o : Opening) → opened d c p ≡ Some o
    → map owing_of (filter_map (owing_of_row c p) (map resolve_record (resolves_of d o))) ≡ map (λ (r : Resolve). r.owing) (filter is_unpaid (resolves_of d o))
owings_told d paths c p o is = rows_owing c p (resolves_of d o) (of_own_file d paths c p o is)

-- and so are those that are owed
pub owings_of_file : (d : List Deed) → list_all has_paths d ≡ true → (c p : List ℕ) (o : Opening) → opened d c p ≡ Some o → (r : Owing)
    → In (map (λ (x : Resolve). x.owing) (filter is_unpaid (resolves_of d o))) r → (r.client ≡ c) × (r.path ≡ p)
owings_of_file d paths c p o opened_is r h =
    let x = in_map (λ (y : Resolve). y.owing) (filter is_unpaid (resolves_of d o)) r h in
    let is = of_own_file d paths c p o opened_is x.0 (in_filter is_unpaid (resolves_of d o) x.0 x.1.0).0 in (
      ap (λ (y : Owing). y.client) (sym x.1.1) ∙ is.client_is,
      ap (λ (y : Owing). y.path) (sym x.1.1) ∙ is.path_is,
    )
