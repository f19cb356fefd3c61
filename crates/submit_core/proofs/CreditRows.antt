-- The credits of rows are those of the model's resolves.
use Rattle.std.proofs.Common.{◌≡◌, ℕ, Bool, true, false, List, [], ◌∷◌, map, Option, Some, None, Result, Ok, Err, inl, inr, refl, sym, ap, ◌∙◌}
use Rattle.std.specs.Prelude.{if◌then◌else◌, option_map}
use Rattle.std.specs.List.{filter_map, cons_option, list_all}
use Rattle.std.specs.Option.{option_map_or}
use Rattle.depot_rows.specs.depot_path.Bytes.{same}
use Rattle.depot_rows.specs.depot_path.Path.{path_of, printed, is_path}
use Rattle.depot_rows.specs.depot_path.declared.fault.PathFault.{PathFault}
use Rattle.depot_rows.proofs.depot_path.Paths.{prints_path}
use Rattle.depot_rows.specs.depot_model.Deeds.{Deed, Opening, Credit, How, CopyFrom, BranchFrom, DeleteFrom, Ignored, MovedFrom}
use Rattle.depot_rows.specs.depot_model.Arguments.{paths_of}
use Rattle.depot_rows.specs.depot_model.Opened.{opened, owed, Resolve}
use Rattle.depot_rows.specs.depot_model.Records.{resolve_record}
use Rattle.depot_rows.specs.depot_model.Rows.{how_word}
use Rattle.depot_rows.specs.depot_model.Rules.{has_paths}
use Rattle.depot_rows.specs.depot_model.Steps.Submitting.{credit_of, credits_of, owed_from, resolves_of}
use Rattle.depot_rows.specs.Deed.{how_of, credit_of as credit_said}
use Rattle.depot_rows.specs.declared.deed.How.{How as HowSaid}
use Rattle.depot_rows.specs.declared.deed.How.TheVariants as hows
use Rattle.depot_rows.specs.declared.deed.Credit.{Credit as CreditSaid}
use Rattle.depot_rows.proofs.Entries.{In}
use Rattle.depot_rows.proofs.Keys.{same-is, same-self, same-not}
use Rattle.depot_facts.proofs.Listed.{in_filter_map}
use Rattle.depot_facts.proofs.OpenFiles.{owed_is, opened_path}
use Rattle.opening_reads.specs.Read.{path_in_text}
use Rattle.submit_core.specs.Owed.{how_in, credit_by, credit_of_row}

path_there : (p : List ℕ) → is_path p ≡ true → path_in_text (printed p) ≡ Some p
path_there p good = go (path_of (printed p)) (prints_path p good)
  where
    go : (r : Result (List ℕ) PathFault) → r ≡ Ok p → (elim r as (λ _. Option (List ℕ)) [ Err fault ↦ None | Ok path ↦ Some path ]) ≡ Some p
    go (Err fault) e = absurd cc
    go (Ok q) e = let one : q ≡ p = cc in ap (λ (x : List ℕ). Some x) one

same_printed : (p q : List ℕ) → is_path p ≡ true → is_path q ≡ true → same (printed p) (printed q) ≡ same p q
same_printed p q a b = go (same p q) refl
  where
    go : (t : Bool) → same p q ≡ t → same (printed p) (printed q) ≡ t
    go true e = ap (λ (x : List ℕ). same (printed p) (printed x)) (sym (same-is p q e)) ∙ same-self (printed p)
    go false e = same-not (printed p) (printed q) (λ one. absurd (
        let x : path_of (printed p) ≡ Ok p = prints_path p a in
        let y : path_of (printed q) ≡ Ok q = prints_path q b in
        let z : path_of (printed p) ≡ path_of (printed q) = ap path_of one in
        let w : p ≡ q = cc in
        let no : true ≡ false = sym (same-self p) ∙ ap (same p) w ∙ e in
        cc))

-- a resolve that was paid has its word
record IsSaid (how : How) : Type 0 where
  pub said : HowSaid
  pub word : how_in (how_word how) ≡ Some said
  pub is : how_of said ≡ how

how_said : (how : How) → IsSaid how
how_said CopyFrom = record { said = hows.CopyFrom; word = refl; is = refl }
how_said BranchFrom = record { said = hows.BranchFrom; word = refl; is = refl }
how_said DeleteFrom = record { said = hows.DeleteFrom; word = refl; is = refl }
how_said Ignored = record { said = hows.Ignored; word = refl; is = refl }
how_said MovedFrom = record { said = hows.MovedFrom; word = refl; is = refl }

row_credit : (path : List ℕ) (r : Resolve) → is_path path ≡ true → is_path r.owing.from ≡ true
    → option_map credit_said (credit_of_row (printed path) (resolve_record r)) ≡ credit_of path r
row_credit path r good from_good =
    ap (λ (b : Bool). option_map credit_said (if b then None else credit_by (how_in (option_map_or how_word r.how [])) (path_in_text (printed r.owing.from)) r.owing.first r.owing.last))
    (same_printed r.owing.from path from_good good)
    ∙ go (same r.owing.from path) r.how
  where
    made : How → Credit
    made how = record { from = r.owing.from; first = r.owing.first; last = r.owing.last; how = how }

    go : (b : Bool) (how : Option How) → option_map credit_said (if b then None else credit_by (how_in (option_map_or how_word how [])) (path_in_text (printed r.owing.from)) r.owing.first r.owing.last)
        ≡ (if b then None else option_map made how)
    go true how = refl
    go false None = refl
    go false (Some how) =
        let s = how_said how in
        ap (λ (h : Option HowSaid). option_map credit_said (credit_by h (path_in_text (printed r.owing.from)) r.owing.first r.owing.last)) s.word
        ∙ ap (λ (p : Option (List ℕ)). option_map credit_said (credit_by (Some s.said) p r.owing.first r.owing.last)) (path_there r.owing.from from_good)
        ∙ ap (λ (h : How). Some (made h)) s.is

rows_credit : (path : List ℕ) → is_path path ≡ true → (rs : List Resolve) → ((r : Resolve) → In rs r → is_path r.owing.from ≡ true)
    → map credit_said (filter_map (credit_of_row (printed path)) (map resolve_record rs)) ≡ filter_map (credit_of path) rs
rows_credit path good [] each = refl
rows_credit path good (r ∷ rs) each =
    go (credit_of_row (printed path) (resolve_record r)) (credit_of path r) (row_credit path r good (each r (inl refl))) (rows_credit path good rs (λ x h. each x (inr h)))
  where
    go : (a : Option CreditSaid) (b : Option Credit) → option_map credit_said a ≡ b
        → map credit_said (filter_map (credit_of_row (printed path)) (map resolve_record rs)) ≡ filter_map (credit_of path) rs
        → map credit_said (cons_option a (filter_map (credit_of_row (printed path)) (map resolve_record rs))) ≡ cons_option b (filter_map (credit_of path) rs)
    go None None e rest = rest
    go None (Some y) e rest = absurd cc
    go (Some x) None e rest = absurd cc
    go (Some x) (Some y) e rest = let one : credit_said x ≡ y = cc in λ i. one i ∷ rest i

pub credits_told : (d : List Deed) → list_all has_paths d ≡ true → (o : Opening) → opened d o.client o.path ≡ Some o
    → map credit_said (filter_map (credit_of_row (printed o.path)) (map resolve_record (resolves_of d o))) ≡ credits_of d o
credits_told d paths o is = rows_credit o.path (opened_path d paths o.client o.path o is) (resolves_of d o) each
  where
    each : (r : Resolve) → In (resolves_of d o) r → is_path r.owing.from ≡ true
    each r h =
        let x = in_filter_map (owed d o.client o.path) (paths_of (owed_from o.client o.path) d) r h in
        let owing = owed_is d paths o.client o.path x.0 r x.1.1 in
        ap is_path owing.from_is ∙ owing.from_path
