use Rattle.std.proofs.Common.{◌≡◌, ℕ, Bool, List, [], ◌∷◌, Some, None, sym, ap, ◌∙◌}
use Rattle.std.specs.Prelude.{if◌then◌else◌, slice_get}
use Rattle.depot_rows.specs.depot_path.Bytes.{begins_with}
use Rattle.named_files.specs.Listed.{has_beginning}
use Rattle.history_query.specs.Leaping.{first_begun}
use Rattle.history_query.proofs.leaping.begun_from.Goals as goal

first_given : (beginning : List ℕ) (files : List (List ℕ)) (path : List ℕ) (b : Bool) → slice_get files 0 ≡ Some path → has_beginning beginning path ≡ b
    → (if b then Some path else None) ≡ first_begun beginning files
first_given beginning [] path b e is = absurd cc
first_given beginning (p ∷ files) path b e is =
    let one : path ≡ p = cc in
    ap (λ (c : Bool). if c then Some path else None) (sym is) ∙ ap (λ (x : List ℕ). if has_beginning beginning x then Some x else None) one

pub returns-then-not-starts_with : goal.returns-then-not-starts_with
returns-then-not-starts_with c =
    first_given c.args.beginning.now _ c.in-Some.path _ (sym c.in_ok-path.ensures ∙ c.in-Some.is)
    ((λ i. begins_with (sym (c.as_bytes.ensures ∙ c.in_ok-text.ensures.printed) i) (sym c.as_bytes-2.ensures i)) ∙ sym c.starts_with.ensures.value ∙ c.if-not-starts_with.true)

pub returns : goal.returns
returns c =
    first_given c.args.beginning.now _ c.in-Some.path _ (sym c.in_ok-path.ensures ∙ c.in-Some.is)
    ((λ i. begins_with (sym (c.as_bytes.ensures ∙ c.in_ok-text.ensures.printed) i) (sym c.as_bytes-2.ensures i)) ∙ sym c.starts_with.ensures.value ∙ c.if-not-starts_with.false)
