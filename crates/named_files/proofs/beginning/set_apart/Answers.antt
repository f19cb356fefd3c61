use Rattle.std.proofs.Common.{◌≡◌, ℕ, List, true, sym, ap, subst, ◌∙◌, rules}
use Rattle.std.specs.List.{list_any}
use Rattle.std.proofs.lemmas.Fn.{dedup_same}
use Rattle.std.proofs.lemmas.List.Sorted.{list_any-IsPermutation}
use Rattle.depot_rows.specs.depot_path.Bytes.{begins_with}
use Rattle.named_files.specs.Beginnings.{AreApart, begins_with_one}
use Rattle.named_files.proofs.Apart.{covers, sorted_apart}
use Rattle.named_files.proofs.beginning.set_apart.Goals as goal

pub returns-clause-apart : goal.returns-clause-apart
returns-clause-apart c =
    let kept = dedup_same _ begins_with _ (λ x y b f' x' y' k. search rules) _ _ c.dedup_by.ensures.filtered in
    subst AreApart (sym (c.from_vec.ensures ∙ kept)) (sorted_apart _ c.sort_unstable.ensures.sorted)

pub returns-clause-covers : goal.returns-clause-covers
returns-clause-covers c = λ text e.
    let kept = dedup_same _ begins_with _ (λ x y b f' x' y' k. search rules) _ _ c.dedup_by.ensures.filtered in
    let moved = list_any-IsPermutation (begins_with text) _ _ c.sort_unstable.ensures.permutation in
    subst (λ (texts : List (List ℕ)). begins_with_one texts text ≡ true) (sym (c.from_vec.ensures ∙ kept))
    (covers text _ (sym moved ∙ ap (list_any (begins_with text)) c.into_vec-texts.ensures ∙ e))
