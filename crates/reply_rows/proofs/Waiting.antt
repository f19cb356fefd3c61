-- Rows whose contents are put in from the last one on.
use Rattle.std.proofs.Common.{◌≡◌, ℕ, zero, suc, ◌<◌, ◌≤◌, List, [], ◌∷◌, ◌++◌, length, map, take, drop, set, get_or, refl, sym, ap, ◌∙◌, arith, append_assoc, append-nil}
use Rattle.std.specs.Option.{option_to_list}
use Rattle.std.proofs.lemmas.List.{drop_all, take_all}
use Rattle.depot_rows.specs.depot_model.declared.reply.Row.{Row}
use Rattle.reply_rows.specs.Made.{contents_of, waiting}

-- rows of which the first k wait for their contents
abbrev pub partly : ℕ → List Row → List Row
partly k rows = map waiting (take k rows) ++ drop k rows

pub partly_all : (k : ℕ) (rows : List Row) → length rows ≤ k → partly k rows ≡ map waiting rows
partly_all k rows le = (λ i. map waiting (take_all k rows le i) ++ drop_all k rows le i) ∙ append-nil (map waiting rows)

-- the row of place k, and what it takes of the contents
pub record Next (rows : List Row) (k : ℕ) : Type 0 where
  pub row : Row
  pub here : (d : Row) → get_or (partly (suc k) rows) k d ≡ waiting row
  pub put : set (partly (suc k) rows) k row ≡ partly k rows
  pub contents : contents_of (take (suc k) rows) ≡ contents_of (take k rows) ++ option_to_list row.content

pub next : (rows : List Row) (k : ℕ) → k < length rows → Next rows k
next [] k lt = absurd (omega arith)
next (row ∷ rows) zero lt = record { row = row; here = λ d. refl; put = refl; contents = append-nil (option_to_list row.content) }
next (first ∷ rows) (suc k) lt =
    let n : Next rows k = next rows k (omega (arith, lt)) in
    record {
      row = n.row;
      here = n.here;
      put = ap (λ (l : List Row). waiting first ∷ l) n.put;
      contents =
          ap (λ (l : List (List ℕ)). option_to_list first.content ++ l) n.contents
          ∙ sym (append_assoc (option_to_list first.content) (contents_of (take k rows)) (option_to_list n.row.content));
    }
