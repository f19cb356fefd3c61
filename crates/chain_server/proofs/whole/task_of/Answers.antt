use Rattle.std.proofs.Common.{ℕ, List, ◌∷◌, Bor, sym, ap, ◌∙◌}
use Rattle.std.proofs.lemmas.Slice.Eq.{bytes_eq-Decides}
use Rattle.program_words.specs.Words.{words_of}
use Rattle.chain_server.proofs.whole.task_of.Goals as goal

pub returns-in-Some : goal.returns-in-Some
returns-in-Some c =
    let behind = words_of c.in-Some.field-0-1.now in
    (behind, ap (λ (words : List (Bor (List ℕ))). words_of words) c.in-Some.ensures.cases.0 ∙ ap (λ (word : List ℕ). word ∷ behind) ((bytes_eq-Decides _ _).0 (sym c.eq.ensures ∙ c.if-eq.true)))
