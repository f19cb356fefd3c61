use Rattle.std.proofs.Common.{◌≡◌, ℕ, List, [], ◌∷◌, ◌++◌, ap, ◌∙◌, append_assoc}
use Rattle.std.specs.Prelude.{decimal}
use Rattle.std.specs.Fmt.{digits}
use Rattle.depot_commit.proofs.telling.fault_reply.Goals as goal

pub returns : goal.returns
unfolding digits
returns c =
    let ends : List ℕ = 10 ∷ 10 ∷ [] in
    let first : c.append.new.self ≡ c.in_ok-text.text ++ decimal c.args.number = c.in_ok-append.ensures.ok ∙ ap (λ (t : List ℕ). c.in_ok-text.text ++ t) (c.as_bytes.ensures.value ∙ c.format.ensures.text) in
    c.in_ok-append-2.ensures.ok
    ∙ (ap (λ (t : List ℕ). t ++ ends) first
    ∙ (append_assoc c.in_ok-text.text (decimal c.args.number) ends ∙ ap (λ (t : List ℕ). t ++ (decimal c.args.number ++ ends)) c.in_ok-text.ensures))
