use Rattle.std.proofs.Common.{Bool, [], ◌∷◌, ◌++◌, ap, ◌∙◌}
use Rattle.std.specs.Prelude.{if◌then◌else◌}
use Rattle.history_query.specs.Crediting.{credited, into_revision}
use Rattle.history_query.proofs.crediting.add_listed.Goals as goal

pub returns : goal.returns
returns c = λ rev.
    c.in_ok-add_if.ensures rev
    ∙ ap (λ (b : Bool). credited c.args.credits.now rev ++ into_revision rev (if b then c.args.integed.now ∷ [] else [])) c.in_ok-may.ensures
