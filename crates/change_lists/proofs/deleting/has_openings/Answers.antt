use Rattle.std.proofs.Common.{ℕ, ap, sym, ◌∙◌}
use Rattle.std.specs.Prelude.{length, nat_lt}
use Rattle.std.proofs.lemmas.List.{length-map}
use Rattle.depot_rows.specs.Deed.{opening_of}
use Rattle.change_lists.proofs.deleting.has_openings.Goals as goal

pub returns : goal.returns
returns c = λ d sound has. ap (λ (n : ℕ). nat_lt 0 n) (c.len-holds.ensures ∙ sym (length-map c.in_ok-openings.openings opening_of) ∙ ap length (c.in_ok-openings.ensures d sound has))
