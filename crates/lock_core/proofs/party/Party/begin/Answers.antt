use Rattle.std.proofs.Common.{Option, vec_len, sym, subst, ◌∙◌}
use Rattle.std.proofs.lemmas.List.{nil_from_length}
use Rattle.depot_rows.specs.depot_model.Tables.{needs_of}
use Rattle.lock_machine.specs.Machine.{moved}
use Rattle.lock_core.specs.Parties.{IsShownAs}
use Rattle.lock_core.specs.declared.work.Work.{Work}
use Rattle.lock_core.proofs.Turning.{begun_by, none_left}
use Rattle.lock_core.proofs.party.Party.begin.Goals as goal

pub returns : goal.returns
returns c = λ order q h.
    let old = c.args.self.now in
    let left = c.pop-next.new.self in
    let its = begun_by order old.left.items old.work left.items c.pop-next.result q c.requires
    (λ none. nil_from_length left.items (sym left.ok.0 ∙ none_left c.pop-next.result (vec_len old.left) (vec_len left) none c.pop-next.ensures.variant c.pop-next.ensures.len))
    c.pop-next.ensures.items h in
    let P : Option Work → Type 0 = λ work. IsShownAs order left.items work (moved needs_of order q.left q.work) in
    subst P (sym c.replace.ensures.after) its
