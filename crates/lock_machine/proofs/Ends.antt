-- Each event of a party leaves fewer turns.
use Rattle.std.proofs.Common.{◌≡◌, ℕ, zero, suc, ◌<◌, Bool, true, false, cond, List, [], ◌∷◌, set, Option, Some, None, refl, sym, ap, subst, ◌∙◌, arith}
use Rattle.std.specs.Prelude.{slice_get}
use Rattle.std.specs.List.{list_any}
use Rattle.depot_model.specs.Tables.{Need}
use Rattle.depot_model.specs.declared.request.Request.{Request}
use Rattle.lock_machine.specs.Machine.{Seen, Work, Party, Commit, State, Finish, may_go, is_stale, judged, worked, moved, acted}
use Rattle.lock_machine.specs.declared.stage.Stage.{Stage}
use Rattle.lock_machine.specs.declared.stage.Stage.TheVariants.{Gathering, Judged, Committed}
use Rattle.lock_machine.specs.Turns.{turns_at, turns_of_work, turns_of, turns_in, turns_left}
use Rattle.lock_machine.proofs.Places.{some_is}

-- the second attempt finds nothing stale
never_stale : (order : List Commit) (seen : List Seen) → list_any (is_stale order true) seen ≡ false
never_stale order [] = refl
never_stale order (s ∷ seen) = never_stale order seen

module _ (needs : Request → List Need) where
  instead : (parties : List Party) (i : ℕ) (p q : Party) → slice_get parties i ≡ Some p → turns_of needs q < turns_of needs p → turns_in needs (set parties i q) < turns_in needs parties
  instead [] i p q at_i less = absurd cc
  instead (x ∷ parties) zero p q at_i less = let same = ap (turns_of needs) (some_is at_i) in omega arith
  instead (x ∷ parties) (suc i) p q at_i less = let more = instead parties i p q at_i less in omega arith

  module _ (parties : List Party) (order : List Commit) where
    abbrev at : Request → Stage → Bool → List Seen → List Need → Work
    at request stage second seen rest = record { request = request; stage = stage; second = second; seen = seen; rest = rest }

    abbrev on_stale : Request → Bool → List Seen → Bool → Work
    on_stale request second seen stale = cond stale (at request Gathering true [] (needs request)) (at request Judged second seen [])

    judged_less : (request : Request) (second : Bool) (seen : List Seen) (stale : Bool) → list_any (is_stale order second) seen ≡ stale
        → turns_of_work needs (Some (judged needs order (at request Gathering second seen []))) < turns_at needs request Gathering second []
    judged_less request true seen true is = absurd (let none = never_stale order seen in let both : true ≡ false = sym is ∙ none in cc)
    judged_less request false seen true is =
        let P : Bool → Type 0 = λ b. turns_of_work needs (Some (on_stale request false seen b)) < turns_at needs request Gathering false [] in
        subst P (sym is) (omega arith)
    judged_less request second seen false is =
        let P : Bool → Type 0 = λ b. turns_of_work needs (Some (on_stale request second seen b)) < turns_at needs request Gathering second [] in
        subst P (sym is) (omega arith)

    worked_less : (request : Request) (stage : Stage) (second : Bool) (seen : List Seen) (rest : List Need)
        → turns_of_work needs (worked needs order (at request stage second seen rest) stage) < turns_at needs request stage second rest
    worked_less request Gathering second seen [] = judged_less request second seen (list_any (is_stale order second) seen) refl
    worked_less request Gathering second seen (need ∷ rest) = omega arith
    worked_less request Judged second seen rest = omega arith
    worked_less request Committed second seen rest = omega arith

    moved_less : (left : List Request) (work : Option Work) → may_go parties left work ≡ true → turns_of needs (moved needs order left work) < turns_of needs (record { left = left; work = work })
    moved_less [] None may = absurd cc
    moved_less (request ∷ left) None may = omega arith
    moved_less left (Some w) may = let less = worked_less w.request w.stage w.second w.seen w.rest in omega arith

  -- an event that is enabled leaves fewer turns
  pub acted_less : (s : State) (i : ℕ) (p : Party) (how : Finish) → slice_get s.parties i ≡ Some p → may_go s.parties p.left p.work ≡ true → turns_left needs (acted needs s i p how) < turns_left needs s
  acted_less s i p how at_i may = instead s.parties i p (moved needs s.order p.left p.work) at_i (moved_less s.parties s.order p.left p.work may)
