-- What a run begins with.
use Rattle.std.proofs.Common.{◌≡◌, ℕ, suc, ◌+◌, ◌≤◌, true, List, [], ◌∷◌, length, Option, Some, None, Result, Ok, Err, refl, sym, ap, subst, ◌∙◌, arith}
use Rattle.std.specs.Prelude.{All, IfOk, option_map}
use Rattle.std.specs.List.{AllByRecursion}
use Rattle.std.proofs.lemmas.List.{length-map}
use Rattle.std.proofs.lemmas.List.Elements.{recursion_from_All}
use Rattle.std.proofs.lemmas.Option.{slice_get-map}
use Rattle.command_words.specs.WellFormed.{IsWellFormed}
use Rattle.depot_rows.specs.depot_model.WellFormed.{asks_rightly, is_command}
use Rattle.depot_rows.specs.depot_model.declared.command.Command.{Command}
use Rattle.depot_rows.specs.depot_model.declared.request.Asked.{Asked}
use Rattle.depot_rows.specs.depot_model.declared.request.Caller.{Caller}
use Rattle.depot_rows.specs.depot_model.declared.request.Request.{Request}
use Rattle.depot_rows.specs.depot_model.declared.request.Session.{Session}
use Rattle.depot_rows.specs.depot_model.declared.request.WordFault.{WordFault}
use Rattle.lock_core.specs.Core.{AllProper, AllProperIn}
use Rattle.lock_machine.specs.Proper as machine
use Rattle.lock_machine.specs.Runs.{beginning, idle}
use Rattle.lock_machine.proofs.Places.{some_is}
use Rattle.run_parties.proofs.Making.{asked_count, many_of}
use Rattle.run_parties.specs.Asking.{fresh}
use Rattle.run_parties.specs.Served.{AreApart}
use Rattle.session_loop.specs.Asking.{AreProper, AreWellFormed, commands_of}
use Rattle.session_loop.specs.Requests.{AreRequests, AreRequestsOf, AreRequestsOfAll, IsRequest}
use Rattle.session_loop.specs.Served.{IsOutput}
use Rattle.session_loop.specs.Taking.{IsProper}
use Rattle.session_loop.specs.declared.session.SessionRun.{SessionRun}
use Rattle.session_turns.proofs.Drawing.{AllShort}
use Rattle.session_turns.proofs.Fresh.{fresh_at}
use Rattle.session_turns.specs.Running.{IsUnderWay, Scene, fresh_runs, left_after, unanswered}
use Rattle.wire_text.proofs.Pieces.{extended-nil}

module _ (may_give : ℕ → Type 0) where
  -- ---- how many there are

  short : (party : ℕ) (sessions : List (Option Session)) (requests : List (List Request)) → AreRequestsOfAll may_give party sessions requests
      → AllByRecursion (λ (session : Option Session). length (commands_of session) ≤ 67108864) sessions → AllShort requests
  short party [] [] all few = tt
  short party [] (r ∷ requests) all few = absurd all
  short party (s ∷ sessions) [] all few = absurd all
  short party (s ∷ sessions) (r ∷ requests) all few = (let is = many_of may_give party s r all.0 in let one = few.0 in omega (arith, is, one), short (suc party) sessions requests all.1 few.1)

  pub all_short : (sessions : List (Option Session)) (requests : List (List Request)) → AreRequestsOfAll may_give 1 sessions requests → All (λ (session : Option Session). length (commands_of session) ≤ 67108864) sessions → AllShort requests
  all_short sessions requests all few = short 1 sessions requests all (recursion_from_All (λ (session : Option Session). length (commands_of session) ≤ 67108864) sessions few)

  -- ---- they are proper

  proper_of : (request : Request) → IsProper request → machine.IsProper request
  proper_of request proper = record {
    asked = record { formed = form request.command proper.0; short = proper.1 };
    rightly = heads request.command proper.0;
  }
    where
      form : (asked : Result Command WordFault) → IfOk asked IsWellFormed → IfOk asked (λ command. is_command command ≡ true)
      form (Ok command) h = h.form
      form (Err fault) h = tt

      heads : (asked : Result Command WordFault) → IfOk asked IsWellFormed → IfOk asked (λ command. asks_rightly command ≡ true)
      heads (Ok command) h = h.heads
      heads (Err fault) h = tt

  proper_one : (party number : ℕ) (caller : Caller) (asked : Asked) (request : Request) → IsRequest may_give party number caller asked request → AreProper asked.command asked.contents → machine.IsProper request
  proper_one party number caller asked request is proper = let P : Request → Type 0 = IsProper in proper_of request (subst P (sym is.is) proper)

  proper_are : (party number : ℕ) (caller : Caller) (commands : List Asked) (requests : List Request) → AreRequests may_give party number caller commands requests
      → AllByRecursion (λ (a : Asked). AreProper a.command a.contents) commands → AllProper requests
  proper_are party number caller [] [] all formed = tt
  proper_are party number caller [] (r ∷ requests) all formed = absurd all
  proper_are party number caller (a ∷ commands) [] all formed = absurd all
  proper_are party number caller (a ∷ commands) (r ∷ requests) all formed = (proper_one party number caller a r all.0 formed.0, proper_are party (suc number) caller commands requests all.1 formed.1)

  proper_session : (party : ℕ) (session : Option Session) (requests : List Request) → AreRequestsOf may_give party session requests → AreWellFormed (commands_of session) → AllProper requests
  proper_session party None requests all formed = subst AllProper (sym all) tt
  proper_session party (Some session) requests all formed =
      proper_are party 1 session.caller session.commands requests all (recursion_from_All (λ (a : Asked). AreProper a.command a.contents) session.commands formed)

  proper_all : (party : ℕ) (sessions : List (Option Session)) (requests : List (List Request)) → AreRequestsOfAll may_give party sessions requests
      → AllByRecursion (λ (session : Option Session). AreWellFormed (commands_of session)) sessions → AllProperIn requests
  proper_all party [] [] all formed = tt
  proper_all party [] (r ∷ requests) all formed = absurd all
  proper_all party (s ∷ sessions) [] all formed = absurd all
  proper_all party (s ∷ sessions) (r ∷ requests) all formed = (proper_session party s r all.0 formed.0, proper_all (suc party) sessions requests all.1 formed.1)

  pub all_proper : (sessions : List (Option Session)) (requests : List (List Request)) → AreRequestsOfAll may_give 1 sessions requests → All (λ (session : Option Session). AreWellFormed (commands_of session)) sessions → AllProperIn requests
  all_proper sessions requests all formed = proper_all 1 sessions requests all (recursion_from_All (λ (session : Option Session). AreWellFormed (commands_of session)) sessions formed)

  -- ---- nothing is taken yet

  pub under_way : (scene : Scene) (totals : List ℕ) → AreRequestsOfAll may_give 1 scene.sessions scene.requests → length totals ≡ length scene.sessions → length scene.scripts ≡ length scene.sessions
      → AreApart scene.sessions scene.scripts → IsUnderWay may_give scene (beginning scene.requests) (fresh_runs totals) scene.before []
  under_way scene totals asked as_many as_many_scripts apart = record {
    served = record {
      count = length-map totals (λ (n : ℕ). fresh) ∙ as_many;
      places = record { places = λ k d lt. absurd (omega (arith, lt)); rising = λ i j d lt1 lt2. absurd (omega (arith, lt2)) };
      each = λ i run before now at_script at_run at_before at_now.
          let run_is = fresh_at totals i run at_run in
          let same : before ≡ now = some_is (sym at_before ∙ at_now) in
          let P : SessionRun → Type 0 = λ r. IsOutput scene.sessions scene.start [] (i + 1) r.commands r.failed before now in
          subst P (sym run_is) (sym same ∙ sym (extended-nil before));
    };
    as_many = as_many_scripts;
    apart = apart;
    asked = asked;
    count = length-map scene.requests idle ∙ asked_count may_give 1 scene.sessions scene.requests asked;
    left = λ i own run p at_own at_run at_p.
        let run_is = fresh_at totals i run at_run in
        let p_is : idle own ≡ p = some_is (sym (slice_get-map idle scene.requests i ∙ ap (option_map idle) at_own) ∙ at_p) in
        ap unanswered (sym p_is) ∙ ap (left_after own) (sym run_is);
    order_is = refl;
  }
