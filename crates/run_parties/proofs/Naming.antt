-- The command that a request names.
use Rattle.std.proofs.Common.{◌≡◌, ℕ, zero, suc, ◌+◌, ◌-◌, Bool, List, [], ◌∷◌, Option, Some, None, refl, sym, ap, subst, ◌∙◌, arith}
use Rattle.std.specs.Prelude.{All, slice_get, option_map}
use Rattle.std.specs.List.{AllByRecursion}
use Rattle.std.specs.Option.{option_flatten}
use Rattle.std.proofs.lemmas.List.Elements.{recursion_from_All}
use Rattle.depot_model.specs.Places.{Placed}
use Rattle.depot_model.specs.declared.order.Place.{Place}
use Rattle.depot_model.specs.declared.request.Asked.{Asked}
use Rattle.depot_model.specs.declared.request.Caller.{Caller}
use Rattle.depot_model.specs.declared.request.Request.{Request}
use Rattle.depot_model.specs.declared.request.Session.{Session}
use Rattle.depot_runs.specs.Run.{placed, request_by, request_of}
use Rattle.session_loop.specs.Asking.{AreProper, AreWellFormed, commands_of}
use Rattle.session_loop.specs.Requests.{AreRequests, AreRequestsOf, AreRequestsOfAll, IsRequest}
use Rattle.session_loop.specs.Taking.{IsProper, place_by, placed_by}

-- a request is that of a command of a session
pub record IsOf (may_give : ℕ → Type 0) (sessions : List (Option Session)) (i n : ℕ) (request : Request) : Type 0 where
  pub session : Session
  pub asked : Asked
  pub has : slice_get sessions i ≡ Some (Some session)
  pub asks : slice_get session.commands n ≡ Some asked
  pub is : IsRequest may_give (i + 1) (n + 1) session.caller asked request

module _ (may_give : ℕ → Type 0) where
  -- of the requests of commands, the one at a place
  request_at : (party number : ℕ) (caller : Caller) (commands : List Asked) (requests : List Request) → AreRequests may_give party number caller commands requests → (n : ℕ) (request : Request)
      → slice_get requests n ≡ Some request → (asked : Asked) × (slice_get commands n ≡ Some asked) × IsRequest may_give party (number + n) caller asked request
  request_at party number caller [] [] all n request at = absurd cc
  request_at party number caller [] (r ∷ requests) all n request at = absurd all
  request_at party number caller (a ∷ commands) [] all n request at = absurd all
  request_at party number caller (a ∷ commands) (r ∷ requests) all zero request at =
      let same : r ≡ request = cc in
      let e : number ≡ number + 0 = omega arith in
      let P : ℕ → Type 0 = λ k. IsRequest may_give party k caller a request in
      let Q : Request → Type 0 = λ x. IsRequest may_give party number caller a x in
      (a, refl, subst P e (subst Q same all.0))
  request_at party number caller (a ∷ commands) (r ∷ requests) all (suc n) request at =
      let more = request_at party (suc number) caller commands requests all.1 n request at in
      let e : suc number + n ≡ number + suc n = omega arith in
      let P : ℕ → Type 0 = λ k. IsRequest may_give party k caller more.0 request in
      (more.0, more.1, subst P e more.2)

  -- of the requests of a session
  request_of_one : (party : ℕ) (session : Option Session) (requests : List Request) → AreRequestsOf may_give party session requests → (n : ℕ) (request : Request) → slice_get requests n ≡ Some request
      → (found : Session) × (session ≡ Some found) × ((asked : Asked) × (slice_get found.commands n ≡ Some asked) × IsRequest may_give party (1 + n) found.caller asked request)
  request_of_one party None requests all n request at = absurd (let none : slice_get {X = Request} [] n ≡ Some request = sym (ap (λ (rs : List Request). slice_get rs n) all) ∙ at in cc)
  request_of_one party (Some session) requests all n request at = (session, refl, request_at party 1 session.caller session.commands requests all n request at)

  request_in : (party : ℕ) (sessions : List (Option Session)) (requests : List (List Request)) → AreRequestsOfAll may_give party sessions requests → (i n : ℕ) (own : List Request) (request : Request)
      → slice_get requests i ≡ Some own → slice_get own n ≡ Some request
      → (found : Session) × (slice_get sessions i ≡ Some (Some found)) × ((asked : Asked) × (slice_get found.commands n ≡ Some asked) × IsRequest may_give (party + i) (1 + n) found.caller asked request)
  request_in party [] [] all i n own request at_i at_n = absurd cc
  request_in party [] (r ∷ requests) all i n own request at_i at_n = absurd all
  request_in party (s ∷ sessions) [] all i n own request at_i at_n = absurd all
  request_in party (s ∷ sessions) (r ∷ requests) all zero n own request at_i at_n =
      let same : r ≡ own = cc in
      let one = request_of_one party s r all.0 n request (ap (λ (rs : List Request). slice_get rs n) same ∙ at_n) in
      let e : party ≡ party + 0 = omega arith in
      let P : ℕ → Type 0 = λ k. IsRequest may_give k (1 + n) one.0.caller one.2.0 request in
      (one.0, ap (λ (x : Option Session). Some x) one.1, (one.2.0, one.2.1, subst P e one.2.2))
  request_in party (s ∷ sessions) (r ∷ requests) all (suc i) n own request at_i at_n =
      let more = request_in (suc party) sessions requests all.1 i n own request at_i at_n in
      let e : suc party + i ≡ party + suc i = omega arith in
      let P : ℕ → Type 0 = λ k. IsRequest may_give k (1 + n) more.0.caller more.2.0 request in
      (more.0, more.1, (more.2.0, more.2.1, subst P e more.2.2))

  -- the request at a place of those of a party
  pub named : (sessions : List (Option Session)) (requests : List (List Request)) → AreRequestsOfAll may_give 1 sessions requests → (i n : ℕ) (own : List Request) (request : Request)
      → slice_get requests i ≡ Some own → slice_get own n ≡ Some request → IsOf may_give sessions i n request
  named sessions requests all i n own request at_i at_n =
      let one = request_in 1 sessions requests all i n own request at_i at_n in
      let e : 1 + i ≡ i + 1 = omega arith in
      let f : 1 + n ≡ n + 1 = omega arith in
      let P : ℕ → Type 0 = λ k. IsRequest may_give k (1 + n) one.0.caller one.2.0 request in
      let Q : ℕ → Type 0 = λ k. IsRequest may_give (i + 1) k one.0.caller one.2.0 request in
      record { session = one.0; asked = one.2.0; has = one.1; asks = one.2.1; is = subst Q f (subst P e one.2.2) }

  module _ (sessions : List (Option Session)) (i n : ℕ) (request : Request) (of : IsOf may_give sessions i n request) where
    pub party_is : request.party ≡ i + 1
    party_is = ap (λ (r : Request). r.party) of.is.is

    pub number_is : request.number ≡ n + 1
    number_is = ap (λ (r : Request). r.number) of.is.is

    pub moment_is : may_give request.moment
    moment_is = subst may_give (sym (ap (λ (r : Request). r.moment) of.is.is)) of.is.given

    abbrev its_place : Bool → Place
    its_place fault = record { party = i + 1; number = n + 1; moment = of.is.moment; fault = fault }

    -- its place names it
    pub placed_is : (fault : Bool) → placed sessions (place_by request fault) ≡ placed_by request fault
    placed_is fault =
        let P : Request → Type 0 = λ r. placed sessions (place_by r fault) ≡ placed_by r fault in
        let at_party : i + 1 - 1 ≡ i = omega arith in
        let at_number : n + 1 - 1 ≡ n = omega arith in
        let asks : Option Request → Placed = λ found. record { request = found; fault = fault } in
        subst P (sym of.is.is)
        (ap (λ (k : ℕ). asks (request_by (its_place fault) (option_flatten (slice_get sessions k)))) at_party
        ∙ (ap (λ (found : Option (Option Session)). asks (request_by (its_place fault) (option_flatten found))) of.has
        ∙ (ap (λ (k : ℕ). asks (option_map (request_of (its_place fault) of.session.caller) (slice_get of.session.commands k))) at_number
        ∙ ap (λ (found : Option Asked). asks (option_map (request_of (its_place fault) of.session.caller) found)) of.asks)))

    -- it is proper where the commands are well-formed
    pub proper : All (λ (session : Option Session). AreWellFormed (commands_of session)) sessions → IsProper request
    proper formed =
        let P : Request → Type 0 = IsProper in
        subst P (sym of.is.is) (in_session of.session.commands n (in_sessions sessions i (recursion_from_All (λ (session : Option Session). AreWellFormed (commands_of session)) sessions formed) of.has) of.asks)
      where
        in_sessions : (sessions : List (Option Session)) (i : ℕ) → AllByRecursion (λ (session : Option Session). AreWellFormed (commands_of session)) sessions → slice_get sessions i ≡ Some (Some of.session)
            → AllByRecursion (λ (a : Asked). AreProper a.command a.contents) of.session.commands
        in_sessions [] i all at = absurd cc
        in_sessions (s ∷ sessions) zero all at =
            let same : s ≡ Some of.session = cc in
            let P : Option Session → Type 0 = λ x. AreWellFormed (commands_of x) in
            recursion_from_All (λ (a : Asked). AreProper a.command a.contents) of.session.commands (subst P same all.0)
        in_sessions (s ∷ sessions) (suc i) all at = in_sessions sessions i all.1 at

        in_session : (commands : List Asked) (n : ℕ) → AllByRecursion (λ (a : Asked). AreProper a.command a.contents) commands → slice_get commands n ≡ Some of.asked → AreProper of.asked.command of.asked.contents
        in_session [] n all at = absurd cc
        in_session (a ∷ commands) zero all at =
            let same : a ≡ of.asked = cc in
            let P : Asked → Type 0 = λ x. AreProper x.command x.contents in
            subst P same all.0
        in_session (a ∷ commands) (suc n) all at = in_session commands n all.1 at
