-- One more request of a session.
use Rattle.std.proofs.Common.{◌≡◌, ℕ, suc, ◌+◌, List, [], ◌∷◌, ◌++◌, length, subst, arith}
use Rattle.depot_model.specs.declared.request.Asked.{Asked}
use Rattle.depot_model.specs.declared.request.Caller.{Caller}
use Rattle.depot_model.specs.declared.request.Request.{Request}
use Rattle.session_loop.specs.Requests.{AreRequests, IsRequest}

pub requests_push : (may_give : ℕ → Type 0) (party number last : ℕ) (caller : Caller) (commands : List Asked) (requests : List Request) (asked : Asked) (request : Request)
    → last ≡ number + length commands → AreRequests may_give party number caller commands requests → IsRequest may_give party last caller asked request
    → AreRequests may_give party number caller (commands ++ asked ∷ []) (requests ++ request ∷ [])
requests_push may_give party number last caller [] [] asked request is all one =
    let first : last ≡ number = omega (arith, is) in
    let P : ℕ → Type 0 = λ n. IsRequest may_give party n caller asked request in
    (subst P first one, tt)
requests_push may_give party number last caller [] (r ∷ requests) asked request is all one = absurd all
requests_push may_give party number last caller (a ∷ commands) [] asked request is all one = absurd all
requests_push may_give party number last caller (a ∷ commands) (r ∷ requests) asked request is all one =
    (all.0, requests_push may_give party (suc number) last caller commands requests asked request (omega (arith, is)) all.1 one)
