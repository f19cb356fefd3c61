-- The requests of all sessions.
use Rattle.std.proofs.Common.{◌≡◌, ℕ, suc, ◌+◌, List, [], ◌∷◌, ◌++◌, length, Option, Some, None, refl, sym, ap, subst, arith}
use Rattle.std.specs.Prelude.{All}
use Rattle.std.specs.List.{AllByRecursion}
use Rattle.std.proofs.lemmas.List.Elements.{recursion_from_All}
use Rattle.depot_model.specs.declared.request.Request.{Request}
use Rattle.depot_model.specs.declared.request.Session.{Session}
use Rattle.replica_turns.proofs.Turns.{requests_many}
use Rattle.session_loop.specs.Asking.{commands_of}
use Rattle.session_loop.specs.Requests.{AreRequestsOf, AreRequestsOfAll}

-- one more session of which they are made
pub all_push : (may_give : ℕ → Type 0) (party last : ℕ) (sessions : List (Option Session)) (requests : List (List Request)) (session : Option Session) (own : List Request) → last ≡ party + length sessions
    → AreRequestsOfAll may_give party sessions requests → AreRequestsOf may_give last session own → AreRequestsOfAll may_give party (sessions ++ session ∷ []) (requests ++ own ∷ [])
all_push may_give party last [] [] session own is all one =
    let first : last ≡ party = omega (arith, is) in
    let P : ℕ → Type 0 = λ n. AreRequestsOf may_give n session own in
    (subst P first one, tt)
all_push may_give party last [] (r ∷ requests) session own is all one = absurd all
all_push may_give party last (s ∷ sessions) [] session own is all one = absurd all
all_push may_give party last (s ∷ sessions) (r ∷ requests) session own is all one = (all.0, all_push may_give (suc party) last sessions requests session own (omega (arith, is)) all.1 one)

-- what holds of all holds of the next
pub holds_next : {X : Type 0} (P : X → Type 0) (all before rest : List X) (x : X) → before ++ x ∷ rest ≡ all → All P all → P x
holds_next P all before rest x is holds =
    let Q : List _ → Type 0 = AllByRecursion P in
    go before (subst Q (sym is) (recursion_from_All P all holds))
  where
    go : (before : List _) → AllByRecursion P (before ++ x ∷ rest) → P x
    go [] h = h.0
    go (y ∷ before) h = go before h.1

-- ---- how many there are

pub asked_count : (may_give : ℕ → Type 0) (party : ℕ) (sessions : List (Option Session)) (requests : List (List Request)) → AreRequestsOfAll may_give party sessions requests → length requests ≡ length sessions
asked_count may_give party [] [] all = refl
asked_count may_give party [] (r ∷ requests) all = absurd all
asked_count may_give party (s ∷ sessions) [] all = absurd all
asked_count may_give party (s ∷ sessions) (r ∷ requests) all = ap suc (asked_count may_give (suc party) sessions requests all.1)

pub many_of : (may_give : ℕ → Type 0) (k : ℕ) (session : Option Session) (own : List Request) → AreRequestsOf may_give k session own → length own ≡ length (commands_of session)
many_of may_give k None own are = ap (length {A = Request}) are
many_of may_give k (Some session) own are = requests_many may_give k 1 session.caller session.commands own are
