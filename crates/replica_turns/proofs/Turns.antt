-- A replica's turns one after another.
use Rattle.std.proofs.Common.{◌≡◌, ◌≤◌, ◌+◌, ◌++◌, ◌∷◌, [], ℕ, suc, List, Bool, true, false, Result, length, inl, inr, refl, sym, ap, subst, ◌∙◌, append_assoc, arith}
use Rattle.std.specs.Prelude.{reverse}
use Rattle.std.specs.List.{AllByRecursion}
use Rattle.std.proofs.Math.Seq.{take-length}
use Rattle.std.proofs.lemmas.List.{length-append, reverse-append, take-append-le}
use Rattle.std.proofs.lemmas.List.Elements.{recursion_from_All}
use Rattle.outside_api.specs.Says.{DiskSays}
use Rattle.depot_commit.proofs.Laws.{formed_of}
use Rattle.depot_rows.specs.depot_model.Deeds.{Deed}
use Rattle.depot_rows.specs.depot_model.Places.{Placed}
use Rattle.depot_rows.specs.depot_model.declared.request.Asked.{Asked}
use Rattle.depot_rows.specs.depot_model.declared.request.Caller.{Caller}
use Rattle.depot_rows.specs.depot_model.declared.request.Request.{Request}
use Rattle.replica_pull.specs.declared.replica.Replica.{Replica}
use Rattle.session_loop.specs.Asking.{AreProper, AreWellFormed}
use Rattle.session_loop.specs.Requests.{AreRequests}
use Rattle.session_loop.specs.Taking.{IsProper}
use Rattle.session_loop.specs.declared.reading.ReplicaScript.{ReplicaScript}
use Rattle.serial_depot.specs.Running.{HasRun}
use Rattle.serial_depot.specs.declared.depot.SerialDepot.{SerialDepot}
use Rattle.replica_turns.specs.Going.{AreAnswered, IsFresh, IsGoing, IsTurned, one_if, reply_text, is_lost}
use Rattle.replica_turns.specs.Replying.{IsAnswered, IsAnsweredAs, IsPullAnswer, IsReply, pulls}
use Rattle.replica_turns.specs.declared.party.Answered.{Answered}
use Rattle.replica_turns.specs.declared.party.ReplicaParty.{ReplicaParty}

-- ---- requests

abbrev pub IsAskedWell : Asked → Type 0
IsAskedWell asked = AreProper asked.command asked.contents

-- a command that keeps all that words promise keeps what its answer needs

-- a request among those of a party has its number, and is well-formed as its command is
pub at_place : (may_give : ℕ → Type 0) (party n : ℕ) (caller : Caller) (commands : List Asked) (before : List Request) (request : Request) (behind : List Request)
    → AreRequests may_give party n caller commands (before ++ request ∷ behind) → AllByRecursion IsAskedWell commands → (request.number ≡ n + length before) × IsProper request
at_place may_give party n caller [] [] request behind are formed = absurd are
at_place may_give party n caller [] (b ∷ before) request behind are formed = absurd are
at_place may_give party n caller (asked ∷ commands) [] request behind are formed =
    (let is = ap (λ (r : Request). r.number) are.0.is in omega (arith, is), subst IsProper (sym are.0.is) formed.0)
at_place may_give party n caller (asked ∷ commands) (b ∷ before) request behind are formed =
    let later = at_place may_give party (suc n) caller commands before request behind are.1 formed.1 in (let is = later.0 in omega (arith, is), later.1)

-- there are as many requests as commands
pub requests_many : (may_give : ℕ → Type 0) (party n : ℕ) (caller : Caller) (commands : List Asked) (requests : List Request) → AreRequests may_give party n caller commands requests
    → length requests ≡ length commands
requests_many may_give party n caller [] [] are = refl
requests_many may_give party n caller [] (r ∷ requests) are = absurd are
requests_many may_give party n caller (asked ∷ commands) [] are = absurd are
requests_many may_give party n caller (asked ∷ commands) (r ∷ requests) are = ap suc (requests_many may_give party (suc n) caller commands requests are.1)

-- ---- over more depots

module _ {D : Type 0} (HasBeen Other : SerialDepot D → Type 0) (disk_says : DiskSays D) (more : (depot : SerialDepot D) → HasBeen depot → Other depot) where
  pull_wider : (old new : Replica) (number : ℕ) (text : List ℕ) (lost : Bool) → IsPullAnswer HasBeen disk_says old new number text lost → IsPullAnswer Other disk_says old new number text lost
  pull_wider old new number text true is = is
  pull_wider old new number text false is =
      record { depot = is.depot; been = more is.depot is.been; fetched = is.fetched; piece = is.piece; answers = is.answers; follows = is.follows; reply = is.reply }

  reply_wider : (replica : Replica) (request : Request) (text : List ℕ) (lost : Bool) → IsReply HasBeen disk_says replica request text lost → IsReply Other disk_says replica request text lost
  reply_wider replica request text true is = is
  reply_wider replica request text false (inl is) = inl (record { depot = is.depot; been = more is.depot is.been; reply = is.reply; digested = is.digested })
  reply_wider replica request text false (inr is) =
      inr (record { prints_it = is.prints_it; depot = is.depot; been = more is.depot is.been; at = is.at; reply = is.reply; bad = is.bad })

  as_wider : (old new : Replica) (request : Request) (text : List ℕ) (lost pull : Bool) → IsAnsweredAs HasBeen disk_says old new request text lost pull
      → IsAnsweredAs Other disk_says old new request text lost pull
  as_wider old new request text lost true is = pull_wider old new request.number text lost is
  as_wider old new request text lost false is = (is.0, reply_wider old request text lost is.1)

  answer_wider : (old new : Replica) (request : Request) (text : List ℕ) (lost : Bool) → IsAnswered HasBeen disk_says old new request text lost
      → IsAnswered Other disk_says old new request text lost
  answer_wider old new request text lost (inl is) = inl (as_wider old new request text lost (pulls request.command) is)
  answer_wider old new request text lost (inr is) = inr is

-- ---- over more places

module _ {D : Type 0} (disk_says : DiskSays D) (since : ℕ) (start : List Deed) (places : List Placed) where
  abbrev AreFrom : ℕ → Replica → Replica → List ℕ → List Request → List (List ℕ) → ℕ → Type 0
  AreFrom before old new counts requests texts lost = AreAnswered disk_says since start places before old new counts requests texts lost

  answers_longer : (more : List Placed) (before : ℕ) (old new : Replica) (counts : List ℕ) (requests : List Request) (texts : List (List ℕ)) (lost : ℕ) → AreFrom before old new counts requests texts lost
      → AreAnswered disk_says since start (places ++ more) before old new counts requests texts lost
  answers_longer more before old new [] [] [] lost are = are
  answers_longer more before old new [] [] (text ∷ texts) lost are = absurd are
  answers_longer more before old new [] (request ∷ requests) texts lost are = absurd are
  answers_longer more before old new (count ∷ counts) [] texts lost are = absurd are
  answers_longer more before old new (count ∷ counts) (request ∷ requests) [] lost are = absurd are
  answers_longer more before old new (count ∷ counts) (request ∷ requests) (text ∷ texts) lost are =
      let within = are.4 in
      let long = length-append places more in
      let As : List Placed → Type 0 = λ taken. IsAnswered (λ depot. HasRun disk_says depot since start taken) disk_says old are.0 request text are.1 in (
        are.0,
        are.1,
        are.2,
        are.3,
        omega (arith, within, long),
        are.5,
        subst As (sym (take-append-le count places more within)) are.6,
        answers_longer more count are.0 new counts requests texts are.2 are.7,
      )

  -- ---- one more answer

  as_many : (before : ℕ) (old new : Replica) (counts : List ℕ) (requests : List Request) (texts : List (List ℕ)) (lost : ℕ) → AreFrom before old new counts requests texts lost
      → length requests ≡ length texts
  as_many before old new [] [] [] lost are = refl
  as_many before old new [] [] (text ∷ texts) lost are = absurd are
  as_many before old new [] (request ∷ requests) texts lost are = absurd are
  as_many before old new (count ∷ counts) [] texts lost are = absurd are
  as_many before old new (count ∷ counts) (request ∷ requests) [] lost are = absurd are
  as_many before old new (count ∷ counts) (request ∷ requests) (text ∷ texts) lost are = ap suc (as_many count are.0 new counts requests texts are.2 are.7)

  -- over a depot that has run all places
  one_more : (before : ℕ) (old mid new : Replica) (counts : List ℕ) (requests : List Request) (texts : List (List ℕ)) (lost : ℕ) (request : Request) (text : List ℕ) (last : Bool) → before ≤ length places
      → AreFrom before old mid counts requests texts lost → IsAnswered (λ depot. HasRun disk_says depot since start places) disk_says mid new request text last
      → AreFrom before old new (counts ++ length places ∷ []) (requests ++ request ∷ []) (texts ++ text ∷ []) (lost + one_if last)
  one_more before old mid new [] [] [] lost request text last low are is =
      let As : List Placed → Replica → Type 0 = λ all r. IsAnswered (λ depot. HasRun disk_says depot since start all) disk_says r new request text last in (
        new,
        last,
        0,
        low,
        omega arith,
        (let none = are.1 in omega (arith, none)),
        subst (λ (all : List Placed). As all old) (sym (take-length places)) (subst (As places) are.0 is),
        (refl, refl),
      )
  one_more before old mid new [] [] (t ∷ texts) lost request text last low are is = absurd are
  one_more before old mid new [] (r ∷ requests) texts lost request text last low are is = absurd are
  one_more before old mid new (count ∷ counts) [] texts lost request text last low are is = absurd are
  one_more before old mid new (count ∷ counts) (r ∷ requests) [] lost request text last low are is = absurd are
  one_more before old mid new (count ∷ counts) (r ∷ requests) (t ∷ texts) lost request text last low are is = (
    are.0,
    are.1,
    are.2 + one_if last,
    are.3,
    are.4,
    (let some = are.5 in omega (arith, some)),
    are.6,
    one_more count are.0 mid new counts requests texts are.2 request text last are.4 are.7 is,
  )

-- ---- a party

module _ {D : Type 0} (disk_says : DiskSays D) (since : ℕ) (start : List Deed) (places : List Placed) (may_give : ℕ → Type 0) (party : ℕ) (script : ReplicaScript) where
  -- a fresh party of well-formed commands is going, with no reply
  pub begins : (p : ReplicaParty) → IsFresh may_give party script p → AreWellFormed script.session.commands → IsGoing disk_says since start places may_give party script p [] [] 0
  begins p fresh formed =
      record { formed = formed; answered = []; asked = fresh.asked; first = p.replica; is_new = fresh.is_new; are = (refl, refl) }

  -- over a depot that has run all places it goes on by one turn
  pub goes_on : {E : Type 0} (depot : SerialDepot D) (old new : ReplicaParty) (counts : List ℕ) (texts : List (List ℕ)) (lost : ℕ) (result : Result Answered E) → HasRun disk_says depot since start places
      → IsGoing disk_says since start places may_give party script old counts texts lost → IsTurned disk_says depot old new result
      → IsGoing disk_says since start places may_give party script new (counts ++ length places ∷ []) (texts ++ reply_text result (length texts + 1) ∷ []) (lost + one_if (is_lost result))
  goes_on depot old new counts texts lost result ran going turn =
      let request = turn.request in
      let left : reverse old.left.items ≡ request ∷ reverse new.left.items = ap reverse turn.left ∙ reverse-append new.left.items (request ∷ []) in
      let asked : AreRequests may_give party 1 script.session.caller script.session.commands (going.answered ++ request ∷ reverse new.left.items) =
      subst (λ (behind : List Request). AreRequests may_give party 1 script.session.caller script.session.commands (going.answered ++ behind)) left going.asked in
      let here = at_place may_give party 1 script.session.caller script.session.commands going.answered request (reverse new.left.items) asked
      (recursion_from_All IsAskedWell script.session.commands going.formed) in
      let many = as_many disk_says since start places 0 going.first old.replica counts going.answered texts lost going.are in
      let number : request.number ≡ length texts + 1 = let is = here.0 in omega (arith, is, many) in
      let Ran : SerialDepot D → Type 0 = λ other. HasRun disk_says other since start places in
      let one : IsAnswered Ran disk_says old.replica new.replica request (reply_text result request.number) (is_lost result) =
      answer_wider (λ other. other ≡ depot) Ran disk_says (λ other same. subst Ran (sym same) ran) old.replica new.replica request (reply_text result request.number) (is_lost result)
      (turn.answered (formed_of request here.1)) in
      record {
        formed = going.formed;
        answered = going.answered ++ request ∷ [];
        asked =
            subst (AreRequests may_give party 1 script.session.caller script.session.commands) (sym (append_assoc going.answered (request ∷ []) (reverse new.left.items))) asked;
        first = going.first;
        is_new = going.is_new;
        are =
            one_more disk_says since start places 0 going.first old.replica new.replica counts going.answered texts lost request (reply_text result (length texts + 1)) (is_lost result) (omega arith) going.are
            (subst (λ (n : ℕ). IsAnswered Ran disk_says old.replica new.replica request (reply_text result n) (is_lost result)) number one);
      }

  -- it has answered so over more places too
  pub going_longer : (more : List Placed) (p : ReplicaParty) (counts : List ℕ) (texts : List (List ℕ)) (lost : ℕ) → IsGoing disk_says since start places may_give party script p counts texts lost
      → IsGoing disk_says since start (places ++ more) may_give party script p counts texts lost
  going_longer more p counts texts lost going = record {
    formed = going.formed;
    answered = going.answered;
    asked = going.asked;
    first = going.first;
    is_new = going.is_new;
    are = answers_longer disk_says since start places more 0 going.first p.replica counts going.answered texts lost going.are;
  }
