-- What the sessions of a run ask.
use Rattle.std.proofs.Common.{◌≡◌, ◌≤◌, ℕ, List, length, map, Option, Vec, Global, sym, ap, subst, ◌∙◌, arith}
use Rattle.std.specs.Prelude.{All, option_map}
use Rattle.std.specs.List.{AllByRecursion}
use Rattle.std.proofs.lemmas.List.{length-map}
use Rattle.std.proofs.lemmas.List.Elements.{recursion_from_All}
use Rattle.std.proofs.lemmas.Option.{slice_get-map}
use Rattle.depot_model.specs.Deeds.{Deed}
use Rattle.depot_model.specs.declared.request.Request.{Request}
use Rattle.depot_model.specs.declared.request.Session.{Session}
use Rattle.run_parties.proofs.Making.{asked_count, many_of}
use Rattle.run_parties.proofs.Naming.{named, number_is, party_is, proper}
use Rattle.run_parties.proofs.Slots.{all_at, also_at}
use Rattle.session_loop.specs.Asking.{AreWellFormed, commands_of}
use Rattle.session_loop.specs.Requests.{AreRequestsOfAll}
use Rattle.session_loop.specs.Taking.{IsProper}
use Rattle.party_threads.proofs.Collecting.{each_at, from_map}
use Rattle.party_threads.proofs.Finishing.{own_at}
use Rattle.party_threads.specs.Parties.{AreAsked}

abbrev pub items_of : Vec Request Global → List Request
items_of own = own.items

module _ (may_give : ℕ → Type 0) (sessions : List (Option Session)) (requests : List (Vec Request Global)) (asked : AreRequestsOfAll may_give 1 sessions (map items_of requests)) where
  pub as_many : length requests ≡ length sessions
  as_many = sym (length-map requests items_of) ∙ asked_count may_give 1 sessions (map items_of requests) asked

  -- they are proper where the commands are well-formed
  pub all_proper : All (λ (session : Option Session). AreWellFormed (commands_of session)) sessions → AllByRecursion (λ (own : Vec Request Global). AllByRecursion IsProper own.items) requests
  all_proper formed = each_at (λ (own : Vec Request Global). AllByRecursion IsProper own.items) requests (λ i own at. each_at IsProper own.items (λ n request at_n.
      let of = named may_give sessions (map items_of requests) asked i n own.items request (slice_get-map items_of requests i ∙ ap (option_map items_of) at) at_n in
      proper may_give sessions i n request of formed))

  pub are_asked : (begins : ℕ → List Deed → Type 0) → All (λ (session : Option Session). length (commands_of session) ≤ 67108864) sessions
      → ((since : ℕ) (start : List Deed) → begins since start → AllByRecursion (λ (own : Vec Request Global). AllByRecursion IsProper own.items) requests) → AreAsked begins (map items_of requests)
  are_asked begins few well i own at_own =
      let count = asked_count may_give 1 sessions (map items_of requests) asked in
      let session = also_at (map items_of requests) sessions i own count at_own in
      let are = own_at may_give 1 sessions (map items_of requests) asked i session.0 own session.1 at_own in
      let many = many_of may_give are.0 session.0 own are.1 in
      let low = all_at (λ (s : Option Session). length (commands_of s) ≤ 67108864) sessions i session.0 (recursion_from_All (λ (s : Option Session). length (commands_of s) ≤ 67108864) sessions few) session.1 in
      record {
        few = omega (arith, many, low);
        numbered = λ n request at_n.
            let of = named may_give sessions (map items_of requests) asked i n own request at_own at_n in
            (party_is may_give sessions i n request of, number_is may_give sessions i n request of);
        proper = λ since start begun.
            let v = from_map items_of requests i own at_own in
            subst (AllByRecursion IsProper) v.2 (all_at (λ (o : Vec Request Global). AllByRecursion IsProper o.items) requests i v.0 (well since start begun) v.1);
      }
