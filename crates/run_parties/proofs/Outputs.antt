-- What a sink has once one more reply is given, or over another order.
use Rattle.std.proofs.Common.{◌≡◌, ℕ, zero, suc, ◌+◌, Bool, true, false, List, [], ◌∷◌, ◌++◌, Option, refl, sym, ap, subst, ◌∙◌, add-one}
use Rattle.std.proofs.lemmas.Grind.{flat_map-append}
use Rattle.std.proofs.lemmas.List.{append-nil}
use Rattle.depot_model.specs.Deeds.{Deed}
use Rattle.depot_model.specs.declared.order.Place.{Place}
use Rattle.depot_model.specs.declared.request.Session.{Session}
use Rattle.depot_runs.specs.Run.{output_of, outputs}
use Rattle.outside_api.specs.Told.{extended}
use Rattle.replica_turns.specs.Going.{HasGotTexts, all_of}
use Rattle.run_parties.specs.Giving.{Got}
use Rattle.session_loop.specs.Served.{IsOutput}
use Rattle.wire_text.proofs.Pieces.{extended-extended}
use Rattle.wire_text.specs.Giving.{IsProperFront}

-- ---- a replica's

pub got_more : (failed : Bool) (texts : List (List ℕ)) (text : List ℕ) (before mid now : Option (List ℕ)) → HasGotTexts false texts before mid → Got failed text mid now → HasGotTexts failed (texts ++ text ∷ []) before now
got_more false texts text before mid now was got =
    let all : all_of texts ++ text ≡ all_of (texts ++ text ∷ []) =
    ap (λ (more : List ℕ). all_of texts ++ more) (sym (append-nil text)) ∙ sym (flat_map-append (λ (t : List ℕ). t) texts (text ∷ [])) in
    got ∙ (ap (λ (o : Option (List ℕ)). extended o text) was ∙ (extended-extended before (all_of texts) text ∙ ap (extended before) all))
got_more true texts text before mid now was (front, proper, got) =
    (texts, text, refl, front, proper, got ∙ (ap (λ (o : Option (List ℕ)). extended o front) was ∙ extended-extended before (all_of texts) front))

-- ---- a session's

module _ (sessions : List (Option Session)) (start : List Deed) (order order' : List Place) (party : ℕ) where
  outputs_same : ((k : ℕ) → output_of sessions start order' party k ≡ output_of sessions start order party k) → (m : ℕ) → outputs sessions start order' party m ≡ outputs sessions start order party m
  outputs_same same zero = refl
  outputs_same same (suc m) = λ k. outputs_same same m k ++ same (suc m) k

  -- over an order with the same replies
  pub output_stays : ((k : ℕ) → output_of sessions start order' party k ≡ output_of sessions start order party k) → (m : ℕ) (failed : Bool) (before now : Option (List ℕ)) → IsOutput sessions start order party m failed before now
      → IsOutput sessions start order' party m failed before now
  output_stays same m false before now is = is ∙ ap (extended before) (sym (outputs_same same m))
  output_stays same m true before now (k, last, front, proper, got) = (
    k,
    last,
    front,
    subst (IsProperFront front) (sym (same m)) proper,
    got ∙ ap (λ (o : List ℕ). extended before (o ++ front)) (sym (outputs_same same k)),
  )

  -- one more
  pub output_more : (n : ℕ) (text : List ℕ) → outputs sessions start order' party n ≡ outputs sessions start order party n → output_of sessions start order' party (n + 1) ≡ text → (failed : Bool) (before mid now : Option (List ℕ))
      → IsOutput sessions start order party n false before mid → Got failed text mid now → IsOutput sessions start order' party (n + 1) failed before now
  output_more n text same told false before mid now was got =
      got ∙ (ap (λ (o : Option (List ℕ)). extended o text) was ∙ (extended-extended before (outputs sessions start order party n) text
      ∙ (ap (extended before) (λ k. sym same k ++ sym told k)
      ∙ (ap (λ (m : ℕ). extended before (outputs sessions start order' party n ++ output_of sessions start order' party m)) (add-one n)
      ∙ ap (λ (m : ℕ). extended before (outputs sessions start order' party m)) (sym (add-one n))))))
  output_more n text same told true before mid now was (front, proper, got) = (
    n,
    add-one n,
    front,
    subst (IsProperFront front) (sym told) proper,
    got ∙ (ap (λ (o : Option (List ℕ)). extended o front) was ∙ (extended-extended before (outputs sessions start order party n) front
        ∙ ap (λ (o : List ℕ). extended before (o ++ front)) (sym same))),
  )
