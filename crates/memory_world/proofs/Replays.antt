-- One call more.
use Rattle.std.proofs.Common.{◌≡◌, ◌⊎◌, inl, inr, ⊎_elim, ℕ, ◌+◌, ◌≤◌, List, [], ◌∷◌, ◌++◌, length, take, refl, sym, ◌∙◌, ap, subst, arith, length-append}
use Rattle.std.proofs.lemmas.Bool.{cases_lt}
use Rattle.std.proofs.lemmas.List.{take_all, take-append-le}
use Rattle.outside_api.specs.Disk.{Files, Elapses}
use Rattle.memory_world.specs.Replay.{State, called, replay, at_rest, IsImage, IsImageSince}
use Rattle.memory_world.specs.declared.call.Call.{Call}
use Rattle.memory_world.specs.declared.call.Call.TheVariants.{Look}

replay-push : (calls : List Call) (call : Call) (s : State) → replay (calls ++ call ∷ []) s ≡ called call (replay calls s)
replay-push [] call s = refl
replay-push (first ∷ calls) call s = replay-push calls call (called first s)

pub replayed : (calls now : List Call) (call : Call) (s : State) → now ≡ calls ++ call ∷ [] → replay now s ≡ called call (replay calls s)
replayed calls now call s is = ap (λ l. replay l s) is ∙ replay-push calls call s

pub no_change : (calls now : List Call) (s : State) → (now ≡ calls) ⊎ (now ≡ calls ++ Look ∷ []) → replay now s ≡ replay calls s
no_change calls now s (inl is) = ap (λ l. replay l s) is
no_change calls now s (inr is) = replayed calls now Look s is

module _ (start : Files) (calls now : List Call) where
  pub same_elapses : now ≡ calls → Elapses (length calls) (length now) (IsImageSince start calls) (IsImageSince start now) (IsImage (replay now (at_rest start)))
  same_elapses is = record {
    later = omega (arith, ap length is);
    nothing_else = λ t c le left. inl (subst (λ l. IsImageSince start l t c) is left);
    keeps = λ t c le left. subst (λ l. IsImageSince start l t c) (sym is) left;
  }

  module _ (call : Call) (is : now ≡ calls ++ call ∷ []) where
    longer : length now ≡ length calls + 1
    longer = omega (arith, ap length is, length-append calls (call ∷ []))

    pub same_up_to : (k : ℕ) → k ≤ length calls → take k now ≡ take k calls
    same_up_to k le = ap (λ (l : List Call). take k l) is ∙ take-append-le k calls (call ∷ []) le

    new_or_past : (t : ℕ) (c : Files) → IsImageSince start now t c → (k : ℕ) → IsImage (replay (take k now) (at_rest start)) c → t ≤ k → (k ≤ length calls) ⊎ (length now ≤ k) → IsImageSince start calls t c ⊎ IsImage (replay now (at_rest start)) c
    new_or_past t c left k image le (inl past) = inl (record { moment = k; since = le; until = past; image = subst (λ l. IsImage (replay l (at_rest start)) c) (same_up_to k past) image })
    new_or_past t c left k image le (inr at_end) = inr (subst (λ l. IsImage (replay l (at_rest start)) c) (take_all k now at_end) image)

    pub one_or_other : (k : ℕ) → (k ≤ length calls) ⊎ (length now ≤ k)
    one_or_other k = ⊎_elim (λ lt. inr (omega (arith, lt, longer))) (λ le. inl le) (cases_lt (length calls) k)

    pub elapses : Elapses (length calls) (length now) (IsImageSince start calls) (IsImageSince start now) (IsImage (replay now (at_rest start)))
    elapses = record {
      later = omega (arith, longer);
      nothing_else = λ t c le left. new_or_past t c left left.moment left.image left.since (one_or_other left.moment);
      keeps = λ t c le left. record { moment = left.moment; since = left.since; until = omega (arith, left.until, longer); image = subst (λ l. IsImage (replay l (at_rest start)) c) (sym (same_up_to left.moment left.until)) left.image };
    }

  pub either_elapses : (call : Call) → (now ≡ calls) ⊎ (now ≡ calls ++ call ∷ []) → Elapses (length calls) (length now) (IsImageSince start calls) (IsImageSince start now) (IsImage (replay now (at_rest start)))
  either_elapses call (inl is) = same_elapses is
  either_elapses call (inr is) = elapses call is
