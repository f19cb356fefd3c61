-- The ends of the parties, one after another.
use Rattle.std.proofs.Common.{◌≡◌, ℕ, zero, suc, ◌+◌, Bool, true, false, List, [], ◌∷◌, ◌++◌, length, map, Some, refl, sym, ap, ◌∙◌, append_assoc, arith}
use Rattle.std.specs.Prelude.{slice_get}
use Rattle.std.proofs.lemmas.List.{length_push}
use Rattle.session_loop.specs.declared.session.SessionRun.{SessionRun}
use Rattle.wire_text.specs.declared.script.ScriptEnd.{ScriptEnd}
use Rattle.wire_text.specs.declared.script.ScriptEnd.TheVariants as scripts
use Rattle.p4_server.specs.declared.ended.PartyEnd.{PartyEnd}
use Rattle.p4_server.specs.Ends.{party_end, ended_party, ended_parties, has_lost_sink, run_of}

-- one more of a list that is made place by place
pub next_of : {A P : Type 0} (F : ℕ → List A → List P) (done more : List P) (p : P) (x : A) (rest items : List A) (all : List P) (n : ℕ) → n ≡ length done → more ≡ done ++ p ∷ [] → items ≡ x ∷ rest → F n (x ∷ rest) ≡ p ∷ F (n + 1) rest
    → done ++ F (length done) items ≡ all → more ++ F (length more) rest ≡ all
next_of {A = A} {P = P} F done more p x rest items all n count is steps e so_far =
    let longer : length more ≡ n + 1 = ap length is ∙ (length_push done p ∙ ap (λ (k : ℕ). k + 1) (sym count)) in
    ap (λ (k : ℕ). more ++ F k rest) longer
    ∙ (ap (λ (ps : List P). ps ++ F (n + 1) rest) is
    ∙ (append_assoc done (p ∷ []) (F (n + 1) rest)
    ∙ (ap (λ (ps : List P). done ++ ps) (sym e)
    ∙ (ap (λ (xs : List A). done ++ F n xs) (sym steps) ∙ (ap (λ (k : ℕ). done ++ F k items) count ∙ so_far)))))

pub ended_none : {K : Type 0} (number : ℕ) (runs : List SessionRun) (ends : List ScriptEnd) → ended_parties {K = K} number runs ends [] ≡ []
ended_none number [] ends = refl
ended_none number (run ∷ runs) [] = refl
ended_none number (run ∷ runs) (end ∷ ends) = refl

-- each party with its run, its end and its sink
pub record IsEndedAt {K : Type 0} (number : ℕ) (runs : List SessionRun) (ends : List ScriptEnd) (sinks : List K) (i : ℕ) (party : PartyEnd K) : Type 0 where
  pub place : ℕ
  pub run : SessionRun
  pub end : ScriptEnd
  pub sink : K
  pub place_is : place ≡ number + i
  pub run_at : slice_get runs i ≡ Some run
  pub end_at : slice_get ends i ≡ Some end
  pub sink_at : slice_get sinks i ≡ Some sink
  pub is : party ≡ ended_party place run end sink

pub ended_at : {K : Type 0} (number : ℕ) (runs : List SessionRun) (ends : List ScriptEnd) (sinks : List K) (i : ℕ) (party : PartyEnd K) → slice_get (ended_parties number runs ends sinks) i ≡ Some party → IsEndedAt number runs ends sinks i party
ended_at number [] ends sinks i party e = absurd cc
ended_at number (run ∷ runs) [] sinks i party e = absurd cc
ended_at number (run ∷ runs) (end ∷ ends) [] i party e = absurd cc
ended_at number (run ∷ runs) (end ∷ ends) (sink ∷ sinks) zero party e = record {
  place = number;
  run = run;
  end = end;
  sink = sink;
  place_is = omega arith;
  run_at = refl;
  end_at = refl;
  sink_at = refl;
  is = let same : ended_party number run end sink ≡ party = cc in sym same;
}
ended_at number (run ∷ runs) (end ∷ ends) (sink ∷ sinks) (suc i) party e =
    let rest = ended_at (number + 1) runs ends sinks i party e in record {
      place = rest.place;
      run = rest.run;
      end = rest.end;
      sink = rest.sink;
      place_is = omega (arith, rest.place_is);
      run_at = rest.run_at;
      end_at = rest.end_at;
      sink_at = rest.sink_at;
      is = rest.is;
    }

pub ended_length : {K : Type 0} (number : ℕ) (runs : List SessionRun) (ends : List ScriptEnd) (sinks : List K) → length runs ≡ length sinks → length ends ≡ length sinks → length (ended_parties number runs ends sinks) ≡ length sinks
ended_length number [] ends [] a b = refl
ended_length number [] ends (sink ∷ sinks) a b = absurd (omega (arith, a))
ended_length number (run ∷ runs) ends [] a b = absurd (omega (arith, a))
ended_length number (run ∷ runs) [] (sink ∷ sinks) a b = absurd (omega (arith, b))
ended_length number (run ∷ runs) (end ∷ ends) (sink ∷ sinks) a b = ap suc (ended_length (number + 1) runs ends sinks (omega (arith, a)) (omega (arith, b)))

-- a party's sink has failed where its run says so
lost : (failed : Bool) (end : ScriptEnd) → has_lost_sink (party_end failed end) ≡ failed
lost true end = refl
lost false scripts.Whole = refl
lost false (scripts.Fault fault) = refl
lost false scripts.ReadFault = refl

pub run_is : {K : Type 0} (number : ℕ) (run : SessionRun) (end : ScriptEnd) (sink : K) → run_of (ended_party number run end sink) ≡ run
run_is number run end sink = ap (λ (failed : Bool). let r : SessionRun = record { commands = run.commands; failed = failed } in r) (lost run.failed end)

-- the parties tell how far their sessions came
pub runs_are : {K : Type 0} (number : ℕ) (runs : List SessionRun) (ends : List ScriptEnd) (sinks : List K) → length runs ≡ length sinks → length ends ≡ length sinks → map run_of (ended_parties number runs ends sinks) ≡ runs
runs_are number [] ends sinks a b = refl
runs_are number (run ∷ runs) ends [] a b = absurd (omega (arith, a))
runs_are number (run ∷ runs) [] (sink ∷ sinks) a b = absurd (omega (arith, b))
runs_are number (run ∷ runs) (end ∷ ends) (sink ∷ sinks) a b =
    ap (λ (r : SessionRun). r ∷ map run_of (ended_parties (number + 1) runs ends sinks)) (run_is number run end sink)
    ∙ ap (λ (rs : List SessionRun). run ∷ rs) (runs_are (number + 1) runs ends sinks (omega (arith, a)) (omega (arith, b)))
