-- Names whose doors come one after another.
use Rattle.std.proofs.Common.{◌≡◌, ◌≢◌, ℕ, ◌+◌, ◌<◌, ◌≤◌, List, [], ◌∷◌, ◌++◌, length, Option, Some, refl, sym, ap, subst, ◌∙◌, inl, inr, arith}
use Rattle.std.specs.Prelude.{slice_get}
use Rattle.std.proofs.lemmas.List.{length_push}
use Rattle.std.proofs.lemmas.Option.{slice_get_within, get_or_from_slice_get}
use Rattle.outside_api.specs.Says.{SourceSays, SinkSays}
use Rattle.p4_server.specs.Parties.{AreDifferent, HaveCome, IsPair, OnlyTheseCome}
use Rattle.p4_server.proofs.Together.{at_pushed, pushed_before, pushed_last, at_once, all_at}

-- an earlier name isn't a later one
not_later : (names : List (List ℕ)) (i j : ℕ) (one other : List ℕ) → AreDifferent names → i < j → slice_get names i ≡ Some one → slice_get names j ≡ Some other → other ≢ one
not_later names i j one other different lt one_at other_at same =
    let within = slice_get_within names j other other_at in
    different i j one lt within (get_or_from_slice_get names i one one one_at ∙ (sym same ∙ sym (get_or_from_slice_get names j other one other_at)))

-- the door of a name was asked
pub only_more : (inputs outputs : List ℕ → Option (List ℕ)) (names : List (List ℕ)) (inputs_mid outputs_mid inputs_now outputs_now : List ℕ → Option (List ℕ)) (k : ℕ) (name : List ℕ) → slice_get names k ≡ Some name
    → ((other : List ℕ) → other ≢ name → inputs_now other ≡ inputs_mid other) → ((other : List ℕ) → other ≢ name → outputs_now other ≡ outputs_mid other)
    → OnlyTheseCome inputs outputs inputs_mid outputs_mid names → OnlyTheseCome inputs outputs inputs_now outputs_now names
only_more inputs outputs names inputs_mid outputs_mid inputs_now outputs_now k name at other_inputs other_outputs only = record {
  inputs = λ other apart. other_inputs other (all_at (λ n. other ≢ n) names apart k name at) ∙ only.inputs other apart;
  outputs = λ other apart. other_outputs other (all_at (λ n. other ≢ n) names apart k name at) ∙ only.outputs other apart;
}

module _ {S K : Type 0} (source_says : SourceSays S) (sink_says : SinkSays K) (inputs outputs : List ℕ → Option (List ℕ)) (names : List (List ℕ)) where
  -- The first k names have come: each has its source and its sink, and no name that is yet to come has changed.
  pub record FirstsCome (inputs_now outputs_now : List ℕ → Option (List ℕ)) (k : ℕ) (sources : List S) (sinks : List K) : Type 0 where
    pub sources_count : length sources ≡ k
    pub sinks_count : length sinks ≡ k
    pub each : (i : ℕ) (name : List ℕ) (source : S) (sink : K) → slice_get names i ≡ Some name → slice_get sources i ≡ Some source → slice_get sinks i ≡ Some sink
        → IsPair source_says sink_says (inputs name) (outputs name) source sink
    pub to_come : (i : ℕ) (name : List ℕ) → k ≤ i → slice_get names i ≡ Some name → (inputs_now name ≡ inputs name) × (outputs_now name ≡ outputs name)
    pub only : OnlyTheseCome inputs outputs inputs_now outputs_now names

  pub firsts_none : FirstsCome inputs outputs 0 [] []
  firsts_none = record {
    sources_count = refl;
    sinks_count = refl;
    each = λ i name source sink a b c. absurd cc;
    to_come = λ i name le at. (refl, refl);
    only = record { inputs = λ other apart. refl; outputs = λ other apart. refl };
  }

  -- the door of the next name brought its source and its sink
  module _ (inputs_mid outputs_mid inputs_now outputs_now : List ℕ → Option (List ℕ)) (k : ℕ) (name : List ℕ) (at : slice_get names k ≡ Some name)
      (other_inputs : (other : List ℕ) → other ≢ name → inputs_now other ≡ inputs_mid other) (other_outputs : (other : List ℕ) → other ≢ name → outputs_now other ≡ outputs_mid other) where
    pub firsts_more : (sources : List S) (sinks : List K) (source : S) (sink : K) → AreDifferent names → FirstsCome inputs_mid outputs_mid k sources sinks
        → source_says.left source ≡ inputs_mid name → sink_says.given sink ≡ outputs_mid name → source_says.faults source ≡ 0 → sink_says.faults sink ≡ 0
        → FirstsCome inputs_now outputs_now (k + 1) (sources ++ source ∷ []) (sinks ++ sink ∷ [])
    firsts_more sources sinks source sink different before reads gives new_source new_sink =
        let came = before.to_come k name (omega arith) at in
        let pair : IsPair source_says sink_says (inputs name) (outputs name) source sink = record { reads = reads ∙ came.0; gives = gives ∙ came.1; new_source = new_source; new_sink = new_sink } in
        record {
          sources_count = length_push sources source ∙ ap (λ (n : ℕ). n + 1) before.sources_count;
          sinks_count = length_push sinks sink ∙ ap (λ (n : ℕ). n + 1) before.sinks_count;
          each = λ i other_name other_source other_sink a b c. elim (at_pushed sources source other_source i b) [
            | inl h ↦
                let lt = slice_get_within sources i other_source h in
                before.each i other_name other_source other_sink a h (pushed_before sinks sink other_sink i (omega (arith, lt, before.sources_count, before.sinks_count)) c)
            | inr h ↦
                let here : i ≡ k = h.0 ∙ before.sources_count in
                let P : ℕ → Type 0 = λ n. slice_get names n ≡ Some other_name in
                let name_is : other_name ≡ name = at_once names k name other_name at (subst P here a) in
                let sink_is : other_sink ≡ sink = pushed_last sinks sink other_sink i (here ∙ sym before.sinks_count) c in
                rw (name_is, h.1, sink_is) pair
          ];
          to_come = λ i other le other_at.
              let apart = not_later names k i name other different (omega (arith, le)) at other_at in
              let was = before.to_come i other (omega (arith, le)) other_at in
              (other_inputs other apart ∙ was.0, other_outputs other apart ∙ was.1);
          only = only_more inputs outputs names inputs_mid outputs_mid inputs_now outputs_now k name at other_inputs other_outputs before.only;
        }

  -- all have come
  pub have_come : (inputs_now outputs_now : List ℕ → Option (List ℕ)) (k : ℕ) (sources : List S) (sinks : List K) → k ≡ length names → FirstsCome inputs_now outputs_now k sources sinks
      → HaveCome source_says sink_says inputs outputs names sources sinks
  have_come inputs_now outputs_now k sources sinks all firsts = record { sources_count = firsts.sources_count ∙ all; sinks_count = firsts.sinks_count ∙ all; each = firsts.each }
