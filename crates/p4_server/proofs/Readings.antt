-- Scripts that are read one after another.
use Rattle.std.proofs.Common.{◌≡◌, ℕ, ◌+◌, List, [], ◌∷◌, ◌++◌, Option, Some, refl, sym, ap, ◌∙◌, inl, inr, arith}
use Rattle.std.proofs.lemmas.List.{length_push}
use Rattle.std.proofs.lemmas.Option.{slice_get_within}
use Rattle.outside_api.specs.Says.{SourceSays}
use Rattle.depot_rows.specs.depot_model.declared.request.Session.{Session}
use Rattle.party_threads.specs.run_parties.Served.{AreApart}
use Rattle.session_loop.specs.declared.reading.ReplicaScript.{ReplicaScript}
use Rattle.wire_text.specs.declared.script.ScriptEnd.{ScriptEnd}
use Rattle.p4_server.specs.Parties.{AreRead, IsRead}
use Rattle.p4_server.proofs.Together.{at_pushed, pushed_before, pushed_last, there}

module _ {S : Type 0} (source_says : SourceSays S) where
  pub read_none : AreRead source_says [] [] [] [] []
  read_none = record { sources_count = refl; sessions_count = refl; replicas_count = refl; ends_count = refl; each = λ i was is session replica end a b c d e. absurd cc }

  pub read_more : (before now : List S) (sessions : List (Option Session)) (replicas : List (Option ReplicaScript)) (ends : List ScriptEnd) (was is : S) (session : Option Session) (replica : Option ReplicaScript) (end : ScriptEnd)
      → AreRead source_says before now sessions replicas ends → IsRead source_says was is session replica end
      → AreRead source_says (before ++ was ∷ []) (now ++ is ∷ []) (sessions ++ session ∷ []) (replicas ++ replica ∷ []) (ends ++ end ∷ [])
  read_more before now sessions replicas ends was is session replica end so_far read =
      let longer = length_push before was in
      record {
        sources_count = length_push now is ∙ (ap (λ (n : ℕ). n + 1) so_far.sources_count ∙ sym longer);
        sessions_count = length_push sessions session ∙ (ap (λ (n : ℕ). n + 1) so_far.sessions_count ∙ sym longer);
        replicas_count = length_push replicas replica ∙ (ap (λ (n : ℕ). n + 1) so_far.replicas_count ∙ sym longer);
        ends_count = length_push ends end ∙ (ap (λ (n : ℕ). n + 1) so_far.ends_count ∙ sym longer);
        each = λ i a_was a_is a_session a_replica a_end a b c d e. elim (at_pushed before was a_was i a) [
          | inl h ↦
              let lt = slice_get_within before i a_was h in
              so_far.each i a_was a_is a_session a_replica a_end h (pushed_before now is a_is i (omega (arith, lt, so_far.sources_count)) b)
              (pushed_before sessions session a_session i (omega (arith, lt, so_far.sessions_count)) c) (pushed_before replicas replica a_replica i (omega (arith, lt, so_far.replicas_count)) d)
              (pushed_before ends end a_end i (omega (arith, lt, so_far.ends_count)) e)
          | inr h ↦
              let is_is : a_is ≡ is = pushed_last now is a_is i (h.0 ∙ sym so_far.sources_count) b in
              let session_is : a_session ≡ session = pushed_last sessions session a_session i (h.0 ∙ sym so_far.sessions_count) c in
              let replica_is : a_replica ≡ replica = pushed_last replicas replica a_replica i (h.0 ∙ sym so_far.replicas_count) d in
              let end_is : a_end ≡ end = pushed_last ends end a_end i (h.0 ∙ sym so_far.ends_count) e in
              rw (h.1, is_is, session_is, replica_is, end_is) read
        ];
      }

  -- none of them is both a session's and a replica's
  pub are_apart : (before now : List S) (sessions : List (Option Session)) (replicas : List (Option ReplicaScript)) (ends : List ScriptEnd) → AreRead source_says before now sessions replicas ends → AreApart sessions replicas
  are_apart before now sessions replicas ends read i script at =
      let lt = slice_get_within replicas i (Some script) at in
      let was = there before i (omega (arith, lt, read.replicas_count)) in
      let is = there now i (omega (arith, lt, read.replicas_count, read.sources_count)) in
      let session = there sessions i (omega (arith, lt, read.replicas_count, read.sessions_count)) in
      let end = there ends i (omega (arith, lt, read.replicas_count, read.ends_count)) in
      session.1 ∙ ap Some (read.each i was.0 is.0 session.0 (Some script) end.0 was.1 is.1 session.1 at end.1).apart
