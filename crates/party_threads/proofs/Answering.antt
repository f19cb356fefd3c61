-- A replica's answers, one after another, each over a depot that had run the places of all that its party knew then, and that it follows.
use Rattle.std.proofs.Common.{◌≡◌, ◌≤◌, ◌+◌, ℕ, Bool, true, false, List, [], ◌∷◌, ◌++◌, length, map, Option, None, Result, Ok, Err, refl, sym, ap, subst, ◌∙◌, arith}
use Rattle.std.proofs.lemmas.List.{length-append, map-append}
use mathlib.Core.List.{IsPrefix}
use Rattle.archive_file.specs.declared.archive.Archive.{Archive}
use Rattle.depot_model.specs.Deeds.{Deed}
use Rattle.depot_model.specs.Places.{Placed}
use Rattle.locked_tables.specs.Known.{PartyKnown}
use Rattle.locked_tables.specs.Taken.{of_party, placed_of}
use Rattle.locked_tables.specs.declared.taken.Taken.{Taken}
use Rattle.outside_api.specs.Count.{HasRisen}
use Rattle.outside_api.specs.Disk.{Files}
use Rattle.outside_api.specs.Says.{DiskSays, SinkSays}
use Rattle.party_marks.specs.Known.{PassKnown}
use Rattle.party_marks.specs.Marks.{marks_of}
use Rattle.party_marks.specs.declared.mark.Mark.{Mark}
use Rattle.run_parties.proofs.Outputs.{got_more}
use Rattle.run_parties.proofs.Replicas.{plain, turned_plain}
use Rattle.run_parties.proofs.replica_turns.Along.{along_first, along_later, along_longer, along_turned, told_of}
use Rattle.run_parties.proofs.replica_turns.Masters.{texts_grow}
use Rattle.run_parties.proofs.replica_turns.Turns.{begins as fresh_goes, goes_on, going_longer}
use Rattle.run_parties.specs.Giving.{Got, HasGiven}
use Rattle.run_parties.specs.Served.{IsEnd}
use Rattle.run_parties.specs.depot_commit.Growing.{Chronicle, grown}
use Rattle.run_parties.specs.depot_commit.Opening.{opens_generation}
use Rattle.run_parties.specs.replica_turns.Along.{IsAlong, IsToldOutput}
use Rattle.run_parties.specs.replica_turns.Going.{HasGotTexts, IsFresh, IsGoing, IsReplicaOutput, is_lost, one_if, reply_text}
use Rattle.run_parties.specs.replica_turns.Master.{Past}
use Rattle.run_parties.specs.replica_turns.declared.party.Answered.{Answered}
use Rattle.run_parties.specs.replica_turns.declared.party.ReplicaParty.{ReplicaParty}
use Rattle.session_loop.specs.Asking.{AreWellFormed}
use Rattle.session_loop.specs.declared.reading.ReplicaScript.{ReplicaScript}
use Rattle.shared_depot.proofs.Fronts.{stored_front}
use Rattle.shared_depot.proofs.Quietly.{chronicle_append}
use Rattle.shared_depot.specs.Common.{HasAllStored, Masters, chronicle_after}
use Rattle.shared_depot.specs.Replicas.{IsReplicaTurn, mark_count}
use Rattle.wire_text.proofs.Pieces.{extended-nil}
use Rattle.party_threads.specs.Replicas.{IsReplicaServed, IsStep}

-- ---- answers

lost_plain : {E : Type 0} (result : Result Answered E) → is_lost result ≡ is_lost (plain result)
lost_plain (Ok answered) = refl
lost_plain (Err error) = refl

-- the same turn, whatever its error
pub turn_plain : {D E : Type 0} (disk_says : DiskSays D) (end : ℕ) (images : Files → Type 0) (begins : ℕ → List Deed → Type 0) (masters : Masters) (old new : PartyKnown) (old_marks new_marks : PassKnown) (p q : ReplicaParty) (result : Result Answered E)
    → IsReplicaTurn disk_says end images begins masters old new old_marks new_marks p q result → IsReplicaTurn disk_says end images begins masters old new old_marks new_marks p q (plain result)
turn_plain disk_says end images begins masters old new old_marks new_marks p q result t = record {
  turned = λ archive all. let over = t.turned archive all in (over.0, (over.1.0, over.1.1, turned_plain disk_says over.0 p q result over.1.2, over.1.3));
  heard = record {
    party = t.heard.party;
    later = t.heard.later;
    own = t.heard.own;
    marks_party = t.heard.marks_party;
    marked = t.heard.marked ∙ ap (λ (b : Bool). mark_count old_marks + one_if b) (lost_plain result);
  };
}

-- ---- over more places

-- the places of a longer order
longer : (known order : List Taken) (first : IsPrefix known order) → map placed_of known ++ map placed_of first.0 ≡ map placed_of order
longer known order first = sym (map-append placed_of known first.0) ∙ ap (map placed_of) first.1

module _ {D : Type 0} (disk_says : DiskSays D) (since : ℕ) (start : List Deed) (may_give : ℕ → Type 0) (party : ℕ) (script : ReplicaScript) (known order : List Taken) (first : IsPrefix known order) where
  going_wider : (p : ReplicaParty) (counts : List ℕ) (texts : List (List ℕ)) (lost : ℕ) → IsGoing disk_says since start (map placed_of known) may_give party script p counts texts lost
      → IsGoing disk_says since start (map placed_of order) may_give party script p counts texts lost
  going_wider p counts texts lost going =
      subst (λ (places : List Placed). IsGoing disk_says since start places may_give party script p counts texts lost) (longer known order first)
      (going_longer disk_says since start (map placed_of known) may_give party script (map placed_of first.0) p counts texts lost going)

  pub output_wider : (commands : ℕ) (failed : Bool) (lost : ℕ) (before now : Option (List ℕ)) → IsReplicaOutput disk_says since start (map placed_of known) may_give party script None commands failed lost before now
      → IsReplicaOutput disk_says since start (map placed_of order) may_give party script None commands failed lost before now
  output_wider commands failed lost before now o =
      record { replica = o.replica; texts = o.texts; count = o.count; counts = o.counts; counted = o.counted; going = going_wider o.replica o.counts o.texts lost o.going; got = o.got }

-- ---- along a depot that is followed

module _ (may_give : ℕ → Type 0) (party : ℕ) (script : ReplicaScript) (past : Past) (start : List Deed) where
  -- the journal grew by more places
  along_places : (places : List Placed) (q : ReplicaParty) (c : Chronicle) (rest : List Taken) (counts : List ℕ) (texts : List (List ℕ)) → IsAlong past start places may_give party script q c counts texts
      → IsAlong past start places may_give party script q (chronicle_after c rest) counts texts
  along_places places q c [] counts texts along = along
  along_places places q c (entry ∷ rest) counts texts along =
      let next = grown (opens_generation entry.request) entry.fault entry.changes c in
      along_places places q next rest counts texts
      (along_later past start places may_give party script q c next (texts_grow (opens_generation entry.request) entry.fault entry.changes c) counts texts along)

  module _ (known order : List Taken) (first : IsPrefix known order) where
    -- it goes on over a longer order
    along_longer_order : (q : ReplicaParty) (c : Chronicle) (counts : List ℕ) (texts : List (List ℕ)) → IsAlong past start (map placed_of known) may_give party script q c counts texts
        → IsAlong past start (map placed_of order) may_give party script q c counts texts
    along_longer_order q c counts texts along =
        subst (λ (places : List Placed). IsAlong past start places may_give party script q c counts texts) (longer known order first) (along_longer past start (map placed_of known) may_give party script q c (map placed_of first.0) counts texts along)

    along_on : (q : ReplicaParty) (c : Chronicle) (counts : List ℕ) (texts : List (List ℕ)) → IsAlong past start (map placed_of known) may_give party script q (chronicle_after c known) counts texts
        → IsAlong past start (map placed_of order) may_give party script q (chronicle_after c order) counts texts
    along_on q c counts texts along =
        let before = chronicle_after c known in
        subst (λ (now : Chronicle). IsAlong past start (map placed_of order) may_give party script q now counts texts) (sym (chronicle_append c known first.0) ∙ ap (chronicle_after c) first.1)
        (along_places (map placed_of order) q before first.0 counts texts (along_longer_order q before counts texts along))

    -- what was told is told over it too
    pub told_wider : (commands : ℕ) (failed : Bool) (before now : Option (List ℕ)) → IsToldOutput past start (map placed_of known) may_give party script None commands failed before now
        → IsToldOutput past start (map placed_of order) may_give party script None commands failed before now
    told_wider commands failed before now o =
        record { replica = o.replica; journal = o.journal; texts = o.texts; count = o.count; counts = o.counts; counted = o.counted; along = along_longer_order o.replica o.journal o.counts o.texts o.along; got = o.got }

module _ {D K : Type 0} (disk_says : DiskSays D) (end : ℕ) (images : Files → Type 0) (begins : ℕ → List Deed → Type 0) (masters : Masters) (sink_says : SinkSays K) (may_give : ℕ → Type 0) (party : ℕ) (p : ReplicaParty)
    (first : K) where
  abbrev Stored : List Taken → Archive D → Type 0
  Stored order archive = HasAllStored disk_says end images begins order archive

  -- the replies to the first commands, so many, along the depot that the replica follows, which the sink got
  abbrev Told : Past → List Deed → Chronicle → ReplicaScript → ℕ → Bool → List Taken → ReplicaParty → K → Type 0
  Told past start c script n failed known q sink =
      (counts : List ℕ) × (texts : List (List ℕ)) × (length texts ≡ n) × IsAlong past start (map placed_of known) may_give party script q (chronicle_after c known) counts texts × HasGotTexts failed texts (sink_says.given first) (sink_says.given sink)

  -- The replica answered its first commands, so many, and the sink got the replies.
  pub record HasAnswered (n : ℕ) (failed : Bool) (known : PartyKnown) (marks : PassKnown) (q : ReplicaParty) (sink : K) : Type 0 where
    pub party_is : known.party ≡ party
    pub none : of_party party known.list ≡ []
    pub gave : (archive : Archive D) → Stored known.list archive → (since : ℕ) (start : List Deed) (script : ReplicaScript) → begins since start → IsFresh may_give party script p → AreWellFormed script.session.commands
        → (counts : List ℕ) × HasGiven disk_says since start (map placed_of known.list) may_give party script q (record { commands = n; failed = failed }) counts (mark_count marks) (sink_says.given first) (sink_says.given sink)
    pub told : (archive : Archive D) → Stored known.list archive → (since : ℕ) (past : Past) (start : List Deed) (c : Chronicle) (script : ReplicaScript) → begins since start → masters past start c → IsFresh may_give party script p
        → AreWellFormed script.session.commands → Told past start c script n failed known.list q sink
    pub counts : sink_says.faults first ≤ sink_says.faults sink

  pub answered_none : (known : PartyKnown) (marks : PassKnown) → known.party ≡ party → known.list ≡ [] → marks.list ≡ [] → HasAnswered 0 false known marks p first
  answered_none known marks party_is none unmarked = record {
    party_is = party_is;
    none = ap (of_party party) none;
    gave = λ archive all since start script begun fresh well.
        let Given : ℕ → Type 0 = λ lost. HasGiven disk_says since start (map placed_of known.list) may_give party script p (record { commands = 0; failed = false }) [] lost (sink_says.given first) (sink_says.given first) in (
          [],
          subst Given (sym (ap (λ (l : List Mark). length (marks_of marks.party l)) unmarked))
              (record { texts = []; count = refl; going = fresh_goes disk_says since start (map placed_of known.list) may_give party script p fresh well; got = sym (extended-nil (sink_says.given first)) }),
        );
    told = λ archive all since past start c script begun follows fresh well.
        ([], [], refl, along_first past start (map placed_of known.list) may_give party script p (chronicle_after c known.list) fresh well, sym (extended-nil (sink_says.given first)));
    counts = omega arith;
  }

  -- one more
  module _ (reads : (disk : D) (files : Files) → disk_says.seen disk files → disk_says.may_leave disk files) (n : ℕ) (failed : Bool) (old new : PartyKnown) (old_marks new_marks : PassKnown) (q r : ReplicaParty) (sink now : K) (a : HasAnswered n false old old_marks q sink)
      (step : IsStep disk_says end images begins masters sink_says (n + 1) old new old_marks new_marks q r sink now failed) where
    -- the sink got one text more
    more_got : (texts : List (List ℕ)) → length texts ≡ n → HasGotTexts false texts (sink_says.given first) (sink_says.given sink)
        → HasGotTexts failed (texts ++ reply_text step.result (length texts + 1) ∷ []) (sink_says.given first) (sink_says.given now)
    more_got texts count got =
        let text = reply_text step.result (length texts + 1) in
        let Gets : List ℕ → Type 0 = λ x. Got failed x (sink_says.given sink) (sink_says.given now) in
        let gives : Gets text = subst Gets (ap (λ (k : ℕ). reply_text step.result (k + 1)) (sym count)) step.got in
        got_more failed texts text (sink_says.given first) (sink_says.given sink) (sink_says.given now) got gives

    one_longer : (texts : List (List ℕ)) (text : List ℕ) → length texts ≡ n → length (texts ++ text ∷ []) ≡ n + 1
    one_longer texts text count = let long = length-append texts (text ∷ []) in omega (arith, long, count)

    more_given : (archive : Archive D) → Stored new.list archive → (since : ℕ) (start : List Deed) (script : ReplicaScript) → begins since start
        → (counts : List ℕ) × HasGiven disk_says since start (map placed_of old.list) may_give party script q (record { commands = n; failed = false }) counts (mark_count old_marks) (sink_says.given first) (sink_says.given sink)
        → (counts : List ℕ) × HasGiven disk_says since start (map placed_of new.list) may_give party script r (record { commands = n + 1; failed = failed }) counts (mark_count new_marks) (sink_says.given first) (sink_says.given now)
    more_given archive all since start script begun (counts, was) =
        let places = map placed_of new.list in
        let heard = step.turn.heard in
        let over = step.turn.turned archive all in
        let before = mark_count old_marks in
        let going = going_wider disk_says since start may_give party script old.list new.list heard.later q counts was.texts before was.going in
        let result = step.result in
        let text = reply_text result (length was.texts + 1) in
        let Goes : ℕ → Type 0 = IsGoing disk_says since start places may_give party script r (counts ++ length places ∷ []) (was.texts ++ text ∷ []) in (
          counts ++ length places ∷ [],
          record {
            texts = was.texts ++ text ∷ [];
            count = one_longer was.texts text was.count;
            going = subst Goes (sym heard.marked) (goes_on disk_says since start places may_give party script over.0 q r counts was.texts before result (over.1.0 since start begun) going over.1.2);
            got = more_got was.texts was.count was.got;
          },
        )

    more_told : (archive : Archive D) → Stored new.list archive → (since : ℕ) (past : Past) (start : List Deed) (c : Chronicle) (script : ReplicaScript) → begins since start → masters past start c
        → Told past start c script n false old.list q sink → Told past start c script (n + 1) failed new.list r now
    more_told archive all since past start c script begun follows was =
        let over = step.turn.turned archive all in
        let counts = was.0 in
        let texts = was.1 in
        let along = along_on may_give party script past start old.list new.list step.turn.heard.later q c counts texts was.3 in
        let told = told_of disk_says reads over.0.archive (over.1.0 since start begun).tells over.1.3 in
        let text = reply_text step.result (length texts + 1) in (
          counts ++ length (map placed_of new.list) ∷ [],
          texts ++ text ∷ [],
          one_longer texts text was.2,
          along_turned disk_says reads past start (map placed_of new.list) over.0 (chronicle_after c new.list) (over.1.1 since past start c begun follows) told may_give party script q r counts texts step.result along over.1.2,
          more_got texts was.2 was.4,
        )

    pub answered_more : HasAnswered (n + 1) failed new new_marks r now
    answered_more = record {
      party_is = step.turn.heard.party ∙ a.party_is;
      none = subst (λ (k : ℕ). of_party k new.list ≡ of_party k old.list) a.party_is step.turn.heard.own ∙ a.none;
      gave = λ archive all since start script begun fresh well.
          let before = stored_front disk_says end images begins old.list new.list archive step.turn.heard.later all in
          more_given archive all since start script begun (a.gave archive before since start script begun fresh well);
      told = λ archive all since past start c script begun follows fresh well.
          let before = stored_front disk_says end images begins old.list new.list archive step.turn.heard.later all in
          more_told archive all since past start c script begun follows (a.told archive before since past start c script begun follows fresh well);
      counts = (let counts = a.counts in let more = step.counts in omega (arith, counts, more));
    }

    -- its sink failed then
    pub failed_end : n + 1 ≤ length p.left.items → failed ≡ true → IsEnd sink_says (length p.left.items) (record { commands = n + 1; failed = true }) first now
    failed_end within is = record {
      all = λ whole. absurd cc;
      within = within;
      counts = answered_more.counts;
      cause = λ sure. let low = a.counts in let risen = step.cause is in rises (sink_says.faults first) (sink_says.faults sink) (sink_says.faults now) low risen;
    }
      where
        rises : (before mid after : ℕ) → before ≤ mid → HasRisen mid after → HasRisen before after
        rises before mid after le risen = omega (arith, le, risen)

  -- its sink got them so
  pub replica_served : (n : ℕ) (failed : Bool) (known : PartyKnown) (marks : PassKnown) (q : ReplicaParty) (sink : K) → HasAnswered n failed known marks q sink
      → IsEnd sink_says (length p.left.items) (record { commands = n; failed = failed }) first sink
      → IsReplicaServed disk_says end images begins masters sink_says may_give party p (record { commands = n; failed = failed }) (mark_count marks) first sink known.list
  replica_served n failed known marks q sink a ends = record {
    gave = λ archive all since start script begun fresh well.
        let g = a.gave archive all since start script begun fresh well in
        record { replica = q; texts = g.1.texts; count = g.1.count; counts = g.0; counted = tt; going = g.1.going; got = g.1.got };
    told = λ archive all since past start c script begun follows fresh well.
        let t = a.told archive all since past start c script begun follows fresh well in
        record { replica = q; journal = chronicle_after c known.list; texts = t.1; count = t.2; counts = t.0; counted = tt; along = t.3; got = t.4 };
    end = ends;
    none = a.none;
  }
