-- A replica's replies turn by turn, by the depot that it follows.
use Rattle.std.proofs.Common.{◌≡◌, ◌⊎◌, ◌≤◌, ◌+◌, ◌++◌, ◌∷◌, [], ℕ, suc, List, Bool, true, false, Result, Ok, length, inl, inr, refl, sym, ap, subst, ◌∙◌, append_assoc, arith}
use Rattle.std.specs.Prelude.{reverse, take}
use Rattle.std.proofs.Math.Seq.{take-length}
use Rattle.std.proofs.lemmas.List.{length-append, reverse-append, take-append-le}
use Rattle.std.proofs.lemmas.List.Elements.{recursion_from_All}
use Rattle.outside_api.specs.Disk.{Files}
use Rattle.outside_api.specs.Says.{DiskSays}
use Rattle.archive_file.specs.Archive as archives
use Rattle.archive_file.specs.Contents.{IsTold}
use Rattle.archive_file.specs.declared.archive.Archive.{Archive}
use Rattle.depot_commit.specs.Storing.{AllReach}
use Rattle.depot_rows.specs.Standing.{Stand}
use Rattle.depot_rows.specs.depot_model.Cut.{cut}
use Rattle.depot_rows.specs.depot_model.Deeds.{Deed}
use Rattle.depot_rows.specs.depot_model.Places.{Placed}
use Rattle.depot_rows.specs.depot_model.declared.filter.FilterRule.{FilterRule}
use Rattle.depot_rows.specs.depot_model.declared.request.Request.{Request}
use Rattle.recovery.specs.Standing.{HasContents}
use Rattle.replica_answers.proofs.Good.{never_bad}
use Rattle.replica_pull.specs.Prefix.{HasFirst, HasFollowed, HasGrown, IsJournalOf, Moment, first_rows}
use Rattle.replica_pull.specs.declared.replica.Replica.{Replica}
use Rattle.replica_pull.proofs.Firsts.{first_changes}
use Rattle.replica_pull.proofs.Followed.{has_prefix}
use Rattle.replica_pull.proofs.Moves.{never_falls}
use Rattle.replica_pull.proofs.Standing.{stands_cut}
use Rattle.depot_commit.specs.Fetching.{HasTexts}
use Rattle.depot_commit.specs.Growing.{Chronicle, generations_of}
use Rattle.serial_depot.specs.declared.depot.SerialDepot.{SerialDepot}
use Rattle.session_loop.specs.Asking.{AreWellFormed}
use Rattle.session_loop.specs.Requests.{AreRequests}
use Rattle.session_loop.specs.declared.reading.ReplicaScript.{ReplicaScript}
use Rattle.depot_rows.specs.table_changes.Changed.{rows_of}
use Rattle.replica_turns.specs.Along.{AreTold, HasPulledAfter, IsAlong, IsToldAs}
use Rattle.replica_turns.specs.Going.{IsFresh, IsTurned, is_lost, reply_text}
use Rattle.replica_turns.specs.Master.{HasNth, IsJournalAfter, IsMaster, IsNth, Past, texts_in}
use Rattle.replica_turns.specs.Replying.{Follows, IsAnsweredAs, IsPulled, IsReply, IsWithoutMemory, pulls}
use Rattle.replica_turns.specs.declared.party.Answered.{Answered}
use Rattle.replica_turns.specs.declared.party.ReplicaParty.{ReplicaParty}
use Rattle.replica_turns.proofs.CutContents.{contents_told, cut_contents}
use Rattle.replica_turns.proofs.Following.{follows_journal, has_texts, takes_journal}
use Rattle.replica_turns.proofs.Moving.{pulled_of}
use Rattle.depot_commit.proofs.Laws.{formed_of}
use Rattle.replica_turns.proofs.Turns.{IsAskedWell, at_place}

-- ---- one turn over a depot that replicas follow

-- the journal of such a depot
pub journal_after : {D : Type 0} (disk_says : DiskSays D) (past : Past) (start : List Deed) (places : List Placed) (depot : SerialDepot D) (c : Chronicle) → IsMaster disk_says past start places depot c → IsJournalAfter past start places c
journal_after disk_says past start places depot c master = record {
  are_groups = master.groups.are_groups;
  changes = master.changes;
  count = master.count;
  are_changes = master.are_changes;
  each = λ n within. let nth = master.each n within in (nth.depot, nth.is, nth.stand);
  fit = master.fit;
}

module _ {D : Type 0} (disk_says : DiskSays D) (reads : (disk : D) (files : Files) → disk_says.seen disk files → disk_says.may_leave disk files) (past : Past) (start : List Deed) (places : List Placed)
    (depot : SerialDepot D) (c : Chronicle) (master : IsMaster disk_says past start places depot c) (tells : (bytes : List ℕ) × IsTold disk_says depot.archive bytes) where
  journal_of : IsJournalOf (texts_in c) (generations_of c)
  journal_of = (refl, master.groups.are_groups)

  module _ (rules : List FilterRule) (old new : Replica) (moments : List Moment) (followed : HasFollowed rules (texts_in c) old moments) (request : Request) (text : List ℕ) where
    -- what a turn leaves
    abbrev pub Turned : Bool → Type 0
    Turned pull = (now : List Moment) × HasFollowed rules (texts_in c) new now × IsToldAs past start places rules old new request text pull

    same_followed : new ≡ old → HasFollowed rules (texts_in c) new moments
    same_followed same = subst (λ (r : Replica). HasFollowed rules (texts_in c) r moments) (sym same) followed

    -- the changes that it has make the rows of a depot, cut
    found : HasFirst rules (generations_of c) old
    found = first_changes rules (texts_in c) (generations_of c) old (has_prefix rules (texts_in c) old moments followed) journal_of

    nth : HasNth disk_says depot.archive (IsNth past start places old.changes) c old.changes
    nth = master.each old.changes found.within

    no_fewer : (pull : IsPulled (λ been. been ≡ depot) disk_says old new request.number text) → old.changes ≤ new.changes
    no_fewer pull = go pull.follows
      where
        go : Follows old new pull.fetched pull.piece → old.changes ≤ new.changes
        go (inl did) = never_falls old new pull.piece pull.fetched (Ok did.0) did.1 tt
        go (inr stopped) = let same = ap (λ (r : Replica). r.changes) stopped.0 in omega (arith, same)

    -- a pull that is answered by a position
    module _ (pull : IsPulled (λ been. been ≡ depot) disk_says old new request.number text) where
      its_texts : HasTexts disk_says pull.depot.journal (texts_in c)
      its_texts =
          let P : SerialDepot D → Type 0 = λ been. HasTexts disk_says been.journal (texts_in c) in
          subst P (sym pull.been) (has_texts disk_says reads depot.journal c master.groups)

      pulled : HasPulledAfter past start places old new
      pulled = record {
        journal = c;
        is = journal_after disk_says past start places depot c master;
        follows = takes_journal (λ been. been ≡ depot) disk_says old new request.number text pull (texts_in c) its_texts;
        moves = λ fits short.
            pulled_of disk_says reads depot c master.groups (record { of_groups = journal_of; fit = master.fit fits; short = short }) rules moments old new followed request.number text pull;
        no_fewer = no_fewer pull;
      }

    pub turn_told : (pull lost : Bool) → IsAnsweredAs (λ been. been ≡ depot) disk_says old new request text lost pull ⊎ IsWithoutMemory old new request text lost → Turned pull
    turn_told true lost (inr none) = (moments, same_followed none.same, inr (none.same, inr none.reply))
    turn_told false lost (inr none) = (moments, same_followed none.same, (none.same, inr (inr none.reply)))
    turn_told true true (inl is) = (moments, same_followed is.0, inr (is.0, inl is.1))
    turn_told true false (inl is) = (
      record { journal = texts_in c; replica = old } ∷ moments,
      (inl refl, follows_journal (λ been. been ≡ depot) disk_says old new request.number text is (texts_in c) (its_texts is), followed),
      inl (pulled is, is.reply),
    )
    turn_told false true (inl is) = (moments, same_followed is.0, (is.0, inr (inl is.1)))
    turn_told false false (inl is) = go is.1
      where
        has : HasContents tells.0 (first_rows old.changes (generations_of c)) nth.depot
        has =
            let told = tells.1 in
            contents_told disk_says depot.archive tells.0 told (first_rows old.changes (generations_of c)) nth.depot nth.kept.ends
            (nth.kept.contents told.files (reads (archives.disk_of depot.archive) told.files told.sees)).contents

        contents : HasContents tells.0 (rows_of old.tables) (cut rules nth.depot)
        contents = cut_contents rules nth.depot nth.stand.sound (first_rows old.changes (generations_of c)) (rows_of old.tables) tells.0 found.rows has

        stands : Stand (rows_of old.tables) (cut rules nth.depot)
        stands = stands_cut rules (generations_of c) old nth.depot found nth.stand

        tells_in : (been : SerialDepot D) → been ≡ depot → IsTold disk_says been.archive tells.0
        tells_in been same = let P : SerialDepot D → Type 0 = λ b. IsTold disk_says b.archive tells.0 in subst P (sym same) tells.1

        go : IsReply (λ been. been ≡ depot) disk_says old request text false → Turned false
        go (inl replied) =
            let reply = replied.reply (cut rules nth.depot) stands (λ prints. (tells.0, tells_in replied.depot replied.been, contents)) in
            (moments, same_followed is.0, (is.0, inl (nth.depot, nth.is, reply)))
        go (inr bad) = absurd (never_bad (rows_of old.tables) (cut rules nth.depot) stands tells.0 contents request bad.at (bad.bad tells.0 (tells_in bad.depot bad.been)))

-- an archive of which all that is used is there tells it
pub told_of : {D : Type 0} (disk_says : DiskSays D) (reads : (disk : D) (files : Files) → disk_says.seen disk files → disk_says.may_leave disk files) (archive : Archive D)
    → (files : Files) × disk_says.seen (archives.disk_of archive) files → AllReach (disk_says.may_leave (archives.disk_of archive)) (archives.used_of archive) → (bytes : List ℕ) × IsTold disk_says archive bytes
told_of disk_says reads archive tells room = (
  take (archives.used_of archive) (tells.0 0),
  record { files = tells.0; sees = tells.1; within = room tells.0 (reads (archives.disk_of archive) tells.0 tells.1); are = refl },
)

-- ---- replies one after another

module _ (past : Past) (start : List Deed) (places : List Placed) (rules : List FilterRule) where
  abbrev Told : ℕ → Replica → List ℕ → List Request → List (List ℕ) → Replica → Type 0
  Told before old counts requests texts new = AreTold past start places rules before old counts requests texts new

  told_many : (before : ℕ) (old new : Replica) (counts : List ℕ) (requests : List Request) (texts : List (List ℕ)) → Told before old counts requests texts new → length requests ≡ length texts
  told_many before old new [] [] [] are = refl
  told_many before old new [] [] (text ∷ texts) are = absurd are
  told_many before old new [] (request ∷ requests) texts are = absurd are
  told_many before old new (count ∷ counts) [] texts are = absurd are
  told_many before old new (count ∷ counts) (request ∷ requests) [] are = absurd are
  told_many before old new (count ∷ counts) (request ∷ requests) (text ∷ texts) are = ap suc (told_many count are.0 new counts requests texts are.4)

  -- one more, when all places were taken
  told_more : (before : ℕ) (old mid new : Replica) (counts : List ℕ) (requests : List Request) (texts : List (List ℕ)) (request : Request) (text : List ℕ) → before ≤ length places
      → Told before old counts requests texts mid → IsToldAs past start places rules mid new request text (pulls request.command)
      → Told before old (counts ++ length places ∷ []) (requests ++ request ∷ []) (texts ++ text ∷ []) new
  told_more before old mid new [] [] [] request text low are is =
      let As : List Placed → Replica → Type 0 = λ all r. IsToldAs past start all rules r new request text (pulls request.command) in
      (new, low, omega arith, subst (λ (all : List Placed). As all old) (sym (take-length places)) (subst (As places) are is), refl)
  told_more before old mid new [] [] (t ∷ texts) request text low are is = absurd are
  told_more before old mid new [] (r ∷ requests) texts request text low are is = absurd are
  told_more before old mid new (count ∷ counts) [] texts request text low are is = absurd are
  told_more before old mid new (count ∷ counts) (r ∷ requests) [] request text low are is = absurd are
  told_more before old mid new (count ∷ counts) (r ∷ requests) (t ∷ texts) request text low are is =
      (are.0, are.1, are.2, are.3, told_more count are.0 mid new counts requests texts request text are.2 are.4 is)

  -- so it was among more places
  told_longer : (more : List Placed) (before : ℕ) (old new : Replica) (counts : List ℕ) (requests : List Request) (texts : List (List ℕ)) → Told before old counts requests texts new
      → AreTold past start (places ++ more) rules before old counts requests texts new
  told_longer more before old new [] [] [] are = are
  told_longer more before old new [] [] (text ∷ texts) are = absurd are
  told_longer more before old new [] (request ∷ requests) texts are = absurd are
  told_longer more before old new (count ∷ counts) [] texts are = absurd are
  told_longer more before old new (count ∷ counts) (request ∷ requests) [] are = absurd are
  told_longer more before old new (count ∷ counts) (request ∷ requests) (text ∷ texts) are =
      let within = are.2 in
      let long = length-append places more in
      let As : List Placed → Type 0 = λ all. IsToldAs past start all rules old are.0 request text (pulls request.command) in
      (are.0, are.1, omega (arith, within, long), subst As (sym (take-append-le count places more within)) are.3, told_longer more count are.0 new counts requests texts are.4)

-- ---- a party

module _ (past : Past) (start : List Deed) (places : List Placed) (may_give : ℕ → Type 0) (party : ℕ) (script : ReplicaScript) (p : ReplicaParty) where
  -- a new replica has told nothing
  pub along_first : (c : Chronicle) → IsFresh may_give party script p → AreWellFormed script.session.commands → IsAlong past start places may_give party script p c [] []
  along_first c fresh formed =
      record { formed = formed; answered = []; asked = fresh.asked; moments = []; followed = fresh.is_new; first = p.replica; is_new = fresh.is_new; told = refl }

  -- the journal grew
  pub along_later : (c now : Chronicle) → HasGrown (texts_in c) (texts_in now) → (counts : List ℕ) (texts : List (List ℕ)) → IsAlong past start places may_give party script p c counts texts
      → IsAlong past start places may_give party script p now counts texts
  along_later c now grown counts texts along = record {
    formed = along.formed;
    answered = along.answered;
    asked = along.asked;
    moments = record { journal = texts_in c; replica = p.replica } ∷ along.moments;
    followed = (grown, inl refl, along.followed);
    first = along.first;
    is_new = along.is_new;
    told = along.told;
  }

  -- there are more places
  pub along_longer : (c : Chronicle) (more : List Placed) (counts : List ℕ) (texts : List (List ℕ)) → IsAlong past start places may_give party script p c counts texts
      → IsAlong past start (places ++ more) may_give party script p c counts texts
  along_longer c more counts texts along = record {
    formed = along.formed;
    answered = along.answered;
    asked = along.asked;
    moments = along.moments;
    followed = along.followed;
    first = along.first;
    is_new = along.is_new;
    told = told_longer past start places script.filter more 0 along.first p.replica counts along.answered texts along.told;
  }

  pub along_grown : (c now : Chronicle) (more : List Placed) → HasGrown (texts_in c) (texts_in now) → (counts : List ℕ) (texts : List (List ℕ)) → IsAlong past start places may_give party script p c counts texts
      → IsAlong past start (places ++ more) may_give party script p now counts texts
  along_grown c now more grown counts texts along = along_longer now more counts texts (along_later c now grown counts texts along)

module _ {D E : Type 0} (disk_says : DiskSays D) (reads : (disk : D) (files : Files) → disk_says.seen disk files → disk_says.may_leave disk files) (past : Past) (start : List Deed) (places : List Placed)
    (depot : SerialDepot D) (c : Chronicle) (master : IsMaster disk_says past start places depot c) (tells : (bytes : List ℕ) × IsTold disk_says depot.archive bytes)
    (may_give : ℕ → Type 0) (party : ℕ) (script : ReplicaScript) where
  -- it took its turn
  pub along_turned : (old new : ReplicaParty) (counts : List ℕ) (texts : List (List ℕ)) (result : Result Answered E) → IsAlong past start places may_give party script old c counts texts → IsTurned disk_says depot old new result
      → IsAlong past start places may_give party script new c (counts ++ length places ∷ []) (texts ++ reply_text result (length texts + 1) ∷ [])
  along_turned old new counts texts result along turn =
      let request = turn.request in
      let left : reverse old.left.items ≡ request ∷ reverse new.left.items = ap reverse turn.left ∙ reverse-append new.left.items (request ∷ []) in
      let asked : AreRequests may_give party 1 script.session.caller script.session.commands (along.answered ++ request ∷ reverse new.left.items) =
      subst (λ (behind : List Request). AreRequests may_give party 1 script.session.caller script.session.commands (along.answered ++ behind)) left along.asked in
      let here = at_place may_give party 1 script.session.caller script.session.commands along.answered request (reverse new.left.items) asked
      (recursion_from_All IsAskedWell script.session.commands along.formed) in
      let many = told_many past start places script.filter 0 along.first old.replica counts along.answered texts along.told in
      let number : request.number ≡ length texts + 1 = let is = here.0 in omega (arith, is, many) in
      let told = turn_told disk_says reads past start places depot c master tells script.filter old.replica new.replica along.moments along.followed request (reply_text result request.number)
      (pulls request.command) (is_lost result) (turn.answered (formed_of request here.1)) in
      let P : ℕ → Type 0 = λ n. IsToldAs past start places script.filter old.replica new.replica request (reply_text result n) (pulls request.command) in
      record {
        formed = along.formed;
        answered = along.answered ++ request ∷ [];
        asked = subst (AreRequests may_give party 1 script.session.caller script.session.commands) (sym (append_assoc along.answered (request ∷ []) (reverse new.left.items))) asked;
        moments = told.0;
        followed = told.1;
        first = along.first;
        is_new = along.is_new;
        told = told_more past start places script.filter 0 along.first old.replica new.replica counts along.answered texts request (reply_text result (length texts + 1)) (omega arith) along.told (subst P number told.2);
      }
