-- What a pull did, said of the node as it was before, and as it is when its rest is given up.
use Rattle.std.proofs.Common.{◌≡◌, ◌⊎◌, inl, inr, ℕ, ◌+◌, ◌≤◌, List, length, take, Result, Ok, Err, sym, ap, subst, ◌∙◌, arith}
use Rattle.std.specs.Result.{IsErrAnd}
use Rattle.outside_api.specs.Count.{HasRisen}
use Rattle.outside_api.specs.Disk.{Files}
use Rattle.outside_api.specs.Link.{Answers, Fits, IsEarlier, text_of}
use Rattle.outside_api.specs.Says.{DiskSays, LinkSays}
use Rattle.outside_api.specs.declared.link.Fetched.{Fetched}
use Rattle.outside_api.specs.declared.link.Fetched.TheVariants as fetches
use Rattle.archive_file.specs.Archive.{Has}
use Rattle.depot_rows.specs.db_records.declared.change.Change.{Change}
use Rattle.depot_rows.specs.table_changes.Changed.{changed_in, rows_of}
use Rattle.disk_journal.specs.Stands.{generation_of_journal}
use Rattle.journal_groups.specs.Reader.{State}
use Rattle.journal_groups.specs.declared.moved.Moved.{Moved}
use Rattle.journal_groups.specs.declared.moved.Moved.TheVariants as moves
use Rattle.recovery.specs.Looking.{AreCauses}
use Rattle.replica_pull.specs.Replica.{beginning}
use Rattle.replica_pull.proofs.Moves.{fits_on}
use Rattle.replica_chain.specs.Chronicle.{Chronicle, texts_of}
use Rattle.replica_chain.specs.Masters.{GoesOnBehind, IsBehind, Upstream}
use Rattle.replica_chain.specs.Node.{IsNode}
use Rattle.replica_chain.specs.Pulling.{HasFollowed, HasMoved, HasStopped, HasTakenGroups, IsFetched, IsStopped, IsStoppedBy, IsUnpassed, IsUnread, IsWhereItWas}
use Rattle.replica_chain.specs.declared.fault.NodeFault.{NodeFault}
use Rattle.replica_chain.specs.declared.fault.NodeFault.TheVariants.{LinkFault, ContentsFailed, DiskFault, BadFeed, BadContent, NoBytes, NoGeneration, Memory}
use Rattle.replica_chain.specs.declared.link.NodeLink.{NodeLink}
use Rattle.replica_chain.specs.declared.node.Node.{Node}
use Rattle.replica_chain.proofs.Chains.{earlier_on}
use Rattle.replica_chain.proofs.Following.{has_later, piece_has}
use Rattle.replica_chain.proofs.Rests.{with_link, with_rest}
use Rattle.replica_chain.proofs.Steps.{at_first, grown_on, its_generation}

-- ---- causes

-- what holds of a fault that is passed on holds of the one that is answered
pub only_passed : {X : Type 0} (P : NodeFault → Type 0) (r : Result X NodeFault) (fault other : NodeFault) → IsErrAnd r (λ y. y ≡ fault) → P fault → r ≡ Err other → P other
only_passed P (Ok x) fault other is has same = absurd is
only_passed P (Err y) fault other is has same = let e : fault ≡ other = cc in subst P e has

-- a count that has risen since has risen from an earlier one on
pub causes_since : (first before now archive_before archive_now : ℕ) (F : Type 0) → first ≤ before → AreCauses before now archive_before archive_now F → AreCauses first now archive_before archive_now F
causes_since first before now archive_before archive_now F more causes = record {
  journal_never_falls = (let falls = causes.journal_never_falls in omega (arith, falls, more));
  archive_never_falls = causes.archive_never_falls;
  risen = λ is. go (causes.risen is);
}
  where
    go : HasRisen before now ⊎ HasRisen archive_before archive_now → HasRisen first now ⊎ HasRisen archive_before archive_now
    go (inl risen) = inl (omega (arith, risen, more))
    go (inr risen) = inr risen

-- ---- what is told has grown

module _ {D : Type 0} (disk_says : DiskSays D) (c : Chronicle) (up : Upstream) (now : List (List ℕ)) (more : IsEarlier up.texts now) where
  abbrev pub told_now : Upstream
  told_now = record { texts = now; bytes = up.bytes }

  pub behind_later : (node : Node D) → IsBehind disk_says node c up → IsBehind disk_says node c told_now
  behind_later node b = record {
    is_node = b.is_node;
    earlier = earlier_on (texts_of b.is_node.pending) up.texts now b.earlier more;
    rest = has_later up.texts now (length c.closed) node.rest node.at (length node.rest) more b.rest;
    no_group = b.no_group;
    front = b.front;
  }

  pub goes_later : (old new : Node D) (T : List (List ℕ) → Type 0) (B : List ℕ → Type 0) → T now → GoesOnBehind disk_says old new c told_now (λ texts. texts ≡ now) B → GoesOnBehind disk_says old new c up T B
  goes_later old new T B told step = record {
    later = step.later;
    grown = grown_on up.texts now step.later.texts (inr more) step.grown;
    more = step.more;
    texts_told = subst T (sym step.texts_told) told;
    bytes_told = step.bytes_told;
    stays = step.stays;
  }

-- what is told otherwise
pub told_as : {D : Type 0} (disk_says : DiskSays D) (old new : Node D) (c : Chronicle) (up : Upstream) (S T : List (List ℕ) → Type 0) (B E : List ℕ → Type 0) → ((texts : List (List ℕ)) → S texts → T texts)
    → ((bytes : List ℕ) → B bytes → E bytes) → GoesOnBehind disk_says old new c up S B → GoesOnBehind disk_says old new c up T E
told_as disk_says old new c up S T B E texts_lead bytes_lead step = record {
  later = step.later;
  grown = step.grown;
  more = step.more;
  texts_told = texts_lead step.later.texts step.texts_told;
  bytes_told = bytes_lead step.later.bytes step.bytes_told;
  stays = step.stays;
}

-- what was fetched behind what a node has
pub is_fetched : {D L : Type 0} (link_says : LinkSays L) (link : L) (node : Node D) (fetched : Fetched) (buffer : List ℕ) (room generation awaited : ℕ) → Fits fetched room → room ≤ 65536 → generation ≡ generation_of_journal node.link.journal
    → awaited ≡ node.at + length node.rest → ((now : List (List ℕ)) → link_says.tells link now → (earlier : List (List ℕ)) × IsEarlier earlier now × Answers earlier generation awaited fetched buffer)
    → IsFetched link_says link node fetched buffer
is_fetched link_says link node fetched buffer room generation awaited fits most generation_is awaited_is answers = record {
  fits = fits_on fetched room 65536 fits most;
  answers = λ now told. (
      let e = answers now told in
      (e.0, (e.1, subst (λ (at : ℕ). Answers e.0 (generation_of_journal node.link.journal) at fetched buffer) awaited_is (subst (λ (g : ℕ). Answers e.0 g awaited fetched buffer) generation_is e.2)))
      );
}

-- it stands upstream there
pub fetched_stands : {D L : Type 0} (disk_says : DiskSays D) (node : Node D) (c : Chronicle) (up : Upstream) → IsNode disk_says node c → (link_says : LinkSays L) (link : L) (n : ℕ) (buffer piece : List ℕ)
    → IsFetched link_says link node (fetches.Bytes n) buffer → piece ≡ take n buffer → link_says.tells link up.texts
    → Has (text_of up.texts (length c.closed)) (record { at = node.at + length node.rest; length = length piece }) piece
fetched_stands disk_says node c up n_is link_says link n buffer piece f is told =
    let a = f.answers up.texts told in
    let generation : generation_of_journal node.link.journal ≡ length c.closed = (let stands = n_is.stands.generation in omega (arith, stands, its_generation disk_says node c n_is)) in
    subst (λ (g : ℕ). Has (text_of up.texts g) (record { at = node.at + length node.rest; length = length piece }) piece) generation
    (piece_has a.0 up.texts (generation_of_journal node.link.journal) (node.at + length node.rest) n buffer piece a.1.0 a.1.1 is)

-- a node that did nothing
pub unmoved_goes : {D : Type 0} (disk_says : DiskSays D) → ((disk : D) (image : Files) → disk_says.left_since disk (disk_says.moment disk) image → disk_says.may_leave disk image) → (node : Node D) (c : Chronicle) (up : Upstream)
    (T : List (List ℕ) → Type 0) (B : List ℕ → Type 0) → B up.bytes → IsBehind disk_says node c up → (now : List (List ℕ)) → T now → IsEarlier up.texts now → GoesOnBehind disk_says node node c up T B
unmoved_goes disk_says only_now node c up T B bytes b now told more =
    goes_later disk_says c up now more node node T B told (at_first disk_says only_now node c (told_now disk_says c up now more) B bytes (behind_later disk_says c up now more node b))

-- ---- another link, of the same generation, before

module _ {D : Type 0} (old : Node D) (own : NodeLink D) (same : generation_of_journal own.journal ≡ generation_of_journal old.link.journal) where
  abbrev settled : Node D
  settled = with_link old own

  pub where_from : (new : Node D) → IsWhereItWas settled new → IsWhereItWas old new
  where_from new w = record { generation = w.generation ∙ same; rows = w.rows; before = w.before; at = w.at; number = w.number; changes = w.changes }

  groups_from : (new : Node D) (feed : State) (groups : List (List Change)) (left : State) → HasTakenGroups settled new feed groups left → HasTakenGroups old new feed groups left
  groups_from new feed groups left t = record { generation = t.generation ∙ same; before = t.before; are = t.are; at = t.at; number = t.number; changes = t.changes }

  moved_from : (new : Node D) (fetched : Fetched) (buffer : List ℕ) (moved : Moved) → HasMoved settled new fetched buffer moved → HasMoved old new fetched buffer moved
  moved_from new (fetches.Bytes n) buffer (moves.Taken bytes changes) has =
      let t = has.1 in
      (has.0, record { groups = t.groups; left = t.left; taken = groups_from new _ t.groups t.left t.taken; count_is = t.count_is; rest = t.rest; waits = t.waits; fit = t.fit })
  moved_from new (fetches.Bytes n) buffer moves.Nothing has = has
  moved_from new (fetches.Bytes n) buffer moves.Next has = has
  moved_from new fetches.End buffer (moves.Taken bytes changes) has = has
  moved_from new fetches.End buffer moves.Nothing has = (where_from new has.0, has.1)
  moved_from new fetches.End buffer moves.Next has = has
  moved_from new fetches.Next buffer (moves.Taken bytes changes) has = has
  moved_from new fetches.Next buffer moves.Nothing has = has
  moved_from new fetches.Next buffer moves.Next has = record {
    generation = (let passed = has.generation in omega (arith, passed, same));
    rows = has.rows ∙ ap (λ (g : ℕ). changed_in (rows_of old.tables) (beginning (g + 1))) same;
    before = has.before;
    at = has.at;
    rest = has.rest;
    number = has.number;
    changes = has.changes;
  }

  pub unread_from : (new : Node D) (fault : NodeFault) → IsUnread settled new fault → IsUnread old new fault
  unread_from new LinkFault w = where_from new w
  unread_from new ContentsFailed w = w
  unread_from new DiskFault w = where_from new w
  unread_from new (BadFeed place) w = w
  unread_from new (BadContent place) w = w
  unread_from new (NoBytes place) w = w
  unread_from new NoGeneration w = w
  unread_from new Memory w = where_from new w

  unpassed_from : (new : Node D) (fault : NodeFault) → IsUnpassed settled new fault → IsUnpassed old new fault
  unpassed_from new LinkFault w = w
  unpassed_from new ContentsFailed w = w
  unpassed_from new DiskFault w = where_from new w
  unpassed_from new (BadFeed place) w = w
  unpassed_from new (BadContent place) w = w
  unpassed_from new (NoBytes place) w = w
  unpassed_from new NoGeneration w = (where_from new w.0, sym same ∙ w.1)
  unpassed_from new Memory w = where_from new w

  module _ {L : Type 0} (disk_says : DiskSays D) (link_says : LinkSays L) (told : List ℕ → Type 0) (link : L) where
    fetched_from : (fetched : Fetched) (buffer : List ℕ) → IsFetched link_says link settled fetched buffer → IsFetched link_says link old fetched buffer
    fetched_from fetched buffer f = record {
      fits = f.fits;
      answers = λ now tells. (
          let a = f.answers now tells in
          (a.0, (a.1.0, subst (λ (g : ℕ). Answers a.0 g (old.at + length old.rest) fetched buffer) same a.1.1))
          );
    }

    stopped_at : (new : Node D) (fetched : Fetched) (buffer : List ℕ) (fault : NodeFault) → IsStopped disk_says told settled new fetched buffer fault → IsStopped disk_says told old new fetched buffer fault
    stopped_at new (fetches.Bytes n) buffer fault (inl cut) = inl (record { groups = cut.groups; left = cut.left; taken = groups_from new _ cut.groups cut.left cut.taken; why = cut.why })
    stopped_at new (fetches.Bytes n) buffer fault (inr much) = inr (record { stays = where_from new much.stays; fault_is = much.fault_is; over = much.over })
    stopped_at new fetches.End buffer fault stopped = stopped
    stopped_at new fetches.Next buffer fault stopped = unpassed_from new fault stopped

    pub followed_from : (new : Node D) (moved : Moved) → HasFollowed link_says link settled new moved → HasFollowed link_says link old new moved
    followed_from new moved f = record { fetched = f.fetched; buffer = f.buffer; is_fetched = fetched_from f.fetched f.buffer f.is_fetched; has_moved = moved_from new f.fetched f.buffer moved f.has_moved }

    pub stopped_from : (new : Node D) (fault : NodeFault) → IsUnread settled new fault ⊎ HasStopped disk_says link_says told link settled new fault → IsUnread old new fault ⊎ HasStopped disk_says link_says told link old new fault
    stopped_from new fault (inl unread) = inl (unread_from new fault unread)
    stopped_from new fault (inr s) = inr (record { fetched = s.fetched; buffer = s.buffer; is_fetched = fetched_from s.fetched s.buffer s.is_fetched; is_stopped = stopped_at new s.fetched s.buffer fault s.is_stopped })

-- ---- another rest after

module _ {D : Type 0} (old new : Node D) (rest : List ℕ) where
  where_rested : IsWhereItWas old new → IsWhereItWas old (with_rest new rest)
  where_rested w = record { generation = w.generation; rows = w.rows; before = w.before; at = w.at; number = w.number; changes = w.changes }

  unread_rested : (fault : NodeFault) → IsUnread old new fault → IsUnread old (with_rest new rest) fault
  unread_rested LinkFault w = where_rested w
  unread_rested ContentsFailed w = w
  unread_rested DiskFault w = where_rested w
  unread_rested (BadFeed place) w = w
  unread_rested (BadContent place) w = w
  unread_rested (NoBytes place) w = w
  unread_rested NoGeneration w = w
  unread_rested Memory w = where_rested w

  unpassed_rested : (fault : NodeFault) → IsUnpassed old new fault → IsUnpassed old (with_rest new rest) fault
  unpassed_rested LinkFault w = w
  unpassed_rested ContentsFailed w = w
  unpassed_rested DiskFault w = where_rested w
  unpassed_rested (BadFeed place) w = w
  unpassed_rested (BadContent place) w = w
  unpassed_rested (NoBytes place) w = w
  unpassed_rested NoGeneration w = (where_rested w.0, w.1)
  unpassed_rested Memory w = where_rested w

  module _ {L : Type 0} (disk_says : DiskSays D) (link_says : LinkSays L) (told : List ℕ → Type 0) (link : L) where
    why_rested : (left : State) (fault : NodeFault) → IsStoppedBy disk_says told new left fault → IsStoppedBy disk_says told (with_rest new rest) left fault
    why_rested left LinkFault why = why
    why_rested left ContentsFailed why = why
    why_rested left DiskFault why = why
    why_rested left (BadFeed place) why = why
    why_rested left (BadContent place) why = why
    why_rested left (NoBytes place) why = why
    why_rested left NoGeneration why = why
    why_rested left Memory why = why

    stops_rested : (fetched : Fetched) (buffer : List ℕ) (fault : NodeFault) → IsStopped disk_says told old new fetched buffer fault → IsStopped disk_says told old (with_rest new rest) fetched buffer fault
    stops_rested (fetches.Bytes n) buffer fault (inl cut) =
        let t = cut.taken in
        inl (record {
          groups = cut.groups;
          left = cut.left;
          taken = record { generation = t.generation; before = t.before; are = t.are; at = t.at; number = t.number; changes = t.changes };
          why = why_rested cut.left fault cut.why;
        })
    stops_rested (fetches.Bytes n) buffer fault (inr much) = inr (record { stays = where_rested much.stays; fault_is = much.fault_is; over = much.over })
    stops_rested fetches.End buffer fault stopped = stopped
    stops_rested fetches.Next buffer fault stopped = unpassed_rested fault stopped

    pub stopped_rested : (fault : NodeFault) → IsUnread old new fault ⊎ HasStopped disk_says link_says told link old new fault → IsUnread old (with_rest new rest) fault ⊎ HasStopped disk_says link_says told link old (with_rest new rest) fault
    stopped_rested fault (inl unread) = inl (unread_rested fault unread)
    stopped_rested fault (inr s) = inr (record { fetched = s.fetched; buffer = s.buffer; is_fetched = s.is_fetched; is_stopped = stops_rested s.fetched s.buffer fault s.is_stopped })
