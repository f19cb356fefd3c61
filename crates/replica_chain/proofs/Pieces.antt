-- What stands upstream of the groups that a node takes, one after another.
use Rattle.std.proofs.Common.{◌≡◌, ℕ, ◌+◌, ◌-◌, ◌≤◌, List, ◌++◌, length, Some, sym, ap, subst, ◌∙◌, arith, append_assoc, length-append}
use Rattle.outside_api.specs.Link.{text_of}
use Rattle.outside_api.specs.Says.{DiskSays}
use Rattle.archive_file.specs.Archive.{Has, used_of}
use Rattle.depot_rows.specs.db_records.declared.change.Change.{Change}
use Rattle.disk_journal.specs.Stands.{generation_of_journal}
use Rattle.journal_groups.specs.Groups.{group_text, groups_text, mark, open_byte}
use Rattle.journal_groups.specs.Reader.{HasTaken, State}
use Rattle.replica_chain.specs.Chronicle.{Chronicle}
use Rattle.replica_chain.specs.Masters.{GoesOnBehind, IsBehind, Upstream}
use Rattle.replica_chain.specs.Node.{IsNode}
use Rattle.replica_chain.specs.Pulling.{HasTakenGroups}
use Rattle.replica_chain.specs.declared.node.Node.{Node}
use Rattle.replica_chain.proofs.Following.{has_both, has_first, has_second}
use Rattle.replica_chain.proofs.Steps.{behind_on, its_generation}
use Rattle.replica_chain.proofs.Taking.{behind_group}

-- what a reader has left stands in a text at its place
abbrev pub StandsLeft : List ℕ → State → Type 0
StandsLeft text left = Has text (record { at = left.at; length = length left.left }) left.left

-- the group at its front stands there
front_stands : (text : List ℕ) (left behind : State) (changes : List Change) (n : ℕ) → HasTaken left behind (Some changes) → StandsLeft text left → n ≡ 5 + length (group_text left.number changes)
    → Has text (record { at = left.at; length = n }) (mark open_byte ++ group_text left.number changes)
front_stands text left behind changes n taken has is =
    let group = mark open_byte ++ group_text left.number changes in
    let parted : left.left ≡ group ++ behind.left = taken.1 ∙ sym (append_assoc (mark open_byte) (group_text left.number changes) behind.left) in
    let whole : Has text (record { at = left.at; length = length left.left }) (group ++ behind.left) = subst (Has text (record { at = left.at; length = length left.left })) parted has in
    let size : length group ≡ n = omega (arith, is) in
    subst (λ (k : ℕ). Has text (record { at = left.at; length = k }) group) size (has_first text group behind.left left.at (length left.left) whole (ap length parted))

-- and what is behind it
pub behind_stands : (text : List ℕ) (left behind : State) (changes : List Change) → HasTaken left behind (Some changes) → StandsLeft text left → StandsLeft text behind
behind_stands text left behind changes taken has =
    let group = mark open_byte ++ group_text left.number changes in
    let parted : left.left ≡ group ++ behind.left = taken.1 ∙ sym (append_assoc (mark open_byte) (group_text left.number changes) behind.left) in
    let whole : Has text (record { at = left.at; length = length left.left }) (group ++ behind.left) = subst (Has text (record { at = left.at; length = length left.left })) parted has in
    let place : left.at + length group ≡ behind.at = omega (arith, behind_group left behind changes taken) in
    subst (λ (at : ℕ). Has text (record { at = at; length = length behind.left }) behind.left) place (has_second text group behind.left left.at (length left.left) whole (ap length parted))

module _ {D : Type 0} (disk_says : DiskSays D) where
  -- a node of the same generation has as many closed ones
  pub same_closed : (old new : Node D) (c now : Chronicle) → IsNode disk_says old c → IsNode disk_says new now → generation_of_journal new.link.journal ≡ generation_of_journal old.link.journal → length now.closed ≡ length c.closed
  same_closed old new c now n m same =
      let a = n.stands.generation in
      let b = m.stands.generation in
      omega (arith, same, a, b, its_generation disk_says old c n, its_generation disk_says new now m)

  module _ (old mid new : Node D) (c : Chronicle) (up : Upstream) (B E : List ℕ → Type 0) (n : IsNode disk_says old c) (first : GoesOnBehind disk_says old mid c up (λ texts. texts ≡ up.texts) B)
      (same : generation_of_journal mid.link.journal ≡ generation_of_journal old.link.journal) where
    -- what stands there stands in the same text still
    pub stands_still : (spot_at spot_length : ℕ) (bytes : List ℕ) → Has (text_of up.texts (length c.closed)) (record { at = spot_at; length = spot_length }) bytes
        → Has (text_of first.later.texts (length first.stays.now.closed)) (record { at = spot_at; length = spot_length }) bytes
    stands_still spot_at spot_length bytes has =
        subst (λ (g : ℕ). Has (text_of first.later.texts g) (record { at = spot_at; length = spot_length }) bytes) (sym (same_closed old mid c first.stays.now n first.stays.behind.is_node same))
        (subst (λ (texts : List (List ℕ)). Has (text_of texts (length c.closed)) (record { at = spot_at; length = spot_length }) bytes) (sym first.texts_told) has)

    -- a step more behind the same texts
    step_on : used_of mid.archive ≤ used_of new.archive → GoesOnBehind disk_says mid new first.stays.now first.later (λ texts. texts ≡ first.later.texts) E → GoesOnBehind disk_says old new c up (λ texts. texts ≡ up.texts) E
    step_on used second = behind_on disk_says old mid new c up (λ texts. texts ≡ up.texts) (λ texts. texts ≡ first.later.texts) (λ texts. texts ≡ up.texts) B E used first second (λ texts told is. is ∙ told)

    -- a group more
    pub group_on : used_of mid.archive ≤ used_of new.archive → (left behind : State) (changes : List Change) (end : ℕ) → HasTaken left behind (Some changes) → left.at ≡ mid.at → left.number ≡ mid.number → end ≡ behind.at → StandsLeft (text_of up.texts (length c.closed)) left
        → ((now : Chronicle) (later : Upstream) → B later.bytes → IsBehind disk_says mid now later
        → Has (text_of later.texts (length now.closed)) (record { at = mid.at; length = end - mid.at }) (mark open_byte ++ group_text mid.number changes)
        → GoesOnBehind disk_says mid new now later (λ texts. texts ≡ later.texts) E)
        → GoesOnBehind disk_says old new c up (λ texts. texts ≡ up.texts) E
    group_on used left behind changes end taken at number end_is has leads =
        let text = text_of up.texts (length c.closed) in
        let size : end - mid.at ≡ 5 + length (group_text left.number changes) = omega (arith, at, end_is, behind_group left behind changes taken) in
        let there : Has text (record { at = mid.at; length = end - mid.at }) (mark open_byte ++ group_text mid.number changes) =
        subst (λ (k : ℕ). Has text (record { at = mid.at; length = end - mid.at }) (mark open_byte ++ group_text k changes)) number
        (subst (λ (k : ℕ). Has text (record { at = k; length = end - mid.at }) (mark open_byte ++ group_text left.number changes)) at (front_stands text left behind changes (end - mid.at) taken has size)) in
        step_on used (leads first.stays.now first.later first.bytes_told first.stays.behind (stands_still mid.at (end - mid.at) (mark open_byte ++ group_text mid.number changes) there))

-- what is left behind groups that were taken stands there
pub left_stands : {D : Type 0} (old new : Node D) (feed left : State) (groups : List (List Change)) (text : List ℕ) → HasTakenGroups old new feed groups left → StandsLeft text feed → StandsLeft text left
left_stands old new feed left groups text taken has =
    let front = groups_text feed.number groups in
    let whole : Has text (record { at = feed.at; length = length feed.left }) (front ++ left.left) = subst (Has text (record { at = feed.at; length = length feed.left })) taken.are.text has in
    let place : feed.at + length front ≡ left.at = (let place = taken.are.place in omega (arith, place, ap length taken.are.text, length-append front left.left)) in
    subst (λ (at : ℕ). Has text (record { at = at; length = length left.left }) left.left) place (has_second text front left.left feed.at (length feed.left) whole (ap length taken.are.text))

-- a rest and a piece, one behind the other
pub feed_stands : (text rest piece : List ℕ) (at : ℕ) → Has text (record { at = at; length = length rest }) rest → Has text (record { at = at + length rest; length = length piece }) piece
    → Has text (record { at = at; length = length (rest ++ piece) }) (rest ++ piece)
feed_stands text rest piece at one two =
    subst (λ (n : ℕ). Has text (record { at = at; length = n }) (rest ++ piece)) (sym (length-append rest piece)) (has_both text rest piece at (length rest) (length piece) one two)
