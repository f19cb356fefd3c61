-- What a replica's answer to a command is in all replicas.
use Rattle.std.proofs.Common.{◌≡◌, ℕ, ◌+◌, Bool, List, length, Some, Result, Ok, Err, refl, sym, ap, subst, ◌∙◌}
use Rattle.std.specs.Prelude.{◌||◌, slice_set}
use Rattle.outside_api.specs.Says.{DiskSays}
use Rattle.archive_file.specs.Archive.{disk_of as archive_disk_of}
use Rattle.disk_journal.specs.Stands.{disk_of}
use Rattle.run_parties.proofs.Replicas.{plain, turned_plain}
use Rattle.run_parties.specs.Giving.{text_of}
use Rattle.run_parties.specs.replica_turns.Going.{IsTurned, is_lost, one_if, reply_text}
use Rattle.run_parties.specs.replica_turns.declared.party.Answered.{Answered}
use Rattle.run_parties.specs.replica_turns.declared.party.ReplicaParty.{ReplicaParty}
use Rattle.run_parties.specs.serial_depot.declared.depot.SerialDepot.{SerialDepot}
use Rattle.session_loop.specs.Served.{HaveRisenBy}
use Rattle.session_turns.specs.Going.{IsStepped}
use Rattle.session_turns.specs.declared.replicas.Replicas.{Replicas}

-- a reply that tells that a disk failed has its cause
abbrev HasRisenFor : {D : Type 0} → DiskSays D → SerialDepot D → SerialDepot D → Bool → Type 0
HasRisenFor disk_says before now lost =
    HaveRisenBy (one_if lost) (disk_says.faults (disk_of before.journal)) (disk_says.faults (disk_of now.journal)) (disk_says.faults (archive_disk_of before.archive)) (disk_says.faults (archive_disk_of now.archive))

module _ {D E : Type 0} (disk_says : DiskSays D) (before now : SerialDepot D) where
  text_plain : (result : Result Answered E) (number : ℕ) → reply_text result number ≡ reply_text (plain result) number
  text_plain (Ok answered) number = refl
  text_plain (Err error) number = refl

  lost_plain : (result : Result Answered E) → is_lost (plain result) ≡ is_lost result
  lost_plain (Ok answered) = refl
  lost_plain (Err error) = refl

  pub stepped : (at : ℕ) (p party next : ReplicaParty) (old new : Replicas) (result : Result Answered E) (reply : Result (List ℕ) E) → p ≡ party → new.parties.items ≡ slice_set old.parties.items at (Some next)
      → IsTurned disk_says before party next result → length party.left.items ≡ length next.left.items + 1 → ((number : ℕ) → text_of reply number ≡ reply_text result number)
      → new.lost ≡ (old.lost || is_lost result) → HasRisenFor disk_says before now (is_lost result) → IsStepped disk_says before now at p old new (text_of reply)
  stepped at p party next old new result reply same parties turned left text lost risen =
      let P : ReplicaParty → Type 0 = λ q. IsTurned disk_says before q next (plain result) in
      record {
        next = next;
        result = plain result;
        parties = parties;
        turned = subst P (sym same) (turned_plain disk_says before party next result turned);
        left = ap (λ (q : ReplicaParty). length q.left.items) same ∙ left;
        text_is = λ number. text number ∙ text_plain result number;
        lost_is = lost ∙ ap (λ (b : Bool). old.lost || b) (sym (lost_plain result));
        risen = subst (HasRisenFor disk_says before now) (sym (lost_plain result)) risen;
      }
