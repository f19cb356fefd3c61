-- What the program promises over a depot and a node that follows it (the words are this project's own choice).
use Rattle.std.specs.Prelude.{◌≡◌, ◌≢◌, ℕ, List, ◌∷◌, codes}
use Rattle.p4_server.specs.Outside.{Outside}
use Rattle.p4_server.specs.Promise.{KeepsPromise}
use Rattle.program_words.specs.Words.{words_of}
use Rattle.replica_chain.specs.declared.node.Pair.{Pair}
use Rattle.depot_follow.specs.Chain.{Chains}
use Rattle.chain_server.specs.declared.whole.Task.{Task}
use Rattle.chain_server.specs.declared.whole.Task.TheVariants as tasks
use Rattle.chain_server.specs.declared.whole.WholeEnded.{WholeEnded}
use Rattle.chain_server.specs.declared.whole.WholeEnded.TheVariants as wholes

-- the disks of a depot and of a node, the doors and `out` when the program begins
pub record BeforeAll (D K H : Type 0) : Type 0 where
  pub depot : Pair D
  pub node : Pair D
  pub doors : H
  pub out : K

-- the doors and `out` when it has ended, and its end, which has the disks
pub record AfterAll (D S K H : Type 0) : Type 0 where
  pub doors : H
  pub out : K
  pub ended : WholeEnded D S K

-- what words ask for, by the first of them
abbrev pub IsTask : List (List ℕ) → Task → Type 0
IsTask words tasks.Follow = (behind : List (List ℕ)) × (words ≡ codes "follow" ∷ behind)
IsTask words (tasks.Node behind) = words ≡ codes "node" ∷ words_of behind.now
IsTask words tasks.Depot = (first : List ℕ) (behind : List (List ℕ)) → words ≡ first ∷ behind → (first ≢ codes "follow") × (first ≢ codes "node")

module _ {D S K H : Type 0} (outside : Outside D S K H) (words : List (List ℕ)) (before : BeforeAll D K H) (after : AfterAll D S K H) where
  -- What is promised of a following, of a run over the disks of the node or of the depot, and of the disks that it leaves alone.
  abbrev pub KeepsTask : Task → WholeEnded D S K → Type 0
  KeepsTask tasks.Follow (wholes.Followed ended) =
      Chains outside.disk outside.sink words (record { up = before.depot; node = before.node; out = before.out }) (record { out = after.out; ended = ended })
      × (after.doors ≡ before.doors)
  KeepsTask (tasks.Node behind) (wholes.Node ended depot) =
      KeepsPromise outside before.doors after.doors (words_of behind.now) (record { journal = before.node.journal; archive = before.node.archive; out = before.out }) (record { out = after.out; ended = ended })
      × (depot ≡ before.depot)
  KeepsTask tasks.Depot (wholes.Depot ended node) =
      KeepsPromise outside before.doors after.doors words (record { journal = before.depot.journal; archive = before.depot.archive; out = before.out }) (record { out = after.out; ended = ended })
      × (node ≡ before.node)
  KeepsTask _ _ = ⊥

  -- The words ask for one of the three, and its promise is kept.
  pub record KeepsAll : Type 0 where
    pub task : Task
    pub asks : IsTask words task
    pub keeps : KeepsTask task after.ended
