-- Pulls one after another, and what a replica has of its master after them: the groups that lie whole in what it took. How a replica follows is this
-- project's own choice.
use Rattle.std.specs.Prelude.{◌≡◌, ◌⊎◌, ◌≤◌, ◌<◌, ◌+◌, ◌^◌, ℕ, zero, suc, List, [], ◌∷◌, ◌++◌, length, map, take}
use Rattle.std.specs.List.{AllByRecursion, flat_map}
use Rattle.outside_api.specs.Link.{IsEarlier, Answers, text_of}
use Rattle.outside_api.specs.declared.link.Fetched.{Fetched}
use Rattle.depot_rows.specs.db_records.declared.change.Change.{Change}
use Rattle.depot_rows.specs.table_changes.Changed.{AllRows, AllFitIn, changed_by, no_rows, rows_of}
use Rattle.depot_rows.specs.depot_model.declared.filter.FilterRule.{FilterRule}
use Rattle.journal_groups.specs.Groups.{IsGroup, group_text, groups_text, mark, open_byte}
use Rattle.journal_groups.specs.declared.moved.Moved.{Moved}
use Rattle.recovery.specs.Holding.{joined}
use Rattle.replica_pull.specs.Cut.{AreCut}
use Rattle.replica_pull.specs.Replica.{HasMoved, IsNew, beginning}
use Rattle.replica_pull.specs.declared.replica.Replica.{Replica}

-- ---- pulls

-- a pull did what the link answered, of the journal as it was at an earlier moment
pub record IsFollowed (journal : List (List ℕ)) (old new : Replica) : Type 0 where
  pub fetched : Fetched
  pub piece : List ℕ
  pub moved : Moved
  pub earlier : List (List ℕ)
  pub has : HasMoved old new fetched piece moved
  pub was : IsEarlier earlier journal
  pub answers : Answers earlier old.generation old.at fetched piece

-- one pull while the journal has these texts: the replica stays as it was, or it follows
abbrev pub HasPulled : List (List ℕ) → Replica → Replica → Type 0
HasPulled journal old new = (new ≡ old) ⊎ IsFollowed journal old new

-- a journal before a pull
abbrev pub HasGrown : List (List ℕ) → List (List ℕ) → Type 0
HasGrown before now = (now ≡ before) ⊎ IsEarlier before now

-- a replica, and the journal of its master at that time
pub record Moment : Type 0 where
  pub journal : List (List ℕ)
  pub replica : Replica

-- pulls one after another, from a new replica on, each after one of these moments, the last first
abbrev pub HasFollowed : List FilterRule → List (List ℕ) → Replica → List Moment → Type 0
HasFollowed rules journal r [] = IsNew rules r
HasFollowed rules journal r (was ∷ before) = HasGrown was.journal journal × HasPulled journal was.replica r × HasFollowed rules was.journal was.replica before

-- ---- what was taken

-- the changes of the groups of generations: each group is one, and so is the beginning of each generation but the first
abbrev pub begun : ℕ → List (List Change)
begun zero = []
begun (suc g) = (beginning (suc g) ∷ []) ∷ []

abbrev pub changes_from : ℕ → List (List (List Change)) → List (List Change)
changes_from g [] = []
changes_from g (groups ∷ generations) = begun g ++ (groups ++ changes_from (suc g) generations)

-- at the front of a text stands no whole group of this number
abbrev pub HasNoGroup : ℕ → List ℕ → Type 0
HasNoGroup number text = (changes : List Change) (behind : List ℕ) → IsGroup changes → text ≡ mark open_byte ++ (group_text number changes ++ behind) → ⊥

-- these are all groups that lie whole in a text from its front on
pub record AreWholeIn (groups : List (List Change)) (text rest : List ℕ) : Type 0 where
  pub are_groups : AllByRecursion IsGroup groups
  pub is : text ≡ groups_text 1 groups ++ rest
  pub none : HasNoGroup (suc (length groups)) rest

-- the generations that a replica passed: each was closed
abbrev pub ArePassed : List (List ℕ) → List (List (List Change)) → Type 0
ArePassed journal [] = Unit {0}
ArePassed [] (groups ∷ generations) = ⊥
ArePassed (text ∷ journal) (groups ∷ generations) = (1 ≤ length journal) × ((rest : List ℕ) × AreWholeIn groups text rest) × ArePassed journal generations

-- how many bytes texts have together
abbrev pub bytes_of : List (List ℕ) → ℕ
bytes_of texts = length (flat_map (λ (text : List ℕ). text) texts)

-- A replica has the groups of the generations that it passed, and of the one at which it is those that lie whole in what it took of its text. Its counts
-- are those of these changes and of the bytes that it took, and its rows are what the changes make, cut to its filter.
pub record HasPrefix (rules : List FilterRule) (journal : List (List ℕ)) (r : Replica) : Type 0 where
  pub generations : List (List (List Change))
  pub groups : List (List Change)
  pub filter : r.filter ≡ rules
  pub generation : r.generation ≡ length generations
  pub number : r.number ≡ suc (length groups)
  pub passed : ArePassed journal generations
  pub within : r.at ≤ length (text_of journal r.generation)
  pub taken : r.taken ≡ bytes_of (take r.generation journal) + r.at
  pub whole : AreWholeIn groups (take r.at (text_of journal r.generation)) r.rest
  pub changes : r.changes ≡ length (changes_from 0 (generations ++ groups ∷ []))
  pub rows : AreCut rules (changed_by no_rows (joined (changes_from 0 (generations ++ groups ∷ [])))) (rows_of r.tables)

-- ---- a journal of whole groups

-- the texts are those of the groups of generations
abbrev pub IsJournalOf : List (List ℕ) → List (List (List Change)) → Type 0
IsJournalOf journal generations = (journal ≡ map (groups_text 1) generations) × AllByRecursion (AllByRecursion IsGroup) generations

-- The changes of each generation fit the rows that those before them make, one after another, behind the beginning of their generation.
abbrev pub FitFrom : AllRows → ℕ → List (List (List Change)) → Type 0
FitFrom rows g [] = Unit {0}
FitFrom rows g (groups ∷ generations) =
    AllFitIn (changed_by rows (joined (begun g))) (joined groups) × FitFrom (changed_by rows (joined (begun g ++ groups))) (suc g) generations

-- a master's journal: whole groups whose changes fit, below 2 ^ 63 bytes
pub record IsGoodJournal (journal : List (List ℕ)) (generations : List (List (List Change))) : Type 0 where
  pub of_groups : IsJournalOf journal generations
  pub fit : FitFrom no_rows 0 generations
  pub short : bytes_of journal < 2 ^ 63

-- the rows that the first changes make, so many
abbrev pub first_rows : ℕ → List (List (List Change)) → AllRows
first_rows n generations = changed_by no_rows (joined (take n (changes_from 0 generations)))

-- a replica has the first changes of its master, as many as it counts, cut to its filter
pub record HasFirst (rules : List FilterRule) (generations : List (List (List Change))) (r : Replica) : Type 0 where
  pub within : r.changes ≤ length (changes_from 0 generations)
  pub rows : AreCut rules (first_rows r.changes generations) (rows_of r.tables)
