-- Why a group isn't taken.
use Rattle.std.proofs.Common.{◌≡◌, inl, ℕ, List, Err, Some, sym, subst}
use Rattle.outside_api.specs.Disk.{Files}
use Rattle.outside_api.specs.Says.{DiskSays}
use Rattle.archive_file.specs.Archive.{disk_of as archive_disk_of, used_of}
use Rattle.depot_rows.specs.db_records.declared.change.Change.{Change}
use Rattle.depot_rows.specs.table_changes.Changed.{AllRows, AllFitIn, rows_of}
use Rattle.journal_groups.specs.Reader.{HasRecords, HasTaken, State}
use Rattle.replica_pull.specs.Feed.{IsBadPlace, IsFirstMisfit}
use Rattle.replica_pull.proofs.Misfits.{rest_record}
use Rattle.replica_pull.proofs.Taking.{group_misfit}
use Rattle.replica_chain.specs.Copying.{AtBadContent, AtNoBytes, IsAbsent, IsBadContent, IsOfBringing, named_ends}
use Rattle.replica_chain.specs.Feed.{IfBadFeed, IsOfFeed}
use Rattle.replica_chain.specs.Pulling.{HasTakenGroups, IsCutShort, IsRefused, IsStoppedBy, IsWhereItWas}
use Rattle.replica_chain.specs.declared.fault.NodeFault.{NodeFault}
use Rattle.replica_chain.specs.declared.fault.NodeFault.TheVariants.{LinkFault, ContentsFailed, DiskFault, BadFeed, BadContent, NoBytes, NoGeneration, Memory}
use Rattle.replica_chain.specs.declared.node.Node.{Node}
use Rattle.replica_chain.proofs.Taking.{groups_still}

module _ {D : Type 0} (disk_says : DiskSays D) (told : List ℕ → Type 0) where
  -- ---- of a group

  -- its changes don't fit
  pub misfit_refused : (Y : Type 0) (old new : Node D) (changes : List Change) (end : ℕ) (fault : NodeFault) → IsOfFeed fault
      → IfBadFeed {X = Y} (Err fault) (IsFirstMisfit (AllFitIn (rows_of old.tables)) changes end) → IsRefused disk_says told old new changes end fault
  misfit_refused Y old new changes end LinkFault of bad = absurd of
  misfit_refused Y old new changes end ContentsFailed of bad = absurd of
  misfit_refused Y old new changes end DiskFault of bad = absurd of
  misfit_refused Y old new changes end (BadFeed place) of bad = bad
  misfit_refused Y old new changes end (BadContent place) of bad = absurd of
  misfit_refused Y old new changes end (NoBytes place) of bad = absurd of
  misfit_refused Y old new changes end NoGeneration of bad = absurd of
  misfit_refused Y old new changes end Memory of bad = tt

  -- its contents aren't there
  pub contents_refused : (old new : Node D) (changes : List Change) (end : ℕ) (fault : NodeFault) → AllFitIn (rows_of old.tables) changes → IsOfBringing fault
      → AtNoBytes (λ place. (bytes : List ℕ) → told bytes → IsAbsent bytes (used_of new.archive) (named_ends changes) place) fault
      → AtBadContent (λ place. (files : Files) → disk_says.seen (archive_disk_of new.archive) files → IsBadContent (files 0) changes place) fault → IsRefused disk_says told old new changes end fault
  contents_refused old new changes end LinkFault fit of absent bad = absurd of
  contents_refused old new changes end ContentsFailed fit of absent bad = tt
  contents_refused old new changes end DiskFault fit of absent bad = tt
  contents_refused old new changes end (BadFeed place) fit of absent bad = absurd of
  contents_refused old new changes end (BadContent place) fit of absent bad = (fit, bad)
  contents_refused old new changes end (NoBytes place) fit of absent bad = (fit, absent)
  contents_refused old new changes end NoGeneration fit of absent bad = absurd of
  contents_refused old new changes end Memory fit of absent bad = tt

  -- ---- of what a reader has left

  stopped_by_feed : (Y : Type 0) (new : Node D) (left : State) (fault : NodeFault) → IsOfFeed fault → IfBadFeed {X = Y} (Err fault) (IsBadPlace (AllFitIn (rows_of new.tables)) left)
      → IsStoppedBy disk_says told new left fault
  stopped_by_feed Y new left LinkFault of bad = absurd of
  stopped_by_feed Y new left ContentsFailed of bad = absurd of
  stopped_by_feed Y new left DiskFault of bad = absurd of
  stopped_by_feed Y new left (BadFeed place) of bad = bad
  stopped_by_feed Y new left (BadContent place) of bad = absurd of
  stopped_by_feed Y new left (NoBytes place) of bad = absurd of
  stopped_by_feed Y new left NoGeneration of bad = absurd of
  stopped_by_feed Y new left Memory of bad = tt

  -- no group can come there
  pub cut_by_feed : (Y : Type 0) (old new : Node D) (feed left : State) (groups : List (List Change)) (fault : NodeFault) → HasTakenGroups old new feed groups left → IsOfFeed fault
      → IfBadFeed {X = Y} (Err fault) (IsBadPlace (AllFitIn (rows_of new.tables)) left) → IsCutShort disk_says told old new feed fault
  cut_by_feed Y old new feed left groups fault taken of bad = record { groups = groups; left = left; taken = taken; why = stopped_by_feed Y new left fault of bad }

  -- the records that are there of the next one don't fit
  rest_bad : (Y : Type 0) (new : Node D) (left : State) (records : List Change) (reached : ℕ) (fault : NodeFault) → HasRecords left.number left.at left.left records reached
      → IfBadFeed {X = Y} (Err fault) (IsFirstMisfit (AllFitIn (rows_of new.tables)) records reached) → IfBadFeed {X = Y} (Err fault) (IsBadPlace (AllFitIn (rows_of new.tables)) left)
  rest_bad Y new left records reached LinkFault has bad = tt
  rest_bad Y new left records reached ContentsFailed has bad = tt
  rest_bad Y new left records reached DiskFault has bad = tt
  rest_bad Y new left records reached (BadFeed place) has bad = inl (rest_record (AllFitIn (rows_of new.tables)) left.number left.at left.left records reached place has bad)
  rest_bad Y new left records reached (BadContent place) has bad = tt
  rest_bad Y new left records reached (NoBytes place) has bad = tt
  rest_bad Y new left records reached NoGeneration has bad = tt
  rest_bad Y new left records reached Memory has bad = tt

  pub cut_by_rest : (Y : Type 0) (old new : Node D) (feed left : State) (groups : List (List Change)) (records : List Change) (reached : ℕ) (fault : NodeFault) → HasTakenGroups old new feed groups left
      → HasRecords left.number left.at left.left records reached → IsOfFeed fault → IfBadFeed {X = Y} (Err fault) (IsFirstMisfit (AllFitIn (rows_of new.tables)) records reached) → IsCutShort disk_says told old new feed fault
  cut_by_rest Y old new feed left groups records reached fault taken has of bad = cut_by_feed Y old new feed left groups fault taken of (rest_bad Y new left records reached fault has bad)

  -- the next one was refused
  stopped_by_group : (mid new : Node D) (left behind : State) (changes : List Change) (end : ℕ) (fault : NodeFault) → HasTaken left behind (Some changes) → IsWhereItWas mid new → end ≡ behind.reached
      → IsRefused disk_says told mid new changes end fault → IsStoppedBy disk_says told new left fault
  stopped_by_group mid new left behind changes end LinkFault has where_is is refused = refused
  stopped_by_group mid new left behind changes end ContentsFailed has where_is is refused = tt
  stopped_by_group mid new left behind changes end DiskFault has where_is is refused = tt
  stopped_by_group mid new left behind changes end (BadFeed place) has where_is is refused =
      subst (λ (rows : AllRows). IsBadPlace (AllFitIn rows) left place) (sym where_is.rows)
      (group_misfit (AllFitIn (rows_of mid.tables)) left behind changes place has (subst (λ (e : ℕ). IsFirstMisfit (AllFitIn (rows_of mid.tables)) changes e place) is refused))
  stopped_by_group mid new left behind changes end (BadContent place) has where_is is refused =
      (changes, record { behind = behind.left; is_group = has.0; text = has.1; fit = subst (λ (rows : AllRows). AllFitIn rows changes) (sym where_is.rows) refused.0 }, refused.1)
  stopped_by_group mid new left behind changes end (NoBytes place) has where_is is refused =
      (changes, record { behind = behind.left; is_group = has.0; text = has.1; fit = subst (λ (rows : AllRows). AllFitIn rows changes) (sym where_is.rows) refused.0 }, refused.1)
  stopped_by_group mid new left behind changes end NoGeneration has where_is is refused = refused
  stopped_by_group mid new left behind changes end Memory has where_is is refused = tt

  pub cut_by_group : (old mid new : Node D) (feed left behind : State) (groups : List (List Change)) (changes : List Change) (end : ℕ) (fault : NodeFault) → HasTakenGroups old mid feed groups left
      → HasTaken left behind (Some changes) → IsWhereItWas mid new → end ≡ behind.reached → IsRefused disk_says told mid new changes end fault → IsCutShort disk_says told old new feed fault
  cut_by_group old mid new feed left behind groups changes end fault taken has where_is is refused = record {
    groups = groups;
    left = left;
    taken = groups_still old mid new feed left groups taken where_is;
    why = stopped_by_group mid new left behind changes end fault has where_is is refused;
  }
