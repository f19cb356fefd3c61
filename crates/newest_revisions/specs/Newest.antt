-- The revision of a file that is chosen, with its row, and which arguments ask for none. This project's own choice.
use Rattle.std.specs.Prelude.{◌≡◌, ℕ, Bool, true, false, List, Option, Some, None, IfSome, option_map}
use Rattle.std.specs.Option.{option_copied}
use Rattle.depot_rows.specs.depot_path.declared.revision.Wanted.{Wanted}
use Rattle.depot_rows.specs.depot_path.declared.revision.Wanted.TheVariants.{Head}
use Rattle.depot_rows.specs.depot_model.Choice.{Choice, PassedOver, At}
use Rattle.depot_rows.specs.depot_model.Deeds.{Deed}
use Rattle.depot_rows.specs.depot_model.Records.{rev_record}
use Rattle.depot_rows.specs.depot_model.Revisions.{revision}
use Rattle.named_files.specs.declared.listing.Listing.{Listing}
use Rattle.named_files.specs.declared.listing.Listing.TheVariants.{Submitted}
use Rattle.revision_reads.specs.History.{seen}
use Rattle.newest_revisions.specs.declared.newest.Revision.{Revision}

-- a revision of a file has its row, and none where the file has no such revision
abbrev pub HasRow : List Deed → List ℕ → Revision → Type 0
HasRow d path r = option_map seen (option_copied r.row) ≡ option_map (rev_record r.rev) (revision d path r.rev)

abbrev pub choice_of : Option Revision → Choice
choice_of None = PassedOver
choice_of (Some r) = At r.rev

-- what was found of a file is its revision at a choice, with its row
pub record IsAt (d : List Deed) (path : List ℕ) (choice : Choice) (found : Option Revision) : Type 0 where
  pub choice_is : choice_of found ≡ choice
  pub has_row : IfSome found (HasRow d path)

-- no revision is asked for
abbrev pub asks_for_none : Wanted → Bool
asks_for_none Head = true
asks_for_none _ = false

abbrev pub is_submitted : Listing → Bool
is_submitted Submitted = true
is_submitted _ = false
