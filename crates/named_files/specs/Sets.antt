-- Which files of a list an argument names, and what is read for it. This project's own choice.
use Rattle.std.specs.Prelude.{ℕ, Bool, true, false, ◌==◌, ◌&&◌, List, [], ◌∷◌, Option, Some, None, is_some}
use Rattle.depot_rows.specs.depot_path.declared.file_spec.FileSpec.{FileSpec}
use Rattle.depot_rows.specs.depot_path.declared.revision.Wanted.TheVariants.{Head}
use Rattle.depot_rows.specs.db_records.declared.record.Record.{Record}
use Rattle.depot_rows.specs.db_records.declared.record.Record.TheVariants.{Working}
use Rattle.depot_rows.specs.db_records.declared.table.TableId.TheVariants as tables
use Rattle.depot_rows.specs.table_changes.Changed.{AllRows}
use Rattle.depot_rows.specs.depot_model.declared.command.FileArgument.{FileArgument}
use Rattle.depot_rows.specs.depot_model.declared.refusal.Refusal.TheVariants.{NoSuchFile, NotOpen}
use Rattle.depot_rows.specs.depot_model.declared.reply.Row.{Row}
use Rattle.depot_rows.specs.depot_model.declared.request.Caller.{Caller}
use Rattle.depot_rows.specs.depot_model.Arguments.{names}
use Rattle.depot_rows.specs.depot_model.Deeds.{Deed}
use Rattle.depot_rows.specs.depot_model.Opened.{opened}
use Rattle.depot_rows.specs.depot_model.Refusals.{refusal_row}
use Rattle.depot_rows.specs.depot_model.Rules.{IsSound}
use Rattle.depot_rows.specs.depot_model.Steps.Listing.{chosen_revision}
use Rattle.depot_rows.specs.depot_model.Steps.Reverting.{is_selected}
use Rattle.depot_rows.specs.Standing.{HasRows}
use Rattle.named_files.specs.Asked.{IsAsker}
use Rattle.named_files.specs.Listed.{listing_table}
use Rattle.named_files.specs.declared.asker.Asker.{Asker}
use Rattle.named_files.specs.declared.listing.Listing.{Listing}
use Rattle.named_files.specs.declared.listing.Listing.TheVariants.{Had, OpenedBy, Submitted}

-- the asker is that of the depot, and the rows of the list are the depot's
pub record Reads (caller : Caller) (asker : Asker) (listing : Listing) (rows : AllRows) (d : List Deed) : Type 0 where
  pub sound : IsSound d
  pub asked : IsAsker d caller asker
  pub listed : HasRows rows d (listing_table listing)

-- and so are those of the tables by which a file is shown at a choice of revisions
pub record ShownReads (caller : Caller) (asker : Asker) (listing : Listing) (rows : AllRows) (d : List Deed) : Type 0 where
  pub sound : IsSound d
  pub asked : IsAsker d caller asker
  pub listed : HasRows rows d (listing_table listing)
  pub has_have : HasRows rows d tables.Have
  pub has_label : HasRows rows d tables.Label
  pub has_domain : HasRows rows d tables.Domain
  pub has_rev : HasRows rows d tables.Rev
  pub has_change : HasRows rows d tables.Change

-- or at the heads
pub record HeadReads (caller : Caller) (asker : Asker) (listing : Listing) (rows : AllRows) (d : List Deed) : Type 0 where
  pub sound : IsSound d
  pub asked : IsAsker d caller asker
  pub listed : HasRows rows d (listing_table listing)
  pub has_domain : HasRows rows d tables.Domain
  pub has_rev : HasRows rows d tables.Rev

-- an argument's files, whichever revision it asks for
abbrev pub at_head : FileSpec → FileSpec
at_head spec = record spec { wanted = Head }

-- the argument names the file, and chooses one of its revisions
abbrev pub is_listed : Caller → List Deed → FileArgument → List ℕ → Bool
is_listed caller d argument path = names false d caller argument.spec path && is_some (chosen_revision d caller argument path)

-- the rows for an argument that names no file of a list
abbrev pub rows_without : Listing → FileArgument → List Row
rows_without (Had client) argument = refusal_row (NoSuchFile argument.text) ∷ []
rows_without (OpenedBy client) argument = refusal_row (NotOpen argument.text) ∷ []
rows_without Submitted argument = refusal_row (NoSuchFile argument.text) ∷ []

-- a row of a file opened in the change, where one is given
abbrev pub selected_in : Option ℕ → Option Record → Bool
selected_in None (Some (Working r)) = true
selected_in (Some n) (Some (Working r)) = r.change == n
selected_in change _ = false

-- the argument names the file, and the client has it opened in the change
abbrev pub is_chosen : Caller → Option ℕ → List Deed → FileArgument → List ℕ → Bool
is_chosen caller change d argument path = names true d caller argument.spec path && is_selected change (opened d caller.client path)
