-- The one command that a replica answers with contents, and the revisions that its rows show (Command-Line Reference, "p4 print").
use Rattle.std.specs.Prelude.{◌≡◌, ℕ, Bool, true, false, List, ◌∷◌, codes, Some, Result, Ok, Err}
use Rattle.std.specs.List.{AllByRecursion}
use Rattle.depot_model.specs.db_records.depot_path.Path.{printed}
use Rattle.depot_model.specs.declared.command.Command.{Command}
use Rattle.depot_model.specs.declared.command.Command.TheVariants.{Print}
use Rattle.depot_model.specs.declared.reply.Field.{Field}
use Rattle.depot_model.specs.declared.reply.Row.{Row}
use Rattle.depot_model.specs.declared.request.WordFault.{WordFault}
use Rattle.depot_model.specs.Deeds.{Deed}
use Rattle.depot_model.specs.Revisions.{Revision, revision}
use Rattle.depot_model.specs.Rows.{number_field, text_field}

abbrev pub is_print : Command → Bool
is_print (Print files) = true
is_print _ = false

-- words that are no command print nothing
abbrev pub prints : Result Command WordFault → Bool
prints (Ok command) = is_print command
prints (Err fault) = false

-- The row of a reply shows a revision of a file: the file, as it is printed, and the number come first.
pub record Shows (row : Row) (file : List ℕ) (rev : ℕ) : Type 0 where
  pub more : List Field
  pub fields : row.fields ≡ text_field (codes "depotFile") file ∷ number_field (codes "rev") rev ∷ more

-- It shows the revision of a depot that has this content.
pub record IsShown (d : List Deed) (row : Row) (content : List ℕ) : Type 0 where
  pub path : List ℕ
  pub rev : ℕ
  pub made : Revision
  pub shows : Shows row (printed path) rev
  pub there : revision d path rev ≡ Some made
  pub content_is : made.entry.content ≡ Some content

-- each row with a content shows the revision that has it
abbrev pub AreShown : List Deed → List Row → Type 0
AreShown d rows = AllByRecursion (λ (row : Row). (content : List ℕ) → row.content ≡ Some content → IsShown d row content) rows
