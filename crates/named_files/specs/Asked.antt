-- Who asks, and which files an argument names by the rights and the view alone.
use Rattle.std.specs.Prelude.{◌≡◌, ℕ, Bool, ◌&&◌, List, if◌then◌else◌, Option, Some, None, false}
use Rattle.depot_rows.specs.depot_path.Bytes.{begins_with}
use Rattle.depot_rows.specs.depot_path.Fit.{fits}
use Rattle.depot_rows.specs.depot_path.Path.{printed}
use Rattle.depot_rows.specs.depot_path.Pattern.{literal}
use Rattle.depot_rows.specs.depot_path.declared.piece.Piece.{Piece}
use Rattle.depot_rows.specs.depot_path.declared.revision.Wanted.{Wanted}
use Rattle.depot_rows.specs.view_map.Mapping.{mapped, path_in}
use Rattle.depot_rows.specs.protect_table.Rights.{may}
use Rattle.depot_rows.specs.depot_model.declared.request.Caller.{Caller}
use Rattle.depot_rows.specs.depot_model.Arguments.{fits_at, in_client_syntax}
use Rattle.depot_rows.specs.depot_model.Asking.{protects, who_of, view}
use Rattle.depot_rows.specs.depot_model.Deeds.{Deed}
use Rattle.revision_reads.specs.Shown.{shown_in}
use Rattle.named_files.specs.declared.asker.Asker.{Asker}

-- the asker of a caller of a depot
pub record IsAsker (d : List Deed) (caller : Caller) (asker : Asker) : Type 0 where
  pub client : asker.client ≡ caller.client
  pub protects : asker.protects ≡ protects d
  pub who : asker.who ≡ who_of d caller
  pub view : asker.view ≡ view d caller.client

-- the pattern fits a file, or in client syntax the place where the view puts it
abbrev pub is_placed : Asker → List Piece → List ℕ → Bool
is_placed asker pattern path = if in_client_syntax asker.client pattern then fits_at pattern (path_in asker.view path) else fits pattern path

-- the pattern names a file that the asker may list
abbrev pub is_named : Asker → List Piece → List ℕ → Bool
is_named asker pattern path = may asker.protects asker.who path 1 && is_placed asker pattern path

-- the pattern fits a file, or in client syntax the place where the view shows it at a choice
abbrev pub is_shown_at : List Deed → Caller → Asker → List Piece → Wanted → List ℕ → Bool
is_shown_at d caller asker pattern wanted path =
    if in_client_syntax asker.client pattern then fits_at pattern (shown_in d caller wanted (mapped asker.view path)) else fits pattern path

-- the pattern names so a file that the asker may list
abbrev pub is_shown : List Deed → Caller → Asker → List Piece → Wanted → List ℕ → Bool
is_shown d caller asker pattern wanted path = may asker.protects asker.who path 1 && is_shown_at d caller asker pattern wanted path

-- the place where the view puts a file, in client syntax, or the file itself begins with the literal text of the pattern, as they are printed
abbrev pub begins_at : List ℕ → Option (List ℕ) → Bool
begins_at start None = false
begins_at start (Some place) = begins_with (printed place) start

abbrev pub is_begun : Asker → List Piece → List ℕ → Bool
is_begun asker pattern path =
    if in_client_syntax asker.client pattern
    then begins_at (printed (literal pattern)) (path_in asker.view path)
    else begins_with (printed path) (printed (literal pattern))
