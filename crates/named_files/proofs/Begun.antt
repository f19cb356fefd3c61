-- A file at whose place a pattern fits begins with the literal text of the pattern there.
use Rattle.std.proofs.Common.{◌≡◌, ℕ, Bool, true, false, List, Option, Some, None}
use Rattle.std.specs.Prelude.{if◌then◌else◌}
use Rattle.std.proofs.lemmas.Bool.{false≢true}
use Rattle.depot_rows.proofs.depot_path.Rows.{begins_literal}
use Rattle.depot_rows.specs.depot_path.Bytes.{begins_with}
use Rattle.depot_rows.specs.depot_path.Fit.{fits}
use Rattle.depot_rows.specs.depot_path.Path.{printed}
use Rattle.depot_rows.specs.depot_path.Pattern.{literal}
use Rattle.depot_rows.specs.depot_path.declared.piece.Piece.{Piece}
use Rattle.depot_rows.specs.view_map.Mapping.{path_in}
use Rattle.depot_rows.specs.depot_model.Arguments.{fits_at, in_client_syntax}
use Rattle.named_files.specs.Asked.{begins_at, is_begun, is_placed}
use Rattle.named_files.specs.declared.asker.Asker.{Asker}

place_begun : (pattern : List Piece) (place : Option (List ℕ)) → fits_at pattern place ≡ true → begins_at (printed (literal pattern)) place ≡ true
place_begun pattern None e = absurd (false≢true e)
place_begun pattern (Some place) e = begins_literal pattern place e

pub placed_begun : (asker : Asker) (pattern : List Piece) (path : List ℕ) → is_placed asker pattern path ≡ true → is_begun asker pattern path ≡ true
placed_begun asker pattern path e = go (in_client_syntax asker.client pattern) e
  where
    go : (b : Bool) → (if b then fits_at pattern (path_in asker.view path) else fits pattern path) ≡ true
        → (if b then begins_at (printed (literal pattern)) (path_in asker.view path) else begins_with (printed path) (printed (literal pattern))) ≡ true
    go true h = place_begun pattern (path_in asker.view path) h
    go false h = begins_literal pattern path h
