-- With which texts the files begin, as they are printed, whose client paths begin with a start: what stands on the depot side before its first
-- specifier, and what a specifier at the end of the client side carries over of the start (this project's own choice).
use Rattle.std.specs.Prelude.{ℕ, Bool, true, false, List, [], ◌∷◌, ◌++◌, length, drop, if◌then◌else◌, Option, Some, None}
use Rattle.depot_path.specs.Bytes.{begins_with}
use Rattle.depot_path.specs.Path.{printed}
use Rattle.depot_path.specs.Pattern.{literal}
use Rattle.depot_path.specs.declared.piece.Piece.{Piece}
use Rattle.depot_path.specs.declared.piece.Piece.TheVariants.{Byte}
use Rattle.view_map.specs.Carry.{is_exclusion}
use Rattle.view_map.specs.declared.line.ViewLine.{ViewLine}

-- nothing follows the first specifier
abbrev pub ends_with_first : List Piece → Bool
ends_with_first [] = false
ends_with_first (Byte b ∷ pattern) = ends_with_first pattern
ends_with_first (specifier ∷ []) = true
ends_with_first (specifier ∷ pattern) = false

-- the text before the first specifier, as it is printed
abbrev pub front : List Piece → List ℕ
front pattern = printed (literal pattern)

-- with what the files of these sides begin whose client paths begin with the start, unless there is none
abbrev pub beginning_of : List ℕ → List Piece → List Piece → Option (List ℕ)
beginning_of start depot client =
    if begins_with (front client) start then Some (front depot) else
    (if begins_with start (front client)
    then Some (if ends_with_first client then front depot ++ drop (length (front client)) start else front depot)
    else None)

-- the same of a line: an exclusion puts no files anywhere
abbrev pub beginning_below : List ℕ → ViewLine → Option (List ℕ)
beginning_below start line = if is_exclusion line.sign then None else beginning_of start line.depot line.client

abbrev pub onto : Option (List ℕ) → List (List ℕ) → List (List ℕ)
onto None texts = texts
onto (Some text) texts = text ∷ texts

-- with what the files of a view begin whose client paths begin with the start: a text for each line that may put files there
abbrev pub beginnings : List ℕ → List ViewLine → List (List ℕ)
beginnings start [] = []
beginnings start (line ∷ view) = onto (beginning_below start line) (beginnings start view)
