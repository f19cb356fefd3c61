-- Where one line of a view takes a file (Command-Line Reference, "Views"). That the client side's own cut must give the same texts is this
-- project's own choice; by it a line takes no two files to one client path.
use Rattle.std.specs.Prelude.{ℕ, Bool, true, false, List, if◌then◌else◌, Option, Some, None, is_some, option_and_then}
use Rattle.std.specs.List.{list_any}
use Rattle.std.specs.Cmp.Lexicographic.{pointwise}
use Rattle.depot_path.specs.Bytes.{same}
use Rattle.depot_path.specs.Path.{is_path}
use Rattle.depot_path.specs.Fit.{fits, texts, filled}
use Rattle.depot_path.specs.declared.piece.Piece.{Piece}
use Rattle.view_map.specs.Specifiers.{same_specifiers, answering}
use Rattle.view_map.specs.declared.line.Sign.{Sign}
use Rattle.view_map.specs.declared.line.Sign.TheVariants.{Overlay, Exclusion}
use Rattle.view_map.specs.declared.line.ViewLine.{ViewLine}

abbrev pub same_texts : Option (List (List ℕ)) → List (List ℕ) → Bool
same_texts None ts = false
same_texts (Some us) ts = pointwise same us ts

-- the path, where the pattern's own cut of it gives these texts
abbrev pub confirmed : List Piece → List ℕ → List (List ℕ) → Option (List ℕ)
confirmed pattern path ts = if same_texts (texts pattern path) ts then Some path else None

-- the path that a pattern makes of texts, where it is one and the pattern's own cut of it gives these texts
abbrev pub made_of : List Piece → List (List ℕ) → Option (List ℕ)
made_of to ts = if is_path (filled to ts) then confirmed to (filled to ts) ts else None

-- the path that a pattern makes of the texts for which another's specifiers stand in a path
abbrev pub carried : List Piece → List Piece → List ℕ → Option (List ℕ)
carried from to path = option_and_then (λ ts. made_of to (answering from to ts)) (texts from path)

-- the client path to which the sides of a line take a file
abbrev pub client_path : ViewLine → List ℕ → Option (List ℕ)
client_path line file = carried line.depot line.client file

-- the file that the sides of a line take to a client path
abbrev pub depot_file : ViewLine → List ℕ → Option (List ℕ)
depot_file line path = carried line.client line.depot path

-- both sides of a line have the same specifiers
abbrev pub is_paired : ViewLine → Bool
is_paired line = same_specifiers line.depot line.client

abbrev pub is_exclusion : Sign → Bool
is_exclusion Exclusion = true
is_exclusion _ = false

abbrev pub is_overlay : Sign → Bool
is_overlay Overlay = true
is_overlay _ = false

abbrev pub has_overlay : List ViewLine → Bool
has_overlay lines = list_any (λ (line : ViewLine). is_overlay line.sign) lines

-- an exclusion takes each file that fits its depot side, another line each that it takes to a client path
abbrev pub takes : List ℕ → ViewLine → Bool
takes file line = if is_exclusion line.sign then fits line.depot file else is_some (client_path line file)

-- some line's depot side fits a file
abbrev pub some_depot_fits : List ViewLine → List ℕ → Bool
some_depot_fits lines file = list_any (λ (line : ViewLine). fits line.depot file) lines

-- some line's client side fits a client path
abbrev pub some_client_fits : List ViewLine → List ℕ → Bool
some_client_fits lines path = list_any (λ (line : ViewLine). fits line.client path) lines
