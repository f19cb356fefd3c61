-- Parts of the rows that deeds make.
use Rattle.std.specs.Prelude.{ℕ, List, [], Option}
use Rattle.std.specs.Option.{option_map_or}
use Rattle.depot_rows.specs.depot_path.Path.{printed}
use Rattle.depot_rows.specs.declared.deed.Source.{Source}
use Rattle.depot_rows.specs.declared.deed.Stored.{Stored}

abbrev pub source_path : Option Source → List ℕ
source_path source = option_map_or (λ (s : Source). printed s.path) source []

abbrev pub source_rev : Option Source → ℕ
source_rev source = option_map_or (λ (s : Source). s.rev) source 0

abbrev pub content_digest : Option Stored → List ℕ
content_digest content = option_map_or (λ (s : Stored). s.digest) content []

abbrev pub content_length : Option Stored → ℕ
content_length content = option_map_or (λ (s : Stored). s.spot.length) content 0

abbrev pub content_place : Option Stored → ℕ
content_place content = option_map_or (λ (s : Stored). s.spot.at) content 0
