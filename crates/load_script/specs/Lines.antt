-- What the mode `load` prints: how many commands its script has, and how many changes, live files and bytes of content the depot has after them. This
-- project's own choice.
use Rattle.std.specs.Prelude.{List, ℕ, ◌++◌, codes, decimal}
use Rattle.load_script.specs.declared.lines.LoadFigures.{LoadFigures}

abbrev pub line_of : List ℕ → ℕ → List ℕ
line_of word n = word ++ codes " " ++ decimal n ++ codes "\n"

abbrev pub lines_of : LoadFigures → List ℕ
lines_of figures =
    line_of (codes "commands") figures.commands ++ line_of (codes "changes") figures.changes ++ line_of (codes "files") figures.files
    ++ line_of (codes "bytes") figures.bytes
