-- The closed marks that are written. A reading takes any byte but `e` for a closed mark; that one with `m` is written is this project's own choice.
use Rattle.std.specs.Prelude.{◌+◌, ◌*◌, ◌++◌}
use Rattle.outside_api.specs.Disk.{Files}
use Rattle.disk_journal.specs.Text.{mark, blocks}
use Rattle.disk_journal.specs.Images.{Committed, Begins, IsRootWith}
use Rattle.disk_journal.specs.Stands.{Doubtful, nothing, group, opening}

-- behind the committed text stands the mark `@mx@` and a line end
abbrev pub HasClosedMark : Committed → Files → Type 0
HasClosedMark was image = Begins (blocks was.groups ++ mark 109) (image (1 + 2 * was.generation))

-- the root's mark of the next generation is `m`
abbrev pub HasClosedRoot : Committed → Files → Type 0
HasClosedRoot was image = IsRootWith was.generation 109 (image 0)

-- the mark of what was in doubt is closed so
abbrev pub IsShut : Committed → Doubtful → Files → Type 0
IsShut was nothing image = Unit {0}
IsShut was (group g) image = HasClosedMark was image
IsShut was (opening checkpoint) image = HasClosedRoot was image
