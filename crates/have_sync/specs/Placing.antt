-- The files that `where` tells, by who asks. This project's own choice.
use Rattle.std.specs.Prelude.{ℕ, Bool, ◌&&◌, List, [], ◌∷◌, is_some, if◌then◌else◌}
use Rattle.depot_rows.specs.view_map.Mapping.{files_at, path_in}
use Rattle.depot_rows.specs.protect_table.Rights.{may}
use Rattle.depot_rows.specs.depot_model.declared.command.FileArgument.{FileArgument}
use Rattle.depot_rows.specs.depot_model.Arguments.{in_client_syntax}
use Rattle.depot_rows.specs.depot_model.Sorted.{all_inserted}
use Rattle.named_files.specs.declared.asker.Asker.{Asker}

abbrev pub is_told : Asker → List ℕ → Bool
is_told asker path = may asker.protects asker.who path 1 && is_some (path_in asker.view path)

-- the files of a path that an argument spells
abbrev pub spelled_files : Asker → FileArgument → List ℕ → List (List ℕ)
spelled_files asker argument path =
    if in_client_syntax asker.client argument.spec.pattern then all_inserted (files_at asker.view path) [] else path ∷ []
