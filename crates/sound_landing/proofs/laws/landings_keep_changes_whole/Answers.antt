use Rattle.std.specs.List.{list_all}
use Rattle.std.proofs.lemmas.Bool.{and_from}
use Rattle.depot_rows.specs.depot_model.Numbers.{landings}
use Rattle.depot_rows.specs.depot_model.Rules.{has_entries}
use Rattle.sound_landing.proofs.laws.landings_keep_changes_whole.Goals as goal

pub returns : goal.returns
returns c = λ d l whole lands. and_from (has_entries l) (list_all has_entries (landings d)) lands.whole whole
