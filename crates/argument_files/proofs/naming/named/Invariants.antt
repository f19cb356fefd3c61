use Rattle.std.proofs.Common.{◌≡◌, ◌++◌, List, drop}
use Rattle.depot_rows.specs.depot_model.Arguments.{named}
use Rattle.depot_rows.specs.depot_model.Deeds.{Deed}
use Rattle.depot_rows.specs.table_changes.Changed.{rows_of}
use Rattle.named_files.specs.Asked.{IsAsker}
use Rattle.argument_files.specs.Naming.{NamesBy}
use Rattle.argument_files.proofs.naming.named.Given as goal

abbrev pub invariant-loop-path : goal.invariant-loop-path
invariant-loop-path l =
    (d : List Deed) → NamesBy (rows_of l.tables) d l.mapped_only → IsAsker d l.caller l.asker →
    l.found ++ named l.mapped_only d l.caller (drop l.path-index l.files) l.argument ≡ named l.mapped_only d l.caller l.files l.argument
