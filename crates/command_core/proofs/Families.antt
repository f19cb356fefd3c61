-- Every command is of one family.
use Rattle.std.proofs.Common.{◌≡◌, Bool, true, false, refl}
use Rattle.std.specs.Prelude.{◌||◌}
use Rattle.depot_rows.specs.depot_model.declared.command.Command.{Command}
use Rattle.depot_rows.specs.depot_model.declared.command.Command.TheVariants.{Shelve}
use Rattle.command_core.specs.Families.{is_change, is_history, is_job, is_opening, is_server, is_shelf, is_spec, is_submit, is_syncing}

pub of_one : (command : Command)
    → (is_spec command || (is_opening command || (is_change command || (is_syncing command || (is_history command || (is_server command || (is_job command || (is_submit command || is_shelf command)))))))) ≡ true
of_one (Shelve change replaces files) = refl
of_one _ = refl

-- so one that is of none of the others is one of shelved files
or_false : (a b : Bool) → a ≡ false → (a || b) ≡ true → b ≡ true
or_false false b e h = h
or_false true b e h = absurd cc

pub is_left : (command : Command) → is_spec command ≡ false → is_opening command ≡ false → is_change command ≡ false → is_syncing command ≡ false → is_history command ≡ false
    → is_server command ≡ false → is_job command ≡ false → is_submit command ≡ false → is_shelf command ≡ true
is_left command spec opening change syncing history server job submit =
    or_false (is_submit command) _ submit (or_false (is_job command) _ job (or_false (is_server command) _ server (or_false (is_history command) _ history
    (or_false (is_syncing command) _ syncing (or_false (is_change command) _ change (or_false (is_opening command) _ opening (or_false (is_spec command) _ spec (of_one command))))))))
