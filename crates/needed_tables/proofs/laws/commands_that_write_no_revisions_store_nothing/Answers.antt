use Rattle.needed_tables.proofs.Storing.{stores_nothing}
use Rattle.needed_tables.proofs.laws.commands_that_write_no_revisions_store_nothing.Goals as goal

pub returns : goal.returns
returns c = λ all from d request outcome away is. stores_nothing d request all from outcome away is
