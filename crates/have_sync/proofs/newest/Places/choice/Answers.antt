use Rattle.depot_rows.specs.db_records.declared.table.TableId.TheVariants as tables
use Rattle.have_sync.proofs.newest.Places.choice.Goals as goal

pub returns-clause-places : goal.returns-clause-places
returns-clause-places c = λ rows of. record { heads = c.in_ok-found.ensures.heads (rows tables.Rev) of.heads; haves = of.haves; haves_are = of.haves_are }

pub returns-clause-choice : goal.returns-clause-choice
returns-clause-choice c = λ d of sound has there. c.in_ok-found.ensures.choice d of.heads sound has there
