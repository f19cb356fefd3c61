-- The tables in which each deed changes rows (Helix Core database schema reference, the tables by their names).
use Rattle.std.specs.Prelude.{Bool, List, [], ◌∷◌}
use Rattle.std.specs.List.{list_all}
use Rattle.depot_model.specs.db_records.declared.table.TableId.{TableId}
use Rattle.depot_model.specs.db_records.declared.table.TableId.TheVariants as ids
use Rattle.depot_model.specs.Deeds.{Deed, Spec, Guard, Group, Count, Pend, Drop, Open, Shut, Hold, Free, Got, Tag, Owe, Paid, Land}
use Rattle.depot_model.specs.Tables.{is_in}

-- a pending change may be the greatest, which a counter tells; a file that is shut owes no resolve any more; a landed change has its row, the
-- revisions of its files and their integration records, and it is the greatest
abbrev pub deed_tables : Deed → List TableId
deed_tables (Count name value) = ids.Counter ∷ []
deed_tables (Group name users) = ids.Group ∷ []
deed_tables (Guard lines) = ids.Protect ∷ []
deed_tables (Spec kind name form) = ids.Domain ∷ []
deed_tables (Got held rev) = ids.Have ∷ []
deed_tables (Tag label path rev) = ids.Label ∷ []
deed_tables (Owe o) = ids.Resolve ∷ []
deed_tables (Paid held from how) = ids.Resolve ∷ []
deed_tables (Shut held) = ids.Resolve ∷ ids.Working ∷ []
deed_tables (Open o) = ids.Working ∷ []
deed_tables (Hold held) = ids.Working ∷ []
deed_tables (Free held) = ids.Working ∷ []
deed_tables (Pend p) = ids.Counter ∷ ids.Change ∷ []
deed_tables (Drop n) = ids.Change ∷ []
deed_tables (Land l) = ids.Counter ∷ ids.Integed ∷ ids.Change ∷ ids.Rev ∷ []

-- a deed changes rows of no other tables than these
abbrev pub stays_in : List TableId → Deed → Bool
stays_in tables deed = list_all (is_in tables) (deed_tables deed)
