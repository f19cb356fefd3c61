-- What the rows need of a depot so that a deed does to them what it does to the depot: that a change that is dropped hasn't landed, and that the
-- paths by which rows are kept are paths. This project's own choice.
use Rattle.std.specs.Prelude.{◌≡◌, IsTrue, List, None}
use Rattle.depot_model.specs.depot_path.Path.{is_path}
use Rattle.depot_model.specs.Deeds as model
use Rattle.depot_model.specs.Numbers.{landing}
use Rattle.depot_rows.specs.declared.deed.Deed.{Deed}
use Rattle.depot_rows.specs.declared.deed.Deed.TheVariants.{Drop, Open, Shut, Hold, Free, Got, Tag, Owe, Paid, Land}
use Rattle.depot_rows.specs.Effects.{AreOfPaths}

abbrev pub Needs : Deed → List model.Deed → Type 0
Needs (Drop n) d = landing d n ≡ None
Needs (Open o) d = IsTrue (is_path o.path)
Needs (Shut held) d = IsTrue (is_path held.path)
Needs (Hold held) d = IsTrue (is_path held.path)
Needs (Free held) d = IsTrue (is_path held.path)
Needs (Got held rev) d = IsTrue (is_path held.path)
Needs (Tag label path rev) d = IsTrue (is_path path)
Needs (Owe o) d = IsTrue (is_path o.path) × IsTrue (is_path o.from)
Needs (Paid held from how) d = IsTrue (is_path held.path) × IsTrue (is_path from)
Needs (Land l) d = AreOfPaths l.entries
Needs _ d = Unit {0}
