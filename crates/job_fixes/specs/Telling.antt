-- Further deeds of the code that are the model's. This project's own choice.
use Rattle.std.specs.Prelude.{◌≡◌, ◌++◌, List}
use Rattle.depot_rows.specs.depot_model.Deeds as model
use Rattle.depot_rows.specs.declared.deed.Deed.{Deed}
use Rattle.depot_facts.specs.Following.{AreTold}

-- deeds, with further ones behind them that are the model's
abbrev pub Tells : List Deed → List Deed → List model.Deed → Type 0
Tells before now told = (more : List Deed) × ((now ≡ before ++ more) × AreTold more told)
