-- `admin checkpoint` (Command-Line Reference, "p4 admin"; Server Administrator Guide, "Backup and recovery").
use Rattle.std.specs.Prelude.{ℕ, ◌+◌, List, [], ◌∷◌, codes, Some, unwrap_or, nat_le}
use Rattle.depot_model.specs.declared.refusal.Refusal.TheVariants.{OverLimit}
use Rattle.depot_model.specs.declared.refusal.Limit.TheVariants.{Generation}
use Rattle.depot_model.specs.Deeds.{Deed, Count}
use Rattle.depot_model.specs.Latest.{count_of}
use Rattle.depot_model.specs.Rows.{row, number_field}
use Rattle.depot_model.specs.Step.{Step, does, unless, refuse_if}

abbrev pub generation : List Deed → ℕ
generation d = unwrap_or (count_of d (codes "journal")) 0

abbrev pub checkpoint : List Deed → Step
checkpoint d = unless (refuse_if (nat_le 4095 (generation d)) (OverLimit Generation) ∷ [])
    (does (Count (codes "journal") (Some (generation d + 1)) ∷ []) (row (number_field (codes "journal") (generation d + 1) ∷ [])))
