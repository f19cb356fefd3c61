-- Two sound depots with the same rows and contents.
use Rattle.std.proofs.Common.{List, sym}
use Rattle.depot_rows.specs.depot_model.Deeds.{Deed}
use Rattle.depot_rows.specs.depot_model.Records.{SameRows}
use Rattle.depot_rows.specs.depot_model.Rules.{IsSound}
use Rattle.depot_facts.specs.Contents.{SameContents}

pub record Twins (d e : List Deed) : Type 0 where
  pub left : IsSound d
  pub right : IsSound e
  pub rows : SameRows d e
  pub contents : SameContents d e

pub turned : (d e : List Deed) → Twins d e → Twins e d
turned d e twins = record { left = twins.right; right = twins.left; rows = λ key. sym (twins.rows key); contents = λ path n. sym (twins.contents path n) }
