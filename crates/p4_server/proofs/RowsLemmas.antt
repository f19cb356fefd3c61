-- The text of rows one after another, up to one that failed.
use Rattle.std.proofs.Common.{◌≡◌, ℕ, ◌≤◌, List, ◌∷◌, ◌++◌, Option, Err, arith}
use Rattle.std.specs.List.{flat_map}
use Rattle.outside_api.specs.Told.{extended}
use Rattle.end_lines.proofs.Tellings.{front_last}
use Rattle.p4_server.specs.declared.rows.RowsFault.{RowsFault}
use Rattle.p4_server.specs.declared.rows.RowsFault.TheVariants.{Sink, Memory}
use Rattle.p4_server.specs.Rows.{Prints}

module _ {A : Type 0} (text_of : A → List ℕ) where
  pub prints_last : (before mid now : Option (List ℕ)) (faults_before faults_mid faults_now : ℕ) (xs ys : List A) (x : A) (fault : RowsFault) → faults_before ≤ faults_mid
      → mid ≡ extended before (flat_map text_of xs) → Prints mid now faults_mid faults_now (text_of x) (Err fault) → Prints before now faults_before faults_now (flat_map text_of (xs ++ x ∷ ys)) (Err fault)
  prints_last before mid now faults_before faults_mid faults_now xs ys x Memory le e prints = tt
  prints_last before mid now faults_before faults_mid faults_now xs ys x Sink le e prints = (omega (arith, prints.0), front_last text_of before mid now xs ys x e prints.1)
