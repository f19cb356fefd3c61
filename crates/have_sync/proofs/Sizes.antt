-- What the row of a revision says of the size of its content is what the depot says.
use Rattle.std.proofs.Common.{◌≡◌, ℕ, List, [], ◌∷◌, length, Option, Some, None, refl, ap, ◌∙◌, arith}
use Rattle.std.specs.Prelude.{option_and_then, option_map}
use Rattle.hex.specs.Hex.{encode_upper, encode_with}
use Rattle.md5.specs.Md5.{md5}
use Rattle.md5.proofs.StandardFacts.{length-md5}
use Rattle.depot_rows.specs.db_records.declared.record.Record.{Record}
use Rattle.depot_rows.specs.db_records.declared.record.Record.TheVariants.{Rev}
use Rattle.depot_rows.specs.db_records.declared.rows.RevRecord.{RevRecord}
use Rattle.depot_rows.specs.depot_model.Deeds.{Deed}
use Rattle.depot_rows.specs.depot_model.Records.{digest, rev_record, unplaced}
use Rattle.depot_rows.specs.depot_model.Revisions.{Revision, revision}
use Rattle.depot_rows.specs.depot_model.Steps.Syncing.{size_of}
use Rattle.have_sync.specs.Syncing.{size_in, sized}

-- the size in any row
abbrev size_told : Option Record → Option ℕ
size_told (Some (Rev r)) = sized r.digest r.length
size_told _ = None

told_of : (row : Option RevRecord) → size_in row ≡ size_told (option_map (λ r. unplaced (Rev r)) row)
told_of None = refl
told_of (Some r) = refl

-- no digest is empty
of_content : (content : Option (List ℕ))
    → sized (elim content [ None ↦ [] | Some c ↦ digest c ]) (elim content [ None ↦ 0 | Some c ↦ length c ]) ≡ option_map length content
unfolding encode_with
of_content None = refl
of_content (Some c) = go (md5 c) (length-md5 c)
  where
    go : (bytes : List ℕ) → length bytes ≡ 16 → sized (encode_upper bytes) (length c) ≡ Some (length c)
    go [] e = absurd (omega (arith, e))
    go (b ∷ bytes) e = refl

of_revision : (n : ℕ) (r : Option Revision) → size_told (option_map (rev_record n) r) ≡ option_and_then (λ (r : Revision). option_map length r.entry.content) r
of_revision n None = refl
of_revision n (Some r) = of_content r.entry.content

pub size_read : (d : List Deed) (path : List ℕ) (n : ℕ) (row : Option RevRecord)
    → option_map (λ r. unplaced (Rev r)) row ≡ option_map (rev_record n) (revision d path n) → size_in row ≡ size_of d path n
size_read d path n row is = told_of row ∙ ap size_told is ∙ of_revision n (revision d path n)
