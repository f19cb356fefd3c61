-- The step of a chosen revision's row and of the place of its content is what the model prints.
use Rattle.std.proofs.Common.{arith, ◌≡◌, ℕ, List, [], ◌∷◌, Option, Some, None, refl, sym, ap, subst, ◌∙◌}
use Rattle.std.specs.Prelude.{codes, length, option_and_then, option_map}
use Rattle.hex.specs.Hex.{encode_upper, encode_with}
use Rattle.md5.specs.Md5.{md5}
use Rattle.md5.proofs.StandardFacts.{length-md5}
use Rattle.depot_rows.specs.depot_path.Path.{printed}
use Rattle.depot_rows.specs.db_records.declared.key.Key.TheVariants as keys
use Rattle.depot_rows.specs.db_records.declared.record.Record.TheVariants.{Rev}
use Rattle.depot_rows.specs.db_records.declared.rows.RevRecord.{RevRecord}
use Rattle.depot_rows.specs.table_changes.Changed.{AllRows}
use Rattle.depot_rows.specs.depot_model.Choice.{Choice, PassedOver, At}
use Rattle.depot_rows.specs.depot_model.Deeds.{Deed}
use Rattle.depot_rows.specs.depot_model.Records.{digest}
use Rattle.depot_rows.specs.depot_model.Revisions.{Revision, revision}
use Rattle.depot_rows.specs.depot_model.Rows.{path_field, number_field, text_field, if_any, action_word}
use Rattle.depot_rows.specs.depot_model.Step.{Step as ModelStep, nothing, tells}
use Rattle.depot_rows.specs.depot_model.Steps.History.{print_row}
use Rattle.depot_rows.specs.depot_model.Steps.Listing.{Numbered, numbered}
use Rattle.depot_rows.specs.depot_model.Steps.Submitting.{content_at}
use Rattle.depot_rows.specs.Standing.{row_in}
use Rattle.reply_rows.specs.Made.{IsMade, ComeFrom, contents_of, waiting}
use Rattle.reply_rows.proofs.Bare.{tells_made}
use Rattle.revision_reads.proofs.Seen.{one_seen, seen_field}
use Rattle.revision_reads.specs.History.{numbered_record, seen}
use Rattle.history_query.specs.Printing.{awaited, length_fields, print_row_of, prints, places}

abbrev pub digest_of : Option (List ℕ) → List ℕ
digest_of content = elim content [ None ↦ [] | Some c ↦ digest c ]

abbrev pub length_of : Option (List ℕ) → ℕ
length_of content = elim content [ None ↦ 0 | Some c ↦ length c ]

-- the digest of a content isn't empty
pub written : (P : List ℕ → Type 0) (c : List ℕ) → ((b : ℕ) (bytes : List ℕ) → P (b ∷ bytes)) → P (digest c)
unfolding encode_with
written P c each = go (md5 c) (length-md5 c)
  where
    go : (bytes : List ℕ) → length bytes ≡ 16 → P (encode_upper bytes)
    go [] e = absurd (omega (arith, e))
    go (b ∷ bytes) e = each _ _

sized : (content : Option (List ℕ)) → length_fields (digest_of content) (length_of content) ≡ if_any (λ (c : List ℕ). number_field (codes "fileSize") (length c)) content
sized None = refl
sized (Some c) = written (λ t. length_fields t (length c) ≡ number_field (codes "fileSize") (length c) ∷ []) c (λ b bytes. refl)

waits : (content : Option (List ℕ)) → awaited (digest_of content) ≡ option_map (λ _. []) content
waits None = refl
waits (Some c) = written (λ t. awaited t ≡ Some []) c (λ b bytes. refl)

-- the row of a revision, without the place of its content
seen_row : (path : List ℕ) (r : RevRecord) (made : Numbered) → seen r ≡ numbered_record made → print_row_of path r ≡ waiting (print_row path made)
seen_row path r made e =
    let change : r.change ≡ made.made.landing.change = seen_field (λ (x : RevRecord). x.change) r (numbered_record made) e in
    let number : r.rev ≡ made.number = seen_field (λ (x : RevRecord). x.rev) r (numbered_record made) e in
    let action : r.action ≡ action_word made.made.entry.action = seen_field (λ (x : RevRecord). x.action) r (numbered_record made) e in
    let kind : r.file_type ≡ made.made.entry.file_type = seen_field (λ (x : RevRecord). x.file_type) r (numbered_record made) e in
    let sum : r.digest ≡ digest_of made.made.entry.content = seen_field (λ (x : RevRecord). x.digest) r (numbered_record made) e in
    let size : r.length ≡ length_of made.made.entry.content = seen_field (λ (x : RevRecord). x.length) r (numbered_record made) e in
    (λ i. record {
      fields = path_field (codes "depotFile") path ∷ number_field (codes "rev") (number i) ∷ number_field (codes "change") (change i)
          ∷ text_field (codes "action") (action i) ∷ text_field (codes "type") (kind i) ∷ length_fields (sum i) (size i);
      content = awaited (sum i);
    })
    ∙ (λ i. record {
      fields = path_field (codes "depotFile") path ∷ number_field (codes "rev") made.number ∷ number_field (codes "change") made.made.landing.change
          ∷ text_field (codes "action") (action_word made.made.entry.action) ∷ text_field (codes "type") made.made.entry.file_type
          ∷ sized made.made.entry.content i;
      content = waits made.made.entry.content i;
    })

abbrev option_content : Option Revision → Option (List ℕ)
option_content o = option_and_then (λ (r : Revision). r.entry.content) o

module _ (all : AllRows) (d e : List Deed) (path : List ℕ) where
  -- the content of a revision stands at the spot of its row
  places_stand : (r : RevRecord) (content : Option (List ℕ)) → row_in all (keys.Rev (printed path) r.rev) ≡ Some (Rev r) → content_at d path r.rev ≡ content
      → r.digest ≡ digest_of content → ComeFrom all d (contents_of ((record { fields = []; content = content }) ∷ [])) (places r.digest r)
  places_stand r None there is sum = subst (λ (t : List ℕ). ComeFrom all d [] (places t r)) (sym sum) tt
  places_stand r (Some c) there is sum =
      subst (λ (t : List ℕ). ComeFrom all d (c ∷ []) (places t r)) (sym sum)
      (written (λ t. ComeFrom all d (c ∷ []) (places t r)) c
      (λ b bytes. (record { path = path; rev = r.rev; row = r; there = there; at = refl; content_is = is }, tt)))

  revision_made : (r : RevRecord) (n : ℕ) (made : Revision) → revision d path n ≡ Some made → seen r ≡ numbered_record (record { number = n; made = made })
      → row_in all (keys.Rev (printed path) r.rev) ≡ Some (Rev r) → IsMade all d e (tells (print_row path (record { number = n; made = made }) ∷ [])) (prints path (Some r))
  revision_made r n made found is there =
      let number : r.rev ≡ n = seen_field (λ (x : RevRecord). x.rev) r (numbered_record (record { number = n; made = made })) is in
      let sum : r.digest ≡ digest_of made.entry.content = seen_field (λ (x : RevRecord). x.digest) r (numbered_record (record { number = n; made = made })) is in
      record {
        deeds = tt;
        rows = ap (λ x. x ∷ []) (seen_row path r (record { number = n; made = made }) is);
        stores = refl;
        reads = places_stand r made.entry.content there (ap (content_at d path) number ∙ content_of found) sum;
      }
    where
      content_of : revision d path n ≡ Some made → content_at d path n ≡ made.entry.content
      content_of f = go (revision d path n) f
        where
          go : (o : Option Revision) → o ≡ Some made → option_content o ≡ made.entry.content
          go (Some x) f = cc
          go None f = absurd cc

  pub printed_made : (choice : Choice) (row : Option RevRecord) → option_map seen row ≡ option_map numbered_record (numbered d path choice)
      → ((r : RevRecord) → row ≡ Some r → row_in all (keys.Rev (printed path) r.rev) ≡ Some (Rev r))
      → IsMade all d e (elim (numbered d path choice) as (λ _. ModelStep) [ None ↦ nothing | Some r ↦ tells (print_row path r ∷ []) ]) (prints path row)
  printed_made PassedOver None is there = tells_made all d e [] tt
  printed_made PassedOver (Some r) is there = absurd cc
  printed_made (At n) row is there = go (revision d path n) refl row is there
    where
      go : (found : Option Revision) → revision d path n ≡ found → (row : Option RevRecord)
          → option_map seen row ≡ option_map numbered_record (elim found as (λ _. Option Numbered) [ None ↦ None | Some r ↦ Some (record { number = n; made = r }) ])
          → ((r : RevRecord) → row ≡ Some r → row_in all (keys.Rev (printed path) r.rev) ≡ Some (Rev r))
          → IsMade all d e (elim (elim found as (λ _. Option Numbered) [ None ↦ None | Some r ↦ Some (record { number = n; made = r }) ]) as (λ _. ModelStep) [ None ↦ nothing | Some r ↦ tells (print_row path r ∷ []) ])
          (prints path row)
      go None f None is there = tells_made all d e [] tt
      go None f (Some r) is there = absurd cc
      go (Some made) f None is there = absurd cc
      go (Some made) f (Some r) is there =
          revision_made r n made f (one_seen (seen r) (numbered_record (record { number = n; made = made })) is) (there r refl)
