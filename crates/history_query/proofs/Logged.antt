-- What the rows of a file's revisions and of their changes say is what `filelog` tells.
use Rattle.std.proofs.Common.{◌≡◌, ℕ, ◌+◌, List, [], ◌∷◌, ◌++◌, Option, Some, None, refl, ap, ◌∙◌, map}
use Rattle.std.specs.Prelude.{IsTrue, codes, decimal, flat_map, length, option_map}
use Rattle.std.specs.List.{enumerate_from}
use Rattle.depot_rows.specs.depot_path.Path.{is_path, printed}
use Rattle.depot_rows.proofs.depot_path.Paths.{prints_path}
use Rattle.depot_rows.specs.db_records.declared.rows.IntegedRecord.{IntegedRecord}
use Rattle.depot_rows.specs.db_records.declared.rows.RevRecord.{RevRecord}
use Rattle.depot_rows.specs.depot_model.declared.reply.Field.{Field}
use Rattle.depot_rows.specs.depot_model.declared.request.Caller.{Caller}
use Rattle.depot_rows.specs.depot_model.Deeds.{Deed}
use Rattle.depot_rows.specs.depot_model.Records.{digest, printed_or_empty}
use Rattle.depot_rows.specs.depot_model.Revisions.{revision}
use Rattle.depot_rows.specs.depot_model.Rows.{if_any, number_field, path_field, row, text_field, action_word}
use Rattle.depot_rows.specs.depot_model.Rules.{IsSound}
use Rattle.depot_rows.specs.depot_model.Step.{nothing, tells}
use Rattle.depot_rows.specs.depot_model.Steps.History.{log_fields, up_to}
use Rattle.depot_rows.specs.depot_model.Steps.Listing.{Numbered}
use Rattle.reply_rows.proofs.Bare.{AreBare}
use Rattle.revision_reads.proofs.Downwards.{AreRevisions, made_up_to}
use Rattle.revision_reads.proofs.Landed.{change_row}
use Rattle.revision_reads.proofs.Seen.{one_seen, seen_field}
use Rattle.revision_reads.specs.History.{numbered_record, seen}
use Rattle.history_query.specs.Logging.{credit_fields, credits_in, digest_fields, fields_by, logged, logged_from, rows_logged, size_fields}
use Rattle.history_query.proofs.Printed.{digest_of, length_of, written}

sized : (index : List ℕ) (content : Option (List ℕ)) → size_fields index (digest_of content) (length_of content)
    ≡ if_any (λ (c : List ℕ). number_field (codes "fileSize" ++ index) (length c)) content
sized index None = refl
sized index (Some c) = written (λ t. size_fields index t (length c) ≡ number_field (codes "fileSize" ++ index) (length c) ∷ []) c (λ b bytes. refl)

summed : (index : List ℕ) (content : Option (List ℕ)) → digest_fields index (digest_of content)
    ≡ if_any (λ (c : List ℕ). text_field (codes "digest" ++ index) (digest c)) content
summed index None = refl
summed index (Some c) = written (λ t. digest_fields index t ≡ text_field (codes "digest" ++ index) t ∷ []) c (λ b bytes. refl)

module _ (d : List Deed) (caller : Caller) (path : List ℕ) where
  abbrev credits : ℕ → List IntegedRecord
  credits = credits_in d caller path

  -- the row of a revision, without the place of its content
  abbrev row_of : Numbered → RevRecord
  row_of r = record {
    path = printed r.made.entry.path;
    rev = r.number;
    change = r.made.landing.change;
    action = action_word r.made.entry.action;
    file_type = r.made.entry.file_type;
    digest = digest_of r.made.entry.content;
    length = length_of r.made.entry.content;
    at = 0;
    moved = printed_or_empty r.made.entry.moved;
  }

  one_logged : (n : ℕ) (r : Numbered) → IsSound d → IsTrue (is_path path) → revision d path r.number ≡ Some r.made
      → logged d (decimal n) credits (numbered_record r) ≡ log_fields d caller path (n, r)
  one_logged n r sound is e =
      ap (fields_by (decimal n) credits (row_of r)) (change_row d path (prints_path path is) sound r.number r.made e)
      ∙ (λ i. ((number_field (codes "rev" ++ decimal n) r.number ∷ number_field (codes "change" ++ decimal n) r.made.landing.change
      ∷ text_field (codes "action" ++ decimal n) (action_word r.made.entry.action) ∷ text_field (codes "type" ++ decimal n) r.made.entry.file_type
      ∷ number_field (codes "time" ++ decimal n) r.made.landing.moment ∷ text_field (codes "user" ++ decimal n) r.made.landing.user
      ∷ text_field (codes "client" ++ decimal n) r.made.landing.client
      ∷ sized (decimal n) r.made.entry.content i)
      ++ summed (decimal n) r.made.entry.content i)
      ++ (text_field (codes "desc" ++ decimal n) r.made.landing.text ∷ credit_fields (decimal n) (credits r.number)))

  all_logged : IsSound d → IsTrue (is_path path) → (n : ℕ) (items : List Numbered) → AreRevisions d path items
      → logged_from d n credits (map numbered_record items) ≡ flat_map (log_fields d caller path) (enumerate_from n items)
  all_logged sound is n [] are = refl
  all_logged sound is n (r ∷ items) are =
      (λ i. one_logged n r sound is are.0 i ++ all_logged sound is (n + 1) items are.1 i)

  -- what is told of the rows is what the model tells
  pub log_told : IsSound d → IsTrue (is_path path) → (found : Option Numbered)
      → tells (rows_logged d caller path (option_map (λ (r : Numbered). r.number) found))
      ≡ (elim found [
        | None ↦ nothing
        | Some r ↦ tells (row (path_field (codes "depotFile") path ∷ flat_map (log_fields d caller path) (enumerate_from 0 (up_to d path r.number))) ∷ [])
      ])
  log_told sound is None = refl
  log_told sound is (Some r) =
      ap (λ (fields : List Field). tells (row (path_field (codes "depotFile") path ∷ fields) ∷ []))
      (all_logged sound is 0 (up_to d path r.number) (made_up_to d path r.number))

  pub logs_bare : (last : Option ℕ) → AreBare (rows_logged d caller path last)
  logs_bare None = tt
  logs_bare (Some n) = (refl, tt)

pub number_told : (row : Option RevRecord) (found : Option Numbered) → option_map seen row ≡ option_map numbered_record found
    → option_map (λ (r : RevRecord). r.rev) row ≡ option_map (λ (r : Numbered). r.number) found
number_told None None e = refl
number_told (Some r) None e = absurd cc
number_told None (Some f) e = absurd cc
number_told (Some r) (Some f) e = ap Some (seen_field (λ (x : RevRecord). x.rev) r (numbered_record f) (one_seen (seen r) (numbered_record f) e))
