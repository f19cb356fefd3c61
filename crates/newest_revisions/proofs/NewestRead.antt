-- What is read of the row of a newest revision is what the depot says.
use Rattle.std.proofs.Common.{◌≡◌, ℕ, suc, true, List, Option, Some, None, Ok, Bor, inr, refl, sym, ap, subst, ◌∙◌, arith}
use Rattle.std.specs.Prelude.{Contains, IfSome, option_map}
use Rattle.std.specs.List.{All}
use Rattle.std.specs.Option.{option_copied}
use Rattle.std.proofs.lemmas.List.Elements.{All-contains}
use Rattle.depot_rows.specs.depot_path.Path.{path_of, printed}
use Rattle.depot_rows.specs.db_records.Key.{key_table}
use Rattle.depot_rows.specs.db_records.declared.key.Key.{Key}
use Rattle.depot_rows.specs.db_records.declared.key.Key.TheVariants as keys
use Rattle.depot_rows.specs.db_records.declared.record.Record.{Record}
use Rattle.depot_rows.specs.db_records.declared.record.Record.TheVariants.{Rev}
use Rattle.depot_rows.specs.db_records.declared.rows.RevRecord.{RevRecord}
use Rattle.depot_rows.specs.db_records.declared.table.TableId.TheVariants as tables
use Rattle.depot_rows.specs.table_store.Rows.{TableRows, row_at}
use Rattle.depot_rows.specs.depot_model.Deeds.{Deed}
use Rattle.depot_rows.specs.depot_model.Records.{record_of, rev_record, unplaced}
use Rattle.depot_rows.specs.depot_model.Revisions.{head, is_live_at, revision}
use Rattle.depot_rows.specs.depot_model.Rules.{IsSound}
use Rattle.depot_rows.specs.depot_model.Steps.Listing.{numbered}
use Rattle.depot_rows.specs.Standing.{unplaced_at}
use Rattle.named_files.specs.HeadRows.{IsHead}
use Rattle.revision_reads.specs.History.{numbered_record, seen}
use Rattle.revision_reads.specs.Probes.{is_live_row, is_within, with_rev}
use Rattle.revision_reads.specs.Search.{AreAround}
use Rattle.revision_reads.proofs.Choosing.{head_is}
use Rattle.revision_reads.proofs.Downwards.{number_seen}
use Rattle.revision_reads.proofs.Probing.{live_read, probed, searched}
use Rattle.depot_rows.specs.depot_path.declared.revision.Wanted.{Wanted}
use Rattle.depot_rows.specs.depot_path.declared.revision.Wanted.TheVariants.{Head, One, Range}
use Rattle.depot_rows.specs.depot_model.declared.request.Caller.{Caller}
use Rattle.depot_rows.specs.depot_model.Choice.{At, Choice, chosen}
use Rattle.std.proofs.lemmas.Bool.{false≢true}
use Rattle.newest_revisions.specs.Seen.{IsNewest}
use Rattle.newest_revisions.specs.Newest.{asks_for_none}

-- where no revision is asked for, the newest one is chosen
pub chosen_head : (d : List Deed) (caller : Caller) (path : List ℕ) (wanted : Wanted) → asks_for_none wanted ≡ true → chosen d caller path wanted ≡ At (head d path)
chosen_head d caller path Head e = refl
chosen_head d caller path (One end) e = absurd (false≢true e)
chosen_head d caller path (Range first second) e = absurd (false≢true e)

-- a revision is live where its row says so
pub live_is : (d : List Deed) (path : List ℕ) (n : ℕ) (row : Option RevRecord) → option_map seen row ≡ option_map (rev_record n) (revision d path n)
    → is_live_row (option_map (λ r. Rev r) row) ≡ is_live_at d path n
live_is d path n None e = live_read n (revision d path n) None e
live_is d path n (Some r) e = live_read n (revision d path n) (Some (Rev r)) e

-- the row itself, at its own key
pub stored_is : (path : List ℕ) (rows : List Record) (r : RevRecord) → IsNewest rows path r → row_at (keys.Rev (printed path) r.rev) rows ≡ Some (Rev r)
stored_is path rows r newest = ap (λ (p : List ℕ). row_at (keys.Rev p r.rev) rows) (sym newest.path_is) ∙ newest.here

-- the row that was seen of a file
pub newest_is : (rows : List Record) (path text : List ℕ) (own : List RevRecord) (row : Option (Bor RevRecord)) → text ≡ printed path → IfSome row (λ r. r.now.path ≡ text)
    → IfSome row (λ r. Contains own r.now) → All (IsHead rows) own → (r : RevRecord) → option_copied row ≡ Some r → IsNewest rows path r
newest_is rows path text own None prints is among heads r e = absurd cc
newest_is rows path text own (Some row) prints is among heads r e =
    let same : row.now ≡ r = cc in
    let head : IsHead rows r = subst (IsHead rows) same (All-contains (IsHead rows) own row.now heads among) in
    record { path_is = ap (λ (x : RevRecord). x.path) (sym same) ∙ is ∙ prints; here = head.0; last = head.1 }

module _ (d : List Deed) (path : List ℕ) (own : path_of (printed path) ≡ Ok path) (rows : List Record)
    (has : (k : Key) → key_table k ≡ tables.Rev → unplaced_at rows k ≡ record_of d k) where
  abbrev version : TableRows
  version = record { table = tables.Rev; rows = rows }

  abbrev key : Key
  key = keys.Rev (printed path) 0

  module _ (r : RevRecord) (newest : IsNewest rows path r) where
    next_at_path : row_at (with_rev key (suc r.rev)) rows ≡ None
    next_at_path = ap (λ (p : List ℕ). row_at (keys.Rev p (suc r.rev)) rows) (sym newest.path_is) ∙ newest.last

    around : AreAround (λ n. is_within None (row_at (with_rev key n) rows)) r.rev (suc r.rev)
    around = record { in_order = omega arith; below = inr (ap (is_within None) (stored_is path rows r newest)); above = inr (ap (is_within None) next_at_path) }

    number_is : IsSound d → r.rev ≡ head d path
    number_is sound = head_is d path own sound r.rev (searched d path own key 0 refl version rows refl has sound None r.rev around)

    -- the row is that of the revision of its number
    pub has_row : Some (seen r) ≡ option_map (rev_record r.rev) (revision d path r.rev)
    has_row = sym (ap (option_map unplaced) (stored_is path rows r newest)) ∙ probed d path own key 0 refl version rows refl has r.rev

    module _ (caller : Caller) (wanted : Wanted) (asks : asks_for_none wanted ≡ true) (sound : IsSound d) where
      -- and that is the one which is chosen where none is asked for
      pub newest_chosen : At r.rev ≡ chosen d caller path wanted
      newest_chosen = ap (λ (n : ℕ). At n) (number_is sound) ∙ sym (chosen_head d caller path wanted asks)

      -- what the row says is what the model numbers
      pub row_seen : Some (seen r) ≡ option_map numbered_record (numbered d path (chosen d caller path wanted))
      row_seen = has_row ∙ sym (number_seen d path r.rev) ∙ ap (λ (choice : Choice). option_map numbered_record (numbered d path choice)) newest_chosen
