-- Further files of a change, and the contents that are stored for them.
use Rattle.std.proofs.Common.{◌≡◌, ◌+◌, ℕ, List, [], ◌∷◌, ◌++◌, length, map, Option, Some, None, inl, inr, refl, sym, ap, subst, ◌∙◌, arith}
use Rattle.depot_rows.specs.db_records.declared.change.Spot.{Spot}
use Rattle.depot_rows.specs.table_changes.Changed.{AllRows}
use Rattle.depot_rows.specs.depot_model.declared.request.Request.{Request}
use Rattle.depot_rows.specs.depot_model.Deeds as model
use Rattle.depot_rows.specs.depot_model.Deeds.{Deed, Opening}
use Rattle.depot_rows.specs.depot_model.Records.{digest}
use Rattle.depot_rows.specs.depot_model.Steps.Submitting.{entry_of}
use Rattle.depot_rows.specs.Deed.{AreEntries, IsEntry, IsStored}
use Rattle.depot_rows.specs.declared.deed.Entry.{Entry}
use Rattle.depot_rows.specs.declared.deed.Stored.{Stored}
use Rattle.step_stores.specs.Stored.{ArePlaced, IsPlaced, StandsAmong}
use Rattle.file_contents.specs.Content.{IsFound}
use Rattle.submit_core.specs.Entries.{AreFiles, content_in, stores_of, total}
use Rattle.file_contents.specs.declared.content.Found.{Found}
use Rattle.file_contents.specs.declared.content.Found.TheVariants.{Old, Block, Absent}
use Rattle.submit_core.specs.declared.entries.Files.{Files}
use Rattle.job_fixes.proofs.Steps.{map_on}

-- ---- places among what is stored

-- what stands among stores stands among them and further ones
among_more : (stores more : List (List ℕ)) (from : ℕ) (spot : Spot) (bytes : List ℕ) → StandsAmong stores from spot bytes → StandsAmong (stores ++ more) from spot bytes
among_more [] more from spot bytes h = absurd h
among_more (store ∷ stores) more from spot bytes (inl h) = inl h
among_more (store ∷ stores) more from spot bytes (inr h) = inr (among_more stores more (from + length store) spot bytes h)

-- one more stands behind them
among_last : (stores : List (List ℕ)) (from : ℕ) (bytes : List ℕ) → StandsAmong (stores ++ bytes ∷ []) from (record { at = from + total stores; length = length bytes }) bytes
among_last [] from bytes = inl ((λ i. record { at = (let e : from + 0 ≡ from = omega arith in e) i; length = length bytes }), refl)
among_last (store ∷ stores) from bytes =
    let e : from + length store + total stores ≡ from + (length store + total stores) = omega arith in
    inr (subst (λ (n : ℕ). StandsAmong (stores ++ bytes ∷ []) (from + length store) (record { at = n; length = length bytes }) bytes) e (among_last stores (from + length store) bytes))

pub total_on : (stores more : List (List ℕ)) → total (stores ++ more) ≡ total stores + total more
total_on [] more = let e : total more ≡ 0 + total more = omega arith in e
total_on (store ∷ stores) more = let e : total (stores ++ more) ≡ total stores + total more = total_on stores more in omega (arith, e)

module _ (all : AllRows) (d : List Deed) where
  placed_more : (stores more : List (List ℕ)) (from : ℕ) (s : Option Stored) (x : Option (List ℕ)) → IsPlaced all d stores from s x → IsPlaced all d (stores ++ more) from s x
  placed_more stores more from None None h = tt
  placed_more stores more from None (Some bytes) h = tt
  placed_more stores more from (Some s) None h = tt
  placed_more stores more from (Some s) (Some bytes) (inl h) = inl h
  placed_more stores more from (Some s) (Some bytes) (inr h) = inr (among_more stores more from s.spot bytes h)

  all_placed_more : (stores more : List (List ℕ)) (from : ℕ) (es : List Entry) (entries : List model.Entry) → ArePlaced all d stores from es entries
      → ArePlaced all d (stores ++ more) from es entries
  all_placed_more stores more from [] [] h = tt
  all_placed_more stores more from [] (entry ∷ entries) h = tt
  all_placed_more stores more from (e ∷ es) [] h = tt
  all_placed_more stores more from (e ∷ es) (entry ∷ entries) h =
      (placed_more stores more from e.content entry.content h.0, all_placed_more stores more from es entries h.1)

  -- a content that was found, and is stored where it is a block
  pub found_stored : (found : Found) (x : Option (List ℕ)) (at : ℕ) → IsFound all d found x → IsStored (content_in found at) x
  found_stored (Old stored) (Some bytes) at h = h.1
  found_stored (Old stored) None at h = absurd h
  found_stored (Block text) (Some bytes) at h = (ap digest h, ap (λ (b : List ℕ). length b) h)
  found_stored (Block text) None at h = absurd h
  found_stored Absent None at h = tt
  found_stored Absent (Some bytes) at h = absurd h

  found_placed : (stores : List (List ℕ)) (from : ℕ) (found : Found) (x : Option (List ℕ)) → IsFound all d found x
      → IsPlaced all d (stores ++ stores_of found) from (content_in found (from + total stores)) x
  found_placed stores from (Old stored) (Some bytes) h = inl h.0
  found_placed stores from (Old stored) None h = absurd h
  found_placed stores from (Block text) (Some bytes) h =
      inr (subst (λ (b : List ℕ). StandsAmong (stores ++ text.now ∷ []) from (record { at = from + total stores; length = length text.now }) b) h (among_last stores from text.now))
  found_placed stores from (Block text) None h = absurd h
  found_placed stores from Absent None h = tt
  found_placed stores from Absent (Some bytes) h = absurd h

  entries_on : (es : List Entry) (entries : List model.Entry) (e : Entry) (entry : model.Entry) → AreEntries d es entries → IsEntry d e entry
      → AreEntries d (es ++ e ∷ []) (entries ++ entry ∷ [])
  entries_on [] [] e entry h k = (k, tt)
  entries_on [] (y ∷ entries) e entry h k = absurd h
  entries_on (x ∷ es) [] e entry h k = absurd h
  entries_on (x ∷ es) (y ∷ entries) e entry h k = (h.0, entries_on es entries e entry h.1 k)

  placed_on : (stores : List (List ℕ)) (from : ℕ) (es : List Entry) (entries : List model.Entry) (e : Entry) (entry : model.Entry) → AreEntries d es entries
      → ArePlaced all d stores from es entries → IsPlaced all d stores from e.content entry.content
      → ArePlaced all d stores from (es ++ e ∷ []) (entries ++ entry ∷ [])
  placed_on stores from [] [] e entry are h k = (k, tt)
  placed_on stores from [] (y ∷ entries) e entry are h k = absurd are
  placed_on stores from (x ∷ es) [] e entry are h k = absurd are
  placed_on stores from (x ∷ es) (y ∷ entries) e entry are h k = (h.0, placed_on stores from es entries e entry are.1 h.1 k)

  -- no file
  pub no_files : (request : Request) (from : ℕ) (files : Files) → files.entries ≡ [] → files.stores ≡ [] → files.end ≡ from → AreFiles all d request from [] files
  no_files request from files entries stores end = record {
    entries = subst (λ (es : List Entry). AreEntries d es []) (sym entries) tt;
    placed = subst (λ (es : List Entry). ArePlaced all d files.stores from es []) (sym entries) tt;
    end = end ∙ (let e : from ≡ from + total [] = omega arith in e) ∙ ap (λ (s : List (List ℕ)). from + total s) (sym stores);
  }

  -- one file more
  pub file_more : (request : Request) (from : ℕ) (taken : List Opening) (o : Opening) (before after : Files) (found : Found) (e : Entry) → AreFiles all d request from taken before
      → IsFound all d found (entry_of d request o).content → e.content ≡ content_in found before.end → IsEntry d e (entry_of d request o)
      → after.entries ≡ before.entries ++ e ∷ [] → after.stores ≡ before.stores ++ stores_of found → after.end ≡ before.end + total (stores_of found)
      → AreFiles all d request from (taken ++ o ∷ []) after
  file_more request from taken o before after found e are is content entry entries stores end = record {
    entries =
        subst (λ (es : List Entry). AreEntries d es (map (entry_of d request) (taken ++ o ∷ []))) (sym entries)
        (subst (λ (l : List model.Entry). AreEntries d (before.entries ++ e ∷ []) l) (sym (map_on (entry_of d request) taken o))
        (entries_on before.entries (map (entry_of d request) taken) e (entry_of d request o) are.entries entry));
    placed =
        subst (λ (s : List (List ℕ)). ArePlaced all d s from after.entries (map (entry_of d request) (taken ++ o ∷ []))) (sym stores)
        (subst (λ (es : List Entry). ArePlaced all d (before.stores ++ stores_of found) from es (map (entry_of d request) (taken ++ o ∷ []))) (sym entries)
        (subst (λ (l : List model.Entry). ArePlaced all d (before.stores ++ stores_of found) from (before.entries ++ e ∷ []) l) (sym (map_on (entry_of d request) taken o))
        (placed_on (before.stores ++ stores_of found) from before.entries (map (entry_of d request) taken) e (entry_of d request o) are.entries
        (all_placed_more before.stores (stores_of found) from before.entries (map (entry_of d request) taken) are.placed)
        (subst (λ (s : Option Stored). IsPlaced all d (before.stores ++ stores_of found) from s (entry_of d request o).content)
        (sym (content ∙ ap (content_in found) are.end)) (found_placed before.stores from found (entry_of d request o).content is)))));
    end =
        let a : before.end ≡ from + total before.stores = are.end in
        let b : total after.stores ≡ total before.stores + total (stores_of found) = ap total stores ∙ total_on before.stores (stores_of found) in
        omega (arith, a, b, end);
  }
