-- filelog and integrated, in sound depots with the same rows and contents.
use Rattle.std.proofs.Common.{◌≡◌, ℕ, ◌+◌, Bool, Ok, Err, List, [], ◌∷◌, ◌++◌, length, map, take, reverse, Option, Some, None, refl, sym, ap, ◌∙◌}
use Rattle.std.specs.Prelude.{◌&&◌, ◌==◌, codes, decimal, filter, flat_map, option_map, false}
use Rattle.std.specs.List.{enumerate_from, take-map}
use Rattle.std.proofs.lemmas.List.{map-append, reverse-append}
use Rattle.depot_rows.specs.depot_path.Bytes.{same}
use Rattle.depot_rows.specs.depot_path.Path.{path_of, printed}
use Rattle.depot_rows.specs.db_records.declared.rows.IntegedRecord.{IntegedRecord}
use Rattle.depot_rows.specs.depot_model.declared.command.FileArgument.{FileArgument}
use Rattle.depot_rows.specs.depot_model.declared.reply.Field.{Field}
use Rattle.depot_rows.specs.depot_model.declared.request.Caller.{Caller}
use Rattle.depot_rows.specs.depot_model.Arguments.{named, submitted, no_file}
use Rattle.depot_rows.specs.depot_model.Deeds.{Deed}
use Rattle.depot_rows.specs.depot_model.Records.{digest, integrations}
use Rattle.depot_rows.specs.depot_model.Revisions.{Revision, revisions}
use Rattle.depot_rows.specs.depot_model.Rows.{row, path_field, number_field, text_field, action_word, if_any}
use Rattle.depot_rows.specs.depot_model.Step.{Step, nothing, tells}
use Rattle.depot_rows.specs.depot_model.Steps.History.{may_list_text, integrated_row, records_of, integrated, record_fields, log_fields, numbered_from, up_to, log_file, filelog}
use Rattle.depot_rows.specs.depot_model.Steps.Listing.{Numbered, chosen_revision, listed}
use Rattle.depot_facts.specs.Contents.{seen}
use Rattle.depots_alike.proofs.Describing.{numbers_seen}
use Rattle.depots_alike.proofs.Files.{seen_number, listed_same, named_submitted, chosen_revision_same}
use Rattle.depots_alike.proofs.Alike.{alike_of}
use Rattle.depots_alike.proofs.Choosing.{may_list_same}
use Rattle.depots_alike.proofs.Integrations.{is_same, records_ordered, ordered_rise, ordered_has, integrations_same}
use Rattle.depots_alike.proofs.Ordered.{has_by, one_list, has_filter}
use Rattle.depots_alike.proofs.Revisions.{revisions_same}
use Rattle.depots_alike.proofs.Simple.{over_same}
use Rattle.depots_alike.proofs.Twins.{Twins}

map_reverse : {A B : Type 0} (f : A → B) (xs : List A) → map f (reverse xs) ≡ reverse (map f xs)
map_reverse f [] = refl
map_reverse f (x ∷ xs) =
    ap (map f) (reverse-append (x ∷ []) xs) ∙ map-append f (reverse xs) (x ∷ []) ∙ ap (λ ys. ys ++ f x ∷ []) (map_reverse f xs)
    ∙ sym (reverse-append (f x ∷ []) (map f xs))

-- the fields of a revision, with the integration records of its file
abbrev fields_with : List IntegedRecord → ℕ × Numbered → List Field
fields_with records item =
    let index = decimal item.0 in
    let r = item.1 in
    number_field (codes "rev" ++ index) r.number ∷ number_field (codes "change" ++ index) r.made.landing.change
    ∷ text_field (codes "action" ++ index) (action_word r.made.entry.action) ∷ text_field (codes "type" ++ index) r.made.entry.file_type
    ∷ number_field (codes "time" ++ index) r.made.landing.moment ∷ text_field (codes "user" ++ index) r.made.landing.user
    ∷ text_field (codes "client" ++ index) r.made.landing.client
    ∷ if_any (λ (content : List ℕ). number_field (codes "fileSize" ++ index) (length content)) r.made.entry.content
    ++ if_any (λ (content : List ℕ). text_field (codes "digest" ++ index) (digest content)) r.made.entry.content
    ++ text_field (codes "desc" ++ index) r.made.landing.text
    ∷ flat_map (record_fields index) (enumerate_from 0 (filter (λ (i : IntegedRecord). i.end_to == r.number) records))

fields_seen : (records : List IntegedRecord) (k : ℕ) (rs : List Numbered)
    → flat_map (fields_with records) (enumerate_from k (map seen_number rs)) ≡ flat_map (fields_with records) (enumerate_from k rs)
fields_seen records k [] = refl
fields_seen records k (r ∷ rs) = ap (λ rest. fields_with records (k, r) ++ rest) (fields_seen records (k + 1) rs)

up_to_seen : (n : ℕ) (revs : List Revision) → map seen_number (reverse (take n (numbered_from 1 revs))) ≡ reverse (take n (numbered_from 1 (map seen revs)))
up_to_seen n revs =
    map_reverse seen_number (take n (numbered_from 1 revs))
    ∙ ap reverse (sym (take-map seen_number n (numbered_from 1 revs)) ∙ ap (take n) (numbers_seen 1 revs))

-- ---- the integration records of a file

module _ (d e : List Deed) (twins : Twins d e) (caller : Caller) where
  may_text_same : (text : List ℕ) → may_list_text d caller text ≡ may_list_text e caller text
  may_text_same text = λ i. elim (path_of text) as (λ _. Bool) [ Err fault ↦ false | Ok path ↦ may_list_same d e (alike_of d e twins) caller path i ]

  abbrev is_listed : List Deed → List ℕ → IntegedRecord → Bool
  is_listed x path r = same r.to_file (printed path) && may_list_text x caller r.from_file

  has_listed : (x : List Deed) (path : List ℕ) (z : IntegedRecord) → has_by is_same (records_of x caller path) z
      ≡ (has_by is_same (integrations x) z && is_listed x path z)
  has_listed x path z = ordered_has (filter (is_listed x path) (integrations x)) z ∙ has_filter records_ordered (is_listed x path) (integrations x) z

  pub records_same : (path : List ℕ) → records_of d caller path ≡ records_of e caller path
  records_same path = one_list records_ordered (records_of d caller path) (records_of e caller path)
      (ordered_rise (filter (is_listed d path) (integrations d))) (ordered_rise (filter (is_listed e path) (integrations e)))
      (λ z. has_listed d path z ∙ (λ i. integrations_same d e twins z i && (same z.to_file (printed path) && may_text_same z.from_file i)) ∙ sym (has_listed e path z))

module _ (d e : List Deed) (twins : Twins d e) (caller : Caller) where
  -- ---- integrated

  pub integrated_same : (arguments : List FileArgument) → integrated d caller arguments ≡ integrated e caller arguments
  integrated_same arguments = over_same (named false d caller (submitted d)) (named false e caller (submitted e)) no_file
      (λ _ path. tells (map integrated_row (records_of d caller path))) (λ _ path. tells (map integrated_row (records_of e caller path)))
      (named_submitted d e twins caller) (λ a path. ap (λ records. tells (map integrated_row records)) (records_same d e twins caller path)) [] arguments

  -- ---- filelog

  up_to_same : (path : List ℕ) (n : ℕ) → map seen_number (up_to d path n) ≡ map seen_number (up_to e path n)
  up_to_same path n = up_to_seen n (revisions d path) ∙ ap (λ revs. reverse (take n (numbered_from 1 revs))) (revisions_same d e twins path)
      ∙ sym (up_to_seen n (revisions e path))

  fields_same : (path : List ℕ) (n : ℕ) → flat_map (log_fields d caller path) (enumerate_from 0 (up_to d path n))
      ≡ flat_map (log_fields e caller path) (enumerate_from 0 (up_to e path n))
  fields_same path n =
      sym (fields_seen (records_of d caller path) 0 (up_to d path n))
      ∙ (λ i. flat_map (fields_with (records_same d e twins caller path i)) (enumerate_from 0 (up_to_same path n i)))
      ∙ fields_seen (records_of e caller path) 0 (up_to e path n)

  abbrev log_row : List Deed → List ℕ → ℕ → Step
  log_row x path n = tells (row (path_field (codes "depotFile") path ∷ flat_map (log_fields x caller path) (enumerate_from 0 (up_to x path n))) ∷ [])

  log_seen : (x : List Deed) (path : List ℕ) (o : Option Numbered)
      → (elim (option_map seen_number o) as (λ _. Step) [ None ↦ nothing | Some r ↦ log_row x path r.number ])
      ≡ (elim o as (λ _. Step) [ None ↦ nothing | Some r ↦ log_row x path r.number ])
  log_seen x path None = refl
  log_seen x path (Some r) = refl

  log_file_same : (a : FileArgument) (path : List ℕ) → log_file d caller a path ≡ log_file e caller a path
  log_file_same a path = sym (log_seen d path (chosen_revision d caller a path))
      ∙ (λ i. elim (chosen_revision_same d e twins caller a path i) as (λ _. Step) [
        | None ↦ nothing
        | Some r ↦ tells (row (path_field (codes "depotFile") path ∷ fields_same path r.number i) ∷ [])
      ])
      ∙ log_seen e path (chosen_revision e caller a path)

  pub filelog_same : (arguments : List FileArgument) → filelog d caller arguments ≡ filelog e caller arguments
  filelog_same arguments =
      over_same (listed d caller) (listed e caller) no_file (log_file d caller) (log_file e caller) (listed_same d e twins caller) log_file_same [] arguments
