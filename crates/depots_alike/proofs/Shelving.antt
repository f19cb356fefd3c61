-- Shelves, and change -d.
use Rattle.std.proofs.Common.{◌≡◌, ℕ, Bool, true, false, not, List, [], ◌∷◌, ◌++◌, length, Option, Some, None, ap}
use Rattle.std.specs.Prelude.{◌&&◌, ◌==◌, codes, decimal, if◌then◌else◌, filter, flat_map, is_some, is_none, option_and_then, unwrap_or}
use Rattle.std.specs.List.{enumerate_from}
use Rattle.std.specs.Option.{option_map_or, option_or}
use Rattle.depot_rows.specs.depot_path.Path.{printed}
use Rattle.depot_rows.specs.depot_path.declared.revision.Wanted.TheVariants.{Head}
use Rattle.depot_rows.specs.spec_form.Form.{FormValue}
use Rattle.depot_rows.specs.view_map.Mapping.{path_in}
use Rattle.depot_rows.specs.depot_model.declared.command.FileArgument.{FileArgument}
use Rattle.depot_rows.specs.depot_model.declared.refusal.Refusal.TheVariants.{NotInView, AlreadyOpen, NoContent, AlreadyShelved, NotShelvable, NoShelf}
use Rattle.depot_rows.specs.depot_model.declared.request.Caller.{Caller}
use Rattle.depot_rows.specs.depot_model.declared.request.Request.{Request}
use Rattle.depot_rows.specs.depot_model.Arguments.{named, opened_by, within_files, no_file}
use Rattle.depot_rows.specs.depot_model.Asking.{to_open}
use Rattle.depot_rows.specs.depot_model.Deeds.{Deed, Spec, Open, Opening, Pending, Source, ShelfForm}
use Rattle.depot_rows.specs.depot_model.Opened.{opened}
use Rattle.depot_rows.specs.depot_model.Revisions.{is_live_action}
use Rattle.depot_rows.specs.depot_model.Rows.{row, path_field, number_field, text_field}
use Rattle.depot_rows.specs.depot_model.Shelves.{shelf_name, kept_paths, kept_form, gone_form, kept_block, kept_opening}
use Rattle.depot_rows.specs.depot_model.Step.{Step, nothing, tells, does, refuses, unless, refuse_if}
use Rattle.depot_rows.specs.depot_model.Steps.Opening.{opening_row}
use Rattle.depot_rows.specs.depot_model.Steps.Reverting.{not_open, is_selected}
use Rattle.depot_rows.specs.depot_model.Steps.Shelving.{block_given, is_shelvable, shelved_row, shelve_opening, shelve_file, opened_in, within_forms, shelve, listable, shelf_refusal, unkeep, shelve_delete, from_fields, unshelve_opening, unshelve_file, unshelve, fields_of_kept, shelved_fields, describe_kept, describe_shelved}
use Rattle.depot_rows.specs.depot_model.Steps.Submitting.{block_at, source_content, block_of, moved_content, own_content, is_moved_in, content_of, lacks_content}
use Rattle.depots_alike.proofs.Choosing.{may_list_same, view_same, shown_same, named_same}
use Rattle.depots_alike.proofs.Kept.{kept_same, kept_paths_same}
use Rattle.depots_alike.proofs.Paths.{opened_by_same}
use Rattle.depots_alike.proofs.Searches.{opened_same, pending_same}
use Rattle.depots_alike.proofs.Simple.{over_all_same, change_refusal_same, named_change_same}
use Rattle.depots_alike.proofs.Twins.{Twins}
use Rattle.depots_alike.proofs.Alike.{alike_of}
use Rattle.depots_alike.proofs.Asked.{right_same, exclusive_same}

module _ (d e : List Deed) (twins : Twins d e) (caller : Caller) where
  listable_same : (n : ℕ) → listable d caller n ≡ listable e caller n
  listable_same n = λ i. filter (λ path. may_list_same d e (alike_of d e twins) caller path i) (kept_paths_same d e twins n i)

  shelf_refusal_same : (n : ℕ) → shelf_refusal d caller n ≡ shelf_refusal e caller n
  shelf_refusal_same n = ap (λ (paths : List (List ℕ)). refuse_if (length paths == 0) (NoShelf n)) (listable_same n)

  -- ---- shelve -d

  unkeep_same : (n : ℕ) (path : List ℕ) → unkeep d caller n path ≡ unkeep e caller n path
  unkeep_same n path = ap (λ refusal. unless (refusal ∷ [])
      (does (Spec ShelfForm (shelf_name n path) (gone_form n path) ∷ []) (row (path_field (codes "depotFile") path ∷ text_field (codes "action") (codes "deleted") ∷ []))))
      (right_same d e (alike_of d e twins) caller to_open path)

  pub shelve_delete_same : (n : ℕ) (files : List FileArgument) → shelve_delete d caller n files ≡ shelve_delete e caller n files
  shelve_delete_same n files =
      let each = over_all_same (named true d caller (kept_paths d n)) (named true e caller (kept_paths e n)) no_file (λ _. unkeep d caller n) (λ _. unkeep e caller n)
      (named_same d e (alike_of d e twins) caller true (kept_paths d n) (kept_paths e n) (kept_paths_same d e twins n)) (λ a path. unkeep_same n path) files in
      λ i. unless (change_refusal_same d e twins caller n i ∷ shelf_refusal_same n i ∷ []) (within_forms (each i))

  -- ---- unshelve

  unshelve_opening_same : (o : Opening) (block : Option (List ℕ)) → unshelve_opening d caller o block ≡ unshelve_opening e caller o block
  unshelve_opening_same o block = λ i. unless (
      right_same d e (alike_of d e twins) caller to_open o.path i
      ∷ refuse_if (is_none (shown_same d e (alike_of d e twins) caller Head o.path i)) (NotInView (printed o.path))
      ∷ refuse_if (is_some (opened_same d e twins caller.client o.path i)) (AlreadyOpen o.path)
      ∷ exclusive_same d e (alike_of d e twins) o.path caller.client o.file_type i
      ∷ [])
      (does (Open o ∷ []) (record {
        fields = (opening_row o (shown_same d e (alike_of d e twins) caller Head o.path i)).fields ++ from_fields o.source;
        content = block;
      }))

  unshelve_file_same : (n change : ℕ) (path : List ℕ) → unshelve_file d caller n change path ≡ unshelve_file e caller n change path
  unshelve_file_same n change path = λ i. elim (kept_same d e twins n path i) as (λ _. Step) [
    | None ↦ nothing
    | Some form ↦ unshelve_opening_same (kept_opening caller change path form) (kept_block form) i
  ]

  pub unshelve_same : (n : ℕ) (change : Option ℕ) (files : List FileArgument) → unshelve d caller n change files ≡ unshelve e caller n change files
  unshelve_same n change files =
      let each = over_all_same (named false d caller (kept_paths d n)) (named false e caller (kept_paths e n)) no_file
      (λ _. unshelve_file d caller n (unwrap_or change 0)) (λ _. unshelve_file e caller n (unwrap_or change 0))
      (named_same d e (alike_of d e twins) caller false (kept_paths d n) (kept_paths e n) (kept_paths_same d e twins n))
      (λ a path. unshelve_file_same n (unwrap_or change 0) path) files in
      λ i. unless (named_change_same d e twins caller change i ∷ shelf_refusal_same n i ∷ []) (within_files (each i))

  -- ---- describe -S

  shelved_fields_same : (n : ℕ) (item : ℕ × List ℕ) → shelved_fields d n item ≡ shelved_fields e n item
  shelved_fields_same n item = ap (λ (o : Option FormValue). option_map_or (fields_of_kept (decimal item.0) item.1) o []) (kept_same d e twins n item.1)

  describe_kept_same : (p : Pending) → describe_kept d caller p ≡ describe_kept e caller p
  describe_kept_same p = λ i. row (
      number_field (codes "change") p.change ∷ text_field (codes "user") p.user ∷ text_field (codes "client") p.client
      ∷ flat_map (λ item. shelved_fields_same p.change item i) (enumerate_from 0 (listable_same p.change i)))

  pub describe_shelved_same : (n : ℕ) → describe_shelved d caller n ≡ describe_shelved e caller n
  describe_shelved_same n = λ i. unless (shelf_refusal_same n i ∷ []) (elim (pending_same d e twins n i) as (λ _. Step) [
    | None ↦ refuses (NoShelf n)
    | Some p ↦ tells (describe_kept_same p i ∷ [])
  ])

-- ---- shelve

module _ (d e : List Deed) (twins : Twins d e) (request : Request) where
  abbrev asker : Caller
  asker = request.caller

  source_content_same : (o : Opening) → source_content d o ≡ source_content e o
  source_content_same o = λ i. option_and_then (λ (s : Source). twins.contents s.path s.rev i) o.source

  block_of_same : (client path : List ℕ) → block_of d request client path ≡ block_of e request client path
  block_of_same client path = λ i. option_and_then (block_at request.contents) (path_in (view_same d e (alike_of d e twins) client i) path)

  moved_content_same : (o : Opening) → moved_content d request o ≡ moved_content e request o
  moved_content_same o = λ i.
      option_or (block_of_same o.client o.path i) (option_or (option_and_then (λ path. block_of_same o.client path i) o.moved) (source_content_same o i))

  own_content_same : (o : Opening) → own_content d request o ≡ own_content e request o
  own_content_same o = λ i. option_or (source_content_same o i) (option_or (block_of_same o.client o.path i) (twins.contents o.path o.base i))

  pub content_of_same : (o : Opening) → content_of d request o ≡ content_of e request o
  content_of_same o = λ i. if is_live_action o.action then (if is_moved_in o then moved_content_same o i else own_content_same o i) else None

  pub lacks_content_same : (o : Opening) → lacks_content d request o ≡ lacks_content e request o
  lacks_content_same o = λ i. is_live_action o.action && is_none (content_of_same o i)

  block_given_same : (o : Opening) → block_given d request o ≡ block_given e request o
  block_given_same o = λ i. if is_live_action o.action && is_none (source_content_same o i) then block_of_same o.client o.path i else None

  shelve_opening_same : (replaces : Bool) (o : Opening) → shelve_opening d request replaces o ≡ shelve_opening e request replaces o
  shelve_opening_same replaces o = λ i. unless (
      right_same d e (alike_of d e twins) asker to_open o.path i
      ∷ refuse_if (not (is_shelvable o)) (NotShelvable o.path)
      ∷ refuse_if (not replaces && is_some (kept_same d e twins o.change o.path i)) (AlreadyShelved o.path)
      ∷ refuse_if (lacks_content_same o i) (NoContent o.path)
      ∷ [])
      (does (Spec ShelfForm (shelf_name o.change o.path) (kept_form asker o (block_given_same o i)) ∷ []) (shelved_row o))

  shelve_file_same : (replaces : Bool) (path : List ℕ) → shelve_file d request replaces path ≡ shelve_file e request replaces path
  shelve_file_same replaces path = λ i. elim (opened_same d e twins asker.client path i) as (λ _. Step) [ None ↦ nothing | Some o ↦ shelve_opening_same replaces o i ]

  opened_in_same : (n : ℕ) (a : FileArgument) → opened_in d asker n a ≡ opened_in e asker n a
  opened_in_same n a = named_same d e (alike_of d e twins) asker false
      (filter (λ path. is_selected (Some n) (opened d asker.client path)) (opened_by d asker.client))
      (filter (λ path. is_selected (Some n) (opened e asker.client path)) (opened_by e asker.client))
      (λ i. filter (λ path. is_selected (Some n) (opened_same d e twins asker.client path i)) (opened_by_same d e twins asker.client i)) a

  pub shelve_same : (n : ℕ) (replaces : Bool) (files : List FileArgument) → shelve d request n replaces files ≡ shelve e request n replaces files
  shelve_same n replaces files =
      let each = over_all_same (opened_in d asker n) (opened_in e asker n) not_open (λ _. shelve_file d request replaces) (λ _. shelve_file e request replaces)
      (opened_in_same n) (λ a path. shelve_file_same replaces path) files in
      λ i. unless (change_refusal_same d e twins asker n i ∷ []) (within_forms (each i))
