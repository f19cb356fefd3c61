-- files, print, filelog and describe, in depots of which all is read alike but shelved files.
use Rattle.std.proofs.Common.{◌≡◌, ℕ, Bool, false, List, [], ◌∷◌, ◌++◌, length, reverse, take, Option, Some, None, Ok, Err, ap}
use Rattle.std.specs.Prelude.{◌&&◌, ◌==◌, not, codes, decimal, filter, filter_map, find, flat_map}
use Rattle.std.specs.List.{enumerate_from, list_any}
use Rattle.depot_model.specs.depot_path.Bytes.{same}
use Rattle.depot_model.specs.depot_path.Path.{path_of, printed}
use Rattle.depot_model.specs.db_records.declared.rows.IntegedRecord.{IntegedRecord}
use Rattle.depot_model.specs.Arguments.{over, no_file}
use Rattle.depot_model.specs.Asking.{to_read}
use Rattle.depot_model.specs.Choice.{made_by}
use Rattle.depot_model.specs.Deeds.{Deed, Landing, Pending}
use Rattle.depot_model.specs.Records.{digest}
use Rattle.depot_model.specs.Revisions.{Revision}
use Rattle.depot_model.specs.Rows.{row, path_field, number_field, text_field, action_word, if_any}
use Rattle.depot_model.specs.Step.{Step, nothing, tells, refuses, refuse_if, unless}
use Rattle.depot_model.specs.Steps.Changing.{files_of_change}
use Rattle.depot_model.specs.Steps.History.{in_key_order, may_list_text, records_of, record_fields, numbered_from, log_file, filelog, print_row, print, describe_fields, change_fields, made_in, landed_files, describe_landed, describe_pending, describe}
use Rattle.depot_model.specs.Steps.Listing.{Numbered, tells_revision, files}
use Rattle.depot_model.specs.Steps.Opening.{right_refusal}
use Rattle.depot_model.specs.declared.command.FileArgument.{FileArgument}
use Rattle.depot_model.specs.declared.refusal.Refusal.TheVariants.{Denied, NoSuchChange}
use Rattle.depot_model.specs.declared.reply.Field.{Field}
use Rattle.depot_model.specs.declared.request.Caller.{Caller}
use Rattle.shelf_laws.proofs.Apart.{Alike}
use Rattle.shelf_laws.proofs.Choosing.{landing_same, pending_same, may_same, may_list_same, chosen_revision_same, listed_same}

-- the fields of a revision, with the integration records of its file
abbrev fields_with : List IntegedRecord → ℕ × Numbered → List Field
fields_with records item =
    let index = decimal item.0 in
    let r = item.1 in
    number_field (codes "rev" ++ index) r.number ∷ number_field (codes "change" ++ index) r.made.landing.change
    ∷ text_field (codes "action" ++ index) (action_word r.made.entry.action) ∷ text_field (codes "type" ++ index) r.made.entry.file_type
    ∷ number_field (codes "time" ++ index) r.made.landing.moment ∷ text_field (codes "user" ++ index) r.made.landing.user
    ∷ text_field (codes "client" ++ index) r.made.landing.client
    ∷ if_any (λ (content : List ℕ). number_field (codes "fileSize" ++ index) (length content)) r.made.entry.content
    ++ if_any (λ (content : List ℕ). text_field (codes "digest" ++ index) (digest content)) r.made.entry.content
    ++ text_field (codes "desc" ++ index) r.made.landing.text
    ∷ flat_map (record_fields index) (enumerate_from 0 (filter (λ (i : IntegedRecord). i.end_to == r.number) records))

module _ (d e : List Deed) (alike : Alike d e) where
  module _ (caller : Caller) where
    -- ---- files, print

    pub files_same : (live : Bool) (arguments : List FileArgument) → files d caller live arguments ≡ files e caller live arguments
    files_same live arguments = λ i. over (λ a. listed_same d e alike caller a i) no_file
        (λ a path. elim (chosen_revision_same d e alike caller a path i) as (λ _. Step) [ None ↦ nothing | Some r ↦ tells_revision live path r ]) [] arguments

    right_same : (path : List ℕ) → right_refusal to_read d caller path ≡ right_refusal to_read e caller path
    right_same path = λ i. refuse_if (not (may_same d e alike caller path to_read i)) (Denied (printed path) to_read)

    pub print_same : (arguments : List FileArgument) → print d caller arguments ≡ print e caller arguments
    print_same arguments = λ i. over (λ a. listed_same d e alike caller a i) no_file
        (λ a path. unless (right_same path i ∷ [])
        (elim (chosen_revision_same d e alike caller a path i) as (λ _. Step) [ None ↦ nothing | Some r ↦ tells (print_row path r ∷ []) ])) [] arguments

    -- ---- filelog

    may_text_same : (text : List ℕ) → may_list_text d caller text ≡ may_list_text e caller text
    may_text_same text = λ i. elim (path_of text) as (λ _. Bool) [ Err fault ↦ false | Ok path ↦ may_list_same d e alike caller path i ]

    records_same : (path : List ℕ) → records_of d caller path ≡ records_of e caller path
    records_same path = λ i.
        in_key_order (filter (λ (r : IntegedRecord). same r.to_file (printed path) && may_text_same r.from_file i) (alike.credits i))

    log_file_same : (argument : FileArgument) (path : List ℕ) → log_file d caller argument path ≡ log_file e caller argument path
    log_file_same argument path = λ i. elim (chosen_revision_same d e alike caller argument path i) as (λ _. Step) [
      | None ↦ nothing
      | Some r ↦ tells (row (path_field (codes "depotFile") path
          ∷ flat_map (fields_with (records_same path i)) (enumerate_from 0 (reverse (take r.number (numbered_from 1 (alike.made path i)))))) ∷ [])
    ]

    pub filelog_same : (arguments : List FileArgument) → filelog d caller arguments ≡ filelog e caller arguments
    filelog_same arguments = λ i. over (λ a. listed_same d e alike caller a i) no_file (λ a path. log_file_same a path i) [] arguments

  -- ---- describe

  pub files_of_change_same : (n : ℕ) → files_of_change d n ≡ files_of_change e n
  files_of_change_same n = λ i. filter (λ path. list_any (made_by n) (alike.made path i)) (alike.files i)

  made_in_same : (n : ℕ) (path : List ℕ) → made_in d n path ≡ made_in e n path
  made_in_same n path = ap (λ (rs : List Revision). find (λ (r : Numbered). r.made.landing.change == n) (numbered_from 1 rs)) (alike.made path)

  pending_told : (n : ℕ) → describe_pending d n ≡ describe_pending e n
  pending_told n = ap (λ (o : Option Pending). elim o as (λ _. Step) [
    | None ↦ refuses (NoSuchChange n)
    | Some p ↦ tells (row (change_fields p.change p.user p.client p.moment (codes "pending") p.text) ∷ [])
  ]) (pending_same d e alike n)

  module _ (caller : Caller) where
    landed_files_same : (n : ℕ) → landed_files d caller n ≡ landed_files e caller n
    landed_files_same n = λ i. filter_map (λ path. made_in_same n path i) (filter (λ path. may_list_same d e alike caller path i) (files_of_change_same n i))

    landed_same : (l : Landing) → describe_landed d caller l ≡ describe_landed e caller l
    landed_same l = λ i. unless (refuse_if (length (landed_files_same l.change i) == 0) (NoSuchChange l.change) ∷ [])
        (tells (row (change_fields l.change l.user l.client l.moment (codes "submitted") l.text
        ++ flat_map (describe_fields d) (enumerate_from 0 (landed_files_same l.change i))) ∷ []))

    pub describe_same : (n : ℕ) → describe d caller n ≡ describe e caller n
    describe_same n = λ i. elim (landing_same d e alike n i) as (λ _. Step) [ None ↦ pending_told n i | Some l ↦ landed_same l i ]
