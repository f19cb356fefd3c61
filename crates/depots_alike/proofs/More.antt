-- Commands on files: fstat, sync, tag, labelsync.
use Rattle.std.proofs.Common.{◌≡◌, ℕ, ◌+◌, Bool, true, false, not, List, [], ◌∷◌, ◌++◌, length, Option, Some, None, refl, sym, ap, ◌∙◌}
use Rattle.std.specs.Prelude.{◌&&◌, ◌==◌, nat_le, nat_lt, codes, if◌then◌else◌, is_some, option_map, option_and_then}
use Rattle.depot_rows.specs.view_map.Mapping.{path_in}
use Rattle.depot_rows.specs.depot_path.declared.revision.Wanted.{Wanted}
use Rattle.depot_rows.specs.spec_form.declared.shape.Shape.TheVariants.{Label}
use Rattle.depot_rows.specs.depot_model.declared.command.FileArgument.{FileArgument}
use Rattle.depot_rows.specs.depot_model.declared.command.Labelling.{Labelling}
use Rattle.depot_rows.specs.depot_model.declared.command.Labelling.TheVariants.{Adding, Exact, Removing}
use Rattle.depot_rows.specs.depot_model.declared.refusal.Refusal.TheVariants.{LabelLocked, NoSuchLabel}
use Rattle.depot_rows.specs.depot_model.declared.request.Caller.{Caller}
use Rattle.depot_rows.specs.depot_model.Arguments.{named, submitted, no_file, within_files}
use Rattle.depot_rows.specs.depot_model.Asking.{to_open, to_read}
use Rattle.depot_rows.specs.depot_model.Choice.{Choice, chosen, PassedOver, At}
use Rattle.depot_rows.specs.depot_model.Deeds.{Deed, Spec, Opening, Owe, LabelForm}
use Rattle.depot_rows.specs.depot_model.Latest.{have}
use Rattle.depot_rows.specs.depot_model.Opened.{Resolve}
use Rattle.depot_rows.specs.depot_model.Revisions.{Revision, revision, is_live_at}
use Rattle.depot_rows.specs.depot_model.Rows.{row, path_field, number_field, text_field, if_any, action_word}
use Rattle.depot_rows.specs.depot_model.Step.{Step, nothing, tells, does, unless, refuse_if, both}
use Rattle.depot_rows.specs.depot_model.Steps.History.{stat_row, stat_file, fstat}
use Rattle.depot_rows.specs.depot_model.Steps.Listing.{Numbered, chosen_revision, listed}
use Rattle.depot_rows.specs.depot_model.Steps.Opening.{held}
use Rattle.depot_rows.specs.depot_model.Steps.Syncing.{size_of, sync_row, wanted_rev, sync_word, changes_to, sync_have, is_owed, sync_opened, sync_to, sync_file, shows_alone, sync}
use Rattle.depot_rows.specs.depot_model.Steps.Tagging.{tag_to, tag_file, live_choice, or_labelled, made_label, tagged_rev, tag_files, tag, or_have, synced_rev, labelsync}
use Rattle.depot_rows.specs.depot_model.Values.{valued}
use Rattle.depot_facts.specs.Contents.{seen}
use Rattle.depots_alike.proofs.Choosing.{view_same, chosen_same, shown_same, is_live_same, is_label_same}
use Rattle.depots_alike.proofs.Files.{seen_number, listed_same, named_submitted, chosen_revision_same}
use Rattle.depots_alike.proofs.Revisions.{revision_same}
use Rattle.depots_alike.proofs.Searches.{have_same, labelled_same, opened_same, owed_same}
use Rattle.depots_alike.proofs.Simple.{over_same, over_all_same, is_locked_same}
use Rattle.depots_alike.proofs.Twins.{Twins}
use Rattle.depots_alike.proofs.Alike.{alike_of}
use Rattle.depots_alike.proofs.Asked.{right_same}

size_seen : (o : Option Revision) → option_and_then (λ (r : Revision). option_map length r.entry.content) (option_map seen o)
    ≡ option_and_then (λ (r : Revision). option_map length r.entry.content) o
size_seen None = refl
size_seen (Some r) = refl

stat_seen : (d : List Deed) (caller : Caller) (path : List ℕ) (o : Option Numbered)
    → (elim (option_map seen_number o) as (λ _. Step) [ None ↦ nothing | Some r ↦ tells (stat_row d caller path r ∷ []) ])
    ≡ (elim o as (λ _. Step) [ None ↦ nothing | Some r ↦ tells (stat_row d caller path r ∷ []) ])
stat_seen d caller path None = refl
stat_seen d caller path (Some r) = refl

module _ (d e : List Deed) (twins : Twins d e) (caller : Caller) where
  -- ---- fstat

  stat_row_same : (path : List ℕ) (r : Numbered) → stat_row d caller path r ≡ stat_row e caller path r
  stat_row_same path r = λ i. row (
      path_field (codes "depotFile") path ∷ if_any (path_field (codes "clientFile")) (path_in (view_same d e (alike_of d e twins) caller.client i) path)
      ++ text_field (codes "headAction") (action_word r.made.entry.action) ∷ text_field (codes "headType") r.made.entry.file_type
      ∷ number_field (codes "headTime") r.made.landing.moment ∷ number_field (codes "headRev") r.number
      ∷ number_field (codes "headChange") r.made.landing.change
      ∷ (if have_same d e twins caller.client path i == 0 then [] else number_field (codes "haveRev") (have_same d e twins caller.client path i) ∷ [])
      ++ if_any (λ (o : Opening). text_field (codes "action") (action_word o.action)) (opened_same d e twins caller.client path i))

  stat_file_same : (a : FileArgument) (path : List ℕ) → stat_file d caller a path ≡ stat_file e caller a path
  stat_file_same a path = sym (stat_seen d caller path (chosen_revision d caller a path))
      ∙ (λ i. elim (chosen_revision_same d e twins caller a path i) as (λ _. Step) [ None ↦ nothing | Some r ↦ tells (stat_row_same path r i ∷ []) ])
      ∙ stat_seen e caller path (chosen_revision e caller a path)

  pub fstat_same : (arguments : List FileArgument) → fstat d caller arguments ≡ fstat e caller arguments
  fstat_same arguments = over_same (listed d caller) (listed e caller) no_file (stat_file d caller) (stat_file e caller) (listed_same d e twins caller)
      stat_file_same [] arguments

  -- ---- sync

  size_same : (path : List ℕ) (n : ℕ) → size_of d path n ≡ size_of e path n
  size_same path n = sym (size_seen (revision d path n))
      ∙ ap (λ (o : Option Revision). option_and_then (λ (r : Revision). option_map length r.entry.content) o) (revision_same d e twins path n)
      ∙ size_seen (revision e path n)

  sync_row_same : (path : List ℕ) (rev : ℕ) (action : List ℕ) (size other : Option ℕ) → size ≡ other → sync_row d caller path rev action size
      ≡ sync_row e caller path rev action other
  sync_row_same path rev action size other one = λ i. row (
      path_field (codes "depotFile") path ∷ if_any (path_field (codes "clientFile")) (path_in (view_same d e (alike_of d e twins) caller.client i) path)
      ++ number_field (codes "rev") rev ∷ text_field (codes "action") action ∷ if_any (number_field (codes "fileSize")) (one i))

  sync_have_at : (again : Bool) (path : List ℕ) (wanted had : ℕ)
      → (elim (sync_word again had wanted) as (λ _. Step) [
        | None ↦ nothing
        | Some word ↦ does (changes_to had wanted (held caller path))
            (if wanted == 0 then sync_row d caller path had word None else sync_row d caller path wanted word (size_of d path wanted))
      ])
      ≡ (elim (sync_word again had wanted) as (λ _. Step) [
        | None ↦ nothing
        | Some word ↦ does (changes_to had wanted (held caller path))
            (if wanted == 0 then sync_row e caller path had word None else sync_row e caller path wanted word (size_of e path wanted))
      ])
  sync_have_at again path wanted had = λ i. elim (sync_word again had wanted) as (λ _. Step) [
    | None ↦ nothing
    | Some word ↦ does (changes_to had wanted (held caller path))
        (if wanted == 0 then sync_row_same path had word None None refl i else sync_row_same path wanted word (size_of d path wanted) (size_of e path wanted)
        (size_same path wanted) i)
  ]

  sync_have_same : (again : Bool) (path : List ℕ) (wanted : ℕ) → sync_have again d caller path wanted ≡ sync_have again e caller path wanted
  sync_have_same again path wanted =
      sync_have_at again path wanted (have d caller.client path)
      ∙ ap (λ had. elim (sync_word again had wanted) as (λ _. Step) [
        | None ↦ nothing
        | Some word ↦ does (changes_to had wanted (held caller path))
            (if wanted == 0 then sync_row e caller path had word None else sync_row e caller path wanted word (size_of e path wanted))
      ])
      (have_same d e twins caller.client path)

  is_owed_same : (path : List ℕ) (n : ℕ) → is_owed d caller path n ≡ is_owed e caller path n
  is_owed_same path n = ap (λ (r : Option Resolve). elim r as (λ _. Bool) [ None ↦ false | Some r ↦ nat_le n r.owing.last ]) (owed_same d e twins caller.client path path)

  sync_opened_same : (o : Opening) (path : List ℕ) (n : ℕ) → sync_opened d caller o path n ≡ sync_opened e caller o path n
  sync_opened_same o path n = λ i. if nat_lt o.base n && not (is_owed_same path n i)
      then does (Owe (record { client = caller.client; path = path; from = path; first = o.base + 1; last = n })
      ∷ []) (sync_row_same path n (codes "owed") (size_of d path n) (size_of e path n) (size_same path n) i)
      else nothing

  wanted_same : (a : FileArgument) (path : List ℕ) (n : ℕ) → wanted_rev d caller a path n ≡ wanted_rev e caller a path n
  wanted_same a path n = λ i. if is_some (shown_same d e (alike_of d e twins) caller a.spec.wanted path i) && is_live_same d e (alike_of d e twins) path n i then n else 0

  sync_to_same : (again : Bool) (a : FileArgument) (path : List ℕ) (choice : Choice) → sync_to again d caller a path choice ≡ sync_to again e caller a path choice
  sync_to_same again a path PassedOver = refl
  sync_to_same again a path (At n) =
      let apart = ap (sync_have again d caller path) (wanted_same a path n) ∙ sync_have_same again path (wanted_rev e caller a path n) in
      λ i. elim (opened_same d e twins caller.client path i) as (λ _. Step) [
        | Some o ↦ sync_opened_same o path n i
        | None ↦ apart i
      ]

  sync_file_same : (again : Bool) (a : FileArgument) (path : List ℕ) → sync_file again d caller a path ≡ sync_file again e caller a path
  sync_file_same again a path =
      let to = ap (sync_to again d caller a path) (chosen_same d e (alike_of d e twins) caller path a.spec.wanted)
      ∙ sync_to_same again a path (chosen e caller path a.spec.wanted) in
      λ i. unless (right_same d e (alike_of d e twins) caller to_read path i ∷ []) (to i)

  pub sync_same : (again shows : Bool) (arguments : List FileArgument) → sync d caller again shows arguments ≡ sync e caller again shows arguments
  sync_same again shows arguments = ap (λ s. within_files (shows_alone shows s))
      (over_all_same (named false d caller (submitted d)) (named false e caller (submitted e)) no_file (sync_file again d caller) (sync_file again e caller)
      (named_submitted d e twins caller) (sync_file_same again) arguments)

  -- ---- tag and labelsync

  tag_file_same : (label path : List ℕ) (new other : ℕ) → new ≡ other → tag_file d caller label path new ≡ tag_file e caller label path other
  tag_file_same label path new other one = λ i. unless (right_same d e (alike_of d e twins) caller to_open path i ∷ [])
      (tag_to label path (labelled_same d e twins label path i) (one i))

  live_at : (path : List ℕ) (choice : Choice) → (elim choice as (λ _. ℕ) [ PassedOver ↦ 0 | At n ↦ if is_live_at d path n then n else 0 ])
      ≡ (elim choice as (λ _. ℕ) [ PassedOver ↦ 0 | At n ↦ if is_live_at e path n then n else 0 ])
  live_at path choice = λ i. elim choice as (λ _. ℕ) [ PassedOver ↦ 0 | At n ↦ if is_live_same d e (alike_of d e twins) path n i then n else 0 ]

  live_choice_same : (wanted : Wanted) (path : List ℕ) → live_choice d caller wanted path ≡ live_choice e caller wanted path
  live_choice_same wanted path =
      live_at path (chosen d caller path wanted)
      ∙ ap (λ (choice : Choice). elim choice as (λ _. ℕ) [ PassedOver ↦ 0 | At n ↦ if is_live_at e path n then n else 0 ])
      (chosen_same d e (alike_of d e twins) caller path wanted)

  or_labelled_same : (label path : List ℕ) (n m : ℕ) → n ≡ m → or_labelled d label path n ≡ or_labelled e label path m
  or_labelled_same label path n m one = λ i. if one i == 0 then labelled_same d e twins label path i else one i

  tagged_same : (removes : Bool) (label : List ℕ) (a : FileArgument) (path : List ℕ) → tagged_rev removes d caller label a path ≡ tagged_rev removes e caller label a path
  tagged_same true label a path = refl
  tagged_same false label a path = or_labelled_same label path (live_choice d caller a.spec.wanted path) (live_choice e caller a.spec.wanted path)
      (live_choice_same a.spec.wanted path)

  synced_same : (labelling : Labelling) (label : List ℕ) (a : FileArgument) (path : List ℕ) → synced_rev labelling d caller label a path
      ≡ synced_rev labelling e caller label a path
  synced_same Removing label a path = refl
  synced_same Exact label a path = live_choice_same (or_have a.spec.wanted) path
  synced_same Adding label a path =
      or_labelled_same label path (live_choice d caller (or_have a.spec.wanted) path) (live_choice e caller (or_have a.spec.wanted) path)
      (live_choice_same (or_have a.spec.wanted) path)

  tag_files_same : (label : List ℕ) (removes : Bool) (arguments : List FileArgument) → tag_files d caller label removes arguments
      ≡ tag_files e caller label removes arguments
  tag_files_same label removes arguments = over_same (named false d caller (submitted d)) (named false e caller (submitted e)) no_file
      (λ argument path. tag_file d caller label path (tagged_rev removes d caller label argument path))
      (λ argument path. tag_file e caller label path (tagged_rev removes e caller label argument path))
      (named_submitted d e twins caller)
      (λ a path. tag_file_same label path (tagged_rev removes d caller label a path) (tagged_rev removes e caller label a path) (tagged_same removes label a path)) [] arguments

  made_label_same : (label : List ℕ) → made_label d label ≡ made_label e label
  made_label_same label =
      ap (λ b. if b then [] else Spec LabelForm label (record { shape = Label; fields = valued (codes "Label") label ∷ [] }) ∷ []) (is_label_same d e (alike_of d e twins) label)

  pub tag_same : (label : List ℕ) (removes : Bool) (arguments : List FileArgument) → tag d caller label removes arguments ≡ tag e caller label removes arguments
  tag_same label removes arguments = λ i. unless (refuse_if (is_locked_same d e twins label i) (LabelLocked label) ∷ [])
      (within_files (both (record { deeds = made_label_same label i; rows = [] }) (tag_files_same label removes arguments i)))

  pub labelsync_same : (label : List ℕ) (labelling : Labelling) (arguments : List FileArgument) → labelsync d caller label labelling arguments
      ≡ labelsync e caller label labelling arguments
  labelsync_same label labelling arguments =
      let each = over_all_same (named false d caller (submitted d)) (named false e caller (submitted e)) no_file
      (λ argument path. tag_file d caller label path (synced_rev labelling d caller label argument path))
      (λ argument path. tag_file e caller label path (synced_rev labelling e caller label argument path))
      (named_submitted d e twins caller)
      (λ a path. tag_file_same label path (synced_rev labelling d caller label a path) (synced_rev labelling e caller label a path)
      (synced_same labelling label a path)) arguments in
      λ i. unless (refuse_if (not (is_label_same d e (alike_of d e twins) label i)) (NoSuchLabel label) ∷ refuse_if (is_locked_same d e twins label i)
      (LabelLocked label) ∷ []) (within_files (each i))
