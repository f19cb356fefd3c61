-- What a file argument names in depots that tell alike.
use Rattle.std.proofs.Common.{◌≡◌, ℕ, ◌+◌, zero, suc, Bool, false, List, [], ◌∷◌, length, map, Option, Some, None, Ok, Err, refl, sym, ap, ◌∙◌}
use Rattle.std.specs.Prelude.{◌&&◌, pos, int_le, nat_le, max, codes, if◌then◌else◌, filter, is_some, option_map, slice_get}
use Rattle.std.specs.List.{list_any}
use Rattle.std.specs.Option.{option_map_or}
use Rattle.depot_rows.specs.depot_path.Fit.{fits}
use Rattle.depot_rows.specs.depot_path.declared.file_spec.FileSpec.{FileSpec}
use Rattle.depot_rows.specs.depot_path.declared.revision.RevSpec.{RevSpec}
use Rattle.depot_rows.specs.depot_path.declared.revision.RevSpec.TheVariants.{Number, Newest, Have, Zero, Change, Only, Moment, Named}
use Rattle.depot_rows.specs.depot_path.declared.revision.Wanted.{Wanted}
use Rattle.depot_rows.specs.depot_path.declared.revision.Wanted.TheVariants.{Head, One, Range}
use Rattle.depot_rows.specs.spec_form.Form.{FormValue, lines_of}
use Rattle.depot_rows.specs.view_map.Mapping.{mapped, path_in}
use Rattle.depot_rows.specs.view_map.Reading.{view_of}
use Rattle.depot_rows.specs.view_map.declared.line.ViewLine.{ViewLine}
use Rattle.depot_rows.specs.view_map.declared.mapped.Mapped.TheVariants.{Nothing, At as MappedAt}
use Rattle.depot_rows.specs.depot_model.declared.command.FileArgument.{FileArgument}
use Rattle.depot_rows.specs.depot_model.declared.request.Caller.{Caller}
use Rattle.depot_rows.specs.depot_model.Arguments.{place, fits_at, names, named, in_client_syntax}
use Rattle.depot_rows.specs.depot_model.Asking.{view, is_client, is_label, may_at, may_list, to_list}
use Rattle.depot_rows.specs.depot_model.Choice.{Choice, PassedOver, At, made_by_most, made_by, at_or_above_one, chosen_by, chosen, is_live_choice, shown}
use Rattle.depot_rows.specs.depot_model.Deeds.{Deed, ClientForm, LabelForm}
use Rattle.depot_rows.specs.depot_model.Revisions.{Revision, revisions, revision, head, is_live, is_live_at, is_live_head, last_passing}
use Rattle.depot_facts.specs.Contents.{seen}
use Rattle.depots_alike.proofs.Alike.{Alike}
use Rattle.depots_alike.proofs.Revisions.{get_seen}

last_seen : (test : Revision → Bool) → ((r : Revision) → test (seen r) ≡ test r) → (n : ℕ) (rs : List Revision) → last_passing test n (map seen rs)
    ≡ last_passing test n rs
last_seen test alike n [] = refl
last_seen test alike n (r ∷ rs) = λ i. max (if alike r i then n else 0) (last_seen test alike (n + 1) rs i)

length_seen : (rs : List Revision) → length (map seen rs) ≡ length rs
length_seen [] = refl
length_seen (r ∷ rs) = ap suc (length_seen rs)

pub live_seen : (o : Option Revision) → option_map_or is_live (option_map seen o) false ≡ option_map_or is_live o false
live_seen None = refl
live_seen (Some r) = refl

module _ (d e : List Deed) (alike : Alike d e) where
  pub is_client_same : (name : List ℕ) → is_client d name ≡ is_client e name
  is_client_same name = ap is_some (alike.forms ClientForm name)

  pub is_label_same : (name : List ℕ) → is_label d name ≡ is_label e name
  is_label_same name = ap is_some (alike.forms LabelForm name)

  pub view_same : (client : List ℕ) → view d client ≡ view e client
  view_same client = ap (λ (o : Option FormValue). elim o as (λ _. List ViewLine) [
    | None ↦ []
    | Some form ↦ elim (view_of client (lines_of form (codes "View"))) as (λ _. List ViewLine) [ Ok lines ↦ lines | Err fault ↦ [] ]
  ]) (alike.forms ClientForm client)

  pub head_same : (path : List ℕ) → head d path ≡ head e path
  head_same path = sym (length_seen (revisions d path)) ∙ ap length (alike.made path) ∙ length_seen (revisions e path)

  pub revision_same : (path : List ℕ) (n : ℕ) → option_map seen (revision d path n) ≡ option_map seen (revision e path n)
  revision_same path zero = refl
  revision_same path (suc n) = sym (get_seen (revisions d path) n) ∙ ap (λ (rs : List Revision). slice_get rs n) (alike.made path) ∙ get_seen (revisions e path) n

  passing_same : (test : Revision → Bool) → ((r : Revision) → test (seen r) ≡ test r) → (path : List ℕ)
      → last_passing test 1 (revisions d path) ≡ last_passing test 1 (revisions e path)
  passing_same test same_seen path =
      sym (last_seen test same_seen 1 (revisions d path)) ∙ ap (last_passing test 1) (alike.made path)
      ∙ last_seen test same_seen 1 (revisions e path)

  pub is_live_same : (path : List ℕ) (n : ℕ) → is_live_at d path n ≡ is_live_at e path n
  is_live_same path n =
      sym (live_seen (revision d path n)) ∙ ap (λ (o : Option Revision). option_map_or is_live o false) (revision_same path n)
      ∙ live_seen (revision e path n)

  pub is_live_head_same : (path : List ℕ) → is_live_head d path ≡ is_live_head e path
  is_live_head_same path = ap (is_live_at d path) (head_same path) ∙ is_live_same path (head e path)

  module _ (caller : Caller) where
    pub may_same : (path : List ℕ) (need : ℕ) → may_at d caller path need ≡ may_at e caller path need
    may_same path need = alike.rights caller path need

    pub may_list_same : (path : List ℕ) → may_list d caller path ≡ may_list e caller path
    may_list_same path = may_same path to_list

    chosen_by_same : (path : List ℕ) (end : RevSpec) → chosen_by d caller path end ≡ chosen_by e caller path end
    chosen_by_same path (Number n) = ap (λ m. if nat_le n m then At n else PassedOver) (head_same path)
    chosen_by_same path Newest = ap At (head_same path)
    chosen_by_same path Have = ap At (alike.haves caller.client path)
    chosen_by_same path Zero = refl
    chosen_by_same path (Change n) = ap At (passing_same (made_by_most n) (λ r. refl) path)
    chosen_by_same path (Only n) = ap at_or_above_one (passing_same (made_by n) (λ r. refl) path)
    chosen_by_same path (Moment t) = ap At (passing_same (λ r. int_le (pos r.landing.moment) t) (λ r. refl) path)
    chosen_by_same path (Named name) =
        λ i. At (if is_label_same name i then alike.labels name path i else alike.haves name path i)

    pub chosen_same : (path : List ℕ) (wanted : Wanted) → chosen d caller path wanted ≡ chosen e caller path wanted
    chosen_same path Head = ap At (head_same path)
    chosen_same path (One end) = chosen_by_same path end
    chosen_same path (Range first second) = chosen_by_same path second

    live_choice_at : (path : List ℕ) (choice : Choice) → is_live_choice d path choice ≡ is_live_choice e path choice
    live_choice_at path PassedOver = refl
    live_choice_at path (At n) = is_live_same path n

    live_choice_same : (path : List ℕ) (wanted : Wanted) → is_live_choice d path (chosen d caller path wanted) ≡ is_live_choice e path (chosen e caller path wanted)
    live_choice_same path wanted = ap (is_live_choice d path) (chosen_same path wanted) ∙ live_choice_at path (chosen e caller path wanted)

    pub shown_same : (wanted : Wanted) (path : List ℕ) → shown d caller wanted path ≡ shown e caller wanted path
    shown_same wanted path = λ i. elim (mapped (view_same caller.client i) path) as (λ _. Option (List ℕ)) [
      | Nothing ↦ None
      | MappedAt place rivals ↦ if list_any (λ rival. live_choice_same rival wanted i) rivals then None else Some place
    ]

    place_same : (mapped_only : Bool) (spec : FileSpec) (path : List ℕ) → place mapped_only d caller spec path ≡ place mapped_only e caller spec path
    place_same mapped_only spec path = λ i. if mapped_only then path_in (view_same caller.client i) path else shown_same spec.wanted path i

    names_same : (mapped_only : Bool) (spec : FileSpec) (path : List ℕ) → names mapped_only d caller spec path ≡ names mapped_only e caller spec path
    names_same mapped_only spec path = λ i. may_list_same path i
        && (if in_client_syntax caller.client spec.pattern then fits_at spec.pattern (place_same mapped_only spec path i) else fits spec.pattern path)

    pub named_same : (mapped_only : Bool) (files others : List (List ℕ)) → files ≡ others → (argument : FileArgument)
        → named mapped_only d caller files argument ≡ named mapped_only e caller others argument
    named_same mapped_only files others one argument = λ i. filter (λ path. names_same mapped_only argument.spec path i) (one i)
