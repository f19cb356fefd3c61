-- What a file argument names, in depots of which all is read alike but shelved files.
use Rattle.std.proofs.Common.{◌≡◌, ℕ, false, List, [], length, Option, Some, None, Ok, Err, refl, ap, ◌∙◌}
use Rattle.std.specs.Prelude.{◌&&◌, ◌==◌, find, pos, int_le, nat_le, codes, if◌then◌else◌, filter, is_some, unwrap_or}
use Rattle.std.specs.List.{list_any}
use Rattle.std.specs.Option.{option_map_or, option_flatten}
use Rattle.depot_model.specs.depot_path.Bytes.{same}
use Rattle.depot_model.specs.depot_path.Fit.{fits}
use Rattle.depot_model.specs.depot_path.declared.file_spec.FileSpec.{FileSpec}
use Rattle.depot_model.specs.depot_path.declared.revision.RevSpec.{RevSpec}
use Rattle.depot_model.specs.depot_path.declared.revision.RevSpec.TheVariants.{Number, Newest, Have, Zero, Change, Only, Moment, Named}
use Rattle.depot_model.specs.depot_path.declared.revision.Wanted.{Wanted}
use Rattle.depot_model.specs.depot_path.declared.revision.Wanted.TheVariants.{Head, One, Range}
use Rattle.depot_model.specs.protect_table.Rights.{may, may_any}
use Rattle.depot_model.specs.spec_form.Form.{FormValue, lines_of}
use Rattle.depot_model.specs.view_map.Mapping.{mapped}
use Rattle.depot_model.specs.view_map.Reading.{view_of}
use Rattle.depot_model.specs.view_map.declared.line.ViewLine.{ViewLine}
use Rattle.depot_model.specs.view_map.declared.mapped.Mapped.TheVariants.{Nothing, At as MappedAt}
use Rattle.depot_model.specs.declared.command.FileArgument.{FileArgument}
use Rattle.depot_model.specs.declared.request.Caller.{Caller}
use Rattle.depot_model.specs.Arguments.{fits_at, names, named, in_client_syntax, submitted}
use Rattle.depot_model.specs.Asking.{groups_of, protects, read_lines, view, is_client, is_label, may_at, may_anywhere, may_list, to_list}
use Rattle.depot_model.specs.Choice.{Choice, PassedOver, At, made_by_most, made_by, at_or_above_one, chosen_by, chosen, is_live_choice, shown}
use Rattle.depot_model.specs.Deeds.{Deed, Landing}
use Rattle.depot_model.specs.Latest.{have, labelled, users}
use Rattle.depot_model.specs.Numbers.{pending, landing}
use Rattle.depot_model.specs.Revisions.{Revision, revision, revision_in, head, is_live, is_live_at, last_passing}
use Rattle.depot_model.specs.Steps.Listing.{Numbered, numbered, chosen_revision, listed}
use Rattle.shelf_laws.proofs.Apart.{Alike}

module _ (d e : List Deed) (alike : Alike d e) where
  have_same : (client path : List ℕ) → have d client path ≡ have e client path
  have_same client path = ap (λ (o : Option ℕ). unwrap_or o 0) (alike.gots client path)

  labelled_same : (label path : List ℕ) → labelled d label path ≡ labelled e label path
  labelled_same label path = ap (λ (o : Option ℕ). unwrap_or o 0) (alike.tags label path)

  pub landing_same : (n : ℕ) → landing d n ≡ landing e n
  landing_same n = ap (find (λ (l : Landing). l.change == n)) alike.landed

  pub pending_same : (n : ℕ) → pending d n ≡ pending e n
  pending_same n = ap option_flatten (alike.pendings n)

  -- ---- rights, clients, labels

  protects_same : protects d ≡ protects e
  protects_same = ap (λ (o : Option (List (List ℕ))). read_lines (unwrap_or o [])) alike.guards

  users_same : (name : List ℕ) → users d name ≡ users e name
  users_same name = ap (λ (o : Option (List (List ℕ))). unwrap_or o []) (alike.members name)

  groups_same : (user : List ℕ) → groups_of d user ≡ groups_of e user
  groups_same user = λ i. filter (λ group. list_any (same user) (users_same group i)) (alike.groups i)

  pub may_same : (caller : Caller) (path : List ℕ) (need : ℕ) → may_at d caller path need ≡ may_at e caller path need
  may_same caller path need = λ i. may (protects_same i) (record { user = caller.user; groups = groups_same caller.user i; host = caller.host }) path need

  pub anywhere_same : (caller : Caller) (need : ℕ) → may_anywhere d caller need ≡ may_anywhere e caller need
  anywhere_same caller need = λ i. may_any (protects_same i) (record { user = caller.user; groups = groups_same caller.user i; host = caller.host }) need

  pub is_client_same : (name : List ℕ) → is_client d name ≡ is_client e name
  is_client_same name = ap is_some (alike.clients name)

  pub is_label_same : (name : List ℕ) → is_label d name ≡ is_label e name
  is_label_same name = ap is_some (alike.labels name)

  view_same : (client : List ℕ) → view d client ≡ view e client
  view_same client = ap (λ (o : Option FormValue). elim o as (λ _. List ViewLine) [
    | None ↦ []
    | Some form ↦ elim (view_of client (lines_of form (codes "View"))) as (λ _. List ViewLine) [ Ok lines ↦ lines | Err fault ↦ [] ]
  ]) (alike.clients client)

  -- ---- revisions

  pub head_same : (path : List ℕ) → head d path ≡ head e path
  head_same path = ap length (alike.made path)

  pub revision_same : (path : List ℕ) (n : ℕ) → revision d path n ≡ revision e path n
  revision_same path n = ap (λ (rs : List Revision). revision_in rs n) (alike.made path)

  is_live_same : (path : List ℕ) (n : ℕ) → is_live_at d path n ≡ is_live_at e path n
  is_live_same path n = ap (λ (o : Option Revision). option_map_or is_live o false) (revision_same path n)

  module _ (caller : Caller) where
    pub may_list_same : (path : List ℕ) → may_list d caller path ≡ may_list e caller path
    may_list_same path = may_same caller path to_list

    chosen_by_same : (path : List ℕ) (end : RevSpec) → chosen_by d caller path end ≡ chosen_by e caller path end
    chosen_by_same path (Number n) = ap (λ m. if nat_le n m then At n else PassedOver) (head_same path)
    chosen_by_same path Newest = ap At (head_same path)
    chosen_by_same path Have = ap At (have_same caller.client path)
    chosen_by_same path Zero = refl
    chosen_by_same path (Change n) = ap (λ (rs : List Revision). At (last_passing (made_by_most n) 1 rs)) (alike.made path)
    chosen_by_same path (Only n) = ap (λ (rs : List Revision). at_or_above_one (last_passing (made_by n) 1 rs)) (alike.made path)
    chosen_by_same path (Moment t) = ap (λ (rs : List Revision). At (last_passing (λ r. int_le (pos r.landing.moment) t) 1 rs)) (alike.made path)
    chosen_by_same path (Named name) = λ i. At (if is_label_same name i then labelled_same name path i else have_same name path i)

    pub chosen_same : (path : List ℕ) (wanted : Wanted) → chosen d caller path wanted ≡ chosen e caller path wanted
    chosen_same path Head = ap At (head_same path)
    chosen_same path (One end) = chosen_by_same path end
    chosen_same path (Range first second) = chosen_by_same path second

    live_choice_at : (path : List ℕ) (choice : Choice) → is_live_choice d path choice ≡ is_live_choice e path choice
    live_choice_at path PassedOver = refl
    live_choice_at path (At n) = is_live_same path n

    live_choice_same : (path : List ℕ) (wanted : Wanted) → is_live_choice d path (chosen d caller path wanted) ≡ is_live_choice e path (chosen e caller path wanted)
    live_choice_same path wanted = ap (is_live_choice d path) (chosen_same path wanted) ∙ live_choice_at path (chosen e caller path wanted)

    shown_same : (wanted : Wanted) (path : List ℕ) → shown d caller wanted path ≡ shown e caller wanted path
    shown_same wanted path = λ i. elim (mapped (view_same caller.client i) path) as (λ _. Option (List ℕ)) [
      | Nothing ↦ None
      | MappedAt place rivals ↦ if list_any (λ rival. live_choice_same rival wanted i) rivals then None else Some place
    ]

    names_same : (spec : FileSpec) (path : List ℕ) → names false d caller spec path ≡ names false e caller spec path
    names_same spec path = λ i. may_list_same path i
        && (if in_client_syntax caller.client spec.pattern then fits_at spec.pattern (shown_same spec.wanted path i) else fits spec.pattern path)

    pub named_same : (argument : FileArgument) → named false d caller (submitted d) argument ≡ named false e caller (submitted e) argument
    named_same argument = λ i. filter (λ path. names_same argument.spec path i) (alike.files i)

    -- ---- chosen revisions

    numbered_same : (path : List ℕ) (choice : Choice) → numbered d path choice ≡ numbered e path choice
    numbered_same path PassedOver = refl
    numbered_same path (At n) =
        ap (λ (o : Option Revision). elim o as (λ _. Option Numbered) [ None ↦ None | Some r ↦ Some (record { number = n; made = r }) ]) (revision_same path n)

    pub chosen_revision_same : (argument : FileArgument) (path : List ℕ) → chosen_revision d caller argument path ≡ chosen_revision e caller argument path
    chosen_revision_same argument path =
        ap (numbered d path) (chosen_same path (argument.spec).wanted) ∙ numbered_same path (chosen e caller path (argument.spec).wanted)

    pub listed_same : (argument : FileArgument) → listed d caller argument ≡ listed e caller argument
    listed_same argument = λ i. filter (λ path. is_some (chosen_revision_same argument path i)) (named_same argument i)
