-- What a step asks of a file in depots that tell alike: rights, who has it opened, exclusive types, and the targets of sources.
use Rattle.std.proofs.Common.{◌≡◌, ℕ, Bool, false, not, List, [], ◌∷◌, Some, None, refl, sym, ap, ◌∙◌}
use Rattle.std.specs.Prelude.{◌&&◌, ◌||◌, if◌then◌else◌, find, is_some, option_map, unwrap_or}
use Rattle.depot_rows.specs.depot_path.Bytes.{same}
use Rattle.depot_rows.specs.depot_path.Fit.{texts, filled}
use Rattle.depot_rows.specs.depot_path.Path.{printed, is_path}
use Rattle.depot_rows.specs.view_map.Mapping.{files_at}
use Rattle.depot_rows.specs.view_map.Specifiers.{answering}
use Rattle.depot_rows.specs.depot_model.declared.command.FileArgument.{FileArgument}
use Rattle.depot_rows.specs.depot_model.declared.command.PatternArgument.{PatternArgument}
use Rattle.depot_rows.specs.depot_model.declared.refusal.Refusal.TheVariants.{Denied, ExclusiveOpen}
use Rattle.depot_rows.specs.depot_model.declared.request.Caller.{Caller}
use Rattle.depot_rows.specs.depot_model.Arguments.{in_client_syntax}
use Rattle.depot_rows.specs.depot_model.Asking.{view}
use Rattle.depot_rows.specs.depot_model.Deeds.{Deed}
use Rattle.depot_rows.specs.depot_model.Latest.{keys_of}
use Rattle.depot_rows.specs.depot_model.Opened.{opened}
use Rattle.depot_rows.specs.depot_model.Step.{refuse_if}
use Rattle.depot_rows.specs.depot_model.Steps.Adding.{first_live}
use Rattle.depot_rows.specs.depot_model.Steps.Opening.{openers, opener_of, exclusive_refusal, is_exclusive, right_refusal}
use Rattle.depot_rows.specs.depot_model.Steps.Targets.{source_text, target_text, target_at}
use Rattle.depots_alike.proofs.Alike.{Alike}
use Rattle.depots_alike.proofs.Choosing.{may_same, view_same, shown_same, is_live_head_same}
use Rattle.depots_alike.proofs.Lists.{one_name_list, some_names_rise}
use Rattle.depots_alike.proofs.Names.{names_rise, openers_has}

module _ (d e : List Deed) (alike : Alike d e) where
  -- ---- who has a file opened

  pub openers_same : (path : List ℕ) → openers d path ≡ openers e path
  openers_same path = one_name_list (openers d path) (openers e path)
      (some_names_rise (λ client. is_some (opened d client path)) (keys_of (opener_of path) d) (names_rise (opener_of path) d))
      (some_names_rise (λ client. is_some (opened e client path)) (keys_of (opener_of path) e) (names_rise (opener_of path) e))
      (λ z. openers_has d path z ∙ ap is_some (alike.openings z path) ∙ sym (openers_has e path z))

  pub exclusive_same : (path client type : List ℕ) → exclusive_refusal d path client type ≡ exclusive_refusal e path client type
  exclusive_same path client type = λ i. option_map (ExclusiveOpen path) (find (λ other. not (same other client)
      && (is_exclusive type || elim (alike.openings other path i) as (λ _. Bool) [ None ↦ false | Some o ↦ is_exclusive o.file_type ]))
      (openers_same path i))

  -- ---- the first live file

  pub first_live_same : (paths others : List (List ℕ)) → paths ≡ others → first_live d paths ≡ first_live e others
  first_live_same paths others one = ap (first_live d) one ∙ go others
    where
      go : (xs : List (List ℕ)) → first_live d xs ≡ first_live e xs
      go [] = refl
      go (x ∷ xs) = λ i. Some (unwrap_or (find (λ p. is_live_head_same d e alike p i) (x ∷ xs)) x)

  module _ (caller : Caller) where
    pub right_same : (need : ℕ) (path : List ℕ) → right_refusal need d caller path ≡ right_refusal need e caller path
    right_same need path = ap (λ b. refuse_if (not b) (Denied (printed path) need)) (may_same d e alike caller path need)

    -- ---- targets

    source_text_same : (from : FileArgument) (path : List ℕ) → source_text d caller from path ≡ source_text e caller from path
    source_text_same from path = λ i. if in_client_syntax caller.client (from.spec).pattern then shown_same d e alike caller (from.spec).wanted path i else Some path

    pub target_text_same : (from : FileArgument) (to : PatternArgument) (path : List ℕ) → target_text d caller from to path ≡ target_text e caller from to path
    target_text_same from to path = λ i.
        filled to.pattern (answering (from.spec).pattern to.pattern (unwrap_or (texts (from.spec).pattern (unwrap_or (source_text_same from path i) path)) []))

    pub target_at_same : (to : PatternArgument) (text other : List ℕ) → text ≡ other → target_at d caller to text ≡ target_at e caller to other
    target_at_same to text other one = ap (target_at d caller to) one ∙ (λ i.
        if not (is_path other) then None else (if in_client_syntax caller.client to.pattern then live i else Some other))
      where
        live : first_live d (files_at (view d caller.client) other) ≡ first_live e (files_at (view e caller.client) other)
        live = first_live_same (files_at (view d caller.client) other) (files_at (view e caller.client) other) (λ i. files_at (view_same d e alike caller.client i) other)
