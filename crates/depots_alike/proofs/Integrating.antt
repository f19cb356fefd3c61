-- integrate, in sound depots with the same rows and contents.
use Rattle.std.proofs.Common.{◌≡◌, ℕ, false, not, List, [], ◌∷◌, Option, Some, None, refl, sym, ap, ◌∙◌}
use Rattle.std.specs.Prelude.{codes, if◌then◌else◌, filter, is_some, unwrap_or}
use Rattle.std.specs.List.{last_or}
use Rattle.depot_rows.specs.depot_path.Path.{printed}
use Rattle.depot_rows.specs.depot_path.declared.revision.Wanted.{Wanted}
use Rattle.depot_rows.specs.depot_path.declared.revision.Wanted.TheVariants.{Head}
use Rattle.depot_rows.specs.depot_model.declared.command.FileArgument.{FileArgument}
use Rattle.depot_rows.specs.depot_model.declared.command.PatternArgument.{PatternArgument}
use Rattle.depot_rows.specs.depot_model.declared.refusal.Refusal.TheVariants.{NotInView, AlreadyOpen, AllIntegrated}
use Rattle.depot_rows.specs.depot_model.declared.request.Caller.{Caller}
use Rattle.depot_rows.specs.depot_model.Arguments.{named, submitted, within_files}
use Rattle.depot_rows.specs.depot_model.Asking.{to_open, to_read}
use Rattle.depot_rows.specs.depot_model.Choice.{PassedOver, At}
use Rattle.depot_rows.specs.depot_model.Deeds.{Deed, Open, Got, Owe, Paid, Source, Action, Delete, Branch, Integrate, BranchFrom, DeleteFrom}
use Rattle.depot_rows.specs.depot_model.Revisions.{Revision, revision, head}
use Rattle.depot_rows.specs.depot_model.Step.{Step, nothing, does, refuses, unless, refuse_if}
use Rattle.depot_rows.specs.depot_model.Steps.Integrating.{uncredited, type_at, opening, owing, integrate_row, integrate_live, integrate_deleted, integrate_revs, new_type, integrate_to, integrate_chosen, integrate_file, integrate_all, integrate}
use Rattle.depot_rows.specs.depot_model.Steps.Opening.{exclusive_refusal, held}
use Rattle.depot_rows.specs.depot_model.Steps.Targets.{target_text}
use Rattle.step_tables.proofs.Opening.{integrate_file_stays}
use Rattle.depots_alike.proofs.Alike.{Alike, alike_of}
use Rattle.depots_alike.proofs.Asked.{right_same, exclusive_same, target_text_same, target_at_same}
use Rattle.depots_alike.proofs.Choosing.{head_same, revision_same, chosen_same, shown_same, is_live_same, is_live_head_same}
use Rattle.depots_alike.proofs.Files.{type_seen, named_submitted}
use Rattle.depots_alike.proofs.Ranges.{in_range_same}
use Rattle.depots_alike.proofs.Simple.{named_change_same}
use Rattle.depots_alike.proofs.Turning.{turns_same_with}
use Rattle.depots_alike.proofs.Twins.{Twins}

module _ (caller : Caller) (change : Option ℕ) where
  module _ (d e : List Deed) (alike : Alike d e) where
    type_same : (path : List ℕ) (n : ℕ) → type_at d path n ≡ type_at e path n
    type_same path n = sym (type_seen (revision d path n))
        ∙ ap (λ (o : Option Revision). elim o as (λ _. List ℕ) [ None ↦ codes "text" | Some r ↦ (r.entry).file_type ]) (revision_same d e alike path n)
        ∙ type_seen (revision e path n)

    head_type_same : (t : List ℕ) → type_at d t (head d t) ≡ type_at e t (head e t)
    head_type_same t = ap (type_at d t) (head_same d e alike t) ∙ type_same t (head e t)

    opening_same : (action : Action) (t : List ℕ) (source : Option Source) (type other : List ℕ) → type ≡ other
        → opening d caller change action type t source ≡ opening e caller change action other t source
    opening_same action t source type other one = λ i. record {
      client = caller.client;
      path = t;
      base = head_same d e alike t i;
      action = action;
      file_type = one i;
      change = unwrap_or change 0;
      source = source;
      moved = None;
    }

    live_same : (s t : List ℕ) (first last : ℕ) → integrate_live d caller change s t first last ≡ integrate_live e caller change s t first last
    live_same s t first last =
        let over = opening_same Integrate t None (type_at d t (head d t)) (type_at e t (head e t)) (head_type_same t) in
        let new = opening_same Branch t (Some (record { path = s; rev = last })) (type_at d s last) (type_at e s last) (type_same s last) in
        λ i. if is_live_head_same d e alike t i
        then does (Open (over i) ∷ Got (held caller t) (head_same d e alike t i) ∷ Owe (owing caller s t first last) ∷ []) (integrate_row s t first last Integrate)
        else does (Open (new i) ∷ Owe (owing caller s t first last) ∷ Paid (held caller t) s BranchFrom ∷ []) (integrate_row s t first last Branch)

    deleted_same : (s t : List ℕ) (first last : ℕ) → integrate_deleted d caller change s t first last ≡ integrate_deleted e caller change s t first last
    deleted_same s t first last =
        let gone = opening_same Delete t None (type_at d t (head d t)) (type_at e t (head e t)) (head_type_same t) in
        λ i. if is_live_head_same d e alike t i
        then does (Open (gone i) ∷ Owe (owing caller s t first last) ∷ Paid (held caller t) s DeleteFrom ∷ []) (integrate_row s t first last Delete)
        else refuses (AllIntegrated t)

    revs_same : (s t revs : List ℕ) → integrate_revs d caller change s t revs ≡ integrate_revs e caller change s t revs
    revs_same s t [] = refl
    revs_same s t (first ∷ revs) =
        let last = unwrap_or (last_or (Some first) revs) first in
        λ i. if is_live_same d e alike s last i then live_same s t first last i else deleted_same s t first last i

    uncredited_same : (wanted : Wanted) (s t : List ℕ) → uncredited d caller wanted s t ≡ uncredited e caller wanted s t
    uncredited_same wanted s t = λ i. filter (λ n. not (alike.credits s t n i)) (in_range_same d e alike caller s wanted i)

    new_type_same : (s t : List ℕ) (n : ℕ) → new_type d s t n ≡ new_type e s t n
    new_type_same s t n = λ i. if is_live_head_same d e alike t i then head_type_same t i else type_same s n i

    module _ (b c : List Deed) (opened_alike : Alike b c) where
      to_same : (wanted : Wanted) (s t : List ℕ) → integrate_to d b caller change wanted s t ≡ integrate_to e c caller change wanted s t
      to_same wanted s t =
          let revs = uncredited_same wanted s t in
          let type = ap (λ rs. new_type d s t (unwrap_or (last_or None rs) 0)) revs ∙ new_type_same s t (unwrap_or (last_or None (uncredited e caller wanted s t)) 0) in
          let barred = ap (exclusive_refusal b t caller.client) type
          ∙ exclusive_same b c opened_alike t caller.client (new_type e s t (unwrap_or (last_or None (uncredited e caller wanted s t)) 0)) in
          let each = ap (integrate_revs d caller change s t) revs ∙ revs_same s t (uncredited e caller wanted s t) in
          λ i. unless (
          right_same d e alike caller to_open t i
          ∷ refuse_if (not (is_some (shown_same d e alike caller Head t i))) (NotInView (printed t))
          ∷ refuse_if (is_some (opened_alike.openings caller.client t i)) (AlreadyOpen t)
          ∷ barred i
          ∷ [])
          (each i)

      module _ (from : FileArgument) (to : PatternArgument) (s : List ℕ) where
        chosen_there : integrate_chosen d b caller change from to s ≡ integrate_chosen e c caller change from to s
        chosen_there =
            let text = target_text_same d e alike caller from to s in
            let target = target_at_same d e alike caller to (target_text d caller from to s) (target_text e caller from to s) text in
            λ i. elim (target i) as (λ _. Step) [ None ↦ refuses (NotInView (printed (text i))) | Some t ↦ to_same (from.spec).wanted s t i ]

        file_same : integrate_file d caller change from to b s ≡ integrate_file e caller change from to c s
        file_same = λ i. unless (right_same d e alike caller to_read s i ∷ []) (elim (chosen_same d e alike caller s (from.spec).wanted i) as (λ _. Step) [
          | PassedOver ↦ nothing
          | At n ↦ chosen_there i
        ])

  module _ (from : FileArgument) (to : PatternArgument) where
    all_same : (d e : List Deed) → Alike d e → (sources : List (List ℕ)) → integrate_all d caller change from to sources ≡ integrate_all e caller change from to sources
    all_same d e alike [] = refl
    all_same d e alike (s ∷ sources) = turns_same_with (integrate_file d caller change from to) (integrate_file e caller change from to)
        (λ b c opened_alike. file_same d e alike b c opened_alike from to)
        (λ b path. (integrate_file_stays caller change from to d b path).each) d e alike (s ∷ sources)

pub integrate_same : (d e : List Deed) → Twins d e → (caller : Caller) (change : Option ℕ) (from : FileArgument) (to : PatternArgument)
    → integrate d caller change from to ≡ integrate e caller change from to
integrate_same d e twins caller change from to =
    let each = ap (integrate_all d caller change from to) (named_submitted d e twins caller from)
    ∙ all_same caller change from to d e (alike_of d e twins) (named false e caller (submitted e) from) in
    λ i. unless (named_change_same d e twins caller change i ∷ []) (within_files (each i))
