-- What deeds on the files of a client leave: rights, views and revisions.
use Rattle.std.proofs.Common.{◌≡◌, ℕ, Bool, true, List, [], ◌∷◌, Option, Some, None, refl, sym, ap, subst, ◌∙◌}
use Rattle.std.specs.Prelude.{if◌then◌else◌, find, not, unwrap_or}
use Rattle.depot_rows.specs.depot_path.Fit.{filled, texts}
use Rattle.depot_rows.specs.depot_path.Path.{is_path}
use Rattle.depot_rows.specs.depot_path.declared.file_spec.FileSpec.{FileSpec}
use Rattle.depot_rows.specs.depot_path.declared.revision.Wanted.{Wanted}
use Rattle.depot_rows.specs.depot_path.declared.revision.Wanted.TheVariants.{Head}
use Rattle.depot_rows.specs.view_map.Mapping.{files_at}
use Rattle.depot_rows.specs.view_map.Specifiers.{answering}
use Rattle.depot_rows.specs.view_map.declared.line.ViewLine.{ViewLine}
use Rattle.depot_rows.specs.protect_table.declared.line.ProtectLine.{ProtectLine}
use Rattle.depot_rows.specs.protect_table.declared.who.Who.{Who}
use Rattle.depot_rows.specs.depot_model.declared.command.FileArgument.{FileArgument}
use Rattle.depot_rows.specs.depot_model.declared.command.PatternArgument.{PatternArgument}
use Rattle.depot_rows.specs.depot_model.declared.request.Caller.{Caller}
use Rattle.depot_rows.specs.depot_model.Arguments.{in_client_syntax}
use Rattle.depot_rows.specs.depot_model.Asking.{protects, view, who_of}
use Rattle.depot_rows.specs.depot_model.Choice.{shown}
use Rattle.depot_rows.specs.depot_model.Deeds.{Deed}
use Rattle.depot_rows.specs.depot_model.Revisions.{head, is_live_head}
use Rattle.depot_rows.specs.depot_model.Steps.Adding.{first_live}
use Rattle.depot_rows.specs.depot_model.Steps.Targets.{source_text, target_at, target_text}
use Rattle.depot_rows.specs.depot_model.WellFormed.{asks_head}
use Rattle.named_files.specs.Asked.{IsAsker}
use Rattle.named_files.specs.declared.asker.Asker.{Asker}
use Rattle.named_files.proofs.Heads.{at_own_head}
use Rattle.opening_reads.specs.OwnOpenings.{Came}
use Rattle.opening_reads.proofs.OwnDeeds.{kept, of_each}

abbrev Left : {A : Type 0} → (List Deed → A) → List Deed → Deed → Type 0
Left says d deed = says (deed ∷ d) ≡ says d

-- an argument that asks for no revision
pub head_wanted : (a : FileArgument) → asks_head a ≡ true → Head ≡ a.spec.wanted
head_wanted a asks = ap (λ (spec : FileSpec). spec.wanted) (at_own_head a asks)

module _ (client : List ℕ) (d e : List Deed) (came : Came client d e) where
  pub head_later : (path : List ℕ) → head e path ≡ head d path
  head_later path =
      let says : List Deed → ℕ = λ x. head x path in
      kept client says (λ deed x is. of_each client (Left says x) (λ o. refl) (λ held. refl) (λ held rev. refl) (λ o. refl) (λ held from how. refl) deed is) d e came

  pub live_later : (path : List ℕ) → is_live_head e path ≡ is_live_head d path
  live_later path =
      let says : List Deed → Bool = λ x. is_live_head x path in
      kept client says (λ deed x is. of_each client (Left says x) (λ o. refl) (λ held. refl) (λ held rev. refl) (λ o. refl) (λ held from how. refl) deed is) d e came

  view_later : (name : List ℕ) → view e name ≡ view d name
  view_later name =
      let says : List Deed → List ViewLine = λ x. view x name in
      kept client says (λ deed x is. of_each client (Left says x) (λ o. refl) (λ held. refl) (λ held rev. refl) (λ o. refl) (λ held from how. refl) deed is) d e came

  first_live_later : (paths : List (List ℕ)) → first_live e paths ≡ first_live d paths
  first_live_later [] = refl
  first_live_later (path ∷ paths) = λ i. Some (unwrap_or (find (λ p. live_later p i) (path ∷ paths)) path)

  module _ (caller : Caller) where
    protects_later : protects e ≡ protects d
    protects_later =
        let says : List Deed → List ProtectLine = λ x. protects x in
        kept client says (λ deed x is. of_each client (Left says x) (λ o. refl) (λ held. refl) (λ held rev. refl) (λ o. refl) (λ held from how. refl) deed is) d e came

    who_later : who_of e caller ≡ who_of d caller
    who_later =
        let says : List Deed → Who = λ x. who_of x caller in
        kept client says (λ deed x is. of_each client (Left says x) (λ o. refl) (λ held. refl) (λ held rev. refl) (λ o. refl) (λ held from how. refl) deed is) d e came

    pub asked_later : (asker : Asker) → IsAsker d caller asker → IsAsker e caller asker
    asked_later asker asked = record {
      client = asked.client;
      protects = asked.protects ∙ sym protects_later;
      who = asked.who ∙ sym who_later;
      view = asked.view ∙ sym (view_later caller.client);
    }

    pub shown_later : (path : List ℕ) → shown e caller Head path ≡ shown d caller Head path
    shown_later path =
        let says : List Deed → Option (List ℕ) = λ x. shown x caller Head path in
        kept client says (λ deed x is. of_each client (Left says x) (λ o. refl) (λ held. refl) (λ held rev. refl) (λ o. refl) (λ held from how. refl) deed is) d e came

    source_later : (from : FileArgument) (path : List ℕ) → asks_head from ≡ true → source_text e caller from path ≡ source_text d caller from path
    source_later from path asks = ap (λ (s : Option (List ℕ)). if in_client_syntax caller.client from.spec.pattern then s else Some path) there
      where
        there : shown e caller from.spec.wanted path ≡ shown d caller from.spec.wanted path
        there = subst (λ (w : Wanted). shown e caller w path ≡ shown d caller w path) (head_wanted from asks) (shown_later path)

    pub target_text_later : (from : FileArgument) (to : PatternArgument) (path : List ℕ) → asks_head from ≡ true → target_text e caller from to path ≡ target_text d caller from to path
    target_text_later from to path asks =
        ap (λ (s : Option (List ℕ)). filled to.pattern (answering from.spec.pattern to.pattern (unwrap_or (texts from.spec.pattern (unwrap_or s path)) []))) (source_later from path asks)

    pub target_at_later : (to : PatternArgument) (text : List ℕ) → target_at e caller to text ≡ target_at d caller to text
    target_at_later to text =
        ap (λ (s : Option (List ℕ)). if not (is_path text) then None else (if in_client_syntax caller.client to.pattern then s else Some text)) there
      where
        there : first_live e (files_at (view e caller.client) text) ≡ first_live d (files_at (view d caller.client) text)
        there = ap (λ v. first_live e (files_at v text)) (view_later caller.client) ∙ first_live_later (files_at (view d caller.client) text)
