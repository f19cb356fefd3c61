-- What replicas of two masters reply.
use Rattle.std.proofs.Common.{◌≡◌, cond, List, [], ◌∷◌, Result, Ok, Err, refl, sym, ap, ◌∙◌}
use Rattle.depot_model.specs.About.{about}
use Rattle.depot_model.specs.Commands.{whole_step, step}
use Rattle.depot_model.specs.Common.{word_refusal}
use Rattle.depot_model.specs.Cut.{cut}
use Rattle.depot_model.specs.Deeds.{Deed}
use Rattle.depot_model.specs.Records.{SameRows}
use Rattle.depot_model.specs.Refusals.{refusal_row}
use Rattle.depot_model.specs.Rules.{IsSound}
use Rattle.depot_model.specs.Step.{Step, refuses}
use Rattle.depot_model.specs.declared.command.Command.{Command}
use Rattle.depot_model.specs.declared.filter.FilterRule.{FilterRule}
use Rattle.depot_model.specs.declared.refusal.Refusal.TheVariants.{ReadOnly}
use Rattle.depot_model.specs.declared.reply.Row.{Row}
use Rattle.depot_model.specs.declared.request.Request.{Request}
use Rattle.depot_model.specs.declared.request.WordFault.{WordFault}
use Rattle.depot_runs.specs.Replica.{is_refused, answered, replica_reply}
use Rattle.depot_facts.specs.Contents.{SameContents}
use Rattle.depots_alike.proofs.Whole.{step_same}
use Rattle.cut_depots.proofs.Sound.{cut_sound}

module _ (d : List Deed) (request : Request) where
  abbrev reply_by : Result Command WordFault → List Row
  reply_by asked = elim asked [ Err fault ↦ refusal_row (word_refusal fault) ∷ [] | Ok command ↦ answered d request command ]

  abbrev rows_by : Result Command WordFault → List Row
  rows_by asked = (elim asked as (λ _. Step) [ Err fault ↦ refuses (word_refusal fault) | Ok command ↦ whole_step d request command ]).rows

-- ---- two depots

alike : (d e : List Deed) (request : Request) → step d request ≡ step e request → (asked : Result Command WordFault) → request.command ≡ asked
    → replica_reply d request ≡ replica_reply e request
alike d e request same (Err fault) asked = ap (reply_by d request) asked ∙ sym (ap (reply_by e request) asked)
alike d e request same (Ok command) asked =
    let rows : (whole_step d request command).rows ≡ (whole_step e request command).rows =
    sym (ap (rows_by d request) asked) ∙ ap (λ (s : Step). s.rows) same ∙ ap (rows_by e request) asked in
    ap (reply_by d request) asked
    ∙ ap (λ (told : List Row). cond (is_refused command) (refusal_row (ReadOnly (about command).word) ∷ []) told) rows
    ∙ sym (ap (reply_by e request) asked)

pub masters_alike : (rules : List FilterRule) (d e : List Deed) (request : Request) → IsSound d → IsSound e → SameRows (cut rules d) (cut rules e)
    → SameContents (cut rules d) (cut rules e) → replica_reply (cut rules d) request ≡ replica_reply (cut rules e) request
masters_alike rules d e request left right rows contents =
    alike (cut rules d) (cut rules e) request
    (step_same (cut rules d) (cut rules e) (record { left = cut_sound rules d left; right = cut_sound rules e right; rows = rows; contents = contents }) request)
    request.command refl
