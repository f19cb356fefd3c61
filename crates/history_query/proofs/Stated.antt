-- What rows say of a file is what `fstat` tells.
use Rattle.std.proofs.Common.{◌≡◌, ℕ, List, [], ◌∷◌, ◌++◌, Option, Some, None, refl, ap}
use Rattle.std.specs.Prelude.{◌==◌, codes, if◌then◌else◌, option_map}
use Rattle.depot_rows.specs.view_map.Mapping.{path_in}
use Rattle.depot_rows.specs.db_records.declared.record.Record.TheVariants.{Working}
use Rattle.depot_rows.specs.db_records.declared.rows.WorkingRecord.{WorkingRecord}
use Rattle.depot_rows.specs.depot_model.declared.request.Caller.{Caller}
use Rattle.depot_rows.specs.depot_model.declared.reply.Field.{Field}
use Rattle.depot_rows.specs.depot_model.Asking.{view}
use Rattle.depot_rows.specs.depot_model.Deeds.{Deed, Opening}
use Rattle.depot_rows.specs.depot_model.Latest.{have}
use Rattle.depot_rows.specs.depot_model.Opened.{opened}
use Rattle.depot_rows.specs.depot_model.Records.{working_record}
use Rattle.depot_rows.specs.depot_model.Rows.{row, path_field, number_field, text_field, if_any, action_word}
use Rattle.depot_rows.specs.depot_model.Step.{nothing, tells}
use Rattle.depot_rows.specs.depot_model.Steps.History.{stat_row}
use Rattle.depot_rows.specs.depot_model.Steps.Listing.{Numbered}
use Rattle.reply_rows.proofs.Bare.{AreBare}
use Rattle.history_query.specs.Stating.{stats_told}
use Rattle.history_query.specs.Telling.{revision_records}

abbrev acted_field : WorkingRecord → Field
acted_field r = text_field (codes "action") r.action

acted : (d : List Deed) (row : Option WorkingRecord) (o : Option Opening) → option_map (λ r. Working r) row ≡ option_map (working_record d) o
    → if_any acted_field row ≡ if_any (λ (o : Opening). text_field (codes "action") (action_word o.action)) o
acted d None None e = refl
acted d (Some r) (Some o) e = let action : r.action ≡ action_word o.action = cc in ap (λ (t : List ℕ). text_field (codes "action") t ∷ []) action
acted d None (Some o) e = absurd cc
acted d (Some r) None e = absurd cc

-- what is told of the rows is what the model tells
pub stats_are : (d : List Deed) (caller : Caller) (path : List ℕ) (opening : Option WorkingRecord) (found : Option Numbered)
    → option_map (λ r. Working r) opening ≡ option_map (working_record d) (opened d caller.client path)
    → tells (stats_told path (path_in (view d caller.client) path) (have d caller.client path) opening (option_map revision_records found))
    ≡ (elim found [ None ↦ nothing | Some r ↦ tells (stat_row d caller path r ∷ []) ])
stats_are d caller path opening None e = refl
stats_are d caller path opening (Some r) e =
    ap (λ (ending : List Field). tells (row (
    path_field (codes "depotFile") path ∷ if_any (path_field (codes "clientFile")) (path_in (view d caller.client) path)
    ++ text_field (codes "headAction") (action_word r.made.entry.action) ∷ text_field (codes "headType") r.made.entry.file_type
    ∷ number_field (codes "headTime") r.made.landing.moment ∷ number_field (codes "headRev") r.number
    ∷ number_field (codes "headChange") r.made.landing.change
    ∷ (if have d caller.client path == 0 then [] else number_field (codes "haveRev") (have d caller.client path) ∷ [])
    ++ ending) ∷ [])) (acted d opening (opened d caller.client path) e)

pub stats_bare : (path : List ℕ) (place : Option (List ℕ)) (had : ℕ) (opening : Option WorkingRecord) (found : Option Numbered)
    → AreBare (stats_told path place had opening (option_map revision_records found))
stats_bare path place had opening None = tt
stats_bare path place had opening (Some r) = (refl, tt)
