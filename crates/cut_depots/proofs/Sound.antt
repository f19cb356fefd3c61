-- A depot that is cut to a filter is sound.
use Rattle.std.proofs.Common.{List}
use Rattle.depot_rows.specs.depot_model.declared.filter.FilterRule.{FilterRule}
use Rattle.depot_rows.specs.depot_model.Cut.{cut}
use Rattle.depot_rows.specs.depot_model.Deeds.{Deed}
use Rattle.depot_rows.specs.depot_model.Records.{record_of}
use Rattle.depot_rows.specs.depot_model.Rules.{IsSound}
use Rattle.depot_rows.proofs.CutRows.{rows_cut}
use Rattle.cut_depots.proofs.CutDeeds.{alike_cut, both_cut, stay_cut, lines_cut, forms_cut, paths_cut, contents_cut}
use Rattle.cut_depots.proofs.CutRules.{rules_cut}
use Rattle.cut_depots.proofs.Keyed.{keyed}

pub cut_sound : (rules : List FilterRule) (d : List Deed) → IsSound d → IsSound (cut rules d)
cut_sound rules d sound = record {
  rules = rules_cut rules (record_of d) (record_of (cut rules d)) (rows_cut rules d sound.paths) (keyed d) sound.rules;
  landings_agree = alike_cut rules d sound.landings_agree;
  landed_or_pending = both_cut rules d sound.landed_or_pending;
  landed_stay = stay_cut rules d sound.landed_stay;
  lines_read = lines_cut rules d sound.lines_read;
  forms_read = forms_cut rules d sound.forms_read;
  paths = paths_cut rules d sound.paths;
  contents = contents_cut rules d sound.contents;
}
