-- Which files a replica has: patterns with an optional `-`, of which the last that fits a file decides (Server Administrator Guide,
-- "Filtering metadata during replication"; the form of the patterns is this project's own choice).
use Rattle.std.specs.Prelude.{ℕ, Bool, false, not, List, [], ◌∷◌, drop, find, reverse, codes, if◌then◌else◌, Option, Some, None, Result, Ok}
use Rattle.db_records.specs.depot_path.Answers.{◌>>=◌, on_ok}
use Rattle.db_records.specs.depot_path.Bytes.{begins_with}
use Rattle.db_records.specs.depot_path.Fit.{fits}
use Rattle.db_records.specs.depot_path.Pattern.{pattern_of}
use Rattle.db_records.specs.depot_path.declared.fault.PathFault.{PathFault}
use Rattle.db_records.specs.depot_path.declared.piece.Piece.{Piece}
use Rattle.depot_model.specs.declared.filter.FilterRule.{FilterRule}

abbrev pub has_dash : List ℕ → Bool
has_dash text = begins_with text (codes "-")

abbrev pub undashed : List ℕ → List ℕ
undashed text = if has_dash text then drop 1 text else text

abbrev pub made_rule : Bool → List Piece → FilterRule
made_rule keeps_out pattern = record { keeps_out = keeps_out; pattern = pattern }

abbrev pub rule_of : List ℕ → Result FilterRule PathFault
rule_of text = on_ok (made_rule (has_dash text)) (pattern_of false (undashed text))

-- the rules that texts spell, or the first fault
abbrev pub filter_of : List (List ℕ) → Result (List FilterRule) PathFault
filter_of [] = Ok []
filter_of (text ∷ texts) = rule_of text >>= (λ rule. on_ok (λ rules. rule ∷ rules) (filter_of texts))

abbrev pub fits_rule : List ℕ → FilterRule → Bool
fits_rule path rule = fits rule.pattern path

-- the last rule that fits a path
abbrev pub deciding : List FilterRule → List ℕ → Option FilterRule
deciding rules path = find (fits_rule path) (reverse rules)

abbrev pub lets_in : Option FilterRule → Bool
lets_in None = false
lets_in (Some rule) = not rule.keeps_out

-- the path is inside the filter
abbrev pub is_inside : List FilterRule → List ℕ → Bool
is_inside rules path = lets_in (deciding rules path)
