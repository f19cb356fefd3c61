-- A depot without the files outside a filter, and without shelved files (Server Administrator Guide, on filtered replicas). What is cut besides
-- the files is this project's own choice.
use Rattle.std.specs.Prelude.{◌&&◌, List, map, filter, filter_map, Option, Some, None, option_and_then}
use Rattle.depot_model.specs.Deeds.{Deed, Open, Shut, Hold, Free, Got, Tag, Owe, Paid, Land, Landing, Entry, Credit, Opening, Source, Spec, ShelfForm}
use Rattle.depot_model.specs.Latest.{when}
use Rattle.depot_model.specs.declared.filter.FilterRule.{FilterRule}
use Rattle.depot_model.specs.Filter.{is_inside}

abbrev pub cut_entry : List FilterRule → Entry → Entry
cut_entry rules e = record e { credits = filter (λ (c : Credit). is_inside rules c.from) e.credits }

abbrev pub cut_landing : List FilterRule → Landing → Landing
cut_landing rules l = record l { entries = map (cut_entry rules) (filter (λ (e : Entry). is_inside rules e.path) l.entries) }

abbrev pub cut_opening : List FilterRule → Opening → Opening
cut_opening rules o = record o { source = option_and_then (λ (s : Source). when (is_inside rules s.path) s) o.source }

abbrev pub cut_deed : List FilterRule → Deed → Option Deed
cut_deed rules (Spec ShelfForm name form) = None
cut_deed rules (Open o) = when (is_inside rules o.path) (Open (cut_opening rules o))
cut_deed rules (Shut held) = when (is_inside rules held.path) (Shut held)
cut_deed rules (Hold held) = when (is_inside rules held.path) (Hold held)
cut_deed rules (Free held) = when (is_inside rules held.path) (Free held)
cut_deed rules (Got held rev) = when (is_inside rules held.path) (Got held rev)
cut_deed rules (Tag label path rev) = when (is_inside rules path) (Tag label path rev)
cut_deed rules (Owe o) = when (is_inside rules o.path && is_inside rules o.from) (Owe o)
cut_deed rules (Paid held from how) = when (is_inside rules held.path && is_inside rules from) (Paid held from how)
cut_deed rules (Land l) = Some (Land (cut_landing rules l))
cut_deed rules deed = Some deed

abbrev pub cut : List FilterRule → List Deed → List Deed
cut rules d = filter_map (cut_deed rules) d
