-- How much of the archive is used after the entries that touch its lane.
use Rattle.std.proofs.Common.{◌≡◌, ℕ, Bool, false, List, [], ◌∷◌, ◌++◌, if◌then◌else◌, refl, sym, ap, ◌∙◌}
use Rattle.std.specs.List.{AllByRecursion}
use Rattle.order_words.specs.Lanes.{has_lane, last_touch}
use Rattle.locked_tables.specs.Known.{GoesOnWithout, KnowsLane}
use Rattle.locked_tables.specs.Taken.{archive_lane, end_after, lanes_of}
use Rattle.locked_tables.specs.declared.taken.Taken.{Taken}
use Rattle.locked_tables.proofs.Rows.{none_behind, past_known}

pub end_append : (xs ys : List Taken) (end : ℕ) → end_after end (xs ++ ys) ≡ end_after (end_after end xs) ys
end_append [] ys end = refl
end_append (x ∷ xs) ys end = end_append xs ys (if has_lane x.lanes archive_lane then x.end else end)

end_untouched : (order : List Taken) (end : ℕ) → last_touch lanes_of archive_lane order ≡ 0 → end_after end order ≡ end
end_untouched [] end e = refl
end_untouched (taken ∷ order) end e =
    let h = none_behind (has_lane taken.lanes archive_lane) (last_touch lanes_of archive_lane order) e in
    end_untouched order (if has_lane taken.lanes archive_lane then taken.end else end) h.1 ∙ ap (λ (b : Bool). if b then taken.end else end) h.0

none_touch : (lane : ℕ) (order : List Taken) → last_touch lanes_of lane order ≡ 0 → AllByRecursion (λ (taken : Taken). has_lane taken.lanes lane ≡ false) order
none_touch lane [] e = tt
none_touch lane (taken ∷ order) e = let h = none_behind (has_lane taken.lanes lane) (last_touch lanes_of lane order) e in (h.0, none_touch lane order h.1)

-- who knows a lane knows that no place behind it touches the lane
pub goes_on : (lane : ℕ) (known order : List Taken) → KnowsLane lane known order → GoesOnWithout lane known order
goes_on lane known order knows = record { behind = knows.begins.0; parts = sym knows.begins.1; untouched = none_touch lane knows.begins.0 (past_known lane known order knows) }

module _ (end : ℕ) where
  -- who knows the archive's lane knows how much is used
  pub end_kept : (known order : List Taken) → KnowsLane archive_lane known order → end_after end order ≡ end_after end known
  end_kept known order knows =
      ap (end_after end) (sym knows.begins.1) ∙ (end_append known knows.begins.0 end ∙ end_untouched knows.begins.0 (end_after end known) (past_known archive_lane known order knows))

  -- so much is used after one place more
  pub end_placed : (order after : List Taken) (entry : Taken) (touched : Bool) → after ≡ order ++ entry ∷ [] → has_lane entry.lanes archive_lane ≡ touched → end_after end after ≡ (if touched then entry.end else end_after end order)
  end_placed order after entry touched last is = ap (end_after end) last ∙ (end_append order (entry ∷ []) end ∙ ap (λ (b : Bool). if b then entry.end else end_after end order) is)
