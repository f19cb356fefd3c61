-- What is said of held tables goes by which tables they are, and what is said of the archive by whether its lock is held.
use Rattle.std.proofs.Common.{◌≡◌, ◌⊎◌, ℕ, Bool, true, false, not, List, Option, Some, None, inl, inr, refl, sym, ap, subst, ◌∙◌}
use Rattle.std.specs.List.{list_all, list_any}
use Rattle.std.specs.Prelude.{is_some}
use Rattle.std.specs.declared.sync.MutexGuard.{MutexGuard}
use Rattle.depot_rows.specs.db_records.Record.{table_of}
use Rattle.depot_rows.specs.db_records.declared.change.Change.{Change}
use Rattle.depot_rows.specs.db_records.declared.table.TableId.{TableId}
use Rattle.locked_tables.specs.Held.{table_held}
use Rattle.locked_tables.specs.declared.held_table.HeldTable.{HeldTable}
use Rattle.locked_tables.specs.declared.taken.Taken.{Taken}
use Rattle.table_locks.proofs.Tables.{any-map, is_table}
use Rattle.table_locks.specs.Confirmed.{tables_of}
use Rattle.table_locks.specs.Prepared.{are_held, is_held}
use Rattle.shared_depot.specs.Room.{HoldsEnd, IsEndKnown}

module _ {N : Type 0} (held other : List (HeldTable N)) (same : tables_of held ≡ tables_of other) where
  held_alike : (table : TableId) → is_held held table ≡ is_held other table
  held_alike table =
      sym (any-map (is_table table) (λ (h : HeldTable N). table_held h) held)
      ∙ (ap (list_any (is_table table)) same
      ∙ any-map (is_table table) (λ (h : HeldTable N). table_held h) other)

  pub are_held_alike : (changes : List Change) → are_held held changes ≡ are_held other changes
  are_held_alike changes = λ k. list_all (λ (change : Change). held_alike (table_of change.row) k) changes

-- nothing is stored, or the lock of the archive is held
pub held_else : (end used : ℕ) (archive : Option (MutexGuard (List Taken))) (S : Type 0) → S ⊎ HoldsEnd end used archive → archive ≡ None → S
held_else end used archive S (inl none) gone = none
held_else end used archive S (inr held) gone = absurd (subst (HoldsEnd end used) gone held)

-- nothing is stored: there is nothing, or else the lock would be held
pub none_else : (empty : Bool) (S : Type 0) → (empty ≡ true → S) → (not empty ≡ true → S) → S
none_else true S none some = none refl
none_else false S none some = some refl

-- where the archive ends it was seen to end
pub end_still : (end : ℕ) (archive : Option (MutexGuard (List Taken))) (S : Type 0) (seen now : ℕ) → S ⊎ HoldsEnd end seen archive → IsEndKnown end now archive → S ⊎ (seen ≡ now)
end_still end archive S seen now (inl none) known = inl none
end_still end None S seen now (inr held) known = absurd held
end_still end (Some guard) S seen now (inr held) known = inr (held ∙ sym known)

-- where it is held it is known behind it where the archive ends
pub end_seen : (end used : ℕ) (archive last : Option (MutexGuard (List Taken))) (S : Type 0) → (is_some archive ≡ false → S) → IsEndKnown end used archive → (HoldsEnd end used archive → HoldsEnd end used last)
    → S ⊎ HoldsEnd end used last
end_seen end used None last S without known on = inl (without refl)
end_seen end used (Some guard) last S without known on = inr (on known)
