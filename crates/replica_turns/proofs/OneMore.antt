-- One change more of a journal: a group of the newest generation, or the beginning of the next.
use Rattle.std.proofs.Common.{◌≡◌, ◌≢◌, ◌⊎◌, ◌≤◌, ◌<◌, ◌+◌, ℕ, suc, Bool, true, false, List, [], ◌∷◌, ◌++◌, Some, length, take, inl, inr, refl, sym, ap, subst, ◌∙◌, append-nil, arith, length-append}
use Rattle.std.specs.Prelude.{codes}
use Rattle.std.proofs.Math.Nat.{eq-or-lt_of_le}
use Rattle.std.proofs.Math.Seq.{take-length}
use Rattle.std.proofs.lemmas.List.{take-append-le}
use Rattle.depot_rows.specs.db_records.declared.change.Change.{Change}
use Rattle.depot_rows.specs.db_records.declared.table.TableId.TheVariants.{Rev}
use Rattle.depot_rows.specs.depot_model.Commands.{step}
use Rattle.depot_rows.specs.depot_model.Deeds.{Count, Deed}
use Rattle.depot_rows.specs.depot_model.Step.{after}
use Rattle.depot_rows.specs.depot_model.declared.request.Request.{Request}
use Rattle.depot_rows.specs.Standing.{Stand}
use Rattle.depot_rows.specs.table_changes.Changed.{AllFitIn, AllRows, changed_by, changed_in, no_rows}
use Rattle.row_changes.specs.Differences.{AreDifferences}
use Rattle.recovery.specs.Holding.{joined, spots_end}
use Rattle.replica_pull.specs.Prefix.{begun}
use Rattle.replica_pull.proofs.Counted.{rows_on, with_groups, with_next}
use Rattle.depot_commit.specs.Growing.{Chronicle, with_changes}
use Rattle.depot_commit.specs.Opening.{opens_generation}
use Rattle.depot_commit.proofs.Checkpointed.{made_opened, next_told, telling_rows}
use Rattle.replica_turns.specs.Master.{AllFit, all_changes, first_of}
use Rattle.replica_turns.specs.Written.{rows_made}
use Rattle.replica_turns.proofs.Ends.{ends_rise}
use Rattle.replica_turns.proofs.Fits.{fit_next, fit_with}
use Rattle.step_limits.specs.Limits.{generation_in}

-- The changes are those before and one more, which makes these rows of those, none of whose spots ends behind theirs; and they fit where those before did.
pub record IsOneMore (c now : Chronicle) (rows after_it : AllRows) : Type 0 where
  pub extra : List (List Change)
  pub more : all_changes now ≡ all_changes c ++ extra
  pub one : length extra ≡ 1
  pub makes : changed_by rows (joined extra) ≡ after_it
  pub rise : spots_end (rows Rev) ≤ spots_end (after_it Rev)
  pub fit : AllFit c → AllFit now

module _ (c now : Chronicle) (rows after_it : AllRows) (made : rows ≡ rows_made c) (m : IsOneMore c now rows after_it) where
  pub rows_now : after_it ≡ rows_made now
  rows_now =
      sym m.makes
      ∙ (ap (λ (r : AllRows). changed_by r (joined m.extra)) made
      ∙ (sym (rows_on (all_changes c) m.extra)
      ∙ ap (λ (l : List (List Change)). changed_by no_rows (joined l)) (sym m.more)))

  pub one_longer : length (all_changes now) ≡ length (all_changes c) + 1
  one_longer = let all = ap (length {A = List Change}) m.more ∙ length-append (all_changes c) m.extra in let one = m.one in omega (arith, all, one)

  -- the rows that all of the changes make, and those of fewer
  pub all_now : (n : ℕ) → n ≡ length (all_changes now) → first_of n now ≡ after_it
  all_now n last =
      ap (λ (l : List (List Change)). changed_by no_rows (joined l)) (ap (λ (k : ℕ). take k (all_changes now)) last ∙ take-length (all_changes now)) ∙ sym rows_now

  pub fewer_now : (n : ℕ) → n ≤ length (all_changes c) → first_of n now ≡ first_of n c
  fewer_now n within = ap (λ (l : List (List Change)). changed_by no_rows (joined l)) (ap (take n) m.more ∙ take-append-le n (all_changes c) m.extra within)

  -- where their spots end
  pub ends_now : ((n : ℕ) → n ≤ length (all_changes c) → spots_end (first_of n c Rev) ≤ spots_end (rows Rev)) → (n : ℕ) → n ≤ length (all_changes now) → spots_end (first_of n now Rev) ≤ spots_end (after_it Rev)
  ends_now before n within = go (eq-or-lt_of_le within)
    where
      go : (n ≡ length (all_changes now)) ⊎ (n < length (all_changes now)) → spots_end (first_of n now Rev) ≤ spots_end (after_it Rev)
      go (inl last) = let same = ap (λ (r : AllRows). spots_end (r Rev)) (all_now n last) in omega (arith, same)
      go (inr less) =
          let few : n ≤ length (all_changes c) = (let all = one_longer in omega (arith, less, all)) in
          let same = ap (λ (r : AllRows). spots_end (r Rev)) (fewer_now n few) in
          let was = before n few in
          let rise = m.rise in
          omega (arith, same, was, rise)

-- the beginning of the next generation
pub one_begun : (rows : AllRows) (changes : List Change) (c : Chronicle) → changed_by rows changes ≡ changed_in rows (next_told (suc (length c.closed))) → spots_end (rows Rev) ≤ spots_end (changed_by rows changes Rev)
    → IsOneMore c (with_changes true changes c) rows (changed_by rows changes)
one_begun rows changes c opened rise =
    let index : suc (length c.closed) ≡ 0 + length (c.closed ++ c.newest ∷ []) = (let all = length-append c.closed (c.newest ∷ []) in omega (arith, all)) in
    record {
      extra = begun (suc (length c.closed));
      more = with_next 0 (c.closed ++ c.newest ∷ []) (suc (length c.closed)) index;
      one = refl;
      makes = sym opened;
      rise = rise;
      fit = fit_next 0 no_rows (c.closed ++ c.newest ∷ []);
    }

-- so do deeds that tell it
pub one_told : (rows : AllRows) (d deeds : List Deed) (changes : List Change) (c : Chronicle) → after d deeds ≡ Count (codes "journal") (Some (suc (length c.closed))) ∷ d → Stand rows d → AreDifferences rows d (after d deeds) changes → changes ≢ []
    → IsOneMore c (with_changes true changes c) rows (changed_by rows changes)
one_told rows d deeds changes c is stand differences some =
    one_begun rows changes c (telling_rows rows d (suc (length c.closed)) changes stand (subst (λ (e : List Deed). AreDifferences rows d e changes) is differences) some)
    (ends_rise rows d deeds changes (stand.each Rev) differences)

-- the changes of a request
module _ (rows : AllRows) (d : List Deed) (request : Request) (changes : List Change) (stand : Stand rows d) (differences : AreDifferences rows d (after d (step d request).deeds) changes) (some : changes ≢ [])
    (c : Chronicle) (made : rows ≡ rows_made c) (generation : generation_in d ≡ length c.closed) where
  rise : spots_end (rows Rev) ≤ spots_end (changed_by rows changes Rev)
  rise = ends_rise rows d (step d request).deeds changes (stand.each Rev) differences

  by_opening : (opens : Bool) → opens_generation request ≡ opens → IsOneMore c (with_changes opens changes c) rows (changed_by rows changes)
  by_opening false is = record {
    extra = changes ∷ [];
    more = with_groups 0 c.closed c.newest (changes ∷ []);
    one = refl;
    makes = ap (changed_by rows) (append-nil changes);
    rise = rise;
    fit = λ fits. fit_with 0 no_rows c.closed c.newest (changes ∷ []) fits (subst (AllFitIn (rows_made c)) (sym (append-nil changes)) (subst (λ (r : AllRows). AllFitIn r changes) made differences.fit));
  }
  by_opening true is =
      let number : generation_in d + 1 ≡ suc (length c.closed) = omega (arith, generation) in
      one_begun rows changes c (made_opened rows d request changes stand differences some is ∙ ap (λ (n : ℕ). changed_in rows (next_told n)) number) rise

  pub one_more : IsOneMore c (with_changes (opens_generation request) changes c) rows (changed_by rows changes)
  one_more = by_opening (opens_generation request) refl
