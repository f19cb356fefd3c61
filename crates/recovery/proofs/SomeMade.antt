-- Changes of which some were made.
use Rattle.std.proofs.Common.{◌≡◌, ◌-◌, Err, List, [], ◌∷◌, ◌++◌, reverse, length, refl, sym, ◌∙◌, ap, subst, append_assoc}
use Rattle.std.proofs.lemmas.List.{reverse-append}
use Rattle.depot_rows.specs.db_records.declared.change.Change.{Change}
use Rattle.depot_rows.specs.table_changes.Changed.{AllRows, FitsIn, AllFitIn, changed_in, changed_by}
use Rattle.journal_groups.specs.Groups.{body_of}
use Rattle.recovery.specs.Faults.{IfDamaged, Tells}
use Rattle.recovery.specs.Pieces.{IsBadPlace}
use Rattle.recovery.specs.declared.fault.OpenFault.{OpenFault}
use Rattle.recovery.specs.declared.pieces.FileGroups.{FileGroups}
use Rattle.recovery.proofs.FirstBad.{if_told}
use Rattle.recovery.proofs.Fits.{changed_joined, fits_behind, fits_joined}

-- all but these were made, which are left with the last first
pub record IsMade (rows after : AllRows) (changes left : List Change) : Type 0 where
  pub made : List Change
  pub parts : changes ≡ made ++ reverse left
  pub fit : AllFitIn rows made
  pub rows_are : after ≡ changed_by rows made

module _ (rows now : AllRows) (changes left behind : List Change) (change : Change) (some : IsMade rows now changes left) (next : left ≡ behind ++ change ∷ []) where
  -- the next of them, and those behind it
  parted : changes ≡ some.made ++ change ∷ reverse behind
  parted = some.parts ∙ ap (λ (l : List Change). some.made ++ l) (ap reverse next ∙ reverse-append behind (change ∷ []))

  -- it fits where all do
  pub next_fits : AllFitIn rows changes → FitsIn now change
  next_fits fit =
      let behind_fit : AllFitIn (changed_by rows some.made) (change ∷ reverse behind) = fits_behind rows some.made (change ∷ reverse behind) (subst (AllFitIn rows) parted fit) in
      subst (λ (r : AllRows). FitsIn r change) (sym some.rows_are) behind_fit.0

  pub one_made : (after : AllRows) → FitsIn now change → after ≡ changed_in now change → IsMade rows after changes behind
  one_made after fits made = record {
    made = some.made ++ change ∷ [];
    parts = parted ∙ sym (append_assoc some.made (change ∷ []) (reverse behind));
    fit = fits_joined rows some.made (change ∷ []) some.fit (subst (λ (r : AllRows). FitsIn r change) some.rows_are fits, tt);
    rows_are = made ∙ ap (λ (r : AllRows). changed_in r change) some.rows_are ∙ sym (changed_joined rows some.made (change ∷ []));
  }

  -- where it doesn't fit, its place is that of the first that doesn't
  pub misfit_told : (X : Type 0) (groups : FileGroups) (others : List Change) (fault : OpenFault) → (FitsIn now change → ⊥) → others ≡ reverse left
      → Tells (λ _ _ place. place ≡ (groups.reader.reached - length (body_of others)) - groups.front) fault → IfDamaged {X = X} (Err fault) (IsBadPlace (AllFitIn rows) groups changes)
  misfit_told X groups others fault none is told =
      if_told X fault ((groups.reader.reached - length (body_of others)) - groups.front) (IsBadPlace (AllFitIn rows) groups changes) told (
        length (body_of others),
        (
          refl,
          record {
            front = some.made;
            bad = change;
            after = reverse behind;
            parts = parted;
            good_front = some.fit;
            none = λ more.
                let last : AllFitIn (changed_by rows some.made) (change ∷ []) = fits_behind rows some.made (change ∷ []) more in
                none (subst (λ (r : AllRows). FitsIn r change) (sym some.rows_are) last.0);
            left_is = ap (λ (l : List Change). length (body_of l)) (is ∙ ap reverse next ∙ reverse-append behind (change ∷ []));
          },
        ),
      )
