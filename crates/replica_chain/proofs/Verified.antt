-- Rows whose contents are checked one after another, and counted.
use Rattle.std.proofs.Common.{◌≡◌, ℕ, ◌+◌, ◌≤◌, Bool, cond, List, [], ◌∷◌, ◌++◌, length, refl, sym, ◌∙◌, ap, subst, arith, append_assoc}
use Rattle.std.specs.Prelude.{count_by}
use Rattle.std.proofs.lemmas.List.{append-nil}
use Rattle.std.proofs.lemmas.List.Sums.{sum_by_push}
use Rattle.outside_api.specs.Disk.{Files}
use Rattle.depot_rows.specs.db_records.Record.{is_live}
use Rattle.depot_rows.specs.db_records.declared.record.Record.{Record}
use Rattle.recovery.specs.Holding.{spot_end, spots_end}
use Rattle.recovery.specs.Contents.{AreWhole, IsBadAt, IsSpotDamage, IsWhole}
use Rattle.recovery.proofs.GoodSpots.{end_at, whole_more}

-- the rows that were checked, those that are left, and how many of them have contents
pub record AreVerified (seen : Files → Type 0) (rows left : List Record) (count : ℕ) : Type 0 where
  pub done : List Record
  pub parts : rows ≡ done ++ left
  pub count_is : count ≡ count_by is_live done
  pub whole : (files : Files) → seen files → spots_end rows ≤ length (files 0) → AreWhole (files 0) done

count_more : (rows : List Record) (row : Record) (live : Bool) → live ≡ is_live row → count_by is_live (rows ++ row ∷ []) ≡ count_by is_live rows + cond live 1 0
count_more rows row live is =
    sum_by_push (λ (r : Record). cond (is_live r) 1 0) rows row ∙ ap (λ (b : Bool). count_by is_live rows + cond b 1 0) (sym is)

front_end : (front after : List Record) → spots_end front ≤ spots_end (front ++ after)
front_end [] after = omega arith
front_end (r ∷ front) after = let later = front_end front after in omega (arith, later)

pub verified_none : (seen : Files → Type 0) (rows left : List Record) → left ≡ rows → AreVerified seen rows left 0
verified_none seen rows left is = record { done = []; parts = sym is; count_is = refl; whole = λ files read within. tt }

module _ (seen : Files → Type 0) (rows left : List Record) (count : ℕ) (so_far : AreVerified seen rows left count) where
  module _ (row : Record) (rest : List Record) (first : left ≡ row ∷ rest) where
    parts : rows ≡ so_far.done ++ row ∷ rest
    parts = so_far.parts ∙ ap (λ (l : List Record). so_far.done ++ l) first

    -- the next spot ends in the file
    pub next_within : (size : ℕ) → spots_end rows ≤ size → spot_end row ≤ size
    next_within size within = let one = end_at so_far.done row rest in let same = ap spots_end parts in omega (arith, within, one, same)

    pub verified_more : (live : Bool) (now : ℕ) → live ≡ is_live row → now ≡ count + cond live 1 0 → ((files : Files) → seen files → spots_end rows ≤ length (files 0) → IsWhole (files 0) row) → AreVerified seen rows rest now
    verified_more live now is now_is whole = record {
      done = so_far.done ++ row ∷ [];
      parts = parts ∙ sym (append_assoc so_far.done (row ∷ []) rest);
      count_is = now_is ∙ ap (λ (n : ℕ). n + cond live 1 0) so_far.count_is ∙ sym (count_more so_far.done row live is);
      whole = λ files read within. whole_more (files 0) so_far.done row (so_far.whole files read within) (whole files read within);
    }

    pub verified_bad : (files : Files) (place : ℕ) → seen files → spots_end rows ≤ length (files 0) → IsBadAt (files 0) row place → IsSpotDamage (files 0) rows place
    verified_bad files place read within bad = record {
      front = so_far.done;
      row = row;
      after = rest;
      parts = parts;
      whole = so_far.whole files read within;
      within = (let one = front_end so_far.done (row ∷ rest) in let same = ap spots_end parts in omega (arith, within, one, same));
      bad = bad;
    }

  -- where none is left all were checked
  pub verified_all : left ≡ [] → (count ≡ count_by is_live rows) × ((files : Files) → seen files → spots_end rows ≤ length (files 0) → AreWhole (files 0) rows)
  verified_all none =
      let all : rows ≡ so_far.done = so_far.parts ∙ ap (λ (l : List Record). so_far.done ++ l) none ∙ append-nil so_far.done in
      (so_far.count_is ∙ ap (count_by is_live) (sym all), λ files read within. subst (AreWhole (files 0)) (sym all) (so_far.whole files read within))
