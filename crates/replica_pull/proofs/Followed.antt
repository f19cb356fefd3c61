-- After pulls a replica has the groups that lie whole in what it took.
use Rattle.std.proofs.Common.{◌≡◌, ℕ, suc, ◌+◌, ◌<◌, ◌≤◌, ◌^◌, List, [], ◌∷◌, ◌++◌, length, take, drop, inl, inr, sym, ◌∙◌, ap, subst, arith, append_assoc, length-append}
use Rattle.std.proofs.Math.Seq.{take-add}
use Rattle.std.proofs.lemmas.List.{length-drop, length-take-le, take-append-le, drop-append-le, take_all}
use Rattle.outside_api.specs.Link.{text_of, IsEarlier, Answers}
use Rattle.outside_api.specs.declared.link.Fetched.{Fetched}
use Rattle.outside_api.specs.declared.link.Fetched.TheVariants as fetches
use Rattle.depot_rows.specs.db_records.declared.change.Change.{Change}
use Rattle.depot_rows.specs.table_changes.Changed.{AllRows, changed_by, changed_in, no_rows, rows_of}
use Rattle.depot_rows.specs.depot_model.declared.filter.FilterRule.{FilterRule}
use Rattle.journal_groups.specs.Groups.{IsGroup, groups_text}
use Rattle.journal_groups.specs.declared.moved.Moved.{Moved}
use Rattle.journal_groups.specs.declared.moved.Moved.TheVariants as moves
use Rattle.recovery.specs.Holding.{joined}
use Rattle.replica_pull.specs.Cut.{AreCut}
use Rattle.replica_pull.specs.Prefix.{HasPulled, HasGrown, Moment, HasFollowed, begun, bytes_of, changes_from, HasNoGroup, AreWholeIn, ArePassed, HasPrefix}
use Rattle.replica_pull.specs.Replica.{HasMoved, HasPassed, HasTakenPiece, IsNew, beginning}
use Rattle.replica_pull.specs.declared.replica.Replica.{Replica}
use Rattle.replica_pull.proofs.Counted.{with_groups, with_next, rows_on, goes_no_group, empty_no_group, passed_later, closed_text, passed_on, passed_texts, bytes_more}
use Rattle.replica_pull.proofs.Fronts.{earlier_front}
use Rattle.replica_pull.proofs.Kept as kept
use Rattle.replica_pull.proofs.Taking.{groups_joined, all_joined}

-- ---- nothing was taken yet

fresh : (rules : List FilterRule) (journal : List (List ℕ)) (r : Replica) → IsNew rules r → HasPrefix rules journal r
fresh rules journal r new = record {
  generations = [];
  groups = [];
  filter = new.filter;
  generation = new.generation;
  number = new.number;
  passed = tt;
  within = omega (arith, new.at);
  taken = let none : bytes_of (take r.generation journal) ≡ 0 = ap (λ (g : ℕ). bytes_of (take g journal)) new.generation in omega (arith, new.taken, new.at, none);
  whole = record {
    are_groups = tt;
    is = ap (λ (n : ℕ). take n (text_of journal r.generation)) new.at ∙ sym new.rest;
    none = subst (HasNoGroup 1) (sym new.rest) (empty_no_group 1);
  };
  changes = new.changes;
  rows = kept.begun rules r new;
}

module _ (rules : List FilterRule) (journal : List (List ℕ)) where
  -- ---- the journal grew

  pub grown : (before : List (List ℕ)) (r : Replica) → HasPrefix rules before r → HasGrown before journal → HasPrefix rules journal r
  grown before r p (inl same) = subst (λ (j : List (List ℕ)). HasPrefix rules j r) (sym same) p
  grown before r p (inr was) =
      let front = earlier_front before journal r.generation was in
      let text = text_of before r.generation in
      let same : take r.at (text_of journal r.generation) ≡ take r.at text = ap (take r.at) front.1 ∙ take-append-le r.at text front.0 p.within in
      let closed : ArePassed (take was.newest journal ++ take was.bytes (text_of journal was.newest) ∷ []) p.generations = subst (λ (j : List (List ℕ)). ArePassed j p.generations) was.is p.passed in
      let first : take (length p.generations) before ≡ take (length p.generations) journal =
      ap (take (length p.generations)) was.is ∙ passed_texts journal was.newest was.bytes p.generations was.there closed in
      let passed : take r.generation before ≡ take r.generation journal =
      ap (λ (g : ℕ). take g before) p.generation ∙ first ∙ ap (λ (g : ℕ). take g journal) (sym p.generation) in
      record {
        generations = p.generations;
        groups = p.groups;
        filter = p.filter;
        generation = p.generation;
        number = p.number;
        passed = passed_later journal was.newest was.bytes p.generations was.there closed;
        within = omega (arith, p.within, ap length front.1, length-append text front.0);
        taken = p.taken ∙ ap (λ (texts : List (List ℕ)). bytes_of texts + r.at) passed;
        whole = subst (λ (l : List ℕ). AreWholeIn p.groups l r.rest) (sym same) p.whole;
        changes = p.changes;
        rows = p.rows;
      }

  module _ (old new : Replica) (p : HasPrefix rules journal old) where
    abbrev before : List (List Change)
    before = changes_from 0 (p.generations ++ p.groups ∷ [])

    abbrev whole_rows : AllRows
    whole_rows = changed_by no_rows (joined before)

    cut : AreCut old.filter whole_rows (rows_of old.tables)
    cut = subst (λ (f : List FilterRule). AreCut f whole_rows (rows_of old.tables)) (sym p.filter) p.rows

    -- ---- a piece was taken

    module _ (piece : List ℕ) (n count : ℕ) (earlier : List (List ℕ)) (was : IsEarlier earlier journal) (has : HasTakenPiece old (take n piece) count new)
        (answers : Answers earlier old.generation old.at (fetches.Bytes n) piece) where
      abbrev text : List ℕ
      text = text_of journal old.generation

      abbrev said : List ℕ
      said = text_of earlier old.generation

      took : HasPrefix rules journal new
      took =
          let front = earlier_front earlier journal old.generation was in
          let at_within : old.at ≤ length said = omega (arith, answers.0, answers.1, length-drop old.at said) in
          let left : drop old.at text ≡ drop old.at said ++ front.0 = ap (drop old.at) front.1 ∙ drop-append-le old.at said front.0 at_within in
          let room : n ≤ length (drop old.at text) = omega (arith, answers.1, ap length left, length-append (drop old.at said) front.0) in
          let same : take n piece ≡ take n (drop old.at text) = answers.2 ∙ sym (ap (take n) left ∙ take-append-le n (drop old.at said) front.0 answers.1) in
          let long : length (take n piece) ≡ n = ap length same ∙ length-take-le n (drop old.at text) room in
          let at : new.at ≡ old.at + n = has.at ∙ ap (λ (k : ℕ). old.at + k) long in
          let first = groups_text 1 p.groups in
          let more = groups_text old.number has.groups in
          let shift : suc (length p.groups) ≡ 1 + length p.groups = omega arith in
          let all : take new.at text ≡ groups_text 1 (p.groups ++ has.groups) ++ new.rest =
          ap (λ (k : ℕ). take k text) at
          ∙ take-add old.at n text
          ∙ (λ i. p.whole.is i ++ sym same i)
          ∙ append_assoc first old.rest (take n piece)
          ∙ ap (λ (l : List ℕ). first ++ l) has.are.text
          ∙ sym (append_assoc first more new.rest)
          ∙ ap (λ (k : ℕ). (first ++ groups_text k has.groups) ++ new.rest) (p.number ∙ shift)
          ∙ ap (λ (l : List ℕ). l ++ new.rest) (sym (groups_joined 1 p.groups has.groups)) in
          let number : new.number ≡ suc (length (p.groups ++ has.groups)) = omega (arith, has.are.number, p.number, length-append p.groups has.groups) in
          let few : new.number < 2 ^ 64 = omega (arith, new.numbered, new.at_within, new.short) in
          let none : HasNoGroup (suc (length (p.groups ++ has.groups))) new.rest =
          subst (λ (k : ℕ). HasNoGroup k new.rest) number (goes_no_group new.number new.rest few has.waits.0) in
          let now : changes_from 0 (p.generations ++ (p.groups ++ has.groups) ∷ []) ≡ before ++ has.groups = with_groups 0 p.generations p.groups has.groups in
          let there : text_of journal new.generation ≡ text = ap (text_of journal) has.generation in
          let rows : AreCut new.filter (changed_by whole_rows (joined has.groups)) (rows_of new.tables) = kept.taken old new (take n piece) count whole_rows has cut in
          let made : changed_by no_rows (joined (changes_from 0 (p.generations ++ (p.groups ++ has.groups) ∷ []))) ≡ changed_by whole_rows (joined has.groups) =
          ap (λ (l : List (List Change)). changed_by no_rows (joined l)) now ∙ rows_on before has.groups in
          record {
            generations = p.generations;
            groups = p.groups ++ has.groups;
            filter = has.filter ∙ p.filter;
            generation = has.generation ∙ p.generation;
            number = number;
            passed = p.passed;
            within = omega (arith, at, room, at_within, ap length there, ap length front.1, length-append said front.0, length-drop old.at text);
            taken = omega (arith, has.taken, long, at, p.taken, ap (λ (g : ℕ). bytes_of (take g journal)) has.generation);
            whole = record {
              are_groups = all_joined IsGroup p.groups has.groups p.whole.are_groups has.are.are_groups;
              is = ap (take new.at) there ∙ all;
              none = none;
            };
            changes = omega (arith, has.changes, has.count_is, p.changes, ap length now, length-append before has.groups);
            rows = subst (λ (whole : AllRows). AreCut rules whole (rows_of new.tables)) (sym made)
                (subst (λ (f : List FilterRule). AreCut f (changed_by whole_rows (joined has.groups)) (rows_of new.tables)) (has.filter ∙ p.filter) rows);
          }

    -- ---- a generation was passed

    module _ (earlier : List (List ℕ)) (was : IsEarlier earlier journal) (has : HasPassed old new) (end : length (text_of earlier old.generation) ≤ old.at)
        (closed : old.generation + 1 < length earlier) where
      went : HasPrefix rules journal new
      went =
          let still = closed_text earlier journal old.generation was closed in
          let text = text_of journal old.generation in
          let taken : take old.at text ≡ text = take_all old.at text (omega (arith, end, ap length still.0)) in
          let here : text ≡ text_of journal (length p.generations) = ap (text_of journal) p.generation in
          let whole : AreWholeIn p.groups (text_of journal (length p.generations)) old.rest = subst (λ (l : List ℕ). AreWholeIn p.groups l old.rest) (taken ∙ here) p.whole in
          let less : length p.generations + 1 < length journal = omega (arith, still.1, p.generation) in
          let long : length (p.generations ++ p.groups ∷ []) ≡ length p.generations + 1 = length-append p.generations (p.groups ∷ []) in
          let next : old.generation + 1 ≡ suc (length p.generations) = omega (arith, p.generation) in
          let at_end : old.at ≡ length text = omega (arith, end, ap length still.0, p.within) in
          let up : new.generation ≡ suc old.generation = omega (arith, has.generation) in
          let all_bytes : bytes_of (take new.generation journal) ≡ bytes_of (take old.generation journal) + length text =
          ap (λ (g : ℕ). bytes_of (take g journal)) up ∙ bytes_more journal old.generation (omega (arith, still.1)) in
          let index : suc (length p.generations) ≡ 0 + length (p.generations ++ p.groups ∷ []) = omega (arith, long) in
          let now : changes_from 0 ((p.generations ++ p.groups ∷ []) ++ [] ∷ []) ≡ before ++ begun (suc (length p.generations)) =
          with_next 0 (p.generations ++ p.groups ∷ []) (suc (length p.generations)) index in
          let rows : AreCut new.filter (changed_in whole_rows (beginning (old.generation + 1))) (rows_of new.tables) = kept.passed old new whole_rows has cut in
          let made : changed_by no_rows (joined (changes_from 0 ((p.generations ++ p.groups ∷ []) ++ [] ∷ []))) ≡ changed_in whole_rows (beginning (old.generation + 1)) =
          ap (λ (l : List (List Change)). changed_by no_rows (joined l)) now
          ∙ rows_on before (begun (suc (length p.generations)))
          ∙ ap (λ (g : ℕ). changed_in whole_rows (beginning g)) (sym next) in
          record {
            generations = p.generations ++ p.groups ∷ [];
            groups = [];
            filter = has.filter ∙ p.filter;
            generation = omega (arith, has.generation, p.generation, long);
            number = has.number;
            passed = passed_on journal p.generations p.groups old.rest p.passed whole less;
            within = omega (arith, has.at);
            taken = omega (arith, has.taken, has.at, p.taken, at_end, all_bytes);
            whole = record {
              are_groups = tt;
              is = ap (λ (k : ℕ). take k (text_of journal new.generation)) has.at ∙ sym has.rest;
              none = subst (HasNoGroup 1) (sym has.rest) (empty_no_group 1);
            };
            changes = omega (arith, has.changes, p.changes, ap length now, length-append before (begun (suc (length p.generations))));
            rows = subst (λ (whole : AllRows). AreCut rules whole (rows_of new.tables)) (sym made)
                (subst (λ (f : List FilterRule). AreCut f (changed_in whole_rows (beginning (old.generation + 1))) (rows_of new.tables)) (has.filter ∙ p.filter) rows);
          }

    -- ---- whatever was fetched

    same_prefix : new ≡ old → HasPrefix rules journal new
    same_prefix same = subst (HasPrefix rules journal) (sym same) p

    moved_on : (piece : List ℕ) (earlier : List (List ℕ)) → IsEarlier earlier journal → (f : Fetched) (m : Moved) → HasMoved old new f piece m
        → Answers earlier old.generation old.at f piece → HasPrefix rules journal new
    moved_on piece earlier was (fetches.Bytes n) (moves.Taken bytes changes) has answers = took piece n changes earlier was has.1 answers
    moved_on piece earlier was (fetches.Bytes n) moves.Nothing has answers = absurd has
    moved_on piece earlier was (fetches.Bytes n) moves.Next has answers = absurd has
    moved_on piece earlier was fetches.End (moves.Taken bytes changes) has answers = absurd has
    moved_on piece earlier was fetches.End moves.Nothing has answers = same_prefix has
    moved_on piece earlier was fetches.End moves.Next has answers = absurd has
    moved_on piece earlier was fetches.Next (moves.Taken bytes changes) has answers = absurd has
    moved_on piece earlier was fetches.Next moves.Nothing has answers = absurd has
    moved_on piece earlier was fetches.Next moves.Next has answers = went earlier was has answers.0 answers.1

    pulled : HasPulled journal old new → HasPrefix rules journal new
    pulled (inl same) = same_prefix same
    pulled (inr followed) = moved_on followed.piece followed.earlier followed.was followed.fetched followed.moved followed.has followed.answers

pub has_prefix : (rules : List FilterRule) (journal : List (List ℕ)) (r : Replica) (moments : List Moment) → HasFollowed rules journal r moments → HasPrefix rules journal r
has_prefix rules journal r [] new = fresh rules journal r new
has_prefix rules journal r (was ∷ before) h =
    pulled rules journal was.replica r (grown rules journal was.journal was.replica (has_prefix rules was.journal was.replica before h.2) h.0) h.1
