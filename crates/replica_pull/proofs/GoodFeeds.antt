-- No piece of a master's journal is a bad one.
use Rattle.std.proofs.Common.{◌≡◌, ◌⊎◌, ℕ, zero, suc, ◌+◌, ◌<◌, ◌≤◌, List, [], ◌∷◌, ◌++◌, length, take, drop, Result, Ok, Err, inl, inr, refl, sym, ◌∙◌, ap, subst, arith, append_assoc, length-append}
use Rattle.std.specs.List.{AllByRecursion}
use Rattle.std.specs.Result.{IfErr}
use Rattle.std.proofs.lemmas.List.{append-nil, take-append-drop, take-append-le, drop-append-le, length-drop, length-take-le}
use Rattle.outside_api.specs.Link.{text_of, IsEarlier, Answers}
use Rattle.outside_api.specs.declared.link.Fetched.{Fetched}
use Rattle.outside_api.specs.declared.link.Fetched.TheVariants.{Bytes, End, Next}
use Rattle.depot_rows.specs.db_records.declared.change.Change.{Change}
use Rattle.depot_rows.specs.depot_model.declared.filter.FilterRule.{FilterRule}
use Rattle.depot_rows.specs.table_changes.Changed.{AllRows, AllFitIn, changed_by, no_rows, rows_of}
use Rattle.record_text.specs.Grammar.{IsRecord}
use Rattle.record_text.specs.Reading.{Reading, Done}
use Rattle.journal_groups.specs.Causes.{group}
use Rattle.journal_groups.specs.Groups.{AreRecords, IsGroup, body_of, change_text, group_text, groups_text, head_of, mark, open_byte}
use Rattle.journal_groups.specs.Reader.{BeginsAt, State}
use Rattle.journal_groups.specs.Reading.{head_at, window_at}
use Rattle.journal_groups.specs.declared.moved.Moved.{Moved}
use Rattle.journal_groups.proofs.Bodies.{window_again, window_done}
use Rattle.journal_groups.proofs.Texts.{body_cons, length_cons, head_again}
use Rattle.recovery.specs.Holding.{joined}
use Rattle.recovery.proofs.Fits.{changed_joined, fits_behind, fits_front, joined_append}
use Rattle.replica_pull.specs.Cut.{AreCut}
use Rattle.replica_pull.specs.Feed.{Fit, IfBadFeed, IsBadFeed, IsBadPlace}
use Rattle.replica_pull.specs.Prefix.{AreWholeIn, ArePassed, FitFrom, HasGrown, HasPrefix, IsGoodJournal, begun, changes_from}
use Rattle.replica_pull.specs.Replica.{IsBadPiece, IsStopped, IsUnread, with_piece}
use Rattle.replica_pull.specs.declared.fault.PullFault.{PullFault}
use Rattle.replica_pull.specs.declared.fault.PullFault.TheVariants as faults
use Rattle.replica_pull.specs.declared.replica.Replica.{Replica}
use Rattle.replica_pull.proofs.Counted.{bytes_within}
use Rattle.replica_pull.proofs.Cutting.{fit_after, rows_after}
use Rattle.replica_pull.proofs.Firsts.{all_whole, begins, last_of, texts}
use Rattle.replica_pull.proofs.Followed.{grown}
use Rattle.replica_pull.proofs.Fitting.{fit_front as cut_front}
use Rattle.replica_pull.proofs.Fronts.{earlier_front}

-- ---- records with which a group begins

same_done : {A : Type 0} (a b : A) (r s : List ℕ) → (let x : Reading A = Done a r in x) ≡ Done b s → (a ≡ b) × (r ≡ s)
same_done a b r s e = (cc, cc)

-- at the front of one text stands one record
one_record : (size : ℕ) (x y : Change) (a b : List ℕ) → IsRecord x.row → IsRecord y.row → length (change_text x) ≤ size → length (change_text y) ≤ size → change_text x ++ a ≡ change_text y ++ b → (x ≡ y) × (a ≡ b)
one_record size x y a b is other long longer same = same_done x y a b (sym (window_again size x a is long) ∙ ap (window_at size) same ∙ window_again size y b other longer)

-- of records that stand in one text the fewer are the first of the others
front_records : (xs ys : List Change) (rest after : List ℕ) → AreRecords xs → AreRecords ys → length (body_of ys) ≤ length (body_of xs) → body_of xs ++ rest ≡ body_of ys ++ after
    → (behind : List Change) × (xs ≡ ys ++ behind)
front_records xs [] rest after are other short same = (xs, refl)
front_records [] (y ∷ ys) rest after are other short same =
    let none : length (change_text y) ≤ 0 = omega (arith, short, length_cons y ys) in
    let found = window_done 0 (change_text y ++ after) y after (window_again 0 y after other.0 none) in
    absurd (omega (arith, none, found.long))
front_records (x ∷ xs) (y ∷ ys) rest after are other short same =
    let long = length_cons x xs in
    let longer = length_cons y ys in
    let both = one_record (length (body_of (x ∷ xs))) x y (body_of xs ++ rest) (body_of ys ++ after) are.0 other.0 (omega (arith, long)) (omega (arith, short, longer))
    (sym (body_cons x xs rest) ∙ same ∙ body_cons y ys after) in
    let on = front_records xs ys rest after are.1 other.1 (omega (arith, short, long, longer, ap (λ (c : Change). length (change_text c)) both.0)) both.1 in
    (on.0, ap (λ (c : List Change). x ∷ c) on.1 ∙ ap (λ (c : Change). c ∷ (ys ++ on.0)) both.0)

behind_mark : {xs ys : List ℕ} → mark open_byte ++ xs ≡ mark open_byte ++ ys → xs ≡ ys
behind_mark e = cc

-- those with which a part of a group's text begins are its first ones
first_records : (number at : ℕ) (left beyond tail : List ℕ) (changes records : List Change) (end : ℕ) → IsGroup changes → left ++ beyond ≡ mark open_byte ++ (group_text number changes ++ tail)
    → BeginsAt number at left records end → (behind : List Change) × (changes ≡ records ++ behind)
first_records number at left beyond tail changes records end is_group is there =
    let b = there.begins in
    let body = body_of records ++ (b.rest ++ beyond) in
    let parts : left ++ beyond ≡ mark open_byte ++ (head_of number b.size ++ body) =
    ap (λ (l : List ℕ). l ++ beyond) (there.opened ∙ ap (λ (l : List ℕ). mark open_byte ++ l) b.parts)
    ∙ append_assoc (mark open_byte) (head_of number b.size ++ (body_of records ++ b.rest)) beyond
    ∙ ap (λ (l : List ℕ). mark open_byte ++ l) (append_assoc (head_of number b.size) (body_of records ++ b.rest) beyond ∙ ap (λ (l : List ℕ). head_of number b.size ++ l) (append_assoc (body_of records) b.rest beyond)) in
    let same : head_of number b.size ++ body ≡ head_of number (length (body_of changes)) ++ (body_of changes ++ tail) =
    behind_mark (sym parts ∙ is) ∙ append_assoc (head_of number (length (body_of changes))) (body_of changes) tail in
    let one = head_again number b.size body b.wide in
    let two = head_again number (length (body_of changes)) (body_of changes ++ tail) is_group.1 in
    let both = same_done b.size (length (body_of changes)) body (body_of changes ++ tail) (sym one ∙ ap (head_at number) same ∙ two) in
    front_records changes records tail (b.rest ++ beyond) is_group.0 b.are_records (omega (arith, both.0, b.within)) (sym both.1)

-- ---- a place in a text of groups

no_more : (byte : ℕ) (front after beyond : List ℕ) → (front ++ byte ∷ after) ++ beyond ≡ [] → ⊥
no_more byte [] after beyond e = cc
no_more byte (x ∷ front) after beyond e = cc

same_byte : {a b : ℕ} {xs ys : List ℕ} → mark a ++ xs ≡ mark b ++ ys → a ≡ b
same_byte e = cc

-- where a text goes on as groups that fit, no place of it is bad
module _ (rules : List FilterRule) (whole rows : AllRows) (cut : AreCut rules whole rows) (now : State) (beyond : List ℕ) (place : ℕ) where
  good_place : (next : List (List Change)) → AllByRecursion IsGroup next → AllFitIn whole (joined next) → now.left ++ beyond ≡ groups_text now.number next → IsBadPlace (Fit rules rows) now place → ⊥
  good_place [] are fit is (inl bad) =
      no_more 64 [] (101 ∷ 120 ∷ 64 ∷ 10 ∷ bad.there.group) beyond (ap (λ (l : List ℕ). l ++ beyond) (sym bad.there.opened) ∙ is)
  good_place [] are fit is (inr (inl bad)) = let stops = bad.1 in no_more stops.bad stops.front stops.after beyond (ap (λ (l : List ℕ). l ++ beyond) (sym stops.parts) ∙ is)
  good_place [] are fit is (inr (inr bad)) =
      let shut = bad.0 in no_more 64 [] (shut.byte ∷ 120 ∷ 64 ∷ 10 ∷ shut.behind) beyond (ap (λ (l : List ℕ). l ++ beyond) (sym shut.is) ∙ is)
  good_place (x ∷ next) are fit is (inl bad) =
      let first = first_records now.number now.at now.left beyond (groups_text (suc now.number) next) x bad.changes bad.end are.0 is bad.there in
      let misfit = bad.bad in
      let parts : x ≡ (misfit.front ++ misfit.bad ∷ []) ++ (misfit.after ++ first.0) =
      first.1
      ∙ ap (λ (l : List Change). l ++ first.0) misfit.parts
      ∙ append_assoc misfit.front (misfit.bad ∷ misfit.after) first.0
      ∙ sym (append_assoc misfit.front (misfit.bad ∷ []) (misfit.after ++ first.0)) in
      let fits : Fit rules rows x = fit_after rules whole rows x cut (fits_front whole x (joined next) fit) in
      misfit.none (cut_front rules rows (misfit.front ++ misfit.bad ∷ []) (misfit.after ++ first.0) (subst (Fit rules rows) parts fits))
  good_place (x ∷ next) are fit is (inr (inl bad)) =
      let stops = bad.1 in
      let text : (stops.front ++ stops.bad ∷ []) ++ (stops.after ++ beyond) ≡ mark open_byte ++ (group_text now.number x ++ groups_text (suc now.number) next) =
      append_assoc stops.front (stops.bad ∷ []) (stops.after ++ beyond)
      ∙ sym (append_assoc stops.front (stops.bad ∷ stops.after) beyond)
      ∙ ap (λ (l : List ℕ). l ++ beyond) (sym stops.parts)
      ∙ is in
      (stops.none (stops.after ++ beyond)).1 (group x (groups_text (suc now.number) next) are.0 text)
  good_place (x ∷ next) are fit is (inr (inr bad)) =
      let shut = bad.0 in
      shut.closed (same_byte (sym (append_assoc (mark shut.byte) shut.behind beyond) ∙ ap (λ (l : List ℕ). l ++ beyond) (sym shut.is) ∙ is))

-- ---- what stands behind what a replica took

-- groups that fit behind rows
record Behind (rows : AllRows) (number : ℕ) (text : List ℕ) : Type 0 where
  later : List (List Change)
  are : AllByRecursion IsGroup later
  fit : AllFitIn rows (joined later)
  is : text ≡ groups_text number later

module _ (groups : List (List Change)) (rest : List ℕ) (at : ℕ) where
  behind : (g : ℕ) (rows : AllRows) (all generations : List (List (List Change))) → AllByRecursion (AllByRecursion IsGroup) all → FitFrom rows g all → length generations < length all → ArePassed (texts all) generations
      → AreWholeIn groups (take at (text_of (texts all) (length generations))) rest
      → Behind (changed_by rows (joined (changes_from g (generations ++ groups ∷ [])))) (1 + length groups) (rest ++ drop at (text_of (texts all) (length generations)))
  behind g rows [] generations are fit there passed whole = absurd (omega (arith, there))
  behind g rows (a ∷ all) [] are fit there passed whole =
      let text = groups_text 1 a in
      let split : text ≡ groups_text 1 groups ++ (rest ++ drop at text) =
      sym (take-append-drop at text) ∙ ap (λ (l : List ℕ). l ++ drop at text) whole.is ∙ append_assoc (groups_text 1 groups) rest (drop at text) in
      let on = begins 1 groups a (rest ++ drop at text) whole.are_groups are.0 split in
      let first = changed_by rows (joined (begun g)) in
      let made : changed_by rows (joined (changes_from g (groups ∷ []))) ≡ changed_by first (joined groups) =
      ap (λ (l : List (List Change)). changed_by rows (joined (begun g ++ l))) (append-nil groups)
      ∙ ap (changed_by rows) (joined_append (begun g) groups)
      ∙ changed_joined rows (joined (begun g)) (joined groups) in
      let all_fit : AllFitIn first (joined groups ++ joined on.later) = subst (AllFitIn first) (ap joined on.is ∙ joined_append groups on.later) fit.0 in
      record {
        later = on.later;
        are = last_of IsGroup groups on.later (subst (AllByRecursion IsGroup) on.is are.0);
        fit = subst (λ (r : AllRows). AllFitIn r (joined on.later)) (sym made) (fits_behind first (joined groups) (joined on.later) all_fit);
        is = on.text;
      }
  behind g rows (a ∷ all) (x ∷ generations) are fit there passed whole =
      let same : a ≡ x = all_whole x a passed.1.0 are.0 passed.1.1 in
      let on = behind (suc g) (changed_by rows (joined (begun g ++ a))) all generations are.1 fit.1 (omega (arith, there)) passed.2 whole in
      let others = changes_from (suc g) (generations ++ groups ∷ []) in
      let made : changed_by (changed_by rows (joined (begun g ++ a))) (joined others) ≡ changed_by rows (joined (begun g ++ (x ++ others))) =
      sym (changed_joined rows (joined (begun g ++ a)) (joined others))
      ∙ ap (changed_by rows) (sym (joined_append (begun g ++ a) others))
      ∙ ap (λ (l : List (List Change)). changed_by rows (joined ((begun g ++ l) ++ others))) same
      ∙ ap (λ (l : List (List Change)). changed_by rows (joined l)) (append_assoc (begun g) x others) in
      record { later = on.later; are = on.are; fit = subst (λ (r : AllRows). AllFitIn r (joined on.later)) made on.fit; is = on.is }

-- ---- a piece

there_is : (journal : List (List ℕ)) (g : ℕ) → 0 < length (text_of journal g) → g < length journal
there_is [] g some = absurd (omega (arith, some))
there_is (text ∷ journal) zero some = omega arith
there_is (text ∷ journal) (suc g) some = let on = there_is journal g some in omega (arith, on)

module _ (rules : List FilterRule) (journal earlier : List (List ℕ)) (all : List (List (List Change))) (r : Replica) (p : HasPrefix rules journal r) (good : IsGoodJournal journal all)
    (was : IsEarlier earlier journal) (n place : ℕ) (buffer : List ℕ) (answers : Answers earlier r.generation r.at (Bytes n) buffer) where
  abbrev text : List ℕ
  text = text_of journal r.generation

  abbrev piece : List ℕ
  piece = take n buffer

  abbrev beyond : List ℕ
  beyond = drop n (drop r.at text)

  abbrev whole_rows : AllRows
  whole_rows = changed_by no_rows (joined (changes_from 0 (p.generations ++ p.groups ∷ [])))

  -- the piece stands in the text as it is now
  stands : (n ≤ length (drop r.at text)) × (piece ≡ take n (drop r.at text))
  stands =
      let said = text_of earlier r.generation in
      let front = earlier_front earlier journal r.generation was in
      let at_within : r.at ≤ length said = omega (arith, answers.0, answers.1, length-drop r.at said) in
      let left : drop r.at text ≡ drop r.at said ++ front.0 = ap (drop r.at) front.1 ∙ drop-append-le r.at said front.0 at_within in
      (omega (arith, answers.1, ap length left, length-append (drop r.at said) front.0), answers.2 ∙ sym (ap (take n) left ∙ take-append-le n (drop r.at said) front.0 answers.1))

  long : length piece ≡ n
  long = ap length stands.1 ∙ length-take-le n (drop r.at text) stands.0

  there : r.generation < length journal
  there = there_is journal r.generation (omega (arith, answers.0, stands.0, length-drop r.at text))

  -- behind what was taken stand groups that fit
  found : Behind whole_rows r.number ((r.rest ++ piece) ++ beyond)
  found =
      let of_groups = good.of_groups in
      let many : length p.generations < length all = omega (arith, there, p.generation, ap length of_groups.0, length-texts all) in
      let passed : ArePassed (texts all) p.generations = subst (λ (j : List (List ℕ)). ArePassed j p.generations) of_groups.0 p.passed in
      let here : text ≡ text_of (texts all) (length p.generations) = (λ i. text_of (of_groups.0 i) (p.generation i)) in
      let whole : AreWholeIn p.groups (take r.at (text_of (texts all) (length p.generations))) r.rest = subst (λ (l : List ℕ). AreWholeIn p.groups (take r.at l) r.rest) here p.whole in
      let on = behind p.groups r.rest r.at 0 no_rows all p.generations of_groups.1 good.fit many passed whole in
      let number : r.number ≡ 1 + length p.groups = omega (arith, p.number) in
      let parts : (r.rest ++ piece) ++ beyond ≡ r.rest ++ drop r.at text =
      append_assoc r.rest piece beyond
      ∙ ap (λ (l : List ℕ). r.rest ++ l) (ap (λ (l : List ℕ). l ++ beyond) stands.1 ∙ take-append-drop n (drop r.at text)) in
      record {
        later = on.later;
        are = on.are;
        fit = on.fit;
        is = parts ∙ ap (λ (l : List ℕ). r.rest ++ drop r.at l) here ∙ on.is ∙ ap (λ (k : ℕ). groups_text k on.later) (sym number);
      }
    where
      length-texts : (all : List (List (List Change))) → length (texts all) ≡ length all
      length-texts [] = refl
      length-texts (a ∷ all) = ap suc (length-texts all)

  cut : AreCut r.filter whole_rows (rows_of r.tables)
  cut = subst (λ (f : List FilterRule). AreCut f whole_rows (rows_of r.tables)) (sym p.filter) p.rows

  good_feed : IsBadFeed r.filter (with_piece r piece) (rows_of r.tables) place → ⊥
  good_feed bad =
      let taken = bad.taken in
      let later = found.later in
      let both : groups_text r.number later ≡ groups_text r.number bad.groups ++ (bad.now.left ++ beyond) =
      sym found.is ∙ ap (λ (l : List ℕ). l ++ beyond) taken.text ∙ append_assoc (groups_text r.number bad.groups) bad.now.left beyond in
      let on = begins r.number bad.groups later (bad.now.left ++ beyond) taken.are_groups found.are both in
      let after = changed_by whole_rows (joined bad.groups) in
      let fit : AllFitIn after (joined on.later) =
      fits_behind whole_rows (joined bad.groups) (joined on.later) (subst (AllFitIn whole_rows) (ap joined on.is ∙ joined_append bad.groups on.later) found.fit) in
      let made : AreCut r.filter after bad.rows = subst (AreCut r.filter after) (sym taken.rows) (rows_after r.filter whole_rows (rows_of r.tables) (joined bad.groups) cut) in
      good_place r.filter after bad.rows made bad.now beyond place on.later (last_of IsGroup bad.groups on.later (subst (AllByRecursion IsGroup) on.is found.are)) fit
      (on.text ∙ ap (λ (k : ℕ). groups_text k on.later) (sym taken.number)) bad.bad

  pub never_bad : IsBadPiece r piece place → ⊥
  never_bad (inl bad) = good_feed bad
  never_bad (inr over) =
      let within = bytes_within journal r.generation there in
      omega (arith, over.0, long, p.taken, stands.0, length-drop r.at text, within, good.short, p.within)

-- ---- a pull

module _ (rules : List FilterRule) (before : List (List ℕ)) (old : Replica) (Tells : List (List ℕ) → Type 0) (p : HasPrefix rules before old) (grew : (now : List (List ℕ)) × (Tells now × HasGrown before now))
    (masters : (now : List (List ℕ)) → Tells now → (generations : List (List (List Change))) × IsGoodJournal now generations) where
  abbrev WereAnswered : Fetched → List ℕ → Type 0
  WereAnswered fetched piece = (now : List (List ℕ)) → Tells now → (earlier : List (List ℕ)) × (IsEarlier earlier now × Answers earlier old.generation old.at fetched piece)

  no_bad : (place : ℕ) (fetched : Fetched) (buffer : List ℕ) → IsStopped old fetched buffer (faults.BadFeed place) → WereAnswered fetched buffer → ⊥
  no_bad place (Bytes n) buffer bad answers =
      let now = grew.0 in
      let m = masters now grew.1.0 in
      let e = answers now grew.1.0 in
      never_bad rules now e.0 m.0 old (grown rules now before old p grew.1.1) m.1 e.1.0 n place buffer e.1.1 bad
  no_bad place End buffer bad answers = bad
  no_bad place Next buffer bad answers = bad

  pub no_bad_feed : (result : Result Moved PullFault) → IfErr result (λ fault. IsUnread fault ⊎ ((fetched : Fetched) × ((piece : List ℕ) × (IsStopped old fetched piece fault × WereAnswered fetched piece))))
      → IfBadFeed result (λ place. ⊥)
  no_bad_feed (Ok moved) why = tt
  no_bad_feed (Err (faults.BadFeed place)) (inl unread) = unread
  no_bad_feed (Err (faults.BadFeed place)) (inr why) = no_bad place why.0 why.1.0 why.1.1.0 why.1.1.1
  no_bad_feed (Err faults.LinkFault) why = tt
  no_bad_feed (Err faults.NoGeneration) why = tt
  no_bad_feed (Err faults.Memory) why = tt
