-- A journal that is damaged is so at one place, and not where files hold its groups.
use Rattle.std.proofs.Common.{◌≡◌, ◌<◌, ◌+◌, ◌^◌, ℕ, suc, List, [], ◌∷◌, ◌++◌, length, Some, refl, sym, ap, subst, ◌∙◌, arith, append_assoc, length-append}
use Rattle.std.specs.List.{AllByRecursion}
use Rattle.depot_rows.specs.db_records.declared.change.Change.{Change}
use Rattle.depot_rows.specs.table_changes.Changed.{AllRows, AllFitIn, changed_by}
use Rattle.record_text.specs.Reading.{Done}
use Rattle.journal_groups.specs.Committed.{HasGroups}
use Rattle.journal_groups.specs.Groups.{IsGroup, group_text, groups_text, mark, open_byte}
use Rattle.journal_groups.specs.Reading.{next_at}
use Rattle.journal_groups.proofs.Texts.{next_group}
use Rattle.recovery.specs.Damage.{IsJournalDamage}
use Rattle.recovery.specs.Holding.{joined}
use Rattle.recovery.specs.Pieces.{IsTextDamage}
use Rattle.recovery.proofs.Fits.{changed_joined, fits_front, fits_behind, joined_append}
use Rattle.recovery.proofs.Groups.{behind_groups}
use Rattle.recovery.proofs.Journals.{few}
use Rattle.damage_places.proofs.Texts.{text_once, group_never, end_never}

-- the first group of a text, and what is behind it
first_parts : (n : ℕ) (g : List Change) (groups : List (List Change)) (behind : List ℕ) → groups_text n (g ∷ groups) ++ behind ≡ mark open_byte ++ (group_text n g ++ (groups_text (suc n) groups ++ behind))
first_parts n g groups behind =
    append_assoc (mark open_byte) (group_text n g ++ groups_text (suc n) groups) behind
    ∙ ap (λ (l : List ℕ). mark open_byte ++ l) (append_assoc (group_text n g) (groups_text (suc n) groups) behind)

first_same : {a b : List Change} {xs ys : List ℕ} → Done (Some a) xs ≡ Done (Some b) ys → a ≡ b
first_same e = cc

rest_same : {a b : List Change} {xs ys : List ℕ} → Done (Some a) xs ≡ Done (Some b) ys → xs ≡ ys
rest_same e = cc

-- a text that is damaged behind groups that fit
pub record IsBehind (rows : AllRows) (n at : ℕ) (groups : List (List Change)) (text : List ℕ) (place : ℕ) : Type 0 where
  pub are_groups : AllByRecursion IsGroup groups
  pub fit : AllFitIn rows (joined groups)
  pub behind : List ℕ
  pub parts : text ≡ groups_text n groups ++ behind
  pub now : AllRows
  pub now_is : now ≡ changed_by rows (joined groups)
  pub number : ℕ
  pub number_is : number ≡ n + length groups
  pub small : number < 2 ^ 64
  pub place_in : ℕ
  pub place_is : place_in ≡ at + length (groups_text n groups)
  pub damage : IsTextDamage (AllFitIn now) number place_in behind place

-- the same without its first group
without_first : (rows : AllRows) (n at : ℕ) (g : List Change) (groups : List (List Change)) (text : List ℕ) (place : ℕ) (b : IsBehind rows n at (g ∷ groups) text place)
    → IsBehind (changed_by rows g) (suc n) (at + (5 + length (group_text n g))) groups (groups_text (suc n) groups ++ b.behind) place
without_first rows n at g groups text place b = record {
  are_groups = b.are_groups.1;
  fit = fits_behind rows g (joined groups) b.fit;
  behind = b.behind;
  parts = refl;
  now = b.now;
  now_is = b.now_is ∙ changed_joined rows g (joined groups);
  number = b.number;
  number_is = let e = b.number_is in omega (arith, e);
  small = b.small;
  place_in = b.place_in;
  place_is =
      let one : length (groups_text n (g ∷ groups)) ≡ 5 + (length (group_text n g) + length (groups_text (suc n) groups)) =
      length-append (mark open_byte) (group_text n g ++ groups_text (suc n) groups) ∙ ap (λ (m : ℕ). 5 + m) (length-append (group_text n g) (groups_text (suc n) groups)) in
      let two = b.place_is in
      omega (arith, one, two);
  damage = b.damage;
}

-- what is behind no groups isn't damaged where a group stands that fits
group_stands : (rows : AllRows) (n at : ℕ) (text : List ℕ) (place : ℕ) → IsBehind rows n at [] text place → (g : List Change) (rest : List ℕ) → IsGroup g → AllFitIn rows g
    → text ≡ mark open_byte ++ (group_text n g ++ rest) → ⊥
group_stands rows n at text place b g rest is fit e =
    let number : b.number ≡ n = let h = b.number_is in omega (arith, h) in
    group_never (AllFitIn b.now) (fits_front b.now) b.number b.place_in b.behind rest g place b.small is (subst (λ (r : AllRows). AllFitIn r g) (sym b.now_is) fit)
    (sym b.parts ∙ e ∙ ap (λ (m : ℕ). mark open_byte ++ (group_text m g ++ rest)) (sym number)) b.damage

pub behind_once : (rows : AllRows) (n at : ℕ) (groups others : List (List Change)) (text : List ℕ) (place other : ℕ) → IsBehind rows n at groups text place → IsBehind rows n at others text other → place ≡ other
behind_once rows n at [] [] text place other a b =
    let number : a.number ≡ b.number = let h = a.number_is in let k = b.number_is in omega (arith, h, k) in
    let start : a.place_in ≡ b.place_in = a.place_is ∙ sym b.place_is in
    let now : a.now ≡ b.now = a.now_is ∙ sym b.now_is in
    let behind : a.behind ≡ b.behind = sym a.parts ∙ b.parts in
    let one : IsTextDamage (AllFitIn b.now) a.number a.place_in a.behind place = subst (λ (r : AllRows). IsTextDamage (AllFitIn r) a.number a.place_in a.behind place) now a.damage in
    let two : IsTextDamage (AllFitIn b.now) b.number a.place_in a.behind place = subst (λ (m : ℕ). IsTextDamage (AllFitIn b.now) m a.place_in a.behind place) number one in
    let three : IsTextDamage (AllFitIn b.now) b.number b.place_in a.behind place = subst (λ (m : ℕ). IsTextDamage (AllFitIn b.now) b.number m a.behind place) start two in
    text_once (AllFitIn b.now) (fits_front b.now) b.number b.place_in b.behind place other
    (subst (λ (l : List ℕ). IsTextDamage (AllFitIn b.now) b.number b.place_in l place) behind three) b.damage
behind_once rows n at [] (g ∷ others) text place other a b =
    absurd (group_stands rows n at text place a g (groups_text (suc n) others ++ b.behind) b.are_groups.0 (fits_front rows g (joined others) b.fit)
    (b.parts ∙ first_parts n g others b.behind))
behind_once rows n at (g ∷ groups) [] text place other a b =
    absurd (group_stands rows n at text other b g (groups_text (suc n) groups ++ a.behind) a.are_groups.0 (fits_front rows g (joined groups) a.fit)
    (a.parts ∙ first_parts n g groups a.behind))
behind_once rows n at (g ∷ groups) (h ∷ others) text place other a b =
    let front = groups_text (suc n) groups ++ a.behind in
    let back = groups_text (suc n) others ++ b.behind in
    let one : next_at n text ≡ Done (Some g) front = ap (next_at n) (a.parts ∙ first_parts n g groups a.behind) ∙ next_group n g front a.are_groups.0 in
    let two : next_at n text ≡ Done (Some h) back = ap (next_at n) (b.parts ∙ first_parts n h others b.behind) ∙ next_group n h back b.are_groups.0 in
    let group : h ≡ g = first_same (sym two ∙ one) in
    let rest : back ≡ front = rest_same (sym two ∙ one) in
    let later : IsBehind (changed_by rows h) (suc n) (at + (5 + length (group_text n h))) others back other = without_first rows n at h others text other b in
    let moved : IsBehind (changed_by rows g) (suc n) (at + (5 + length (group_text n g))) others back other =
    subst (λ (x : List Change). IsBehind (changed_by rows x) (suc n) (at + (5 + length (group_text n x))) others back other) group later in
    behind_once (changed_by rows g) (suc n) (at + (5 + length (group_text n g))) groups others front place other
    (without_first rows n at g groups text place a)
    (subst (λ (l : List ℕ). IsBehind (changed_by rows g) (suc n) (at + (5 + length (group_text n g))) others l other) rest moved)

-- ---- a journal

module _ (rows : AllRows) (file : List ℕ) (short : length file < 2 ^ 63) where
  pub number_small : (groups : List (List Change)) (behind : List ℕ) → file ≡ groups_text 1 groups ++ behind → 1 + length groups < 2 ^ 64
  number_small groups behind e =
      let one = few 1 groups in
      let two : length file ≡ length (groups_text 1 groups) + length behind = ap length e ∙ length-append (groups_text 1 groups) behind in
      omega (arith, one, two, short)

  is_behind : (place : ℕ) (d : IsJournalDamage rows file place) → IsBehind rows 1 0 d.groups file place
  is_behind place d = record {
    are_groups = d.are_groups;
    fit = d.fit;
    behind = d.behind;
    parts = d.parts;
    now = changed_by rows (joined d.groups);
    now_is = refl;
    number = 1 + length d.groups;
    number_is = refl;
    small = number_small d.groups d.behind d.parts;
    place_in = length (groups_text 1 d.groups);
    place_is = omega arith;
    damage = d.next;
  }

  pub journal_once : (place other : ℕ) → IsJournalDamage rows file place → IsJournalDamage rows file other → place ≡ other
  journal_once place other a b = behind_once rows 1 0 a.groups b.groups file place other (is_behind place a) (is_behind other b)

  -- it isn't damaged where all its groups fit
  pub journal_never : (place : ℕ) (groups : List (List Change)) → HasGroups 1 file groups → AllFitIn rows (joined groups) → IsJournalDamage rows file place → ⊥
  journal_never place groups has fit d = go later.0 later.1.1 (fits_behind rows (joined d.groups) (joined later.0) (subst (AllFitIn rows) parts fit))
    where
      later : (more : List (List Change)) × ((groups ≡ d.groups ++ more) × HasGroups (1 + length d.groups) d.behind more)
      later = behind_groups 1 file d.behind d.groups groups d.are_groups d.parts has

      parts : joined groups ≡ joined d.groups ++ joined later.0
      parts = ap joined later.1.0 ∙ joined_append d.groups later.0

      now : AllRows
      now = changed_by rows (joined d.groups)

      small : 1 + length d.groups < 2 ^ 64
      small = number_small d.groups d.behind d.parts

      go : (more : List (List Change)) → HasGroups (1 + length d.groups) d.behind more → AllFitIn now (joined more) → ⊥
      go [] h fits = end_never (AllFitIn now) (fits_front now) (1 + length d.groups) (length (groups_text 1 d.groups)) d.behind h.after h.byte place small h.closed h.parts d.next
      go (g ∷ more) h fits =
          group_never (AllFitIn now) (fits_front now) (1 + length d.groups) (length (groups_text 1 d.groups)) d.behind
          (groups_text (suc (1 + length d.groups)) more ++ (mark h.byte ++ h.after)) g place small h.are_groups.0 (fits_front now g (joined more) fits)
          (h.parts ∙ first_parts (1 + length d.groups) g more (mark h.byte ++ h.after)) d.next
