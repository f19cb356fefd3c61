-- Texts that are the same up to a place, and where they depart.
use Rattle.std.proofs.Common.{◌≡◌, ◌≢◌, ◌⊎◌, inl, inr, ⊎_elim, ℕ, zero, suc, ◌+◌, ◌*◌, ◌^◌, ◌≤◌, ◌<◌, List, [], ◌∷◌, ◌++◌, length, get_or, take, drop, below_more, refl, sym, ap, subst, ◌∙◌, arith, length-append, length-drop, length-take-le}
use Rattle.std.specs.Prelude.{map}
use Rattle.std.proofs.Math.Seq.{take-add}
use Rattle.std.proofs.lemmas.List.{drop_more, get_or-drop, get_or-take, length-map, take-take}
use Rattle.outside_api.specs.Disk.{Files}
use Rattle.outside_api.specs.Link.{Answers, text_of}
use Rattle.outside_api.specs.Says.{DiskSays}
use Rattle.outside_api.specs.declared.link.Fetched.{Fetched}
use Rattle.outside_api.specs.declared.link.Fetched.TheVariants.{Bytes, End, Next}
use Rattle.disk_journal.specs.Images.{Committed}
use Rattle.disk_journal.specs.Older.{AreOlder, texts as texts_with}
use Rattle.disk_journal.specs.Stands.{Doubtful, Stands, disk_of, generation_of_journal}
use Rattle.disk_journal.specs.Text.{blocks, mark}
use Rattle.disk_journal.specs.declared.journal.Journal.{Journal}
use Rattle.replica_chain.specs.Ends.{HasTexts, IsLooked}
use Rattle.replica_chain.proofs.Chains.{same_at}
use Rattle.replica_chain.proofs.Told.{image_text, kept_texts}
use Rattle.replica_chain.specs.Apart.{AreAlike, AreSameTo, IsApartIn, IsClosedIn, IsCommon}

-- ---- bytes

-- nor is it another one
other_byte : (text other : List ℕ) (place : ℕ) → place < length text → place < length other → get_or text place 0 ≢ get_or other place 0 → take 1 (drop place text) ≢ take 1 (drop place other)
other_byte text other place lt lt_other differ same =
    differ (first (ap (take 1) (sym (drop_more text place 0 lt)) ∙ same ∙ ap (take 1) (drop_more other place 0 lt_other)))
  where
    first : {a b : ℕ} → a ∷ [] ≡ b ∷ [] → a ≡ b
    first e = cc

-- so much of a text stands behind a place
there : (text : List ℕ) (at n : ℕ) → at ≤ length text → n ≤ length (drop at text) → at + n ≤ length text
there text at n within le = omega (arith, length-drop at text, within, le)

-- the front of a piece is that of the text
piece_is : (piece text : List ℕ) (at count n : ℕ) → take count piece ≡ take count (drop at text) → n ≤ count → take n piece ≡ take n (drop at text)
piece_is piece text at count n same le = sym (take-take n count piece le) ∙ ap (take n) same ∙ take-take n count (drop at text) le

byte_of : (piece text : List ℕ) (at least n : ℕ) → take least piece ≡ take least (drop at text) → n < least → get_or (take least piece) n 0 ≡ get_or text (at + n) 0
byte_of piece text at least n same lt = ap (λ (l : List ℕ). get_or l n 0) same ∙ get_or-take least (drop at text) n 0 lt ∙ get_or-drop at text n 0

module _ (node up : List (List ℕ)) (generation at : ℕ) (so_far : AreSameTo node up generation at) where
  text : List ℕ
  text = text_of node generation

  other : List ℕ
  other = text_of up generation

  -- ---- texts that don't depart

  not_before : (place : ℕ) → place < at → take 1 (drop place (text_of node generation)) ≢ take 1 (drop place (text_of up generation)) → ⊥
  not_before place lt differ = differ (same_at (text_of up generation) (text_of node generation) at place 1 so_far.same (omega (arith, lt)))

  -- the node's ends, and where it is closed so is the other, which ends there too
  alike : length (text_of node generation) ≤ at → (IsClosedIn node generation → (length (text_of up generation) ≤ at) × IsClosedIn up generation) → AreAlike node up generation
  alike ends closed place apart = ⊎_elim goes_on ended apart.departs
    where
      goes_on : (place < length (text_of node generation)) × (take 1 (drop place (text_of node generation)) ≢ take 1 (drop place (text_of up generation))) → ⊥
      goes_on d = not_before place (omega (arith, d.0, ends)) d.1

      ended : (place ≡ length (text_of node generation)) × IsClosedIn node generation × ((place < length (text_of up generation)) ⊎ (IsClosedIn up generation → ⊥)) → ⊥
      ended d = let both = closed d.1 in let within = so_far.within_node in ⊎_elim (λ (lt : place < length (text_of up generation)). absurd (omega (arith, lt, d.0, within, both.0))) (λ (no : IsClosedIn up generation → ⊥). no both.1) d.2

  pub open_alike : (buffer : List ℕ) → Answers node generation at End buffer → AreAlike node up generation × (IsClosedIn node generation → ⊥)
  open_alike buffer ends = (alike ends.0 (λ closed. absurd (omega (arith, closed, ends.1))), λ closed. omega (arith, closed, ends.1))

  pub closed_alike : (buffer more : List ℕ) → Answers node generation at Next buffer → Answers up generation at Next more → AreAlike node up generation
  closed_alike buffer more ends others = alike ends.0 (λ closed. (others.0, others.1))

  -- ---- pieces of both

  module _ (buffer more : List ℕ) (count most least same : ℕ) (goes : Answers node generation at (Bytes count) buffer) (others : Answers up generation at (Bytes most) more)
      (le : least ≤ count) (le_other : least ≤ most) (common : IsCommon (take least buffer) (take least more) same) (within : same ≤ least) where
    of_node : take least buffer ≡ take least (drop at (text_of node generation))
    of_node = piece_is buffer (text_of node generation) at count least goes.2 le

    of_up : take least more ≡ take least (drop at (text_of up generation))
    of_up = piece_is more (text_of up generation) at most least others.2 le_other

    pub same_on : AreSameTo node up generation (at + same)
    same_on = record {
      within_node = (let far = there (text_of node generation) at count so_far.within_node goes.1 in omega (arith, far, le, within));
      within_up = (let far = there (text_of up generation) at most so_far.within_up others.1 in omega (arith, far, le_other, within));
      same =
          take-add at same (text_of node generation)
          ∙ (λ i. so_far.same i ++ piece i)
          ∙ sym (take-add at same (text_of up generation));
    }
      where
        piece : take same (drop at (text_of node generation)) ≡ take same (drop at (text_of up generation))
        piece =
            sym (piece_is (take least buffer) (text_of node generation) at least same (take-take least least buffer (omega arith) ∙ of_node) within)
            ∙ common.same
            ∙ piece_is (take least more) (text_of up generation) at least same (take-take least least more (omega arith) ∙ of_up) within

    pub parted : same < least → IsApartIn node up generation (at + same)
    parted lt =
        let far = there (text_of node generation) at count so_far.within_node goes.1 in
        let far_other = there (text_of up generation) at most so_far.within_up others.1 in
        let lt_node : at + same < length (text_of node generation) = omega (arith, far, le, lt) in
        let lt_up : at + same < length (text_of up generation) = omega (arith, far_other, le_other, lt) in
        record {
          alike = same_on;
          departs = inl (
            lt_node,
            other_byte (text_of node generation) (text_of up generation) (at + same) lt_node lt_up (λ e. differ (
                byte_of buffer (text_of node generation) at least same of_node lt ∙ e ∙ sym (byte_of more (text_of up generation) at least same of_up lt))),
          );
        }
      where
        long : (piece text : List ℕ) (n : ℕ) → take least piece ≡ take least (drop at text) → n ≤ length (drop at text) → least ≤ n → same < length (take least piece)
        long piece text n is far reach = omega (arith, ap length is, length-take-le least (drop at text) (omega (arith, far, reach)), lt)

        differ : get_or (take least buffer) same 0 ≢ get_or (take least more) same 0
        differ = common.differ (long buffer (text_of node generation) count of_node goes.1 le) (long more (text_of up generation) most of_up others.1 le_other)

-- ---- what a journal has

module _ {D : Type 0} (disk_says : DiskSays D) where
  pub same_at_first : (texts others : List (List ℕ)) (generation : ℕ) → AreSameTo texts others generation 0
  same_at_first texts others generation = record { within_node = omega arith; within_up = omega arith; same = refl }

  -- what was fetched of a journal that was looked at is an answer of its texts
  pub answered : (old journal : Journal D) (texts : List (List ℕ)) (generation at : ℕ) (fetched : Fetched) (buffer : List ℕ) → IsLooked disk_says old journal → HasTexts disk_says old texts
      → ((was : Committed) (doubt : Doubtful) (before : List (List (List ℕ))) (files : Files) → Stands disk_says journal was doubt → disk_says.seen (disk_of journal) files →
      length before ≡ was.generation → AreOlder before files → Answers (texts_with before was) generation at fetched buffer)
      → Answers texts generation at fetched buffer
  answered old journal texts generation at fetched buffer looked told answers =
      let now = kept_texts disk_says old journal looked texts told in
      subst (λ (l : List (List ℕ)). Answers l generation at fetched buffer) (sym now.are) (answers now.was now.doubt now.before now.files now.stands now.sees now.as_many now.older)

  -- no text is as long as no file is
  all_short : (before : List (List (List ℕ))) (last : List (List ℕ)) → ((generation : ℕ) → generation < length before → length (blocks (get_or before generation [])) < 2 ^ 63) → length (blocks last) < 2 ^ 63
      → (generation : ℕ) → length (get_or (map blocks (before ++ last ∷ [])) generation []) < 2 ^ 63
  all_short [] last each short zero = short
  all_short [] last each short (suc generation) = omega arith
  all_short (groups ∷ before) last each short zero = each 0 (omega arith)
  all_short (groups ∷ before) last each short (suc generation) = all_short before last (λ g within. each (suc g) (omega (arith, within))) short generation

  pub texts_short : (image : (disk : D) (files : Files) → disk_says.seen disk files → disk_says.may_leave disk files) (short : (disk : D) (files : Files) (file : ℕ) → disk_says.seen disk files → length (files file) < 2 ^ 63)
      → (journal : Journal D) (texts : List (List ℕ)) → HasTexts disk_says journal texts → (generation : ℕ) → length (text_of texts generation) < 2 ^ 63
  texts_short image short journal texts told generation =
      subst (λ (l : List (List ℕ)). length (text_of l generation) < 2 ^ 63) (sym told.are) (all_short told.before told.was.groups closed newest generation)
    where
      closed : (generation : ℕ) → generation < length told.before → length (blocks (get_or told.before generation [])) < 2 ^ 63
      closed generation within =
          let is = told.older generation within in
          let text = blocks (get_or told.before generation []) in
          omega (arith, ap length is.is, length-append (text ++ mark is.byte) is.behind, length-append text (mark is.byte), short (disk_of journal) told.files (1 + 2 * generation) told.sees)

      newest : length (blocks told.was.groups) < 2 ^ 63
      newest =
          let begins = image_text told.was told.doubt told.files (told.stands.each told.files (image (disk_of journal) told.files told.sees)) in
          omega (arith, ap length begins.is, length-append (blocks told.was.groups) begins.behind, short (disk_of journal) told.files (1 + 2 * told.was.generation) told.sees)

  -- a journal has a text for each generation up to its newest
  pub texts_count : (journal : Journal D) (texts : List (List ℕ)) → HasTexts disk_says journal texts → length texts ≡ generation_of_journal journal + 1
  texts_count journal texts told =
      let is = told.stands.generation in
      let many = told.as_many in
      omega (arith, ap length told.are, length-map (told.before ++ told.was.groups ∷ []) blocks, length-append told.before (told.was.groups ∷ []), is, many)

-- ---- generations, one after another

module _ (node up : List (List ℕ)) where
  pub alike_more : (generation : ℕ) → ((g : ℕ) → g < generation → AreAlike node up g) → AreAlike node up generation → (g : ℕ) → g < generation + 1 → AreAlike node up g
  alike_more generation before here = below_more (AreAlike node up) generation before here

  -- one that isn't closed is the newest
  pub alike_open : (generation : ℕ) → ((g : ℕ) → g < generation → AreAlike node up g) → AreAlike node up generation × (IsClosedIn node generation → ⊥) → (g : ℕ) → g < length node → AreAlike node up g
  alike_open generation before here g within = ⊎_elim (λ (lt : g < generation + 1). alike_more generation before here.0 g lt) (λ (past : generation + 1 ≤ g). absurd (here.1 (omega (arith, past, within)))) (order g (generation + 1))
    where
      order : (n m : ℕ) → (n < m) ⊎ (m ≤ n)
      order n zero = inr (omega arith)
      order zero (suc m) = inl (omega arith)
      order (suc n) (suc m) = ⊎_elim (λ (lt : n < m). inl (omega (arith, lt))) (λ (le : m ≤ n). inr (omega (arith, le))) (order n m)
