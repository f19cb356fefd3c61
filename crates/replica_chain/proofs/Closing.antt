-- A generation that is closed upstream, of which a node has all.
use Rattle.std.proofs.Common.{◌≡◌, ℕ, zero, suc, ◌+◌, ◌-◌, ◌≤◌, ◌<◌, List, [], ◌∷◌, ◌++◌, length, take, drop, get_or, refl, sym, ap, subst, ◌∙◌, arith, length-append, length-take}
use Rattle.std.specs.Prelude.{map}
use Rattle.std.specs.List.{AllByRecursion}
use Rattle.std.proofs.lemmas.List.{length-drop, take-append-drop, take_all, take_more, append-nil}
use Rattle.outside_api.specs.Link.{Answers, IsEarlier, text_of}
use Rattle.outside_api.specs.declared.link.Fetched.TheVariants.{Next}
use Rattle.outside_api.specs.Says.{DiskSays}
use Rattle.depot_rows.specs.db_records.declared.change.Change.{Change}
use Rattle.disk_journal.specs.Stands.{generation_of_journal}
use Rattle.journal_groups.specs.Groups.{IsGroup, groups_text}
use Rattle.replica_pull.specs.Prefix.{HasNoGroup, IsJournalOf}
use Rattle.replica_pull.proofs.Firsts as firsts
use Rattle.replica_chain.specs.Chronicle.{Chronicle, texts_of, with_beginning}
use Rattle.replica_chain.specs.Masters.{IsBehind, Upstream}
use Rattle.replica_chain.specs.Node.{IsNode}
use Rattle.replica_chain.specs.declared.node.Node.{Node}
use Rattle.replica_chain.proofs.Following.{IsFrontOf, front_of}
use Rattle.recovery.proofs.OneGroup.{last_of}
use Rattle.replica_chain.proofs.Growing.{texts_are}
use Rattle.replica_chain.proofs.Steps.{all_earlier, its_generation}

-- the text of a generation before the newest is whole
whole_before : (now : List (List ℕ)) (newest g : ℕ) (last : List ℕ) → g < newest → newest ≤ length now - 1 → text_of (take newest now ++ last ∷ []) g ≡ text_of now g
whole_before now zero g last below there = absurd (omega (arith, below))
whole_before [] (suc newest) g last below there = absurd (omega (arith, there))
whole_before (text ∷ now) (suc newest) zero last below there = refl
whole_before (text ∷ now) (suc newest) (suc g) last below there = whole_before now newest g last (omega (arith, below)) (omega (arith, there))

-- the groups of a generation
groups_at : (generations : List (List (List Change))) (g : ℕ) → text_of (map (groups_text 1) generations) g ≡ groups_text 1 (get_or generations g [])
groups_at [] g = refl
groups_at (x ∷ generations) zero = refl
groups_at (x ∷ generations) (suc g) = groups_at generations g

are_groups_at : (generations : List (List (List Change))) (g : ℕ) → AllByRecursion (AllByRecursion IsGroup) generations → AllByRecursion IsGroup (get_or generations g [])
are_groups_at [] g are = tt
are_groups_at (x ∷ generations) zero are = are.0
are_groups_at (x ∷ generations) (suc g) are = are_groups_at generations g are.1

-- no group is left behind those that a node has
none_left : (number : ℕ) (rest : List ℕ) (later : List (List Change)) → AllByRecursion IsGroup later → HasNoGroup number rest → rest ≡ groups_text number later → rest ≡ []
none_left number rest [] are none is = is
none_left number rest (x ∷ later) are none is = absurd (none x (groups_text (suc number) later) are.0 is)

module _ {D : Type 0} (disk_says : DiskSays D) (node : Node D) (c : Chronicle) (up : Upstream) (b : IsBehind disk_says node c up) (earlier : List (List ℕ)) (before : IsEarlier earlier up.texts) (buffer : List ℕ)
    (answers : Answers earlier (generation_of_journal node.link.journal) (node.at + length node.rest) Next buffer) (generations : List (List (List Change))) (of : IsJournalOf up.texts generations) where
  abbrev n : IsNode disk_says node c
  n = b.is_node

  abbrev g : ℕ
  g = length c.closed

  abbrev text : List ℕ
  text = text_of up.texts g

  generation_is : generation_of_journal node.link.journal ≡ g
  generation_is = let stands = n.stands.generation in omega (arith, stands, its_generation disk_says node c n)

  -- there is a later one
  closed : g + 1 < length earlier
  closed = omega (arith, answers.1, generation_is)

  newest_is : length earlier ≡ before.newest + 1
  newest_is =
      omega (arith, ap length before.is, length-append (take before.newest up.texts) (take before.bytes (text_of up.texts before.newest) ∷ []), length-take before.newest up.texts, before.there)

  same : text_of earlier g ≡ text
  same =
      ap (λ (texts : List (List ℕ)). text_of texts g) before.is
      ∙ whole_before up.texts before.newest g (take before.bytes (text_of up.texts before.newest)) (omega (arith, closed, newest_is)) before.there

  front : IsFrontOf c up.texts
  front = front_of c up.texts (all_earlier disk_says node c up b)

  at_is : node.at ≡ length (groups_text 1 c.newest)
  at_is = n.at

  all_there : length text ≤ node.at + length node.rest
  all_there = omega (arith, ap (λ (k : ℕ). length (text_of earlier k)) generation_is, answers.0, ap length same)

  -- the text is what the node has, and its rest
  parts : text ≡ groups_text 1 c.newest ++ node.rest
  parts =
      let has = b.rest in
      let short : length (drop node.at text) ≤ length node.rest = omega (arith, length-drop node.at text, all_there) in
      let behind : drop node.at text ≡ node.rest = sym (take_all (length node.rest) (drop node.at text) short) ∙ has.is in
      let first : take node.at text ≡ groups_text 1 c.newest = ap (λ (k : ℕ). take k text) at_is ∙ sym front.newest in
      sym (take-append-drop node.at text) ∙ (λ i. first i ++ behind i)

  are_newest : AllByRecursion IsGroup c.newest
  are_newest = last_of (AllByRecursion IsGroup) c.closed c.newest n.are_groups

  groups_are : groups_text 1 (get_or generations g []) ≡ groups_text 1 c.newest ++ node.rest
  groups_are = sym (groups_at generations g) ∙ ap (λ (texts : List (List ℕ)). text_of texts g) (sym of.0) ∙ parts

  -- so it keeps no rest
  pub no_rest : node.rest ≡ []
  no_rest =
      let on = firsts.begins 1 c.newest (get_or generations g []) node.rest are_newest (are_groups_at generations g of.1) groups_are in
      let all = are_groups_at generations g of.1 in
      none_left node.number node.rest on.later (firsts.last_of IsGroup c.newest on.later (subst (AllByRecursion IsGroup) on.is all)) b.no_group
      (on.text ∙ ap (λ (k : ℕ). groups_text k on.later) (sym n.number))

  -- and the beginning of the next generation is upstream
  pub begun_earlier : IsEarlier (texts_of (with_beginning c)) up.texts
  begun_earlier =
      let whole : text ≡ groups_text 1 c.newest = parts ∙ ap (λ (l : List ℕ). groups_text 1 c.newest ++ l) no_rest ∙ append-nil (groups_text 1 c.newest) in
      let more : take (g + 1) up.texts ≡ take g up.texts ++ text ∷ [] = take_more up.texts g [] (omega (arith, closed, newest_is, before.there)) in
      record {
        newest = g + 1;
        bytes = 0;
        there = omega (arith, closed, newest_is, before.there);
        is =
            texts_are (with_beginning c)
            ∙ ap (λ (l : List (List ℕ)). l ++ [] ∷ []) (texts_are c ∙ (λ i. front.closed i ++ sym whole i ∷ []) ∙ sym more);
      }
