-- What links in memory hold, how often they have failed, and which of their calls fail.
-- Which faults a link in memory plays is this project's own choice.
use Rattle.std.specs.Prelude.{◌≡◌, ℕ, List, [], ◌∷◌, ◌++◌, length, take, min}
use Rattle.std.specs.List.{concat}
use Rattle.outside_api.specs.Link.{text_of, IsEarlier}
use Rattle.memory_world.specs.Failing.{Calls, calls_of}
use Rattle.memory_world.specs.declared.link.MemoryLink.{MemoryLink}

-- the journal of these texts: where there is none, its generation 0 has no byte yet
abbrev pub journal_of : List (List ℕ) → List (List ℕ)
journal_of [] = [] ∷ []
journal_of (text ∷ later) = text ∷ later

-- the journal when so many bytes of this generation were committed, and none of a later one
abbrev pub journal_then : List (List ℕ) → ℕ → ℕ → List (List ℕ)
journal_then texts newest bytes = take newest texts ++ take bytes (text_of texts newest) ∷ []

-- the journal when it had so many committed bytes in all, or as it is where it never had as many
pub record IsJournalAt (count : ℕ) (earlier now : List (List ℕ)) : Type 0 where
  pub before : IsEarlier earlier now
  pub bytes : length (concat earlier) ≡ min count (length (concat now))

abbrev pub link_journal : MemoryLink → List (List ℕ)
link_journal link = journal_of link.texts.items

abbrev pub link_faults : MemoryLink → ℕ
link_faults link = link.calls.faults

abbrev pub link_calls : MemoryLink → Calls
link_calls link = calls_of link.calls
