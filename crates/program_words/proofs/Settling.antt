-- The rows of a walk, and what settling does to them.
use Rattle.std.proofs.Common.{◌≡◌, ◌∙◌, ◌⊎◌, inl, inr, false, refl, sym, ap, subst, List, [], ◌∷◌, ◌++◌, Option, Some, None, codes}
use Rattle.clap.specs.Walk.{Row, Waiting, settled_rows, with_values, without}
use Rattle.clap.specs.Walk as walk
use Rattle.clap.specs.Faults.{settle_fault}
use Rattle.clap.specs.declared.builder.value_parser.Reading.TheVariants.{AsWritten}
use Rattle.clap.specs.declared.error.kind.ErrorKind.TheVariants as kind
use Rattle.clap.specs.declared.parser.matches.ValueSource.TheVariants.{CommandLine}
use Rattle.program_words.specs.Words.{Said, Setting, asked_by, seed_given, count_given}
use Rattle.program_words.specs.Words as spec
use Rattle.program_words.proofs.Asking.{Text, joined, no_count, no_seed, opt_list}
use Rattle.program_words.proofs.Lexing.{IsFault, held_with, is_fault, option_name, rules}
use Rattle.program_words.proofs.RowLemmas.{elsewhere, fresh, further, no_row, row_at, some_row, without_none}
use Rattle.program_words.proofs.Steps.{Place, first, id_at, later, waiting_at}

-- the row of an id that has these values from the words
abbrev pub row_for : Text → List Text → Option Row
row_for id [] = None
row_for id (v ∷ vs) = Some (record { id = id; values = v ∷ vs; count = None; source = Some CommandLine; reading = AsWritten })

abbrev pub mode_words : List Text → List Text
mode_words [] = []
mode_words (mode ∷ names) = mode ∷ []

abbrev pub name_words : List Text → List Text
name_words [] = []
name_words (mode ∷ names) = names

-- the rows have this value of each option, and these plain words
pub record Holds (rows : List Row) (seed count : Option Text) (plain : List Text) : Type 0 where
  pub seed_row : row_at (codes "seed") rows ≡ row_for (codes "seed") (opt_list seed)
  pub count_row : row_at (codes "count") rows ≡ row_for (codes "count") (opt_list count)
  pub mode_row : row_at (codes "MODE") rows ≡ row_for (codes "MODE") (mode_words plain)
  pub name_row : row_at (codes "NAME") rows ≡ row_for (codes "NAME") (name_words plain)

pub holds_nothing : Holds [] None None []
holds_nothing = record { seed_row = refl; count_row = refl; mode_row = refl; name_row = refl }

-- what is pending between two words, but for an option that waits for its value
pub data Pending : Type 0 where
  none : Pending
  given : Setting → Text → Pending
  word : Text → Pending

-- where a plain word goes behind these
abbrev pub place_of : List Text → Place
place_of [] = first
place_of (mode ∷ names) = later

abbrev pub pending_as : List Text → Pending → Option (Text × List Text)
pending_as plain none = None
pending_as plain (given s text) = Some (option_name s, text ∷ [])
pending_as plain (word text) = Some (id_at (place_of plain), text ∷ [])

abbrev pub waiting_as : List Text → Pending → Waiting
waiting_as plain (word text) = waiting_at (place_of plain)
waiting_as plain _ = walk.idle

abbrev pub said_settled : Option Text → Option Text → List Text → Said
said_settled seed count plain = record { seeds = opt_list seed; counts = opt_list count; plain = plain }

abbrev pub said_so : Option Text → Option Text → List Text → Pending → Said
said_so seed count plain none = said_settled seed count plain
said_so seed count plain (given spec.seed_option text) = record { seeds = opt_list seed ++ text ∷ []; counts = opt_list count; plain = plain }
said_so seed count plain (given spec.count_option text) = record { seeds = opt_list seed; counts = opt_list count ++ text ∷ []; plain = plain }
said_so seed count plain (word text) = record { seeds = opt_list seed; counts = opt_list count; plain = plain ++ text ∷ [] }

-- what is pending is settled
pub record Settles (rows : List Row) (pending : Option (Text × List Text)) (said : Said) : Type 0 where
  pub seed : Option Text
  pub count : Option Text
  pub plain : List Text
  pub no_fault : settle_fault rules false (held_with rows pending) ≡ []
  pub holds : Holds (settled_rows rules pending rows) seed count plain
  pub same : said_settled seed count plain ≡ said

-- or it is refused, and nothing is asked, whatever is said behind it
pub record Refuses (rows : List Row) (pending : Option (Text × List Text)) (said : Said) : Type 0 where
  pub fault : IsFault (settle_fault rules false (held_with rows pending))
  pub asks : (more : Said) → asked_by (joined said more) ≡ None

-- an option with its first value
first_value : (id : Text) (text : Text) (rows : List Row) → row_at id rows ≡ None → with_values id AsWritten CommandLine (text ∷ []) (without id rows) ≡ with_values id AsWritten CommandLine (text ∷ []) rows
first_value id text rows missing = ap (λ (rs : List Row). with_values id AsWritten CommandLine (text ∷ []) rs) (without_none id rows missing)

module _ (rows : List Row) (seed count : Option Text) (plain : List Text) (holds : Holds rows seed count plain) (text : Text) where
  -- the values of one id are as they were, those of the others stay
  gives_seed : seed ≡ None → Holds (settled_rows rules (Some (codes "seed", text ∷ [])) rows) (Some text) count plain
  gives_seed missing =
      let gone : row_at (codes "seed") rows ≡ None = holds.seed_row ∙ ap (λ (o : Option Text). row_for (codes "seed") (opt_list o)) missing in
      let there : Holds (with_values (codes "seed") AsWritten CommandLine (text ∷ []) rows) (Some text) count plain = record {
        seed_row = fresh (codes "seed") AsWritten CommandLine (text ∷ []) rows refl gone;
        count_row = elsewhere (codes "seed") AsWritten CommandLine (text ∷ []) (codes "count") rows refl ∙ holds.count_row;
        mode_row = elsewhere (codes "seed") AsWritten CommandLine (text ∷ []) (codes "MODE") rows refl ∙ holds.mode_row;
        name_row = elsewhere (codes "seed") AsWritten CommandLine (text ∷ []) (codes "NAME") rows refl ∙ holds.name_row;
      } in
      subst (λ rs. Holds rs (Some text) count plain) (sym (first_value (codes "seed") text rows gone)) there

  gives_count : count ≡ None → Holds (settled_rows rules (Some (codes "count", text ∷ [])) rows) seed (Some text) plain
  gives_count missing =
      let gone : row_at (codes "count") rows ≡ None = holds.count_row ∙ ap (λ (o : Option Text). row_for (codes "count") (opt_list o)) missing in
      let there : Holds (with_values (codes "count") AsWritten CommandLine (text ∷ []) rows) seed (Some text) plain = record {
        seed_row = elsewhere (codes "count") AsWritten CommandLine (text ∷ []) (codes "seed") rows refl ∙ holds.seed_row;
        count_row = fresh (codes "count") AsWritten CommandLine (text ∷ []) rows refl gone;
        mode_row = elsewhere (codes "count") AsWritten CommandLine (text ∷ []) (codes "MODE") rows refl ∙ holds.mode_row;
        name_row = elsewhere (codes "count") AsWritten CommandLine (text ∷ []) (codes "NAME") rows refl ∙ holds.name_row;
      } in
      subst (λ rs. Holds rs seed (Some text) plain) (sym (first_value (codes "count") text rows gone)) there

  no_seed_fault : seed ≡ None → settle_fault rules false (held_with rows (Some (codes "seed", text ∷ []))) ≡ []
  no_seed_fault missing = rw (no_row (codes "seed") rows (holds.seed_row ∙ ap (λ (o : Option Text). row_for (codes "seed") (opt_list o)) missing)) refl

  no_count_fault : count ≡ None → settle_fault rules false (held_with rows (Some (codes "count", text ∷ []))) ≡ []
  no_count_fault missing = rw (no_row (codes "count") rows (holds.count_row ∙ ap (λ (o : Option Text). row_for (codes "count") (opt_list o)) missing)) refl

module _ (rows : List Row) (count : Option Text) (plain : List Text) (text : Text) where
  settle_seed : (seed : Option Text) → Holds rows seed count plain
      → Settles rows (Some (codes "seed", text ∷ [])) (said_so seed count plain (given spec.seed_option text))
      ⊎ Refuses rows (Some (codes "seed", text ∷ [])) (said_so seed count plain (given spec.seed_option text))
  settle_seed None holds = inl (record {
    seed = Some text;
    count = count;
    plain = plain;
    no_fault = no_seed_fault rows None count plain holds text refl;
    holds = gives_seed rows None count plain holds text refl;
    same = refl;
  })
  settle_seed (Some other) holds = inr (record {
    fault = is_fault _ kind.ArgumentConflict [] (rw (some_row (codes "seed") rows _ holds.seed_row) refl);
    asks = λ more. no_seed (count_given (opt_list count ++ more.counts)) (plain ++ more.plain);
  })

module _ (rows : List Row) (seed : Option Text) (plain : List Text) (text : Text) where
  settle_count : (count : Option Text) → Holds rows seed count plain
      → Settles rows (Some (codes "count", text ∷ [])) (said_so seed count plain (given spec.count_option text))
      ⊎ Refuses rows (Some (codes "count", text ∷ [])) (said_so seed count plain (given spec.count_option text))
  settle_count None holds = inl (record {
    seed = seed;
    count = Some text;
    plain = plain;
    no_fault = no_count_fault rows seed None plain holds text refl;
    holds = gives_count rows seed None plain holds text refl;
    same = refl;
  })
  settle_count (Some other) holds = inr (record {
    fault = is_fault _ kind.ArgumentConflict [] (rw (some_row (codes "count") rows _ holds.count_row) refl);
    asks = λ more. no_count (seed_given (opt_list seed ++ more.seeds)) (plain ++ more.plain);
  })

-- the name behind the others
next_name : (rows : List Row) (text : Text) (names : List Text) → row_at (codes "NAME") rows ≡ row_for (codes "NAME") names
    → row_at (codes "NAME") (with_values (codes "NAME") AsWritten CommandLine (text ∷ []) rows) ≡ row_for (codes "NAME") (names ++ text ∷ [])
next_name rows text [] row = fresh (codes "NAME") AsWritten CommandLine (text ∷ []) rows refl row
next_name rows text (name ∷ names) row = further (codes "NAME") AsWritten CommandLine (text ∷ []) rows _ row

module _ (rows : List Row) (seed count : Option Text) (text : Text) where
  settle_word : (plain : List Text) → Holds rows seed count plain → Settles rows (pending_as plain (word text)) (said_so seed count plain (word text))
  settle_word [] holds = record {
    seed = seed;
    count = count;
    plain = text ∷ [];
    no_fault = rw (no_row (codes "MODE") rows holds.mode_row) refl;
    holds = subst (λ rs. Holds rs seed count (text ∷ [])) (sym (first_value (codes "MODE") text rows holds.mode_row)) (record {
      seed_row = elsewhere (codes "MODE") AsWritten CommandLine (text ∷ []) (codes "seed") rows refl ∙ holds.seed_row;
      count_row = elsewhere (codes "MODE") AsWritten CommandLine (text ∷ []) (codes "count") rows refl ∙ holds.count_row;
      mode_row = fresh (codes "MODE") AsWritten CommandLine (text ∷ []) rows refl holds.mode_row;
      name_row = elsewhere (codes "MODE") AsWritten CommandLine (text ∷ []) (codes "NAME") rows refl ∙ holds.name_row;
    });
    same = refl;
  }
  settle_word (mode ∷ names) holds = record {
    seed = seed;
    count = count;
    plain = mode ∷ names ++ text ∷ [];
    no_fault = refl;
    holds = record {
      seed_row = elsewhere (codes "NAME") AsWritten CommandLine (text ∷ []) (codes "seed") rows refl ∙ holds.seed_row;
      count_row = elsewhere (codes "NAME") AsWritten CommandLine (text ∷ []) (codes "count") rows refl ∙ holds.count_row;
      mode_row = elsewhere (codes "NAME") AsWritten CommandLine (text ∷ []) (codes "MODE") rows refl ∙ holds.mode_row;
      name_row = next_name rows text names holds.name_row;
    };
    same = refl;
  }

pub settle : (rows : List Row) (seed count : Option Text) (plain : List Text) (p : Pending) → Holds rows seed count plain
    → Settles rows (pending_as plain p) (said_so seed count plain p) ⊎ Refuses rows (pending_as plain p) (said_so seed count plain p)
settle rows seed count plain none holds = inl (record { seed = seed; count = count; plain = plain; no_fault = refl; holds = holds; same = refl })
settle rows seed count plain (given spec.seed_option text) holds = settle_seed rows count plain text seed holds
settle rows seed count plain (given spec.count_option text) holds = settle_count rows seed plain text count holds
settle rows seed count plain (word text) holds = inl (settle_word rows seed count text plain holds)
