-- What the texts of file arguments are read as.
use Rattle.std.proofs.Common.{◌≡◌, ℕ, zero, suc, Bool, true, false, List, [], ◌∷◌, length, take, Option, Some, None, Result, Ok, Err, refl, ap, ◌∙◌, arith}
use Rattle.std.specs.Prelude.{◌&&◌, ◌||◌, not, nat_lt, codes, if◌then◌else◌}
use Rattle.std.proofs.lemmas.Bool.Decides.{nat_tests}
use Rattle.std.specs.List.{position, list_any}
use Rattle.std.proofs.lemmas.Bool.{and_parts}
use Rattle.depot_rows.specs.depot_path.Answers.{◌>>=◌, on_err}
use Rattle.depot_rows.specs.depot_path.Bytes.{is_among}
use Rattle.depot_rows.specs.depot_path.Path.{begins_with_slashes, has_empty_component, has_dot_component, is_text, first_fault, unless}
use Rattle.depot_rows.specs.depot_path.Pattern.{pattern_of, has_bad_percent, pieces}
use Rattle.depot_rows.specs.depot_path.Revision.{file_spec_of, marked, spec_of}
use Rattle.depot_rows.specs.depot_path.declared.fault.PathFault.{PathFault}
use Rattle.depot_rows.specs.depot_path.declared.fault.PathFault.TheVariants.{NoSlashes, EmptyPart, BadEscape, BadByte, TooLong, Dots, BadRange}
use Rattle.depot_rows.specs.depot_path.declared.file_spec.FileSpec.{FileSpec}
use Rattle.depot_rows.specs.depot_path.declared.piece.Piece.{Piece}
use Rattle.depot_rows.specs.depot_path.declared.revision.Wanted.{Wanted}
use Rattle.depot_rows.specs.depot_path.declared.revision.Wanted.TheVariants.{Head, One, Range}
use Rattle.depot_rows.specs.depot_model.WellFormed.{answer_one_another}
use Rattle.depot_rows.specs.depot_model.declared.command.Command.{Command}
use Rattle.depot_rows.specs.depot_model.declared.command.FileArgument.{FileArgument}
use Rattle.depot_rows.specs.depot_model.declared.command.PatternArgument.{PatternArgument}
use Rattle.depot_rows.specs.depot_model.declared.request.WordFault.{WordFault}
use Rattle.depot_rows.specs.depot_model.declared.request.WordFault.TheVariants.{BadUsage, BadPath, BadRevision}
use Rattle.command_words.specs.Arguments as spec
use Rattle.command_words.specs.Fields as fields
use Rattle.command_words.specs.Options.{Given, invocation, is_option}
use Rattle.grammar_laws.specs.CommandText.{texts, Spells, AllSpell, SomeSpell, BothSpell, asks_head, asks_no_range, asks_any, asks_path, asks_folder}
use Rattle.grammar_laws.proofs.Given.{bound}
use Rattle.grammar_laws.proofs.OptionWords.{is_plain}

-- ---- the text of a file argument isn't taken for an option

no_pattern : (text : List ℕ) (pattern : List Piece) → begins_with_slashes text ≡ false → pattern_of false text ≡ Ok pattern → ⊥
no_pattern text pattern bare = go (nat_lt 1024 (length text)) (begins_with_slashes text)
    ((has_empty_component text, EmptyPart) ∷ (has_bad_percent false 0 text, BadEscape) ∷ (list_any (is_among (codes "@#")) text || not (is_text text), BadByte) ∷ (has_dot_component text, Dots) ∷ []) bare
  where
    go : (long slashes : Bool) (others : List (Bool × PathFault)) → slashes ≡ false → unless (first_fault ((long, TooLong) ∷ (not slashes, NoSlashes) ∷ others)) (pieces false 0 text) ≡ Ok pattern → ⊥
    go true slashes others e h = cc
    go false true others e h = cc
    go false false others e h = cc

no_spec : (text : List ℕ) (wanted : Result Wanted PathFault) (given : FileSpec) → begins_with_slashes text ≡ false → spec_of (pattern_of false text) wanted ≡ Ok given → ⊥
no_spec text wanted given bare = go (pattern_of false text) (λ p. no_pattern text p bare)
  where
    go : (r : Result (List Piece) PathFault) → ((p : List Piece) → r ≡ Ok p → ⊥) → spec_of r wanted ≡ Ok given → ⊥
    go (Ok p) none h = none p refl
    go (Err fault) none h = cc

dash_is : (b : ℕ) (text : List ℕ) → is_option (b ∷ text) ≡ true → b ≡ 0x2D
dash_is b text is = grind (arith, nat_tests)

bare_cut : (text : List ℕ) (n : ℕ) → is_option text ≡ true → begins_with_slashes (take n text) ≡ false
bare_cut [] n is = absurd cc
bare_cut (b ∷ text) zero is = refl
bare_cut (b ∷ text) (suc n) is =
    let dash : b ≡ 0x2D = dash_is b text is in
    ap (λ (x : ℕ). begins_with_slashes (x ∷ take n text)) dash

bare : (text : List ℕ) → is_option text ≡ true → begins_with_slashes text ≡ false
bare [] is = absurd cc
bare (b ∷ text) is =
    let dash : b ≡ 0x2D = dash_is b text is in
    ap (λ (x : ℕ). begins_with_slashes (x ∷ text)) dash

no_dash : (text : List ℕ) (given : FileSpec) → file_spec_of text ≡ Ok given → is_option text ≡ true → ⊥
no_dash text given e is = go (position (is_among (codes "#@")) text) e
  where
    go : (mark : Option ℕ) → marked text mark ≡ Ok given → ⊥
    go None h = no_spec text (Ok Head) given (bare text is) h
    go (Some n) h = no_spec (take n text) _ given (bare_cut text n is) h

pub file_plain : (takes : FileSpec → Bool) (argument : FileArgument) → Spells takes argument → not (is_option argument.text) ≡ true
file_plain takes argument s = go (is_option argument.text) refl
  where
    go : (b : Bool) → is_option argument.text ≡ b → not (is_option argument.text) ≡ true
    go true e = absurd (no_dash argument.text argument.spec s.spells e)
    go false e = ap not e

-- ---- what a command takes

-- no range where none is taken, no revision where none is, and such a pattern
fit_read : (command text : List ℕ) (takes : _) (given : FileSpec) → (spec.is_range given.wanted && not (spec.takes_ranges takes)) ≡ false → (spec.has_revision given.wanted && not (spec.takes_revision takes)) ≡ false
    → spec.is_pattern_taken takes given.pattern ≡ true → spec.fit command takes text given ≡ Ok given
fit_read command text takes given range revision pattern =
    ap (λ (b : Bool). if b then Err (BadRevision text BadRange) else
    (if spec.has_revision given.wanted && not (spec.takes_revision takes) then Err (BadUsage command) else spec.taken command takes given)) range
    ∙ (ap (λ (b : Bool). if b then Err (BadUsage command) else spec.taken command takes given) revision
    ∙ ap (λ (b : Bool). if b then Ok given else Err (BadUsage command)) pattern)

file_read : (command : List ℕ) (takes : _) (argument : FileArgument) → file_spec_of argument.text ≡ Ok argument.spec → spec.fit command takes argument.text argument.spec ≡ Ok argument.spec
    → spec.file command takes argument.text ≡ Ok argument
file_read command takes argument spells fits =
    bound (spec.file_spec argument.text) argument.spec _ (Ok argument) (ap (on_err (spec.spec_fault argument.text)) spells)
    (bound (spec.fit command takes argument.text argument.spec) argument.spec _ (Ok argument) fits refl)

-- no revision asks for no range either
no_range : (wanted : Wanted) → not (spec.has_revision wanted) ≡ true → (b : Bool) → (spec.is_range wanted && b) ≡ false
no_range Head e b = refl
no_range (One revision) e b = absurd cc
no_range (Range first last) e b = absurd cc

no_revision : (wanted : Wanted) → not (spec.has_revision wanted) ≡ true → (b : Bool) → (spec.has_revision wanted && b) ≡ false
no_revision Head e b = refl
no_revision (One revision) e b = absurd cc
no_revision (Range first last) e b = absurd cc

never : (b : Bool) → (b && false) ≡ false
never true = refl
never false = refl

left_false : (a b : Bool) → not a ≡ true → (a && b) ≡ false
left_false true b e = absurd cc
left_false false b e = refl

module _ (command : List ℕ) (takes : _) (test : FileSpec → Bool) (fits : (text : List ℕ) (given : FileSpec) → test given ≡ true → spec.fit command takes text given ≡ Ok given) where
  one_read : (argument : FileArgument) → Spells test argument → spec.file command takes argument.text ≡ Ok argument
  one_read argument s = file_read command takes argument s.spells (fits argument.text argument.spec s.fits)

  pub files_read : (files : List FileArgument) → AllSpell test files → spec.files command takes (texts files) ≡ Ok files
  files_read [] all = refl
  files_read (argument ∷ files) all =
      bound (spec.file command takes argument.text) argument _ (Ok (argument ∷ files)) (one_read argument all.0)
      (bound (spec.files command takes (texts files)) files _ (Ok (argument ∷ files)) (files_read files all.1) refl)

  pub some_read : (files : List FileArgument) → SomeSpell test files → spec.some_files command takes (texts files) ≡ Ok files
  some_read [] some = absurd some
  some_read (argument ∷ files) some = files_read (argument ∷ files) some

  target_read : (from : FileArgument) (to : PatternArgument) → pattern_of false to.text ≡ Ok to.pattern → answer_one_another from to ≡ true → spec.target command from to.text ≡ Ok to
  target_read from to spells answers =
      bound (spec.target_pattern to.text) to.pattern _ (Ok to) (ap (on_err (BadPath to.text)) spells)
      (ap (λ (b : Bool). if b then Ok to else Err (BadUsage command)) answers)

  one_target : (from : FileArgument) (to : PatternArgument) → pattern_of false to.text ≡ Ok to.pattern → answer_one_another from to ≡ true
      → spec.exactly_one command (spec.target command from) (to.text ∷ []) ≡ Ok to
  one_target from to spells answers =
      ap (λ r. r >>= (λ v. Ok (Some v)) >>= spec.wanted command) (target_read from to spells answers)

  pub both_read : (from : FileArgument) (to : PatternArgument) → BothSpell test from to → answer_one_another from to ≡ true
      → spec.both_ends command takes (from.text ∷ to.text ∷ []) ≡ Ok (record { from = from; to = to })
  both_read from to s answers =
      bound (spec.file command takes from.text) from _ _ (one_read from s.0)
      (bound (spec.exactly_one command (spec.target command from) (to.text ∷ [])) to _ _ (one_target from to s.1 answers) refl)

pub all_plain : (takes : FileSpec → Bool) (files : List FileArgument) → AllSpell takes files → is_plain (texts files) ≡ true
all_plain takes [] all = refl
all_plain takes (argument ∷ files) all = file_plain takes argument all.0

pub some_plain : (takes : FileSpec → Bool) (files : List FileArgument) → SomeSpell takes files → is_plain (texts files) ≡ true
some_plain takes [] some = absurd some
some_plain takes (argument ∷ files) some = file_plain takes argument some.0

-- ---- the files that a command takes

module _ (command : List ℕ) (takes : _) where
  fits_head : ((pattern : List Piece) → spec.is_pattern_taken takes pattern ≡ true) → (text : List ℕ) (given : FileSpec) → asks_head given ≡ true → spec.fit command takes text given ≡ Ok given
  fits_head any text given e = fit_read command text takes given (no_range given.wanted e _) (no_revision given.wanted e _) (any given.pattern)

  fits_single : spec.takes_revision takes ≡ true → ((pattern : List Piece) → spec.is_pattern_taken takes pattern ≡ true) → (text : List ℕ) (given : FileSpec) → asks_no_range given ≡ true
      → spec.fit command takes text given ≡ Ok given
  fits_single revision any text given e =
      fit_read command text takes given (left_false (spec.is_range given.wanted) _ e) (ap (λ (b : Bool). spec.has_revision given.wanted && not b) revision ∙ never (spec.has_revision given.wanted)) (any given.pattern)

  fits_any : spec.takes_ranges takes ≡ true → spec.takes_revision takes ≡ true → ((pattern : List Piece) → spec.is_pattern_taken takes pattern ≡ true) → (text : List ℕ) (given : FileSpec) → asks_any given ≡ true
      → spec.fit command takes text given ≡ Ok given
  fits_any ranges revision any text given e =
      fit_read command text takes given (ap (λ (b : Bool). spec.is_range given.wanted && not b) ranges ∙ never (spec.is_range given.wanted))
      (ap (λ (b : Bool). spec.has_revision given.wanted && not b) revision ∙ never (spec.has_revision given.wanted)) (any given.pattern)

  fits_where : (test : List Piece → Bool) → ((pattern : List Piece) → spec.is_pattern_taken takes pattern ≡ test pattern) → (text : List ℕ) (given : FileSpec) → (asks_head given && test given.pattern) ≡ true
      → spec.fit command takes text given ≡ Ok given
  fits_where test same text given e =
      let head = (and_parts (asks_head given) (test given.pattern) e).0 in
      fit_read command text takes given (no_range given.wanted head _) (no_revision given.wanted head _) (same given.pattern ∙ (and_parts (asks_head given) (test given.pattern) e).1)

  module _ (options : List Given) (files : List FileArgument) (f : List FileArgument → Result Command WordFault) (y : Result Command WordFault) where
    some_then : (test : FileSpec → Bool) → ((text : List ℕ) (given : FileSpec) → test given ≡ true → spec.fit command takes text given ≡ Ok given) → SomeSpell test files → f files ≡ y
        → fields.some_files takes (invocation command options (texts files)) >>= f ≡ y
    some_then test fits s e = bound (spec.some_files command takes (texts files)) files f y (some_read command takes test fits files s) e

    all_then : (test : FileSpec → Bool) → ((text : List ℕ) (given : FileSpec) → test given ≡ true → spec.fit command takes text given ≡ Ok given) → AllSpell test files → f files ≡ y
        → fields.files takes (invocation command options (texts files)) >>= f ≡ y
    all_then test fits s e = bound (spec.files command takes (texts files)) files f y (files_read command takes test fits files s) e

    pub some_heads : SomeSpell asks_head files → ((pattern : List Piece) → spec.is_pattern_taken takes pattern ≡ true) → f files ≡ y → fields.some_files takes (invocation command options (texts files)) >>= f ≡ y
    some_heads s any e = some_then asks_head (fits_head any) s e

    pub all_heads : AllSpell asks_head files → ((pattern : List Piece) → spec.is_pattern_taken takes pattern ≡ true) → f files ≡ y → fields.files takes (invocation command options (texts files)) >>= f ≡ y
    all_heads s any e = all_then asks_head (fits_head any) s e

    pub some_single : SomeSpell asks_no_range files → spec.takes_revision takes ≡ true → ((pattern : List Piece) → spec.is_pattern_taken takes pattern ≡ true) → f files ≡ y
        → fields.some_files takes (invocation command options (texts files)) >>= f ≡ y
    some_single s revision any e = some_then asks_no_range (fits_single revision any) s e

    pub all_single : AllSpell asks_no_range files → spec.takes_revision takes ≡ true → ((pattern : List Piece) → spec.is_pattern_taken takes pattern ≡ true) → f files ≡ y
        → fields.files takes (invocation command options (texts files)) >>= f ≡ y
    all_single s revision any e = all_then asks_no_range (fits_single revision any) s e

    pub all_any : AllSpell asks_any files → spec.takes_ranges takes ≡ true → spec.takes_revision takes ≡ true → ((pattern : List Piece) → spec.is_pattern_taken takes pattern ≡ true) → f files ≡ y
        → fields.files takes (invocation command options (texts files)) >>= f ≡ y
    all_any s ranges revision any e = all_then asks_any (fits_any ranges revision any) s e

    pub some_paths : SomeSpell asks_path files → ((pattern : List Piece) → spec.is_pattern_taken takes pattern ≡ spec.spells_path pattern) → f files ≡ y
        → fields.some_files takes (invocation command options (texts files)) >>= f ≡ y
    some_paths s same e = some_then asks_path (fits_where spec.spells_path same) s e

    pub some_folders : SomeSpell asks_folder files → ((pattern : List Piece) → spec.is_pattern_taken takes pattern ≡ not (list_any spec.is_dots pattern)) → f files ≡ y
        → fields.some_files takes (invocation command options (texts files)) >>= f ≡ y
    some_folders s same e = some_then asks_folder (fits_where (λ pattern. not (list_any spec.is_dots pattern)) same) s e

  module _ (options : List Given) (from : FileArgument) (to : PatternArgument) where
    pub both_heads : BothSpell asks_head from to → answer_one_another from to ≡ true → ((pattern : List Piece) → spec.is_pattern_taken takes pattern ≡ true)
        → fields.both_ends takes (invocation command options (from.text ∷ to.text ∷ [])) ≡ Ok (record { from = from; to = to })
    both_heads s answers any = both_read command takes asks_head (fits_head any) from to s answers

    pub both_any : BothSpell asks_any from to → answer_one_another from to ≡ true → spec.takes_ranges takes ≡ true → spec.takes_revision takes ≡ true → ((pattern : List Piece) → spec.is_pattern_taken takes pattern ≡ true)
        → fields.both_ends takes (invocation command options (from.text ∷ to.text ∷ [])) ≡ Ok (record { from = from; to = to })
    both_any s answers ranges revision any = both_read command takes asks_any (fits_any ranges revision any) from to s answers
