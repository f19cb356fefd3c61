-- What `clap` makes of the words, and what they ask.
use Rattle.std.proofs.Common.{◌≡◌, ◌∙◌, ◌⊎◌, inl, inr, ℕ, Bool, true, false, refl, sym, ap, ap₂, subst, List, [], ◌∷◌, ◌++◌, append-nil, append_assoc, map, unwrap_or, Option, Some, None, codes}
use Rattle.std.specs.Prelude.{fold, option_and_then, option_map, IfNone, IfSome}
use Rattle.clap.specs.Walk.{Held, Row, Waiting, Walk, finished, rows_of, settled, settled_rows, walked, nothing_held}
use Rattle.clap.specs.Walk as walk
use Rattle.clap.specs.Kinds.{IsAmong, Kinds, or_else}
use Rattle.clap.specs.Faults.{check_fault, defaults_fault, fault_of, is_simple_and_free, settle_fault, turn_fault, walk_fault, word_fault}
use Rattle.clap.specs.Simple.{App, built, is_simple, matches_of}
use Rattle.clap.specs.Matches.{first_value, matched_of, raw_values}
use Rattle.clap.specs.declared.parser.matches.Found.{Found}
use Rattle.clap.specs.declared.error.kind.ErrorKind.{ErrorKind}
use Rattle.clap.proofs.WalkLemmas.{first_value-rows, raw_values-rows}
use Rattle.std.specs.Borrow.{Bor}
use Rattle.clap.proofs.FaultLemmas.{leaf_fault}
use Rattle.clap.specs.declared.error.kind.ErrorKind.TheVariants as kind
use Rattle.depot_path.specs.Name.{begins_with_dash}
use Rattle.program_words.specs.Commands.{words_app}
use Rattle.program_words.specs.Rows.{job_by_texts, job_in}
use Rattle.program_words.specs.Words.{Coming, Job, Said, Saying, Setting, asked, asked_by, count_given, coming_after, job_of, job_with, seed_given, words_of, said_from, saying, with_saying}
use Rattle.program_words.specs.Words as spec
use Rattle.program_words.specs.declared.mode.Mode.{Mode}
use Rattle.program_words.proofs.Asking.{Text, asks_none, asks_on, asks_with, joined, no_count, no_plain, no_seed, no_value, opt_list}
use Rattle.program_words.proofs.Ends.{Agree, ended, ends_agree}
use Rattle.program_words.proofs.Lexing.{IsFault, IsPlainWord, Lexed, held_with, is_end, is_fault, is_option, is_plain, is_refused, is_valued, lexed, option_name, option_start, option_word, rules, top}
use Rattle.program_words.proofs.Settling.{Holds, Pending, Refuses, Settles, given, holds_nothing, none, pending_as, place_of, said_settled, said_so, settle, waiting_as, word}
use Rattle.program_words.proofs.Steps.{Place, Turns, valued_fault, valued_rows, after_word, at, ends_options, gives_value, id_at, later, opens_option, position_at, takes_behind, takes_value, takes_word, waiting_at, waits_for_none}

-- ---- a walk to its end

-- the fault of what comes behind the words
abbrev pub end_fault : Held → Kinds
end_fault end = or_else (settle_fault rules false end) (or_else (defaults_fault (settled rules end).rows rules) (check_fault top (finished rules end) false))

-- the fault of the words and of what comes behind them
abbrev pub level : Walk → List Text → Kinds
level w words = or_else (walk_fault top [] w words) (end_fault (fold (walked rules []) w words).held)

abbrev pub job_after : Walk → List Text → Option Job
job_after w words = job_in (finished rules (fold (walked rules []) w words).held)

-- what `clap` makes of the words from here on is what is asked
abbrev pub Agrees : Walk → List Text → Option Job → Type 0
Agrees w words asks = Agree (level w words) (job_after w words) asks

fault_agrees : (f : Kinds) (read asks : Option Job) → IsFault f → asks ≡ None → Agree f read asks
fault_agrees [] read asks fault nothing = absurd fault
fault_agrees (k ∷ ks) read asks fault nothing = nothing

fault_first : (a b : Kinds) → IsFault a → IsFault (or_else a b)
fault_first [] b fault = absurd fault
fault_first (k ∷ ks) b fault = fault

fault_second : (a b : Kinds) → IsFault b → IsFault (or_else a b)
fault_second [] b fault = fault
fault_second (k ∷ ks) b fault = tt

-- a word without a fault
goes_on : (w after : Walk) (text : Text) (words : List Text) (asks : Option Job) → Turns w text [] after → Agrees after words asks → Agrees w (text ∷ words) asks
unfolding walk_fault
goes_on w after text words asks turn agrees =
    let P : Kinds → Walk → Type 0 = λ f v. Agree (or_else (or_else f (walk_fault top [] v words)) (end_fault (fold (walked rules []) v words).held)) (job_after v words) asks in
    subst (λ f. P f (walked rules [] w text)) (sym turn.fault_is) (subst (λ v. P [] v) (sym turn.after_is) agrees)

-- a word with one
stops : (w : Walk) (text : Text) (words : List Text) (asks : Option Job) → IsFault (turn_fault top [] w text) → asks ≡ None → Agrees w (text ∷ words) asks
unfolding walk_fault
stops w text words asks fault nothing =
    fault_agrees (level w (text ∷ words)) (job_after w (text ∷ words)) asks (fault_first _ _ (fault_first _ _ fault)) nothing

fault_turns : (w after : Walk) (text : Text) (fault : Kinds) → Turns w text fault after → IsFault fault → IsFault (turn_fault top [] w text)
fault_turns w after text fault turn is = subst IsFault (sym turn.fault_is) is

-- ---- where the walk stands

-- options may come, an option waits for its value, or `--` has ended the options
pub data State : Type 0 where
  before : Pending → State
  waits : Setting → State
  behind : Pending → State

abbrev pub said_of : Option Text → Option Text → List Text → State → Said
said_of seed count plain (before p) = said_so seed count plain p
said_of seed count plain (waits s) = said_settled seed count plain
said_of seed count plain (behind p) = said_so seed count plain p

abbrev pub coming_of : State → Coming
coming_of (before p) = spec.anything
coming_of (waits s) = spec.its_value s
coming_of (behind p) = spec.words_alone

abbrev pub walk_at : List Row → Option Text → Option Text → List Text → State → Walk
walk_at rows seed count plain (before p) = at rows (pending_as plain p) (waiting_as plain p) (position_at (place_of (said_so seed count plain p).plain)) false
walk_at rows seed count plain (waits s) = at rows (Some (option_name s, [])) (walk.option (option_name s)) (position_at (place_of plain)) false
walk_at rows seed count plain (behind p) = at rows (pending_as plain p) (waiting_as plain p) (position_at (place_of (said_so seed count plain p).plain)) true

-- what is to be proved of words
abbrev pub Reads : List Text → Type 0
Reads words = (rows : List Row) (seed count : Option Text) (plain : List Text) (state : State) → Holds rows seed count plain
    → Agrees (walk_at rows seed count plain state) words (asks_with (said_of seed count plain state) (said_from (coming_of state) words))

-- ---- behind the last word

joined_nothing : (said : Said) → joined said (record { seeds = []; counts = []; plain = [] }) ≡ said
joined_nothing said = λ i. record { seeds = append-nil said.seeds i; counts = append-nil said.counts i; plain = append-nil said.plain i }

-- what is pending is settled, and then the rows end
settled_end : (rows : List Row) (pending : Option (Text × List Text)) (said : Said) → Settles rows pending said ⊎ Refuses rows pending said
    → Agree (end_fault (held_with rows pending)) (job_in (ended (settled_rows rules pending rows))) (asked_by said)
settled_end rows pending said (inl s) =
    let now : List Row = settled_rows rules pending rows in
    let P : Kinds → Said → Type 0 = λ f d. Agree (or_else f (or_else (defaults_fault now rules) (check_fault top (ended now) false))) (job_in (ended now)) (asked_by d) in
    subst (λ f. P f said) (sym s.no_fault) (subst (λ d. P [] d) s.same (ends_agree now s.seed s.count s.plain s.holds))
settled_end rows pending said (inr r) =
    fault_agrees (end_fault (held_with rows pending)) _ (asked_by said) (fault_first _ _ r.fault) (ap asked_by (sym (joined_nothing said)) ∙ r.asks (record { seeds = []; counts = []; plain = [] }))

awaited_fault : (rows : List Row) (s : Setting) → settle_fault rules false (held_with rows (Some (option_name s, []))) ≡ kind.InvalidValue ∷ []
awaited_fault rows spec.seed_option = refl
awaited_fault rows spec.count_option = refl

awaited_faults : (rows : List Row) (s : Setting) → IsFault (settle_fault rules false (held_with rows (Some (option_name s, []))))
awaited_faults rows s = is_fault _ kind.InvalidValue [] (awaited_fault rows s)

reads_end : Reads []
unfolding walk_fault
reads_end rows seed count plain (before p) holds =
    let P : Option Job → Type 0 = λ asks. Agree (end_fault (held_with rows (pending_as plain p))) (job_in (ended (settled_rows rules (pending_as plain p) rows))) asks in
    subst P (ap asked_by (sym (joined_nothing (said_so seed count plain p)))) (settled_end rows (pending_as plain p) (said_so seed count plain p) (settle rows seed count plain p holds))
reads_end rows seed count plain (behind p) holds =
    let P : Option Job → Type 0 = λ asks. Agree (end_fault (held_with rows (pending_as plain p))) (job_in (ended (settled_rows rules (pending_as plain p) rows))) asks in
    subst P (ap asked_by (sym (joined_nothing (said_so seed count plain p)))) (settled_end rows (pending_as plain p) (said_so seed count plain p) (settle rows seed count plain p holds))
reads_end rows seed count plain (waits s) holds =
    fault_agrees (end_fault (held_with rows (Some (option_name s, [])))) (job_in (finished rules (held_with rows (Some (option_name s, []))))) None (fault_first _ _ (awaited_faults rows s)) refl

-- ---- an option that has no value behind `--`

awaited_behind : (rows : List Row) (s : Setting) (waiting : Waiting) (place : Place) (words : List Text)
    → IsFault (level (at rows (Some (option_name s, [])) waiting (position_at place) true) words)
unfolding walk_fault
awaited_behind rows s waiting place [] = fault_first _ _ (awaited_faults rows s)
awaited_behind rows s waiting place (text ∷ words) =
    let turn = takes_behind rows (Some (option_name s, [])) waiting place text in
    fault_first _ _ (fault_first _ _ (subst IsFault (sym turn.fault_is) (awaited_faults rows s)))

-- ---- what a word says, and what is said then

says_option : (s : Setting) → saying spec.anything (option_word s) ≡ spec.option s
says_option spec.seed_option = refl
says_option spec.count_option = refl

says_value : (s : Setting) (text : Text) → saying spec.anything (option_start s ++ text) ≡ spec.value s text
says_value spec.seed_option text = refl
says_value spec.count_option text = refl

option_dashes : (s : Setting) → begins_with_dash (option_word s) ≡ true
option_dashes spec.seed_option = refl
option_dashes spec.count_option = refl

start_dashes : (s : Setting) (text : Text) → begins_with_dash (option_start s ++ text) ≡ true
start_dashes spec.seed_option text = refl
start_dashes spec.count_option text = refl

value_joins : (seed count : Option Text) (plain : List Text) (s : Setting) (text : Text) (b : Said)
    → joined (said_settled seed count plain) (with_saying (spec.value s text) b) ≡ joined (said_so seed count plain (given s text)) b
value_joins seed count plain spec.seed_option text b =
    ap (λ (ts : List Text). record { seeds = ts; counts = opt_list count ++ b.counts; plain = plain ++ b.plain }) (sym (append_assoc (opt_list seed) (text ∷ []) b.seeds))
value_joins seed count plain spec.count_option text b =
    ap (λ (ts : List Text). record { seeds = opt_list seed ++ b.seeds; counts = ts; plain = plain ++ b.plain }) (sym (append_assoc (opt_list count) (text ∷ []) b.counts))

word_joins : (seed count : Option Text) (plain : List Text) (text : Text) (b : Said)
    → joined (said_settled seed count plain) (with_saying (spec.plain text) b) ≡ joined (said_so seed count plain (word text)) b
word_joins seed count plain text b =
    ap (λ (ws : List Text). record { seeds = opt_list seed ++ b.seeds; counts = opt_list count ++ b.counts; plain = ws }) (sym (append_assoc plain (text ∷ []) b.plain))

given_plain : (seed count : Option Text) (plain : List Text) (s : Setting) (text : Text) → (said_so seed count plain (given s text)).plain ≡ plain
given_plain seed count plain spec.seed_option text = refl
given_plain seed count plain spec.count_option text = refl

later_place : (plain : List Text) (text : Text) → place_of (plain ++ text ∷ []) ≡ later
later_place [] text = refl
later_place (mode ∷ names) text = refl

none_waits : (plain : List Text) (p : Pending) → waits_for_none (waiting_as plain p) ≡ true
none_waits plain none = refl
none_waits plain (given s text) = refl
none_waits [] (word text) = refl
none_waits (mode ∷ names) (word text) = refl

-- what is said by a word of this saying, and by the words behind it
abbrev said_then : Coming → Saying → List Text → Option Said
said_then coming says words = option_map (with_saying says) (said_from (coming_after coming says) words)

-- ---- a word where options may come

module _ (words : List Text) (then : Reads words) (rows : List Row) (seed count : Option Text) (plain : List Text) (holds : Holds rows seed count plain) where
  module _ (p : Pending) where
    abbrev pending : Option (Text × List Text)
    pending = pending_as plain p

    abbrev said : Said
    said = said_so seed count plain p

    abbrev here : Walk
    here = walk_at rows seed count plain (before p)

    abbrev now : List Row
    now = settled_rows rules pending rows

    abbrev position : ℕ
    position = position_at (place_of said.plain)

    -- `--`
    at_end : Agrees here (codes "--" ∷ words) (asks_with said (said_from spec.anything (codes "--" ∷ words)))
    at_end =
        let P : Option Job → Type 0 = λ asks. Agrees here (codes "--" ∷ words) asks in
        subst P (sym (asks_on said said spec.ends (said_from spec.words_alone words) (λ b. refl)))
        (goes_on here (at rows pending (waiting_as plain p) position true) (codes "--") words _ (ends_options rows pending (waiting_as plain p) position) (then rows seed count plain (behind p) holds))

    -- an option whose value is the next word
    at_option : (s : Setting) → Settles rows pending said ⊎ Refuses rows pending said → Agrees here (option_word s ∷ words) (asks_with said (said_from spec.anything (option_word s ∷ words)))
    at_option s done =
        let P : Saying → Type 0 = λ y. Agrees here (option_word s ∷ words) (asks_with said (said_then spec.anything y words)) in
        subst P (sym (says_option s)) (go done)
      where
        go : Settles rows pending said ⊎ Refuses rows pending said → Agrees here (option_word s ∷ words) (asks_with said (said_then spec.anything (spec.option s) words))
        go (inl st) =
            let turn = opens_option rows pending (waiting_as plain p) position s in
            let after : Walk = walk_at now st.seed st.count st.plain (waits s) in
            let same : at now (Some (option_name s, [])) (walk.option (option_name s)) position false ≡ after =
            ap (λ (d : Said). at now (Some (option_name s, [])) (walk.option (option_name s)) (position_at (place_of d.plain)) false) (sym st.same) in
            let asks : asks_with said (said_then spec.anything (spec.option s) words) ≡ asks_with (said_settled st.seed st.count st.plain) (said_from (spec.its_value s) words) =
            asks_on said (said_settled st.seed st.count st.plain) (spec.option s) (said_from (spec.its_value s) words) (λ b. ap (λ (d : Said). joined d b) (sym st.same)) in
            let P : Option Job → Type 0 = λ a. Agrees here (option_word s ∷ words) a in
            subst P (sym asks) (goes_on here after (option_word s) words _ (record { fault_is = turn.fault_is ∙ st.no_fault; after_is = turn.after_is ∙ same })
            (then now st.seed st.count st.plain (waits s) st.holds))
        go (inr r) =
            let turn = opens_option rows pending (waiting_as plain p) position s in
            stops here (option_word s) words _ (fault_turns here _ (option_word s) _ turn r.fault) (asks_none said (spec.option s) (said_from (spec.its_value s) words) r.asks)

    -- an option with its value
    at_value : (s : Setting) (text : Text) → Settles rows pending said ⊎ Refuses rows pending said
        → Agrees here ((option_start s ++ text) ∷ words) (asks_with said (said_from spec.anything ((option_start s ++ text) ∷ words)))
    at_value s text done =
        let P : Saying → Type 0 = λ y. Agrees here ((option_start s ++ text) ∷ words) (asks_with said (said_then spec.anything y words)) in
        subst P (sym (says_value s text)) (go done)
      where
        turn : Turns here (option_start s ++ text) (valued_fault rows pending (option_name s) text) (at (valued_rows rows pending (option_name s) text) None walk.idle position false)
        turn = takes_value rows pending (waiting_as plain p) position s text

        with_it : (st : Settles rows pending said) → Settles now (Some (option_name s, text ∷ [])) (said_so st.seed st.count st.plain (given s text))
            ⊎ Refuses now (Some (option_name s, text ∷ [])) (said_so st.seed st.count st.plain (given s text))
            → Agrees here ((option_start s ++ text) ∷ words) (asks_with said (said_then spec.anything (spec.value s text) words))
        with_it st (inl last) =
            let after : Walk = walk_at (valued_rows rows pending (option_name s) text) last.seed last.count last.plain (before none) in
            let plains : last.plain ≡ said.plain = ap (λ (d : Said). d.plain) last.same ∙ (given_plain st.seed st.count st.plain s text ∙ ap (λ (d : Said). d.plain) st.same) in
            let same : at (valued_rows rows pending (option_name s) text) None walk.idle position false ≡ after =
            ap (λ (ws : List Text). at (valued_rows rows pending (option_name s) text) None walk.idle (position_at (place_of ws)) false) (sym plains) in
            let asks : asks_with said (said_then spec.anything (spec.value s text) words) ≡ asks_with (said_settled last.seed last.count last.plain) (said_from spec.anything words) =
            asks_on said (said_settled last.seed last.count last.plain) (spec.value s text) (said_from spec.anything words)
            (λ b. ap (λ (d : Said). joined d (with_saying (spec.value s text) b)) (sym st.same)
            ∙ (value_joins st.seed st.count st.plain s text b ∙ ap (λ (d : Said). joined d b) (sym last.same))) in
            let P : Option Job → Type 0 = λ a. Agrees here ((option_start s ++ text) ∷ words) a in
            subst P (sym asks) (goes_on here after (option_start s ++ text) words _
            (record { fault_is = turn.fault_is ∙ ap₂ or_else st.no_fault last.no_fault; after_is = turn.after_is ∙ same })
            (then (valued_rows rows pending (option_name s) text) last.seed last.count last.plain (before none) last.holds))
        with_it st (inr r) =
            stops here (option_start s ++ text) words _ (fault_turns here _ (option_start s ++ text) _ turn (fault_second (settle_fault rules false (held_with rows pending)) _ r.fault))
            (asks_none said (spec.value s text) (said_from spec.anything words)
            (λ b. ap asked_by (ap (λ (d : Said). joined d (with_saying (spec.value s text) b)) (sym st.same) ∙ value_joins st.seed st.count st.plain s text b) ∙ r.asks b))

        go : Settles rows pending said ⊎ Refuses rows pending said → Agrees here ((option_start s ++ text) ∷ words) (asks_with said (said_then spec.anything (spec.value s text) words))
        go (inl st) = with_it st (settle now st.seed st.count st.plain (given s text) st.holds)
        go (inr r) =
            stops here (option_start s ++ text) words _ (fault_turns here _ (option_start s ++ text) _ turn (fault_first _ (settle_fault rules false (held_with now (Some (option_name s, text ∷ [])))) r.fault))
            (asks_none said (spec.value s text) (said_from spec.anything words) (λ b. r.asks (with_saying (spec.value s text) b)))

    -- a word that `clap` refuses
    at_refused : (text : Text) → saying spec.anything text ≡ spec.plain text → begins_with_dash text ≡ true
        → IsFault (word_fault top [] false (waiting_as plain p) text (held_with rows pending))
        → Agrees here (text ∷ words) (asks_with said (said_from spec.anything (text ∷ words)))
    at_refused text says dash fault =
        let P : Saying → Type 0 = λ y. Agrees here (text ∷ words) (asks_with said (said_then spec.anything y words)) in
        subst P (sym says) (stops here text words _ (fault_first (word_fault top [] false (waiting_as plain p) text (held_with rows pending)) _ fault)
        (asks_none said (spec.plain text) (said_from spec.anything words)
        (λ b. no_plain (seed_given (said.seeds ++ b.seeds)) (count_given (said.counts ++ b.counts)) said.plain text b.plain dash)))

    -- a plain word, whether or not `--` stands before it
    at_word : (ended : Bool) (coming : Coming) (text : Text) (w : Walk)
        → ((st : Settles rows pending said) → Agrees (at now (Some (id_at (place_of st.plain), text ∷ [])) (waiting_at (place_of st.plain)) (position_at (place_of (st.plain ++ text ∷ []))) ended) words
        (asks_with (said_so st.seed st.count st.plain (word text)) (said_from coming words)))
        → Turns w text (settle_fault rules false (held_with rows pending)) (after_word rows pending (waiting_as plain p) ended (place_of said.plain) text)
        → Settles rows pending said ⊎ Refuses rows pending said
        → Agrees w (text ∷ words) (asks_with said (option_map (with_saying (spec.plain text)) (said_from coming words)))
    at_word ended coming text w next turn (inl st) =
        let after : Walk = at now (Some (id_at (place_of st.plain), text ∷ [])) (waiting_at (place_of st.plain)) (position_at (place_of (st.plain ++ text ∷ []))) ended in
        let same : after_word rows pending (waiting_as plain p) ended (place_of said.plain) text ≡ after =
        ap₂ (λ (d : Said) (q : Place). at now (Some (id_at (place_of d.plain), text ∷ [])) (waiting_at (place_of d.plain)) (position_at q) ended) (sym st.same) (sym (later_place st.plain text)) in
        let asks : asks_with said (option_map (with_saying (spec.plain text)) (said_from coming words)) ≡ asks_with (said_so st.seed st.count st.plain (word text)) (said_from coming words) =
        asks_on said (said_so st.seed st.count st.plain (word text)) (spec.plain text) (said_from coming words)
        (λ b. ap (λ (d : Said). joined d (with_saying (spec.plain text) b)) (sym st.same) ∙ word_joins st.seed st.count st.plain text b) in
        let P : Option Job → Type 0 = λ a. Agrees w (text ∷ words) a in
        subst P (sym asks) (goes_on w after text words _ (record { fault_is = turn.fault_is ∙ st.no_fault; after_is = turn.after_is ∙ same }) (next st))
    at_word ended coming text w next turn (inr r) =
        stops w text words _ (fault_turns w _ text _ turn r.fault) (asks_none said (spec.plain text) (said_from coming words) (λ b. r.asks (with_saying (spec.plain text) b)))

    at_plain : (text : Text) → saying spec.anything text ≡ spec.plain text → IsPlainWord text → Agrees here (text ∷ words) (asks_with said (said_from spec.anything (text ∷ words)))
    at_plain text says is =
        let P : Saying → Type 0 = λ y. Agrees here (text ∷ words) (asks_with said (said_then spec.anything y words)) in
        subst P (sym says) (at_word false spec.anything text here (λ st. then now st.seed st.count st.plain (before (word text)) st.holds)
        (takes_word rows pending (waiting_as plain p) (place_of said.plain) text (none_waits plain p) is) (settle rows seed count plain p holds))

    reads_before : (text : Text) → Lexed text → Agrees here (text ∷ words) (asks_with said (said_from spec.anything (text ∷ words)))
    reads_before text (is_end e) =
        let P : Text → Type 0 = λ t. Agrees here (t ∷ words) (asks_with said (said_from spec.anything (t ∷ words))) in
        subst P (sym e) at_end
    reads_before text (is_option s e) =
        let P : Text → Type 0 = λ t. Agrees here (t ∷ words) (asks_with said (said_from spec.anything (t ∷ words))) in
        subst P (sym e) (at_option s (settle rows seed count plain p holds))
    reads_before text (is_valued s t e) =
        let P : Text → Type 0 = λ t. Agrees here (t ∷ words) (asks_with said (said_from spec.anything (t ∷ words))) in
        subst P (sym e) (at_value s t (settle rows seed count plain p holds))
    reads_before text (is_refused says dash faults) = at_refused text says dash (faults (waiting_as plain p) rows pending)
    reads_before text (is_plain says is) = at_plain text says is

    reads_behind : (text : Text) → Agrees (walk_at rows seed count plain (behind p)) (text ∷ words) (asks_with said (said_from spec.words_alone (text ∷ words)))
    reads_behind text =
        at_word true spec.words_alone text (walk_at rows seed count plain (behind p)) (λ st. then now st.seed st.count st.plain (behind (word text)) st.holds)
        (takes_behind rows pending (waiting_as plain p) (place_of said.plain) text) (settle rows seed count plain p holds)

  -- ---- a word where an option waits for its value

  module _ (s : Setting) where
    abbrev waiting_here : Walk
    waiting_here = walk_at rows seed count plain (waits s)

    -- such a value is no number
    no_given : (s : Setting) (text : Text) (b : Said) → begins_with_dash text ≡ true → asked_by (joined (said_settled seed count plain) (with_saying (spec.value s text) b)) ≡ None
    no_given spec.seed_option text b dash =
        ap (λ (o : Option ℕ). job_with o (count_given (opt_list count ++ b.counts)) (plain ++ b.plain)) (no_value 0 2147483647 1 seed text b.seeds dash)
        ∙ no_seed (count_given (opt_list count ++ b.counts)) (plain ++ b.plain)
    no_given spec.count_option text b dash =
        ap (λ (o : Option ℕ). job_with (seed_given (opt_list seed ++ b.seeds)) o (plain ++ b.plain)) (no_value 1 10000 100 count text b.counts dash)
        ∙ no_count (seed_given (opt_list seed ++ b.seeds)) (plain ++ b.plain)

    dashed_asks : (text : Text) → begins_with_dash text ≡ true → asks_with (said_settled seed count plain) (said_from (spec.its_value s) (text ∷ words)) ≡ None
    dashed_asks text dash = asks_none (said_settled seed count plain) (spec.value s text) (said_from spec.anything words) (λ b. no_given s text b dash)

    dashed_stops : (text : Text) → begins_with_dash text ≡ true → IsFault (turn_fault top [] waiting_here text)
        → Agrees waiting_here (text ∷ words) (asks_with (said_settled seed count plain) (said_from (spec.its_value s) (text ∷ words)))
    dashed_stops text dash fault = stops waiting_here text words _ fault (dashed_asks text dash)

    reads_value : (text : Text) → Lexed text → Agrees waiting_here (text ∷ words) (asks_with (said_settled seed count plain) (said_from (spec.its_value s) (text ∷ words)))
    reads_value text (is_end e) =
        let P : Text → Type 0 = λ t. Agrees waiting_here (t ∷ words) (asks_with (said_settled seed count plain) (said_from (spec.its_value s) (t ∷ words))) in
        let after : Walk = at rows (Some (option_name s, [])) (walk.option (option_name s)) (position_at (place_of plain)) true in
        subst P (sym e) (goes_on waiting_here after (codes "--") words _ (ends_options rows (Some (option_name s, [])) (walk.option (option_name s)) (position_at (place_of plain)))
        (fault_agrees (level after words) (job_after after words) _ (awaited_behind rows s (walk.option (option_name s)) (place_of plain) words) (dashed_asks (codes "--") refl)))
    reads_value text (is_option other e) =
        let P : Text → Type 0 = λ t. Agrees waiting_here (t ∷ words) (asks_with (said_settled seed count plain) (said_from (spec.its_value s) (t ∷ words))) in
        let turn = opens_option rows (Some (option_name s, [])) (walk.option (option_name s)) (position_at (place_of plain)) other in
        subst P (sym e) (dashed_stops (option_word other) (option_dashes other) (fault_turns waiting_here _ (option_word other) _ turn (awaited_faults rows s)))
    reads_value text (is_valued other t e) =
        let P : Text → Type 0 = λ t. Agrees waiting_here (t ∷ words) (asks_with (said_settled seed count plain) (said_from (spec.its_value s) (t ∷ words))) in
        let turn = takes_value rows (Some (option_name s, [])) (walk.option (option_name s)) (position_at (place_of plain)) other t in
        subst P (sym e) (dashed_stops (option_start other ++ t) (start_dashes other t)
        (fault_turns waiting_here _ (option_start other ++ t) _ turn (fault_first _ _ (awaited_faults rows s))))
    reads_value text (is_refused says dash faults) =
        dashed_stops text dash (fault_first (word_fault top [] false (walk.option (option_name s)) text (held_with rows (Some (option_name s, [])))) _ (faults (walk.option (option_name s)) rows (Some (option_name s, []))))
    reads_value text (is_plain says is) =
        let after : Walk = walk_at rows seed count plain (before (given s text)) in
        let turn = gives_value rows (position_at (place_of plain)) s text is in
        let same : at rows (Some (option_name s, text ∷ [])) walk.idle (position_at (place_of plain)) false ≡ after =
        ap (λ (ws : List Text). at rows (Some (option_name s, text ∷ [])) walk.idle (position_at (place_of ws)) false) (sym (given_plain seed count plain s text)) in
        let asks : asks_with (said_settled seed count plain) (said_from (spec.its_value s) (text ∷ words)) ≡ asks_with (said_so seed count plain (given s text)) (said_from spec.anything words) =
        asks_on (said_settled seed count plain) (said_so seed count plain (given s text)) (spec.value s text) (said_from spec.anything words) (value_joins seed count plain s text) in
        let P : Option Job → Type 0 = λ a. Agrees waiting_here (text ∷ words) a in
        subst P (sym asks) (goes_on waiting_here after text words _ (record { fault_is = turn.fault_is; after_is = turn.after_is ∙ same }) (then rows seed count plain (before (given s text)) holds))

-- ---- the whole

reads_on : (text : Text) (words : List Text) → Reads words → Reads (text ∷ words)
reads_on text words then rows seed count plain (before p) holds = reads_before words then rows seed count plain holds p text (lexed text)
reads_on text words then rows seed count plain (waits s) holds = reads_value words then rows seed count plain holds s text (lexed text)
reads_on text words then rows seed count plain (behind p) holds = reads_behind words then rows seed count plain holds p text

pub reads : (words : List Text) → Reads words
reads [] = reads_end
reads (text ∷ words) = reads_on text words (reads words)

abbrev start : Walk
start = walk_at [] None None [] (before none)

-- no word is a subcommand, so the fault is that of the one level
fault_is : (words : List Text) → fault_of words_app words ≡ level start words
fault_is words = leaf_fault (built words_app) nothing_held words refl

nothing_before : (more : Option Said) → asks_with (said_settled None None []) more ≡ option_and_then asked_by more
nothing_before None = refl
nothing_before (Some b) = refl

-- `clap` refuses the words just where they ask nothing for that reason, and else its matches ask what they ask
pub clap_reads : (words : List Text) → Agree (fault_of words_app words) (job_in (matches_of words_app words)) (asked words)
clap_reads words =
    let P : Kinds → Type 0 = λ f. Agree f (job_after start words) (asked words) in
    let Q : Option Job → Type 0 = λ a. Agrees start words a in
    subst P (sym (fault_is words)) (subst Q (nothing_before (said_from spec.anything words)) (reads words [] None None [] (before none) holds_nothing))

-- ---- what a parse answers

agreed : (f : Kinds) (read asks : Option Job) → Agree f read asks → f ≡ [] → read ≡ asks
agreed f read asks agree nothing = let P : Kinds → Type 0 = λ k. Agree k read asks in subst P nothing agree

refused : (f : Kinds) (read asks : Option Job) (k : ErrorKind) → Agree f read asks → IsAmong k f → asks ≡ None
refused [] read asks k agree among = absurd among
refused (x ∷ xs) read asks k agree among = agree

-- the matches ask what the words ask
pub matches_ask : (app : App) (words : List Text) (rows : List Row) → app ≡ words_app → (is_simple_and_free app ≡ true → fault_of app words ≡ [])
    → (is_simple app ≡ true → rows ≡ matches_of app words) → job_in rows ≡ asked words
matches_ask app words rows is no_fault rows_are =
    let faultless : fault_of words_app words ≡ [] = subst (λ (a : App). is_simple_and_free a ≡ true → fault_of a words ≡ []) is no_fault refl in
    let same : rows ≡ matches_of words_app words = subst (λ (a : App). is_simple a ≡ true → rows ≡ matches_of a words) is rows_are refl in
    ap job_in same ∙ agreed _ _ _ (clap_reads words) faultless

-- words that `clap` refuses ask nothing
pub refused_ask : (app : App) (words : List Text) (k : ErrorKind) → app ≡ words_app → (is_simple_and_free app ≡ true → (k ≡ kind.OutOfMemory) ⊎ IsAmong k (fault_of app words))
    → (k ≡ kind.OutOfMemory → ⊥) → asked words ≡ None
refused_ask app words k is has other = go (subst (λ (a : App). is_simple_and_free a ≡ true → (k ≡ kind.OutOfMemory) ⊎ IsAmong k (fault_of a words)) is has refl)
  where
    go : (k ≡ kind.OutOfMemory) ⊎ IsAmong k (fault_of words_app words) → asked words ≡ None
    go (inl memory) = absurd (other memory)
    go (inr among) = refused _ _ _ k (clap_reads words) among

-- the mode of a job that is asked is that of the words
pub mode_asked : (words : List Text) (mode : Option Mode) → option_map job_of mode ≡ asked words → IfSome mode (λ m. asked words ≡ Some (job_of m))
mode_asked words None is = tt
mode_asked words (Some mode) is = sym is

-- and without one none is asked
pub none_asked : (words : List Text) (mode : Option Mode) → option_map job_of mode ≡ asked words → IfNone mode (asked words ≡ None)
none_asked words None is = sym is
none_asked words (Some mode) is = tt

-- ---- what the getters read

names_of : (names : Option (Bor (List (Bor Text)))) (nothing : Bor (List (Bor Text))) → nothing.now ≡ []
    → words_of (unwrap_or names nothing).now ≡ unwrap_or (option_map (λ s. map (λ v. v.now) s.now) names) []
names_of None nothing is = ap words_of is
names_of (Some names) nothing is = refl

-- the texts that the getters give ask what the rows ask
pub texts_ask : (f : Found) (seed count mode : Option (Bor Text)) (names : Option (Bor (List (Bor Text)))) (nothing chosen : Bor (List (Bor Text))) → chosen ≡ unwrap_or names nothing → nothing.now ≡ []
    → option_map (λ s. s.now) seed ≡ first_value f (codes "seed") → option_map (λ s. s.now) count ≡ first_value f (codes "count") → option_map (λ s. s.now) mode ≡ first_value f (codes "MODE")
    → option_map (λ s. map (λ v. v.now) s.now) names ≡ option_map raw_values (matched_of f (codes "NAME"))
    → job_by_texts (option_map (λ s. s.now) seed) (option_map (λ s. s.now) count) (option_map (λ s. s.now) mode) (words_of chosen.now) ≡ job_in (rows_of f)
texts_ask f seed count mode names nothing chosen is empty seeds counts modes others =
    let seed_is = seeds ∙ first_value-rows f (codes "seed") in
    let count_is = counts ∙ first_value-rows f (codes "count") in
    let mode_is = modes ∙ first_value-rows f (codes "MODE") in
    let names_are = ap (λ (b : Bor (List (Bor Text))). words_of b.now) is
    ∙ (names_of names nothing empty ∙ ap (λ (o : Option (List Text)). unwrap_or o []) (others ∙ raw_values-rows f (codes "NAME"))) in
    λ i. job_by_texts (seed_is i) (count_is i) (mode_is i) (names_are i)
