-- A whole script begins with a head, and says what may be said.
use Rattle.std.proofs.Common.{◌≡◌, ℕ, Bool, true, false, List, [], ◌∷◌, length, Option, Some, None, Result, Ok, Err, refl, sym, ap, ◌∙◌, ◌≤◌, subst, arith}
use Rattle.std.proofs.lemmas.Bool.Decides.{nat_tests}
use Rattle.std.specs.Prelude.{◌==◌, ◌&&◌, not, nat_le, nat_lt, codes, is_ok, option_map, if◌then◌else◌}
use Rattle.std.specs.List.{list_all, onto_first}
use Rattle.std.specs.Option.{option_map_or}
use Rattle.depot_rows.specs.depot_path.Bytes.{same, is_among}
use Rattle.depot_rows.specs.depot_path.Name.{is_name}
use Rattle.depot_rows.specs.depot_model.Filter.{filter_of}
use Rattle.command_words.proofs.Giving.{both}
use Rattle.wire_text.specs.Head.{head_of, head_of_parts, session_head, replica_head, client_of}
use Rattle.wire_text.specs.Parts.{parted, upto, past, is_in, IsFree}
use Rattle.wire_text.specs.Script.{Entries, Script, begun, head_by_line, head_or, rest_of, start, script_of, whole_line}
use Rattle.wire_text.specs.declared.entry.Entry.{Entry}
use Rattle.wire_text.specs.declared.fault.ScriptFaultKind.{ScriptFaultKind}
use Rattle.wire_text.specs.declared.fault.ScriptFaultKind.TheVariants.{LongLine, Cut}
use Rattle.wire_text.specs.declared.head.Head.{Head}
use Rattle.wire_text.specs.declared.head.Head.TheVariants.{Session, Replica}
use Rattle.wire_text.proofs.Separators.{free_upto}
use Rattle.grammar_laws.specs.ScriptText.{head_line, is_one_word, is_head, are_entries, script_text, IsScript, FitsScript, IsWhole}
use Rattle.grammar_laws.proofs.Heads.{AreFree}
use Rattle.grammar_laws.proofs.Scripts.{script_reads}
use Rattle.grammar_laws.proofs.SaidHeads.{found_line, head_as_read}
use Rattle.grammar_laws.proofs.SaidParts.{rest_said}
use Rattle.grammar_laws.proofs.SaidWords.{not_among}

-- ---- the words of a head

onto_free : (c b : ℕ) (words : List (List ℕ)) → (b == c) ≡ false → AreFree c words → AreFree c (onto_first b words)
onto_free c b [] e free = ((e, tt), tt)
onto_free c b (word ∷ words) e free = ((e, free.0), free.1)

split_free : (c b : ℕ) (line : List ℕ) (r : Bool) → (r ≡ false → (b == c) ≡ false) → AreFree c (parted line) → AreFree c (if r then [] ∷ parted line else onto_first b (parted line))
split_free c b line true e free = (tt, free)
split_free c b line false e free = onto_free c b (parted line) (e refl) free

spaceless : (line : List ℕ) → AreFree 0x20 (parted line)
spaceless [] = (tt, tt)
spaceless (b ∷ line) = go (b == 0x20) refl (spaceless line)
  where
    go : (r : Bool) → (b == 0x20) ≡ r → AreFree 0x20 (parted line) → AreFree 0x20 (if r then [] ∷ parted line else onto_first b (parted line))
    go r e free = split_free 0x20 b line r (λ f. e ∙ f) free

lineless : (line : List ℕ) → IsFree 0x0A line → AreFree 0x0A (parted line)
lineless [] free = (tt, tt)
lineless (b ∷ line) free = split_free 0x0A b line (b == 0x20) (λ e. free.0) (lineless line free.1)

one_words : (words : List (List ℕ)) → AreFree 0x20 words → AreFree 0x0A words → list_all is_one_word words ≡ true
one_words [] s l = refl
one_words (word ∷ words) s l =
    both (is_one_word word) (list_all is_one_word words)
    (both (not (is_among word 0x20)) (not (is_among word 0x0A)) (ap not (not_among 0x20 word s.0)) (ap not (not_among 0x0A word l.0))) (one_words words s.1 l.1)

-- ---- heads

found : (head h : Head) → Some h ≡ Some head → is_head h ≡ true → is_head head ≡ true
found head h e is = ap (λ (o : Option Head). option_map_or is_head o true) (sym e) ∙ is

session_said : (head : Head) (user client host : List ℕ) (more : List (List ℕ)) → session_head user client host more ≡ Some head → is_head head ≡ true
session_said head user client host [] e = go (is_name user && is_name client && is_name host) refl e
  where
    go : (b : Bool) → (is_name user && is_name client && is_name host) ≡ b → option_map Session (if b then Some (record { user = user; client = client; host = host }) else None) ≡ Some head → is_head head ≡ true
    go true is h = found head (Session (record { user = user; client = client; host = host })) h is
    go false is h = absurd cc
session_said head user client host (word ∷ more) e = absurd cc

replica_said : (head : Head) (client user host : List ℕ) (patterns : List (List ℕ)) → list_all is_one_word patterns ≡ true → replica_head client user host patterns ≡ Some head → is_head head ≡ true
replica_said head client user host patterns words e =
    go (nat_le 1 (length patterns) && nat_le (length patterns) 60 && is_ok (filter_of patterns)) (is_name user && is_name client && is_name host) refl refl e
  where
    go : (few names : Bool) → (nat_le 1 (length patterns) && nat_le (length patterns) 60 && is_ok (filter_of patterns)) ≡ few → (is_name user && is_name client && is_name host) ≡ names
        → (if few then option_map (λ caller. Replica caller patterns) (if names then Some (record { user = user; client = client; host = host }) else None) else None) ≡ Some head → is_head head ≡ true
    go true true f n h = found head (Replica (record { user = user; client = client; host = host }) patterns) h (both _ _ (both _ _ n words) f)
    go true false f n h = absurd cc
    go false names f n h = absurd cc

parts_said : (head : Head) (parts : List (List ℕ)) → AreFree 0x20 parts → AreFree 0x0A parts → head_of_parts parts ≡ Some head → is_head head ≡ true
parts_said head [] s l e = absurd cc
parts_said head (a ∷ []) s l e = absurd cc
parts_said head (a ∷ b ∷ []) s l e = absurd cc
parts_said head (a ∷ b ∷ c ∷ []) s l e = absurd cc
parts_said head (word ∷ first ∷ second ∷ third ∷ more) s l e = go (same word (codes "session")) (same word (codes "replica")) e
  where
    go : (session replica : Bool) → (if session then session_head first second third more else (if replica then replica_head first second third more else None)) ≡ Some head → is_head head ≡ true
    go true replica h = session_said head first second third more h
    go false true h = replica_said head first second third more (one_words more s.1.1.1.1 l.1.1.1.1) h
    go false false h = absurd cc

head_said : (head : Head) (line : List ℕ) → IsFree 0x0A line → head_of line ≡ Some head → is_head head ≡ true
head_said head line free e = parts_said head (parted line) (spaceless line) (lineless line free) e

or_said : (head : Head) (o : Option Head) → head_or o ≡ Ok head → o ≡ Some head
or_said head (Some h) e = ap (λ (r : Result Head ScriptFaultKind). elim r as (λ _. Option Head) [ Ok x ↦ Some x | Err what ↦ None ]) e
or_said head None e = absurd cc

begins_said : (head : Head) (bytes : List ℕ) → head_by_line (whole_line bytes) ≡ Ok head → is_head head ≡ true
begins_said head bytes e = go (nat_lt 8192 (length (upto 0x0A bytes))) (is_in 0x0A bytes) e
  where
    go : (long there : Bool) → head_by_line (if long then Err LongLine else (if there then Ok (upto 0x0A bytes) else Err Cut)) ≡ Ok head → is_head head ≡ true
    go true there h = absurd cc
    go false true h = head_said head (upto 0x0A bytes) (free_upto 0x0A bytes) (or_said head (head_of (upto 0x0A bytes)) h)
    go false false h = absurd cc

not_long : (n : ℕ) → nat_lt 8192 n ≡ false → n ≤ 8192
not_long n e = grind (arith, nat_tests)

line_said : (head : Head) (bytes : List ℕ) → head_by_line (whole_line bytes) ≡ Ok head → length (head_line head) ≤ 8192
line_said head bytes e = go (nat_lt 8192 (length (upto 0x0A bytes))) (is_in 0x0A bytes) refl e
  where
    go : (long there : Bool) → nat_lt 8192 (length (upto 0x0A bytes)) ≡ long → head_by_line (if long then Err LongLine else (if there then Ok (upto 0x0A bytes) else Err Cut)) ≡ Ok head → length (head_line head) ≤ 8192
    go true there l h = absurd cc
    go false true l h =
        let same : head_line head ≡ upto 0x0A bytes = head_as_read head (upto 0x0A bytes) (or_said head (head_of (upto 0x0A bytes)) h) in
        subst (λ (t : List ℕ). length t ≤ 8192) (sym same) (not_long (length (upto 0x0A bytes)) l)
    go false false l h = absurd cc

-- ---- whole scripts

no_head : (head : Head) → None ≡ Some head → ⊥
no_head head e = cc

pub script_said : (bytes : List ℕ) (head : Head) (entries : List Entry) → IsWhole bytes head entries → IsScript head entries
script_said bytes head entries whole = go (head_by_line (whole_line bytes)) refl whole
  where
    go : (r : Result Head ScriptFaultKind) → head_by_line (whole_line bytes) ≡ r → begun r bytes ≡ record { head = Some head; entries = entries; fault = None } → IsScript head entries
    go (Ok h) e is =
        let rest : Entries = rest_of (start h (upto 0x0A bytes)) (past 0x0A bytes) in
        let heads : Some h ≡ Some head = ap (λ (s : Script). s.head) is in
        let says : rest.entries ≡ entries = ap (λ (s : Script). s.entries) is in
        let whole : rest.fault ≡ None = ap (λ (s : Script). s.fault) is in
        let client : client_of h ≡ client_of head = ap (λ (o : Option Head). option_map_or client_of o []) heads in
        record {
          begins = found head h heads (begins_said h bytes e);
          line = subst (λ (t : List ℕ). length t ≤ 8192) (sym (found_line head h heads)) (line_said h bytes e);
          says = ap (λ (c : List ℕ). are_entries c 1 entries) (sym client) ∙ (ap (λ (es : List Entry). are_entries (client_of h) 1 es) (sym says) ∙ rest_said (start h (upto 0x0A bytes)) (past 0x0A bytes) refl whole);
        }
    go (Err what) e is = absurd (no_head head (ap (λ (s : Script). s.head) is))

pub prints_alike : (bytes : List ℕ) (head : Head) (entries : List Entry) → IsWhole bytes head entries → FitsScript head entries → script_of (script_text head entries) ≡ script_of bytes
prints_alike bytes head entries whole fits = script_reads head entries (script_said bytes head entries whole) fits ∙ sym whole
