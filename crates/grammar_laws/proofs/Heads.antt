-- What the printed line of a head is read as.
use Rattle.std.proofs.Common.{◌≡◌, ℕ, Bool, true, List, [], ◌∷◌, ◌++◌, Some, None, refl, ap, ◌∙◌}
use Rattle.std.specs.Prelude.{◌==◌, codes, option_map, if◌then◌else◌}
use Rattle.std.specs.List.{list_all, onto_first}
use Rattle.depot_rows.specs.depot_path.Name.{is_name, is_barred}
use Rattle.depot_rows.specs.depot_model.declared.request.Caller.{Caller}
use Rattle.wire_text.specs.Head.{head_of, head_of_parts, are_names}
use Rattle.wire_text.specs.Parts.{parted, IsFree}
use Rattle.wire_text.specs.declared.head.Head.{Head}
use Rattle.wire_text.specs.declared.head.Head.TheVariants.{Session, Replica}
use Rattle.wire_text.proofs.Heads.{parted_whole}
use Rattle.wire_text.proofs.Separators.{free_append}
use Rattle.grammar_laws.specs.ScriptText.{spaced, head_line, is_caller, is_one_word, is_head}
use Rattle.grammar_laws.proofs.Bytes.{free_of, name_free}
use Rattle.std.proofs.lemmas.Bool.{not-true, and_parts}

-- ---- words with one space between

abbrev pub AreFree : ℕ → List (List ℕ) → Type 0
AreFree c [] = Unit {0}
AreFree c (word ∷ words) = IsFree c word × AreFree c words

parted_line : (line more : List ℕ) → IsFree 0x20 line → parted (line ++ 0x20 ∷ more) ≡ line ∷ parted more
parted_line [] more free = refl
parted_line (b ∷ line) more free = rw free.0 (ap (onto_first b) (parted_line line more free.1))

spaced_parted : (word : List ℕ) (words : List (List ℕ)) → IsFree 0x20 word → AreFree 0x20 words → parted (spaced word words) ≡ word ∷ words
spaced_parted word [] free others = parted_whole word free
spaced_parted word (next ∷ words) free others =
    parted_line word (spaced next words) free ∙ ap (λ (ws : List (List ℕ)). word ∷ ws) (spaced_parted next words others.0 others.1)

spaced_free : (word : List ℕ) (words : List (List ℕ)) → IsFree 0x0A word → AreFree 0x0A words → IsFree 0x0A (spaced word words)
spaced_free word [] free others = free
spaced_free word (next ∷ words) free others = free_append 0x0A word (0x20 ∷ spaced next words) free (refl, spaced_free next words others.0 others.1)

-- ---- names and patterns

module _ (c : ℕ) (barred : is_barred c ≡ true) where
  caller_free : (first second third : List ℕ) (more : List (List ℕ)) → is_name first ≡ true → is_name second ≡ true → is_name third ≡ true → AreFree c more
      → AreFree c (first ∷ second ∷ third ∷ more)
  caller_free first second third more e f g h = (name_free c first barred e, (name_free c second barred f, (name_free c third barred g, h)))

patterns_spaceless : (patterns : List (List ℕ)) → list_all is_one_word patterns ≡ true → AreFree 0x20 patterns
patterns_spaceless [] all = tt
patterns_spaceless (pattern ∷ patterns) all =
    (free_of (λ x. x == 0x20) 0x20 refl pattern (not-true _ (and_parts _ _ (and_parts _ _ all).0).0), patterns_spaceless patterns (and_parts _ _ all).1)

patterns_lineless : (patterns : List (List ℕ)) → list_all is_one_word patterns ≡ true → AreFree 0x0A patterns
patterns_lineless [] all = tt
patterns_lineless (pattern ∷ patterns) all =
    (free_of (λ x. x == 0x0A) 0x0A refl pattern (not-true _ (and_parts _ _ (and_parts _ _ all).0).1), patterns_lineless patterns (and_parts _ _ all).1)

module _ (caller : Caller) (is : is_caller caller ≡ true) where
  user_is : is_name caller.user ≡ true
  user_is = (and_parts _ _ (and_parts _ _ is).0).0

  client_is : is_name caller.client ≡ true
  client_is = (and_parts _ _ (and_parts _ _ is).0).1

  host_is : is_name caller.host ≡ true
  host_is = (and_parts _ _ is).1

  session_names : (c : ℕ) → is_barred c ≡ true → AreFree c (caller.user ∷ caller.client ∷ caller.host ∷ [])
  session_names c barred = caller_free c barred caller.user caller.client caller.host [] user_is client_is host_is tt

  replica_names : (c : ℕ) (patterns : List (List ℕ)) → is_barred c ≡ true → AreFree c patterns → AreFree c (caller.client ∷ caller.user ∷ caller.host ∷ patterns)
  replica_names c patterns barred others = caller_free c barred caller.client caller.user caller.host patterns client_is user_is host_is others

  named : are_names caller.user caller.client caller.host ≡ Some caller
  named = ap (λ (b : Bool). if b then Some caller else None) is

-- ---- heads

pub head_reads : (head : Head) → is_head head ≡ true → head_of (head_line head) ≡ Some head
head_reads (Session caller) is =
    ap head_of_parts (spaced_parted (codes "session") (caller.user ∷ caller.client ∷ caller.host ∷ []) (refl, (refl, (refl, (refl, (refl, (refl, (refl, tt))))))) (session_names caller is 0x20 refl))
    ∙ ap (option_map Session) (named caller is)
head_reads (Replica caller patterns) is =
    let names = (and_parts _ _ (and_parts _ _ is).0).0 in
    let words = (and_parts _ _ (and_parts _ _ is).0).1 in
    ap head_of_parts (spaced_parted (codes "replica") (caller.client ∷ caller.user ∷ caller.host ∷ patterns) (refl, (refl, (refl, (refl, (refl, (refl, (refl, tt))))))) (replica_names caller names 0x20 patterns refl (patterns_spaceless patterns words)))
    ∙ (ap (λ (b : Bool). if b then option_map (λ (c : Caller). Replica c patterns) (are_names caller.user caller.client caller.host) else None) (and_parts _ _ is).1
    ∙ ap (option_map (λ (c : Caller). Replica c patterns)) (named caller names))

pub head_free : (head : Head) → is_head head ≡ true → IsFree 0x0A (head_line head)
head_free (Session caller) is =
    spaced_free (codes "session") (caller.user ∷ caller.client ∷ caller.host ∷ []) (refl, (refl, (refl, (refl, (refl, (refl, (refl, tt))))))) (session_names caller is 0x0A refl)
head_free (Replica caller patterns) is =
    let names = (and_parts _ _ (and_parts _ _ is).0).0 in
    let words = (and_parts _ _ (and_parts _ _ is).0).1 in
    spaced_free (codes "replica") (caller.client ∷ caller.user ∷ caller.host ∷ patterns) (refl, (refl, (refl, (refl, (refl, (refl, (refl, tt))))))) (replica_names caller names 0x0A patterns refl (patterns_lineless patterns words))
