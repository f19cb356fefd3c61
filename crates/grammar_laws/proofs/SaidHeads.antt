-- The line of a head is printed as it stands.
use Rattle.std.proofs.Common.{◌≡◌, ℕ, Bool, true, false, List, [], ◌∷◌, length, Option, Some, None, refl, sym, ap, ◌∙◌}
use Rattle.std.specs.Prelude.{◌==◌, ◌&&◌, nat_le, codes, is_ok, option_map, if◌then◌else◌}
use Rattle.std.specs.List.{onto_first}
use Rattle.std.specs.Option.{option_map_or}
use Rattle.depot_rows.specs.depot_path.Bytes.{same}
use Rattle.depot_rows.specs.depot_path.Name.{is_name}
use Rattle.depot_rows.specs.depot_model.Filter.{filter_of}
use Rattle.depot_rows.proofs.Keys.{number-is, same-is}
use Rattle.wire_text.specs.Head.{head_of, head_of_parts, session_head, replica_head}
use Rattle.wire_text.specs.Parts.{parted}
use Rattle.wire_text.specs.declared.head.Head.{Head}
use Rattle.wire_text.specs.declared.head.Head.TheVariants.{Session, Replica}
use Rattle.grammar_laws.specs.ScriptText.{spaced, head_line}

abbrev joined : List (List ℕ) → List ℕ
joined [] = []
joined (word ∷ words) = spaced word words

abbrev HasOne : List (List ℕ) → Type 0
HasOne [] = ⊥
HasOne (word ∷ words) = Unit {0}

onto_one : (b : ℕ) (words : List (List ℕ)) → HasOne (onto_first b words)
onto_one b [] = tt
onto_one b (word ∷ words) = tt

some_parted : (line : List ℕ) → HasOne (parted line)
some_parted [] = tt
some_parted (b ∷ line) = go (b == 0x20)
  where
    go : (r : Bool) → HasOne (if r then [] ∷ parted line else onto_first b (parted line))
    go true = tt
    go false = onto_one b (parted line)

behind_space : (words : List (List ℕ)) → HasOne words → spaced [] words ≡ 0x20 ∷ joined words
behind_space [] one = absurd one
behind_space (word ∷ words) one = refl

onto_joined : (b : ℕ) (words : List (List ℕ)) → HasOne words → joined (onto_first b words) ≡ b ∷ joined words
onto_joined b [] one = absurd one
onto_joined b (word ∷ []) one = refl
onto_joined b (word ∷ next ∷ words) one = refl

joined_parted : (line : List ℕ) → joined (parted line) ≡ line
joined_parted [] = refl
joined_parted (b ∷ line) = go (b == 0x20) refl (joined_parted line)
  where
    go : (r : Bool) → (b == 0x20) ≡ r → joined (parted line) ≡ line → joined (if r then [] ∷ parted line else onto_first b (parted line)) ≡ b ∷ line
    go true is e = behind_space (parted line) (some_parted line) ∙ (ap (λ (t : List ℕ). 0x20 ∷ t) e ∙ ap (λ (x : ℕ). x ∷ line) (sym (number-is b 0x20 is)))
    go false is e = onto_joined b (parted line) (some_parted line) ∙ ap (λ (t : List ℕ). b ∷ t) e

pub found_line : (head h : Head) → Some h ≡ Some head → head_line head ≡ head_line h
found_line head h e = ap (λ (o : Option Head). option_map_or head_line o []) (sym e)

session_line : (head : Head) (user client host : List ℕ) (more : List (List ℕ)) → session_head user client host more ≡ Some head → head_line head ≡ spaced (codes "session") (user ∷ client ∷ host ∷ more)
session_line head user client host [] e = go (is_name user && is_name client && is_name host) e
  where
    go : (b : Bool) → option_map Session (if b then Some (record { user = user; client = client; host = host }) else None) ≡ Some head → head_line head ≡ spaced (codes "session") (user ∷ client ∷ host ∷ [])
    go true h = found_line head (Session (record { user = user; client = client; host = host })) h
    go false h = absurd cc
session_line head user client host (word ∷ more) e = absurd cc

replica_line : (head : Head) (client user host : List ℕ) (patterns : List (List ℕ)) → replica_head client user host patterns ≡ Some head → head_line head ≡ spaced (codes "replica") (client ∷ user ∷ host ∷ patterns)
replica_line head client user host patterns e =
    go (nat_le 1 (length patterns) && nat_le (length patterns) 60 && is_ok (filter_of patterns)) (is_name user && is_name client && is_name host) e
  where
    go : (few names : Bool) → (if few then option_map (λ caller. Replica caller patterns) (if names then Some (record { user = user; client = client; host = host }) else None) else None) ≡ Some head
        → head_line head ≡ spaced (codes "replica") (client ∷ user ∷ host ∷ patterns)
    go true true h = found_line head (Replica (record { user = user; client = client; host = host }) patterns) h
    go true false h = absurd cc
    go false names h = absurd cc

parts_line : (head : Head) (parts : List (List ℕ)) → head_of_parts parts ≡ Some head → head_line head ≡ joined parts
parts_line head [] e = absurd cc
parts_line head (a ∷ []) e = absurd cc
parts_line head (a ∷ b ∷ []) e = absurd cc
parts_line head (a ∷ b ∷ c ∷ []) e = absurd cc
parts_line head (word ∷ first ∷ second ∷ third ∷ more) e = go (same word (codes "session")) (same word (codes "replica")) refl refl e
  where
    go : (session replica : Bool) → same word (codes "session") ≡ session → same word (codes "replica") ≡ replica
        → (if session then session_head first second third more else (if replica then replica_head first second third more else None)) ≡ Some head → head_line head ≡ spaced word (first ∷ second ∷ third ∷ more)
    go true replica s r h = session_line head first second third more h ∙ ap (λ (w : List ℕ). spaced w (first ∷ second ∷ third ∷ more)) (sym (same-is word (codes "session") s))
    go false true s r h = replica_line head first second third more h ∙ ap (λ (w : List ℕ). spaced w (first ∷ second ∷ third ∷ more)) (sym (same-is word (codes "replica") r))
    go false false s r h = absurd cc

-- a head that a line spells is printed as that line
pub head_as_read : (head : Head) (line : List ℕ) → head_of line ≡ Some head → head_line head ≡ line
head_as_read head line e = parts_line head (parted line) e ∙ joined_parted line
