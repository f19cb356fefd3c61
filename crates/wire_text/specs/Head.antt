-- The first line of a script, whose form is this project's own choice: `session USER CLIENT HOST`, or `replica CLIENT USER HOST PATTERN...`,
-- with one space between. USER, CLIENT and HOST take the place of the options -u, -c and -H of a client (Command-Line Reference, "Global options").
use Rattle.std.specs.Prelude.{ℕ, ◌&&◌, nat_le, List, [], ◌∷◌, length, codes, if◌then◌else◌, is_ok, option_map, Option, Some, None}
use Rattle.depot_model.specs.depot_path.Bytes.{same}
use Rattle.depot_model.specs.depot_path.Name.{is_name}
use Rattle.depot_model.specs.Filter.{filter_of}
use Rattle.depot_model.specs.declared.request.Caller.{Caller}
use Rattle.wire_text.specs.Parts.{parted}
use Rattle.wire_text.specs.declared.head.Head.{Head}
use Rattle.wire_text.specs.declared.head.Head.TheVariants.{Session, Replica}

-- a caller of three names
abbrev pub are_names : List ℕ → List ℕ → List ℕ → Option Caller
are_names user client host = if is_name user && is_name client && is_name host then Some (record { user = user; client = client; host = host }) else None

abbrev pub session_head : List ℕ → List ℕ → List ℕ → List (List ℕ) → Option Head
session_head user client host [] = option_map Session (are_names user client host)
session_head user client host (_ ∷ _) = None

-- 1 to 60 patterns of a filter
abbrev pub replica_head : List ℕ → List ℕ → List ℕ → List (List ℕ) → Option Head
replica_head client user host patterns =
    if nat_le 1 (length patterns) && nat_le (length patterns) 60 && is_ok (filter_of patterns)
    then option_map (λ caller. Replica caller patterns) (are_names user client host)
    else None

abbrev pub head_of_parts : List (List ℕ) → Option Head
head_of_parts (word ∷ first ∷ second ∷ third ∷ parts) =
    if same word (codes "session") then session_head first second third parts else
    (if same word (codes "replica") then replica_head first second third parts else None)
head_of_parts _ = None

-- the head that a line spells
abbrev pub head_of : List ℕ → Option Head
head_of line = head_of_parts (parted line)

abbrev pub client_of : Head → List ℕ
client_of (Session caller) = caller.client
client_of (Replica caller patterns) = caller.client
