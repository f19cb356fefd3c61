-- The commands that lines ask are well-formed, and their contents short.
use Rattle.std.proofs.Common.{◌≡◌, refl, sym, subst, ℕ, Bool, true, false, List, [], ◌∷◌, Option, Some, None}
use Rattle.std.specs.Prelude.{map, is_some}
use Rattle.std.specs.List.{list_all}
use Rattle.std.proofs.lemmas.List.Elements.{All-nil, All-cons}
use Rattle.std.proofs.lemmas.Bool.{and_parts}
use Rattle.indexmap.specs.IndexMap.{insert_entry, shift_remove_entry}
use Rattle.depot_model.specs.depot_path.Bytes.{same}
use Rattle.depot_model.specs.Contents.{content_of}
use Rattle.depot_model.specs.Filter.{filter_of}
use Rattle.depot_model.specs.declared.filter.FilterRule.{FilterRule}
use Rattle.depot_model.specs.declared.request.Asked.{Asked}
use Rattle.depot_model.specs.declared.request.Session.{Session}
use Rattle.depot_model.proofs.InForce.{all_inserted, all_removed}
use Rattle.command_words.specs.Reading.{command_of}
use Rattle.command_words.proofs.FormedLines.{each_line}
use Rattle.wire_text.specs.declared.entry.Entry.{Entry}
use Rattle.wire_text.specs.declared.entry.Entry.TheVariants.{Put, Clear, Command as Asks}
use Rattle.wire_text.specs.declared.head.Head.{Head}
use Rattle.wire_text.specs.declared.head.Head.TheVariants.{Session as SessionHead, Replica}
use Rattle.wire_text.specs.Script.{script_of, is_short, has_short_content}
use Rattle.wire_text.proofs.Short.{script_short}
use Rattle.session_loop.specs.Asking.{asked_by, asked_from, taken_contents, takes_contents, session_by, session_of, commands_of, rules_of, replica_with, replica_of, replica_commands, asking_of, AreProper, AreWellFormed}

abbrev IsAskedWell : Asked → Type 0
IsAskedWell asked = AreProper asked.command asked.contents

-- ---- contents are short

abbrev are_short : List (List ℕ × List ℕ) → Bool
are_short contents = list_all is_short (map content_of contents)

taken_short : (takes : Bool) (contents : List (List ℕ × List ℕ)) → are_short contents ≡ true → list_all is_short (taken_contents takes contents) ≡ true
taken_short true contents all = all
taken_short false contents all = refl

-- ---- what is asked

entries_ask : (contents : List (List ℕ × List ℕ)) (entries : List Entry) → are_short contents ≡ true → list_all has_short_content entries ≡ true
    → AreWellFormed (asked_from contents entries)
entries_ask contents [] short all = All-nil IsAskedWell
entries_ask contents (Put content ∷ entries) short all =
    entries_ask (insert_entry same contents content.path content.bytes) entries
    (all_inserted is_short contents content.path content.bytes (and_parts (has_short_content (Put content)) (list_all has_short_content entries) all).0 short)
    (and_parts (has_short_content (Put content)) (list_all has_short_content entries) all).1
entries_ask contents (Clear path ∷ entries) short all = entries_ask (shift_remove_entry (same path) contents) entries (all_removed is_short contents path short) all
entries_ask contents (Asks item ∷ entries) short all =
    All-cons IsAskedWell (asked_by contents item) (asked_from contents entries)
    ((each_line item.line (is_some item.input)).value, taken_short (takes_contents (command_of item.line (is_some item.input))) contents short)
    (entries_ask contents entries short all)

pub scripts_ask : (head : Option Head) (entries : List Entry) → list_all has_short_content entries ≡ true → AreWellFormed (commands_of (session_of head entries))
scripts_ask (Some (SessionHead caller)) entries all = entries_ask [] entries refl all
scripts_ask (Some (Replica caller patterns)) entries all = All-nil IsAskedWell
scripts_ask None entries all = All-nil IsAskedWell

with_rules : (rules : Option (List FilterRule)) (session : Session) → AreWellFormed session.commands → AreWellFormed (replica_commands (replica_with rules session))
with_rules (Some rules) session all = all
with_rules None session all = All-nil IsAskedWell

pub replicas_ask : (head : Option Head) (entries : List Entry) → list_all has_short_content entries ≡ true → AreWellFormed (replica_commands (replica_of head entries))
replicas_ask (Some (SessionHead caller)) entries all = All-nil IsAskedWell
replicas_ask (Some (Replica caller patterns)) entries all = with_rules (rules_of (filter_of patterns)) (session_by caller entries) (entries_ask [] entries refl all)
replicas_ask None entries all = All-nil IsAskedWell

pub bytes_ask : (bytes : List ℕ) → AreWellFormed (commands_of (asking_of bytes).session)
bytes_ask bytes = scripts_ask (script_of bytes).head (script_of bytes).entries (script_short bytes)

-- commands that are those of a script's entries
pub asked_well : (commands : List Asked) (entries : List Entry) → commands ≡ asked_from [] entries → list_all has_short_content entries ≡ true → AreWellFormed commands
asked_well commands entries e all = subst AreWellFormed (sym e) (entries_ask [] entries refl all)

pub bytes_ask_replicas : (bytes : List ℕ) → AreWellFormed (replica_commands (asking_of bytes).replica)
bytes_ask_replicas bytes = replicas_ask (script_of bytes).head (script_of bytes).entries (script_short bytes)
