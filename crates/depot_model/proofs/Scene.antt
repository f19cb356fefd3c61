-- Two sessions, each after a saved client, over a server that has every command.
use Rattle.std.proofs.Common.{ℕ, List, [], ◌∷◌, Option, Some, None, Ok, Err, false}
use Rattle.std.specs.Prelude.{codes}
use Rattle.db_records.specs.depot_path.Pattern.{pattern_of}
use Rattle.db_records.specs.depot_path.Revision.{file_spec_of}
use Rattle.db_records.specs.depot_path.declared.revision.Wanted.TheVariants.{Head}
use Rattle.depot_model.specs.declared.request.Request.{Request}
use Rattle.depot_model.specs.declared.request.Caller.{Caller}
use Rattle.depot_model.specs.declared.request.Content.{Content}
use Rattle.depot_model.specs.declared.reply.Row.{Row}
use Rattle.depot_model.specs.declared.reply.Field.{Field}
use Rattle.depot_model.specs.declared.command.FileArgument.{FileArgument}
use Rattle.depot_model.specs.declared.command.PatternArgument.{PatternArgument}
use Rattle.depot_model.specs.declared.command.Command.{Command}
use Rattle.depot_model.specs.declared.command.Command.TheVariants.{ClientSave}
use Rattle.depot_model.specs.Commands.{step}
use Rattle.depot_model.specs.Deeds.{Deed}
use Rattle.depot_model.specs.Places.{Placed, told_at, taken}

abbrev pub ann : Caller
ann = record { user = codes "ann"; client = codes "ws1"; host = codes "hostA" }

abbrev pub bob : Caller
bob = record { user = codes "bob"; client = codes "ws2"; host = codes "hostB" }

abbrev pub file : List ℕ → FileArgument
file text = record { text = text; spec = elim (file_spec_of text) [ Ok spec ↦ spec | Err fault ↦ record { pattern = []; wanted = Head } ] }

abbrev pub pattern : List ℕ → PatternArgument
pattern text = record { text = text; pattern = elim (pattern_of false text) [ Ok pieces ↦ pieces | Err fault ↦ [] ] }

abbrev pub block : List ℕ → List ℕ → Content
block path bytes = record { path = path; bytes = bytes }

abbrev pub asked : Caller → Command → Option (List ℕ) → List Content → Request
asked caller command input contents = record { caller = caller; party = 1; number = 1; moment = 1700000000; command = Ok command; input = input; contents = contents }

abbrev placed : Request → Placed
placed request = record { request = Some request; fault = false }

abbrev pub does : Caller → Command → Placed
does caller command = placed (asked caller command None [])

abbrev pub with_blocks : Caller → Command → List Content → Placed
with_blocks caller command contents = placed (asked caller command None contents)

abbrev pub with_input : Caller → Command → List ℕ → Placed
with_input caller command input = placed (asked caller command (Some input) [])

abbrev pub saves_client : Caller → List ℕ → Placed
saves_client caller form = with_input caller ClientSave form

-- the depot after places, from the empty one on
abbrev pub after_all : List Placed → List Deed
after_all places = taken step [] places

-- the rows of the last command
abbrev pub reply : List Placed → Placed → List Row
reply before last = told_at step (after_all before) last

abbrev pub fields : List (List ℕ) → List Field
fields [] = []
fields (name ∷ []) = []
fields (name ∷ value ∷ more) = record { name = name; value = value } ∷ fields more

abbrev pub row : List (List ℕ) → Row
row words = record { fields = fields words; content = None }

abbrev pub client_of_ann : Placed
client_of_ann = saves_client ann (codes "Client: ws1\nView:\n\t//depot/... //ws1/...\n")

abbrev pub client_of_bob : Placed
client_of_bob = saves_client bob (codes "Client: ws2\nView:\n\t//depot/... //ws2/...\n")
