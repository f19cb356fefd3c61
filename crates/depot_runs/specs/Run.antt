-- One thread takes commands of all sessions, one at a place.
use Rattle.std.specs.Prelude.{ℕ, zero, suc, ◌-◌, Bool, List, [], ◌∷◌, ◌++◌, map, Option, Some, None, option_map, if◌then◌else◌, ◌==◌, ◌&&◌, slice_get}
use Rattle.std.specs.Option.{option_flatten}
use Rattle.depot_model.specs.Deeds.{Deed}
use Rattle.depot_model.specs.declared.order.Place.{Place}
use Rattle.depot_model.specs.declared.reply.Row.{Row}
use Rattle.depot_model.specs.declared.request.Caller.{Caller}
use Rattle.depot_model.specs.declared.request.Asked.{Asked}
use Rattle.depot_model.specs.declared.request.Request.{Request}
use Rattle.depot_model.specs.declared.request.Session.{Session}
use Rattle.depot_model.specs.Commands.{step}
use Rattle.depot_model.specs.Places.{Placed, done_at, told_at, taken}
use Rattle.depot_model.specs.Printed.{printed}
use Rattle.depot_model.specs.Rows.{memory_row}
use Rattle.depot_model.specs.Step.{after}

-- ---- what a place names

abbrev pub request_of : Place → Caller → Asked → Request
request_of place caller asked = record {
  caller = caller;
  party = place.party;
  number = place.number;
  moment = place.moment;
  command = asked.command;
  input = asked.input;
  contents = asked.contents;
}

abbrev pub request_by : Place → Option Session → Option Request
request_by place (Some session) = option_map (request_of place session.caller) (slice_get session.commands (place.number - 1))
request_by place None = None

-- The request of a place. Parties and their commands are numbered from 1; a party whose script has no head has no session.
abbrev pub request_at : List (Option Session) → Place → Option Request
request_at sessions place = request_by place (option_flatten (slice_get sessions (place.party - 1)))

abbrev pub placed : List (Option Session) → Place → Placed
placed sessions place = record { request = request_at sessions place; fault = place.fault }

-- ---- one place after another

-- what the command of a place does to the depot before it
abbrev pub deeds_at : List (Option Session) → List Deed → Place → List Deed
deeds_at sessions depot place = done_at step depot (placed sessions place)

-- what the command of a place is answered
abbrev pub rows_at : List (Option Session) → List Deed → Place → List Row
rows_at sessions depot place = told_at step depot (placed sessions place)

-- the depot after the places of an order
abbrev pub run : List (Option Session) → List Deed → List Place → List Deed
run sessions depot order = taken step depot (map (placed sessions) order)

abbrev pub is_place_of : ℕ → ℕ → Place → Bool
is_place_of party number place = (place.party == party) && (place.number == number)

-- The reply to a command of a party: that of its place, over the depot after the places before it. A command without a
-- place found no memory.
abbrev pub reply_to : List (Option Session) → List Deed → List Place → ℕ → ℕ → List Row
reply_to sessions depot [] party number = memory_row ∷ []
reply_to sessions depot (place ∷ order) party number =
    if is_place_of party number place
    then rows_at sessions depot place
    else reply_to sessions (after depot (deeds_at sessions depot place)) order party number

-- the printed reply to a command
abbrev pub output_of : List (Option Session) → List Deed → List Place → ℕ → ℕ → List ℕ
output_of sessions depot order party number = printed (reply_to sessions depot order party number) number

-- the printed replies to a party's first commands, in order
abbrev pub outputs : List (Option Session) → List Deed → List Place → ℕ → ℕ → List ℕ
outputs sessions depot order party zero = []
outputs sessions depot order party (suc n) =
    outputs sessions depot order party n ++ output_of sessions depot order party (suc n)
