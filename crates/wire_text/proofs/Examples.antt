-- Worked rows: what small scripts say.
use Rattle.std.proofs.Common.{◌≡◌, [], ◌∷◌, Some, None, refl}
use Rattle.std.specs.Prelude.{codes}
use Rattle.depot_model.specs.declared.line.Line.TheVariants.{Words}
use Rattle.wire_text.specs.Contents.{contents_after}
use Rattle.wire_text.specs.Script.{script_of, headless, fault_at}
use Rattle.wire_text.specs.Words.{words_from}
use Rattle.wire_text.specs.declared.entry.Entry.{Entry}
use Rattle.wire_text.specs.declared.entry.Entry.TheVariants.{Put, Clear, Command}
use Rattle.wire_text.specs.declared.fault.ScriptFaultKind.TheVariants.{BadHead, BadData, Cut, LongData}
use Rattle.wire_text.specs.declared.head.Head.{Head}
use Rattle.wire_text.specs.declared.head.Head.TheVariants.{Session}

ann : Head
ann = Session (record { user = codes "ann"; client = codes "w"; host = codes "h" })

counter : Entry
counter = Command (record { number = 1; line = Words (codes "p4" ∷ codes "x" ∷ []); input = None })

-- no bytes at all are cut at 0
empty : script_of [] ≡ headless (fault_at Cut 0)
empty = refl

-- the head alone is a whole script
alone : script_of (codes "session ann w h\n") ≡ record { head = Some ann; entries = []; fault = None }
unfolding ann
alone = refl

-- a head without its line feed is cut at its length
half : script_of (codes "session ann w h") ≡ headless (fault_at Cut 15)
half = refl

no_client : script_of (codes "session ann\n") ≡ headless (fault_at BadHead 0)
no_client = refl

-- an input block that ends too early, behind a command
cut : script_of (codes "session ann w h\np4 x\ninput 10\nabc") ≡ record { head = Some ann; entries = counter ∷ []; fault = Some (fault_at Cut 33) }
unfolding ann counter
cut = refl

-- an input that waits at the end
waits : script_of (codes "session ann w h\ninput 1\na\n") ≡ record { head = Some ann; entries = []; fault = Some (fault_at Cut 26) }
unfolding ann
waits = refl

-- the last space of a `file` line parts the length from the path; a block may hold line feeds
blocks : script_of (codes "session ann w h\nfile //w/a b 03\nx\ny\nclear //w/c\n") ≡ record { head = Some ann; entries = Put (record { path = codes "//w/a b"; bytes = codes "x\ny" }) ∷ Clear (codes "//w/c") ∷ []; fault = None }
unfolding ann
blocks = refl

-- a path of another client, and a block that is too long
other : script_of (codes "session ann w h\n\nclear //v/c\n") ≡ record { head = Some ann; entries = []; fault = Some (fault_at BadData 17) }
unfolding ann
other = refl

long : script_of (codes "session ann w h\n\ninput 8388609\n") ≡ record { head = Some ann; entries = []; fault = Some (fault_at LongData 17) }
unfolding ann
long = refl

-- words
quoted : words_from 0 (codes " a  \"b c\" \"\" ") ≡ Some (codes "a" ∷ codes "b c" ∷ [] ∷ [])
quoted = refl

joined : words_from 0 (codes "a\"b\"") ≡ None
joined = refl

open_quote : words_from 0 (codes "\"b") ≡ None
open_quote = refl

-- a file that is set anew keeps its place, and one that was cleared comes last
set_anew : contents_after [] (Put (record { path = codes "a"; bytes = codes "1" }) ∷ Put (record { path = codes "b"; bytes = codes "2" }) ∷ Put (record { path = codes "a"; bytes = codes "3" }) ∷ []) ≡ (codes "a", codes "3") ∷ (codes "b", codes "2") ∷ []
set_anew = refl

cleared : contents_after [] (Put (record { path = codes "a"; bytes = codes "1" }) ∷ Put (record { path = codes "b"; bytes = codes "2" }) ∷ Clear (codes "a") ∷ Put (record { path = codes "a"; bytes = codes "3" }) ∷ []) ≡ (codes "b", codes "2") ∷ (codes "a", codes "3") ∷ []
cleared = refl
