-- The row of each refusal. Codes, names and fields are this project's own choice.
use Rattle.std.specs.Prelude.{ℕ, ◌==◌, if◌then◌else◌, List, [], ◌∷◌, codes}
use Rattle.db_records.specs.depot_path.Fault.{code_of}
use Rattle.depot_model.specs.declared.reply.Row.{Row}
use Rattle.depot_model.specs.declared.refusal.Limit.{Limit}
use Rattle.depot_model.specs.declared.refusal.Limit.TheVariants.{View, Protections, Users, Text, Files, Change, Generation, Shelf, Jobs, Fixes}
use Rattle.depot_model.specs.declared.refusal.Refusal.{Refusal}
use Rattle.depot_model.specs.declared.refusal.Refusal.TheVariants.{UnknownCommand, BadUsage, BadPath, BadRevision, Denied, NoClient, NotInView, NoSuchFile, NoSuchChange, NotYours, AlreadyOpen, NotOpen, ExclusiveOpen, Locked, Stale, MustResolve, NoContent, EmptyChange, BadForm, NoSuchLabel, LabelLocked, NotDeletable, ReadOnly, OverLimit, AllIntegrated, Exists, NotMovable, InMove, Shelved, AlreadyShelved, NotShelvable, NoShelf, NoSuchJob, Fixed, BadArchive}
use Rattle.depot_model.specs.Rows.{text_field, number_field, path_field, coded_row, change_word}

abbrev pub need_word : ℕ → List ℕ
need_word n =
    if n == 1 then codes "list" else (if n == 2 then codes "read" else (if n == 3 then codes "open" else
    (if n == 4 then codes "write" else (if n == 5 then codes "admin" else codes "super"))))

abbrev pub limit_word : Limit → List ℕ
limit_word View = codes "view"
limit_word Protections = codes "protections"
limit_word Users = codes "users"
limit_word Text = codes "text"
limit_word Files = codes "files"
limit_word Change = codes "change"
limit_word Generation = codes "generation"
limit_word Shelf = codes "shelf"
limit_word Jobs = codes "jobs"
limit_word Fixes = codes "fixes"

abbrev pub limit : Limit → ℕ
limit View = 200
limit Protections = 1000
limit Users = 10000
limit Text = 65536
limit Files = 10000
limit Change = 2147483647
limit Generation = 4095
limit Shelf = 16777216
limit Jobs = 999999
limit Fixes = 100

abbrev pub refusal_row : Refusal → Row
refusal_row (UnknownCommand word) = coded_row 1 (codes "UnknownCommand") (text_field (codes "word") word ∷ [])
refusal_row (BadUsage word) = coded_row 2 (codes "BadUsage") (text_field (codes "command") word ∷ [])
refusal_row (BadPath argument fault) =
    coded_row 3 (codes "BadPath") (text_field (codes "argument") argument ∷ number_field (codes "fault") (code_of fault) ∷ [])
refusal_row (BadRevision argument fault) =
    coded_row 4 (codes "BadRevision") (text_field (codes "argument") argument ∷ number_field (codes "fault") (code_of fault) ∷ [])
refusal_row (Denied path needed) = coded_row 5 (codes "Denied") (text_field (codes "path") path ∷ text_field (codes "needed") (need_word needed) ∷ [])
refusal_row (NoClient name) = coded_row 6 (codes "NoClient") (text_field (codes "client") name ∷ [])
refusal_row (NotInView path) = coded_row 7 (codes "NotInView") (text_field (codes "path") path ∷ [])
refusal_row (NoSuchFile argument) = coded_row 8 (codes "NoSuchFile") (text_field (codes "argument") argument ∷ [])
refusal_row (NoSuchChange n) = coded_row 9 (codes "NoSuchChange") (number_field (codes "change") n ∷ [])
refusal_row (NotYours n) = coded_row 10 (codes "NotYours") (number_field (codes "change") n ∷ [])
refusal_row (AlreadyOpen path) = coded_row 11 (codes "AlreadyOpen") (path_field (codes "path") path ∷ [])
refusal_row (NotOpen argument) = coded_row 12 (codes "NotOpen") (text_field (codes "path") argument ∷ [])
refusal_row (ExclusiveOpen path client) =
    coded_row 13 (codes "ExclusiveOpen") (path_field (codes "path") path ∷ text_field (codes "client") client ∷ [])
refusal_row (Locked path client) = coded_row 14 (codes "Locked") (path_field (codes "path") path ∷ text_field (codes "client") client ∷ [])
refusal_row (Stale path base head) =
    coded_row 15 (codes "Stale") (path_field (codes "path") path ∷ number_field (codes "base") base ∷ number_field (codes "head") head ∷ [])
refusal_row (MustResolve path) = coded_row 16 (codes "MustResolve") (path_field (codes "path") path ∷ [])
refusal_row (NoContent path) = coded_row 17 (codes "NoContent") (path_field (codes "path") path ∷ [])
refusal_row (EmptyChange n) = coded_row 18 (codes "EmptyChange") (text_field (codes "change") (change_word n) ∷ [])
refusal_row (BadForm line) = coded_row 19 (codes "BadForm") (number_field (codes "line") line ∷ [])
refusal_row (NoSuchLabel name) = coded_row 20 (codes "NoSuchLabel") (text_field (codes "label") name ∷ [])
refusal_row (LabelLocked name) = coded_row 21 (codes "LabelLocked") (text_field (codes "label") name ∷ [])
refusal_row (NotDeletable n) = coded_row 22 (codes "NotDeletable") (number_field (codes "change") n ∷ [])
refusal_row (ReadOnly word) = coded_row 23 (codes "ReadOnly") (text_field (codes "command") word ∷ [])
refusal_row (OverLimit what) =
    coded_row 24 (codes "Limit") (text_field (codes "what") (limit_word what) ∷ number_field (codes "number") (limit what) ∷ [])
refusal_row (AllIntegrated path) = coded_row 26 (codes "AllIntegrated") (path_field (codes "path") path ∷ [])
refusal_row (Exists path) = coded_row 27 (codes "Exists") (path_field (codes "path") path ∷ [])
refusal_row (NotMovable path) = coded_row 28 (codes "NotMovable") (path_field (codes "path") path ∷ [])
refusal_row (InMove path other) = coded_row 29 (codes "InMove") (path_field (codes "path") path ∷ path_field (codes "other") other ∷ [])
refusal_row (Shelved n) = coded_row 32 (codes "Shelved") (number_field (codes "change") n ∷ [])
refusal_row (AlreadyShelved path) = coded_row 33 (codes "AlreadyShelved") (path_field (codes "path") path ∷ [])
refusal_row (NotShelvable path) = coded_row 34 (codes "NotShelvable") (path_field (codes "path") path ∷ [])
refusal_row (NoShelf n) = coded_row 35 (codes "NoShelf") (number_field (codes "change") n ∷ [])
refusal_row (NoSuchJob job) = coded_row 36 (codes "NoSuchJob") (text_field (codes "job") job ∷ [])
refusal_row (Fixed n) = coded_row 37 (codes "Fixed") (number_field (codes "change") n ∷ [])
refusal_row (BadArchive at) = coded_row 38 (codes "BadArchive") (number_field (codes "at") at ∷ [])
