-- The owed resolves of a file one after another, by the opening that each leaves, and what is read for them. This project's own choice.
use Rattle.std.specs.Prelude.{◌≡◌, ◌++◌, Bool, List, [], ◌∷◌, Option, Some, None, if◌then◌else◌}
use Rattle.depot_rows.specs.depot_path.Bytes.{same}
use Rattle.depot_rows.specs.db_records.declared.table.TableId.TheVariants as table_ids
use Rattle.depot_rows.specs.table_changes.Changed.{AllRows}
use Rattle.depot_rows.specs.depot_model.declared.command.Taking.{Taking}
use Rattle.depot_rows.specs.depot_model.declared.command.Taking.TheVariants.{Theirs, Yours}
use Rattle.depot_rows.specs.depot_model.declared.request.Caller.{Caller}
use Rattle.depot_rows.specs.depot_model.Deeds.{Deed, Opening, Owing}
use Rattle.depot_rows.specs.depot_model.Latest.{when}
use Rattle.depot_rows.specs.depot_model.Revisions.{is_live_at}
use Rattle.depot_rows.specs.depot_model.Rules.{IsSound}
use Rattle.depot_rows.specs.depot_model.Step.{Step, both, nothing}
use Rattle.depot_rows.specs.depot_model.Steps.Resolving.{resolve_one, source_at}
use Rattle.depot_rows.specs.Effects.{Follow}
use Rattle.depot_rows.specs.Standing.{HasRows}
use Rattle.depot_rows.specs.declared.deed.Deed.{Deed as Done}
use Rattle.named_files.specs.Asked.{IsAsker}
use Rattle.named_files.specs.declared.asker.Asker.{Asker}

-- the opening that a resolve from the file itself leaves, by whether its last revision is live, if it leaves one
abbrev pub left_own : Bool → Taking → Opening → Owing → Option Opening
left_own live Theirs o r = if live then Some (record o { base = r.last; source = Some (source_at r) }) else None
left_own live Yours o r = Some (record o { base = r.last; source = None })

-- and that which one from another file leaves
abbrev pub left_other : Taking → Opening → Owing → Opening
left_other Theirs o r = record o { source = Some (source_at r) }
left_other Yours o r = o

abbrev pub left : List Deed → Taking → Opening → Owing → Option Opening
left d taking o r = if same r.from r.path then left_own (is_live_at d r.path r.last) taking o r else Some (left_other taking o r)

-- one resolve after another, until the file is shut
abbrev pub turns : List Deed → Taking → Option Opening → List Owing → Step
turns d taking o [] = nothing
turns d taking None (r ∷ rs) = nothing
turns d taking (Some o) (r ∷ rs) = both (resolve_one d taking o r) (turns d taking (left d taking o r) rs)

-- behind deeds these are done
abbrev pub Adds : List Done → List Done → List Deed → Type 0
Adds old new deeds = (e : List Deed) (done : List Deed) → Follow e old done → Follow e new (done ++ deeds)

-- they are done, and the file stays opened so, or it is shut
pub record IsTurned (old new : List Done) (deeds : List Deed) (is : Option Opening) (stays : Bool) (now : Opening) : Type 0 where
  pub added : Adds old new deeds
  pub left_is : is ≡ when stays now

-- the asker is that of the depot, and so are the forms, the resolves, the opened files and the revisions
pub record Reads (caller : Caller) (asker : Asker) (rows : AllRows) (d : List Deed) : Type 0 where
  pub sound : IsSound d
  pub asked : IsAsker d caller asker
  pub forms : HasRows rows d table_ids.Domain
  pub owed : HasRows rows d table_ids.Resolve
  pub listed : HasRows rows d table_ids.Working
  pub revisions : HasRows rows d table_ids.Rev
