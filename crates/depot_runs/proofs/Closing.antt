-- Replies about jobs and fixes.
use Rattle.std.specs.Fmt.{digits}
use Rattle.depot_model.specs.spec_form.Shapes.{fields_of}
use Rattle.std.proofs.Common.{◌≡◌, List, [], ◌∷◌, ◌++◌, Some, None, refl}
use Rattle.std.specs.Prelude.{codes, decimal}
use Rattle.depot_model.specs.declared.command.Command.TheVariants.{Add, ChangeSave, ChangeDelete, SubmitChange, JobSave, JobShow, Fix, FixDelete, Fixes}
use Rattle.depot_model.specs.Commands.{step}
use Rattle.depot_model.specs.Places.{Placed}
use Rattle.depot_model.specs.spec_form.declared.shape.Shape.TheVariants.{Job as JobShape}
use Rattle.depot_model.specs.spec_form.Form.{FormValue}
use Rattle.depot_model.proofs.Scene.{ann, file, block, does, with_blocks, with_input, reply, row, client_of_ann}
use Rattle.depot_runs.specs.Folds.{job_state, fix_state}
use Rattle.depot_model.specs.Fixes.{fix_form}

abbrev saves_job : Placed
saves_job = with_input ann JobSave (codes "Job: new\nStatus: open\nUser: ann\nDescription:\n\tx\n")

saves : reply [] saves_job ≡ row (codes "Job" ∷ codes "job000001" ∷ codes "action" ∷ codes "saved" ∷ []) ∷ []
unfolding fields_of digits
saves = refl

abbrev new_change : Placed
new_change = with_input ann ChangeSave (codes "Change:\tnew\nDescription:\n\tx\n")

abbrev before : List Placed
before = client_of_ann ∷ saves_job ∷ new_change ∷ new_change ∷ does ann (Add (Some 1) None (file (codes "//ws1/a") ∷ [])) ∷ []

abbrev fixes_it : Placed
fixes_it = does ann (Fix 1 (codes "job000001" ∷ []))

abbrev fixed : List Placed
fixed = before ++ fixes_it ∷ []

fixes : reply before fixes_it ≡ row (codes "Job" ∷ codes "job000001" ∷ codes "Change" ∷ decimal 1 ∷ codes "action" ∷ codes "fixed" ∷ []) ∷ []
unfolding fields_of digits
fixes = refl

refuses_delete : reply fixed (does ann (ChangeDelete 1)) ≡ row (codes "code" ∷ decimal 37 ∷ codes "name" ∷ codes "Fixed" ∷ codes "change" ∷ decimal 1 ∷ []) ∷ []
unfolding fields_of digits
refuses_delete = refl

abbrev sends : Placed
sends = with_blocks ann (SubmitChange 1) (block (codes "//ws1/a") (codes "x") ∷ [])

submits : reply fixed sends ≡ row (codes "depotFile" ∷ codes "//depot/a" ∷ codes "rev" ∷ decimal 1 ∷ codes "action" ∷ codes "add" ∷ []) ∷ row (codes "submittedChange" ∷ decimal 3 ∷ []) ∷ []
unfolding fields_of digits
submits = refl

lists : reply (fixed ++ sends ∷ []) (does ann (Fixes None (Some (codes "job000001")))) ≡ row (codes "Job" ∷ codes "job000001" ∷ codes "Change" ∷ codes "3" ∷ codes "User" ∷ codes "ann" ∷ []) ∷ []
unfolding fields_of digits
lists = refl

is_closed : reply (fixed ++ sends ∷ []) (does ann (JobShow (Some (codes "job000001")))) ≡ row (codes "Job" ∷ codes "job000001" ∷ codes "Status" ∷ codes "closed" ∷ codes "User" ∷ codes "ann" ∷ (codes "Description" ++ decimal 0) ∷ codes "x" ∷ []) ∷ []
unfolding fields_of digits
is_closed = refl

no_job : reply (fixed ++ sends ∷ []) (does ann (Fix 3 (codes "job000009" ∷ []))) ≡ row (codes "code" ∷ decimal 36 ∷ codes "name" ∷ codes "NoSuchJob" ∷ codes "job" ∷ codes "job000009" ∷ []) ∷ []
unfolding fields_of digits
no_job = refl

-- the next job has the next number
next : reply (saves_job ∷ []) saves_job ≡ row (codes "Job" ∷ codes "job000002" ∷ codes "action" ∷ codes "saved" ∷ []) ∷ []
unfolding fields_of digits
next = refl

removes : reply fixed (does ann (FixDelete 1 (codes "job000001" ∷ codes "job000001" ∷ []))) ≡ row (codes "Job" ∷ codes "job000001" ∷ codes "Change" ∷ decimal 1 ∷ codes "action" ∷ codes "deleted" ∷ []) ∷ []
unfolding fields_of digits
removes = refl

-- the folds: the job is closed, and its fix is one of change 3
abbrev closed_job : FormValue
closed_job = record { shape = JobShape; fields = record { name = codes "Job"; lines = codes "job000001" ∷ [] } ∷ record { name = codes "Status"; lines = codes "closed" ∷ [] } ∷ record { name = codes "User"; lines = codes "ann" ∷ [] } ∷ record { name = codes "Description"; lines = codes "x" ∷ [] } ∷ [] }

job_folds : job_state step [] (fixed ++ sends ∷ []) (codes "job000001") ≡ Some closed_job
unfolding fields_of digits
job_folds = refl

fix_folds : fix_state step [] (fixed ++ sends ∷ []) (codes "job000001") 3 ≡ Some (fix_form (codes "job000001") 3 (codes "ann") (codes "on"))
unfolding fields_of digits
fix_folds = refl
