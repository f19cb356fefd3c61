-- Steps that only tell have no deed.
use Rattle.std.proofs.Common.{ℕ, Bool, true, false, List, [], ◌∷◌, Option, Some, None}
use Rattle.std.specs.Prelude.{◌&&◌, ◌==◌, not, length}
use Rattle.depot_model.specs.view_map.Mapping.{path_in}
use Rattle.depot_model.specs.Arguments.{named, submitted, had, no_file}
use Rattle.depot_model.specs.Asking.{view, to_read}
use Rattle.depot_model.specs.Deeds.{Deed, Pending, Landing}
use Rattle.depot_model.specs.Fixes.{job}
use Rattle.depot_model.specs.Numbers.{pending, landing}
use Rattle.depot_model.specs.Revisions.{is_live}
use Rattle.depot_model.specs.Step.{nothing, tells, refuses, unless, refuse_if}
use Rattle.depot_model.specs.Steps.Changing.{change_show, show_landed}
use Rattle.depot_model.specs.Steps.History.{log_file, filelog, integrated, print, print_chosen, describe, describe_landed, describe_pending, landed_files, fstat, stat_file}
use Rattle.depot_model.specs.Steps.Jobs.{job_show}
use Rattle.depot_model.specs.Steps.Listing.{Numbered, chosen_revision, listed, file_row, files, tells_file, tells_revision}
use Rattle.depot_model.specs.Steps.Opening.{right_refusal}
use Rattle.depot_model.specs.Steps.Placing.{have_row, have_step, where_is, told, tell_place}
use Rattle.depot_model.specs.Steps.Reverting.{opened_step, opened_files, show_opened, not_open}
use Rattle.depot_model.specs.Steps.Shelving.{describe_shelved, describe_kept, shelf_refusal}
use Rattle.depot_model.specs.declared.command.FileArgument.{FileArgument}
use Rattle.depot_model.specs.declared.refusal.Refusal.TheVariants.{NotInView, NoSuchChange}
use Rattle.depot_model.specs.declared.request.Caller.{Caller}
use Rattle.step_tables.proofs.Combining.{Stays, only_tells, stays_unless, stays_if, stays_where, stays_over, stays_over_all}

module _ (d : List Deed) (caller : Caller) where
  pub where_stays : (paths : List FileArgument) → Stays [] (where_is d caller paths)
  where_stays paths = stays_over (told d caller) (λ a. tell_place d caller)
      (λ a path. stays_where _ (λ place. only_tells _) nothing (only_tells _) (path_in (view d caller.client) path))
      (λ a. refuses (NotInView a.text)) (λ a. only_tells _) [] paths

  pub have_stays : (arguments : List FileArgument) → Stays [] (have_step d caller arguments)
  have_stays arguments = stays_over_all (named true d caller (had d caller.client)) (λ a path. tells (have_row d caller path ∷ []))
      (λ a path. only_tells _) no_file (λ a. only_tells _) arguments

  pub opened_stays : (all : Bool) (arguments : List FileArgument) → Stays [] (opened_step d caller all arguments)
  opened_stays all arguments =
      stays_over_all (named true d caller (opened_files all d caller)) (show_opened all d caller) (λ a path. only_tells _) not_open (λ a. only_tells _) arguments

  pub integrated_stays : (arguments : List FileArgument) → Stays [] (integrated d caller arguments)
  integrated_stays arguments = stays_over (named false d caller (submitted d)) (λ a path. tells _) (λ a path. only_tells _) no_file (λ a. only_tells _) [] arguments

  pub filelog_stays : (arguments : List FileArgument) → Stays [] (filelog d caller arguments)
  filelog_stays arguments = stays_over (listed d caller) (log_file d caller)
      (λ a path. stays_where _ (λ r. only_tells _) nothing (only_tells _) (chosen_revision d caller a path)) no_file (λ a. only_tells _) [] arguments

  pub print_stays : (arguments : List FileArgument) → Stays [] (print d caller arguments)
  print_stays arguments = stays_over (listed d caller) (λ a path. unless (right_refusal to_read d caller path ∷ []) (print_chosen d caller a path))
      (λ a path. stays_unless (right_refusal to_read d caller path ∷ []) (print_chosen d caller a path)
      (stays_where _ (λ r. only_tells _) nothing (only_tells _) (chosen_revision d caller a path))) no_file (λ a. only_tells _) [] arguments

  pub fstat_stays : (arguments : List FileArgument) → Stays [] (fstat d caller arguments)
  fstat_stays arguments = stays_over (listed d caller) (stat_file d caller)
      (λ a path. stays_where _ (λ r. only_tells _) nothing (only_tells _) (chosen_revision d caller a path)) no_file (λ a. only_tells _) [] arguments

  pub files_stays : (live : Bool) (arguments : List FileArgument) → Stays [] (files d caller live arguments)
  files_stays live arguments = stays_over (listed d caller) (tells_file live d caller)
      (λ a path. stays_where (tells_revision live path) (one path) nothing (only_tells _) (chosen_revision d caller a path)) no_file (λ a. only_tells _) [] arguments
    where
      one : (path : List ℕ) (r : Numbered) → Stays [] (tells_revision live path r)
      one path r = stays_if (live && not (is_live r.made)) nothing (tells (file_row path r ∷ [])) (only_tells _) (only_tells _)

  pub describe_stays : (n : ℕ) → Stays [] (describe d caller n)
  describe_stays n = stays_where (describe_landed d caller) landed (describe_pending d n) (stays_where _ (λ p. only_tells _) _ (only_tells _) (pending d n)) (landing d n)
    where
      landed : (l : Landing) → Stays [] (describe_landed d caller l)
      landed l = stays_unless (refuse_if (length (landed_files d caller l.change) == 0) (NoSuchChange l.change) ∷ []) _ (only_tells _)

  pub change_show_stays : (n : Option ℕ) → Stays [] (change_show d caller n)
  change_show_stays None = only_tells _
  change_show_stays (Some n) = stays_where _ (λ p. only_tells _) (show_landed d n) (stays_where _ (λ l. only_tells _) _ (only_tells _) (landing d n)) (pending d n)

  pub job_show_stays : (name : Option (List ℕ)) → Stays [] (job_show d caller name)
  job_show_stays None = only_tells _
  job_show_stays (Some name) = stays_where _ (λ form. only_tells _) _ (only_tells _) (job d name)

  pub describe_shelved_stays : (n : ℕ) → Stays [] (describe_shelved d caller n)
  describe_shelved_stays n = stays_unless (shelf_refusal d caller n ∷ []) _
      (stays_where (λ (p : Pending). tells (describe_kept d caller p ∷ [])) (λ p. only_tells _) _ (only_tells _) (pending d n))
