-- Each row of a replica's reply that has a content shows the revision that has it.
use Rattle.std.proofs.Common.{◌≡◌, ℕ, Bool, true, false, List, [], ◌∷◌, ◌++◌, Option, Some, None, Result, Ok, Err, refl, sym, ◌∙◌}
use Rattle.depot_model.specs.declared.command.Command.{Command}
use Rattle.depot_model.specs.declared.command.Command.TheVariants as commands
use Rattle.depot_model.specs.declared.command.FileArgument.{FileArgument}
use Rattle.depot_model.specs.declared.refusal.Refusal.{Refusal}
use Rattle.depot_model.specs.declared.refusal.Refusal.TheVariants.{NoSuchFile}
use Rattle.depot_model.specs.declared.reply.Row.{Row}
use Rattle.depot_model.specs.declared.request.Caller.{Caller}
use Rattle.depot_model.specs.declared.request.Request.{Request}
use Rattle.depot_model.specs.declared.request.WordFault.{WordFault}
use Rattle.depot_model.specs.Arguments.{each_or, no_file, not_in, over}
use Rattle.depot_model.specs.About.{about}
use Rattle.depot_model.specs.Asking.{to_read}
use Rattle.depot_model.specs.Choice.{At, Choice, PassedOver, chosen}
use Rattle.depot_model.specs.Commands.{own_step}
use Rattle.depot_model.specs.Common.{common_refusals, last_refusals, word_refusal}
use Rattle.depot_model.specs.Deeds.{Deed}
use Rattle.depot_model.specs.Refusals.{refusal_row}
use Rattle.depot_model.specs.Revisions.{Revision, revision}
use Rattle.depot_model.specs.Step.{Step, all_of, nothing, tells, unless}
use Rattle.depot_model.specs.Steps.History.{print_chosen, print_row}
use Rattle.depot_model.specs.Steps.Listing.{Numbered, listed, numbered}
use Rattle.depot_model.specs.Steps.Opening.{right_refusal}
use Rattle.depot_runs.specs.Replica.{answered, replica_reply}
use Rattle.reply_rows.proofs.Bare.{AreBare}
use Rattle.replica_replies.specs.Prints.{AreShown, is_print, prints}
use Rattle.replica_replies.proofs.Bare.{refuses_bare, reply_bare}

none_some : {A : Type 0} {x : A} → None ≡ Some x → ⊥
none_some e = cc

module _ (d : List Deed) where
  bare_shown : (rows : List Row) → AreBare rows → AreShown d rows
  bare_shown [] bare = tt
  bare_shown (row ∷ rows) bare = ((λ content is. absurd (none_some (sym bare.0 ∙ is))), bare_shown rows bare.1)

  both_shown : (a b : List Row) → AreShown d a → AreShown d b → AreShown d (a ++ b)
  both_shown [] b h k = k
  both_shown (row ∷ a) b h k = (h.0, both_shown a b h.1 k)

  unless_shown : (tests : List (Option Refusal)) (step : Step) → AreShown d step.rows → AreShown d (unless tests step).rows
  unless_shown [] step shown = shown
  unless_shown (None ∷ tests) step shown = unless_shown tests step shown
  unless_shown (Some why ∷ tests) step shown = bare_shown (refusal_row why ∷ []) (refuses_bare why)

  all_shown : {A : Type 0} (act : A → Step) → ((x : A) → AreShown d (act x).rows) → (xs : List A) → AreShown d (all_of act xs).rows
  all_shown act h [] = tt
  all_shown act h (x ∷ xs) = both_shown (act x).rows (all_of act xs).rows (h x) (all_shown act h xs)

  module _ (paths : FileArgument → List (List ℕ)) (act : FileArgument → List ℕ → Step) (act_shown : (a : FileArgument) (path : List ℕ) → AreShown d (act a path).rows) where
    over_shown : (taken : List (List ℕ)) (arguments : List FileArgument) → AreShown d (over paths no_file act taken arguments).rows
    over_shown taken [] = tt
    over_shown taken (a ∷ arguments) =
        both_shown (each_or (no_file a) (act a) (paths a) (not_in taken (paths a))).rows (over paths no_file act (taken ++ paths a) arguments).rows
        (each (paths a)) (over_shown (taken ++ paths a) arguments)
      where
        each : (named : List (List ℕ)) → AreShown d (each_or (no_file a) (act a) named (not_in taken (paths a))).rows
        each [] = bare_shown (refusal_row (NoSuchFile a.text) ∷ []) (refuses_bare (NoSuchFile a.text))
        each (path ∷ others) = all_shown (act a) (act_shown a) (not_in taken (paths a))

  -- what is printed of the revision that is chosen of a file
  chosen_shown : (path : List ℕ) (choice : Choice)
      → AreShown d (elim (numbered d path choice) as (λ _. Step) [ None ↦ nothing | Some r ↦ tells (print_row path r ∷ []) ]).rows
  chosen_shown path PassedOver = tt
  chosen_shown path (At n) = go (revision d path n) refl
    where
      go : (found : Option Revision) → revision d path n ≡ found
          → AreShown d (elim (elim found as (λ _. Option Numbered) [ None ↦ None | Some r ↦ Some (record { number = n; made = r }) ]) as (λ _. Step) [ None ↦ nothing | Some r ↦ tells (print_row path r ∷ []) ]).rows
      go None there = tt
      go (Some made) there = (
        (λ content is. record { path = path; rev = n; made = made; shows = record { more = _; fields = refl }; there = there; content_is = is }),
        tt,
      )

  module _ (request : Request) where
    abbrev caller : Caller
    caller = request.caller

    print_shown : (files : List FileArgument) → AreShown d (own_step d request (commands.Print files)).rows
    print_shown files = over_shown (listed d caller) (λ argument path. unless (right_refusal to_read d caller path ∷ []) (print_chosen d caller argument path))
        (λ argument path. unless_shown (right_refusal to_read d caller path ∷ []) (print_chosen d caller argument path) (chosen_shown path (chosen d caller path argument.spec.wanted))) [] files

    printed_shown : (command : Command) → is_print command ≡ true → AreShown d (answered d request command)
    printed_shown (commands.Print files) is =
        unless_shown (common_refusals d caller (about (commands.Print files)) ++ last_refusals d (commands.Print files)) (own_step d request (commands.Print files)) (print_shown files)
    printed_shown _ is = absurd cc

    reply_shown_by : (answers : Bool) → prints request.command ≡ answers → AreShown d (replica_reply d request)
    reply_shown_by false other = bare_shown (replica_reply d request) (reply_bare d request other)
    reply_shown_by true is = go request.command is
      where
        go : (asked : Result Command WordFault) → prints asked ≡ true
            → AreShown d (elim asked as (λ _. List Row) [ Err fault ↦ refusal_row (word_refusal fault) ∷ [] | Ok command ↦ answered d request command ])
        go (Ok command) is = printed_shown command is
        go (Err fault) is = absurd cc

pub reply_shown : (d : List Deed) (request : Request) → AreShown d (replica_reply d request)
reply_shown d request = reply_shown_by d request (prints request.command) refl
