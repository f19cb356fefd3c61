use Rattle.std.proofs.Common.{◌≡◌, ◌∷◌, ℕ, List, ◌++◌, ◌-◌, length, take, drop, ap, ◌∙◌, append_assoc}
use Rattle.depot_rows.specs.depot_model.declared.command.FileArgument.{FileArgument}
use Rattle.depot_rows.specs.depot_model.declared.reply.Row.{Row}
use Rattle.depot_rows.specs.depot_model.declared.request.Caller.{Caller}
use Rattle.depot_rows.specs.depot_model.Deeds.{Deed}
use Rattle.history_query.specs.Directories.{missing_rows, new_rows, taken_after, texts_of, told_after}
use Rattle.history_query.proofs.Pushed.{parted}
use Rattle.history_query.proofs.dir_rows.rows_for.Goals as goal

-- the rows of an argument and of those behind it are told where its own are added, and its directories taken
told_on : (d : List Deed) (caller : Caller) (argument : FileArgument) (later : List FileArgument) (rows made : List Row) (taken after : List (List ℕ))
    → made ≡ rows ++ (missing_rows argument (texts_of d caller argument) ++ new_rows taken (texts_of d caller argument)) → after ≡ taken_after taken (texts_of d caller argument)
    → made ++ told_after d caller after later ≡ rows ++ told_after d caller taken (argument ∷ later)
told_on d caller argument later rows made taken after told took =
    (λ i. told i ++ told_after d caller (took i) later)
    ∙ append_assoc rows (missing_rows argument (texts_of d caller argument) ++ new_rows taken (texts_of d caller argument)) _

pub loop-rest-preserved : goal.loop-rest-preserved
loop-rest-preserved c = λ d sound asked has.
    let at = c.loop-rest in
    let caller = c.args.caller.now in
    let rest = at.rest.now in
    let argument = c.argument-item.result in
    let rows : List Row = at.rows in
    let taken : List (List ℕ) = at.taken in
    let told = c.in_ok-add_argument.ensures in
    told_on d caller argument (take (length rest - 1) (drop 1 rest)) rows _ taken _ (told.rows d sound asked has) (told.taken d sound asked has)
    ∙ ap (λ (l : List FileArgument). rows ++ told_after d caller taken l) (parted rest argument c.in-len1-up.len_at_least c.argument-item.is)
    ∙ at.invariant d sound asked has
