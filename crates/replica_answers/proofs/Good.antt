-- An archive with the contents of a depot for which a replica's rows stand is never bad for a reply.
use Rattle.std.proofs.Common.{◌≡◌, ℕ, List, [], ◌∷◌, ◌++◌, drop, get_or, map, Option, Some, None, inl, inr, refl, sym, ap, subst, ◌∙◌}
use Rattle.std.specs.Prelude.{IsSome, option_map}
use Rattle.depot_rows.specs.depot_model.Deeds.{Deed}
use Rattle.depot_rows.specs.depot_model.Records.{digest}
use Rattle.depot_rows.specs.depot_model.declared.reply.Row.{Row}
use Rattle.depot_rows.specs.depot_model.declared.request.Request.{Request}
use Rattle.depot_rows.specs.Standing.{Stand}
use Rattle.depot_rows.specs.table_changes.Changed.{AllRows}
use Rattle.depot_runs.specs.Replica.{replica_reply}
use Rattle.recovery.specs.Contents.{bytes_at}
use Rattle.recovery.specs.Standing.{HasContents}
use Rattle.reply_rows.specs.Made.{waiting}
use Rattle.replica_replies.specs.Prints.{AreShown, IsShown}
use Rattle.replica_replies.proofs.Shown.{reply_shown}
use Rattle.replica_answers.specs.Printing.{EndsBehind, IsBadIn, IsBadPrint}
use Rattle.replica_answers.proofs.Digests.{digested, not_behind, there}

-- the row that waits as this one
pub record IsWaitingFor (d : List Deed) (row : Row) : Type 0 where
  pub told : Row
  pub is : waiting row ≡ waiting told
  pub shown : (content : List ℕ) → told.content ≡ Some content → IsShown d told content

waiting_for : (d : List Deed) (rows : List Row) → AreShown d rows → (before : List Row) (row : Row) (after : List Row) → map waiting (before ++ row ∷ after) ≡ map waiting rows → IsWaitingFor d row
waiting_for d [] are [] row after is = absurd cc
waiting_for d [] are (first ∷ before) row after is = absurd cc
waiting_for d (told ∷ rows) are [] row after is = record { told = told; is = ap (λ (l : List Row). get_or l 0 row) is; shown = are.0 }
waiting_for d (told ∷ rows) are (first ∷ before) row after is = waiting_for d rows are.1 before row after (ap (drop 1) is)

-- a row that has a content waits for one
some_waits : (content : Option (List ℕ)) → IsSome content → IsSome (option_map (λ _. (let none : List ℕ = [] in none)) content)
some_waits None some = absurd cc
some_waits (Some bytes) some = refl

-- it has a content
pub content_there : (content : Option (List ℕ)) → IsSome (option_map (λ _. (let none : List ℕ = [] in none)) content) → (bytes : List ℕ) × (content ≡ Some bytes)
content_there None some = absurd cc
content_there (Some bytes) some = (bytes, refl)

-- a row with the fields of another shows what that shows
pub row_waiting : (d : List Deed) (row told : Row) (content : List ℕ) → row.fields ≡ told.fields → IsShown d told content → IsShown d row content
row_waiting d row told content is shown = record {
  path = shown.path;
  rev = shown.rev;
  made = shown.made;
  shows = record { more = shown.shows.more; fields = is ∙ shown.shows.fields };
  there = shown.there;
  content_is = shown.content_is;
}

pub never_bad : (all : AllRows) (d : List Deed) → Stand all d → (bytes : List ℕ) → HasContents bytes all d → (request : Request) (at : ℕ) → IsBadPrint all request bytes at → ⊥
never_bad all d stand bytes has request at bad =
    let w = waiting_for d (replica_reply d request) (reply_shown d request) bad.before bad.row bad.after (bad.are d stand) in
    let some : IsSome (option_map (λ _. (let none : List ℕ = [] in none)) w.told.content) = subst (λ (r : Row). IsSome r.content) w.is (some_waits bad.row.content bad.waits) in
    let content = content_there w.told.content some in
    let shown = row_waiting d bad.row w.told content.0 (ap (λ (r : Row). r.fields) w.is) (w.shown content.0 content.1) in
    let r = bad.unfit.revision in
    let own = there all d stand bytes has bad.row content.0 shown r bad.unfit.is in
    let sum = digested all d stand bytes has bad.row content.0 shown r bad.unfit.is in
    go (not_behind all d stand bytes has bad.row content.0 shown r bad.unfit.is) (sum ∙ ap digest (sym own.is)) bad.unfit.such
  where
    go : (EndsBehind bytes bad.unfit.revision → ⊥) → bad.unfit.revision.digest ≡ digest (bytes_at bytes bad.unfit.revision) → IsBadIn bytes bad.unfit.revision → ⊥
    go not same (inl behind) = not behind
    go not same (inr other) = other same
