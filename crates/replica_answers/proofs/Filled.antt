-- Rows into which contents are put from the first one on.
use Rattle.std.proofs.Common.{◌≡◌, ℕ, zero, suc, ◌<◌, ◌≤◌, List, [], ◌∷◌, ◌++◌, length, map, option_map, take, drop, set, get_or, Option, Some, None, Result, Ok, Err, refl, sym, ap, ◌∙◌, arith, append-nil}
use Rattle.std.specs.Prelude.{IfErr, IfOk}
use Rattle.std.specs.List.{AllByRecursion}
use Rattle.std.proofs.lemmas.List.{drop_all, take_all}
use Rattle.depot_rows.specs.depot_model.declared.reply.Row.{Row}
use Rattle.depot_rows.specs.depot_model.Deeds.{Deed}
use Rattle.depot_rows.specs.depot_model.declared.reply.Reply.{Reply}
use Rattle.depot_rows.specs.depot_model.declared.request.Request.{Request}
use Rattle.depot_rows.specs.Standing.{Stand}
use Rattle.depot_rows.specs.table_changes.Changed.{AllRows}
use Rattle.command_core.specs.Outcomes.{IsFormedBy}
use Rattle.depot_runs.specs.Replica.{replica_reply}
use Rattle.reply_rows.specs.Made.{waiting}
use Rattle.replica_answers.specs.Printing.{AreRowsOf, GrowsTo, IsFirstFault, IsPrintFault}
use Rattle.replica_answers.specs.declared.printing.PrintFault.{PrintFault}
use Rattle.replica_answers.specs.declared.printing.PrintFault.TheVariants.{Absent, BadContent, Failed, Memory}

-- rows of which those from the place k on wait for their contents
abbrev pub filled_to : ℕ → List Row → List Row
filled_to k rows = take k rows ++ map waiting (drop k rows)

pub filled_all : (k : ℕ) (rows : List Row) → length rows ≤ k → filled_to k rows ≡ rows
filled_all k rows le = (λ i. take_all k rows le i ++ map waiting (drop_all k rows le i)) ∙ append-nil rows

-- the row of place k, of which holds what holds of all
pub record Next (P : Row → Type 0) (rows : List Row) (k : ℕ) : Type 0 where
  pub row : Row
  pub here : (d : Row) → get_or (filled_to k rows) k d ≡ waiting row
  pub put : set (filled_to k rows) k row ≡ filled_to (suc k) rows
  pub so : P row

pub next : (P : Row → Type 0) (rows : List Row) → AllByRecursion P rows → (k : ℕ) → k < length rows → Next P rows k
next P [] all k lt = absurd (omega arith)
next P (row ∷ rows) all zero lt = record { row = row; here = λ d. refl; put = refl; so = all.0 }
next P (first ∷ rows) all (suc k) lt =
    let n : Next P rows k = next P rows all.1 k (omega (arith, lt)) in
    record { row = n.row; here = n.here; put = ap (λ (l : List Row). first ∷ l) n.put; so = n.so }

-- another row at a place
pub take_set : (rows : List Row) (k : ℕ) (row : Row) → k < length rows → take (suc k) (set rows k row) ≡ take k rows ++ row ∷ []
take_set [] k row lt = absurd (omega arith)
take_set (first ∷ rows) zero row lt = refl
take_set (first ∷ rows) (suc k) row lt = ap (λ (l : List Row). first ∷ l) (take_set rows k row (omega (arith, lt)))

pub waits_set : (rows : List Row) (k : ℕ) (row d : Row) → waiting row ≡ waiting (get_or rows k d) → map waiting (set rows k row) ≡ map waiting rows
waits_set [] k row d same = refl
waits_set (first ∷ rows) zero row d same = ap (λ (r : Row). r ∷ map waiting rows) same
waits_set (first ∷ rows) (suc k) row d same = ap (λ (l : List Row). waiting first ∷ l) (waits_set rows k row d same)

pub all_push : (P : Row → Type 0) (rows : List Row) (row : Row) → AllByRecursion P rows → P row → AllByRecursion P (rows ++ row ∷ [])
all_push P [] row all is = (is, tt)
all_push P (first ∷ rows) row all is = (all.0, all_push P rows row all.1 is)

-- the rows before a place, that of the place and those behind it
pub around : (rows : List Row) (k : ℕ) (d : Row) → k < length rows → take k rows ++ get_or rows k d ∷ drop (suc k) rows ≡ rows
around [] k d lt = absurd (omega arith)
around (row ∷ rows) zero d lt = refl
around (row ∷ rows) (suc k) d lt = ap (λ (l : List Row). row ∷ l) (around rows k d (omega (arith, lt)))

-- rows that wait wait for the same
pub waiting_twice : (rows : List Row) → map waiting (map waiting rows) ≡ map waiting rows
waiting_twice [] = refl
waiting_twice (row ∷ rows) = λ i. record { fields = row.fields; content = twice row.content i } ∷ waiting_twice rows i
  where
    twice : (content : Option (List ℕ)) → option_map (λ (x : List ℕ). (let none : List ℕ = [] in none)) (option_map (λ (x : List ℕ). (let none : List ℕ = [] in none)) content) ≡ option_map (λ (x : List ℕ). (let none : List ℕ = [] in none)) content
    twice None = refl
    twice (Some x) = refl

-- ---- the reply

module _ (all : AllRows) (request : Request) (rows : List Row) (are : (d : List Deed) → Stand all d → IsFormedBy request → rows ≡ map waiting (replica_reply d request)) (result : Result Reply PrintFault) where
  pub rows_are : IfOk result (λ filled. map waiting filled.rows ≡ map waiting rows) → IfOk result (λ reply. (d : List Deed) → Stand all d → IsFormedBy request → AreRowsOf d request reply.rows)
  rows_are same = go result same
    where
      go : (r : Result Reply PrintFault) → IfOk r (λ filled. map waiting filled.rows ≡ map waiting rows) → IfOk r (λ reply. (d : List Deed) → Stand all d → IsFormedBy request → AreRowsOf d request reply.rows)
      go (Ok reply) same = λ d stand formed. same ∙ (ap (map waiting) (are d stand formed) ∙ waiting_twice (replica_reply d request))
      go (Err fault) same = same

  pub print_fault : (Tells : List ℕ → Type 0) (bytes : List ℕ) → IsFormedBy request → IfErr result (λ fault. GrowsTo Tells bytes (λ now. IsFirstFault all now rows fault))
      → IfErr result (λ fault. GrowsTo Tells bytes (λ now. IsPrintFault all request now fault))
  print_fault Tells bytes formed is = go result is
    where
      there : (d : List Deed) → Stand all d → (now : List ℕ) (fault : PrintFault) (is : IsFirstFault all now rows fault) → AreRowsOf d request (is.before ++ is.row ∷ is.after)
      there d stand now fault is = sym is.are ∙ (ap (map waiting) (are d stand formed) ∙ waiting_twice (replica_reply d request))

      by : (now : List ℕ) (fault : PrintFault) → IsFirstFault all now rows fault → IsPrintFault all request now fault
      by now (Absent at) is = record { before = is.before; row = is.row; after = is.after; are = λ d stand. there d stand now (Absent at) is; given = is.given; waits = is.waits; unfit = is.fault_is }
      by now (BadContent at) is = record { before = is.before; row = is.row; after = is.after; are = λ d stand. there d stand now (BadContent at) is; given = is.given; waits = is.waits; unfit = is.fault_is }
      by now Failed is = tt
      by now Memory is = tt

      go : (r : Result Reply PrintFault) → IfErr r (λ fault. GrowsTo Tells bytes (λ now. IsFirstFault all now rows fault)) → IfErr r (λ fault. GrowsTo Tells bytes (λ now. IsPrintFault all request now fault))
      go (Ok reply) is = is
      go (Err fault) is = (is.0, (is.1.0, (is.1.1.0, by is.0 fault is.1.1.1)))
