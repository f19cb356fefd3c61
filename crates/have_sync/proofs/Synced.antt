-- The step of a file by what rows say of it is the model's.
use Rattle.std.proofs.Common.{◌≡◌, ◌<◌, ◌≤◌, ℕ, Bool, true, false, List, [], ◌∷◌, Option, Some, None, refl, sym, ap, subst, ◌∙◌, arith}
use Rattle.std.specs.Prelude.{◌==◌, ◌&&◌, nat_lt, not, if◌then◌else◌, is_some, option_map}
use Rattle.std.specs.List.{list_any}
use Rattle.std.proofs.lemmas.Bool.Decides.{nat_tests}
use Rattle.depot_rows.specs.depot_path.Path.{is_path}
use Rattle.depot_rows.specs.depot_path.declared.revision.Wanted.{Wanted}
use Rattle.depot_rows.specs.db_records.declared.record.Record.{Record}
use Rattle.depot_rows.specs.db_records.declared.record.Record.TheVariants.{Working}
use Rattle.depot_rows.specs.db_records.declared.rows.WorkingRecord.{WorkingRecord}
use Rattle.depot_rows.specs.table_changes.Changed.{AllRows}
use Rattle.depot_rows.specs.view_map.Mapping.{mapped}
use Rattle.depot_rows.specs.view_map.declared.line.ViewLine.{ViewLine}
use Rattle.depot_rows.specs.view_map.declared.mapped.Mapped.{Mapped}
use Rattle.depot_rows.specs.view_map.declared.mapped.Mapped.TheVariants.{Nothing, At as MappedAt}
use Rattle.depot_rows.specs.depot_model.declared.command.FileArgument.{FileArgument}
use Rattle.depot_rows.specs.depot_model.declared.request.Caller.{Caller}
use Rattle.depot_rows.specs.depot_model.Asking.{view}
use Rattle.depot_rows.specs.depot_model.Choice.{At, chosen, is_live_choice, shown}
use Rattle.depot_rows.specs.depot_model.Deeds.{Deed, Got, Opening, Owe}
use Rattle.depot_rows.specs.depot_model.Opened.{opened}
use Rattle.depot_rows.specs.depot_model.Records.{working_record}
use Rattle.depot_rows.specs.depot_model.Revisions.{is_live_at}
use Rattle.depot_rows.specs.depot_model.Step.{Step as ModelStep, nothing}
use Rattle.depot_rows.specs.depot_model.Steps.Opening.{held}
use Rattle.depot_rows.specs.depot_model.Steps.Syncing.{is_owed, size_of, sync_have, sync_opened, sync_row, sync_to, wanted_rev}
use Rattle.depot_rows.specs.Effects.{Follow}
use Rattle.depot_rows.specs.declared.deed.Deed.TheVariants as dones
use Rattle.depot_rows.specs.declared.deed.Held.{Held}
use Rattle.depot_rows.specs.declared.deed.Owing.{Owing}
use Rattle.reply_rows.specs.Made.{IsMade}
use Rattle.reply_rows.specs.declared.step.Step.{Step}
use Rattle.revision_reads.specs.Shown.{shown_in}
use Rattle.have_sync.specs.Syncing.{changed_row, get_step, owe_step}

-- ---- deeds that may follow

abbrev pub own_file : Caller → List ℕ → Held
own_file caller path = record { client = caller.client; path = path }

pub may_get : (e : List Deed) (caller : Caller) (path : List ℕ) (rev : ℕ) (file : Held) → is_path path ≡ true → file ≡ own_file caller path
    → Follow e (dones.Got file rev ∷ []) (Got (held caller path) rev ∷ [])
may_get e caller path rev file is own =
    let here : Follow e (dones.Got (own_file caller path) rev ∷ []) (Got (held caller path) rev ∷ []) = (refl, is, tt) in
    subst (λ (f : Held). Follow e (dones.Got f rev ∷ []) (Got (held caller path) rev ∷ [])) (sym own) here

abbrev pub own_resolve : Caller → List ℕ → ℕ → ℕ → Owing
own_resolve caller path first last = record { client = caller.client; path = path; from = path; first = first; last = last }

pub may_owe : (e : List Deed) (caller : Caller) (path : List ℕ) (first last : ℕ) (owing : Owing) → is_path path ≡ true → owing ≡ own_resolve caller path first last
    → Follow e (dones.Owe owing ∷ []) (Owe (record { client = caller.client; path = path; from = path; first = first; last = last }) ∷ [])
may_owe e caller path first last owing is own =
    let here : Follow e (dones.Owe (own_resolve caller path first last) ∷ []) (Owe (record { client = caller.client; path = path; from = path; first = first; last = last }) ∷ [])
    = (refl, (is, is), tt) in
    subst (λ (o : Owing). Follow e (dones.Owe o ∷ []) (Owe (record { client = caller.client; path = path; from = path; first = first; last = last }) ∷ [])) (sym own) here

-- ---- files that aren't opened

pub changed_bare : (d : List Deed) (caller : Caller) (path : List ℕ) (had wanted : ℕ) (word : List ℕ) → (changed_row d caller path had wanted word).content ≡ None
changed_bare d caller path had wanted word = go (wanted == 0)
  where
    go : (b : Bool) → (if b then sync_row d caller path had word None else sync_row d caller path wanted word (size_of d path wanted)).content ≡ None
    go true = refl
    go false = refl

-- the step by what becomes of the revision
abbrev pub have_by : List Deed → Caller → List ℕ → ℕ → ℕ → Option (List ℕ) → ModelStep
have_by d caller path had wanted said = elim said [ None ↦ nothing | Some word ↦ get_step d caller path had wanted word ]

module _ (d : List Deed) (caller : Caller) (argument : FileArgument) (path : List ℕ) where
  shown_in_place : (wanted : Wanted) (place : Mapped) → shown_in d caller wanted place ≡ (elim place [
    | Nothing ↦ None
    | MappedAt p rivals ↦ if list_any (λ rival. is_live_choice d rival (chosen d caller rival wanted)) rivals then None else Some p
  ])
  shown_in_place wanted Nothing = refl
  shown_in_place wanted (MappedAt p rivals) = refl

  pub shown_is : (lines : List ViewLine) (wanted : Wanted) → lines ≡ view d caller.client → shown_in d caller wanted (mapped lines path) ≡ shown d caller wanted path
  shown_is lines wanted are = ap (λ (ls : List ViewLine). shown_in d caller wanted (mapped ls path)) are ∙ shown_in_place wanted (mapped (view d caller.client) path)

  gone : (seen : Bool) (n : ℕ) → 0 ≡ (if seen && false then n else 0)
  gone true n = refl
  gone false n = refl

  pub not_live : (n : ℕ) (live : Bool) → live ≡ false → live ≡ is_live_at d path n → 0 ≡ wanted_rev d caller argument path n
  not_live n live off is =
      gone (is_some (shown d caller argument.spec.wanted path)) n
      ∙ ap (λ (b : Bool). if is_some (shown d caller argument.spec.wanted path) && b then n else 0) (sym off ∙ is)

  pub live_shown : (n : ℕ) (live seen : Bool) → live ≡ true → live ≡ is_live_at d path n → seen ≡ is_some (shown d caller argument.spec.wanted path)
      → (if seen then n else 0) ≡ wanted_rev d caller argument path n
  live_shown n live seen on is sees =
      go seen ∙ (λ i. if sees i && (sym on ∙ is) i then n else 0)
    where
      go : (s : Bool) → (if s then n else 0) ≡ (if s && true then n else 0)
      go true = refl
      go false = refl

-- ---- opened files

-- the step by the base, and by whether a resolve is owed
abbrev pub opened_by : List Deed → Caller → List ℕ → ℕ → ℕ → Bool → ModelStep
opened_by d caller path base n owed = if nat_lt base n && not owed then owe_step d caller path base n else nothing

module _ (d : List Deed) (caller : Caller) (path : List ℕ) (n : ℕ) where
  pub of_base : (o : Opening) (base : ℕ) → o.base ≡ base → opened_by d caller path base n (is_owed d caller path n) ≡ sync_opened d caller o path n
  of_base o base is = ap (λ (b : ℕ). opened_by d caller path b n (is_owed d caller path n)) (sym is)

  pub not_behind : (base : ℕ) (owed : Bool) → n ≤ base → nothing ≡ opened_by d caller path base n owed
  not_behind base owed e =
      let later : nat_lt base n ≡ false = grind (arith, nat_tests) in
      ap (λ (b : Bool). if b && not owed then owe_step d caller path base n else nothing) (sym later)

  pub behind : (base : ℕ) (owed : Bool) → base < n → owed ≡ false → owe_step d caller path base n ≡ opened_by d caller path base n owed
  behind base owed e free =
      let sooner : nat_lt base n ≡ true = grind (arith, nat_tests) in
      λ i. if sym sooner i && not (sym free i) then owe_step d caller path base n else nothing

  pub is_owing : (base : ℕ) (owed : Bool) → owed ≡ true → nothing ≡ opened_by d caller path base n owed
  is_owing base owed has = go (nat_lt base n) ∙ ap (λ (b : Bool). opened_by d caller path base n b) (sym has)
    where
      go : (b : Bool) → nothing ≡ (if b && false then owe_step d caller path base n else nothing)
      go true = refl
      go false = refl

-- ---- a file at a choice

module _ (all : AllRows) (d e : List Deed) (caller : Caller) (again : Bool) (argument : FileArgument) (path : List ℕ) (n : ℕ) (step : Step) where
  abbrev sync_by : Option Opening → ModelStep
  sync_by found = elim found as (λ _. ModelStep) [
    | Some o ↦ sync_opened d caller o path n
    | None ↦ sync_have again d caller path (wanted_rev d caller argument path n)
  ]

  abbrev base_in : Option Record → ℕ
  base_in (Some (Working r)) = r.base
  base_in _ = 0

  pub where_opened : (row : WorkingRecord) → Some (Working row) ≡ option_map (working_record d) (opened d caller.client path)
      → ((o : Opening) → o.base ≡ row.base → IsMade all d e (sync_opened d caller o path n) step) → IsMade all d e (sync_to again d caller argument path (At n)) step
  where_opened row is made = go (opened d caller.client path) is
    where
      go : (found : Option Opening) → Some (Working row) ≡ option_map (working_record d) found → IsMade all d e (sync_by found) step
      go None k = absurd cc
      go (Some o) k = made o (sym (ap base_in k))

  pub where_not : None ≡ option_map (working_record d) (opened d caller.client path)
      → IsMade all d e (sync_have again d caller path (wanted_rev d caller argument path n)) step → IsMade all d e (sync_to again d caller argument path (At n)) step
  where_not is made = go (opened d caller.client path) is
    where
      go : (found : Option Opening) → None ≡ option_map (working_record d) found → IsMade all d e (sync_by found) step
      go None k = made
      go (Some o) k = absurd cc
