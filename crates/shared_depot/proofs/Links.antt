-- What a link to the journal of a depot at work tells: texts that go on from those that it told, of groups that the journal has.
use Rattle.std.proofs.Common.{◌≡◌, ◌+◌, ◌++◌, ◌∷◌, [], ℕ, Bool, true, false, List, length, map, Result, Ok, Err, refl, sym, ap, subst, ◌∙◌, append_assoc, append-nil, arith}
use Rattle.std.specs.Prelude.{IfOk, OnErr}
use Rattle.std.specs.Result.{IsErr}
use Rattle.std.proofs.lemmas.Bool.{true≢false}
use Rattle.std.proofs.lemmas.List.{length-append, map-append}
use mathlib.Core.List.{IsPrefix}
use Rattle.depot_commit.specs.Fetching.{HasTexts}
use Rattle.depot_commit.specs.Growing.{Chronicle, grown}
use Rattle.depot_commit.specs.Opening.{opens_generation}
use Rattle.depot_rows.specs.db_records.declared.change.Change.{Change}
use Rattle.depot_rows.specs.depot_model.Deeds.{Deed}
use Rattle.depot_rows.specs.table_changes.Changed.{AllRows}
use Rattle.depot_rows.specs.table_store.declared.tables.Tables.{Tables}
use Rattle.disk_journal.specs.declared.journal.Journal.{Journal}
use Rattle.journal_groups.specs.Groups.{groups_text}
use Rattle.locked_tables.specs.Known.{PartyKnown}
use Rattle.locked_tables.specs.Taken.{of_party}
use Rattle.locked_tables.specs.declared.taken.Taken.{Taken}
use Rattle.outside_api.specs.Count.{HasCause}
use Rattle.outside_api.specs.Disk.{Files}
use Rattle.outside_api.specs.Link.{IsEarlier}
use Rattle.outside_api.specs.Reaching.{Reaches, holds}
use Rattle.outside_api.specs.Says.{DiskSays}
use Rattle.order_words.proofs.Prefixes.{prefix_self, prefix_trans}
use Rattle.party_marks.specs.declared.mark.Mark.{Mark}
use Rattle.replica_pull.proofs.Taking.{groups_joined}
use Rattle.replica_turns.proofs.Along.{journal_after}
use Rattle.replica_turns.proofs.Following.{has_texts}
use Rattle.replica_turns.proofs.Masters.{earlier_by}
use Rattle.replica_turns.specs.Master.{texts_in}
use Rattle.shared_depot.proofs.Quietly.{chronicle_append}
use Rattle.shared_depot.specs.Common.{HasRunOrder, Masters, chronicle_after}
use Rattle.shared_depot.specs.Link.{HasHeardPlaces, TellsAll, TellsJournal}

-- ---- texts that go on

abbrev texts : List (List (List Change)) → List (List ℕ)
texts generations = map (groups_text 1) generations

-- these texts are those of the groups, with more of the newest generation and more generations
abbrev GoesOn : Chronicle → List (List ℕ) → Type 0
GoesOn c all = (more : List ℕ) × (behind : List (List ℕ)) × (all ≡ texts c.closed ++ (groups_text 1 c.newest ++ more) ∷ behind)

on_from : (opens fault : Bool) (changes : List Change) (c : Chronicle) (all : List (List ℕ)) → GoesOn (grown opens fault changes c) all → GoesOn c all
on_from opens fault [] c all on = on
on_from opens true (change ∷ changes) c all on = on
on_from false false (change ∷ changes) c all on =
    let next = groups_text (1 + length c.newest) ((change ∷ changes) ∷ []) in
    let joined : groups_text 1 (c.newest ++ (change ∷ changes) ∷ []) ++ on.0 ≡ groups_text 1 c.newest ++ (next ++ on.0) =
    ap (λ (t : List ℕ). t ++ on.0) (groups_joined 1 c.newest ((change ∷ changes) ∷ [])) ∙ append_assoc (groups_text 1 c.newest) next on.0 in
    (next ++ on.0, on.1, on.2 ∙ ap (λ (t : List ℕ). texts c.closed ++ t ∷ on.1) joined)
on_from true false (change ∷ changes) c all on =
    let behind = on.0 ∷ on.1 in (
      [],
      behind,
      on.2
          ∙ ap (λ (t : List (List ℕ)). t ++ behind) (map-append (groups_text 1) c.closed (c.newest ∷ []))
          ∙ append_assoc (texts c.closed) (groups_text 1 c.newest ∷ []) behind
          ∙ ap (λ (t : List ℕ). texts c.closed ++ t ∷ behind) (sym (append-nil (groups_text 1 c.newest))),
    )

goes_on : (c : Chronicle) (order : List Taken) → GoesOn c (texts_in (chronicle_after c order))
goes_on c [] = ([], [], map-append (groups_text 1) c.closed (c.newest ∷ []) ∙ ap (λ (t : List ℕ). texts c.closed ++ t ∷ []) (sym (append-nil (groups_text 1 c.newest))))
goes_on c (entry ∷ order) =
    on_from (opens_generation entry.request) entry.fault entry.changes c (texts_in (chronicle_after c (entry ∷ order)))
    (goes_on (grown (opens_generation entry.request) entry.fault entry.changes c) order)

-- the texts after the first places are earlier than those after all
texts_on : (known order : List Taken) (c : Chronicle) → IsPrefix known order → IsEarlier (texts_in (chronicle_after c known)) (texts_in (chronicle_after c order))
texts_on known order c (rest, is) =
    let old = chronicle_after c known in
    let on = goes_on old rest in
    let whole : texts_in (chronicle_after c order) ≡ texts_in (chronicle_after old rest) = ap (λ (l : List Taken). texts_in (chronicle_after c l)) (sym is) ∙ ap texts_in (chronicle_append c known rest) in
    subst (λ (t : List (List ℕ)). IsEarlier t (texts_in (chronicle_after c order))) (sym (map-append (groups_text 1) old.closed (old.newest ∷ [])))
    (subst (IsEarlier (texts old.closed ++ groups_text 1 old.newest ∷ [])) (sym (whole ∙ on.2)) (earlier_by (texts old.closed) (groups_text 1 old.newest) on.0 on.1))

-- ---- what is told

module _ {D : Type 0} (disk_says : DiskSays D) (end : ℕ) (images : Files → Type 0) (begins : ℕ → List Deed → Type 0) (masters : Masters) where
  -- what is told now of what was told
  pub told_on : (known order : List Taken) → IsPrefix known order → TellsAll disk_says end images begins masters order → (before : List (List ℕ)) → TellsJournal disk_says end images begins masters known before
      → (now : List (List ℕ)) × TellsJournal disk_says end images begins masters order now × IsEarlier before now
  told_on known order later all before told = (
    texts_in (chronicle_after told.first order),
    all told.since told.past told.start told.first told.begun told.followed,
    subst (λ (t : List (List ℕ)). IsEarlier t (texts_in (chronicle_after told.first order))) (sym told.are) (texts_on known order told.first later),
  )

  -- it is the journal as it is
  pub told_itself : (order : List Taken) (now : List (List ℕ)) → TellsJournal disk_says end images begins masters order now → IsEarlier now now
  told_itself order now told = subst (λ (t : List (List ℕ)). IsEarlier t t) (sym told.are) (texts_on order order told.first (prefix_self order))

  module _ (rows : AllRows) (order : List Taken) (tables : Tables) (journal : Journal D) (was : HasRunOrder disk_says rows end images begins masters order tables journal) where
    -- tables and a journal that have run an order tell its journal
    pub tells_run : TellsAll disk_says end images begins masters order
    tells_run since past start c at begun = record {
      since = since;
      past = past;
      start = start;
      first = c;
      begun = at;
      followed = begun;
      are = refl;
      are_groups = (was.written since past start c at begun).groups.are_groups;
      fit = (was.written since past start c at begun).fit;
      changes = λ archive all. journal_after disk_says past start _ _ _ (was.followed archive all since past start c at begun);
    }

    -- of these texts
    pub has_told : ((disk : D) (files : Files) → disk_says.seen disk files → disk_says.may_leave disk files) → (now : List (List ℕ)) → TellsJournal disk_says end images begins masters order now → HasTexts disk_says journal now
    has_told reads now told =
        subst (HasTexts disk_says journal) (sym told.are) (has_texts disk_says reads journal (chronicle_after told.first order) (was.written told.since told.past told.start told.first told.begun told.followed).groups)

-- ---- what a party learns

pub heard_all : (old new : PartyKnown) (order : List Taken) → new ≡ record old { list = order } → IsPrefix old.list order → of_party old.party order ≡ of_party old.party old.list → HasHeardPlaces old new
heard_all old new order told begins own =
    let known : new.list ≡ order = ap (λ (k : PartyKnown). k.list) told in
    record {
      party = ap (λ (k : PartyKnown). k.party) told;
      later = subst (IsPrefix old.list) (sym known) begins;
      own = subst (λ (l : List Taken). of_party old.party l ≡ of_party old.party old.list) (sym known) own;
    }

pub heard_then : (old mid new : PartyKnown) → HasHeardPlaces old mid → HasHeardPlaces mid new → HasHeardPlaces old new
heard_then old mid new first second = record {
  party = second.party ∙ first.party;
  later = prefix_trans old.list mid.list new.list first.later second.later;
  own = subst (λ (party : ℕ). of_party party new.list ≡ of_party party mid.list) first.party second.own ∙ first.own;
}

-- over calls of a link, one after another
pub heard_along : {L : Type 0} (pass : L → PartyKnown) (Kept : L → L → Type 0) {old new : L} → Reaches (λ a b. HasHeardPlaces (pass a) (pass b) × Kept a b) old new → HasHeardPlaces (pass old) (pass new)
heard_along pass Kept {old} calls =
    holds (λ link. HasHeardPlaces (pass old) (pass link)) (record { party = refl; later = prefix_self (pass old).list; own = refl })
    (λ mid next heard call. heard_then (pass old) (pass mid) (pass next) heard call.0) calls

-- ---- an answer that is told on

pub ok_told : {T E F : Type 0} (answer : Result T E) (told : Result T F) (P : T → Type 0) → IfOk told (λ x. answer ≡ Ok x) → IfOk answer P → IfOk told P
ok_told answer (Ok x) P same has = subst (λ o. IfOk o P) same has
ok_told answer (Err e) P same has = tt

pub err_has : {T E : Type 0} (answer : Result T E) (P : Type 0) → OnErr answer P → IsErr answer → P
err_has (Ok x) P has err = absurd (true≢false (sym err))
err_has (Err e) P has err = has

-- ---- marks

-- what has its cause by marks of one kind, with those of the other kind behind them
pub cause_before : {T E : Type 0} (old new behind : List Mark) (answer : Result T E) → HasCause (length old) (length new) answer → HasCause (length (old ++ behind)) (length (new ++ behind)) answer
cause_before old new behind (Ok x) cause =
    let before = length-append old behind in
    let now = length-append new behind in
    let le = cause.never_falls in
    record { never_falls = omega (arith, before, now, le); risen = tt }
cause_before old new behind (Err e) cause =
    let before = length-append old behind in
    let now = length-append new behind in
    let le = cause.never_falls in
    let more = cause.risen in
    record { never_falls = omega (arith, before, now, le); risen = omega (arith, before, now, le, more) }
