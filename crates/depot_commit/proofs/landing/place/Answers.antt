use Rattle.std.proofs.Common.{◌≡◌, ◌∷◌, ◌++◌, ℕ, Bool, true, false, List, [], refl, sym, ap, subst, ◌∙◌, arith}
use Rattle.std.specs.Prelude.{IfSome, if◌then◌else◌}
use Rattle.std.proofs.lemmas.Bool.{true≢false}
use Rattle.depot_rows.specs.db_records.declared.change.Change.{Change}
use Rattle.depot_rows.specs.depot_model.Commands.{step}
use Rattle.depot_rows.specs.depot_model.Places.{taken}
use Rattle.depot_rows.specs.depot_model.Step.{after}
use Rattle.depot_rows.specs.table_changes.Changed.{AllFitIn, changed_by, rows_of}
use Rattle.depot_rows.specs.table_store.declared.tables.Tables.{Tables}
use Rattle.disk_journal.specs.Stands.{generation_of_journal, next_number, nothing}
use Rattle.journal_groups.specs.Groups.{AreRecords}
use Rattle.session_loop.specs.Taking.{placed_by}
use Rattle.stored_contents.specs.Placed.{StandAfter}
use Rattle.depot_commit.specs.Committing.{AreRowsAfter}
use Rattle.depot_commit.specs.Growing.{HasGroups, IsWritten}
use Rattle.depot_commit.specs.Opening.{opens_generation}
use Rattle.depot_commit.specs.Storing.{stores_end}
use Rattle.depot_commit.specs.Writing.{IsWritingOf, left_by}
use Rattle.depot_commit.proofs.Finished.{over_unstored, over_unwritten, over_written, standing}
use Rattle.depot_commit.proofs.Growing.{grown_fault, groups_kept, groups_written}
use Rattle.depot_commit.proofs.Outcomes.{answers, told_changes, told_fits, told_placed}
use Rattle.depot_commit.proofs.Beside.{beside_more, rows_so}
use Rattle.depot_commit.proofs.Idle.{counted_fault, grown_unwritten, grows_as, landed_nothing, none_kept, nothing_grows, nothing_ran, ran_as, ran_unwritten, rows_unwritten}
use Rattle.depot_commit.proofs.Writings.{can_write, same_generation}
use Rattle.depot_commit.proofs.landing.place.Goals as goal

pub follow-requires : goal.follow-requires
follow-requires g c = record { fit = λ none. subst (AllFitIn (rows_of c.args.tables.now)) (sym c.as_slice.ensures) (c.requires.fit none) }

pub store-requires-clause-used : goal.store-requires-clause-used
store-requires-clause-used g c = subst (g.S.Store.ends_at c.args.store.now) (sym c.archive_end.ensures.end) c.requires.used

pub store-requires-clause-some : goal.store-requires-clause-some
store-requires-clause-some g c = λ none. c.as_slice-2.ensures ∙ c.requires.some none

pub commit-failed-requires-clause-stands : goal.commit-failed-requires-clause-stands
commit-failed-requires-clause-stands g c = let can = c.requires.can in (can.0, c.in-Ok-settle.ensures.ok can.0 can.1.0 can.1.1)

pub commit-failed-requires-clause-can : goal.commit-failed-requires-clause-can
commit-failed-requires-clause-can g c =
    let can = c.requires.can in
    can_write c.args.journal.now c.settle.new.self c.in-Ok.following.writing c.settle.ensures.number
    (same_generation g.D.Disk.says c.args.journal.now c.settle.new.self can.0 can.1.0 nothing can.1.1 (c.in-Ok-settle.ensures.ok can.0 can.1.0 can.1.1)) c.in-Ok.ensures.can

pub set_archive_end-requires : goal.set_archive_end-requires
set_archive_end-requires g c = let fits = c.in-Ok-store.ensures.fits in omega (arith, fits)

-- ---- nothing is written

pub returns-then-is_unwritten : goal.returns-then-is_unwritten
returns-then-is_unwritten g c =
    let says = g.D.Disk.says in
    let rows = rows_of c.args.tables.now in
    let told = c.args.told in
    let opens = opens_generation c.args.request.now in
    let unwritten = c.is_unwritten.ensures.unwritten c.if-is_unwritten.true in
    let landing = c.land_nothing.ensures in
    let fault = landing.fault ∙ c.is_unread-lost.ensures in
    record {
      can = c.requires.can;
      used = c.requires.used;
      nothing = tt;
      landed = landed_nothing landing.nothing (none_kept told unwritten ∙ ap (λ (b : Bool). if b then [] else told.changes) (sym fault)) (g.met.S.Store.none_stored _ _ c.requires.used);
      ran = λ from before since start places outcome h same proper is t given. nothing_ran fault landing.nothing.1 places c.args.request.now (ran_unwritten told unwritten h c.args.request.now outcome proper c.requests_are_typed.ensures is t);
      answers = λ start places outcome t reply. answers (λ whole. reply (sym fault ∙ whole)) t.of_fault landing.told;
      rows = λ outcome t given. subst (λ (changes : List Change). AreRowsAfter rows changes c.land_nothing.result.answer.place.fault rows) t.changes
          (subst (λ (b : Bool). AreRowsAfter rows told.changes b rows) (sym fault) (rows_unwritten told unwritten rows));
      grows = λ d all outcome stand proper is t has. grows_as fault opens t.changes all (subst (HasGroups says c.args.journal.now) (grown_unwritten told unwritten opens all) has);
      no_call = λ none. (refl, refl, refl);
      never_falls = omega arith;
      never_falls_contents = omega arith;
      counted = record {
        only = λ whole. refl;
        only_contents = λ whole. refl;
        read = λ whole. sym fault ∙ whole;
        cause = λ failed kept. absurd (true≢false (sym failed ∙ (landing.fault ∙ (sym landing.lost ∙ kept))));
        cause_contents = λ lost whole. absurd (true≢false (sym lost ∙ (landing.lost ∙ (c.is_unread-lost.ensures ∙ whole))));
        lost = λ lost. landing.fault ∙ (sym landing.lost ∙ lost);
      };
      no_memory = tt;
    }

pub returns-in-Err-clause-no_memory : goal.returns-in-Err-clause-no_memory
returns-in-Err-clause-no_memory g c = c.is_unwritten.ensures.read c.if-is_unwritten.false

pub returns-in-Err-clause-no_call : goal.returns-in-Err-clause-no_call
returns-in-Err-clause-no_call g c = λ none. (refl, refl, refl)

-- ---- what is in doubt couldn't be settled

pub returns-in-Err-settle : goal.returns-in-Err-settle
returns-in-Err-settle g c =
    let can = c.requires.can in
    let told = c.args.told in
    let landing = c.land_nothing-in-Err-settle.ensures in
    let fault = landing.fault in
    let settle = c.settle.ensures in
    let doubtful = c.in-Err-settle.ensures.err in
    record {
      can = (can.0, (can.1.0, doubtful can.0 can.1.0 can.1.1 refl));
      used = c.requires.used;
      nothing = tt;
      landed = landed_nothing landing.nothing (ap (λ (b : Bool). if b then [] else told.changes) (sym fault)) (g.met.S.Store.none_stored _ _ c.requires.used);
      ran = λ from before since start places outcome h same proper is t given.
          nothing_ran fault landing.nothing.1 places c.args.request.now (over_unwritten h (settle.any_moment h.was h.doubt h.stands) c.args.request.now (doubtful h.was h.doubt h.stands refl));
      answers = λ start places outcome t reply. answers (λ whole. absurd (true≢false (sym fault ∙ whole))) t.of_fault landing.told;
      rows = λ outcome t given. subst (λ (b : Bool). AreRowsAfter (rows_of c.args.tables.now) outcome.changes b (rows_of c.args.tables.now)) (sym fault) refl;
      grows = λ d all outcome stand proper is t has.
          nothing_grows fault (opens_generation c.args.request.now) outcome.changes (grown_fault (opens_generation c.args.request.now) outcome.changes all) (groups_kept has settle.keeps (doubtful has.was has.doubt has.stands refl));
      no_call = λ none. absurd (c.is_unwritten.ensures.some c.if-is_unwritten.false none);
      never_falls = settle.cause.never_falls;
      never_falls_contents = omega arith;
      counted = counted_fault fault (λ kept. c.in-Err-settle.ensures.cause.risen) (λ lost. absurd (true≢false (sym lost ∙ landing.lost)));
      no_memory = tt;
    }

-- ---- a content couldn't be stored

pub returns-in-Err-store : goal.returns-in-Err-store
returns-in-Err-store g c =
    let can = c.requires.can in
    let told = c.args.told in
    let landing = c.land_nothing-in-Err-store.ensures in
    let fault = landing.fault in
    let settle = c.settle.ensures in
    let settled = c.in-Ok-settle.ensures.ok in
    let store = c.in-Err-store.ensures in
    record {
      can = (can.0, (nothing, settled can.0 can.1.0 can.1.1));
      used = subst (g.S.Store.ends_at c.store.new.self) c.archive_end.ensures.end store.unused;
      nothing = tt;
      landed = landed_nothing landing.nothing (ap (λ (b : Bool). if b then [] else told.changes) (sym fault)) store.unstored;
      ran = λ from before since start places outcome h same proper is t given.
          nothing_ran fault landing.nothing.1 places c.args.request.now (over_unstored h (settle.any_moment h.was h.doubt h.stands) c.args.request.now (settled h.was h.doubt h.stands));
      answers = λ start places outcome t reply. answers (λ whole. absurd (true≢false (sym fault ∙ whole))) t.of_fault landing.told;
      rows = λ outcome t given. subst (λ (b : Bool). AreRowsAfter (rows_of c.args.tables.now) outcome.changes b (rows_of c.args.tables.now)) (sym fault) refl;
      grows = λ d all outcome stand proper is t has.
          nothing_grows fault (opens_generation c.args.request.now) outcome.changes (grown_fault (opens_generation c.args.request.now) outcome.changes all) (groups_kept has settle.keeps (settled has.was has.doubt has.stands));
      no_call = λ none. absurd (c.is_unwritten.ensures.some c.if-is_unwritten.false none);
      never_falls = settle.cause.never_falls;
      never_falls_contents = store.cause.never_falls;
      counted = counted_fault fault (λ kept. absurd (true≢false (sym landing.lost ∙ kept))) (λ lost. store.cause.risen);
      no_memory = tt;
    }

-- ---- it was written, or that failed

pub returns : goal.returns
returns g c =
    let can = c.requires.can in
    let tables = c.args.tables.now in
    let rows = rows_of tables in
    let changed = rows_of c.in-Ok.following.changed in
    let now = c.set_archive_end.new.self in
    let journal = c.args.journal.now in
    let number = next_number journal in
    let request = c.args.request.now in
    let opens = opens_generation request in
    let told = c.args.told in
    let writing = left_by c.in-Ok.following.writing in
    let failed = c.commit-failed.result in
    let following = c.in-Ok.ensures in
    let settle = c.settle.ensures in
    let settled = c.in-Ok-settle.ensures.ok in
    let store = c.in-Ok-store.ensures in
    let commit = c.commit-failed.ensures in
    let landing = c.land_stored.ensures in
    let typed = c.requests_are_typed.ensures in
    let some = c.is_unwritten.ensures.some c.if-is_unwritten.false in
    let whole = c.is_unwritten.ensures.read c.if-is_unwritten.false in
    let slice : c.as_slice.result.now ≡ told.changes = c.as_slice.ensures in
    let stored = c.as_slice-2.ensures ∙ sym landing.stored in
    let Given : List Change → Type 0 = λ l. IfSome c.args.changed (λ (given : Tables). rows_of given ≡ changed_by rows l) in
    let Writes : Bool → List Change → Type 0 = λ b l. IsWritingOf rows changed number (generation_of_journal journal) b writing l in
    let Written : Bool → List Change → Type 0 = λ b l. IsWritten number b writing l in
    let written = λ (records : AreRecords told.changes).
    subst (Written opens) slice (subst (λ (b : Bool). Written b c.as_slice.result.now) c.opens-opening.ensures (following.written (subst AreRecords (sym slice) records))) in
    let same_rows : rows_of now ≡ rows_of c.commit-failed.new.tables = λ i table. (c.set_archive_end.ensures.versions table i).rows in
    let done = λ (e : failed ≡ false). same_rows ∙ ap rows_of (commit.landed e) in
    let kept = λ (e : failed ≡ true). same_rows ∙ ap rows_of (commit.failed e) in
    record {
      can = standing (commit.written can.0 (settled can.0 can.1.0 can.1.1));
      used = subst (g.S.Store.ends_at c.store.new.self) (sym c.set_archive_end.ensures.end) store.used;
      nothing = tt;
      landed = record {
        stored = subst (λ (l : List (List ℕ)). g.S.Store.stores l c.args.store.now c.store.new.self) stored store.stored;
        end = c.set_archive_end.ensures.end ∙ (store.end ∙ (λ i. stores_end (stored i) (c.archive_end.ensures.end i)));
        none = λ none. landing.stored ∙ none;
        changes = landing.changes ∙ ap (λ (fault : Bool). if fault then [] else told.changes) (sym landing.fault);
      };
      ran = λ from before since start places outcome h same proper is t given.
          let made = told_changes h.stand is t proper typed in
          let fits = subst (AllFitIn rows) (sym slice) (told_fits h.stand is t) in
          let writes = subst (Writes opens) slice (subst (λ (b : Bool). Writes b c.as_slice.result.now) c.opens-opening.ensures
          (following.writes fits (subst AreRecords (sym slice) made.records) (subst Given (sym (slice ∙ t.changes)) given))) in
          let current = taken step start places in
          let placed = subst (λ (n : ℕ). StandAfter rows n current (after current (step current request).deeds) told.stores told.changes) same (told_placed h.stand is t) in
          let over = over_written h (settle.any_moment h.was h.doubt h.stands) request (settled h.was h.doubt h.stands) told.stores told.changes some writes (written made.records) made placed settle.number commit.written done kept in
          ran_as landing.fault landing.stored before places request (beside_more g.D.Disk.says g.I.Imaging.images from now c.commit-failed.new.journal since start (places ++ placed_by request failed ∷ []) before told.stores over);
      answers = λ start places outcome t reply. answers (λ kept. reply whole) t.of_fault landing.told;
      rows = λ outcome t given.
          let made = subst (λ (l : List Change). changed ≡ changed_by rows l) (slice ∙ t.changes) (following.after (subst Given (sym (slice ∙ t.changes)) given)) in
          rows_so rows changed (rows_of now) outcome.changes c.land_stored.result.answer.place.fault made (λ e. done (sym landing.fault ∙ e)) (λ e. kept (sym landing.fault ∙ e));
      grows = λ d all outcome stand proper is t has.
          grows_as landing.fault opens t.changes all (groups_written has settle.keeps opens told.changes some (written (told_changes stand is t proper typed).records) (commit.written has.was (settled has.was has.doubt has.stands)));
      no_call = λ none. absurd (some none);
      never_falls = let one = settle.cause.never_falls in let two = commit.never_falls in omega (arith, one, two);
      never_falls_contents = store.cause.never_falls;
      counted = record {
        only = λ fine. commit.only (sym landing.fault ∙ fine) ∙ c.in-Ok-settle.ensures.only;
        only_contents = λ fine. store.only;
        read = λ fine. whole;
        cause = λ fault kept. let le = settle.cause.never_falls in let risen = commit.cause (sym landing.fault ∙ fault) in omega (arith, le, risen);
        cause_contents = λ lost read. absurd (true≢false (sym lost ∙ landing.lost));
        lost = λ lost. absurd (true≢false (sym lost ∙ landing.lost));
      };
      no_memory = tt;
    }
