use Rattle.std.proofs.Common.{◌≡◌, ◌≤◌, ◌+◌, ◌++◌, ℕ, Some, List, length, map, take, drop, Vec, Global, sym, ap, subst, ◌∙◌, arith}
use Rattle.std.specs.Prelude.{All, nat_lt, slice_get, vec_capacity}
use Rattle.std.specs.List.{AllByRecursion, sum}
use Rattle.std.proofs.Math.Seq.{take-append_seam}
use Rattle.std.proofs.lemmas.Bool.{ltb-false}
use Rattle.std.proofs.lemmas.List.{length-map}
use Rattle.archive_file.specs.Archive.{disk_of as archive_disk_of}
use Rattle.depot_model.specs.declared.request.Request.{Request}
use Rattle.disk_journal.specs.Stands.{disk_of}
use Rattle.locked_tables.specs.Known.{PartyKnown}
use Rattle.party_marks.specs.Known.{PassKnown}
use Rattle.session_loop.specs.Served.{HaveRisenBy, fault_count}
use Rattle.session_loop.specs.declared.session.SessionRun.{SessionRun}
use Rattle.shared_depot.specs.Common.{OpenedKnown}
use Rattle.shared_depot.specs.Sharing.{fresh_marks, fresh_passes}
use Rattle.party_threads.proofs.Collecting.{among_of, as_many, length_fresh, length_fresh_marks, numbered, ready, served_all}
use Rattle.party_threads.proofs.Marked.{add_up, all_theirs, any_made}
use Rattle.party_threads.specs.Parties.{AreCollected, AreFreshParties, HaveRun, IsAmong, IsReady, loss_count}
use Rattle.party_threads.specs.declared.party.ThreadParty.{ThreadParty}
use Rattle.party_threads.proofs.threads.run_and_close.Goals as goal

-- what a borrowed list of parties leaves is the parties that ran
ran_back : {P : Type 0} (olds news : List P) (len : ℕ) → length news ≡ length olds → len ≡ length olds → take len (news ++ drop (length news) olds) ≡ news
ran_back olds news len as_long whole =
    ap (λ (n : ℕ). take n (news ++ drop (length news) olds)) (whole ∙ sym as_long) ∙ take-append_seam news (drop (length news) olds)

ran_within : {P : Type 0} (olds news : List P) (len many room : ℕ) → length news ≡ length olds → len ≡ length olds → length olds ≡ many → many ≤ room → length (take len (news ++ drop (length news) olds)) ≤ room
ran_within {P} olds news len many room as_long whole count fits =
    let same = ap (length {A = P}) (ran_back olds news len as_long whole) in
    omega (arith, same, as_long, count, fits)

pub put_parties-requires-clause-as_many : goal.put_parties-requires-clause-as_many
put_parties-requires-clause-as_many g c = ap (length {A = PartyKnown}) c.requires.passes ∙ length_fresh (length c.args.requests.items)

pub put_parties-requires-clause-as_many_marks : goal.put_parties-requires-clause-as_many_marks
put_parties-requires-clause-as_many_marks g c = ap (length {A = PassKnown}) c.requires.marks ∙ length_fresh_marks (length c.args.requests.items)

pub run_parties-requires-after_bounds : goal.run_parties-requires-after_bounds
run_parties-requires-after_bounds g c = λ κs bounds.
    let D = g.D.Disk in
    let Party : Type 0 = ThreadParty g.row.K.Denot g.row.N.Denot in
    let requests = c.args.requests.items in
    let replicas = c.args.replicas.items in
    let sinks = c.args.sinks.items in
    let olds : List Party = c.put_parties.new.parties.items in
    let Fresh : List PartyKnown → List PassKnown → Type 0 = λ passes marks. AreFreshParties requests replicas passes marks sinks olds in
    let fresh : Fresh (fresh_passes (length requests)) (fresh_marks (length requests)) =
    subst (λ (marks : List PassKnown). Fresh (fresh_passes (length requests)) marks) c.requires.marks (subst (λ (passes : List PartyKnown). Fresh passes c.args.shared.marks.items) c.requires.passes c.put_parties.ensures) in
    subst (λ (ps : List Party). All (IsReady g.N.Serving.begins) ps) (sym c.deref_mut.ensures.value)
    (ready D.says g.N.Naming.end g.N.Imaging.images (g.C.Clock.says.may_give c.args.clock.now) g.K.Sink.says g.N.Serving.begins g.N.Serving.masters requests replicas sinks olds fresh c.requires.asked c.requires.few)

pub collect-lost-requires-clause-room : goal.collect-lost-requires-clause-room
collect-lost-requires-clause-room g c =
    let Party : Type 0 = ThreadParty g.row.K.Denot g.row.N.Denot in
    let olds : List Party = c.put_parties.new.parties.items in
    let news : List Party = c.run_parties.new.parties in
    let count : length olds ≡ length c.args.requests.items = sym (length-map olds (λ (p : Party). p.requests)) ∙ ap (length {A = Vec Request Global}) c.put_parties.ensures.asks in
    ran_within olds news c.put_parties.new.parties.len (length c.args.requests.items) (vec_capacity c.args.room.runs) (c.run_parties.ensures.count ∙ ap (length {A = Party}) c.deref_mut.ensures.value) c.put_parties.new.parties.ok.0 count
    c.requires.room.wide_runs

pub collect-lost-requires-clause-room_for_sinks : goal.collect-lost-requires-clause-room_for_sinks
collect-lost-requires-clause-room_for_sinks g c =
    let Party : Type 0 = ThreadParty g.row.K.Denot g.row.N.Denot in
    let olds : List Party = c.put_parties.new.parties.items in
    let news : List Party = c.run_parties.new.parties in
    let count : length olds ≡ length c.args.requests.items = sym (length-map olds (λ (p : Party). p.requests)) ∙ ap (length {A = Vec Request Global}) c.put_parties.ensures.asks in
    ran_within olds news c.put_parties.new.parties.len (length c.args.requests.items) (vec_capacity c.args.room.sinks) (c.run_parties.ensures.count ∙ ap (length {A = Party}) c.deref_mut.ensures.value) c.put_parties.new.parties.ok.0 count
    c.requires.room.wide_sinks

pub returns : goal.returns
returns g c =
    let D = g.D.Disk in
    let Party : Type 0 = ThreadParty g.row.K.Denot g.row.N.Denot in
    let may_give = g.C.Clock.says.may_give c.args.clock.now in
    let end = g.N.Naming.end in
    let images = g.N.Imaging.images in
    let begins = g.N.Serving.begins in
    let requests = c.args.requests.items in
    let replicas = c.args.replicas.items in
    let sinks = c.args.sinks.items in
    let olds : List Party = c.put_parties.new.parties.items in
    let news : List Party = c.run_parties.new.parties in
    let runs = c.collect-lost.new.runs.items in
    let left = c.collect-lost.new.sinks.items in
    let known : OpenedKnown = c.collect-lost.new.depot in
    let lost = c.collect-lost.result in
    let Fresh : List PartyKnown → List PassKnown → Type 0 = λ passes marks. AreFreshParties requests replicas passes marks sinks olds in
    let fresh : Fresh (fresh_passes (length requests)) (fresh_marks (length requests)) =
    subst (λ (marks : List PassKnown). Fresh (fresh_passes (length requests)) marks) c.requires.marks (subst (λ (passes : List PartyKnown). Fresh passes c.args.shared.marks.items) c.requires.passes c.put_parties.ensures) in
    let Ran : List Party → Type 0 = λ ps. HaveRun D.says end images may_give g.K.Sink.says begins g.N.Serving.masters ps news in
    let run : Ran olds = subst Ran c.deref_mut.ensures.value c.run_parties.ensures.run in
    let as_long : length news ≡ length olds = c.run_parties.ensures.count ∙ ap (length {A = Party}) c.deref_mut.ensures.value in
    let back = ran_back olds news c.put_parties.new.parties.len as_long c.put_parties.new.parties.ok.0 in
    let Collected : OpenedKnown → List Party → Type 0 = λ o ps. AreCollected o ps runs left lost in
    let collected : Collected known news = subst (λ (o : OpenedKnown). Collected o news) (sym c.collect-lost.ensures.same) (subst (Collected c.open-opened.result) back c.collect-lost.ensures.collected) in
    let items : Vec Request Global → List Request = λ own. own.items in
    let asked : length (map items requests) ≡ length requests = length-map requests items in
    let many : length news ≡ length (map items requests) =
    as_long ∙ (as_many D.says end images may_give g.K.Sink.says begins g.N.Serving.masters requests replicas sinks olds fresh ∙ sym asked) in
    let Among : ℕ → Type 0 = λ n. AllByRecursion (IsAmong n) known.order in
    let long : length news ≡ length requests = many ∙ asked in
    let numbers = λ (i : ℕ) (q : Party) (at_q : slice_get news i ≡ Some q). numbered D.says end images may_give g.K.Sink.says begins g.N.Serving.masters requests replicas sinks olds fresh news run known runs left lost collected i q at_q as_long in
    let marks_at : Party → PassKnown = λ p. p.marks in
    let total = sum (map (λ (p : Party). loss_count p) news) in
    let theirs = all_theirs g.N.Marking.marks g.N.Serving.content_marks (length news) (c.requires.mark_lanes ∙ ap (λ (n : ℕ). 1 + n) (sym long)) (c.requires.content_lanes ∙ ap (λ (n : ℕ). 1 + n) (sym long)) known.marks c.close-depot.ensures.mark_parties in
    let together : total ≡ length known.marks = add_up marks_at known.marks news numbers theirs collected.marked in
    let told : lost ≡ nat_lt 0 total = collected.told ∙ any_made marks_at news in
    let depot = c.close-depot.result.depot in
    record {
      order = known.order;
      places = c.close-depot.ensures.order;
      runs_count = ap (length {A = SessionRun}) collected.runs_are ∙ (length-map news (λ (p : Party). p.run) ∙ many);
      sinks_count = ap (length {A = g.row.K.Denot}) collected.sinks_are ∙ (length-map news (λ (p : Party). p.sink) ∙ many);
      losses = map (λ (p : Party). loss_count p) news;
      losses_count = length-map news (λ (p : Party). loss_count p) ∙ many;
      told = told;
      served = served_all D.says end images may_give g.K.Sink.says begins g.N.Serving.masters requests replicas sinks olds fresh news run known runs left lost collected;
      among = subst Among (sym asked) (among_of g.N.Naming.run (length requests) c.requires.lanes known.order c.close-depot.ensures.parties);
      can = c.close-depot.ensures.can;
      stored = c.close-depot.ensures.stored;
      ran_by = c.close-depot.ensures.ran;
      followed = c.close-depot.ensures.followed;
      failures = subst (λ (n : ℕ). HaveRisenBy (fault_count c.close-depot.result.order.items + n) g.N.Serving.faults (D.says.faults (disk_of depot.journal)) g.N.Serving.content_faults (D.says.faults (archive_disk_of depot.archive)))
          (sym together) c.close-depot.ensures.failures;
      stand = λ is. c.close-depot.ensures.stand (let none = ltb-false 0 total (sym told ∙ is) in omega (arith, none, together));
    }
