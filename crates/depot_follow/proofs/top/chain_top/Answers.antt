use Rattle.std.proofs.Common.{◌≤◌, ℕ, List, length, Bor, Ok, Err, arith}
use Rattle.std.proofs.lemmas.List.{length-map}
use Rattle.program_words.specs.Words.{words_of}
use Rattle.depot_follow.proofs.Endings.{chains_followed, chains_shut}
use Rattle.depot_follow.proofs.Opened.{Opens, opened_of, unopened_of}
use Rattle.depot_follow.proofs.top.chain_top.Goals as goal

pub returns-in-Ok : goal.returns-in-Ok
returns-in-Ok g c =
    let opened = c.in-Ok.ensures in
    let opens : Opens g.D.Disk.says c.args.up.journal c.args.up.archive (Ok c.in-Ok.up) = record {
      node = opened.node;
      fresh = opened.fresh;
      holds = opened.holds;
      opens = opened.opens;
      damaged = opened.damaged;
      unmade = opened.unmade;
      unopened = opened.unopened;
      journal_synced = opened.journal_synced;
      archive_synced = opened.archive_synced;
      journal_looks = opened.journal_looks;
      archive_looks = opened.archive_looks;
      cause = opened.cause;
    } in
    let alone : length (words_of c.args.words.now) ≤ 1 = omega (arith, length-map c.args.words.now (λ (word : Bor (List ℕ)). word.now), c.if-words-gt1.false) in
    record {
      promise = chains_followed g.D.Disk.says g.K.Sink.says (words_of c.args.words.now) (record { up = c.args.up; node = c.args.node; out = c.args.out.now })
          (record { out = c.follow_up.new.out; ended = c.follow_up.result }) alone c.in-Ok.up (opened_of g.D.Disk.says c.args.up.journal c.args.up.archive (Ok c.in-Ok.up) opens) c.follow_up.ensures.follows c.follow_up.ensures.status;
    }

pub returns-in-Err : goal.returns-in-Err
returns-in-Err g c =
    let opened = c.in-Err.ensures in
    let found = c.in-Err.found in
    let opens : Opens g.D.Disk.says c.args.up.journal c.args.up.archive (Err found) = record {
      node = opened.node;
      fresh = opened.fresh;
      holds = opened.holds;
      opens = opened.opens;
      damaged = opened.damaged;
      unmade = opened.unmade;
      unopened = opened.unopened;
      journal_synced = opened.journal_synced;
      archive_synced = opened.archive_synced;
      journal_looks = opened.journal_looks;
      archive_looks = opened.archive_looks;
      cause = opened.cause;
    } in
    let alone : length (words_of c.args.words.now) ≤ 1 = omega (arith, length-map c.args.words.now (λ (word : Bor (List ℕ)). word.now), c.if-words-gt1.false) in
    let end = c.end_chain-in-Err.ensures in
    record {
      promise = chains_shut g.D.Disk.says g.K.Sink.says (words_of c.args.words.now) (record { up = c.args.up; node = c.args.node; out = c.args.out.now })
          (record { out = c.end_chain-in-Err.new.out; ended = c.end_chain-in-Err.result }) alone found.fault _ (rw c.cause_of_upstream.ensures at end.ended) (rw c.cause_of_upstream.ensures at end.line)
          (unopened_of g.D.Disk.says c.args.up.journal c.args.up.archive (Err found) opens);
    }
