use Rattle.std.proofs.Common.{◌≡◌, ◌∷◌, ◌++◌, true, false, List, [], map, refl, sym, ap, subst, ◌∙◌}
use Rattle.std.proofs.lemmas.Bool.{true≢false}
use Rattle.locked_tables.specs.Taken.{archive_lane, end_after, placed_of, rows_after}
use Rattle.locked_tables.specs.declared.taken.Taken.{Taken}
use Rattle.locked_tables.proofs.Placed.{of_archive, of_journal}
use Rattle.order_words.specs.Lanes.{has_lane}
use Rattle.shared_depot.specs.Common.{IsQuiet, KeepsOrder}
use Rattle.shared_depot.specs.Room.{IsDueAfter}
use Rattle.shared_depot.proofs.Committed.{keeps_quiet, reply_after}
use Rattle.shared_depot.proofs.Order.{taken_so}
use Rattle.shared_depot.proofs.Stored.{lost_so, written_so}
use Rattle.shared_depot.proofs.common.CommonDepot.place_quiet.Goals as goal

pub invariant_of-self : goal.invariant_of-self
invariant_of-self g c =
    let D = g.D.Disk in
    let rows = g.N.Naming.rows in
    let end = g.N.Naming.end in
    let images = g.N.Imaging.images in
    let begins = g.N.Serving.begins in
    let order = c.self.inside.order in
    let unwritten = c.place_unwritten-answer.ensures in
    let fault = c.place_unwritten-answer.result.place.fault in
    let entry : Taken = record { request = c.args.request; fault = fault; lost = fault; lanes = c.place.result; changes = c.new-changes.result; end = c.args.end; stores = c.new-stores.result } in
    let touches : has_lane c.place.result archive_lane ≡ fault = of_archive c.place.ensures.touches ∙ (sym c.requires.held ∙ sym unwritten.fault) in
    let due : c.args.told.unread ≡ false → IsDueAfter rows end images begins order c.args.request c.args.told = λ read.
    subst (λ (l : List Taken). IsDueAfter rows end images begins l c.args.request c.args.told) (sym c.self.view_is) (c.requires.due read) in
    let quiet : IsQuiet begins (rows_after rows order) (end_after end order) entry = record {
      unchanged = c.new-changes.ensures;
      unstored = λ has. (c.new-stores.ensures, c.requires.end (sym (of_archive c.place.ensures.touches) ∙ has) ∙ ap (end_after end) (sym c.self.view_is));
      written = written_so entry touches refl;
      leaves = λ since start at fine.
          let read = sym unwritten.fault ∙ fine in
          let is = due read in
          unwritten.leaves (rows_after rows order) (end_after end order) is.outcome (c.requires.may.proper since start at) (is.stands since start at) is.tells read;
    } in
    subst (λ (l : List Taken). KeepsOrder D.says rows end images begins g.N.Serving.masters l c.self.inside.tables) (sym c.place.ensures.placed.last)
    (keeps_quiet D.says rows end images begins g.N.Serving.masters order c.self.inside.tables c.self.invariant entry (of_journal c.place.ensures.touches) quiet)

pub returns-clause-taken : goal.returns-clause-taken
returns-clause-taken g c =
    let D = g.D.Disk in
    let rows = g.N.Naming.rows in
    let end = g.N.Naming.end in
    let images = g.N.Imaging.images in
    let begins = g.N.Serving.begins in
    let order = c.self.inside.order in
    let answer = c.place_unwritten-answer.result in
    let fault = answer.place.fault in
    let entry : Taken = record { request = c.args.request; fault = fault; lost = fault; lanes = c.place.result; changes = c.new-changes.result; end = c.args.end; stores = c.new-stores.result } in
    let run = c.self.invariant.run in
    let due : c.args.told.unread ≡ false → IsDueAfter rows end images begins order c.args.request c.args.told = λ read.
    subst (λ (l : List Taken). IsDueAfter rows end images begins l c.args.request c.args.told) (sym c.self.view_is) (c.requires.due read) in
    taken_so begins order c.place.new.self c.args.pass.now c.place.new.pass entry c.args.request answer _ c.place.ensures.placed.last c.place.ensures.placed.pass c.place.ensures.placed.own
    refl refl (λ k. record { place = c.place-place.ensures k; reply = answer.reply })
    (λ since start at.
    c.place_unwritten-answer.ensures.answers start (map placed_of order) c.requires.tells.0 c.requires.tells.1
    (λ read. reply_after D.says rows end images begins g.N.Serving.masters order run.0 run.1.0 run.1.1 c.args.request c.args.told (due read) since start at read))
    (λ touches. absurd (true≢false (sym touches ∙ of_journal c.place.ensures.touches)))

pub returns-clause-lost : goal.returns-clause-lost
returns-clause-lost g c = λ is.
    let fault = c.place_unwritten-answer.result.place.fault in
    let entry : Taken = record { request = c.args.request; fault = fault; lost = fault; lanes = c.place.result; changes = c.new-changes.result; end = c.args.end; stores = c.new-stores.result } in
    let failed : fault ≡ true = c.place_unwritten-answer.ensures.fault ∙ (c.requires.held ∙ is) in
    let touches : has_lane c.place.result archive_lane ≡ true = of_archive c.place.ensures.touches ∙ is in
    record {
      entry = entry;
      placed = c.place.ensures.placed.last ∙ ap (λ (l : List Taken). l ++ entry ∷ []) c.self.view_is;
      touches = touches;
      unstored = c.new-stores.ensures;
      lost = lost_so entry touches failed failed;
    }
