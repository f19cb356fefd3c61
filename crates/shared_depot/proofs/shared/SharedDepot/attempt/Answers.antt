use Rattle.std.proofs.Common.{◌≡◌, refl, sym, ap, ◌∙◌}
use Rattle.std.specs.Option.{option_copied}
use Rattle.std.proofs.lemmas.Option.{same_Some}
use Rattle.depot_rows.specs.depot_model.declared.request.Request.{Request}
use Rattle.shared_depot.proofs.Held.{end_seen}
use Rattle.shared_depot.proofs.shared.SharedDepot.attempt.Goals as goal

pub tell_over-requires : goal.tell_over-requires
tell_over-requires g c =
    let same = same_Some _ _ (sym c.requires.0.is ∙ (sym c.as_ref.ensures.value ∙ ap option_copied c.unwrap-request.ensures)) in
    (c.requires.0, ap (λ (r : Request). r.number) same)

pub place_told-requires : goal.place_told-requires
place_told-requires g c =
    let same : c.unwrap-request.result.now ≡ c.requires.0.request = sym (same_Some _ _ (sym c.requires.0.is ∙ (sym c.as_ref.ensures.value ∙ ap option_copied c.unwrap-request.ensures))) in
    let printed = rw (c.in-Told.is, same) at c.in_ok-reading.ensures.reading in
    let over = rw (c.in-Told.is, same) at c.in_ok-reading.ensures.over in
    rw (printed.same, printed.kept) (
      c.requires.0,
      record {
        whole = _;
        needs = c.args.needs.now;
        set = c.in_ok-gathered.ensures.gathered;
        words = c.requires.1;
        proper = c.requires.0.may.proper;
        outcome = c.in_ok-outcome.outcome;
        tells = printed.tells;
        found = rw (c.tables.ensures, same) at c.in_ok-outcome.ensures.outcome;
        reply = λ order. over.reply c.requires.0.request order refl;
        fit = rw (printed.tells.changes, ← c.tables.ensures) c.in_ok-outcome.ensures.fit;
        read = printed.read;
        ends = end_seen _ _ _ _ _ (λ without. c.may_store_so.ensures c.if-not-may_store_so.false (c.is_some-stores.ensures ∙ without)) c.in_ok-gathered.ensures.end (over.ends _);
      },
    )
