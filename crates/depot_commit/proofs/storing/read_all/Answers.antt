use Rattle.std.proofs.Common.{◌≡◌, ℕ, List, [], ◌∷◌, Result, Err, ◌++◌, length, refl, sym, ap, subst, ◌∙◌, arith, rules}
use Rattle.std.proofs.lemmas.List.{take_all}
use Rattle.archive_file.specs.Archive.{used_of}
use Rattle.archive_file.specs.declared.archive.ContentFault.{ContentFault}
use Rattle.archive_file.specs.declared.archive.ContentFault.TheVariants.{DiskFault}
use Rattle.reply_rows.specs.declared.content.RowContent.{RowContent}
use Rattle.depot_commit.specs.Storing.{EndsBy, IsAt}
use Rattle.depot_commit.proofs.Stored.{at_index, at_length, rises_on}
use Rattle.depot_commit.proofs.storing.read_all.Goals as goal

same_fault : {T : Type 0} (result : Result T ContentFault) (one other : ContentFault) → result ≡ Err one → result ≡ Err other → one ≡ other
same_fault result one other first second = let e : Err one ≡ Err other = sym first ∙ second in cc

pub loop-place-init : goal.loop-place-init
loop-place-init g c = record {
  contents = λ files contents read at. c.new-contents.ensures;
  same = record { kept = λ files read. read; no_more = λ files read. read };
  more = λ files left. left;
  used = refl;
  untouched = λ none. refl;
  counts = refl;
}

pub read_one-requires : goal.read_one-requires
read_one-requires g c =
    let at = c.loop-place in
    let place = c.place-item.result in
    subst (λ (used : ℕ). EndsBy used place) (sym at.invariant.used)
    (subst (EndsBy (used_of c.args.archive.now)) (sym c.place-item.is) (c.requires at.place-index place c.loop-place-test.true))

pub loop-place-preserved : goal.loop-place-preserved
loop-place-preserved g c =
    let at = c.loop-place in
    record {
      contents = λ files contents read are.
          let place = c.place-item.result in
          let found = at_index (files 0) c.args.places.now contents at.place-index place are c.loop-place-test.true in
          let here = subst (λ (p : RowContent). IsAt (files 0) p found.content) (sym c.place-item.is) found.here in
          c.in-Ok.ensures.ok
          ∙ (λ i. at.invariant.contents files contents read are i ++ c.in_ok-content.ensures.content files found.content (at.invariant.same.kept files read) here i ∷ [])
          ∙ sym found.more;
      same = record {
        kept = λ files read. c.in_ok-content.ensures.same.kept files (at.invariant.same.kept files read);
        no_more = λ files read. at.invariant.same.no_more files (c.in_ok-content.ensures.same.no_more files read);
      };
      more = λ files left. at.invariant.more files (c.in_ok-content.ensures.crash files left);
      used = c.in_ok-content.ensures.used ∙ at.invariant.used;
      untouched = λ none. absurd (omega (arith, none));
      counts = c.in_ok-content.ensures.only ∙ at.invariant.counts;
    }

pub returns-clause-contents : goal.returns-clause-contents
returns-clause-contents g c = λ files contents read are.
    let at = c.loop-place in
    let past = c.loop-place-test.false in
    let long = at_length (files 0) c.args.places.now contents are in
    at.invariant.contents files contents read are ∙ take_all at.place-index contents (omega (arith, past, long))

pub returns-clause-no_call : goal.returns-clause-no_call
returns-clause-no_call g c = λ none.
    c.loop-place.invariant.untouched (let past = c.loop-place-test.false in let long = ap length none in let within = c.loop-place.auto.place-index-end in omega (arith, long, past, within))

-- ---- a content couldn't be read

pub returns-in_err-content-clause-same : goal.returns-in_err-content-clause-same
returns-in_err-content-clause-same g c =
    let at = c.loop-place in
    record {
      kept = λ files read. c.in_err-content.ensures.same.kept files (at.invariant.same.kept files read);
      no_more = λ files read. at.invariant.same.no_more files (c.in_err-content.ensures.same.no_more files read);
    }

pub returns-in_err-content-clause-crash : goal.returns-in_err-content-clause-crash
returns-in_err-content-clause-crash g c = λ files left. c.loop-place.invariant.more files (c.in_err-content.ensures.crash files left)

pub returns-in_err-content-clause-no_call : goal.returns-in_err-content-clause-no_call
returns-in_err-content-clause-no_call g c = λ none. absurd (let lt = c.loop-place-test.true in let long = ap length none in omega (arith, lt, long))

pub returns-in_err-content-clause-cause : goal.returns-in_err-content-clause-cause
returns-in_err-content-clause-cause g c =
    let counts = c.loop-place.invariant.counts in
    let more = c.in_err-content.ensures.cause.never_falls in
    record {
      never_falls = omega (arith, counts, more);
      risen = λ is.
          let passed : c.from_residual.result ≡ Err c.in_err-content.field-0.0 = search rules in
          let risen = c.in_err-content.ensures.cause.risen (ap Err (same_fault c.from_residual.result c.in_err-content.field-0.0 DiskFault passed is)) in
          omega (arith, counts, risen);
    }

pub returns-in_err-content-clause-only : goal.returns-in_err-content-clause-only
returns-in_err-content-clause-only g c =
    let passed : c.from_residual.result ≡ Err c.in_err-content.field-0.0 = search rules in
    rises_on (List ℕ) c.from_residual.result c.in_err-content.field-0.0 _ _ _ passed c.loop-place.invariant.counts c.in_err-content.ensures.only

-- ---- no memory was left to keep it

pub returns-in-Err-clause-only : goal.returns-in-Err-clause-only
returns-in-Err-clause-only g c = c.in_ok-content.ensures.only ∙ c.loop-place.invariant.counts

pub returns-in-Err-clause-same : goal.returns-in-Err-clause-same
returns-in-Err-clause-same g c =
    let at = c.loop-place in
    record {
      kept = λ files read. c.in_ok-content.ensures.same.kept files (at.invariant.same.kept files read);
      no_more = λ files read. at.invariant.same.no_more files (c.in_ok-content.ensures.same.no_more files read);
    }

pub returns-in-Err-clause-crash : goal.returns-in-Err-clause-crash
returns-in-Err-clause-crash g c = λ files left. c.loop-place.invariant.more files (c.in_ok-content.ensures.crash files left)

pub returns-in-Err-clause-no_call : goal.returns-in-Err-clause-no_call
returns-in-Err-clause-no_call g c = λ none. absurd (let lt = c.loop-place-test.true in let long = ap length none in omega (arith, lt, long))

pub returns-in-Err-clause-cause : goal.returns-in-Err-clause-cause
returns-in-Err-clause-cause g c =
    let counts = c.loop-place.invariant.counts in
    let more = c.in_ok-content.ensures.cause.never_falls in
    record { never_falls = omega (arith, counts, more); risen = λ is. absurd cc }
