use Rattle.std.proofs.Common.{◌≡◌, ℕ, List, [], None, sym, ap, subst, ◌∙◌}
use Rattle.std.specs.Prelude.{flat_map}
use Rattle.std.specs.Ordering.{is_lt}
use Rattle.depot_rows.specs.db_records.declared.table.TableId.TheVariants as tables
use Rattle.depot_rows.specs.depot_path.Path.{printed}
use Rattle.depot_rows.specs.depot_path.Pattern.{literal}
use Rattle.depot_rows.specs.depot_model.Arguments.{in_client_syntax, submitted}
use Rattle.depot_rows.specs.table_changes.Changed.{rows_of}
use Rattle.named_files.specs.Listed.{listed}
use Rattle.named_files.specs.declared.listing.Listing.TheVariants.{Submitted}
use Rattle.named_files.proofs.Told.{files_rise}
use Rattle.named_files.proofs.Walking.{text_cmp, text_self}
use Rattle.history_query.specs.Directories.{all_fitting, directories_of}
use Rattle.history_query.specs.Leaping.{files_from, first_begun, texts_put}
use Rattle.history_query.proofs.Leaps.{IsFirst, fewer, first_is, leap_tells, put_more, still_late, walk_ends, walk_starts}
use Rattle.history_query.proofs.leaping.found_by_leaps.Goals as goal

pub loop-from-init : goal.loop-from-init
loop-from-init c =
    let pattern = c.args.pattern.now in
    let start = printed (literal pattern) in
    let is = c.in_ok-from.ensures ∙ c.as_bytes.ensures ∙ c.in_ok-beginning.ensures.value in
    record {
      late = ap (λ (t : List ℕ). is_lt (text_cmp t start)) is ∙ ap is_lt (text_self start);
      told = λ d caller sound asked has.
          (λ i. texts_put (c.new-found.ensures i) (all_fitting pattern (flat_map (directories_of d caller pattern) (files_from (is i) (submitted d))) []))
          ∙ walk_starts d caller pattern c.args.depth c.requires.depth (ap (λ (n : List ℕ). in_client_syntax n pattern) (sym asked.client) ∙ c.requires.syntax) c.args.asker.now asked
          (submitted d) (files_rise Submitted d sound);
    }

pub loop-from-smaller : goal.loop-from-smaller
loop-from-smaller c =
    let files = listed Submitted (rows_of c.args.tables.now tables.Rev) in
    let first : IsFirst (files_from c.loop-from.from files) c.in-Some.path = first_is c.in_ok-beginning.beginning (files_from c.loop-from.from files) c.in-Some.path (sym c.in_ok-path.ensures ∙ c.in-Some.is) in
    fewer c.loop-from.from c.in_ok-from-2.from files c.in-Some.path first.0 first.1 c.in_ok-from-2.ensures.later

pub loop-from-preserved : goal.loop-from-preserved
loop-from-preserved c =
    let at = c.loop-from in
    let pattern = c.args.pattern.now in
    let path : List ℕ = c.in-Some.path in
    let next : List ℕ = c.in_ok-from-2.from in
    let files = listed Submitted (rows_of c.args.tables.now tables.Rev) in
    let first : IsFirst (files_from at.from files) path = first_is c.in_ok-beginning.beginning (files_from at.from files) path (sym c.in_ok-path.ensures ∙ c.in-Some.is) in
    record {
      late = still_late at.from path next (printed (literal pattern)) files first c.in_ok-from-2.ensures.later at.invariant.late;
      told = λ d caller sound asked has.
          let old : List (List ℕ) = at.found in
          let P : List (List ℕ) → Type 0 = λ fs. IsFirst (files_from at.from fs) path in
          ap (λ (l : List (List ℕ)). texts_put l (all_fitting pattern (flat_map (directories_of d caller pattern) (files_from next (submitted d))) [])) (c.in_ok-from-2.ensures.found d caller sound asked has)
          ∙ put_more old _ _ _
          (leap_tells d caller pattern c.args.depth c.requires.depth (ap (λ (n : List ℕ). in_client_syntax n pattern) (sym asked.client) ∙ c.requires.syntax)
          (submitted d) (files_rise Submitted d sound) at.from path next (subst P (c.rows_list_files.ensures d sound has) first) (c.in_ok-from-2.ensures.from d caller sound asked has) c.in_ok-from-2.ensures.later)
          ∙ at.invariant.told d caller sound asked has;
    }

pub returns : goal.returns
returns c = λ d caller sound asked has.
    let at = c.loop-from in
    let pattern = c.args.pattern.now in
    let none : first_begun (printed (literal pattern)) (files_from at.from (submitted d)) ≡ None =
    (λ i. first_begun (sym c.in_ok-beginning.ensures.value i) (files_from at.from (sym (c.rows_list_files.ensures d sound has) i))) ∙ sym c.in_ok-path.ensures ∙ c.in_default.is in
    ap (texts_put at.found)
    (sym (walk_ends d caller pattern c.args.depth c.requires.depth (ap (λ (n : List ℕ). in_client_syntax n pattern) (sym asked.client) ∙ c.requires.syntax) c.args.asker.now asked
    (submitted d) (files_rise Submitted d sound) at.from at.invariant.late none))
    ∙ at.invariant.told d caller sound asked has
