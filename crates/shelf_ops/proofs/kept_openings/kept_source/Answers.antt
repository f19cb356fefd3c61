use Rattle.std.proofs.Common.{◌≤◌, ◌≡◌, ℕ, List, sym, ap, subst, ◌∙◌}
use Rattle.std.specs.Prelude.{codes, option_map}
use Rattle.depot_rows.specs.depot_path.Digits.{number_of}
use Rattle.depot_rows.specs.depot_model.Values.{value_of}
use Rattle.depot_rows.specs.Deed.{source_of}
use Rattle.opening_reads.specs.Read.{path_in_text, source_at}
use Rattle.shelf_ops.proofs.Unshelved.{source_is}
use Rattle.shelf_ops.proofs.kept_openings.kept_source.Goals as goal

pub returns : goal.returns
returns c = λ fits.
    let form = c.args.form.now in
    let rev_is : c.number_in-rev.result ≡ number_of (value_of form (codes "FromRev")) =
    c.number_in-rev.ensures (subst (λ (w : List ℕ). number_of w ≤ 4294967295) (sym c.form_value-digits.ensures) fits) ∙ ap number_of c.form_value-digits.ensures in
    let path_is : c.in_ok-path.path ≡ path_in_text (value_of form (codes "From")) =
    c.in_ok-path.ensures ∙ ap path_in_text (c.in_ok-text.ensures ∙ c.form_value-from.ensures) in
    ap (option_map source_of) (c.source_at-source.ensures ∙ (λ i. option_map (source_at (rev_is i)) (path_is i))) ∙ source_is form
