use Rattle.std.proofs.Common.{◌≡◌, ℕ, true, false, List, [], ◌∷◌, ◌++◌, Some, sym, ap, ◌∙◌}
use Rattle.depot_rows.specs.depot_path.Fit.{filled}
use Rattle.depot_rows.specs.depot_path.Path.{is_path}
use Rattle.depot_rows.specs.view_map.Mapping.{files_at}
use Rattle.depot_rows.specs.depot_model.Arguments.{in_client_syntax, is_in}
use Rattle.named_files.proofs.LookedUp.{by_itself, contains_in, in_itself, in_view, spells_path}
use Rattle.named_files.proofs.Spelled.{found_is, is_found}
use Rattle.named_files.proofs.looked_up.spelled_files.Goals as goal

pub returns-in_default : goal.returns-in_default
returns-in_default c = λ file is placed.
    absurd (is_found (is_path c.in_ok-text.text) c.in_ok-text.text
    (ap is_path c.in_ok-text.ensures ∙ spells_path c.args.asker.now c.args.pattern.now file c.requires placed is) c.in_default.ensures)

pub returns-then-in_client_syntax : goal.returns-then-in_client_syntax
returns-then-in_client_syntax c = λ file is placed.
    let asker = c.args.asker.now in
    let pattern = c.args.pattern.now in
    let path : c.in-Some.path ≡ filled pattern [] = found_is (is_path c.in_ok-text.text) c.in-Some.path c.in_ok-text.text c.in-Some.ensures ∙ c.in_ok-text.ensures in
    let syntax : in_client_syntax asker.client pattern ≡ true = sym c.in_client_syntax.ensures ∙ c.if-in_client_syntax.true in
    let at = in_view asker pattern file c.requires placed syntax in
    ap (λ (files : List (List ℕ)). is_in files file) c.in_ok-placed.ensures.value
    ∙ contains_in (files_at asker.view c.in-Some.path) file ((c.to_depot.ensures.exactly file is).1 (at.0 ∙ ap (λ (p : List ℕ). Some p) (sym path)))

pub returns : goal.returns
returns c = λ file is placed.
    let asker = c.args.asker.now in
    let pattern = c.args.pattern.now in
    let path : c.in-Some.path ≡ filled pattern [] = found_is (is_path c.in_ok-text.text) c.in-Some.path c.in_ok-text.text c.in-Some.ensures ∙ c.in_ok-text.ensures in
    let syntax : in_client_syntax asker.client pattern ≡ false = sym c.in_client_syntax.ensures ∙ c.if-in_client_syntax.false in
    let itself : file ≡ filled pattern [] = by_itself asker pattern file c.requires placed syntax in
    ap (λ (files : List (List ℕ)). is_in files file) (c.in_ok-push.ensures.ok ∙ ap (λ (files : List (List ℕ)). files ++ c.in-Some.path ∷ []) c.new-files.ensures)
    ∙ ap (λ (p : List ℕ). is_in (p ∷ []) file) (path ∙ sym itself) ∙ in_itself file
