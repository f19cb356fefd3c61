-- Rows without contents.
use Rattle.std.proofs.Common.{◌≡◌, ℕ, List, [], ◌∷◌, ◌++◌, None, refl, ◌∙◌, ap, subst}
use Rattle.std.specs.Option.{option_to_list}
use Rattle.std.specs.List.{AllByRecursion}
use Rattle.depot_rows.specs.depot_model.Deeds.{Deed}
use Rattle.depot_rows.specs.depot_model.declared.reply.Row.{Row}
use Rattle.depot_rows.specs.table_changes.Changed.{AllRows}
use Rattle.reply_rows.specs.Made.{ComeFrom, contents_of}
use Rattle.reply_rows.specs.declared.content.RowContent.{RowContent}

pub no_contents : (rows : List Row) → AllByRecursion (λ row. row.content ≡ None) rows → contents_of rows ≡ []
no_contents [] all = refl
no_contents (row ∷ rows) all = ap (λ o. option_to_list o ++ contents_of rows) all.0 ∙ no_contents rows all.1

-- where no row has a content none is waited for
pub none_read : (rows : AllRows) (d : List Deed) (reads : List RowContent) (told : List Row) → ComeFrom rows d (contents_of told) reads → contents_of told ≡ [] → reads ≡ []
none_read rows d reads told from none = go reads (subst (λ (contents : List (List ℕ)). ComeFrom rows d contents reads) none from)
  where
    go : (reads : List RowContent) → ComeFrom rows d [] reads → reads ≡ []
    go [] from = refl
    go (place ∷ reads) from = absurd from
