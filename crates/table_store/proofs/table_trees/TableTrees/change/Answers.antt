use Rattle.std.proofs.Common.{◌≡◌, rules, sym, ap, ◌∙◌, subst}
use denote.Enum.Bare.{differs_true, differs_false}
use Rattle.db_records.specs.contracts.change.Op.{the_type}
use Rattle.db_records.specs.declared.change.Op.TheVariants.{Remove}
use Rattle.table_store.specs.Rows.{TableRows, AllOfTable}
use Rattle.table_store.specs.Marks.{AllHavePlaces}
use Rattle.table_store.proofs.Changes.{AllOfTable-tried, AllOfTable-changed, changed_made, changed_tried}
use Rattle.table_store.proofs.Marks.{places_put, places_taken}
use Rattle.table_store.proofs.table_trees.TableTrees.change.Goals as goal

-- a row that is put has its place first
pub invariant_of-self-then-ne : goal.invariant_of-self-then-ne
invariant_of-self-then-ne c =
    let op = c.args.op in
    let row = c.args.row.now in
    let table = c.requires ∙ sym (ap (λ (v : TableRows). v.table) c.self.view_is) in (
      AllOfTable-tried c.self.inside.table c.self.inside.tree c.change.new.self (record { op = op; row = row }) c.change.result c.change.ensures.ok c.change.ensures.err c.self.invariant.0 table,
      places_put op row c.self.inside.marked c.change_place.new.marked c.self.inside.tree c.change.new.self c.change.result (differs_true the_type _ _ (sym c.if-ne.ensures)) c.in_ok-change_place.ensures.places c.in_ok-change_place.ensures.more c.change.ensures.ok c.change.ensures.err c.self.invariant.1,
    )

pub returns-then-ne-clause-ok : goal.returns-then-ne-clause-ok
returns-then-ne-clause-ok c = changed_tried c.args.self.now c.self.inside.table c.self.inside.tree c.change.new.self c.args.op c.args.row.now c.change.result c.self.view_is c.change.ensures.ok

-- of one that is taken away the place goes afterwards
pub invariant_of-self-2 : goal.invariant_of-self-2
invariant_of-self-2 c =
    let row = c.args.row.now in
    let made = c.in_ok-change.ensures.ok in
    let table = c.requires ∙ sym (ap (λ (v : TableRows). v.table) c.self.view_is) in (
      subst (AllOfTable c.self.inside.table) (sym made) (AllOfTable-changed c.self.inside.table c.self.inside.tree (record { op = Remove; row = row }) c.self.invariant.0 table),
      subst (AllHavePlaces c.change_place-2.new.marked) (sym made) (places_taken row c.self.inside.marked c.change_place-2.new.marked c.self.inside.tree c.change_place-2.result c.change_place-2.ensures.places c.change_place-2.ensures.err c.self.invariant.1),
    )

pub returns-clause-ok : goal.returns-clause-ok
returns-clause-ok c =
    let op : c.args.op ≡ Remove = differs_false the_type (search rules) _ _ (sym c.if-ne.ensures) in
    changed_made c.args.self.now c.self.inside.table c.self.inside.tree c.change-2.new.self Remove c.args.op c.args.row.now c.self.view_is (sym op) c.in_ok-change.ensures.ok
