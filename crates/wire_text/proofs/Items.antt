-- Reading on to the next command.
use Rattle.std.proofs.Common.{◌≡◌, ℕ, ◌+◌, ◌≤◌, false, List, [], ◌∷◌, ◌++◌, Option, Some, None, refl, sym, ap, ◌∙◌}
use Rattle.std.specs.Option.{option_to_list}
use Rattle.indexmap.specs.IndexMap.{insert_entry, shift_remove_entry}
use Rattle.depot_model.specs.depot_path.Bytes.{same}
use Rattle.wire_text.specs.Contents.{contents_after, has_command}
use Rattle.wire_text.specs.Commands.{Passes, KeepCase}
use Rattle.wire_text.specs.Reading.{GoesOn, point_at}
use Rattle.wire_text.specs.declared.entry.Item.{Item}
use Rattle.wire_text.specs.Script.{number_after}
use Rattle.wire_text.specs.declared.entry.Entry.{Entry}
use Rattle.wire_text.specs.declared.entry.Entry.TheVariants.{Put, Clear, Command}
use Rattle.wire_text.proofs.Scripts.{goes_then}

none_append : (a b : List Entry) → has_command a ≡ false → has_command b ≡ false → has_command (a ++ b) ≡ false
none_append [] b e f = f
none_append (Put content ∷ a) b e f = none_append a b e f
none_append (Clear path ∷ a) b e f = none_append a b e f
none_append (Command item ∷ a) b e f = absurd cc

contents_append : (contents : List (List ℕ × List ℕ)) (a b : List Entry) → contents_after contents (a ++ b) ≡ contents_after (contents_after contents a) b
contents_append contents [] b = refl
contents_append contents (Put content ∷ a) b = contents_append (insert_entry same contents content.path content.bytes) a b
contents_append contents (Clear path ∷ a) b = contents_append (shift_remove_entry (same path) contents) a b
contents_append contents (Command item ∷ a) b = contents_append contents a b

pub passes_then : (a b : List Entry) (c d e : List (List ℕ × List ℕ)) → Passes a c d → Passes b d e → Passes (a ++ b) c e
passes_then a b c d e p q = record {
  none = none_append a b p.none q.none;
  contents = q.contents ∙ (ap (λ (x : List (List ℕ × List ℕ)). contents_after x b) p.contents ∙ sym (contents_append c a b));
}

-- without a command the number stays
pub number_stays : (n : ℕ) (entry : Option Entry) → has_command (option_to_list entry) ≡ false → number_after n entry ≡ n
number_stays n None e = refl
number_stays n (Some (Put content)) e = refl
number_stays n (Some (Clear path)) e = refl
number_stays n (Some (Command item)) e = absurd cc

pub no_item : (entry : Option Entry) (old new : List (List ℕ × List ℕ)) (r : Option Item) → ((item : Item) → r ≡ Some item → ⊥) → KeepCase entry old new r → Passes (option_to_list entry) old new
no_item entry old new None differs k = k
no_item entry old new (Some item) differs k = absurd (differs item refl)

module _ (l0 l1 l2 : Option (List ℕ)) (held mid last client : List ℕ) (place place1 place2 number : ℕ) (input0 input1 input2 : Option (List ℕ)) (c0 c1 c2 : List (List ℕ × List ℕ)) (entry : Option Entry)
    (so_far : (passed : List Entry) × Passes passed c0 c1 × GoesOn [] l0 l1 held mid (point_at client place number input0) (point_at client place1 number input1) passed)
    (part : GoesOn [] l1 l2 mid last (point_at client place1 number input1) (point_at client place2 (number_after number entry) input2) (option_to_list entry)) where
  -- contents, or nothing
  pub entry_passed : Passes (option_to_list entry) c1 c2 → (passed : List Entry) × Passes passed c0 c2 × GoesOn [] l0 l2 held last (point_at client place number input0) (point_at client place2 number input2) passed
  entry_passed k = (
    so_far.0 ++ option_to_list entry,
    passes_then so_far.0 (option_to_list entry) c0 c1 c2 so_far.1 k,
    rw (number_stays number entry k.none) at
        (goes_then l0 l1 l2 held mid (point_at client place number input0) (point_at client place1 number input1) so_far.0 last (point_at client place2 (number_after number entry) input2) (option_to_list entry) so_far.2 part),
  )

  -- a command
  pub command_there : (item : Item) → entry ≡ Some (Command item) → c2 ≡ c1 → number + 1 ≤ place2 → place2 ≤ 67108864
      → (passed : List Entry) × Passes passed c0 c2 × (number + 1 ≤ place2) × (place2 ≤ 67108864) × GoesOn [] l0 l2 held last (point_at client place number input0) (point_at client place2 (number + 1) input2) (passed ++ Command item ∷ [])
  command_there item is same low most = (
    so_far.0,
    rw same so_far.1,
    low,
    most,
    rw is at (goes_then l0 l1 l2 held mid (point_at client place number input0) (point_at client place1 number input1) so_far.0 last (point_at client place2 (number_after number entry) input2) (option_to_list entry) so_far.2 part),
  )
