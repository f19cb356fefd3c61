-- What a script's commands ask, where one entry more is passed.
use Rattle.std.proofs.Common.{◌≡◌, ◌≤◌, ℕ, List, [], ◌∷◌, ◌++◌, Option, Some, None, refl, sym, ap, arith}
use Rattle.std.specs.Prelude.{map}
use Rattle.depot_model.specs.Contents.{Files, ScriptFiles, IsOneMore}
use Rattle.depot_model.specs.declared.request.Asked.{Asked}
use Rattle.depot_model.specs.declared.request.Content.{Content}
use Rattle.wire_text.specs.declared.entry.Entry.{Entry}
use Rattle.wire_text.specs.declared.entry.Entry.TheVariants.{Put, Clear, Command as Asks}
use Rattle.wire_text.specs.declared.entry.Item.{Item}
use Rattle.session_loop.specs.Asking.{asked_by, asked_from}
use Rattle.session_loop.specs.Passing.{asked_in, all_asked, AreBehind}
use Rattle.session_loop.specs.declared.reading.PlacedItem.{PlacedItem}

pub behind_more : (n m : ℕ) (items : List PlacedItem) → AreBehind n items → n ≤ m → AreBehind m items
behind_more n m [] h le = tt
behind_more n m (placed ∷ items) h le = (let first = h.0 in omega arith, behind_more n m items h.1 le)

pub behind_pushed : (n : ℕ) (items : List PlacedItem) (placed : PlacedItem) → AreBehind n items → placed.lines ≤ n → AreBehind n (items ++ placed ∷ [])
behind_pushed n [] placed h le = (le, tt)
behind_pushed n (first ∷ items) placed h le = (h.0, behind_pushed n items placed h.1 le)

module _ (old new : ScriptFiles) (path : List ℕ) (bytes : Option (List ℕ)) (more : IsOneMore old new path bytes) where
  pub kept : (items : List PlacedItem) → AreBehind old.lines items → map (asked_in old.files) items ≡ map (asked_in new.files) items
  kept [] h = refl
  kept (placed ∷ items) h = λ i. asked_by (sym (more.earlier placed.lines h.0) i) placed.item ∷ kept items h.1 i

  pub still_behind : (items : List PlacedItem) → AreBehind old.lines items → AreBehind new.lines items
  still_behind items h = behind_more old.lines new.lines items h (let lines = more.lines in omega arith)

pub goes_put : (old new : ScriptFiles) (content : Content) → IsOneMore old new content.path (Some content.bytes) → (items : List PlacedItem) → AreBehind old.lines items
    → (rest : List Entry) → all_asked old items (Put content ∷ rest) ≡ all_asked new items rest
goes_put old new content more items h rest = λ i. kept old new content.path (Some content.bytes) more items h i ++ asked_from (sym more.last i) rest

pub goes_clear : (old new : ScriptFiles) (path : List ℕ) → IsOneMore old new path None → (items : List PlacedItem) → AreBehind old.lines items
    → (rest : List Entry) → all_asked old items (Clear path ∷ rest) ≡ all_asked new items rest
goes_clear old new path more items h rest = λ i. kept old new path None more items h i ++ asked_from (sym more.last i) rest

pushed_asked : (files : Files) (items : List PlacedItem) (placed : PlacedItem) (rest : List Asked)
    → map (asked_in files) items ++ (asked_in files placed ∷ rest) ≡ map (asked_in files) (items ++ placed ∷ []) ++ rest
pushed_asked files [] placed rest = refl
pushed_asked files (first ∷ items) placed rest = ap (λ l. asked_in files first ∷ l) (pushed_asked files items placed rest)

pub goes_asks : (script : ScriptFiles) (items : List PlacedItem) (item : Item) (rest : List Entry)
    → all_asked script items (Asks item ∷ rest) ≡ all_asked script (items ++ (record { item = item; lines = script.lines }) ∷ []) rest
goes_asks script items item rest = pushed_asked script.files items (record { item = item; lines = script.lines }) (asked_from _ rest)
