-- The rows that a set reads are those for which every choice of a revision asks.
use Rattle.std.proofs.Common.{◌≡◌, List, Option, Some, None, refl}
use Rattle.std.specs.Prelude.{is_some, option_map}
use Rattle.depot_rows.specs.depot_path.declared.revision.Wanted.{Wanted}
use Rattle.depot_rows.specs.table_changes.Changed.{AllRows}
use Rattle.depot_rows.specs.depot_model.declared.request.Caller.{Caller}
use Rattle.depot_rows.specs.depot_model.Deeds.{Deed}
use Rattle.revision_reads.proofs.Wanting.{wanted_had}
use Rattle.revision_reads.specs.Choice.{HaveRows, wanted_tables}
use Rattle.named_files.specs.Sets.{ShownReads}
use Rattle.named_files.specs.declared.asker.Asker.{Asker}
use Rattle.named_files.specs.declared.listing.Listing.{Listing}

pub reads_wanted : (caller : Caller) (asker : Asker) (listing : Listing) (rows : AllRows) (d : List Deed) → ShownReads caller asker listing rows d → (wanted : Wanted)
    → HaveRows rows d (wanted_tables wanted)
reads_wanted caller asker listing rows d reads wanted =
    wanted_had rows d reads.has_domain reads.has_have reads.has_label reads.has_change reads.has_rev wanted

-- one is there where the other is
pub some_alike : {A B C : Type 0} → (f : A → C) → (g : B → C) → (a : Option A) → (b : Option B) → option_map f a ≡ option_map g b → is_some a ≡ is_some b
some_alike f g None None e = refl
some_alike f g (Some x) (Some y) e = refl
some_alike f g None (Some y) e = absurd cc
some_alike f g (Some x) None e = absurd cc
