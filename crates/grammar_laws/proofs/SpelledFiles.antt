-- The texts of the file arguments that words give spell them.
use Rattle.std.proofs.Common.{◌≡◌, Bool, true, false, List, Result, Ok, Err, refl, sym, ◌∙◌}
use Rattle.std.specs.Prelude.{◌&&◌, not}
use Rattle.std.specs.List.{list_any}
use Rattle.depot_rows.specs.depot_path.Answers.{◌>>=◌}
use Rattle.depot_rows.specs.depot_path.declared.piece.Piece.{Piece}
use Rattle.depot_rows.specs.depot_model.declared.command.Command.{Command}
use Rattle.depot_rows.specs.depot_model.declared.command.FileArgument.{FileArgument}
use Rattle.depot_rows.specs.depot_model.declared.command.Labelling.{Labelling}
use Rattle.depot_rows.specs.depot_model.declared.command.Taking.{Taking}
use Rattle.depot_rows.specs.depot_model.declared.request.WordFault.{WordFault}
use Rattle.command_words.specs.Arguments as spec
use Rattle.command_words.specs.Fields as fields
use Rattle.command_words.specs.FileForms as forms
use Rattle.command_words.specs.Options.{Invocation}
use Rattle.command_words.proofs.Giving.{Gives, gives, both, after_it, after_any}
use Rattle.grammar_laws.specs.CommandText.{AllSpell, SomeSpell, BothSpell, IsSpelled, asks_head, asks_no_range, asks_any, asks_path, asks_folder}
use Rattle.grammar_laws.proofs.Giving.{files_given, some_given, ends_given}

pub spelled : (command : Command) → IsSpelled command → Gives {E = WordFault} IsSpelled (Ok command)
spelled command h = gives IsSpelled command h

-- what isn't taken isn't asked for
unasked : (asked taken : Bool) → taken ≡ false → (asked && not taken) ≡ false → not asked ≡ true
unasked true true none e = absurd cc
unasked true false none e = absurd cc
unasked false taken none e = refl

after_seen : {A B E : Type 0} (P : A → Type 0) (Q : B → Type 0) (first : Result A E) (f : A → Result B E) → Gives P first → ((x : A) → first ≡ Ok x → P x → Gives Q (f x)) → Gives Q (first >>= f)
after_seen P Q (Ok x) f h k = k x refl h.value
after_seen P Q (Err fault) f h k = record { value = tt }

-- ---- the files that a command takes

module _ (takes : _) (words : Invocation) where
  module _ (f : List FileArgument → Result Command WordFault) where
    pub some_heads : spec.takes_revision takes ≡ false → ((files : List FileArgument) → SomeSpell asks_head files → Gives IsSpelled (f files)) → Gives IsSpelled (fields.some_files takes words >>= f)
    some_heads none k =
        after_it (SomeSpell asks_head) IsSpelled (fields.some_files takes words) f (some_given words.command takes asks_head (λ given range revision pattern. unasked (spec.has_revision given.wanted) (spec.takes_revision takes) none revision) words.arguments) k

    pub all_heads : spec.takes_revision takes ≡ false → ((files : List FileArgument) → AllSpell asks_head files → Gives IsSpelled (f files)) → Gives IsSpelled (fields.files takes words >>= f)
    all_heads none k =
        after_it (AllSpell asks_head) IsSpelled (fields.files takes words) f (files_given words.command takes asks_head (λ given range revision pattern. unasked (spec.has_revision given.wanted) (spec.takes_revision takes) none revision) words.arguments) k

    pub some_single : spec.takes_ranges takes ≡ false → ((files : List FileArgument) → SomeSpell asks_no_range files → Gives IsSpelled (f files)) → Gives IsSpelled (fields.some_files takes words >>= f)
    some_single none k =
        after_it (SomeSpell asks_no_range) IsSpelled (fields.some_files takes words) f (some_given words.command takes asks_no_range (λ given range revision pattern. unasked (spec.is_range given.wanted) (spec.takes_ranges takes) none range) words.arguments) k

    pub all_single : spec.takes_ranges takes ≡ false → ((files : List FileArgument) → AllSpell asks_no_range files → Gives IsSpelled (f files)) → Gives IsSpelled (fields.files takes words >>= f)
    all_single none k =
        after_it (AllSpell asks_no_range) IsSpelled (fields.files takes words) f (files_given words.command takes asks_no_range (λ given range revision pattern. unasked (spec.is_range given.wanted) (spec.takes_ranges takes) none range) words.arguments) k

    pub all_any : ((files : List FileArgument) → AllSpell asks_any files → Gives IsSpelled (f files)) → Gives IsSpelled (fields.files takes words >>= f)
    all_any k = after_it (AllSpell asks_any) IsSpelled (fields.files takes words) f (files_given words.command takes asks_any (λ given range revision pattern. refl) words.arguments) k

    pub some_paths : spec.takes_revision takes ≡ false → ((pattern : List Piece) → spec.is_pattern_taken takes pattern ≡ spec.spells_path pattern) → ((files : List FileArgument) → SomeSpell asks_path files → Gives IsSpelled (f files))
        → Gives IsSpelled (fields.some_files takes words >>= f)
    some_paths none same k =
        after_it (SomeSpell asks_path) IsSpelled (fields.some_files takes words) f
        (some_given words.command takes asks_path (λ given range revision pattern. both (asks_head given) (spec.spells_path given.pattern) (unasked (spec.has_revision given.wanted) (spec.takes_revision takes) none revision) (sym (same given.pattern) ∙ pattern)) words.arguments) k

    pub some_folders : spec.takes_revision takes ≡ false → ((pattern : List Piece) → spec.is_pattern_taken takes pattern ≡ not (list_any spec.is_dots pattern)) → ((files : List FileArgument) → SomeSpell asks_folder files → Gives IsSpelled (f files))
        → Gives IsSpelled (fields.some_files takes words >>= f)
    some_folders none same k =
        after_it (SomeSpell asks_folder) IsSpelled (fields.some_files takes words) f
        (some_given words.command takes asks_folder (λ given range revision pattern. both (asks_head given) (not (list_any spec.is_dots given.pattern)) (unasked (spec.has_revision given.wanted) (spec.takes_revision takes) none revision) (sym (same given.pattern) ∙ pattern)) words.arguments) k

  pub both_heads : (f : _ → Result Command WordFault) → spec.takes_revision takes ≡ false → ((ends : _) → fields.both_ends takes words ≡ Ok ends → BothSpell asks_head ends.from ends.to → Gives IsSpelled (f ends))
      → Gives IsSpelled (fields.both_ends takes words >>= f)
  both_heads f none k =
      after_seen (λ ends. BothSpell asks_head ends.from ends.to) IsSpelled (fields.both_ends takes words) f (ends_given words.command takes asks_head (λ given range revision pattern. unasked (spec.has_revision given.wanted) (spec.takes_revision takes) none revision) words.arguments) k

  pub both_any : (f : _ → Result Command WordFault) → ((ends : _) → fields.both_ends takes words ≡ Ok ends → BothSpell asks_any ends.from ends.to → Gives IsSpelled (f ends)) → Gives IsSpelled (fields.both_ends takes words >>= f)
  both_any f k = after_seen (λ ends. BothSpell asks_any ends.from ends.to) IsSpelled (fields.both_ends takes words) f (ends_given words.command takes asks_any (λ given range revision pattern. refl) words.arguments) k

-- ---- each form

pub where_spells : (words : Invocation) → Gives IsSpelled (forms.where_paths words)
where_spells words = search (some_paths, spelled)

pub add_spells : (words : Invocation) → Gives IsSpelled (forms.add words)
add_spells words = search (some_paths, after_any, spelled)

pub edit_spells : (words : Invocation) → Gives IsSpelled (forms.edit words)
edit_spells words = search (some_heads, after_any, spelled)

pub delete_spells : (words : Invocation) → Gives IsSpelled (forms.delete words)
delete_spells words = search (some_heads, after_any, spelled)

pub move_spells : (words : Invocation) → Gives IsSpelled (forms.move_files words)
move_spells words = search (both_heads, after_any, spelled)

pub revert_spells : (words : Invocation) → Gives IsSpelled (forms.revert words)
revert_spells words = search (some_heads, after_any, spelled)

pub reopen_spells : (words : Invocation) → Gives IsSpelled (forms.reopen words)
reopen_spells words = search (some_heads, after_any, spelled)

pub lock_spells : (words : Invocation) → Gives IsSpelled (forms.lock words)
lock_spells words = search (some_heads, after_any, spelled)

pub unlock_spells : (words : Invocation) → Gives IsSpelled (forms.unlock words)
unlock_spells words = search (some_heads, after_any, spelled)

pub opened_spells : (words : Invocation) → Gives IsSpelled (forms.opened words)
opened_spells words = search (all_heads, spelled)

pub changes_spells : (words : Invocation) → Gives IsSpelled (forms.changes words)
changes_spells words = search (all_any, after_any, spelled) depth 10

pub sync_spells : (words : Invocation) → Gives IsSpelled (forms.sync words)
sync_spells words = search (all_single, spelled)

pub have_spells : (words : Invocation) → Gives IsSpelled (forms.have words)
have_spells words = search (all_heads, spelled)

pub tag_spells : (words : Invocation) → Gives IsSpelled (forms.tag words)
tag_spells words = search (some_single, after_any, spelled)

pub label_sync_spells : (labelling : Labelling) (words : Invocation) → Gives IsSpelled (forms.label_sync labelling words)
label_sync_spells labelling words = search (all_single, after_any, spelled)

pub integrate_spells : (words : Invocation) → Gives IsSpelled (forms.integrate words)
integrate_spells words = search (both_any, after_any, spelled)

pub resolve_spells : (taking : Taking) (words : Invocation) → Gives IsSpelled (forms.resolve taking words)
resolve_spells taking words = search (all_heads, spelled)

pub integrated_spells : (words : Invocation) → Gives IsSpelled (forms.integrated words)
integrated_spells words = search (some_heads, spelled)

pub files_spells : (words : Invocation) → Gives IsSpelled (forms.files_shown words)
files_spells words = search (some_single, spelled)

pub file_log_spells : (words : Invocation) → Gives IsSpelled (forms.file_log words)
file_log_spells words = search (some_single, spelled)

pub print_spells : (words : Invocation) → Gives IsSpelled (forms.print words)
print_spells words = search (some_single, spelled)

pub dirs_spells : (words : Invocation) → Gives IsSpelled (forms.dirs words)
dirs_spells words = search (some_folders, spelled)

pub file_stat_spells : (words : Invocation) → Gives IsSpelled (forms.file_stat words)
file_stat_spells words = search (some_single, spelled)

pub shelve_spells : (words : Invocation) → Gives IsSpelled (forms.shelve words)
shelve_spells words = search (all_heads, after_any, spelled)

pub shelve_delete_spells : (words : Invocation) → Gives IsSpelled (forms.shelve_delete words)
shelve_delete_spells words = search (all_heads, after_any, spelled)

pub unshelve_spells : (words : Invocation) → Gives IsSpelled (forms.unshelve words)
unshelve_spells words = search (all_heads, after_any, spelled)
