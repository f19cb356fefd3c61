-- The words of each command whose arguments are files read to it.
use Rattle.std.proofs.Common.{◌≡◌, ℕ, Bool, true, false, List, [], ◌∷◌, Option, Some, None, Ok, refl}
use Rattle.std.specs.Prelude.{codes}
use Rattle.depot_rows.specs.depot_path.Name.{is_name}
use Rattle.depot_rows.specs.depot_model.WellFormed.{is_type_or_none, answer_one_another}
use Rattle.depot_rows.specs.depot_model.declared.command.Command.TheVariants as commands
use Rattle.depot_rows.specs.depot_model.declared.command.FileArgument.{FileArgument}
use Rattle.depot_rows.specs.depot_model.declared.command.PatternArgument.{PatternArgument}
use Rattle.depot_rows.specs.depot_model.declared.command.Labelling.{Labelling}
use Rattle.depot_rows.specs.depot_model.declared.command.Labelling.TheVariants.{Exact, Adding, Removing}
use Rattle.depot_rows.specs.depot_model.declared.command.Taking.{Taking}
use Rattle.depot_rows.specs.depot_model.declared.command.Taking.TheVariants.{Theirs, Yours}
use Rattle.command_words.specs.Fields as fields
use Rattle.command_words.specs.FileForms as forms
use Rattle.command_words.specs.Options.{Given, invocation}
use Rattle.command_words.specs.Table.{table}
use Rattle.command_words.specs.WellFormed.{is_number, is_number_or_none, is_name_or_none}
use Rattle.command_words.proofs.Giving.{both}
use Rattle.grammar_laws.specs.CommandText.{texts, AllSpell, SomeSpell, BothSpell, asks_head, asks_no_range, asks_any, asks_path, asks_folder}
use Rattle.grammar_laws.proofs.FileTexts.{some_paths, some_heads, some_single, some_folders, all_heads, all_single, all_any, both_heads, both_any, file_plain, all_plain, some_plain}
use Rattle.grammar_laws.proofs.Given.{bound, number_fits, change_fits, type_fits, number_given, change_given, name_given, type_given, text_given}
use Rattle.grammar_laws.proofs.OptionWords.{Reads, reads, options_of}

where_made : (command : List ℕ) (options : List Given) (files : List FileArgument) → SomeSpell asks_path files → forms.where_paths (invocation command options (texts files)) ≡ Ok (commands.Where files)
where_made command options files spelled =
    search (some_paths, spelled)

pub where_reads : (files : List FileArgument) → SomeSpell asks_path files → Reads (commands.Where files)
unfolding table
where_reads files spelled =
    reads (commands.Where files) refl refl (some_plain asks_path files spelled)
    (where_made (codes "where") (options_of (commands.Where files)) files spelled)

add_made : (command : List ℕ) (options : List Given) (change : Option ℕ) (type : Option (List ℕ)) (files : List FileArgument) → fields.number_option (codes "-c") (invocation command options (texts files)) ≡ Ok change → fields.type_option (codes "-t") (invocation command options (texts files)) ≡ Ok type → SomeSpell asks_path files → forms.add (invocation command options (texts files)) ≡ Ok (commands.Add change type files)
add_made command options change type files is_change is_type spelled =
    bound _ change _ _ is_change (bound _ type _ _ is_type (search (some_paths, spelled)))

pub add_reads : (change : Option ℕ) (type : Option (List ℕ)) (files : List FileArgument) → is_number_or_none change ≡ true → is_type_or_none type ≡ true → SomeSpell asks_path files → Reads (commands.Add change type files)
unfolding table
add_reads None None files on_change on_type spelled =
    reads (commands.Add None None files) refl refl (some_plain asks_path files spelled)
    (add_made (codes "add") (options_of (commands.Add None None files)) None None files (number_given (codes "add") None on_change) (type_given (codes "add") None on_type) spelled)
add_reads None (Some xtype) files on_change on_type spelled =
    reads (commands.Add None (Some xtype) files) refl (both _ _ (type_fits xtype on_type) refl) (some_plain asks_path files spelled)
    (add_made (codes "add") (options_of (commands.Add None (Some xtype) files)) None (Some xtype) files (number_given (codes "add") None on_change) (type_given (codes "add") (Some xtype) on_type) spelled)
add_reads (Some xchange) None files on_change on_type spelled =
    reads (commands.Add (Some xchange) None files) refl (both _ _ (number_fits xchange on_change) refl) (some_plain asks_path files spelled)
    (add_made (codes "add") (options_of (commands.Add (Some xchange) None files)) (Some xchange) None files (number_given (codes "add") (Some xchange) on_change) (type_given (codes "add") None on_type) spelled)
add_reads (Some xchange) (Some xtype) files on_change on_type spelled =
    reads (commands.Add (Some xchange) (Some xtype) files) refl (both _ _ (number_fits xchange on_change) (both _ _ (type_fits xtype on_type) refl)) (some_plain asks_path files spelled)
    (add_made (codes "add") (options_of (commands.Add (Some xchange) (Some xtype) files)) (Some xchange) (Some xtype) files (number_given (codes "add") (Some xchange) on_change) (type_given (codes "add") (Some xtype) on_type) spelled)

edit_made : (command : List ℕ) (options : List Given) (change : Option ℕ) (type : Option (List ℕ)) (files : List FileArgument) → fields.number_option (codes "-c") (invocation command options (texts files)) ≡ Ok change → fields.type_option (codes "-t") (invocation command options (texts files)) ≡ Ok type → SomeSpell asks_head files → forms.edit (invocation command options (texts files)) ≡ Ok (commands.Edit change type files)
edit_made command options change type files is_change is_type spelled =
    bound _ change _ _ is_change (bound _ type _ _ is_type (search (some_heads, spelled)))

pub edit_reads : (change : Option ℕ) (type : Option (List ℕ)) (files : List FileArgument) → is_number_or_none change ≡ true → is_type_or_none type ≡ true → SomeSpell asks_head files → Reads (commands.Edit change type files)
unfolding table
edit_reads None None files on_change on_type spelled =
    reads (commands.Edit None None files) refl refl (some_plain asks_head files spelled)
    (edit_made (codes "edit") (options_of (commands.Edit None None files)) None None files (number_given (codes "edit") None on_change) (type_given (codes "edit") None on_type) spelled)
edit_reads None (Some xtype) files on_change on_type spelled =
    reads (commands.Edit None (Some xtype) files) refl (both _ _ (type_fits xtype on_type) refl) (some_plain asks_head files spelled)
    (edit_made (codes "edit") (options_of (commands.Edit None (Some xtype) files)) None (Some xtype) files (number_given (codes "edit") None on_change) (type_given (codes "edit") (Some xtype) on_type) spelled)
edit_reads (Some xchange) None files on_change on_type spelled =
    reads (commands.Edit (Some xchange) None files) refl (both _ _ (number_fits xchange on_change) refl) (some_plain asks_head files spelled)
    (edit_made (codes "edit") (options_of (commands.Edit (Some xchange) None files)) (Some xchange) None files (number_given (codes "edit") (Some xchange) on_change) (type_given (codes "edit") None on_type) spelled)
edit_reads (Some xchange) (Some xtype) files on_change on_type spelled =
    reads (commands.Edit (Some xchange) (Some xtype) files) refl (both _ _ (number_fits xchange on_change) (both _ _ (type_fits xtype on_type) refl)) (some_plain asks_head files spelled)
    (edit_made (codes "edit") (options_of (commands.Edit (Some xchange) (Some xtype) files)) (Some xchange) (Some xtype) files (number_given (codes "edit") (Some xchange) on_change) (type_given (codes "edit") (Some xtype) on_type) spelled)

delete_made : (command : List ℕ) (options : List Given) (change : Option ℕ) (files : List FileArgument) → fields.number_option (codes "-c") (invocation command options (texts files)) ≡ Ok change → SomeSpell asks_head files → forms.delete (invocation command options (texts files)) ≡ Ok (commands.Delete change files)
delete_made command options change files is_change spelled =
    bound _ change _ _ is_change (search (some_heads, spelled))

pub delete_reads : (change : Option ℕ) (files : List FileArgument) → is_number_or_none change ≡ true → SomeSpell asks_head files → Reads (commands.Delete change files)
unfolding table
delete_reads None files on_change spelled =
    reads (commands.Delete None files) refl refl (some_plain asks_head files spelled)
    (delete_made (codes "delete") (options_of (commands.Delete None files)) None files (number_given (codes "delete") None on_change) spelled)
delete_reads (Some xchange) files on_change spelled =
    reads (commands.Delete (Some xchange) files) refl (both _ _ (number_fits xchange on_change) refl) (some_plain asks_head files spelled)
    (delete_made (codes "delete") (options_of (commands.Delete (Some xchange) files)) (Some xchange) files (number_given (codes "delete") (Some xchange) on_change) spelled)

move_made : (command : List ℕ) (options : List Given) (change : Option ℕ) (from : FileArgument) (to : PatternArgument) → fields.number_option (codes "-c") (invocation command options (from.text ∷ to.text ∷ [])) ≡ Ok change → BothSpell asks_head from to → answer_one_another from to ≡ true → forms.move_files (invocation command options (from.text ∷ to.text ∷ [])) ≡ Ok (commands.Move change from to)
move_made command options change from to is_change spelled answers =
    bound _ change _ _ is_change (search (bound, both_heads, spelled, answers))

pub move_reads : (change : Option ℕ) (from : FileArgument) (to : PatternArgument) → is_number_or_none change ≡ true → BothSpell asks_head from to → answer_one_another from to ≡ true → Reads (commands.Move change from to)
unfolding table
move_reads None from to on_change spelled answers =
    reads (commands.Move None from to) refl refl (file_plain asks_head from spelled.0)
    (move_made (codes "move") (options_of (commands.Move None from to)) None from to (number_given (codes "move") None on_change) spelled answers)
move_reads (Some xchange) from to on_change spelled answers =
    reads (commands.Move (Some xchange) from to) refl (both _ _ (number_fits xchange on_change) refl) (file_plain asks_head from spelled.0)
    (move_made (codes "move") (options_of (commands.Move (Some xchange) from to)) (Some xchange) from to (number_given (codes "move") (Some xchange) on_change) spelled answers)

revert_made : (command : List ℕ) (options : List Given) (change : Option ℕ) (files : List FileArgument) → fields.number_option (codes "-c") (invocation command options (texts files)) ≡ Ok change → SomeSpell asks_head files → forms.revert (invocation command options (texts files)) ≡ Ok (commands.Revert change files)
revert_made command options change files is_change spelled =
    bound _ change _ _ is_change (search (some_heads, spelled))

pub revert_reads : (change : Option ℕ) (files : List FileArgument) → is_number_or_none change ≡ true → SomeSpell asks_head files → Reads (commands.Revert change files)
unfolding table
revert_reads None files on_change spelled =
    reads (commands.Revert None files) refl refl (some_plain asks_head files spelled)
    (revert_made (codes "revert") (options_of (commands.Revert None files)) None files (number_given (codes "revert") None on_change) spelled)
revert_reads (Some xchange) files on_change spelled =
    reads (commands.Revert (Some xchange) files) refl (both _ _ (number_fits xchange on_change) refl) (some_plain asks_head files spelled)
    (revert_made (codes "revert") (options_of (commands.Revert (Some xchange) files)) (Some xchange) files (number_given (codes "revert") (Some xchange) on_change) spelled)

reopen_made : (command : List ℕ) (options : List Given) (change : Option ℕ) (type : Option (List ℕ)) (files : List FileArgument) → fields.change_option (codes "-c") (invocation command options (texts files)) ≡ Ok change → fields.type_option (codes "-t") (invocation command options (texts files)) ≡ Ok type → SomeSpell asks_head files → forms.reopen (invocation command options (texts files)) ≡ Ok (commands.Reopen change type files)
reopen_made command options change type files is_change is_type spelled =
    bound _ change _ _ is_change (bound _ type _ _ is_type (search (some_heads, spelled)))

pub reopen_reads : (change : Option ℕ) (type : Option (List ℕ)) (files : List FileArgument) → is_number_or_none change ≡ true → is_type_or_none type ≡ true → SomeSpell asks_head files → Reads (commands.Reopen change type files)
unfolding table
reopen_reads None None files on_change on_type spelled =
    reads (commands.Reopen None None files) refl refl (some_plain asks_head files spelled)
    (reopen_made (codes "reopen") (options_of (commands.Reopen None None files)) None None files (change_given (codes "reopen") None on_change) (type_given (codes "reopen") None on_type) spelled)
reopen_reads None (Some xtype) files on_change on_type spelled =
    reads (commands.Reopen None (Some xtype) files) refl (both _ _ (type_fits xtype on_type) refl) (some_plain asks_head files spelled)
    (reopen_made (codes "reopen") (options_of (commands.Reopen None (Some xtype) files)) None (Some xtype) files (change_given (codes "reopen") None on_change) (type_given (codes "reopen") (Some xtype) on_type) spelled)
reopen_reads (Some xchange) None files on_change on_type spelled =
    reads (commands.Reopen (Some xchange) None files) refl (both _ _ (change_fits xchange on_change) refl) (some_plain asks_head files spelled)
    (reopen_made (codes "reopen") (options_of (commands.Reopen (Some xchange) None files)) (Some xchange) None files (change_given (codes "reopen") (Some xchange) on_change) (type_given (codes "reopen") None on_type) spelled)
reopen_reads (Some xchange) (Some xtype) files on_change on_type spelled =
    reads (commands.Reopen (Some xchange) (Some xtype) files) refl (both _ _ (change_fits xchange on_change) (both _ _ (type_fits xtype on_type) refl)) (some_plain asks_head files spelled)
    (reopen_made (codes "reopen") (options_of (commands.Reopen (Some xchange) (Some xtype) files)) (Some xchange) (Some xtype) files (change_given (codes "reopen") (Some xchange) on_change) (type_given (codes "reopen") (Some xtype) on_type) spelled)

lock_made : (command : List ℕ) (options : List Given) (change : Option ℕ) (files : List FileArgument) → fields.number_option (codes "-c") (invocation command options (texts files)) ≡ Ok change → SomeSpell asks_head files → forms.lock (invocation command options (texts files)) ≡ Ok (commands.Lock change files)
lock_made command options change files is_change spelled =
    bound _ change _ _ is_change (search (some_heads, spelled))

pub lock_reads : (change : Option ℕ) (files : List FileArgument) → is_number_or_none change ≡ true → SomeSpell asks_head files → Reads (commands.Lock change files)
unfolding table
lock_reads None files on_change spelled =
    reads (commands.Lock None files) refl refl (some_plain asks_head files spelled)
    (lock_made (codes "lock") (options_of (commands.Lock None files)) None files (number_given (codes "lock") None on_change) spelled)
lock_reads (Some xchange) files on_change spelled =
    reads (commands.Lock (Some xchange) files) refl (both _ _ (number_fits xchange on_change) refl) (some_plain asks_head files spelled)
    (lock_made (codes "lock") (options_of (commands.Lock (Some xchange) files)) (Some xchange) files (number_given (codes "lock") (Some xchange) on_change) spelled)

unlock_made : (command : List ℕ) (options : List Given) (change : Option ℕ) (files : List FileArgument) → fields.number_option (codes "-c") (invocation command options (texts files)) ≡ Ok change → SomeSpell asks_head files → forms.unlock (invocation command options (texts files)) ≡ Ok (commands.Unlock change files)
unlock_made command options change files is_change spelled =
    bound _ change _ _ is_change (search (some_heads, spelled))

pub unlock_reads : (change : Option ℕ) (files : List FileArgument) → is_number_or_none change ≡ true → SomeSpell asks_head files → Reads (commands.Unlock change files)
unfolding table
unlock_reads None files on_change spelled =
    reads (commands.Unlock None files) refl refl (some_plain asks_head files spelled)
    (unlock_made (codes "unlock") (options_of (commands.Unlock None files)) None files (number_given (codes "unlock") None on_change) spelled)
unlock_reads (Some xchange) files on_change spelled =
    reads (commands.Unlock (Some xchange) files) refl (both _ _ (number_fits xchange on_change) refl) (some_plain asks_head files spelled)
    (unlock_made (codes "unlock") (options_of (commands.Unlock (Some xchange) files)) (Some xchange) files (number_given (codes "unlock") (Some xchange) on_change) spelled)

opened_made : (command : List ℕ) (options : List Given) (files : List FileArgument) → AllSpell asks_head files → forms.opened (invocation command options (texts files)) ≡ Ok (commands.Opened (fields.has (codes "-a") (invocation command options (texts files))) files)
opened_made command options files spelled =
    search (all_heads, spelled)

pub opened_reads : (all : Bool) (files : List FileArgument) → AllSpell asks_head files → Reads (commands.Opened all files)
unfolding table
opened_reads true files spelled =
    reads (commands.Opened true files) refl refl (all_plain asks_head files spelled)
    (opened_made (codes "opened") (options_of (commands.Opened true files)) files spelled)
opened_reads false files spelled =
    reads (commands.Opened false files) refl refl (all_plain asks_head files spelled)
    (opened_made (codes "opened") (options_of (commands.Opened false files)) files spelled)

changes_made : (command : List ℕ) (options : List Given) (most : Option ℕ) (status : Option (List ℕ)) (user : Option (List ℕ)) (client : Option (List ℕ)) (files : List FileArgument) → fields.number_option (codes "-m") (invocation command options (texts files)) ≡ Ok most → fields.text_option (codes "-s") (invocation command options (texts files)) ≡ Ok status → fields.name_option (codes "-u") (invocation command options (texts files)) ≡ Ok user → fields.name_option (codes "-c") (invocation command options (texts files)) ≡ Ok client → AllSpell asks_any files → forms.changes (invocation command options (texts files)) ≡ Ok (commands.Changes most status user client files)
changes_made command options most status user client files is_most is_status is_user is_client spelled =
    bound _ most _ _ is_most (bound _ status _ _ is_status (bound _ user _ _ is_user (bound _ client _ _ is_client (search (all_any, spelled)))))

pub changes_reads : (most : Option ℕ) (status : Option (List ℕ)) (user : Option (List ℕ)) (client : Option (List ℕ)) (files : List FileArgument) → is_number_or_none most ≡ true → is_name_or_none user ≡ true → is_name_or_none client ≡ true → AllSpell asks_any files → Reads (commands.Changes most status user client files)
unfolding table
changes_reads None None None None files on_most on_user on_client spelled =
    reads (commands.Changes None None None None files) refl refl (all_plain asks_any files spelled)
    (changes_made (codes "changes") (options_of (commands.Changes None None None None files)) None None None None files (number_given (codes "changes") None on_most) (text_given (codes "changes") None) (name_given (codes "changes") None on_user) (name_given (codes "changes") None on_client) spelled)
changes_reads None None None (Some xclient) files on_most on_user on_client spelled =
    reads (commands.Changes None None None (Some xclient) files) refl (both _ _ on_client refl) (all_plain asks_any files spelled)
    (changes_made (codes "changes") (options_of (commands.Changes None None None (Some xclient) files)) None None None (Some xclient) files (number_given (codes "changes") None on_most) (text_given (codes "changes") None) (name_given (codes "changes") None on_user) (name_given (codes "changes") (Some xclient) on_client) spelled)
changes_reads None None (Some xuser) None files on_most on_user on_client spelled =
    reads (commands.Changes None None (Some xuser) None files) refl (both _ _ on_user refl) (all_plain asks_any files spelled)
    (changes_made (codes "changes") (options_of (commands.Changes None None (Some xuser) None files)) None None (Some xuser) None files (number_given (codes "changes") None on_most) (text_given (codes "changes") None) (name_given (codes "changes") (Some xuser) on_user) (name_given (codes "changes") None on_client) spelled)
changes_reads None None (Some xuser) (Some xclient) files on_most on_user on_client spelled =
    reads (commands.Changes None None (Some xuser) (Some xclient) files) refl (both _ _ on_user (both _ _ on_client refl)) (all_plain asks_any files spelled)
    (changes_made (codes "changes") (options_of (commands.Changes None None (Some xuser) (Some xclient) files)) None None (Some xuser) (Some xclient) files (number_given (codes "changes") None on_most) (text_given (codes "changes") None) (name_given (codes "changes") (Some xuser) on_user) (name_given (codes "changes") (Some xclient) on_client) spelled)
changes_reads None (Some xstatus) None None files on_most on_user on_client spelled =
    reads (commands.Changes None (Some xstatus) None None files) refl refl (all_plain asks_any files spelled)
    (changes_made (codes "changes") (options_of (commands.Changes None (Some xstatus) None None files)) None (Some xstatus) None None files (number_given (codes "changes") None on_most) (text_given (codes "changes") (Some xstatus)) (name_given (codes "changes") None on_user) (name_given (codes "changes") None on_client) spelled)
changes_reads None (Some xstatus) None (Some xclient) files on_most on_user on_client spelled =
    reads (commands.Changes None (Some xstatus) None (Some xclient) files) refl (both _ _ on_client refl) (all_plain asks_any files spelled)
    (changes_made (codes "changes") (options_of (commands.Changes None (Some xstatus) None (Some xclient) files)) None (Some xstatus) None (Some xclient) files (number_given (codes "changes") None on_most) (text_given (codes "changes") (Some xstatus)) (name_given (codes "changes") None on_user) (name_given (codes "changes") (Some xclient) on_client) spelled)
changes_reads None (Some xstatus) (Some xuser) None files on_most on_user on_client spelled =
    reads (commands.Changes None (Some xstatus) (Some xuser) None files) refl (both _ _ on_user refl) (all_plain asks_any files spelled)
    (changes_made (codes "changes") (options_of (commands.Changes None (Some xstatus) (Some xuser) None files)) None (Some xstatus) (Some xuser) None files (number_given (codes "changes") None on_most) (text_given (codes "changes") (Some xstatus)) (name_given (codes "changes") (Some xuser) on_user) (name_given (codes "changes") None on_client) spelled)
changes_reads None (Some xstatus) (Some xuser) (Some xclient) files on_most on_user on_client spelled =
    reads (commands.Changes None (Some xstatus) (Some xuser) (Some xclient) files) refl (both _ _ on_user (both _ _ on_client refl)) (all_plain asks_any files spelled)
    (changes_made (codes "changes") (options_of (commands.Changes None (Some xstatus) (Some xuser) (Some xclient) files)) None (Some xstatus) (Some xuser) (Some xclient) files (number_given (codes "changes") None on_most) (text_given (codes "changes") (Some xstatus)) (name_given (codes "changes") (Some xuser) on_user) (name_given (codes "changes") (Some xclient) on_client) spelled)
changes_reads (Some xmost) None None None files on_most on_user on_client spelled =
    reads (commands.Changes (Some xmost) None None None files) refl (both _ _ (number_fits xmost on_most) refl) (all_plain asks_any files spelled)
    (changes_made (codes "changes") (options_of (commands.Changes (Some xmost) None None None files)) (Some xmost) None None None files (number_given (codes "changes") (Some xmost) on_most) (text_given (codes "changes") None) (name_given (codes "changes") None on_user) (name_given (codes "changes") None on_client) spelled)
changes_reads (Some xmost) None None (Some xclient) files on_most on_user on_client spelled =
    reads (commands.Changes (Some xmost) None None (Some xclient) files) refl (both _ _ (number_fits xmost on_most) (both _ _ on_client refl)) (all_plain asks_any files spelled)
    (changes_made (codes "changes") (options_of (commands.Changes (Some xmost) None None (Some xclient) files)) (Some xmost) None None (Some xclient) files (number_given (codes "changes") (Some xmost) on_most) (text_given (codes "changes") None) (name_given (codes "changes") None on_user) (name_given (codes "changes") (Some xclient) on_client) spelled)
changes_reads (Some xmost) None (Some xuser) None files on_most on_user on_client spelled =
    reads (commands.Changes (Some xmost) None (Some xuser) None files) refl (both _ _ (number_fits xmost on_most) (both _ _ on_user refl)) (all_plain asks_any files spelled)
    (changes_made (codes "changes") (options_of (commands.Changes (Some xmost) None (Some xuser) None files)) (Some xmost) None (Some xuser) None files (number_given (codes "changes") (Some xmost) on_most) (text_given (codes "changes") None) (name_given (codes "changes") (Some xuser) on_user) (name_given (codes "changes") None on_client) spelled)
changes_reads (Some xmost) None (Some xuser) (Some xclient) files on_most on_user on_client spelled =
    reads (commands.Changes (Some xmost) None (Some xuser) (Some xclient) files) refl (both _ _ (number_fits xmost on_most) (both _ _ on_user (both _ _ on_client refl))) (all_plain asks_any files spelled)
    (changes_made (codes "changes") (options_of (commands.Changes (Some xmost) None (Some xuser) (Some xclient) files)) (Some xmost) None (Some xuser) (Some xclient) files (number_given (codes "changes") (Some xmost) on_most) (text_given (codes "changes") None) (name_given (codes "changes") (Some xuser) on_user) (name_given (codes "changes") (Some xclient) on_client) spelled)
changes_reads (Some xmost) (Some xstatus) None None files on_most on_user on_client spelled =
    reads (commands.Changes (Some xmost) (Some xstatus) None None files) refl (both _ _ (number_fits xmost on_most) refl) (all_plain asks_any files spelled)
    (changes_made (codes "changes") (options_of (commands.Changes (Some xmost) (Some xstatus) None None files)) (Some xmost) (Some xstatus) None None files (number_given (codes "changes") (Some xmost) on_most) (text_given (codes "changes") (Some xstatus)) (name_given (codes "changes") None on_user) (name_given (codes "changes") None on_client) spelled)
changes_reads (Some xmost) (Some xstatus) None (Some xclient) files on_most on_user on_client spelled =
    reads (commands.Changes (Some xmost) (Some xstatus) None (Some xclient) files) refl (both _ _ (number_fits xmost on_most) (both _ _ on_client refl)) (all_plain asks_any files spelled)
    (changes_made (codes "changes") (options_of (commands.Changes (Some xmost) (Some xstatus) None (Some xclient) files)) (Some xmost) (Some xstatus) None (Some xclient) files (number_given (codes "changes") (Some xmost) on_most) (text_given (codes "changes") (Some xstatus)) (name_given (codes "changes") None on_user) (name_given (codes "changes") (Some xclient) on_client) spelled)
changes_reads (Some xmost) (Some xstatus) (Some xuser) None files on_most on_user on_client spelled =
    reads (commands.Changes (Some xmost) (Some xstatus) (Some xuser) None files) refl (both _ _ (number_fits xmost on_most) (both _ _ on_user refl)) (all_plain asks_any files spelled)
    (changes_made (codes "changes") (options_of (commands.Changes (Some xmost) (Some xstatus) (Some xuser) None files)) (Some xmost) (Some xstatus) (Some xuser) None files (number_given (codes "changes") (Some xmost) on_most) (text_given (codes "changes") (Some xstatus)) (name_given (codes "changes") (Some xuser) on_user) (name_given (codes "changes") None on_client) spelled)
changes_reads (Some xmost) (Some xstatus) (Some xuser) (Some xclient) files on_most on_user on_client spelled =
    reads (commands.Changes (Some xmost) (Some xstatus) (Some xuser) (Some xclient) files) refl (both _ _ (number_fits xmost on_most) (both _ _ on_user (both _ _ on_client refl))) (all_plain asks_any files spelled)
    (changes_made (codes "changes") (options_of (commands.Changes (Some xmost) (Some xstatus) (Some xuser) (Some xclient) files)) (Some xmost) (Some xstatus) (Some xuser) (Some xclient) files (number_given (codes "changes") (Some xmost) on_most) (text_given (codes "changes") (Some xstatus)) (name_given (codes "changes") (Some xuser) on_user) (name_given (codes "changes") (Some xclient) on_client) spelled)

sync_made : (command : List ℕ) (options : List Given) (files : List FileArgument) → AllSpell asks_no_range files → forms.sync (invocation command options (texts files)) ≡ Ok (commands.Sync (fields.has (codes "-f") (invocation command options (texts files))) (fields.has (codes "-n") (invocation command options (texts files))) files)
sync_made command options files spelled =
    search (all_single, spelled)

pub sync_reads : (again : Bool) (shows : Bool) (files : List FileArgument) → AllSpell asks_no_range files → Reads (commands.Sync again shows files)
unfolding table
sync_reads true true files spelled =
    reads (commands.Sync true true files) refl refl (all_plain asks_no_range files spelled)
    (sync_made (codes "sync") (options_of (commands.Sync true true files)) files spelled)
sync_reads true false files spelled =
    reads (commands.Sync true false files) refl refl (all_plain asks_no_range files spelled)
    (sync_made (codes "sync") (options_of (commands.Sync true false files)) files spelled)
sync_reads false true files spelled =
    reads (commands.Sync false true files) refl refl (all_plain asks_no_range files spelled)
    (sync_made (codes "sync") (options_of (commands.Sync false true files)) files spelled)
sync_reads false false files spelled =
    reads (commands.Sync false false files) refl refl (all_plain asks_no_range files spelled)
    (sync_made (codes "sync") (options_of (commands.Sync false false files)) files spelled)

have_made : (command : List ℕ) (options : List Given) (files : List FileArgument) → AllSpell asks_head files → forms.have (invocation command options (texts files)) ≡ Ok (commands.Have files)
have_made command options files spelled =
    search (all_heads, spelled)

pub have_reads : (files : List FileArgument) → AllSpell asks_head files → Reads (commands.Have files)
unfolding table
have_reads files spelled =
    reads (commands.Have files) refl refl (all_plain asks_head files spelled)
    (have_made (codes "have") (options_of (commands.Have files)) files spelled)

tag_made : (command : List ℕ) (options : List Given) (label : List ℕ) (files : List FileArgument) → fields.name_option (codes "-l") (invocation command options (texts files)) ≡ Ok (Some label) → SomeSpell asks_no_range files → forms.tag (invocation command options (texts files)) ≡ Ok (commands.Tag label (fields.has (codes "-d") (invocation command options (texts files))) files)
tag_made command options label files is_label spelled =
    bound _ (Some label) _ _ is_label (search (some_single, spelled))

pub tag_reads : (label : List ℕ) (removes : Bool) (files : List FileArgument) → is_name label ≡ true → SomeSpell asks_no_range files → Reads (commands.Tag label removes files)
unfolding table
tag_reads label true files on_label spelled =
    reads (commands.Tag label true files) refl (both _ _ on_label refl) (some_plain asks_no_range files spelled)
    (tag_made (codes "tag") (options_of (commands.Tag label true files)) label files (name_given (codes "tag") (Some label) on_label) spelled)
tag_reads label false files on_label spelled =
    reads (commands.Tag label false files) refl (both _ _ on_label refl) (some_plain asks_no_range files spelled)
    (tag_made (codes "tag") (options_of (commands.Tag label false files)) label files (name_given (codes "tag") (Some label) on_label) spelled)

label_sync_made : (command : List ℕ) (options : List Given) (label : List ℕ) (labelling : Labelling) (files : List FileArgument) → fields.name_option (codes "-l") (invocation command options (texts files)) ≡ Ok (Some label) → AllSpell asks_no_range files → forms.label_sync labelling (invocation command options (texts files)) ≡ Ok (commands.LabelSync label labelling files)
label_sync_made command options label labelling files is_label spelled =
    bound _ (Some label) _ _ is_label (search (all_single, spelled))

pub label_sync_reads : (label : List ℕ) (labelling : Labelling) (files : List FileArgument) → is_name label ≡ true → AllSpell asks_no_range files → Reads (commands.LabelSync label labelling files)
unfolding table
label_sync_reads label Exact files on_label spelled =
    reads (commands.LabelSync label Exact files) refl (both _ _ on_label refl) (all_plain asks_no_range files spelled)
    (label_sync_made (codes "labelsync") (options_of (commands.LabelSync label Exact files)) label Exact files (name_given (codes "labelsync") (Some label) on_label) spelled)
label_sync_reads label Adding files on_label spelled =
    reads (commands.LabelSync label Adding files) refl (both _ _ on_label refl) (all_plain asks_no_range files spelled)
    (label_sync_made (codes "labelsync") (options_of (commands.LabelSync label Adding files)) label Adding files (name_given (codes "labelsync") (Some label) on_label) spelled)
label_sync_reads label Removing files on_label spelled =
    reads (commands.LabelSync label Removing files) refl (both _ _ on_label refl) (all_plain asks_no_range files spelled)
    (label_sync_made (codes "labelsync") (options_of (commands.LabelSync label Removing files)) label Removing files (name_given (codes "labelsync") (Some label) on_label) spelled)

integrate_made : (command : List ℕ) (options : List Given) (change : Option ℕ) (from : FileArgument) (to : PatternArgument) → fields.number_option (codes "-c") (invocation command options (from.text ∷ to.text ∷ [])) ≡ Ok change → BothSpell asks_any from to → answer_one_another from to ≡ true → forms.integrate (invocation command options (from.text ∷ to.text ∷ [])) ≡ Ok (commands.Integrate change from to)
integrate_made command options change from to is_change spelled answers =
    bound _ change _ _ is_change (search (bound, both_any, spelled, answers))

pub integrate_reads : (change : Option ℕ) (from : FileArgument) (to : PatternArgument) → is_number_or_none change ≡ true → BothSpell asks_any from to → answer_one_another from to ≡ true → Reads (commands.Integrate change from to)
unfolding table
integrate_reads None from to on_change spelled answers =
    reads (commands.Integrate None from to) refl refl (file_plain asks_any from spelled.0)
    (integrate_made (codes "integrate") (options_of (commands.Integrate None from to)) None from to (number_given (codes "integrate") None on_change) spelled answers)
integrate_reads (Some xchange) from to on_change spelled answers =
    reads (commands.Integrate (Some xchange) from to) refl (both _ _ (number_fits xchange on_change) refl) (file_plain asks_any from spelled.0)
    (integrate_made (codes "integrate") (options_of (commands.Integrate (Some xchange) from to)) (Some xchange) from to (number_given (codes "integrate") (Some xchange) on_change) spelled answers)

resolve_made : (command : List ℕ) (options : List Given) (taking : Taking) (files : List FileArgument) → AllSpell asks_head files → forms.resolve taking (invocation command options (texts files)) ≡ Ok (commands.Resolve taking files)
resolve_made command options taking files spelled =
    search (all_heads, spelled)

pub resolve_reads : (taking : Taking) (files : List FileArgument) → AllSpell asks_head files → Reads (commands.Resolve taking files)
unfolding table
resolve_reads Theirs files spelled =
    reads (commands.Resolve Theirs files) refl refl (all_plain asks_head files spelled)
    (resolve_made (codes "resolve") (options_of (commands.Resolve Theirs files)) Theirs files spelled)
resolve_reads Yours files spelled =
    reads (commands.Resolve Yours files) refl refl (all_plain asks_head files spelled)
    (resolve_made (codes "resolve") (options_of (commands.Resolve Yours files)) Yours files spelled)

integrated_made : (command : List ℕ) (options : List Given) (files : List FileArgument) → SomeSpell asks_head files → forms.integrated (invocation command options (texts files)) ≡ Ok (commands.Integrated files)
integrated_made command options files spelled =
    search (some_heads, spelled)

pub integrated_reads : (files : List FileArgument) → SomeSpell asks_head files → Reads (commands.Integrated files)
unfolding table
integrated_reads files spelled =
    reads (commands.Integrated files) refl refl (some_plain asks_head files spelled)
    (integrated_made (codes "integrated") (options_of (commands.Integrated files)) files spelled)

files_made : (command : List ℕ) (options : List Given) (files : List FileArgument) → SomeSpell asks_no_range files → forms.files_shown (invocation command options (texts files)) ≡ Ok (commands.Files (fields.has (codes "-e") (invocation command options (texts files))) files)
files_made command options files spelled =
    search (some_single, spelled)

pub files_reads : (live : Bool) (files : List FileArgument) → SomeSpell asks_no_range files → Reads (commands.Files live files)
unfolding table
files_reads true files spelled =
    reads (commands.Files true files) refl refl (some_plain asks_no_range files spelled)
    (files_made (codes "files") (options_of (commands.Files true files)) files spelled)
files_reads false files spelled =
    reads (commands.Files false files) refl refl (some_plain asks_no_range files spelled)
    (files_made (codes "files") (options_of (commands.Files false files)) files spelled)

file_log_made : (command : List ℕ) (options : List Given) (files : List FileArgument) → SomeSpell asks_no_range files → forms.file_log (invocation command options (texts files)) ≡ Ok (commands.FileLog files)
file_log_made command options files spelled =
    search (some_single, spelled)

pub file_log_reads : (files : List FileArgument) → SomeSpell asks_no_range files → Reads (commands.FileLog files)
unfolding table
file_log_reads files spelled =
    reads (commands.FileLog files) refl refl (some_plain asks_no_range files spelled)
    (file_log_made (codes "filelog") (options_of (commands.FileLog files)) files spelled)

print_made : (command : List ℕ) (options : List Given) (files : List FileArgument) → SomeSpell asks_no_range files → forms.print (invocation command options (texts files)) ≡ Ok (commands.Print files)
print_made command options files spelled =
    search (some_single, spelled)

pub print_reads : (files : List FileArgument) → SomeSpell asks_no_range files → Reads (commands.Print files)
unfolding table
print_reads files spelled =
    reads (commands.Print files) refl refl (some_plain asks_no_range files spelled)
    (print_made (codes "print") (options_of (commands.Print files)) files spelled)

dirs_made : (command : List ℕ) (options : List Given) (files : List FileArgument) → SomeSpell asks_folder files → forms.dirs (invocation command options (texts files)) ≡ Ok (commands.Dirs files)
dirs_made command options files spelled =
    search (some_folders, spelled)

pub dirs_reads : (files : List FileArgument) → SomeSpell asks_folder files → Reads (commands.Dirs files)
unfolding table
dirs_reads files spelled =
    reads (commands.Dirs files) refl refl (some_plain asks_folder files spelled)
    (dirs_made (codes "dirs") (options_of (commands.Dirs files)) files spelled)

file_stat_made : (command : List ℕ) (options : List Given) (files : List FileArgument) → SomeSpell asks_no_range files → forms.file_stat (invocation command options (texts files)) ≡ Ok (commands.FileStat files)
file_stat_made command options files spelled =
    search (some_single, spelled)

pub file_stat_reads : (files : List FileArgument) → SomeSpell asks_no_range files → Reads (commands.FileStat files)
unfolding table
file_stat_reads files spelled =
    reads (commands.FileStat files) refl refl (some_plain asks_no_range files spelled)
    (file_stat_made (codes "fstat") (options_of (commands.FileStat files)) files spelled)

shelve_made : (command : List ℕ) (options : List Given) (change : ℕ) (files : List FileArgument) → fields.number_option (codes "-c") (invocation command options (texts files)) ≡ Ok (Some change) → AllSpell asks_head files → forms.shelve (invocation command options (texts files)) ≡ Ok (commands.Shelve change (fields.has (codes "-f") (invocation command options (texts files))) files)
shelve_made command options change files is_change spelled =
    bound _ (Some change) _ _ is_change (search (all_heads, spelled))

pub shelve_reads : (change : ℕ) (replaces : Bool) (files : List FileArgument) → is_number change ≡ true → AllSpell asks_head files → Reads (commands.Shelve change replaces files)
unfolding table
shelve_reads change true files on_change spelled =
    reads (commands.Shelve change true files) refl (both _ _ (number_fits change on_change) refl) (all_plain asks_head files spelled)
    (shelve_made (codes "shelve") (options_of (commands.Shelve change true files)) change files (number_given (codes "shelve") (Some change) on_change) spelled)
shelve_reads change false files on_change spelled =
    reads (commands.Shelve change false files) refl (both _ _ (number_fits change on_change) refl) (all_plain asks_head files spelled)
    (shelve_made (codes "shelve") (options_of (commands.Shelve change false files)) change files (number_given (codes "shelve") (Some change) on_change) spelled)

shelve_delete_made : (command : List ℕ) (options : List Given) (change : ℕ) (files : List FileArgument) → fields.number_option (codes "-c") (invocation command options (texts files)) ≡ Ok (Some change) → AllSpell asks_head files → forms.shelve_delete (invocation command options (texts files)) ≡ Ok (commands.ShelveDelete change files)
shelve_delete_made command options change files is_change spelled =
    bound _ (Some change) _ _ is_change (search (all_heads, spelled))

pub shelve_delete_reads : (change : ℕ) (files : List FileArgument) → is_number change ≡ true → AllSpell asks_head files → Reads (commands.ShelveDelete change files)
unfolding table
shelve_delete_reads change files on_change spelled =
    reads (commands.ShelveDelete change files) refl (both _ _ (number_fits change on_change) refl) (all_plain asks_head files spelled)
    (shelve_delete_made (codes "shelve") (options_of (commands.ShelveDelete change files)) change files (number_given (codes "shelve") (Some change) on_change) spelled)

unshelve_made : (command : List ℕ) (options : List Given) (shelved : ℕ) (change : Option ℕ) (files : List FileArgument) → fields.number_option (codes "-s") (invocation command options (texts files)) ≡ Ok (Some shelved) → fields.number_option (codes "-c") (invocation command options (texts files)) ≡ Ok change → AllSpell asks_head files → forms.unshelve (invocation command options (texts files)) ≡ Ok (commands.Unshelve shelved change files)
unshelve_made command options shelved change files is_shelved is_change spelled =
    bound _ (Some shelved) _ _ is_shelved (search (bound, is_change, all_heads, spelled))

pub unshelve_reads : (shelved : ℕ) (change : Option ℕ) (files : List FileArgument) → is_number shelved ≡ true → is_number_or_none change ≡ true → AllSpell asks_head files → Reads (commands.Unshelve shelved change files)
unfolding table
unshelve_reads shelved None files on_shelved on_change spelled =
    reads (commands.Unshelve shelved None files) refl (both _ _ (number_fits shelved on_shelved) refl) (all_plain asks_head files spelled)
    (unshelve_made (codes "unshelve") (options_of (commands.Unshelve shelved None files)) shelved None files (number_given (codes "unshelve") (Some shelved) on_shelved) (number_given (codes "unshelve") None on_change) spelled)
unshelve_reads shelved (Some xchange) files on_shelved on_change spelled =
    reads (commands.Unshelve shelved (Some xchange) files) refl (both _ _ (number_fits shelved on_shelved) (both _ _ (number_fits xchange on_change) refl)) (all_plain asks_head files spelled)
    (unshelve_made (codes "unshelve") (options_of (commands.Unshelve shelved (Some xchange) files)) shelved (Some xchange) files (number_given (codes "unshelve") (Some shelved) on_shelved) (number_given (codes "unshelve") (Some xchange) on_change) spelled)
