-- The words of every well-formed command that its texts spell read to it.
use Rattle.std.proofs.Common.{◌≡◌, Bool, Some, None, Ok}
use Rattle.std.proofs.lemmas.Bool.{and_parts}
use Rattle.depot_rows.specs.depot_model.declared.command.Command.{Command}
use Rattle.depot_rows.specs.depot_model.declared.command.Command.TheVariants as commands
use Rattle.depot_rows.specs.depot_model.declared.line.Line.{Line}
use Rattle.command_words.proofs.FormedLines.{is_formed}
use Rattle.command_words.specs.Reading.{command_of}
use Rattle.command_words.specs.WellFormed.{IsWellFormed}
use Rattle.grammar_laws.specs.CommandText.{IsSpelled}
use Rattle.grammar_laws.proofs.FileCommands as arguments
use Rattle.grammar_laws.proofs.OptionWords.{Reads}
use Rattle.grammar_laws.proofs.SpelledForms.{is_spelled}
use Rattle.grammar_laws.proofs.WordCommands as words

pub command_reads : (command : Command) → IsWellFormed command → IsSpelled command → Reads command
command_reads (commands.CounterShow name) w s = words.counter_show_reads name w.names
command_reads (commands.CounterSet name value) w s = words.counter_set_reads name value w.form w.names s
command_reads (commands.CounterDelete name) w s = words.counter_delete_reads name w.form w.names
command_reads commands.Counters w s = words.counters_reads
command_reads (commands.ClientShow name) w s = words.client_show_reads name w.names
command_reads commands.ClientSave w s = words.client_save_reads
command_reads (commands.LabelShow name) w s = words.label_show_reads name w.names
command_reads commands.LabelSave w s = words.label_save_reads
command_reads (commands.GroupShow name) w s = words.group_show_reads name w.names
command_reads commands.GroupSave w s = words.group_save_reads
command_reads commands.ProtectShow w s = words.protect_show_reads
command_reads commands.ProtectSave w s = words.protect_save_reads
command_reads (commands.Where paths) w s = arguments.where_reads paths s
command_reads (commands.Add change type paths) w s = arguments.add_reads change type paths w.numbers (and_parts _ _ w.form).0 s
command_reads (commands.Edit change type files) w s = arguments.edit_reads change type files w.numbers w.form s
command_reads (commands.Delete change files) w s = arguments.delete_reads change files w.numbers s
command_reads (commands.Move change from to) w s = arguments.move_reads change from to w.numbers s w.form
command_reads (commands.Revert change files) w s = arguments.revert_reads change files w.numbers s
command_reads (commands.Reopen change type files) w s = arguments.reopen_reads change type files w.numbers w.form s
command_reads (commands.Lock change files) w s = arguments.lock_reads change files w.numbers s
command_reads (commands.Unlock change files) w s = arguments.unlock_reads change files w.numbers s
command_reads (commands.Opened all files) w s = arguments.opened_reads all files s
command_reads commands.ChangeSave w s = words.change_save_reads
command_reads (commands.ChangeShow change) w s = words.change_show_reads change w.numbers
command_reads (commands.ChangeDelete change) w s = words.change_delete_reads change w.numbers
command_reads (commands.Changes most status user client files) w s = arguments.changes_reads most status user client files w.numbers (and_parts _ _ w.names).0 (and_parts _ _ w.names).1 s
command_reads (commands.SubmitChange change) w s = words.submit_change_reads change w.numbers
command_reads (commands.SubmitDefault text) w s = words.submit_default_reads text
command_reads (commands.Sync again shows files) w s = arguments.sync_reads again shows files s
command_reads (commands.Have files) w s = arguments.have_reads files s
command_reads (commands.Tag label removes files) w s = arguments.tag_reads label removes files w.names s
command_reads (commands.LabelSync label labelling files) w s = arguments.label_sync_reads label labelling files w.names s
command_reads commands.Labels w s = words.labels_reads
command_reads (commands.Integrate change from to) w s = arguments.integrate_reads change from to w.numbers s w.form
command_reads (commands.Resolve taking files) w s = arguments.resolve_reads taking files s
command_reads (commands.Integrated files) w s = arguments.integrated_reads files s
command_reads (commands.Files live files) w s = arguments.files_reads live files s
command_reads (commands.FileLog files) w s = arguments.file_log_reads files s
command_reads (commands.Print files) w s = arguments.print_reads files s
command_reads (commands.Describe change) w s = words.describe_reads change w.numbers
command_reads (commands.Dirs patterns) w s = arguments.dirs_reads patterns s
command_reads (commands.FileStat files) w s = arguments.file_stat_reads files s
command_reads (commands.Shelve change replaces files) w s = arguments.shelve_reads change replaces files w.numbers s
command_reads (commands.ShelveDelete change files) w s = arguments.shelve_delete_reads change files w.numbers s
command_reads (commands.Unshelve shelved change files) w s = arguments.unshelve_reads shelved change files (and_parts _ _ w.numbers).0 (and_parts _ _ w.numbers).1 s
command_reads (commands.DescribeShelved change) w s = words.describe_shelved_reads change w.numbers
command_reads (commands.JobShow None) w s = words.no_job_reads
command_reads (commands.JobShow (Some job)) w s = words.job_show_reads job s
command_reads commands.JobSave w s = words.job_save_reads
command_reads commands.Jobs w s = words.jobs_reads
command_reads (commands.Fix change jobs) w s = words.fix_reads change jobs w.numbers s
command_reads (commands.FixDelete change jobs) w s = words.fix_delete_reads change jobs w.numbers s
command_reads (commands.Fixes change job) w s = words.fixes_reads change job w.numbers
command_reads commands.Checkpoint w s = words.checkpoint_reads
command_reads commands.Pull w s = words.pull_reads

-- a command that some line spells is spelled by its own words
pub own_words_read : (line : Line) (has_input : Bool) (command : Command) → command_of line has_input ≡ Ok command → Reads command
own_words_read line has_input command e = command_reads command (is_formed line has_input command e) (is_spelled line has_input command e)
