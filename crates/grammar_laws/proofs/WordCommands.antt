-- The words of each other command read to it.
use Rattle.std.proofs.Common.{◌≡◌, ℕ, ◌≤◌, true, false, List, [], ◌∷◌, Option, Some, None, Result, Ok, refl, ap}
use Rattle.std.specs.Prelude.{not, codes, decimal}
use Rattle.depot_rows.specs.depot_path.Name.{is_name}
use Rattle.depot_rows.specs.depot_model.WellFormed.{is_free}
use Rattle.depot_rows.specs.depot_model.declared.command.Command.TheVariants as commands
use Rattle.depot_rows.specs.depot_model.declared.request.WordFault.{WordFault}
use Rattle.command_words.specs.Arguments.{at_most_one, exactly_one, wanted}
use Rattle.command_words.specs.Options.{is_option}
use Rattle.command_words.specs.Table.{table}
use Rattle.command_words.specs.Values.{most_value, number, value, name}
use Rattle.command_words.specs.WellFormed.{is_number, is_number_or_none, is_name_or_none}
use Rattle.command_words.specs.WordForms.{free_name}
use Rattle.command_words.specs.WordForms as forms
use Rattle.command_words.proofs.Giving.{both}
use Rattle.grammar_laws.specs.CommandText.{text_of, AreJobs}
use Rattle.grammar_laws.proofs.Given.{bound, number_fits, number_read, value_read, number_plain, name_plain, name_read, free_read, number_given}
use Rattle.grammar_laws.proofs.OptionWords.{Reads, reads, given_in}

one_at_most : {A : Type 0} (command : List ℕ) (read : List ℕ → Result A WordFault) (word : List ℕ) (x : A) → read word ≡ Ok x → at_most_one command read (word ∷ []) ≡ Ok (Some x)
one_at_most command read word x e = bound (read word) x (λ v. Ok (Some v)) (Ok (Some x)) e refl

one_word : {A : Type 0} (command : List ℕ) (read : List ℕ → Result A WordFault) (word : List ℕ) (x : A) → read word ≡ Ok x → exactly_one command read (word ∷ []) ≡ Ok x
one_word command read word x e = bound (at_most_one command read (word ∷ [])) (Some x) (wanted command) (Ok x) (one_at_most command read word x e) refl

-- ---- counters

pub counter_show_reads : (word : List ℕ) → is_name word ≡ true → Reads (commands.CounterShow word)
unfolding table
counter_show_reads word is =
    let made : forms.counter (given_in (text_of (commands.CounterShow word))) ≡ Ok (commands.CounterShow word) =
    bound (name (codes "counter") word) word (λ n. Ok (commands.CounterShow n)) (Ok (commands.CounterShow word)) (name_read (codes "counter") word is) refl in
    reads (commands.CounterShow word) refl refl (name_plain word is) made

pub counter_set_reads : (word : List ℕ) (n : ℕ) → is_free word ≡ true → is_name word ≡ true → n ≤ most_value → Reads (commands.CounterSet word n)
unfolding table
counter_set_reads word n free is le =
    let made : forms.counter (given_in (text_of (commands.CounterSet word n))) ≡ Ok (commands.CounterSet word n) =
    bound (free_name (codes "counter") word) word _ (Ok (commands.CounterSet word n)) (free_read (codes "counter") word free is)
    (bound (exactly_one (codes "counter") (value (codes "counter")) (decimal n ∷ [])) n (λ v. Ok (commands.CounterSet word v)) (Ok (commands.CounterSet word n))
    (one_word (codes "counter") (value (codes "counter")) (decimal n) n (value_read (codes "counter") n le)) refl) in
    reads (commands.CounterSet word n) refl refl (name_plain word is) made

pub counter_delete_reads : (word : List ℕ) → is_free word ≡ true → is_name word ≡ true → Reads (commands.CounterDelete word)
unfolding table
counter_delete_reads word free is =
    let made : forms.counter_delete (given_in (text_of (commands.CounterDelete word))) ≡ Ok (commands.CounterDelete word) =
    bound (exactly_one (codes "counter") (free_name (codes "counter")) (word ∷ [])) word (λ v. Ok (commands.CounterDelete v)) (Ok (commands.CounterDelete word))
    (one_word (codes "counter") (free_name (codes "counter")) word word (free_read (codes "counter") word free is)) refl in
    reads (commands.CounterDelete word) refl refl (name_plain word is) made

-- ---- clients, labels and groups

pub client_show_reads : (word : Option (List ℕ)) → is_name_or_none word ≡ true → Reads (commands.ClientShow word)
unfolding table
client_show_reads None is = refl
client_show_reads (Some word) is =
    let made : forms.client_show (given_in (text_of (commands.ClientShow (Some word)))) ≡ Ok (commands.ClientShow (Some word)) =
    bound (at_most_one (codes "client") (name (codes "client")) (word ∷ [])) (Some word) (λ v. Ok (commands.ClientShow v)) (Ok (commands.ClientShow (Some word)))
    (one_at_most (codes "client") (name (codes "client")) word word (name_read (codes "client") word is)) refl in
    reads (commands.ClientShow (Some word)) refl refl (name_plain word is) made

pub label_show_reads : (word : List ℕ) → is_name word ≡ true → Reads (commands.LabelShow word)
unfolding table
label_show_reads word is =
    let made : forms.label_show (given_in (text_of (commands.LabelShow word))) ≡ Ok (commands.LabelShow word) =
    bound (exactly_one (codes "label") (name (codes "label")) (word ∷ [])) word (λ v. Ok (commands.LabelShow v)) (Ok (commands.LabelShow word))
    (one_word (codes "label") (name (codes "label")) word word (name_read (codes "label") word is)) refl in
    reads (commands.LabelShow word) refl refl (name_plain word is) made

pub group_show_reads : (word : List ℕ) → is_name word ≡ true → Reads (commands.GroupShow word)
unfolding table
group_show_reads word is =
    let made : forms.group_show (given_in (text_of (commands.GroupShow word))) ≡ Ok (commands.GroupShow word) =
    bound (exactly_one (codes "group") (name (codes "group")) (word ∷ [])) word (λ v. Ok (commands.GroupShow v)) (Ok (commands.GroupShow word))
    (one_word (codes "group") (name (codes "group")) word word (name_read (codes "group") word is)) refl in
    reads (commands.GroupShow word) refl refl (name_plain word is) made

-- ---- changes

pub change_show_reads : (n : Option ℕ) → is_number_or_none n ≡ true → Reads (commands.ChangeShow n)
unfolding table
change_show_reads None is = refl
change_show_reads (Some n) is =
    let made : forms.change_show (given_in (text_of (commands.ChangeShow (Some n)))) ≡ Ok (commands.ChangeShow (Some n)) =
    bound (at_most_one (codes "change") (number (codes "change")) (decimal n ∷ [])) (Some n) (λ v. Ok (commands.ChangeShow v)) (Ok (commands.ChangeShow (Some n)))
    (one_at_most (codes "change") (number (codes "change")) (decimal n) n (number_read (codes "change") n is)) refl in
    reads (commands.ChangeShow (Some n)) refl refl (number_plain n) made

pub change_delete_reads : (n : ℕ) → is_number n ≡ true → Reads (commands.ChangeDelete n)
unfolding table
change_delete_reads n is =
    let made : forms.change_delete (given_in (text_of (commands.ChangeDelete n))) ≡ Ok (commands.ChangeDelete n) = bound _ (Some n) _ _ (number_given (codes "change") (Some n) is) refl in
    reads (commands.ChangeDelete n) refl (both _ _ (number_fits n is) refl) refl made

pub submit_change_reads : (n : ℕ) → is_number n ≡ true → Reads (commands.SubmitChange n)
unfolding table
submit_change_reads n is =
    let made : forms.submit_change (given_in (text_of (commands.SubmitChange n))) ≡ Ok (commands.SubmitChange n) = bound _ (Some n) _ _ (number_given (codes "submit") (Some n) is) refl in
    reads (commands.SubmitChange n) refl (both _ _ (number_fits n is) refl) refl made

pub describe_reads : (n : ℕ) → is_number n ≡ true → Reads (commands.Describe n)
unfolding table
describe_reads n is =
    let made : forms.describe (given_in (text_of (commands.Describe n))) ≡ Ok (commands.Describe n) = bound _ (Some n) _ _ (number_given (codes "describe") (Some n) is) refl in
    reads (commands.Describe n) refl (both _ _ (number_fits n is) refl) refl made

pub describe_shelved_reads : (n : ℕ) → is_number n ≡ true → Reads (commands.DescribeShelved n)
unfolding table
describe_shelved_reads n is =
    let made : forms.describe_shelved (given_in (text_of (commands.DescribeShelved n))) ≡ Ok (commands.DescribeShelved n) = bound _ (Some n) _ _ (number_given (codes "describe") (Some n) is) refl in
    reads (commands.DescribeShelved n) refl (both _ _ (number_fits n is) refl) refl made

pub submit_default_reads : (description : List ℕ) → Reads (commands.SubmitDefault description)
unfolding table
submit_default_reads description = refl

-- ---- jobs

pub job_show_reads : (job : List ℕ) → is_option job ≡ false → Reads (commands.JobShow (Some job))
unfolding table
job_show_reads job plain = reads (commands.JobShow (Some job)) refl refl (ap not plain) refl

pub no_job_reads : Reads (commands.JobShow None)
unfolding table
no_job_reads = refl

pub fix_reads : (n : ℕ) (jobs : List (List ℕ)) → is_number n ≡ true → AreJobs jobs → Reads (commands.Fix n jobs)
unfolding table
fix_reads n [] is plain = absurd plain
fix_reads n (job ∷ jobs) is plain =
    let made : forms.fix (given_in (text_of (commands.Fix n (job ∷ jobs)))) ≡ Ok (commands.Fix n (job ∷ jobs)) = bound _ (Some n) _ _ (number_given (codes "fix") (Some n) is) refl in
    reads (commands.Fix n (job ∷ jobs)) refl (both _ _ (number_fits n is) refl) (ap not plain) made

pub fix_delete_reads : (n : ℕ) (jobs : List (List ℕ)) → is_number n ≡ true → AreJobs jobs → Reads (commands.FixDelete n jobs)
unfolding table
fix_delete_reads n [] is plain = absurd plain
fix_delete_reads n (job ∷ jobs) is plain =
    let made : forms.fix_delete (given_in (text_of (commands.FixDelete n (job ∷ jobs)))) ≡ Ok (commands.FixDelete n (job ∷ jobs)) = bound _ (Some n) _ _ (number_given (codes "fix") (Some n) is) refl in
    reads (commands.FixDelete n (job ∷ jobs)) refl (both _ _ (number_fits n is) refl) (ap not plain) made

pub fixes_reads : (n : Option ℕ) (job : Option (List ℕ)) → is_number_or_none n ≡ true → Reads (commands.Fixes n job)
unfolding table
fixes_reads None None is = refl
fixes_reads None (Some job) is = refl
fixes_reads (Some n) None is =
    let made : forms.fixes (given_in (text_of (commands.Fixes (Some n) None))) ≡ Ok (commands.Fixes (Some n) None) = bound _ (Some n) _ _ (number_given (codes "fixes") (Some n) is) refl in
    reads (commands.Fixes (Some n) None) refl (both _ _ (number_fits n is) refl) refl made
fixes_reads (Some n) (Some job) is =
    let made : forms.fixes (given_in (text_of (commands.Fixes (Some n) (Some job)))) ≡ Ok (commands.Fixes (Some n) (Some job)) = bound _ (Some n) _ _ (number_given (codes "fixes") (Some n) is) refl in
    reads (commands.Fixes (Some n) (Some job)) refl (both _ _ (number_fits n is) refl) refl made

-- ---- commands of their words alone

pub counters_reads : Reads commands.Counters
unfolding table
counters_reads = refl

pub client_save_reads : Reads commands.ClientSave
unfolding table
client_save_reads = refl

pub label_save_reads : Reads commands.LabelSave
unfolding table
label_save_reads = refl

pub group_save_reads : Reads commands.GroupSave
unfolding table
group_save_reads = refl

pub protect_show_reads : Reads commands.ProtectShow
unfolding table
protect_show_reads = refl

pub protect_save_reads : Reads commands.ProtectSave
unfolding table
protect_save_reads = refl

pub change_save_reads : Reads commands.ChangeSave
unfolding table
change_save_reads = refl

pub labels_reads : Reads commands.Labels
unfolding table
labels_reads = refl

pub job_save_reads : Reads commands.JobSave
unfolding table
job_save_reads = refl

pub jobs_reads : Reads commands.Jobs
unfolding table
jobs_reads = refl

pub checkpoint_reads : Reads commands.Checkpoint
unfolding table
checkpoint_reads = refl

pub pull_reads : Reads commands.Pull
unfolding table
pull_reads = refl
