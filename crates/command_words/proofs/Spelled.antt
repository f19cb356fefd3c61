-- What the reading of a number answers.
use Rattle.std.proofs.Common.{◌≡◌, inr, ℕ, List, Bool, true, false, Result, Ok, Err, Some, None, if◌then◌else◌}
use Rattle.depot_path.specs.Answers.{Answers}
use Rattle.depot_path.specs.Digits.{number_of, is_number, number_up_to}
use Rattle.depot_model.specs.declared.request.WordFault.{WordFault}
use Rattle.depot_model.specs.declared.request.WordFault.TheVariants.{BadNumber, Memory}
use Rattle.command_words.specs.Values.{number_of_word}

spelled_by : (b : Bool) (n m : ℕ) (command : List ℕ) → Some n ≡ (if b then Some m else None) → Answers Memory (Ok n) (if b then Ok m else Err (BadNumber command))
spelled_by true n m command h = record { is = inr (cc) }
spelled_by false n m command h = cc

pub is_spelled : (most n : ℕ) (command word : List ℕ) → Some n ≡ number_up_to most word → Answers Memory (Ok n) (number_of_word most command word)
is_spelled most n command word h = spelled_by (is_number most word) n (number_of word) command h

none_by : (b : Bool) (m : ℕ) (command : List ℕ) (answer : Result ℕ WordFault) → None ≡ (if b then Some m else None) →
    Answers Memory answer (Err (BadNumber command)) → Answers Memory answer (if b then Ok m else Err (BadNumber command))
none_by true m command answer h k = cc
none_by false m command answer h k = k

pub is_none : (most : ℕ) (command word : List ℕ) (answer : Result ℕ WordFault) → None ≡ number_up_to most word →
    Answers Memory answer (Err (BadNumber command)) → Answers Memory answer (number_of_word most command word)
is_none most command word answer h k = none_by (is_number most word) (number_of word) command answer h k
