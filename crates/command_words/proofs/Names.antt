-- What the reading of a name answers.
use Rattle.std.proofs.Common.{inl, inr, ℕ, List, Bool, true, false, Result, Ok, Err, if◌then◌else◌}
use Rattle.depot_path.specs.Answers.{Answers}
use Rattle.depot_path.specs.Name.{is_name, name_of}
use Rattle.depot_path.specs.declared.name.NameFault.{NameFault}
use Rattle.depot_path.specs.declared.name.NameFault.TheVariants as names
use Rattle.depot_model.specs.declared.request.WordFault.{WordFault}
use Rattle.depot_model.specs.declared.request.WordFault.TheVariants.{BadUsage, Memory}
use Rattle.command_words.specs.Values.{name}

abbrev pub Read : Result (List ℕ) NameFault → Result (List ℕ) NameFault → Type 0
Read answer expected = Answers names.Memory answer expected

named_by : (b : Bool) (n w command : List ℕ) → Read (Ok n) (if b then Ok w else Err names.NotAName) →
    Answers Memory (Ok n) (if b then Ok w else Err (BadUsage command))
named_by true n w command h = elim h.is [ inl e ↦ cc | inr e ↦ record { is = inr (cc) } ]
named_by false n w command h = elim h.is [ inl e ↦ cc | inr e ↦ cc ]

pub named : (n w command : List ℕ) → Read (Ok n) (name_of w) → Answers Memory (Ok n) (name command w)
named n w command h = named_by (is_name w) n w command h

unnamed_by : (b : Bool) (w command : List ℕ) (answer : Result (List ℕ) WordFault) →
    Read (Err names.NotAName) (if b then Ok w else Err names.NotAName) →
    Answers Memory answer (Err (BadUsage command)) → Answers Memory answer (if b then Ok w else Err (BadUsage command))
unnamed_by true w command answer h k = elim h.is [ inl e ↦ cc | inr e ↦ cc ]
unnamed_by false w command answer h k = k

pub unnamed : (w command : List ℕ) (answer : Result (List ℕ) WordFault) → Read (Err names.NotAName) (name_of w) →
    Answers Memory answer (Err (BadUsage command)) → Answers Memory answer (name command w)
unnamed w command answer h k = unnamed_by (is_name w) w command answer h k
