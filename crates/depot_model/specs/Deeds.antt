-- A depot: what was done in it, the last deed first. What each deed tells is what the tables of the Helix Core database schema reference keep;
-- that a depot is the list of its deeds is this project's own choice.
use Rattle.std.specs.Prelude.{ℕ, List, Option}
use Rattle.spec_form.specs.Form.{FormValue}

pub data SpecKind : Type 0 where
  ClientForm : SpecKind
  LabelForm : SpecKind
  ShelfForm : SpecKind
  JobForm : SpecKind
  FixForm : SpecKind

pub data Action : Type 0 where
  Add : Action
  Edit : Action
  Delete : Action
  Branch : Action
  Integrate : Action
  MoveAdd : Action
  MoveDelete : Action

-- how a resolve was paid
pub data How : Type 0 where
  CopyFrom : How
  BranchFrom : How
  DeleteFrom : How
  Ignored : How
  MovedFrom : How

-- revisions of a file that an entry takes in
pub record Credit : Type 0 where
  pub from : List ℕ
  pub first : ℕ
  pub last : ℕ
  pub how : How

-- a file of a submitted change; a delete has no content, and a move the path at its other end
pub record Entry : Type 0 where
  pub path : List ℕ
  pub action : Action
  pub file_type : List ℕ
  pub content : Option (List ℕ)
  pub credits : List Credit
  pub moved : Option (List ℕ)

-- a change as it is pending
pub record Pending : Type 0 where
  pub change : ℕ
  pub user : List ℕ
  pub client : List ℕ
  pub moment : ℕ
  pub text : List ℕ

-- a change as it landed, with its entries in path order
pub record Landing : Type 0 where
  pub change : ℕ
  pub user : List ℕ
  pub client : List ℕ
  pub moment : ℕ
  pub text : List ℕ
  pub entries : List Entry

-- a revision whose content a submit takes
pub record Source : Type 0 where
  pub path : List ℕ
  pub rev : ℕ

-- a file as a client has it opened; change 0 is the default, and a move has the path at its other end
pub record Opening : Type 0 where
  pub client : List ℕ
  pub path : List ℕ
  pub base : ℕ
  pub action : Action
  pub file_type : List ℕ
  pub change : ℕ
  pub source : Option Source
  pub moved : Option (List ℕ)

-- a resolve that a client owes
pub record Owing : Type 0 where
  pub client : List ℕ
  pub path : List ℕ
  pub from : List ℕ
  pub first : ℕ
  pub last : ℕ

-- a file of a client
pub record Held : Type 0 where
  pub client : List ℕ
  pub path : List ℕ

pub data Deed : Type 0 where
  Spec : SpecKind → List ℕ → FormValue → Deed
  Guard : List (List ℕ) → Deed
  Group : List ℕ → List (List ℕ) → Deed
  Count : List ℕ → Option ℕ → Deed
  Pend : Pending → Deed
  Drop : ℕ → Deed
  Open : Opening → Deed
  Shut : Held → Deed
  Hold : Held → Deed
  Free : Held → Deed
  Got : Held → ℕ → Deed
  Tag : List ℕ → List ℕ → ℕ → Deed
  Owe : Owing → Deed
  Paid : Held → List ℕ → How → Deed
  Land : Landing → Deed
