-- Opened files and locks after a deed that speaks of them.
use Rattle.std.proofs.Common.{◌≡◌, ◌≢◌, ℕ, Bool, true, false, List, [], ◌∷◌, Option, Some, None, refl, sym, ap, ◌∙◌}
use Rattle.std.specs.Prelude.{◌&&◌, is_some, if◌then◌else◌, option_map}
use Rattle.std.specs.Option.{option_or, option_flatten}
use Rattle.std.proofs.lemmas.Bool.{true≢false, and_parts}
use Rattle.depot_model.specs.depot_path.Bytes.{same}
use Rattle.depot_model.specs.depot_path.Path.{printed, is_path}
use Rattle.depot_model.specs.db_records.declared.key.Key.{Key}
use Rattle.depot_model.specs.db_records.declared.key.Key.TheVariants as keys
use Rattle.depot_model.specs.db_records.declared.record.Record.{Record}
use Rattle.depot_model.specs.db_records.declared.record.Record.TheVariants as rows
use Rattle.depot_model.specs.Deeds.{Deed, Open, Shut, Hold, Free, Opening}
use Rattle.depot_model.specs.Latest.{latest, when}
use Rattle.depot_model.specs.Opened.{opened, opening_said, holder, keeps}
use Rattle.depot_model.specs.Records.{record_of, working_record, printed_or_empty}
use Rattle.depot_model.specs.Rows.{action_word}
use Rattle.depot_model.specs.Rules.{lock_of}
use Rattle.depot_rows.specs.declared.deed.Opening.{Opening as Opened}
use Rattle.depot_rows.specs.declared.deed.Source.{Source as Taken}
use Rattle.depot_rows.specs.declared.deed.Held.{Held as File}
use Rattle.depot_rows.specs.Deed.{opening_of, held_of}
use Rattle.depot_rows.specs.Effects.{put_at, changed_at, working_key, working_row, with_lock, locked, ended}
use Rattle.depot_rows.proofs.Keys.{same-is, same-self, put-is}
use Rattle.depot_model.specs.Records.{at_path}
use Rattle.depot_rows.proofs.Spelled.{at_path-here, at_path-alike}
use Rattle.depot_rows.proofs.Locks.{lock_number, lock-keeps, lock-given, lock-unopened, IsOf, opened-is}

-- the row of an opening with a lock
abbrev locked_row : ℕ → Opening → Record
locked_row lock o = rows.Working (record {
  path = printed o.path;
  client = o.client;
  base = o.base;
  action = action_word o.action;
  file_type = o.file_type;
  change = o.change;
  lock = lock;
  source = elim o.source [ None ↦ [] | Some s ↦ printed s.path ];
  source_rev = elim o.source [ None ↦ 0 | Some s ↦ s.rev ];
  moved = printed_or_empty o.moved;
})

-- the row of a client's file that has such an opening, where such a client has the lock
abbrev opened_row : Option (List ℕ) → List ℕ → Option Opening → Option Record
opened_row who client o = option_map (locked_row (lock_number who client)) o

lock_as : (who : Option (List ℕ)) (client : List ℕ) →
    (if (elim who [ None ↦ false | Some x ↦ same x client ]) then 1 else 0) ≡ lock_number who client
lock_as None client = refl
lock_as (Some x) client = refl

row_as : (d : List Deed) (c p : List ℕ) (o : Option Opening) → ((x : Opening) → o ≡ Some x → IsOf c p x)
    → option_map (working_record d) o ≡ opened_row (holder d p) c o
row_as d c p None is = refl
row_as d c p (Some x) is =
    let of : IsOf c p x = is x refl in
    ap (λ (n : ℕ). Some (locked_row n x)) (lock_as (holder d x.path) x.client ∙ (λ i. lock_number (holder d (of.1 i)) (of.0 i)))

working_as : (d : List Deed) (text c : List ℕ) → record_of d (keys.Working text c) ≡ at_path text (λ p. opened_row (holder d p) c (opened d c p))
working_as d text c = at_path-alike text (λ p. option_map (working_record d) (opened d c p)) (λ p. opened_row (holder d p) c (opened d c p))
    (λ p spelled. row_as d c p (opened d c p) (opened-is d c p))

working_here : (d : List Deed) (p c : List ℕ) → is_path p ≡ true → record_of d (keys.Working (printed p) c) ≡ opened_row (holder d p) c (opened d c p)
working_here d p c is = working_as d (printed p) c ∙ at_path-here p (λ x. opened_row (holder d x) c (opened d c x)) is

-- two depots have the same row where they say the same of its path
working_alike : (d e : List Deed) (text c : List ℕ)
    → ((x : List ℕ) → printed x ≡ text → opened_row (holder d x) c (opened d c x) ≡ opened_row (holder e x) c (opened e c x))
    → record_of d (keys.Working text c) ≡ record_of e (keys.Working text c)
working_alike d e text c alike =
    working_as d text c
    ∙ at_path-alike text (λ x. opened_row (holder d x) c (opened d c x)) (λ x. opened_row (holder e x) c (opened e c x)) alike
    ∙ sym (working_as e text c)

-- a row says who has the lock
lock_in : (d : List Deed) (c p : List ℕ) → lock_of (opened_row (holder d p) c (opened d c p)) ≡ lock_number (holder d p) c
lock_in d c p = go (opened d c p) refl
  where
    go : (o : Option Opening) → opened d c p ≡ o → lock_of (opened_row (holder d p) c o) ≡ lock_number (holder d p) c
    go None e = sym (lock-unopened d c p e)
    go (Some o) e = refl

pub lock_shown : (d : List Deed) (c p : List ℕ) → is_path p ≡ true → lock_of (record_of d (keys.Working (printed p) c)) ≡ lock_number (holder d p) c
lock_shown d c p is = ap lock_of (working_here d p c is) ∙ lock_in d c p

row_of : (lock : ℕ) (o : Opened) → working_row lock o ≡ locked_row lock (opening_of o)
row_of lock o = go o.source
  where
    go : (s : Option Taken) → working_row lock (record o { source = s }) ≡ locked_row lock (opening_of (record o { source = s }))
    go None = refl
    go (Some s) = refl

-- ---- a file is opened

module _ (o : Opening) (d : List Deed) where
  abbrev open_key : Key
  open_key = keys.Working (printed o.path) o.client

  abbrev open_row : Option Record
  open_row = Some (locked_row (lock_of (record_of d open_key)) o)

  open_here : is_path o.path ≡ true → record_of (Open o ∷ d) open_key ≡ open_row
  open_here is =
      working_here (Open o ∷ d) o.path o.client is
      ∙ go (same o.client o.client && same o.path o.path) (rw (same-self o.client, same-self o.path) refl)
      ∙ ap (λ (n : ℕ). Some (locked_row n o)) (sym (lock_shown d o.client o.path is))
    where
      go : (b : Bool) → b ≡ true
          → opened_row (holder d o.path) o.client (option_flatten (option_or (when b (Some o)) (latest (opening_said o.client o.path) d)))
          ≡ Some (locked_row (lock_number (holder d o.path) o.client) o)
      go true e = refl
      go false e = absurd cc

  open_other : (q : Key) → open_key ≢ q → record_of (Open o ∷ d) q ≡ record_of d q
  open_other (keys.Working text c) apart = working_alike (Open o ∷ d) d text c (λ x spelled. go x spelled (same o.client c && same o.path x) refl)
    where
      go : (x : List ℕ) → printed x ≡ text → (b : Bool) → (same o.client c && same o.path x) ≡ b
          → opened_row (holder d x) c (option_flatten (option_or (when b (Some o)) (latest (opening_said c x) d))) ≡ opened_row (holder d x) c (opened d c x)
      go x spelled true e = absurd (apart (
          let one : o.client ≡ c = same-is o.client c (and_parts (same o.client c) (same o.path x) e).0 in
          let two : printed o.path ≡ text = ap printed (same-is o.path x (and_parts (same o.client c) (same o.path x) e).1) ∙ spelled in
          λ i. keys.Working (two i) (one i)))
      go x spelled false e = refl
  open_other _ apart = refl

  open_is : is_path o.path ≡ true → (q : Key) → record_of (Open o ∷ d) q ≡ put_at open_key open_row (record_of d) q
  open_is is q = put-is open_key open_row (record_of d) (record_of (Open o ∷ d)) q
      (λ one. ap (record_of (Open o ∷ d)) (sym one) ∙ open_here is) (open_other q)

pub open_met : (o : Opened) (d : List Deed) → is_path o.path ≡ true → (q : Key) → record_of (Open (opening_of o) ∷ d) q
    ≡ put_at (keys.Working (printed o.path) o.client) (Some (working_row (lock_of (record_of d (keys.Working (printed o.path) o.client))) o)) (record_of d) q
open_met o d is q =
    let key : Key = keys.Working (printed o.path) o.client in
    open_is (opening_of o) d is q ∙ ap (λ (r : Record). put_at key (Some r) (record_of d) q) (sym (row_of (lock_of (record_of d key)) o))

-- ---- a file is shut, locked or unlocked

module _ (held : File) (d : List Deed) where
  abbrev client : List ℕ
  client = held.client

  abbrev path : List ℕ
  path = held.path

  abbrev shut : List Deed
  shut = Shut (held_of held) ∷ d

  abbrev hold : List Deed
  hold = Hold (held_of held) ∷ d

  abbrev free : List Deed
  free = Free (held_of held) ∷ d

  abbrev who_after : List ℕ → Bool → Option (List ℕ)
  who_after x b = if b then keeps client (holder d x) else holder d x

  -- of another client's file, or of another file
  abbrev shut_row : List ℕ → List ℕ → Bool → Bool → Option Record
  shut_row c x a b = opened_row (who_after x b) c (option_flatten (option_or (when (a && b) None) (latest (opening_said c x) d)))

  shut_there : (c x : List ℕ) (a b : Bool) → same client c ≡ a → (a && b) ≡ false → shut_row c x a b ≡ opened_row (holder d x) c (opened d c x)
  shut_there c x true true e f = absurd cc
  shut_there c x true false e f = refl
  shut_there c x false true e f = ap (λ (n : ℕ). option_map (locked_row n) (opened d c x)) (lock-keeps client c (holder d x) e)
  shut_there c x false false e f = refl

  -- not both the client and the path are the row's
  apart_at : (c x text : List ℕ) → printed x ≡ text → (same (printed path) text && same client c) ≡ false → (same client c && same path x) ≡ false
  apart_at c x text spelled e = go (same client c && same path x) refl
    where
      go : (b : Bool) → (same client c && same path x) ≡ b → b ≡ false
      go false f = refl
      go true f = absurd (true≢false (
          let one : same client c ≡ true = (and_parts (same client c) (same path x) f).0 in
          let two : printed path ≡ text = ap printed (same-is path x (and_parts (same client c) (same path x) f).1) ∙ spelled in
          let three : same (printed path) text ≡ true = ap (λ (t : List ℕ). same (printed path) t) (sym two) ∙ same-self (printed path) in
          (λ i. (sym three i) && (sym one i)) ∙ e))

  pub shut_working : is_path path ≡ true → (text c : List ℕ) → record_of shut (keys.Working text c) ≡ ended held (record_of d) (keys.Working text c)
  shut_working is text c = go (same (printed path) text && same client c) refl
    where
      gone : (b : Bool) → b ≡ true → opened_row (holder shut path) c (option_flatten (option_or (when b None) (latest (opening_said c path) d))) ≡ None
      gone true e = refl
      gone false e = absurd cc

      go : (b : Bool) → (same (printed path) text && same client c) ≡ b
          → record_of shut (keys.Working text c) ≡ (if b then None else record_of d (keys.Working text c))
      go true e =
          let one : printed path ≡ text = same-is (printed path) text (and_parts (same (printed path) text) (same client c) e).0 in
          let two : same client c ≡ true = (and_parts (same (printed path) text) (same client c) e).1 in
          ap (λ (t : List ℕ). record_of shut (keys.Working t c)) (sym one) ∙ working_here shut path c is
          ∙ gone (same client c && same path path) (rw (two, same-self path) refl)
      go false e = working_alike shut d text c (λ x spelled. shut_there c x (same client c) (same path x) refl (apart_at c x text spelled e))

  -- the lock of the path is this client's alone, where it has the file opened
  hold_here : (c : List ℕ) → opened_row (if same path path then (if is_some (opened d client path) then Some client else None) else holder d path) c (opened d c path)
      ≡ option_map (with_lock (if same client c then 1 else 0)) (opened_row (holder d path) c (opened d c path))
  hold_here c = go (same path path) (same-self path) (opened d c path) refl (opened d client path) refl (same client c) refl
    where
      go : (b : Bool) → b ≡ true → (o : Option Opening) → opened d c path ≡ o → (m : Option Opening) → opened d client path ≡ m
          → (a : Bool) → same client c ≡ a
          → opened_row (if b then (if is_some m then Some client else None) else holder d path) c o
          ≡ option_map (with_lock (if a then 1 else 0)) (opened_row (holder d path) c o)
      go false e o h m k a j = absurd cc
      go true e None h m k a j = refl
      go true e (Some o) h None k true j = absurd (let one : opened d client path ≡ opened d c path = ap (λ (x : List ℕ). opened d x path) (same-is client c j) in cc)
      go true e (Some o) h None k false j = refl
      go true e (Some o) h (Some n) k a j = rw j refl

  hold_working : is_path path ≡ true → (text c : List ℕ) → record_of hold (keys.Working text c) ≡ locked held (record_of d) (keys.Working text c)
  hold_working is text c = go (same (printed path) text) refl
    where
      lock : Option Record → Option Record
      lock = option_map (with_lock (if same client c then 1 else 0))

      elsewhere : (x : List ℕ) (b : Bool) → b ≡ false
          → opened_row (if b then (if is_some (opened d client x) then Some client else None) else holder d x) c (opened d c x) ≡ opened_row (holder d x) c (opened d c x)
      elsewhere x true e = absurd cc
      elsewhere x false e = refl

      other : (x : List ℕ) → printed x ≡ text → same (printed path) text ≡ false → same path x ≡ false
      other x spelled e = test (same path x) refl
        where
          test : (b : Bool) → same path x ≡ b → b ≡ false
          test false f = refl
          test true f = absurd (true≢false (
              let two : printed path ≡ text = ap printed (same-is path x f) ∙ spelled in
              sym (ap (λ (t : List ℕ). same (printed path) t) (sym two) ∙ same-self (printed path)) ∙ e))

      go : (b : Bool) → same (printed path) text ≡ b
          → record_of hold (keys.Working text c) ≡ (if b then lock (record_of d (keys.Working text c)) else record_of d (keys.Working text c))
      go true e =
          let one : printed path ≡ text = same-is (printed path) text e in
          ap (λ (t : List ℕ). record_of hold (keys.Working t c)) (sym one) ∙ working_here hold path c is ∙ hold_here c
          ∙ ap lock (sym (working_here d path c is)) ∙ ap (λ (t : List ℕ). lock (record_of d (keys.Working t c))) one
      go false e = working_alike hold d text c (λ x spelled. elsewhere x (same path x) (other x spelled e))

  pub hold_met : is_path path ≡ true → (q : Key) → record_of hold q ≡ locked held (record_of d) q
  hold_met is (keys.Working text c) = hold_working is text c
  hold_met is _ = refl

  -- the client hasn't the lock
  free_here : (o : Option Opening) (b : Bool) → b ≡ true → opened_row (who_after path b) client o ≡ option_map (with_lock 0) (opened_row (holder d path) client o)
  free_here o false e = absurd cc
  free_here None true e = refl
  free_here (Some o) true e = ap (λ (n : ℕ). Some (locked_row n o)) (lock-given client (holder d path))

  free_other : (q : Key) → working_key held ≢ q → record_of free q ≡ record_of d q
  free_other (keys.Working text c) apart = working_alike free d text c (λ x spelled. go x spelled (same path x) refl (same client c) refl)
    where
      go : (x : List ℕ) → printed x ≡ text → (b : Bool) → same path x ≡ b → (a : Bool) → same client c ≡ a
          → opened_row (who_after x b) c (opened d c x) ≡ opened_row (holder d x) c (opened d c x)
      go x spelled false e a f = refl
      go x spelled true e false f = ap (λ (n : ℕ). option_map (locked_row n) (opened d c x)) (lock-keeps client c (holder d x) f)
      go x spelled true e true f = absurd (apart (
          let one : client ≡ c = same-is client c f in
          let two : printed path ≡ text = ap printed (same-is path x e) ∙ spelled in
          λ i. keys.Working (two i) (one i)))
  free_other _ apart = refl

  pub free_met : is_path path ≡ true → (q : Key) → record_of free q ≡ changed_at (working_key held) (with_lock 0) (record_of d) q
  free_met is q = put-is (working_key held) (option_map (with_lock 0) (record_of d (working_key held))) (record_of d) (record_of free) q
      (λ one. ap (record_of free) (sym one) ∙ working_here free path client is ∙ free_here (opened d client path) (same path path) (same-self path)
      ∙ ap (option_map (with_lock 0)) (sym (working_here d path client is)))
      (free_other q)
