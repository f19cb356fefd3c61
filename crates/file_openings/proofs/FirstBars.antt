-- The first row that keeps a client from opening a file is that of the first client that does so.
use Rattle.std.proofs.Common.{◌≡◌, ℕ, Bool, true, false, cond, List, [], ◌∷◌, inl, inr, Option, Some, None, Result, Ok, Err, refl, sym, ap, subst, ◌∙◌}
use Rattle.std.specs.Prelude.{◌&&◌, ◌||◌, codes, filter, filter_map, find, if◌then◌else◌, IfSome, IsSome, is_some, map, not, option_and_then, option_map}
use Rattle.std.specs.List.{cons_option}
use Rattle.std.proofs.lemmas.Bool.{true≢false}
use Rattle.depot_rows.specs.depot_path.Bytes.{same}
use Rattle.depot_rows.specs.depot_path.Name.{is_name}
use Rattle.depot_rows.specs.depot_path.Path.{path_of, printed}
use Rattle.depot_rows.specs.depot_path.declared.name.NameFault.{NameFault}
use Rattle.depot_rows.specs.depot_path.declared.name.NameFault.TheVariants.{NotAName}
use Rattle.depot_rows.specs.db_records.declared.key.Key.TheVariants as keys
use Rattle.depot_rows.specs.db_records.declared.record.Record.{Record}
use Rattle.depot_rows.specs.db_records.declared.record.Record.TheVariants as records
use Rattle.depot_rows.specs.db_records.declared.rows.WorkingRecord.{WorkingRecord}
use Rattle.depot_rows.specs.depot_model.Deeds.{ClientForm, Deed, Opening}
use Rattle.depot_rows.specs.depot_model.Latest.{keys_of}
use Rattle.depot_rows.specs.depot_model.Opened.{opened}
use Rattle.depot_rows.specs.depot_model.Records.{form_text, is_holder, printed_or_empty, record_of, working_record}
use Rattle.depot_rows.specs.depot_model.Rows.{action_word}
use Rattle.depot_rows.specs.depot_model.Rules.{IsClient, IsForm, IsRow, IsSound, Rows}
use Rattle.depot_rows.specs.depot_model.Steps.Opening.{bars, barred_by, is_exclusive, opener_of}
use Rattle.depot_rows.proofs.Locks.{opened-is}
use Rattle.row_reads.proofs.FoundRows.{at_own_path}
use Rattle.file_openings.specs.Barring.{bars_row, client_in, name_in_text}
use Rattle.file_openings.specs.Openings.{openings, workings}

-- ---- clients have names

not_client : (word : List ℕ) → same word (codes "client") ≡ false → codes "client" ≡ word → ⊥
not_client word e h = true≢false (ap (λ (x : List ℕ). same x (codes "client")) h ∙ e)

client_form : (rows : Rows) (name text : List ℕ) → IsForm rows (codes "client") name text → is_name name ≡ true
client_form rows name text (inl h) = h.1
client_form rows name text (inr (inl h)) = absurd (not_client (codes "label") refl h.0)
client_form rows name text (inr (inr (inl h))) = absurd (not_client (codes "shelf") refl h.0)
client_form rows name text (inr (inr (inr (inl h)))) = absurd (not_client (codes "job") refl h.0)
client_form rows name text (inr (inr (inr (inr h)))) = absurd (not_client (codes "fix") refl h.0)

abbrev form_row : List ℕ → List ℕ → Record
form_row name text = records.Domain (record { kind = codes "client"; name = name; form = text })

-- the name of a client that is saved
pub client_named : (d : List Deed) (name : List ℕ) → IsSound d → IsClient (record_of d) name → is_name name ≡ true
client_named d name sound saved = go (form_text ClientForm d name) saved (sound.rules.each (keys.Domain (codes "client") name))
  where
    go : (text : Option (List ℕ)) → IsSome (option_map (form_row name) text) → IfSome (option_map (form_row name) text) (IsRow (record_of d)) → is_name name ≡ true
    go None h kept = absurd cc
    go (Some text) h kept = client_form (record_of d) name text kept

-- and of one that has a file opened
pub opener_named : (d : List Deed) (client path : List ℕ) (o : Opening) → IsSound d → path_of (printed path) ≡ Ok path → opened d client path ≡ Some o
    → is_name o.client ≡ true
opener_named d client path o sound own e =
    let at : record_of d (keys.Working (printed path) client) ≡ Some (working_record d o) =
    at_own_path path (λ p. option_map (working_record d) (opened d client p)) own ∙ ap (option_map (working_record d)) e in
    let P : Option Record → Type 0 = λ x. IfSome x (IsRow (record_of d)) in
    let kept : IsRow (record_of d) (working_record d o) = subst P at (sound.rules.each (keys.Working (printed path) client)) in
    client_named d o.client sound kept.0

read_name : (text : List ℕ) → is_name text ≡ true → name_in_text text ≡ Some text
read_name text e = ap (λ (b : Bool). elim (let r : Result (List ℕ) NameFault = if b then Ok text else Err NotAName in r) as (λ _. Option (List ℕ)) [ Err fault ↦ None | Ok name ↦ Some name ]) e

-- ---- the first that bars

module _ (d : List Deed) (path client type : List ℕ) (sound : IsSound d) (own : path_of (printed path) ≡ Ok path) where
  abbrev found : List ℕ → Option Opening
  found c = opened d c path

  abbrev has_it : List ℕ → Bool
  has_it c = is_some (found c)

  abbrev first : List Opening → Option (List ℕ)
  first os = option_and_then client_in (find (bars_row client (is_exclusive type)) (workings (map (working_record d) os)))

  -- the row of an opening
  abbrev row_in : Opening → WorkingRecord
  row_in o = record {
    path = printed o.path;
    client = o.client;
    base = o.base;
    action = action_word o.action;
    file_type = o.file_type;
    change = o.change;
    lock = if is_holder d o then 1 else 0;
    source = elim o.source [ None ↦ [] | Some s ↦ printed s.path ];
    source_rev = elim o.source [ None ↦ 0 | Some s ↦ s.rev ];
    moved = printed_or_empty o.moved;
  }

  abbrev opening_bars : Opening → Bool
  opening_bars o = not (same o.client client) && (is_exclusive type || is_exclusive o.file_type)

  abbrev exclusive_opening : Option Opening → Bool
  exclusive_opening found = elim found [ None ↦ false | Some o ↦ is_exclusive o.file_type ]

  bars_as : (c : List ℕ) (o : Opening) → found c ≡ Some o → bars d path client type c ≡ opening_bars o
  bars_as c o e = λ i. not (same (sym (opened-is d c path o e).0 i) client) && (is_exclusive type || exclusive_opening (e i))

  first_is : (cs : List (List ℕ)) → first (filter_map found (filter has_it cs)) ≡ find (bars d path client type) (filter has_it cs)
  first_is [] = refl
  first_is (c ∷ cs) = go (found c) refl (first_is cs)
    where
      by : (o : Opening) → found c ≡ Some o → (b : Bool) → opening_bars o ≡ b → first (filter_map found (filter has_it cs)) ≡ find (bars d path client type) (filter has_it cs)
          → first (o ∷ filter_map found (filter has_it cs)) ≡ cond (opening_bars o) (Some c) (find (bars d path client type) (filter has_it cs))
      by o e true k more =
          ap (λ (b : Bool). option_and_then client_in (cond b (Some (row_in o)) (find (bars_row client (is_exclusive type)) (workings (map (working_record d) (filter_map found (filter has_it cs))))))) k
          ∙ read_name o.client (opener_named d c path o sound own e)
          ∙ ap (λ (x : List ℕ). Some x) (opened-is d c path o e).0
          ∙ sym (ap (λ (b : Bool). cond b (Some c) (find (bars d path client type) (filter has_it cs))) k)
      by o e false k more =
          ap (λ (b : Bool). option_and_then client_in (cond b (Some (row_in o)) (find (bars_row client (is_exclusive type)) (workings (map (working_record d) (filter_map found (filter has_it cs))))))) k
          ∙ more
          ∙ sym (ap (λ (b : Bool). cond b (Some c) (find (bars d path client type) (filter has_it cs))) k)

      go : (o : Option Opening) → found c ≡ o → first (filter_map found (filter has_it cs)) ≡ find (bars d path client type) (filter has_it cs)
          → first (filter_map found (if is_some o then c ∷ filter has_it cs else filter has_it cs)) ≡ find (bars d path client type) (if is_some o then c ∷ filter has_it cs else filter has_it cs)
      go None e more = more
      go (Some o) e more =
          ap (λ (x : Option Opening). first (cons_option x (filter_map found (filter has_it cs)))) e
          ∙ by o e (opening_bars o) refl more
          ∙ sym (ap (λ (b : Bool). cond b (Some c) (find (bars d path client type) (filter has_it cs))) (bars_as c o e))

  pub first_bars : first (openings d path) ≡ barred_by d path client type
  first_bars = first_is (keys_of (opener_of path) d)
