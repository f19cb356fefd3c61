-- The one spelling of a number and of a text, each with the byte that ends it, and how it is read. Numbers are decimal, and a
-- text stands between two signs `@` with each sign in it doubled, as in a journal or checkpoint of Helix Core (System
-- Administrator Guide, "Journal files"). That a number has no leading zero is this project's own choice.
use Rattle.std.specs.Prelude.{ℕ, suc, ◌+◌, ◌-◌, ◌*◌, ◌==◌, Bool, ◌&&◌, nat_le, nat_lt, List, [], ◌∷◌, ◌++◌, Option, Some, None, if◌then◌else◌}
use Rattle.std.specs.Fmt.{decimal}
use Rattle.db_records.specs.depot_path.Bytes.{is_digit}
use Rattle.record_text.specs.declared.fault.Part.TheVariants.{Field}
use Rattle.record_text.specs.Reading.{Reading}
use Rattle.record_text.specs.Machine.{Step, Next, Last, Refuse, run}

-- the sign `@`
abbrev pub sign : ℕ
sign = 0x40

-- ---- numbers

abbrev pub spelled_number : ℕ → ℕ → List ℕ
spelled_number ender n = decimal n ++ ender ∷ []

-- the number so far, none before the first digit: nothing follows a leading zero
abbrev pub number_step : ℕ → ℕ → ℕ → Option ℕ → ℕ → Step (Option ℕ) ℕ
number_step least most ender None byte = if is_digit byte && nat_le least (byte - 48) then Next (Some (byte - 48)) else Refuse
number_step least most ender (Some n) byte =
    if byte == ender then Last n
    else (if is_digit byte && (nat_lt 0 n && nat_le (10 * n + (byte - 48)) most) then Next (Some (10 * n + (byte - 48))) else Refuse)

-- a number from the least to the most at the front
abbrev pub number_at : ℕ → ℕ → ℕ → List ℕ → Reading ℕ
number_at least most ender bytes = run (number_step least most ender) Field None bytes

-- ---- texts

-- a sign within a text is doubled
abbrev pub doubled_byte : ℕ → List ℕ
doubled_byte byte = if byte == sign then sign ∷ sign ∷ [] else byte ∷ []

abbrev pub doubled : List ℕ → List ℕ
doubled [] = []
doubled (byte ∷ text) = doubled_byte byte ++ doubled text

abbrev pub spelled_text : ℕ → List ℕ → List ℕ
spelled_text ender text = sign ∷ (doubled text ++ sign ∷ ender ∷ [])

-- how many bytes stand before the first sign, or at all
abbrev pub before_sign : List ℕ → ℕ
before_sign [] = 0
before_sign (byte ∷ bytes) = if byte == sign then 0 else suc (before_sign bytes)

-- before the text, within it, and behind a sign that ends it unless another sign follows
pub data Place : Type 0 where
  Before : Place
  Within : List ℕ → Place
  Behind : List ℕ → Place

abbrev pub text_step : (List ℕ → Bool) → ℕ → Place → ℕ → Step Place (List ℕ)
text_step allowed ender Before byte = if byte == sign then Next (Within []) else Refuse
text_step allowed ender (Within kept) byte = if byte == sign then Next (Behind kept) else Next (Within (kept ++ byte ∷ []))
text_step allowed ender (Behind kept) byte =
    if byte == sign then Next (Within (kept ++ sign ∷ []))
    else (if byte == ender && allowed kept then Last kept else Refuse)

-- a text that is allowed at the front
abbrev pub text_at : (List ℕ → Bool) → ℕ → List ℕ → Reading (List ℕ)
text_at allowed ender bytes = run (text_step allowed ender) Field Before bytes
