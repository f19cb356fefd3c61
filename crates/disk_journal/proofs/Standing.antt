-- How a journal stands after each write of a commit, of a settling and of an opening.
use Rattle.std.proofs.Common.{◌≡◌, ◌≢◌, ℕ, ◌+◌, ◌*◌, ◌<◌, ◌≤◌, List, [], ◌∷◌, ◌++◌, length, refl, subst, sym, ap, ◌∙◌, append_assoc, arith, length-append}
use Rattle.outside_api.specs.Disk.{Files, After, Holds, Torn, OnFile}
use Rattle.outside_api.specs.Moments.{LeavesOnly, started}
use Rattle.outside_api.specs.Says.{DiskSays}
use Rattle.disk_journal.specs.Text.{IsGroup, AreGroups, mark, blocks}
use Rattle.disk_journal.specs.Images.{Committed, with_group, with_generation, IsOpening, HasForm, IsAtRest, IsReady}
use Rattle.disk_journal.specs.Marks.{HasClosedMark, IsShut}
use Rattle.disk_journal.specs.Stands.{Doubtful, nothing, group, opening, Knows, IsImage, HasWithOrWithout, Stands}
use Rattle.disk_journal.specs.declared.journal.Journal.{Journal}
use Rattle.disk_journal.specs.declared.journal.Doubt.{Doubt}
use Rattle.disk_journal.specs.declared.journal.Doubt.TheVariants.{Nothing, Group, Generation}
use Rattle.disk_journal.proofs.Images.{rest_holds, ready_holds, rest_torn, rest_written, ready_torn, ready_opened, ready_closed, opened_mark, closed_mark}
use Rattle.disk_journal.proofs.Opening.{opening_holds, opening_torn, opening_opened, opening_closed, rest_elsewhere, next_written, rest_opening, opened_next, closed_root}

-- the journal's file reaches past the mark
form_room : (was : Committed) (byte : ℕ) (behind : List ℕ) (image : Files) → HasForm was byte behind image → length (blocks was.groups) + 5 ≤ length (image (1 + 2 * was.generation))
form_room was byte behind image form =
    omega (arith, ap length form.file, length-append (blocks was.groups ++ mark byte) behind, length-append (blocks was.groups) (mark byte))

image_room : (was : Committed) (doubt : Doubtful) (image : Files) → IsImage was doubt image → length (blocks was.groups) + 5 ≤ length (image (1 + 2 * was.generation))
image_room was nothing image is = form_room was is.byte is.behind image is.form
image_room was (opening checkpoint) image is = form_room was is.byte is.behind image is.form
image_room was (group g) image is = form_room was is.byte (g ++ mark 109 ++ is.behind) image is.form

pub image_holds : (was : Committed) (doubt : Doubtful) (number : ℕ) (known : Doubt) (image : Files) → number ≡ length was.groups + 1 → AreGroups was.groups → Knows doubt number known → IsImage was doubt image → HasWithOrWithout was doubt image
image_holds was nothing number known image number_is are knows is = rest_holds was image are is
image_holds was (opening checkpoint) number known image number_is are knows is = opening_holds was checkpoint image are is
image_holds was (group g) number known image number_is are knows is = ready_holds was g image are (subst (λ n. IsGroup n g) number_is knows.1) is

pub standing : {D : Type 0} (disk_says : DiskSays D) (journal : Journal D) (was : Committed) (doubt : Doubtful)
    → journal.end.generation ≡ was.generation → AreGroups was.groups → journal.end.groups ≡ length was.groups → journal.end.length ≡ length (blocks was.groups) → Knows doubt (journal.end.groups + 1) journal.doubt
    → ((image : Files) → disk_says.may_leave journal.disk image → IsImage was doubt image) → Stands disk_says journal was doubt
standing disk_says journal was doubt generation are count long known each = record {
  generation = generation;
  are_groups = are;
  count = count;
  length = long;
  known = known;
  each = each;
  holds = λ image left. image_holds was doubt (journal.end.groups + 1) journal.doubt image (omega (arith, count)) are known (each image left);
}

-- the journal's file begins with the committed text
pub image_text : (was : Committed) (doubt : Doubtful) (image : Files) → IsImage was doubt image → (rest : List ℕ) × (image (1 + 2 * was.generation) ≡ blocks was.groups ++ rest)
image_text was nothing image is = (mark is.byte ++ is.behind, is.form.file ∙ append_assoc (blocks was.groups) (mark is.byte) is.behind)
image_text was (opening checkpoint) image is = (mark is.byte ++ is.behind, is.form.file ∙ append_assoc (blocks was.groups) (mark is.byte) is.behind)
image_text was (group g) image is = (mark is.byte ++ (g ++ mark 109 ++ is.behind), is.form.file ∙ append_assoc (blocks was.groups) (mark is.byte) (g ++ mark 109 ++ is.behind))

module _ {D : Type 0} (disk_says : DiskSays D) (reads : (disk : D) (c : Files) → disk_says.seen disk c → disk_says.may_leave disk c) (journal : Journal D) (was : Committed) where
  pub room : (doubt : Doubtful) (file : ℕ) → Stands disk_says journal was doubt → file ≡ 1 + 2 * journal.end.generation → (files : Files) → disk_says.seen journal.disk files → journal.end.length + 5 ≤ length (files file)
  room doubt file stands file_is files read =
      let has = image_room was doubt files (stands.each files (reads journal.disk files read)) in
      let same : file ≡ 1 + 2 * was.generation = omega (arith, file_is, stands.generation) in
      subst (λ f. journal.end.length + 5 ≤ length (files f)) (sym same) (omega (arith, has, stands.length))

  module _ (file : ℕ) (stands : Stands disk_says journal was nothing) (file_is : file ≡ 1 + 2 * journal.end.generation) where
    file_of : file ≡ 1 + 2 * was.generation
    file_of = omega (arith, file_is, stands.generation)

    behind : journal.end.length + 5 ≡ length (blocks was.groups) + 5
    behind = omega (arith, stands.length)

    -- behind the closed mark nothing changes what an image has
    pub behind_rest : (n : ℕ) (c : Files) → After (OnFile file (Torn (journal.end.length + 5) n)) (disk_says.may_leave journal.disk) c → IsAtRest was c
    behind_rest n c after = rest_torn was file file_of (journal.end.length + 5) behind n after.0 c (stands.each after.0 after.1) after.2

    -- the whole text is there
    pub behind_ready : (g piece : List ℕ) → piece ≡ g ++ mark 109 → (c : Files) → After (OnFile file (Holds (journal.end.length + 5) piece)) (disk_says.seen journal.disk) c → IsReady was g c
    behind_ready g piece piece_is c after =
        let on = subst (λ l. OnFile file (Holds (journal.end.length + 5) l) after.0 c) piece_is after.2 in
        rest_written was file file_of (journal.end.length + 5) behind g after.0 c (stands.each after.0 (reads journal.disk after.0 after.1)) on

  -- the mark of a disk each of whose images has the text
  module _ (file : ℕ) (g : List ℕ) (file_of : file ≡ 1 + 2 * was.generation) (in_mark : journal.end.length ≡ length (blocks was.groups)) (mid : D) (ready : (c : Files) → disk_says.may_leave mid c → IsReady was g c) where
    at_mark : journal.end.length + 1 ≡ length (blocks was.groups) + 1
    at_mark = omega (arith, in_mark)

    pub mark_room : (files : Files) → disk_says.seen mid files → journal.end.length + 1 ≤ length (files file)
    mark_room files read =
        let has = image_room was (group g) files (ready files (reads mid files read)) in
        subst (λ f. journal.end.length + 1 ≤ length (files f)) (sym file_of) (omega (arith, has, in_mark))

    pub mark_ready : (c : Files) → After (OnFile file (Torn (journal.end.length + 1) 1)) (disk_says.may_leave mid) c → IsReady was g c
    mark_ready c after = ready_torn was file file_of (journal.end.length + 1) at_mark g after.0 c (ready after.0 after.1) after.2

    pub mark_opened : (c : Files) → After (OnFile file (Holds (journal.end.length + 1) (101 ∷ []))) (disk_says.seen mid) c → IsAtRest (with_group was g) c
    mark_opened c after = ready_opened was file file_of (journal.end.length + 1) at_mark g after.0 c (ready after.0 (reads mid after.0 after.1)) after.2

    pub mark_closed : (c : Files) → After (OnFile file (Holds (journal.end.length + 1) (109 ∷ []))) (disk_says.seen mid) c → IsAtRest was c
    mark_closed c after = ready_closed was file file_of (journal.end.length + 1) at_mark g after.0 c (ready after.0 (reads mid after.0 after.1)) after.2

    -- the closed marks that these leave
    pub mark_behind : (c : Files) → After (OnFile file (Holds (journal.end.length + 1) (101 ∷ []))) (disk_says.seen mid) c → HasClosedMark (with_group was g) c
    mark_behind c after = opened_mark was file file_of (journal.end.length + 1) at_mark g after.0 c (ready after.0 (reads mid after.0 after.1)) after.2

    pub mark_shut : (c : Files) → After (OnFile file (Holds (journal.end.length + 1) (109 ∷ []))) (disk_says.seen mid) c → HasClosedMark was c
    mark_shut c after = closed_mark was file file_of (journal.end.length + 1) at_mark g after.0 c (ready after.0 (reads mid after.0 after.1)) after.2

  -- a group's mark that is in doubt
  module _ (file : ℕ) (file_is : file ≡ 1 + 2 * journal.end.generation) (in_doubt : journal.doubt ≡ Group) where
    pub settling : (doubt : Doubtful) → Stands disk_says journal was doubt → (c : Files) → After (OnFile file (Torn (journal.end.length + 1) 1)) (disk_says.may_leave journal.disk) c → IsImage was doubt c
    settling nothing stands c after = absurd (never stands.known)
      where
        never : journal.doubt ≡ Nothing → ⊥
        never is = cc
    settling (opening checkpoint) stands c after = absurd (never stands.known)
      where
        never : journal.doubt ≡ Generation → ⊥
        never is = cc
    settling (group g) stands c after =
        mark_ready file g (omega (arith, file_is, stands.generation)) stands.length journal.disk stands.each c after

    pub settled : (doubt : Doubtful) → Stands disk_says journal was doubt → (c : Files) → After (OnFile file (Holds (journal.end.length + 1) (109 ∷ []))) (disk_says.seen journal.disk) c → IsAtRest was c
    settled nothing stands c after = absurd (never stands.known)
      where
        never : journal.doubt ≡ Nothing → ⊥
        never is = cc
    settled (opening checkpoint) stands c after = absurd (never stands.known)
      where
        never : journal.doubt ≡ Generation → ⊥
        never is = cc
    settled (group g) stands c after =
        mark_closed file g (omega (arith, file_is, stands.generation)) stands.length journal.disk stands.each c after

    pub settled_mark : (doubt : Doubtful) → Stands disk_says journal was doubt → (c : Files) → After (OnFile file (Holds (journal.end.length + 1) (109 ∷ []))) (disk_says.seen journal.disk) c → IsShut was doubt c
    settled_mark nothing stands c after = tt
    settled_mark (opening checkpoint) stands c after = absurd (never stands.known)
      where
        never : journal.doubt ≡ Generation → ⊥
        never is = cc
    settled_mark (group g) stands c after =
        mark_shut file g (omega (arith, file_is, stands.generation)) stands.length journal.disk stands.each c after

  -- a root mark that is in doubt
  module _ (in_doubt : journal.doubt ≡ Generation) where
    pub root_settling : (doubt : Doubtful) → Stands disk_says journal was doubt → (c : Files) → After (OnFile 0 (Torn journal.end.generation 1)) (disk_says.may_leave journal.disk) c → IsImage was doubt c
    root_settling nothing stands c after = absurd (never stands.known)
      where
        never : journal.doubt ≡ Nothing → ⊥
        never is = cc
    root_settling (group g) stands c after = absurd (never stands.known.0)
      where
        never : journal.doubt ≡ Group → ⊥
        never is = cc
    root_settling (opening checkpoint) stands c after = opening_torn was checkpoint journal.end.generation stands.generation after.0 c (stands.each after.0 after.1) after.2

    pub root_settled : (doubt : Doubtful) → Stands disk_says journal was doubt → (c : Files) → After (OnFile 0 (Holds journal.end.generation (109 ∷ []))) (disk_says.seen journal.disk) c → IsAtRest was c
    root_settled nothing stands c after = absurd (never stands.known)
      where
        never : journal.doubt ≡ Nothing → ⊥
        never is = cc
    root_settled (group g) stands c after = absurd (never stands.known.0)
      where
        never : journal.doubt ≡ Group → ⊥
        never is = cc
    root_settled (opening checkpoint) stands c after =
        opening_closed was checkpoint journal.end.generation stands.generation after.0 c (stands.each after.0 (reads journal.disk after.0 after.1)) after.2

    pub root_settled_mark : (doubt : Doubtful) → Stands disk_says journal was doubt → (c : Files) → After (OnFile 0 (Holds journal.end.generation (109 ∷ []))) (disk_says.seen journal.disk) c → IsShut was doubt c
    root_settled_mark nothing stands c after = tt
    root_settled_mark (group g) stands c after = absurd (never stands.known.0)
      where
        never : journal.doubt ≡ Group → ⊥
        never is = cc
    root_settled_mark (opening checkpoint) stands c after =
        closed_root was checkpoint journal.end.generation stands.generation after.0 c (stands.each after.0 (reads journal.disk after.0 after.1)) after.2

  -- the root reaches to its mark
  image_root : (doubt : Doubtful) (image : Files) → IsImage was doubt image → length (image 0) ≡ 4095
  image_root nothing image is = is.root.long
  image_root (group g) image is = is.root.long
  image_root (opening checkpoint) image is = is.root.long

  pub root_room : (doubt : Doubtful) → Stands disk_says journal was doubt → (files : Files) → disk_says.seen journal.disk files → journal.end.generation ≤ length (files 0)
  root_room doubt stands files read = omega (arith, image_root doubt files (stands.each files (reads journal.disk files read)), journal.end.last)

  -- a new generation, step by step: the disks before, between and after the two writes of its files
  module _ (stands : Stands disk_says journal was nothing) where
    elsewhere : (file : ℕ) (step : List ℕ → List ℕ → Type 0) (c : Files) → 2 + 2 * journal.end.generation < file → (d : Files) → IsAtRest was d → OnFile file step d c → IsAtRest was c
    elsewhere file step c above d rest on = rest_elsewhere was file step d c (omega (arith, above, stands.generation)) rest on

    pub first_file : (file n : ℕ) (c : Files) → 2 + 2 * journal.end.generation < file → After (OnFile file (Torn 0 n)) (disk_says.may_leave journal.disk) c → IsAtRest was c
    first_file file n c above after = elsewhere file (Torn 0 n) c above after.0 (stands.each after.0 after.1) after.2

    module _ (mid : D) (rest : (c : Files) → disk_says.may_leave mid c → IsAtRest was c) where
      pub second_file : (file n : ℕ) (c : Files) → 2 + 2 * journal.end.generation < file → After (OnFile file (Torn 0 n)) (disk_says.may_leave mid) c → IsAtRest was c
      second_file file n c above after = elsewhere file (Torn 0 n) c above after.0 (rest after.0 after.1) after.2

      pub both_files : (checkpoint : List ℕ) (first second : ℕ) → first ≡ 4 + 2 * journal.end.generation → second ≡ 3 + 2 * journal.end.generation → journal.end.generation < 4095
          → ((d : Files) → disk_says.seen mid d → After (OnFile first (Holds 0 checkpoint)) (disk_says.seen journal.disk) d) → (c : Files) → After (OnFile second (Holds 0 (mark 109))) (disk_says.seen mid) c → IsOpening was checkpoint c
      both_files checkpoint first second first_is second_is below from c after =
          let mid_files = after.0 in
          let one = from mid_files after.1 in
          let next = next_written was checkpoint first second one.0 mid_files c (omega (arith, first_is, stands.generation)) (omega (arith, second_is, stands.generation)) one.2 after.2 in
          let at_rest = elsewhere second (Holds 0 (mark 109)) c (omega (arith, second_is)) mid_files (rest mid_files (reads mid mid_files after.1)) after.2 in
          rest_opening was checkpoint c (omega (arith, below, stands.generation)) at_rest next

    pub root_torn : (checkpoint : List ℕ) (mid : D) → ((c : Files) → disk_says.may_leave mid c → IsOpening was checkpoint c) → (c : Files) → After (OnFile 0 (Torn journal.end.generation 1)) (disk_says.may_leave mid) c → IsOpening was checkpoint c
    root_torn checkpoint mid is c after = opening_torn was checkpoint journal.end.generation stands.generation after.0 c (is after.0 after.1) after.2

    pub root_opened : (checkpoint : List ℕ) (mid : D) → ((c : Files) → disk_says.may_leave mid c → IsOpening was checkpoint c) → (c : Files) → After (OnFile 0 (Holds journal.end.generation (101 ∷ []))) (disk_says.seen mid) c → IsAtRest (with_generation was checkpoint) c
    root_opened checkpoint mid is c after = opening_opened was checkpoint journal.end.generation stands.generation after.0 c (is after.0 (reads mid after.0 after.1)) after.2

    pub next_mark : (checkpoint : List ℕ) (mid : D) → ((c : Files) → disk_says.may_leave mid c → IsOpening was checkpoint c) → (c : Files) → After (OnFile 0 (Holds journal.end.generation (101 ∷ []))) (disk_says.seen mid) c → HasClosedMark (with_generation was checkpoint) c
    next_mark checkpoint mid is c after = opened_next was checkpoint journal.end.generation stands.generation after.0 c (is after.0 (reads mid after.0 after.1)) after.2

pub opening_room : (was : Committed) (checkpoint : List ℕ) (image : Files) → IsOpening was checkpoint image → length (image 0) ≡ 4095
opening_room was checkpoint image is = is.root.long

-- nothing is in doubt where the journal knows of nothing
pub at_rest : {D : Type 0} (disk_says : DiskSays D) (journal : Journal D) (was : Committed) (doubt : Doubtful) → journal.doubt ≡ Nothing → Stands disk_says journal was doubt → Stands disk_says journal was nothing
at_rest disk_says journal was nothing is stands = stands
at_rest disk_says journal was (opening checkpoint) is stands = absurd (never stands.known)
  where
    never : journal.doubt ≡ Generation → ⊥
    never known = cc
at_rest disk_says journal was (group g) is stands = absurd (never stands.known.0)
  where
    never : journal.doubt ≡ Group → ⊥
    never known = cc

-- without a call nothing happens
pub no_call : {D : Type 0} (disk_says : DiskSays D) (journal : Journal D) (was : Committed) (doubt : Doubtful)
    → ((c : Files) → disk_says.left_since journal.disk (disk_says.moment journal.disk) c → disk_says.may_leave journal.disk c) → Stands disk_says journal was doubt → LeavesOnly disk_says journal.disk journal.disk (HasWithOrWithout was doubt)
no_call disk_says journal was doubt only_now stands =
    started disk_says journal.disk (HasWithOrWithout was doubt) (λ c left. stands.holds c (only_now c left))

-- the journal knows what is in doubt
pub known_doubt : {D : Type 0} (disk_says : DiskSays D) (journal : Journal D) (was : Committed) (doubt : Doubtful) → journal.doubt ≡ Nothing → Stands disk_says journal was doubt → doubt ≢ nothing → ⊥
known_doubt disk_says journal was nothing is stands some = some refl
known_doubt disk_says journal was (opening checkpoint) is stands some = never stands.known
  where
    never : journal.doubt ≡ Generation → ⊥
    never known = cc
known_doubt disk_says journal was (group g) is stands some = never stands.known.0
  where
    never : journal.doubt ≡ Group → ⊥
    never known = cc

-- and then no mark has to be closed
pub nothing_shut : {D : Type 0} (disk_says : DiskSays D) (journal : Journal D) (was : Committed) (doubt : Doubtful) (image : Files) → journal.doubt ≡ Nothing → Stands disk_says journal was doubt → IsShut was doubt image
nothing_shut disk_says journal was nothing image is stands = tt
nothing_shut disk_says journal was (opening checkpoint) image is stands = absurd (never stands.known)
  where
    never : journal.doubt ≡ Generation → ⊥
    never known = cc
nothing_shut disk_says journal was (group g) image is stands = absurd (never stands.known.0)
  where
    never : journal.doubt ≡ Group → ⊥
    never known = cc
