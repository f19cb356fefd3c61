-- Nodes that differ in the rest that they keep.
use Rattle.std.proofs.Common.{◌≡◌, ℕ, ◌+◌, ◌<◌, ◌^◌, List, [], length, refl, sym, ap, subst, arith}
use Rattle.outside_api.specs.Link.{text_of}
use Rattle.outside_api.specs.Says.{DiskSays}
use Rattle.archive_file.specs.Archive.{Has}
use Rattle.replica_pull.specs.Prefix.{HasNoGroup}
use Rattle.replica_pull.proofs.Counted.{empty_no_group}
use Rattle.replica_chain.specs.Chronicle.{Chronicle}
use Rattle.replica_chain.specs.Masters.{GoesOnBehind, HasNoFewer, IsBehind, Upstream}
use Rattle.replica_chain.specs.Node.{CanFollow, IsNode}
use Rattle.replica_chain.specs.declared.link.NodeLink.{NodeLink}
use Rattle.replica_chain.specs.declared.node.Node.{Node}

module _ {D : Type 0} where
  -- a node with another rest
  abbrev pub with_rest : Node D → List ℕ → Node D
  with_rest node rest = record node { rest = rest }

  -- and one with another link
  abbrev pub with_link : Node D → NodeLink D → Node D
  with_link node link = record node { link = link }

module _ {D : Type 0} (disk_says : DiskSays D) where
  -- it is a node
  unfoldable pub rested : (node : Node D) (c : Chronicle) (rest : List ℕ) → IsNode disk_says node c → IsNode disk_says (with_rest node rest) c
  rested node c rest n = record {
    was = n.was;
    doubt = n.doubt;
    stands = n.stands;
    keeps = n.keeps;
    scanned = n.scanned;
    are = n.are;
    are_groups = n.are_groups;
    has = n.has;
    pending = n.pending;
    is_pending = n.is_pending;
    pending_has = n.pending_has;
    rows = n.rows;
    tells = n.tells;
    contents = n.contents;
    pending_contents = n.pending_contents;
    before = n.before;
    at = n.at;
    number = n.number;
    changes = n.changes;
  }

  pub rested_fewer : (node : Node D) (c : Chronicle) (rest : List ℕ) → HasNoFewer disk_says node c → HasNoFewer disk_says (with_rest node rest) c
  rested_fewer node c rest has = record { now = has.now; no_fewer = has.no_fewer; is_node = rested node has.now rest has.is_node }

  -- it can follow, if its text stays short
  pub rested_can : (node : Node D) (rest : List ℕ) → CanFollow disk_says node → node.before + node.at + length rest < 2 ^ 63 → CanFollow disk_says (with_rest node rest)
  rested_can node rest can short = record {
    was = can.was;
    doubt = can.doubt;
    stands = can.stands;
    archive_end = can.archive_end;
    room = can.room;
    short = short;
    numbered = can.numbered;
    counted = can.counted;
  }

  pub emptied_can : (node : Node D) (rest : List ℕ) → rest ≡ [] → CanFollow disk_says node → CanFollow disk_says (with_rest node rest)
  emptied_can node rest is can = rested_can node rest can (let short = can.short in let none = ap length is in omega (arith, short, none))

  -- it is behind what it follows, where the rest stands there
  pub rested_behind : (node : Node D) (c : Chronicle) (up : Upstream) (rest : List ℕ) → IsBehind disk_says node c up
      → Has (text_of up.texts (length c.closed)) (record { at = node.at; length = length rest }) rest → HasNoGroup node.number rest → IsBehind disk_says (with_rest node rest) c up
  unfolding rested
  rested_behind node c up rest b has none = record { is_node = rested node c rest b.is_node; earlier = b.earlier; rest = has; no_group = none; front = b.front }

  -- and so it is without one
  none_behind : (node : Node D) (c : Chronicle) (up : Upstream) → IsBehind disk_says node c up → IsBehind disk_says (with_rest node []) c up
  none_behind node c up b =
      rested_behind node c up [] b (record { within = (let within = b.rest.within in omega (arith, within)); is = refl }) (empty_no_group node.number)

  pub emptied_behind : (node : Node D) (rest : List ℕ) → rest ≡ [] → (c : Chronicle) (up : Upstream) → IsBehind disk_says node c up → IsBehind disk_says (with_rest node rest) c up
  emptied_behind node rest is c up b = subst (λ (l : List ℕ). IsBehind disk_says (with_rest node l) c up) (sym is) (none_behind node c up b)

  -- a step from a node with another rest
  pub from_rested : (old new : Node D) (c : Chronicle) (up : Upstream) (rest : List ℕ) (T : List (List ℕ) → Type 0) (B : List ℕ → Type 0) → GoesOnBehind disk_says (with_rest old rest) new c up T B
      → GoesOnBehind disk_says old new c up T B
  from_rested old new c up rest T B step =
      let s = step.stays in
      record {
        later = step.later;
        grown = step.grown;
        more = step.more;
        texts_told = step.texts_told;
        bytes_told = step.bytes_told;
        stays = record { now = s.now; no_fewer = s.no_fewer; behind = s.behind; any_moment = s.any_moment };
      }

  -- and to one
  behind_to : (old new : Node D) (c : Chronicle) (up : Upstream) (rest : List ℕ) (T : List (List ℕ) → Type 0) (B : List ℕ → Type 0) (step : GoesOnBehind disk_says old new c up T B)
      → IsBehind disk_says (with_rest new rest) step.stays.now step.later → GoesOnBehind disk_says old (with_rest new rest) c up T B
  behind_to old new c up rest T B step b =
      let s = step.stays in
      record {
        later = step.later;
        grown = step.grown;
        more = step.more;
        texts_told = step.texts_told;
        bytes_told = step.bytes_told;
        stays = record { now = s.now; no_fewer = s.no_fewer; behind = b; any_moment = s.any_moment };
      }

  pub to_rested : (old new : Node D) (c : Chronicle) (up : Upstream) (rest : List ℕ) (T : List (List ℕ) → Type 0) (B : List ℕ → Type 0) (step : GoesOnBehind disk_says old new c up T B)
      → Has (text_of step.later.texts (length step.stays.now.closed)) (record { at = new.at; length = length rest }) rest → HasNoGroup new.number rest
      → GoesOnBehind disk_says old (with_rest new rest) c up T B
  to_rested old new c up rest T B step has none = behind_to old new c up rest T B step (rested_behind new step.stays.now step.later rest step.stays.behind has none)

  pub to_emptied : (old new : Node D) (rest : List ℕ) → rest ≡ [] → (c : Chronicle) (up : Upstream) (T : List (List ℕ) → Type 0) (B : List ℕ → Type 0) → GoesOnBehind disk_says old new c up T B
      → GoesOnBehind disk_says old (with_rest new rest) c up T B
  to_emptied old new rest is c up T B step = behind_to old new c up rest T B step (emptied_behind new rest is step.stays.now step.later step.stays.behind)
