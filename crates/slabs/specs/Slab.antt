-- Taking and freeing a slab (document 01, "Rules of the edits", second rule), one definition for each table that changes.
use Rattle.std.specs.Prelude.{ℕ, suc, zero, ◌+◌, ◌-◌, ◌≤◌, ◌≡◌, List, Bool, true, length, get_or, set, eqb, leb}
use Rattle.slabs.specs.Choice.{pick}
use Rattle.slabs.specs.PortEntry.{owner_word}
use Rattle.slabs.specs.Links.{Inside, cut_run, wires_in}
use Rattle.slabs.specs.Counters.{port_marked}
use Rattle.slabs.specs.declared.counters.Counters.{Counters}

-- the head word of the chain of this size
abbrev pub head_of : List ℕ → ℕ → ℕ
head_of heads size = get_or heads (size - 1) 0

-- a slab of this size can be had: its chain has one, or the room above the port mark is enough. Where not, the answer is 6
unfoldable pub at_hand : List ℕ → ℕ → ℕ → ℕ → Bool
at_hand heads mark room size = pick (eqb (head_of heads size) 0) (leb (mark + size) room) true

-- the first port of the slab that is taken: the chain's first slab, else what starts at the port mark
unfoldable pub taken_first : List ℕ → ℕ → ℕ → ℕ
taken_first heads mark size = pick (eqb (head_of heads size) 0) mark (head_of heads size - 1)

-- the chain word of a slab taken from its chain is cleared
unfoldable pub taken_links : List ℕ → List ℕ → ℕ → List ℕ
taken_links links heads size = pick (eqb (head_of heads size) 0) links (set links (head_of heads size - 1) 0)

-- and its chain starts at the next slab
unfoldable pub taken_heads : List ℕ → List ℕ → ℕ → List ℕ
taken_heads links heads size =
    pick (eqb (head_of heads size) 0) heads (set heads (size - 1) (get_or links (head_of heads size - 1) 0))

-- the port mark goes up only where the chain is empty
unfoldable pub taken_mark : List ℕ → ℕ → ℕ → ℕ
taken_mark heads mark size = pick (eqb (head_of heads size) 0) (mark + size) mark

-- and no other counter changes
abbrev pub taken_counters : List ℕ → Counters → ℕ → Counters
taken_counters heads c size = port_marked c (taken_mark heads c.portmark size)

-- the table with this word at n places from first on
unfoldable pub filled : List ℕ → ℕ → ℕ → ℕ → List ℕ
filled table first zero word = table
filled table first (suc n) word = set (filled table first n word) (first + n) word

-- the owner words of a node's inlets, then of its outlets, from first on
unfoldable pub owners_written : List ℕ → ℕ → ℕ → ℕ → ℕ → List ℕ
owners_written owners node first inlets outlets =
    filled (filled owners first inlets (owner_word node 0)) (first + inlets) outlets (owner_word node 1)

-- a freed slab has no wire left, and its first word leads to what was its chain's first slab
unfoldable pub freed_links : List ℕ → List ℕ → ℕ → ℕ → List ℕ
freed_links links heads first size = set (cut_run links first size) first (head_of heads size)

-- nobody owns its ports
unfoldable pub freed_owners : List ℕ → ℕ → ℕ → List ℕ
freed_owners owners first size = filled owners first size 0

-- and its chain starts with it
unfoldable pub freed_heads : List ℕ → ℕ → ℕ → List ℕ
freed_heads heads first size = set heads (size - 1) (first + 1)

-- What taking a slab asks: a size that has a chain, tables inside document 01's room, and that the slab is at hand.
pub record CanTake (links heads : List ℕ) (c : Counters) (size : ℕ) : Type 0 where
  pub some : 1 ≤ size
  pub sized : size ≤ length heads
  pub small : length links ≤ 1048576
  pub head_inside : head_of heads size ≤ length links
  pub had : at_hand heads c.portmark (length links) size ≡ true

-- What taking a slab of this size does: its first port, and the counters, links and heads after it.
pub record TookSlab (links heads : List ℕ) (c : Counters) (size : ℕ) (links' heads' : List ℕ) (first' : ℕ) (c' : Counters) : Type 0 where
  pub first : first' ≡ taken_first heads c.portmark size
  pub counters : c' ≡ taken_counters heads c size
  pub links_after : links' ≡ taken_links links heads size
  pub heads_after : heads' ≡ taken_heads links heads size

-- What freeing a slab asks: the slab lies in the tables, its size has a chain, and no link word leads outside.
pub record CanFree (links owners heads : List ℕ) (first size : ℕ) : Type 0 where
  pub some : 1 ≤ size
  pub sized : size ≤ length heads
  pub inside : first + size ≤ length links
  pub owned : first + size ≤ length owners
  pub small : length links ≤ 1048576
  pub links_inside : Inside links

-- What freeing a slab does. The answer is how many wires were cut.
pub record FreedSlab (links owners heads : List ℕ) (first size : ℕ) (links' owners' heads' : List ℕ) (wires : ℕ) : Type 0 where
  pub cut : wires ≡ wires_in links first size
  pub links_after : links' ≡ freed_links links heads first size
  pub owners_after : owners' ≡ freed_owners owners first size
  pub heads_after : heads' ≡ freed_heads heads first size
