-- The facts that the parts of the audit decide. Together they are document 01's seven rules (the law `sound_parts`). While the slabs are gone
-- over, the scratch says of each port in how many of the slabs so far it lies.
use Rattle.std.specs.Prelude.{ℕ, suc, zero, ◌+◌, ◌-◌, ◌*◌, ◌≤◌, ◌<◌, ◌≡◌, List, [], ◌∷◌, Bool, true, false, Option, MatchOption, length, get_or}
use Rattle.slabs.specs.Sums.{sum, sum_of}
use Rattle.slabs.specs.PortEntry.{Live}
use Rattle.slabs.specs.NodeEntry.{width, slot_word, node_entry}
use Rattle.slabs.specs.Links.{Mate, pairs}
use Rattle.slabs.specs.Slab.{filled}
use Rattle.slabs.specs.Slabs.{in_slab, Chain, free_at}
use Rattle.slabs.specs.declared.counters.Counters.{Counters}
use Rattle.slabs.specs.declared.node_entry.NodeMeta.{NodeMeta}
use Rattle.slabs.specs.declared.node_entry.NodeEntry.TheVariants.{Node}
use Rattle.edits.specs.Store.{Store}
use Rattle.edits.specs.Counts.{live_slots, live_ports}
use Rattle.sound.specs.Sound.{Sound, SlotSays, held_at, Owned}
use Rattle.audit.specs.Decides.{Decides}

-- every word from this place on is 0
abbrev pub BlankFrom : List ℕ → ℕ → Type 0
BlankFrom table from = (i : ℕ) → from ≤ i → get_or table i 0 ≡ 0

-- n words from first on are this word
abbrev pub RunIs : List ℕ → ℕ → ℕ → ℕ → Type 0
RunIs table first n word = (i : ℕ) → i < n → get_or table (first + i) 0 ≡ word

-- Places of the scratch are claimed: all were free, and now hold 1; or one of them was taken, those before it being claimed.
pub record Claim (scratch : List ℕ) (first n : ℕ) (scratch' : List ℕ) (r : Bool) : Type 0 where
  pub claimed : r ≡ true → RunIs scratch first n 0 × (scratch' ≡ filled scratch first n 1)
  pub refused : r ≡ false → (i : ℕ) × (i < n) × (get_or scratch (first + i) 0 ≡ 0 → ⊥) × (scratch' ≡ filled scratch first i 1)

-- rule 1
pub record MarksHold (slots links owners : List ℕ) (c : Counters) : Type 0 where
  pub nodes_inside : width * c.nodemark ≤ length slots
  pub ports_inside : c.portmark ≤ length links
  pub slots_blank : BlankFrom slots (width * c.nodemark)
  pub links_blank : BlankFrom links c.portmark
  pub owners_blank : BlankFrom owners c.portmark

-- rule 2
abbrev pub SlotsHold : List ℕ → ℕ → ℕ → Type 0
SlotsHold slots heads mark = (k : ℕ) → k < mark → SlotSays heads (slot_word slots k 3) (node_entry slots k)

-- rule 3, one step of the walk: the word leads to a free slot below the mark whose previous is the slot before
pub record LinkHolds (slots : List ℕ) (mark word before : ℕ) : Type 0 where
  pub below : word ≤ mark
  pub is_free : slot_word slots (word - 1) 1 ≡ 0
  pub led_here : slot_word slots (word - 1) 0 ≡ before

-- the walk: n such steps from a word and the slot before it, and then none
abbrev pub Walk : List ℕ → ℕ → ℕ → ℕ → ℕ → Type 0
Walk slots mark word before zero = word ≡ 0
Walk slots mark word before (suc n) = (1 ≤ word) × LinkHolds slots mark word before × Walk slots mark (slot_word slots (word - 1) 2) word n

-- rule 3, with rule 7's count of nodes
pub record FreeChainHolds (slots : List ℕ) (c : Counters) : Type 0 where
  pub nodes : c.nodes ≡ live_slots slots c.nodemark
  pub walked : Walk slots c.nodemark c.freeslot 0 (c.nodemark - live_slots slots c.nodemark)

-- rules 5 and 6 for the slab of one live slot: its owner words are right, its spare ports have no links
pub record HeldWords (links owners : List ℕ) (node : ℕ) (m : NodeMeta) : Type 0 where
  pub owned : Owned owners node m
  pub spare_loose : RunIs links (m.first + (m.inlets + m.outlets)) (m.capacity - (m.inlets + m.outlets)) 0

-- with rule 4: it ends at or below the mark
pub record HeldSlab (links owners : List ℕ) (mark node : ℕ) (m : NodeMeta) : Type 0 where
  pub ends : m.first + m.capacity ≤ mark
  pub words : HeldWords links owners node m

-- the same for one free slab
pub record FreeSlab (links owners : List ℕ) (mark first size : ℕ) : Type 0 where
  pub ends : first + size ≤ mark
  pub unowned : RunIs owners first size 0
  pub tail_loose : RunIs links (first + 1) (size - 1) 0

-- what claiming asks: the tables and the scratch reach to the mark
pub record CanClaim (links owners scratch : List ℕ) (mark : ℕ) : Type 0 where
  pub links_reach : mark ≤ length links
  pub owners_reach : mark ≤ length owners
  pub scratch_reach : mark ≤ length scratch
  pub small : mark ≤ 1048576

-- One slab is claimed, where this fact holds of it and nobody has a port of it; or not.
pub record SlabClaimed (fact : Type 0) (scratch : List ℕ) (first size : ℕ) (scratch' : List ℕ) (r : Bool) : Type 0 where
  pub so : r ≡ true → fact × RunIs scratch first size 0 × (scratch' ≡ filled scratch first size 1)
  pub not_so : r ≡ false → fact → RunIs scratch first size 0 → ⊥

-- The scratch while slabs are claimed: no port is in two of them, and this is how many ports they have below the mark.
pub record Tally (scratch : List ℕ) (mark ports : ℕ) : Type 0 where
  pub at_most_once : (p : ℕ) → get_or scratch p 0 ≤ 1
  pub counted : ports ≡ sum (λ p. get_or scratch p 0) mark

-- what all slabs of live slots must be
abbrev pub HeldSlabs : List ℕ → List ℕ → List ℕ → Counters → Type 0
HeldSlabs slots links owners c = (k : ℕ) (m : NodeMeta) → k < c.nodemark → node_entry slots k ≡ Node m → HeldSlab links owners c.portmark k m

-- Over a scratch of zeros they are claimed, each port at most once, and so many ports; or not.
abbrev pub HeldClaimed : List ℕ → List ℕ → List ℕ → List ℕ → Counters → List ℕ → Option ℕ → Type 0
HeldClaimed slots links owners scratch c scratch' r =
    MatchOption r
    (HeldSlabs slots links owners c → ((p : ℕ) → held_at slots c.nodemark p ≤ 1) → ⊥)
    (λ ports. HeldSlabs slots links owners c × ((p : ℕ) → get_or scratch' p 0 ≡ held_at slots c.nodemark p) × Tally scratch' c.portmark ports)

-- what holds of each number of a list
abbrev pub Each : (ℕ → Type 0) → List ℕ → Type 0
Each P [] = Unit {0}
Each P (x ∷ xs) = P x × Each P xs

-- what the free slabs of one size must be, by their first ports
pub record FreeSlabs (links owners : List ℕ) (mark head size : ℕ) (firsts : List ℕ) : Type 0 where
  pub chained : Chain (λ p. get_or links p 0) head firsts
  pub each : Each (λ first. FreeSlab links owners mark first size) firsts

-- One chain is claimed, each port at most once, and so many ports with those before; or not.
abbrev pub ChainClaimed : List ℕ → List ℕ → List ℕ → ℕ → ℕ → ℕ → List ℕ → Option ℕ → Type 0
ChainClaimed links owners scratch mark head size scratch' r =
    MatchOption r
    ((firsts : List ℕ) → FreeSlabs links owners mark head size firsts → ((p : ℕ) → get_or scratch p 0 + sum_of (λ first. in_slab first size p) firsts ≤ 1) → ⊥)
    (λ ports. (firsts : List ℕ) × FreeSlabs links owners mark head size firsts × ((p : ℕ) → get_or scratch' p 0 ≡ get_or scratch p 0 + sum_of (λ first. in_slab first size p) firsts) × Tally scratch' mark ports)

-- what the chains of the first n sizes must be
abbrev pub AllFree : List ℕ → List ℕ → List ℕ → ℕ → ℕ → (ℕ → List ℕ) → Type 0
AllFree links owners heads mark n chains = (i : ℕ) → i < n → FreeSlabs links owners mark (get_or heads i 0) (suc i) (chains i)

-- They are claimed, each port at most once, and so many ports with those before; or not.
abbrev pub FreeClaimed : List ℕ → List ℕ → List ℕ → List ℕ → ℕ → ℕ → List ℕ → Option ℕ → Type 0
FreeClaimed links owners heads scratch mark n scratch' r =
    MatchOption r
    ((chains : ℕ → List ℕ) → AllFree links owners heads mark n chains → ((p : ℕ) → get_or scratch p 0 + free_at chains n p ≤ 1) → ⊥)
    (λ ports. (chains : ℕ → List ℕ) × AllFree links owners heads mark n chains × ((p : ℕ) → get_or scratch' p 0 ≡ get_or scratch p 0 + free_at chains n p) × Tally scratch' mark ports)

-- rules 4 and 5, and rule 6 for ports that are not live
pub record TiledHolds (slots links owners heads : List ℕ) (c : Counters) : Type 0 where
  pub held : HeldSlabs slots links owners c
  pub chains : ℕ → List ℕ
  pub free : AllFree links owners heads c.portmark (length heads) chains
  pub once : (p : ℕ) → p < c.portmark → held_at slots c.nodemark p + free_at chains (length heads) p ≡ 1

-- rule 6 for one live port
abbrev pub MateHolds : List ℕ → List ℕ → ℕ → Type 0
MateHolds links owners p = (q : ℕ) → get_or links p 0 ≡ suc q → Mate owners links p q

-- rule 6 for the live ports, and rule 7's other counts
pub record PortsHold (links owners : List ℕ) (c : Counters) : Type 0 where
  pub mates : (p : ℕ) → p < c.portmark → Live owners p → MateHolds links owners p
  pub true_ports : c.ports ≡ live_ports owners c.portmark
  pub true_links : c.links ≡ pairs owners links c.portmark

-- The verdict of the audit, and the scratch, which ends zero.
pub record Audited (s : Store) (scratch scratch' : List ℕ) (r : Bool) : Type 0 where
  pub verdict : Decides r (Sound s)
  pub scratch_after : scratch' ≡ filled scratch 0 (length scratch) 0
