-- Owner words (document 01, "Lent memory", owners): 0 is free, else the node plus 1, and 2^31 more for an outlet.
use Rattle.std.specs.Prelude.{ℕ, ◌+◌, ◌-◌, ◌*◌, ◌≡◌, List, Option, Some, None, get_or, eqb, leb}
use Rattle.slabs.specs.Choice.{pick}
use Rattle.slabs.specs.declared.port_entry.Direction.{Direction}
use Rattle.slabs.specs.declared.port_entry.Direction.TheVariants.{Incoming, Outgoing}
use Rattle.slabs.specs.declared.port_entry.PortMeta.{PortMeta}

-- a direction as a word: 0 in, 1 out
abbrev pub direction_word : Direction → ℕ
direction_word Incoming = 0
direction_word Outgoing = 1

-- what an outlet's owner word has more than an inlet's: 2^31
abbrev pub outlet_bit : ℕ
outlet_bit = 2147483648

-- the owner word of a port of this node in this direction, 0 in and 1 out
abbrev pub owner_word : ℕ → ℕ → ℕ
owner_word node direction = node + 1 + outlet_bit * direction

-- the direction that an owner word gives
unfoldable pub direction_of : ℕ → ℕ
direction_of word = pick (leb word outlet_bit) 0 1

-- the same direction by its name
unfoldable pub facing : ℕ → Direction
facing word = pick (leb word outlet_bit) Incoming Outgoing

-- the node that an owner word names
unfoldable pub node_of : ℕ → ℕ
node_of word = pick (leb word outlet_bit) (word - 1) (word - outlet_bit - 1)

-- what an owner word says: none where nobody has the port
unfoldable pub port_entry : ℕ → Option PortMeta
port_entry word = pick (eqb word 0) None (Some (record { node = node_of word; direction = facing word }))

-- a port is live when its owner word is not 0
abbrev pub Live : List ℕ → ℕ → Type 0
Live owners p = get_or owners p 0 ≡ 0 → ⊥
