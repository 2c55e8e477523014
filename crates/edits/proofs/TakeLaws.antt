-- What is taken lies inside the tables: the slot that an add takes, and the slab of its ports.
use Prim.Native.Nat.{ℕ, suc, zero, ◌+◌, ◌-◌, ◌*◌, ◌≤◌}
use mathlib.Core.Path.{◌≡◌, refl}
use mathlib.Core.List.{List}
use mathlib.Core.Bool.{true}
use native.Mathlib.Omega.{arith}
use Rattle.std.proofs.lemmas.Grind.{common_steps}
use lib.ListN.{length}
use Rattle.slabs.specs.NodeEntry.{width}
use Rattle.slabs.specs.Slab.{head_of, at_hand, taken_first}
use Rattle.slabs.specs.declared.counters.Counters.{Counters}
use Rattle.slabs.proofs.SlabLaws.{at_hand_room}
use Rattle.edits.specs.FreeSlots.{slot_at_hand, next_slot}

-- A slot that is at hand lies in the table of slots.
pub next_inside : (slots : List ℕ) (c : Counters) → slot_at_hand slots c ≡ true → c.freeslot ≤ c.nodemark → width * c.nodemark ≤ length slots
    → width * next_slot c + width ≤ length slots
unfolding slot_at_hand next_slot
next_inside slots c had head room = grind (arith, common_steps)

-- A head word whose slab lies in the tables is inside them,
pub head_inside : (word size room : ℕ) → 1 ≤ size → ((first : ℕ) → word ≡ suc first → first + size ≤ room) → word ≤ room
head_inside zero size room one inside = omega arith
head_inside (suc first) size room one inside = omega (arith, inside first refl)

-- and a slab that is at hand ends inside them, whether it is its chain's first or starts at the mark.
pub taken_ends : (heads : List ℕ) (mark room size : ℕ) → at_hand heads mark room size ≡ true
    → ((first : ℕ) → head_of heads size ≡ suc first → first + size ≤ room) → taken_first heads mark size + size ≤ room
unfolding taken_first
taken_ends heads mark room size had inside = grind (arith, common_steps, at_hand_room, inside (head_of heads size - 1))
