-- What owner words and slot words say once they are written: an entry that is stored is read back, and no other slot changes.
use Prim.Native.Nat.{ℕ, ◌+◌, ◌*◌, ◌≤◌, ◌<◌}
use mathlib.Core.List.{List}
use mathlib.Core.Path.{◌≡◌, refl, ◌∙◌}
use native.Mathlib.Omega.{arith}
use Rattle.std.proofs.lemmas.Grind.{common_steps}
use native.Mathlib.Nat.{add-sub_cancel}
use lib.ListN.{length, get_or, set, length-set}
use lib.Seq.{get_or-set_same, get_or-set_other}
use lib.Dec.{leb}
use borrow.Author.Tests.{ne_eqb, le-leb, lt-leb}
use Rattle.std.specs.Prelude.{Some, eqb}
use Rattle.slabs.specs.PortEntry.{outlet_bit, direction_word, owner_word, direction_of, facing, node_of, port_entry}
use denote.Enum.Bare.{sameb}
use Rattle.slabs.specs.contracts.port_entry.Direction.{the_type}
use Rattle.slabs.specs.declared.port_entry.Direction.{Direction}
use Rattle.slabs.specs.declared.port_entry.Direction.TheVariants.{Incoming, Outgoing}
use Rattle.slabs.specs.NodeEntry.{width, slot_word, node_entry, set_slot, set_entry}
use Rattle.slabs.specs.declared.node_entry.NodeMeta.{NodeMeta}
use Rattle.slabs.specs.declared.node_entry.NodeEntry.{NodeEntry}
use Rattle.slabs.specs.declared.node_entry.NodeEntry.TheVariants.{Free, Node}
use Rattle.slabs.proofs.ChoiceLaws.{pick_bit}

-- The owner word of a live port is not 0.
pub owner_live : (node d : ℕ) → owner_word node d ≡ 0 → ⊥
owner_live node d e = omega arith

-- An owner word gives back its direction,
pub owner_direction : (node d : ℕ) → node < 65536 → d ≤ 1 → direction_of (owner_word node d) ≡ d
unfolding direction_of
owner_direction node d h k = grind (arith, common_steps)

-- its node,
pub owner_node : (node d : ℕ) → node < 65536 → d ≤ 1 → node_of (owner_word node d) ≡ node
unfolding node_of
owner_node node d h k = grind (arith, common_steps)

-- its direction by name,
pub owner_facing : (node : ℕ) (d : Direction) → node < 65536 → facing (owner_word node (direction_word d)) ≡ d
unfolding facing
owner_facing node Incoming h = simp (le-leb (owner_word node 0) outlet_bit (omega arith))
owner_facing node Outgoing h = simp (lt-leb (owner_word node 1) outlet_bit (omega arith))

-- A direction's word is 0 or 1.
pub direction_word_le : (d : Direction) → direction_word d ≤ 1
direction_word_le Incoming = omega arith
direction_word_le Outgoing = omega arith

-- and so all that it says.
pub owner_entry : (node : ℕ) (d : Direction) → node < 65536
    → port_entry (owner_word node (direction_word d)) ≡ Some (record { node = node; direction = d })
unfolding port_entry
owner_entry node d h =
    simp (ne_eqb (owner_word node (direction_word d)) 0 (owner_live node (direction_word d)), owner_node node (direction_word d) h (direction_word_le d), owner_facing node d h)

-- The direction by name and by its word is the same.
pub facing_word : (w : ℕ) → direction_word (facing w) ≡ direction_of w
unfolding facing direction_of
facing_word w = grind (arith, common_steps)

-- A direction is 0 or 1.
pub direction_le : (w : ℕ) → direction_of w ≤ 1
unfolding direction_of
direction_le w = pick_bit (leb w outlet_bit)

-- Two directions are the same exactly where their words are.
pub same_direction : (a b : Direction) → sameb the_type a b ≡ eqb (direction_word a) (direction_word b)
same_direction Incoming Incoming = refl
same_direction Incoming Outgoing = refl
same_direction Outgoing Incoming = refl
same_direction Outgoing Outgoing = refl

-- A written entry leaves the table's length.
pub set_entry-length : (slots : List ℕ) (k : ℕ) (e : NodeEntry) → length (set_entry slots k e) ≡ length slots
unfolding set_entry
set_entry-length slots k (Free previous next) = simp length-set
set_entry-length slots k (Node m) = simp length-set

-- A table is unchanged at each place that is none of the four written.
slot_apart : (slots : List ℕ) (k w₀ w₁ w₂ w₃ i : ℕ) → ((j : ℕ) → j < width → i ≡ width * k + j → ⊥)
    → get_or (set_slot slots k w₀ w₁ w₂ w₃) i 0 ≡ get_or slots i 0
slot_apart slots k w₀ w₁ w₂ w₃ i h =
    rw
    (get_or-set_other _ _ i w₃ 0 (h 3 (omega arith)), get_or-set_other _ _ i w₂ 0 (h 2 (omega arith)), get_or-set_other _ _ i w₁ 0 (h 1 (omega arith)), get_or-set_other _ _ i w₀ 0 (h 0 (omega arith)))

-- The four words of a written slot.
slot_words : (slots : List ℕ) (k w₀ w₁ w₂ w₃ : ℕ) → width * k + width ≤ length slots
    → (slot_word (set_slot slots k w₀ w₁ w₂ w₃) k 0 ≡ w₀)
    × (slot_word (set_slot slots k w₀ w₁ w₂ w₃) k 1 ≡ w₁)
    × (slot_word (set_slot slots k w₀ w₁ w₂ w₃) k 2 ≡ w₂)
    × (slot_word (set_slot slots k w₀ w₁ w₂ w₃) k 3 ≡ w₃)
slot_words slots k w₀ w₁ w₂ w₃ h =
    let s₁ = set slots (width * k + 0) w₀ in
    let s₂ = set s₁ (width * k + 1) w₁ in
    let s₃ = set s₂ (width * k + 2) w₂ in (
      other s₃ 3 0 w₃ (omega arith) ∙ other s₂ 2 0 w₂ (omega arith) ∙ other s₁ 1 0 w₁ (omega arith) ∙ same slots 0 w₀ (omega arith) refl,
      other s₃ 3 1 w₃ (omega arith) ∙ other s₂ 2 1 w₂ (omega arith) ∙ same s₁ 1 w₁ (omega arith) (simp length-set),
      other s₃ 3 2 w₃ (omega arith) ∙ same s₂ 2 w₂ (omega arith) (simp length-set),
      same s₃ 3 w₃ (omega arith) (simp length-set),
    )
  where
    other : (l : List ℕ) (i j w : ℕ) → (j ≡ i → ⊥) → slot_word (set l (width * k + i) w) k j ≡ slot_word l k j
    other l i j w n = get_or-set_other l (width * k + i) (width * k + j) w 0 (omega arith)

    same : (l : List ℕ) (j w : ℕ) → j < width → length l ≡ length slots → slot_word (set l (width * k + j) w) k j ≡ w
    same l j w b f = get_or-set_same l (width * k + j) w 0 (omega arith)

-- A written live slot has these four words,
pub node_words : (slots : List ℕ) (k : ℕ) (m : NodeMeta) → width * k + width ≤ length slots
    → (slot_word (set_entry slots k (Node m)) k 0 ≡ m.first)
    × (slot_word (set_entry slots k (Node m)) k 1 ≡ m.inlets + 1)
    × (slot_word (set_entry slots k (Node m)) k 2 ≡ m.outlets)
    × (slot_word (set_entry slots k (Node m)) k 3 ≡ m.capacity)
unfolding set_entry
node_words slots k m h = slot_words slots k m.first (m.inlets + 1) m.outlets m.capacity h

-- and a written free slot these.
pub free_words : (slots : List ℕ) (k previous next : ℕ) → width * k + width ≤ length slots
    → (slot_word (set_entry slots k (Free previous next)) k 0 ≡ previous)
    × (slot_word (set_entry slots k (Free previous next)) k 1 ≡ 0)
    × (slot_word (set_entry slots k (Free previous next)) k 2 ≡ next)
    × (slot_word (set_entry slots k (Free previous next)) k 3 ≡ 0)
unfolding set_entry
free_words slots k previous next h = slot_words slots k previous 0 next 0 h

-- So the entry that was written is read back.
pub entry_same : (slots : List ℕ) (k : ℕ) (e : NodeEntry) → width * k + width ≤ length slots → node_entry (set_entry slots k e) k ≡ e
unfolding node_entry
entry_same slots k (Free previous next) h = let w = free_words slots k previous next h in simp (w.0, w.1, w.2)
entry_same slots k (Node m) h = let w = node_words slots k m h in simp (w.0, w.1, w.2, w.3, ne_eqb (m.inlets + 1) 0 (omega arith), add-sub_cancel)

-- An entry changes no word outside its slot:
pub word_apart : (slots : List ℕ) (k : ℕ) (e : NodeEntry) (i : ℕ) → ((j : ℕ) → j < width → i ≡ width * k + j → ⊥)
    → get_or (set_entry slots k e) i 0 ≡ get_or slots i 0
unfolding set_entry
word_apart slots k (Free previous next) i h = slot_apart slots k previous 0 next 0 i h
word_apart slots k (Node m) i h = slot_apart slots k m.first (m.inlets + 1) m.outlets m.capacity i h

-- not one below it,
pub word_below : (slots : List ℕ) (k : ℕ) (e : NodeEntry) (i : ℕ) → i < width * k → get_or (set_entry slots k e) i 0 ≡ get_or slots i 0
word_below slots k e i h = word_apart slots k e i (omega arith)

-- and not one above it.
pub word_above : (slots : List ℕ) (k : ℕ) (e : NodeEntry) (i : ℕ) → width * k + width ≤ i → get_or (set_entry slots k e) i 0 ≡ get_or slots i 0
word_above slots k e i h = word_apart slots k e i (omega arith)

-- A slot's entry depends on its four words alone,
pub entry_ext : (s t : List ℕ) (k : ℕ) → ((j : ℕ) → j < width → slot_word s k j ≡ slot_word t k j) → node_entry s k ≡ node_entry t k
unfolding node_entry
entry_ext s t k h = simp (h 0 (omega arith), h 1 (omega arith), h 2 (omega arith), h 3 (omega arith))

-- so each other slot keeps its entry.
pub entry_other : (slots : List ℕ) (k j : ℕ) (e : NodeEntry) → (j ≡ k → ⊥) → node_entry (set_entry slots k e) j ≡ node_entry slots j
entry_other slots k j e n =
    entry_ext (set_entry slots k e) slots j (λ i b. word_apart slots k e (width * j + i) (omega arith))
