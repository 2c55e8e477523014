-- Removing a step (call 2) keeps a store sound.
use Prim.Native.Nat.{ℕ, ◌+◌, ◌-◌, ◌≤◌, ◌<◌}
use mathlib.Core.Path.{◌≡◌, refl, ◌∙◌}
use mathlib.Core.List.{List, []}
use native.Mathlib.Omega.{arith}
use native.Mathlib.Decide.{ℕ_discrete}
use lib.ListN.{length}
use borrow.Author.Tests.{eq-eqb, ne_eqb}
use Rattle.slabs.specs.NodeEntry.{node_entry}
use Rattle.slabs.specs.Links.{wires_in}
use Rattle.slabs.specs.Counters.{node_uncounted, slab_freed}
use Rattle.slabs.specs.Slab.{freed_links, freed_owners, freed_heads}
use Rattle.slabs.specs.Slabs.{with}
use Rattle.slabs.specs.declared.counters.Counters.{Counters}
use Rattle.slabs.specs.declared.node_entry.NodeMeta.{NodeMeta}
use Rattle.slabs.specs.declared.node_entry.NodeEntry.{NodeEntry}
use Rattle.slabs.specs.declared.node_entry.NodeEntry.TheVariants.{Free, Node}
use Rattle.slabs.proofs.SlabLaws.{held_le}
use Rattle.edits.specs.Store.{Store, store_of, node_at, on_node}
use Rattle.edits.specs.FreeSlots.{slot_freed, slot_freed_counters}
use Rattle.edits.specs.Steps.{removed_links, removed_owners, removed_heads, removed_counters, removed}
use Rattle.calls.specs.Call.{remove_call}
use Rattle.sound.specs.Sound.{Shaped, LiveSlot, held_at, Sound}
use Rattle.sound.proofs.SlotLaws.{slab_held, node_at_live}
use Rattle.sound.proofs.SlotTable.{live_slot, Gone, slot_goes}
use Rattle.sound.proofs.OwnerLaws.{owned_kept}
use Rattle.sound.proofs.PortTable.{PortTable, in_slab_none, table_held, freed_outside, ports_go}
use Rattle.sound.proofs.Parts.{Parts, parts_of, sound_of, slot_table, chain_of, port_table, parts_by}
use Rattle.sound.proofs.Kept.{decided_store}
use Rattle.sound.proofs.Shapes.{freed_heads_length}

-- How the ports of a step go: a slab is freed where it has one. What holds in both cases holds.
pub remove_cases : (P : List ℕ → List ℕ → List ℕ → Counters → Type 0) (links owners heads : List ℕ) (c : Counters) (m : NodeMeta)
    → (m.capacity ≡ 0 → P links owners heads c)
    → (1 ≤ m.capacity
    → P (freed_links links heads m.first m.capacity) (freed_owners owners m.first m.capacity) (freed_heads heads m.first m.capacity)
    (slab_freed c (m.inlets + m.outlets) (wires_in links m.first m.capacity)))
    → P (removed_links links heads m) (removed_owners owners m) (removed_heads heads m) (removed_counters c links m)
unfolding removed_links removed_owners removed_heads removed_counters
remove_cases P links owners heads c m none some = go (ℕ_discrete m.capacity 0)
  where
    go : Dec (m.capacity ≡ 0) → P (removed_links links heads m) (removed_owners owners m) (removed_heads heads m) (removed_counters c links m)
    go (yes e) = rw (eq-eqb m.capacity 0 e) (none e)
    go (no n) = rw (ne_eqb m.capacity 0 n) (some (omega arith))

-- The store without the step has its parts.
pub removed_parts : (s : Store) → Parts s → (node : ℕ) (m : NodeMeta) → node < s.counters.nodemark → node_entry s.slots node ≡ Node m
    → Parts (removed s node m)
unfolding removed
removed_parts s P node m l is =
    remove_cases (λ links owners heads c. Parts (store_of slots' links owners heads c)) s.links s.owners s.heads counters m without with_slab
  where
    mark : ℕ
    mark = s.counters.nodemark

    counters : Counters
    counters = node_uncounted (slot_freed_counters s.counters node)

    slots' : List ℕ
    slots' = slot_freed s.slots s.counters node

    live : LiveSlot (length s.heads) m
    live = live_slot (slot_table s P) node m l is

    gone : Gone s.slots slots' (length s.heads) mark (node + 1) (s.counters.nodes - 1) node m
    gone = slot_goes s.slots s.counters (length s.heads) s.counters.nodes node m (slot_table s P) (chain_of s P) l is

    without : m.capacity ≡ 0 → Parts (store_of slots' s.links s.owners s.heads counters)
    without e =
        parts_by _ gone.table gone.chain
        (table_held (port_table s P) (λ p. gone.held p ∙ omega (arith, in_slab_none m.first m.capacity p e)))
        (λ k b n there. P.owned k b n (gone.was k n there).1)

    ports : PortTable s.links s.owners s.heads s.counters.portmark (with (held_at slots' mark) m.first m.capacity) s.counters.ports s.counters.links
    ports = table_held (port_table s P) gone.held

    with_slab : 1 ≤ m.capacity
        → Parts
        (store_of slots' (freed_links s.links s.heads m.first m.capacity) (freed_owners s.owners m.first m.capacity)
        (freed_heads s.heads m.first m.capacity) (slab_freed counters (m.inlets + m.outlets) (wires_in s.links m.first m.capacity)))
    with_slab some =
        parts_by _ (rw freed_heads_length gone.table) gone.chain
        (ports_go (held_at slots' mark) node m ports (P.owned node l m is) some live.fit live.sized)
        (λ k b n there.
        owned_kept (P.owned k b n (gone.was k n there).1) (freed_owners s.owners m.first m.capacity)
        (live_slot gone.table k n b there).fit
        (λ p lies.
        freed_outside s.owners m.first m.capacity p (omega (arith, held_le ports.slabs p, slab_held slots' mark k n p b there))))

-- So a removal, done or refused, keeps a store sound.
pub remove_sound : (s : Store) → Shaped s → Sound s → (node : ℕ) → Sound (remove_call s node).store
unfolding remove_call
remove_sound s shaped sound node =
    decided_store _ s (on_node (node_at s.slots s.counters.nodemark node) (λ m. removed s node m) s) [] Sound sound
    (λ done. go (node_at s.slots s.counters.nodemark node) refl)
  where
    go : (e : NodeEntry) → node_at s.slots s.counters.nodemark node ≡ e → Sound (on_node e (λ m. removed s node m) s)
    go (Free previous next) is = sound
    go (Node m) is =
        let (l, there) = node_at_live s.slots s.counters.nodemark node m is in
        sound_of (removed s node m) (removed_parts s (parts_of s shaped sound) node m l there)
