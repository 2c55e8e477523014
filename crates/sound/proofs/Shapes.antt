-- Every call leaves the lengths of the tables, and so well-shaped tables well-shaped.
use Prim.Native.Nat.{ℕ, suc, zero}
use mathlib.Core.Path.{◌≡◌, refl, ◌∙◌}
use mathlib.Core.List.{List}
use mathlib.Core.Bool.{Bool, true, false}
use native.Mathlib.Omega.{arith}
use lib.ListN.{length, length-set}
use Rattle.slabs.specs.Choice.{pick}
use Rattle.slabs.specs.Slab.{taken_links, taken_heads, freed_links, freed_owners, freed_heads}
use Rattle.slabs.specs.declared.node_entry.NodeMeta.{NodeMeta}
use Rattle.slabs.specs.declared.node_entry.NodeEntry.{NodeEntry}
use Rattle.slabs.specs.declared.node_entry.NodeEntry.TheVariants.{Free, Node}
use Rattle.slabs.proofs.Shapes.{cut_at_length, cut_run-length, filled-length}
use Rattle.slabs.proofs.EntryLaws.{set_entry-length}
use Rattle.slabs.proofs.FillLaws.{written_length}
use Rattle.edits.specs.Store.{Store, node_at, on_node}
use Rattle.edits.specs.Clear.{cleared}
use Rattle.edits.specs.FreeSlots.{set_previous, set_next, slot_taken, slot_freed}
use Rattle.edits.specs.Steps.{new_links, new_heads, added, removed_links, removed_owners, removed_heads, removed}
use Rattle.edits.specs.Swap.{arrived_slots, arrived_owners, swapped_slots, swapped_owners, swapped}
use Rattle.edits.specs.Answer.{Answer}
use Rattle.renumber.specs.Records.{Rec}
use Rattle.renumber.specs.Moves.{moved_run}
use Rattle.renumber.specs.Resize.{cut_inlets, cut_removed, changed_slots, in_place_owners, resized_in_place, moved_into, reallocated_links, resized_into, is_in_place, is_idle, resized}
use Rattle.renumber.specs.Compact.{packed_slots, renamed_owners, compacted_slots, nodes_compacted, packed_links, packed_owners, followed, followed_slots, slab_dropped, slabs_dropped, emptied_above, ports_compacted}
use Rattle.renumber.specs.declared.moves.Run.{Run}
use Rattle.renumber.specs.declared.resize.Change.{Change}
use Rattle.calls.specs.Call.{After, decided, add_call, remove_call, change_call, resize_call, link_call, unlink_call, swap_call, compact_nodes_call, compact_ports_call, call_of}
use Rattle.calls.specs.declared.Call.{Call}
use Rattle.sound.specs.Sound.{Shaped}
use Rattle.sound.proofs.Kept.{pick_both, pick_same, node_both, node_same, each_call, decided_store}
use Rattle.sound.proofs.Wires.{joined_length}
use Rattle.sound.proofs.MoveLaws.{moved_length}

-- The length of a table that is picked is one of the two lengths.
length_pick : (t : Bool) (a b : List ℕ) → length (pick t a b) ≡ pick t (length a) (length b)
length_pick true a b = refl
length_pick false a b = refl

-- Likewise for a table that goes by a slot.
length_node : (e : NodeEntry) (live : NodeMeta → List ℕ) (other : List ℕ)
    → length (on_node e live other) ≡ on_node e (λ m. length (live m)) (length other)
length_node (Node m) live other = refl
length_node (Free previous next) live other = refl

-- what each write to a table leaves of its length
ruleset lengths = (length_pick, pick_same, length_node, node_same, length-set, set_entry-length, filled-length, written_length, cut_at_length, cut_run-length)

-- two stores whose tables have the same lengths
pub record SameShape (s t : Store) : Type 0 where
  pub slots : length t.slots ≡ length s.slots
  pub links : length t.links ≡ length s.links
  pub owners : length t.owners ≡ length s.owners
  pub heads : length t.heads ≡ length s.heads

-- To be well-shaped is a matter of lengths alone.
pub same_shaped : (s t : Store) → SameShape s t → Shaped s → Shaped t
same_shaped s t same shaped =
    record {
      room = shaped.room;
      whole = same.slots ∙ shaped.whole;
      few_slots = shaped.few_slots;
      equal = omega (arith, same.owners, same.links, shaped.equal);
      few_ports = omega (arith, same.links, shaped.few_ports);
      some_heads = omega (arith, same.heads, shaped.some_heads);
      few_heads = omega (arith, same.heads, shaped.few_heads);
    }

-- The table of heads keeps its length when a slab is taken,
pub taken_heads_length : (links heads : List ℕ) (size : ℕ) → length (taken_heads links heads size) ≡ length heads
unfolding taken_heads
taken_heads_length links heads size = simp lengths

-- for a new step too,
pub new_heads_length : (links heads : List ℕ) (total : ℕ) → length (new_heads links heads total) ≡ length heads
unfolding new_heads
new_heads_length links heads total = simp (lengths, taken_heads_length)

-- when one is freed,
pub freed_heads_length : (heads : List ℕ) (first size : ℕ) → length (freed_heads heads first size) ≡ length heads
unfolding freed_heads
freed_heads_length heads first size = simp lengths

-- and when a step goes.
pub removed_heads_length : (heads : List ℕ) (m : NodeMeta) → length (removed_heads heads m) ≡ length heads
unfolding removed_heads
removed_heads_length heads m = simp (lengths, freed_heads_length)

-- What each change of the store leaves of the lengths: Clear,
cleared_shape : (s : Store) → SameShape s (cleared s)
unfolding cleared
cleared_shape s = record { slots = simp lengths; links = simp lengths; owners = simp lengths; heads = simp lengths }

-- a step that is added,
added_shape : (s : Store) (inlets outlets : ℕ) → SameShape s (added s inlets outlets)
unfolding added new_links new_heads taken_links taken_heads slot_taken set_previous
added_shape s inlets outlets = record { slots = simp lengths; links = simp lengths; owners = simp lengths; heads = simp lengths }

-- or removed,
removed_shape : (s : Store) (node : ℕ) (m : NodeMeta) → SameShape s (removed s node m)
unfolding removed slot_freed set_previous removed_links removed_owners removed_heads freed_links freed_owners freed_heads
removed_shape s node m = record { slots = simp lengths; links = simp lengths; owners = simp lengths; heads = simp lengths }

-- an entry that arrives, of the slots
arrived_length : (slots : List ℕ) (node : ℕ) (e : NodeEntry) → length (arrived_slots slots node e) ≡ length slots
unfolding arrived_slots set_previous set_next
arrived_length slots node (Node m) = simp lengths
arrived_length slots node (Free previous next) = simp lengths

-- and of the owners,
owners_length : (owners : List ℕ) (node : ℕ) (e : NodeEntry) → length (arrived_owners owners node e) ≡ length owners
unfolding arrived_owners
owners_length owners node (Node m) = simp lengths
owners_length owners node (Free previous next) = refl

-- two slots that are swapped,
swapped_shape : (s : Store) (a b : ℕ) → SameShape s (swapped s a b)
unfolding swapped swapped_slots swapped_owners
swapped_shape s a b = record { slots = simp (lengths, arrived_length); links = refl; owners = simp (lengths, owners_length); heads = refl }

-- a run of ports that move,
run_length : (links : List ℕ) (run : Run) (i : ℕ) → length (moved_run links run i) ≡ length links
unfolding moved_run
run_length links run zero = refl
run_length links run (suc i) = moved_length _ _ _ ∙ run_length links run i

-- a step that is resized,
resized_shape : (s : Store) (ch : Change) → SameShape s (resized s ch)
unfolding resized resized_in_place resized_into changed_slots in_place_owners cut_removed cut_inlets reallocated_links moved_into removed_links removed_owners removed_heads taken_links taken_heads freed_links freed_owners freed_heads
resized_shape s ch = pick_both (SameShape s) (is_in_place ch) (resized_in_place s ch) (resized_into s ch)
    (record { slots = simp lengths; links = simp (lengths, run_length); owners = simp lengths; heads = refl })
    (record { slots = simp lengths; links = simp (lengths, run_length); owners = simp lengths; heads = simp lengths })

-- the slots that go down in the compaction of nodes,
pub packed_length : (slots : List ℕ) (k : ℕ) → length (packed_slots slots k) ≡ length slots
unfolding packed_slots
packed_length slots zero = refl
packed_length slots (suc k) = simp (lengths, packed_length slots k)

-- the owner words that follow them,
pub renamed_length : (slots owners : List ℕ) (k : ℕ) → length (renamed_owners slots owners k) ≡ length owners
unfolding renamed_owners
renamed_length slots owners zero = refl
renamed_length slots owners (suc k) = simp (lengths, renamed_length slots owners k)

-- and so the compaction of nodes.
pub nodes_shape : (s : Store) → SameShape s (nodes_compacted s)
unfolding nodes_compacted compacted_slots
nodes_shape s = record { slots = simp (lengths, packed_length); links = refl; owners = simp renamed_length; heads = refl }

-- The same of the ports' compaction: a port that moves down,
pub links_length : (owners links : List ℕ) (p : ℕ) → length (packed_links owners links p) ≡ length links
unfolding packed_links
links_length owners links zero = refl
links_length owners links (suc p) = simp (lengths, moved_length, links_length owners links p)

-- its owner word,
pub packed_owners_length : (owners : List ℕ) (p : ℕ) → length (packed_owners owners p) ≡ length owners
unfolding packed_owners
packed_owners_length owners zero = refl
packed_owners_length owners (suc p) = simp (lengths, packed_owners_length owners p)

-- the slots that follow,
pub followed-length : (slots owners : List ℕ) (p : ℕ) → length (followed_slots slots owners p) ≡ length slots
unfolding followed_slots followed
followed-length slots owners zero = refl
followed-length slots owners (suc p) = simp (lengths, followed-length slots owners p)

-- those that have no port left,
pub dropped_length : (slots : List ℕ) (k : ℕ) → length (slabs_dropped slots k) ≡ length slots
unfolding slabs_dropped slab_dropped
dropped_length slots zero = refl
dropped_length slots (suc k) = simp (lengths, dropped_length slots k)

-- and so the compaction of ports.
pub ports_shape : (s : Store) → SameShape s (ports_compacted s)
unfolding ports_compacted emptied_above
ports_shape s =
    record {
      slots = simp (dropped_length, followed-length);
      links = simp (lengths, links_length);
      owners = simp (lengths, packed_owners_length);
      heads = simp lengths;
    }

-- A call that is done leaves tables of the same lengths, so a call leaves well-shaped tables well-shaped.
decided_shaped : (answer : Answer) (s t : Store) (rs : List Rec) → SameShape s t → Shaped s → Shaped (decided answer s t rs).store
decided_shaped answer s t rs same shaped = decided_store answer s t rs Shaped shaped (λ e. same_shaped s t same shaped)

-- Every call leaves well-shaped tables well-shaped.
pub call_shaped : (s : Store) (left : ℕ) (call : Call) → Shaped s → Shaped (call_of s left call).store
unfolding add_call remove_call change_call resize_call link_call unlink_call swap_call compact_nodes_call compact_ports_call
call_shaped s left call shaped =
    each_call
    Leaves
    s
    left
    call
    (record {
      clear = same_shaped s (cleared s) (cleared_shape s) shaped;
      add = decided_shaped _ s _ _ (added_shape s call.a call.b) shaped;
      remove = decided_shaped _ s _ _ (node_both (SameShape s) here _ _ (λ m. removed_shape s call.a m) same) shaped;
      resize =
          node_both Leaves here _ _
          (λ m. let ch : Change = record { node = call.a; meta = m; inlets = call.b; outlets = call.c } in
          pick_both Leaves (is_idle ch) _ _ (decided_shaped _ s s _ same shaped) (decided_shaped _ s _ _ (resized_shape s ch) shaped))
          (decided_shaped _ s s _ same shaped);
      link = decided_shaped _ s _ _ (record { slots = refl; links = joined_length s.links call.a call.b; owners = refl; heads = refl }) shaped;
      unlink = decided_shaped _ s _ _ (record { slots = refl; links = cut_at_length s.links call.a; owners = refl; heads = refl }) shaped;
      swap = decided_shaped _ s _ _ (swapped_shape s call.a call.b) shaped;
      compact_nodes = decided_shaped _ s _ _ (nodes_shape s) shaped;
      compact_ports = decided_shaped _ s _ _ (ports_shape s) shaped;
      asks = shaped;
    })
  where
    Leaves : After → Type 0
    Leaves after = Shaped after.store

    here : NodeEntry
    here = node_at s.slots s.counters.nodemark call.a

    same : SameShape s s
    same = record { slots = refl; links = refl; owners = refl; heads = refl }
