-- What an answer says of the store: an add that is done can be done, and a store that fits can be swapped.
use Prim.Native.Nat.{ℕ, ◌+◌, ◌<◌}
use mathlib.Core.Path.{◌≡◌, refl}
use mathlib.Core.Bool.{Bool, true, false}
use native.Mathlib.Omega.{arith}
use lib.ListN.{length}
use lib.Dec.{ltb}
use borrow.Author.Tests.{le-ltb, ltb-false}
use Rattle.slabs.specs.Choice.{pick}
use Rattle.slabs.specs.NodeEntry.{node_entry}
use Rattle.slabs.specs.declared.node_entry.NodeEntry.{NodeEntry}
use Rattle.slabs.specs.declared.node_entry.NodeEntry.TheVariants.{Free, Node}
use Rattle.edits.specs.Answer.{Answer}
use Rattle.edits.specs.declared.answer.Refusal.TheVariants.{TooManyPorts, SlabTooLarge, NoSlot, NoSlab}
use Rattle.edits.specs.Answer.{done}
use Rattle.std.specs.Prelude.{Err}
use Rattle.edits.specs.Store.{Store}
use Rattle.edits.specs.Answer.{is_done}
use Rattle.edits.specs.FreeSlots.{slot_at_hand, next_slot}
use Rattle.edits.specs.Steps.{most, new_slab_at_hand, add_answer}
use Rattle.edits.specs.Swap.{EntryInside, CanSwap}
use Rattle.edits.specs.Fit.{Fit, CanAdd}

-- A test that would refuse did not, where the answer is done,
not_refused : (t : Bool) (refusal other : Answer) → is_done refusal ≡ false → is_done (pick t refusal other) ≡ true
    → (t ≡ false) × (is_done other ≡ true)
not_refused true refusal other e h = (cc, cc)
not_refused false refusal other e h = (refl, h)

-- and one that had to hold did.
passed : (t : Bool) (other refusal : Answer) → is_done refusal ≡ false → is_done (pick t other refusal) ≡ true → (t ≡ true) × (is_done other ≡ true)
passed true other refusal e h = (refl, h)
passed false other refusal e h = (cc, cc)

-- An add that is answered with done can be done,
pub add_done : (s : Store) (inlets outlets : ℕ)
    → is_done (add_answer s.slots (length s.links) s.heads s.counters inlets outlets) ≡ true → CanAdd s inlets outlets
unfolding add_answer
add_done s inlets outlets h =
    let total = inlets + outlets in
    let last = pick (new_slab_at_hand s.heads s.counters.portmark (length s.links) total) (done (next_slot s.counters) 0 0) (Err NoSlab) in
    let fourth = pick (slot_at_hand s.slots s.counters) last (Err NoSlot) in
    let third = pick (ltb (length s.heads) total) (Err SlabTooLarge) fourth in
    let second = pick (ltb most outlets) (Err TooManyPorts) third in
    let p = not_refused (ltb most inlets) (Err TooManyPorts) second refl h in
    let q = not_refused (ltb most outlets) (Err TooManyPorts) third refl p.1 in
    let r = not_refused (ltb (length s.heads) total) (Err SlabTooLarge) fourth refl q.1 in
    let t = passed (slot_at_hand s.slots s.counters) last (Err NoSlot) refl r.1 in
    let u = passed (new_slab_at_hand s.heads s.counters.portmark (length s.links) total) (done (next_slot s.counters) 0 0) (Err NoSlab) refl t.1 in
    record {
      few_inlets = ltb-false most inlets p.0;
      few_outlets = ltb-false most outlets q.0;
      sized = ltb-false (length s.heads) total r.0;
      slot = t.0;
      slab = u.0;
    }

-- and one that can be done is answered so, with the slot that it takes.
pub add_given : {s : Store} {inlets outlets : ℕ} → CanAdd s inlets outlets
    → add_answer s.slots (length s.links) s.heads s.counters inlets outlets ≡ done (next_slot s.counters) 0 0
unfolding add_answer
add_given can =
    simp (le-ltb _ _ can.few_inlets, le-ltb _ _ can.few_outlets, le-ltb _ _ can.sized, can.slot, can.slab)

-- In a store that fits, what a slot below the mark says lies inside the tables.
pub entry_fits : {s : Store} {k : ℕ} → Fit s → k < s.counters.nodemark → EntryInside (length s.slots) (length s.owners) (node_entry s.slots k)
entry_fits {s} {k} fit below = go (node_entry s.slots k) refl
  where
    go : (e : NodeEntry) → node_entry s.slots k ≡ e → EntryInside (length s.slots) (length s.owners) e
    go (Node m) e = let f = fit.live k m below e in (f.few_inlets, omega (arith, f.fit, f.ends))
    go (Free previous next) e = let f = fit.free k previous next below e in (omega (arith, f.0), omega (arith, f.1))

-- So two of its slots can be swapped.
pub swap_fit : {s : Store} {a b : ℕ} → Fit s → a < s.counters.nodemark → b < s.counters.nodemark → CanSwap s.slots s.owners a b
swap_fit {s} {a} {b} fit la lb =
    record {
      few_a = omega arith;
      few_b = omega arith;
      inside_a = omega arith;
      inside_b = omega arith;
      entry_a = entry_fits fit la;
      entry_b = entry_fits fit lb;
    }
