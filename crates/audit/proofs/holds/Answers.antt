-- `holds` decides whether a store is sound: each part of the audit decides one part of that.
use Prim.Native.Nat.{ℕ, ◌≤◌}
use mathlib.Core.List.{List}
use mathlib.Core.Path.{sym, ◌∙◌}
use native.Mathlib.Omega.{arith}
use lib.ListN.{length}
use Rattle.std.proofs.lemmas.Grind.{common_steps}
use Rattle.slabs.specs.NodeEntry.{slot_word, node_entry}
use Rattle.slabs.specs.declared.node_entry.NodeEntry.{NodeEntry}
use Rattle.slabs.specs.declared.node_entry.NodeEntry.TheVariants.{Free, Node}
use Rattle.edits.specs.Store.{Store, store_seen}
use Rattle.sound.specs.Sound.{Sound, SlotSays}
use Rattle.audit.specs.Decides.{Decides}
use Rattle.audit.specs.Parts.{MarksHold, SlotsHold, FreeChainHolds, TiledHolds, PortsHold}
use Rattle.audit.proofs.DecideLaws.{decides_from}
use Rattle.audit.proofs.ChainSound.{walk_chain, chain_walk}
use Rattle.audit.proofs.SoundParts.{sound_parts, parts_sound}
use Rattle.audit.proofs.holds.Goals as goal
use Rattle.audit.proofs.holds.Goals.{then-free_chain_holds, else-free_chain_holds}

-- slots that hold for so many heads hold for more
slots_wide : (slots : List ℕ) (few more mark : ℕ) → few ≤ more → SlotsHold slots few mark → SlotsHold slots more mark
slots_wide slots few more mark l h k b = go (node_entry slots k) (h k b)
  where
    go : (n : NodeEntry) → SlotSays few (slot_word slots k 3) n → SlotSays more (slot_word slots k 3) n
    go (Node m) live =
        record { few_inlets = live.few_inlets; few_outlets = live.few_outlets; fit = live.fit; sized = omega (arith, live.sized); unplaced = live.unplaced }
    go (Free previous next) e = e

-- what the parts of the audit decide
record Found (s : Store) : Type 0 where
  marks : MarksHold s.slots s.links s.owners s.counters
  slots : SlotsHold s.slots (length s.heads) s.counters.nodemark
  chain : FreeChainHolds s.slots s.counters
  tiled : TiledHolds s.slots s.links s.owners s.heads s.counters
  ports : PortsHold s.links s.owners s.counters

found_sound : (s : Store) → Found s → Sound s
found_sound s h =
    parts_sound s
    (record { marks = h.marks; slots = h.slots; free_chain = walk_chain s h.chain; nodes = h.chain.nodes; tiled = h.tiled; ports = h.ports })

sound_found : (s : Store) → Sound s → Found s
sound_found s h =
    let parts = sound_parts s h in
    record { marks = parts.marks; slots = parts.slots; chain = chain_walk s h.free_chain h.counted.nodes; tiled = parts.tiled; ports = parts.ports }

pub returns-then-tiled : goal.returns-then-tiled
returns-then-tiled c =
    let a = c.args in
    let s = store_seen a.view a.counters in
    let tiled : TiledHolds s.slots s.links s.owners s.heads s.counters =
    elim c.if-free_chain_holds.branch [
      | then-free_chain_holds w ↦ w.tiled.ensures.so (sym w.value-is ∙ c.if-tiled.true)
      | else-free_chain_holds w ↦ (cc)
    ] in
    let chain : FreeChainHolds s.slots s.counters = grind (arith, common_steps) in
    let slots : SlotsHold s.slots (length s.heads) s.counters.nodemark = grind (arith, common_steps) in
    let marks : MarksHold s.slots s.links s.owners s.counters = grind (arith, common_steps) in
    decides_from
    c.ports_hold.ensures
    (λ ports. found_sound s (record { marks = marks; slots = slots; chain = chain; tiled = tiled; ports = ports }))
    (λ h. (sound_found s h).ports)

pub returns-else-tiled : goal.returns-else-tiled
returns-else-tiled c =
    let a = c.args in
    let s = store_seen a.view a.counters in
    let found : Decides c.if-free_chain_holds.value (Found s) = grind (arith, common_steps) in
    decides_from found (found_sound s) (sound_found s)
