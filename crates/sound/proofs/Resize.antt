-- Resize, call 3, keeps a sound store: refused and unchanged, in place, and into a new slab.
use Prim.Native.Nat.{ℕ}
use mathlib.Core.List.{[]}
use mathlib.Core.Path.{◌≡◌, refl}
use mathlib.Core.Bool.{Bool, true, false}
use lib.ListN.{length}
use lib.Dec.{ltb}
use borrow.Author.Tests.{ltb-false}
use Rattle.slabs.specs.Choice.{pick}
use Rattle.slabs.specs.Slab.{at_hand}
use Rattle.slabs.specs.declared.node_entry.NodeMeta.{NodeMeta}
use Rattle.slabs.specs.declared.node_entry.NodeEntry.{NodeEntry}
use Rattle.slabs.specs.declared.node_entry.NodeEntry.TheVariants.{Free, Node}
use Rattle.edits.specs.Store.{Store, node_at, on_node}
use Rattle.edits.specs.Answer.{is_done, Answer}
use Rattle.edits.specs.Steps.{most}
use Rattle.edits.specs.declared.answer.Refusal.TheVariants.{NoNode, TooManyPorts, SlabTooLarge, NoSlab}
use Rattle.std.specs.Prelude.{Err}
use Rattle.renumber.specs.Resize.{is_idle, is_in_place, new_size, log_answer, change_answer, resize_answer, resized, resize_records}
use Rattle.renumber.specs.declared.resize.Change.{Change}
use Rattle.calls.specs.Call.{decided, change_call, resize_call}
use Rattle.sound.specs.Sound.{Shaped, Sound}
use Rattle.sound.proofs.Parts.{Parts, parts_of, sound_of}
use Rattle.sound.proofs.Kept.{decided_store, done_past, done_by}
use Rattle.sound.proofs.Changes.{Granted}
use Rattle.sound.proofs.InPlace.{in_place_fits, in_place_parts}
use Rattle.sound.proofs.Reallocate.{into_parts}
use Rattle.sound.proofs.SlotLaws.{node_at_live}

-- A step that changes, in place or into a new slab, leaves the parts of a sound store.
pub resized_parts : (s : Store) → Parts s → (ch : Change) → Granted s ch → Parts (resized s ch)
unfolding resized
resized_parts s P ch can = go (is_in_place ch) refl
  where
    go : (t : Bool) → is_in_place ch ≡ t → Parts (resized s ch)
    go true e = rw e (in_place_parts s P ch can (in_place_fits ch e).1)
    go false e = rw e (into_parts s P ch can e)

-- What a resize that is done may count on.
pub resize_granted : (s : Store) (left : ℕ) (ch : Change) → node_at s.slots s.counters.nodemark ch.node ≡ Node ch.meta → is_idle ch ≡ false
    → is_done (resize_answer s.slots (length s.links) s.heads s.counters left ch.node ch.inlets ch.outlets) ≡ true
    → Granted s ch
unfolding resize_answer change_answer
resize_granted s left ch is busy done =
    let few-in = done_past (ltb most ch.inlets) (Err TooManyPorts) (pick (ltb most ch.outlets) (Err TooManyPorts) live) refl done in
    let few-out = done_past (ltb most ch.outlets) (Err TooManyPorts) live refl few-in.1 in
    let changes : is_done change ≡ true = rw is at few-out.1 in
    let (below, entry) = node_at_live s.slots s.counters.nodemark ch.node ch.meta is in
    record {
      below = below;
      is = entry;
      few_inlets = ltb-false most ch.inlets few-in.0;
      few_outlets = ltb-false most ch.outlets few-out.0;
      sized = λ away. ltb-false (length s.heads) (new_size ch) (large (rw (busy, away) at changes)).0;
      slab = λ away.
          (done_by (at_hand s.heads s.counters.portmark (length s.links) (new_size ch)) (log_answer left ch) (Err NoSlab) refl
          (large (rw (busy, away) at changes)).1).0;
    }
  where
    change : Answer
    change = change_answer (length s.links) s.heads s.counters.portmark left ch

    live : Answer
    live =
        on_node (node_at s.slots s.counters.nodemark ch.node)
        (λ m. change_answer (length s.links) s.heads s.counters.portmark left (record { node = ch.node; meta = m; inlets = ch.inlets; outlets = ch.outlets }))
        (Err (NoNode ch.node))

    into : Answer
    into = pick (at_hand s.heads s.counters.portmark (length s.links) (new_size ch)) (log_answer left ch) (Err NoSlab)

    large : is_done (pick (ltb (length s.heads) (new_size ch)) (Err SlabTooLarge) into) ≡ true → (ltb (length s.heads) (new_size ch) ≡ false) × (is_done into ≡ true)
    large e = done_past (ltb (length s.heads) (new_size ch)) (Err SlabTooLarge) into refl e

-- Resize keeps a sound store.
pub resize_sound : (s : Store) → Shaped s → Sound s → (left node inlets outlets : ℕ) → Sound (resize_call s left node inlets outlets).store
unfolding resize_call change_call
resize_sound s shaped sound left node inlets outlets = go (node_at s.slots s.counters.nodemark node) refl
  where
    answer : Answer
    answer = resize_answer s.slots (length s.links) s.heads s.counters left node inlets outlets

    change : NodeMeta → Change
    change m = record { node = node; meta = m; inlets = inlets; outlets = outlets }

    go : (e : NodeEntry) → node_at s.slots s.counters.nodemark node ≡ e
        → Sound (on_node e (λ m. change_call s (change m) answer) (decided answer s s [])).store
    go (Free previous next) is = decided_store answer s s [] Sound sound (λ d. sound)
    go (Node m) is = by (is_idle (change m)) refl
      where
        by : (t : Bool) → is_idle (change m) ≡ t
            → Sound (pick t (decided answer s s []) (decided answer s (resized s (change m)) (resize_records s (change m)))).store
        by true e = decided_store answer s s [] Sound sound (λ d. sound)
        by false e =
            decided_store answer s (resized s (change m)) (resize_records s (change m)) Sound sound
            (λ d. sound_of (resized s (change m)) (resized_parts s (parts_of s shaped sound) (change m) (resize_granted s left (change m) is e d)))
