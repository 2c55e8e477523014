-- What is known of a resize that is answered by done: the step is live, nothing refuses the change, and how many records it writes.
use Prim.Native.Nat.{ℕ, ◌-◌, ◌/◌, ◌≤◌, ◌<◌}
use mathlib.Core.Path.{◌≡◌, refl, sym, ◌∙◌}
use mathlib.Core.Bool.{Bool, true, false, true≢false, false≢true}
use mathlib.Core.List.{List}
use native.Mathlib.Omega.{arith}
use lib.ListN.{length}
use lib.Dec.{ltb}
use borrow.Author.Tests.{ltb-true, ltb-false}
use Rattle.slabs.specs.Choice.{pick}
use Rattle.slabs.specs.NodeEntry.{node_entry}
use Rattle.slabs.specs.Slab.{at_hand}
use Rattle.slabs.specs.declared.counters.Counters.{Counters}
use Rattle.slabs.specs.declared.node_entry.NodeEntry.{NodeEntry}
use Rattle.slabs.specs.declared.node_entry.NodeEntry.TheVariants.{Free, Node}
use Rattle.slabs.specs.declared.node_entry.NodeMeta.{NodeMeta}
use Rattle.edits.specs.Store.{Store, node_at, on_node}
use Rattle.edits.specs.Steps.{most}
use Rattle.edits.specs.Answer.{is_done, Answer, done}
use Rattle.edits.specs.declared.answer.Refusal.TheVariants.{NoNode, TooManyPorts, SlabTooLarge, NoSlab, LogFull}
use Rattle.std.specs.Prelude.{Err}
use Rattle.renumber.specs.Records.{record_width}
use Rattle.renumber.specs.Resize.{is_idle, is_in_place, new_size, records_needed, log_answer, change_answer, resize_answer}
use Rattle.renumber.specs.Room.{LogFits, CanChange}
use Rattle.renumber.specs.declared.log.LogPlace.{LogPlace}
use Rattle.renumber.specs.declared.resize.Change.{Change}

-- A live slot that a number stands for is below the mark.
pub node_at_live : (slots : List ℕ) (mark k : ℕ) (m : NodeMeta) → node_at slots mark k ≡ Node m → (k < mark) × (node_entry slots k ≡ Node m)
unfolding node_at
node_at_live slots mark k m h = go (ltb k mark) refl h
  where
    go : (t : Bool) → ltb k mark ≡ t → pick t (node_entry slots k) (Free 0 0) ≡ Node m → (k < mark) × (node_entry slots k ≡ Node m)
    go true e h = (ltb-true k mark e, h)
    go false e h = absurd (let z : ◌≡◌ {A = ℕ} 0 1 = cc in omega arith)

-- What a change has where the answer is done, and what the answer says: how many records it writes.
pub record Granted (room : ℕ) (heads : List ℕ) (mark left : ℕ) (ch : Change) : Type 0 where
  pub enough : records_needed ch ≤ left
  pub sized : is_in_place ch ≡ false → new_size ch ≤ length heads
  pub slab : is_in_place ch ≡ false → at_hand heads mark room (new_size ch) ≡ true
  pub answer : change_answer room heads mark left ch ≡ done (records_needed ch) 0 0

-- Where the log does not refuse, enough records remain, and the answer says how many are written.
log_done : (left : ℕ) (ch : Change) → is_done (log_answer left ch) ≡ true
    → (records_needed ch ≤ left) × (log_answer left ch ≡ done (records_needed ch) 0 0)
unfolding log_answer
log_done left ch d = go (ltb left (records_needed ch)) refl d
  where
    go : (t : Bool) → ltb left (records_needed ch) ≡ t → is_done (pick t (Err LogFull) (done (records_needed ch) 0 0)) ≡ true
        → (records_needed ch ≤ left) × (pick t (Err LogFull) (done (records_needed ch) 0 0) ≡ done (records_needed ch) 0 0)
    go true e d = absurd (false≢true d)
    go false e d = (ltb-false left (records_needed ch) e, refl)

-- A change of the counts that is answered by done is granted.
pub change_granted : (room : ℕ) (heads : List ℕ) (mark left : ℕ) (ch : Change) → is_idle ch ≡ false
    → is_done (change_answer room heads mark left ch) ≡ true → Granted room heads mark left ch
unfolding change_answer
change_granted room heads mark left ch idle d = at_place (is_in_place ch) refl (rw idle at d)
  where
    at_slab : (t : Bool) → is_in_place ch ≡ false → ltb (length heads) (new_size ch) ≡ false → at_hand heads mark room (new_size ch) ≡ t
        → is_done (pick t (log_answer left ch) (Err NoSlab)) ≡ true → Granted room heads mark left ch
    at_slab true p z e d =
        record { enough = (log_done left ch d).0; sized = λ f. ltb-false _ _ z; slab = λ f. e; answer = rw (idle, p, z, e) (log_done left ch d).1 }
    at_slab false p z e d = absurd (false≢true d)

    at_size : (t : Bool) → is_in_place ch ≡ false → ltb (length heads) (new_size ch) ≡ t
        → is_done (pick t (Err SlabTooLarge) (pick (at_hand heads mark room (new_size ch)) (log_answer left ch) (Err NoSlab))) ≡ true → Granted room heads mark left ch
    at_size true p e d = absurd (false≢true d)
    at_size false p e d = at_slab (at_hand heads mark room (new_size ch)) p e refl d

    at_place : (t : Bool) → is_in_place ch ≡ t
        → is_done (pick t (log_answer left ch) (pick (ltb (length heads) (new_size ch)) (Err SlabTooLarge) (pick (at_hand heads mark room (new_size ch)) (log_answer left ch) (Err NoSlab)))) ≡ true
        → Granted room heads mark left ch
    at_place true e d =
        record { enough = (log_done left ch d).0; sized = λ f. absurd (true≢false (sym e ∙ f)); slab = λ f. absurd (true≢false (sym e ∙ f)); answer = rw (idle, e) (log_done left ch d).1 }
    at_place false e d = at_size (ltb (length heads) (new_size ch)) e refl d

-- So nothing refuses it.
pub change_done : (s : Store) (log : List ℕ) (to : LogPlace) (ch : Change) → LogFits log to → ch.node < s.counters.nodemark
    → node_entry s.slots ch.node ≡ Node ch.meta → ch.inlets ≤ most → ch.outlets ≤ most → is_idle ch ≡ false
    → is_done (change_answer (length s.links) s.heads s.counters.portmark (length log / record_width - to.at) ch) ≡ true
    → CanChange s log to ch
change_done s log to ch fits below is few_inlets few_outlets idle d =
    let g : Granted (length s.links) s.heads s.counters.portmark (length log / record_width - to.at) ch = change_granted _ _ _ _ ch idle d in
    record { below = below; is = is; few_inlets = few_inlets; few_outlets = few_outlets; recorded = (omega arith, fits.few_records); sized = g.sized; slab = g.slab }

-- And the answer says how many records it writes.
pub change_says : (room : ℕ) (heads : List ℕ) (mark left : ℕ) (ch : Change) → is_idle ch ≡ false
    → is_done (change_answer room heads mark left ch) ≡ true → change_answer room heads mark left ch ≡ done (records_needed ch) 0 0
change_says room heads mark left ch idle d = (change_granted room heads mark left ch idle d).answer

-- A change that is none is answered by done, with no record.
pub change_idle : (room : ℕ) (heads : List ℕ) (mark left : ℕ) (ch : Change) → is_idle ch ≡ true → change_answer room heads mark left ch ≡ done 0 0 0
unfolding change_answer
change_idle room heads mark left ch idle = rw idle

-- What a resize has where the answer is done: a live step and counts that a step may have, and the answer is the change's.
pub record Resizes (slots : List ℕ) (room : ℕ) (heads : List ℕ) (c : Counters) (left node inlets outlets : ℕ) : Type 0 where
  pub meta : NodeMeta
  pub below : node < c.nodemark
  pub is : node_entry slots node ≡ Node meta
  pub few_inlets : inlets ≤ most
  pub few_outlets : outlets ≤ most
  pub answer : resize_answer slots room heads c left node inlets outlets ≡ change_answer room heads c.portmark left (record { node = node; meta = meta; inlets = inlets; outlets = outlets })

-- the answer by what the slot says
abbrev on_entry : ℕ → List ℕ → Counters → ℕ → ℕ → ℕ → ℕ → NodeEntry → Answer
on_entry room heads c left node inlets outlets entry =
    on_node entry (λ m. change_answer room heads c.portmark left (record { node = node; meta = m; inlets = inlets; outlets = outlets })) (Err (NoNode node))

-- So it is where the answer is done.
pub resize_done : (slots : List ℕ) (room : ℕ) (heads : List ℕ) (c : Counters) (left node inlets outlets : ℕ)
    → is_done (resize_answer slots room heads c left node inlets outlets) ≡ true → Resizes slots room heads c left node inlets outlets
unfolding resize_answer
resize_done slots room heads c left node inlets outlets d = at_inlets (ltb most inlets) refl d
  where
    at_node : (entry : NodeEntry) → node_at slots c.nodemark node ≡ entry → ltb most inlets ≡ false → ltb most outlets ≡ false
        → is_done (on_entry room heads c left node inlets outlets entry) ≡ true → Resizes slots room heads c left node inlets outlets
    at_node (Node m) e i o d = record {
      meta = m;
      below = (node_at_live slots c.nodemark node m e).0;
      is = (node_at_live slots c.nodemark node m e).1;
      few_inlets = ltb-false most inlets i;
      few_outlets = ltb-false most outlets o;
      answer = rw (i, o, e);
    }
    at_node (Free previous next) e i o d = absurd (false≢true d)

    at_outlets : (t : Bool) → ltb most inlets ≡ false → ltb most outlets ≡ t
        → is_done (pick t (Err TooManyPorts) (on_entry room heads c left node inlets outlets (node_at slots c.nodemark node))) ≡ true → Resizes slots room heads c left node inlets outlets
    at_outlets true i e d = absurd (false≢true d)
    at_outlets false i e d = at_node (node_at slots c.nodemark node) refl i e d

    at_inlets : (t : Bool) → ltb most inlets ≡ t
        → is_done (pick t (Err TooManyPorts) (pick (ltb most outlets) (Err TooManyPorts) (on_entry room heads c left node inlets outlets (node_at slots c.nodemark node)))) ≡ true
        → Resizes slots room heads c left node inlets outlets
    at_inlets true e d = absurd (false≢true d)
    at_inlets false e d = at_outlets (ltb most outlets) e refl d
