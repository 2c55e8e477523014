-- No call answers 11 over a sound store: the slot that a live port's owner word names is live.
use Prim.Native.Nat.{ℕ}
use mathlib.Core.Path.{◌≡◌, refl, ap, sym, ◌∙◌}
use mathlib.Core.List.{List}
use mathlib.Core.Bool.{Bool, true, false}
use borrow.Author.Tests.{lt-ltb}
use Rattle.slabs.specs.Choice.{pick}
use Rattle.slabs.specs.declared.node_entry.NodeMeta.{NodeMeta}
use Rattle.slabs.specs.declared.node_entry.NodeEntry.{NodeEntry}
use Rattle.slabs.specs.declared.node_entry.NodeEntry.TheVariants as node
use Rattle.slabs.specs.PortEntry.{direction_word}
use Rattle.slabs.specs.declared.port_entry.PortMeta.{PortMeta}
use Rattle.edits.specs.Store.{Store, node_at, port_at, on_node, on_port, on_link}
use Rattle.edits.specs.Questions.{ask_node, offset_in, ask_port, ask_offset, ask_link}
use Rattle.edits.specs.Linking.{link_answer, unlink_answer}
use Rattle.edits.specs.Steps.{add_answer, remove_answer}
use Rattle.edits.specs.Swap.{swap_answer}
use Rattle.edits.specs.Answer.{Answer, done}
use Rattle.edits.specs.declared.answer.Refusal.TheVariants.{NoNode, NoPort, TooManyPorts, SlabTooLarge, NoSlot, NoSlab, LogFull, SameDirection, AlreadyLinked, NoSuchCall, OwnerNotLive, NotLinked}
use Rattle.std.specs.Prelude.{Option, Some, None, Ok, Err}
use Rattle.renumber.specs.Records.{Rec}
use Rattle.renumber.specs.Resize.{is_idle, log_answer, change_answer, resize_answer}
use Rattle.renumber.specs.Compact.{compact_answer}
use Rattle.renumber.specs.declared.resize.Change.{Change}
use Rattle.calls.specs.Call.{After, decided, add_call, remove_call, change_call, resize_call, link_call, unlink_call, swap_call, compact_nodes_call, compact_ports_call, question, call_of}
use Rattle.calls.specs.declared.Call.{Call}
use Rattle.sound.specs.Sound.{Shaped, Sound}
use Rattle.sound.proofs.Fits.{OwnerOf, live_owner, owner_names}
use Rattle.sound.proofs.Kept.{pick_both, pick_same, node_both, node_same, each_call, decided_answer, false_true}
use Rattle.sound.proofs.Wires.{port_live}

-- the answer whose code is 11
abbrev is_eleven : Answer → Bool
is_eleven (Ok values) = false
is_eleven (Err (NoNode n)) = false
is_eleven (Err (NoPort p)) = false
is_eleven (Err TooManyPorts) = false
is_eleven (Err SlabTooLarge) = false
is_eleven (Err NoSlot) = false
is_eleven (Err NoSlab) = false
is_eleven (Err LogFull) = false
is_eleven (Err (SameDirection a b d)) = false
is_eleven (Err (AlreadyLinked p)) = false
is_eleven (Err NoSuchCall) = false
is_eleven (Err OwnerNotLive) = true
is_eleven (Err (NotLinked p)) = false

-- It goes through each choice of a definition.
eleven_pick : (t : Bool) (a b : Answer) → is_eleven (pick t a b) ≡ pick t (is_eleven a) (is_eleven b)
eleven_pick true a b = refl
eleven_pick false a b = refl

eleven_node : (e : NodeEntry) (live : NodeMeta → Answer) (other : Answer)
    → is_eleven (on_node e live other) ≡ on_node e (λ m. is_eleven (live m)) (is_eleven other)
eleven_node (node.Node m) live other = refl
eleven_node (node.Free previous next) live other = refl

eleven_port : (e : Option PortMeta) (live : PortMeta → Answer) (other : Answer)
    → is_eleven (on_port e live other) ≡ on_port e (λ m. is_eleven (live m)) (is_eleven other)
eleven_port (Some m) live other = refl
eleven_port None live other = refl

eleven_link : (e : Option ℕ) (wired : ℕ → Answer) (other : Answer)
    → is_eleven (on_link e wired other) ≡ on_link e (λ p. is_eleven (wired p)) (is_eleven other)
eleven_link (Some p) wired other = refl
eleven_link None wired other = refl

port_same : {A : Type 0} (e : Option PortMeta) (a : A) → on_port e (λ m. a) a ≡ a
port_same (Some m) a = refl
port_same None a = refl

link_same : {A : Type 0} (e : Option ℕ) (a : A) → on_link e (λ p. a) a ≡ a
link_same (Some p) a = refl
link_same None a = refl

ruleset choices = (eleven_pick, eleven_node, eleven_port, eleven_link, pick_same, node_same, port_same, link_same)

-- No other answer is it.
not_eleven : {answer : Answer} → is_eleven answer ≡ false → answer ≡ (Err OwnerNotLive) → ⊥
not_eleven e is = false_true (sym e ∙ ap is_eleven is)

-- A question about a live port finds its step live.
port_eleven : (s : Store) → Shaped s → Sound s → (p : ℕ) → is_eleven (ask_port s.slots s.owners s.counters p) ≡ false
unfolding ask_port node_at
port_eleven s shaped sound p = go (port_at s.owners s.counters.portmark p) refl
  where
    go : (here : Option PortMeta) → port_at s.owners s.counters.portmark p ≡ here
        → is_eleven (on_port here (λ port. on_node (node_at s.slots s.counters.nodemark port.node) (λ m. done port.node (direction_word port.direction) (offset_in m (direction_word port.direction) p)) (Err OwnerNotLive)) (Err (NoPort p))) ≡ false
    go (Some port) is =
        let (below, live, names, faces) = port_live s.owners s.counters.portmark p port is in
        let o : OwnerOf s p = live_owner s sound p live in
        let it : port.node ≡ o.node = names ∙ owner_names s shaped sound p o in
        rw (it, lt-ltb o.node s.counters.nodemark o.below, o.is)
    go None is = refl

-- So the answer is never that the owner is not live.
pub no_owner_not_live : (s : Store) → Shaped s → Sound s → (port : ℕ) → ask_port s.slots s.owners s.counters port ≡ (Err OwnerNotLive) → ⊥
no_owner_not_live s shaped sound port = not_eleven (port_eleven s shaped sound port)

-- A call's answer is not it where what decides the call is not.
decided_eleven : (answer : Answer) (before after : Store) (rs : List Rec) → is_eleven answer ≡ false
    → is_eleven (decided answer before after rs).answer ≡ false
decided_eleven answer before after rs e = rw (decided_answer answer before after rs) e

call_eleven : (s : Store) → Shaped s → Sound s → (left : ℕ) (call : Call) → is_eleven (call_of s left call).answer ≡ false
unfolding add_call remove_call change_call resize_call link_call unlink_call swap_call compact_nodes_call compact_ports_call question add_answer remove_answer resize_answer change_answer log_answer link_answer unlink_answer swap_answer compact_answer ask_node ask_offset ask_link
call_eleven s shaped sound left call =
    each_call
    Other
    s
    left
    call
    (record {
      clear = refl;
      add = decided_eleven _ s _ _ (simp choices);
      remove = decided_eleven _ s _ _ (simp choices);
      resize =
          node_both Other (node_at s.slots s.counters.nodemark call.a) _ _
          (λ m. let ch : Change = record { node = call.a; meta = m; inlets = call.b; outlets = call.c } in
          pick_both Other (is_idle ch) _ _ (decided_eleven _ s _ _ (simp choices)) (decided_eleven _ s _ _ (simp choices)))
          (decided_eleven _ s _ _ (simp choices));
      link = decided_eleven _ s _ _ (simp choices);
      unlink = decided_eleven _ s _ _ (simp choices);
      swap = decided_eleven _ s _ _ (simp choices);
      compact_nodes = decided_eleven _ s _ _ (simp choices);
      compact_ports = decided_eleven _ s _ _ (simp choices);
      asks = simp (choices, port_eleven s shaped sound call.a);
    })
  where
    Other : After → Type 0
    Other after = is_eleven after.answer ≡ false

-- No call from a sound store answers with code 11.
pub code_eleven : (s : Store) → Shaped s → Sound s → (left : ℕ) (call : Call) → (call_of s left call).answer ≡ (Err OwnerNotLive) → ⊥
code_eleven s shaped sound left call = not_eleven (call_eleven s shaped sound left call)
