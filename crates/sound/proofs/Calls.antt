-- That every call keeps a store sound, from what each of the ten leaves.
use Prim.Native.Nat.{ℕ}
use Rattle.edits.specs.Store.{Store}
use Rattle.calls.specs.Call.{After, call_of}
use Rattle.calls.specs.declared.Call.{Call}
use Rattle.sound.specs.Sound.{Shaped, Sound}
use Rattle.sound.proofs.Kept.{each_call, clear_sound}
use Rattle.sound.proofs.Wires.{link_sound, unlink_sound}
use Rattle.sound.proofs.Add.{add_sound}
use Rattle.sound.proofs.Remove.{remove_sound}
use Rattle.sound.proofs.Swap.{swap_sound}
use Rattle.sound.proofs.Resize.{resize_sound}
use Rattle.sound.proofs.CompactNodes.{compact_nodes_sound}
use Rattle.sound.proofs.CompactPorts.{compact_ports_sound}

-- Every call keeps a sound store of well-shaped tables sound.
pub call_sound : (s : Store) → Shaped s → Sound s → (left : ℕ) (call : Call) → Sound (call_of s left call).store
call_sound s shaped sound left call =
    each_call (λ (after : After). Sound after.store) s left call
    record {
      clear = clear_sound s;
      add = add_sound s shaped sound call.a call.b;
      remove = remove_sound s shaped sound call.a;
      resize = resize_sound s shaped sound left call.a call.b call.c;
      link = link_sound s shaped sound call.a call.b;
      unlink = unlink_sound s shaped sound call.a;
      swap = swap_sound s shaped sound call.a call.b;
      compact_nodes = compact_nodes_sound s shaped sound left;
      compact_ports = compact_ports_sound s shaped sound left;
      asks = sound;
    }
