-- `held_words_hold` decides the owner words and spare links of a live slot's slab: each test decides one part of them.
use Prim.Native.Nat.{ℕ, ◌+◌, ◌-◌, ◌≤◌, ◌<◌}
use mathlib.Core.Path.{◌≡◌}
use mathlib.Core.List.{List}
use native.Mathlib.Omega.{arith}
use lib.ListN.{get_or}
use Rattle.std.proofs.lemmas.Grind.{common_steps}
use Rattle.slabs.specs.declared.node_entry.NodeMeta.{NodeMeta}
use Rattle.sound.specs.Sound.{Owned}
use Rattle.audit.specs.Parts.{RunIs}
use Rattle.audit.proofs.ports.held_words_hold.Goals as goal

-- the spare ports of a slab are a run
spare_run : (owners : List ℕ) (node : ℕ) (m : NodeMeta) → Owned owners node m
    → RunIs owners (m.first + (m.inlets + m.outlets)) (m.capacity - (m.inlets + m.outlets)) 0
spare_run owners node m h i l =
    let e : m.first + (m.inlets + m.outlets) + i ≡ m.first + (m.inlets + m.outlets + i) = omega arith in
    rw e (h.spare_unowned (m.inlets + m.outlets + i) (omega arith) (omega arith))

run_spare : (owners : List ℕ) (m : NodeMeta)
    → RunIs owners (m.first + (m.inlets + m.outlets)) (m.capacity - (m.inlets + m.outlets)) 0
    → (i : ℕ) → m.inlets + m.outlets ≤ i → i < m.capacity → get_or owners (m.first + i) 0 ≡ 0
run_spare owners m h i l u =
    let e : m.first + i ≡ m.first + (m.inlets + m.outlets) + (i - (m.inlets + m.outlets)) = omega arith in
    rw e (h (i - (m.inlets + m.outlets)) (omega arith))

pub returns-then-run_is-3 : goal.returns-then-run_is-3
returns-then-run_is-3 c = grind (arith, common_steps, spare_run, run_spare)

pub returns-else-run_is-3 : goal.returns-else-run_is-3
returns-else-run_is-3 c = grind (arith, common_steps, spare_run, run_spare)
