-- What is known of a call that is answered with done.
use Prim.Native.Nat.{ℕ, ◌<◌}
use mathlib.Core.Path.{◌≡◌, ap}
use mathlib.Core.List.{List}
use native.Mathlib.Omega.{arith}
use lib.ListN.{length}
use Rattle.std.specs.Prelude.{Ok}
use Rattle.slabs.specs.declared.counters.Counters.{Counters}
use Rattle.edits.specs.Store.{store_of}
use Rattle.edits.specs.Answer.{is_done}
use Rattle.edits.specs.Fit.{Fit, CanAdd}
use Rattle.edits.specs.Steps.{add_answer}
use Rattle.edits.specs.Linking.{link_answer, unlink_answer}
use Rattle.edits.specs.Swap.{swap_answer}
use Rattle.edits.proofs.AnswerLaws.{add_done}
use Rattle.edits.proofs.StoreLaws.{port_below}

-- An add can be done.
pub can_add : {slots links owners heads : List ℕ} {c : Counters} {inlets outlets : ℕ} {values : ℕ × ℕ × ℕ} → Fit (store_of slots links owners heads c)
    → add_answer slots (length links) heads c inlets outlets ≡ Ok values → CanAdd (store_of slots links owners heads c) inlets outlets
can_add {slots} {links} {owners} {heads} {c} {inlets} {outlets} fit d = add_done (store_of slots links owners heads c) inlets outlets (ap is_done d)

-- Both ends of a wire that is made stand below the mark.
pub link_done : (owners links : List ℕ) (mark a b : ℕ) {values : ℕ × ℕ × ℕ} → link_answer owners links mark a b ≡ Ok values → (a < mark) × (b < mark)
unfolding link_answer
link_done owners links mark a b d = grind (arith, port_below)

-- So does the port whose wire is cut.
pub unlink_done : (owners links : List ℕ) (mark port : ℕ) {values : ℕ × ℕ × ℕ} → unlink_answer owners links mark port ≡ Ok values → port < mark
unfolding unlink_answer
unlink_done owners links mark port d = grind (arith, port_below)

-- A swap is of two slots below the mark.
pub swap_done : (mark a b : ℕ) {values : ℕ × ℕ × ℕ} → swap_answer mark a b ≡ Ok values → (a < mark) × (b < mark)
unfolding swap_answer
swap_done mark a b d = grind arith
