use Prim.Native.Nat.{ℕ, ◌+◌}
use mathlib.Core.Path.{◌≡◌, refl, sym, ◌∙◌}
use mathlib.Core.List.{List}
use native.Mathlib.Omega.{arith}
use native.Mathlib.Numerals.{add-one}
use borrow.Author.Count.{below_none, below_more}
use Rattle.slabs.specs.PortEntry.{Live}
use Rattle.slabs.specs.Links as wires
use Rattle.slabs.specs.Sums.{sum}
use Rattle.slabs.proofs.EntryLaws.{direction_le}
use lib.ListN.{get_or}
use Rattle.edits.specs.Counts.{some, live_ports}
use Rattle.audit.specs.Parts.{MateHolds}
use Rattle.audit.proofs.DecideLaws.{decided_not, decides_from, decides_eq}
use Rattle.audit.proofs.CountLaws.{some_none, some_one, live_ports_suc, outlet_free, outlet_loose, outlet_wired, pairs_suc, pairs_le}
use Rattle.edits.proofs.CountLaws.{live_ports_le}
use Rattle.audit.proofs.PortLaws.{word_free, word_port}
use Rattle.audit.proofs.ports.ports_hold.Invariants.{Looked}
use Rattle.audit.proofs.ports.ports_hold.Goals as goal
use Rattle.audit.proofs.ports.ports_hold.Goals.{in-Some+else-not-mate_holds+then-links-port-ne0, in-Some+else-not-mate_holds+else-links-port-ne0, in_default}

-- one port more
module _ (links owners : List ℕ) (ports pairs p : ℕ) (looked : Looked links owners ports pairs p) where
  look : (ports' pairs' : ℕ) → (Live owners p → MateHolds links owners p) → ports' ≡ ports + some (get_or owners p 0)
      → pairs' ≡ pairs + wires.wired_outlet (get_or owners p 0) (get_or links p 0)
      → Looked links owners ports' pairs' (p + 1)
  look ports' pairs' mate live wired =
      record {
        mated = below_more _ _ looked.mated mate;
        live = rw (add-one, live_ports_suc) (omega (arith, looked.live));
        wired = rw (add-one, pairs_suc) (omega (arith, looked.wired));
      }

pub loop-port-init : goal.loop-port-init
unfolding live_ports wires.pairs sum
loop-port-init c = record { mated = below_none _; live = refl; wired = refl }

pub mate_holds-requires : goal.mate_holds-requires
mate_holds-requires c =
    let said = word_port _ _ (sym c.port_entry.ensures ∙ c.in-Some.is) in
    (c.requires.2, c.loop-port-test.true, said.0, said.1, c.requires.3)

pub returns-then-not-mate_holds : goal.returns-then-not-mate_holds
returns-then-not-mate_holds c =
    let said = word_port _ _ (sym c.port_entry.ensures ∙ c.in-Some.is) in
    decided_not (λ h. c.mate_holds.ensures.not_so c.if-not-mate_holds.true (h.mates _ c.loop-port-test.true said.0))

pub overflow_add-ports : goal.overflow_add-ports
overflow_add-ports c =
    let l = c.loop-port in
    omega (arith, live_ports_le c.args.owners.now l.port, l.invariant.live, c.requires.2)

pub overflow_add-pairs : goal.overflow_add-pairs
overflow_add-pairs c =
    let l = c.loop-port in
    let said = word_port _ _ (sym c.port_entry.ensures ∙ c.in-Some.is) in
    omega (arith, pairs_le c.args.owners.now c.args.links.now l.port, l.invariant.wired, c.requires.2, said.1, direction_le (get_or c.args.owners.now l.port 0))

pub loop-port-preserved : goal.loop-port-preserved
loop-port-preserved c =
    let l = c.loop-port in
    let links = c.args.links.now in
    let owners = c.args.owners.now in
    let more = look links owners l.ports l.pairs l.port l.invariant c.match-port_entry.ports c.match-port_entry.pairs in
    let entry = sym c.port_entry.ensures in
    elim c.match-port_entry.branch [
      | in-Some+else-not-mate_holds+then-links-port-ne0 w ↦
          let said = word_port _ _ (entry ∙ w.in-Some.is) in
          more (λ h. w.mate_holds.ensures.so w.if-not-mate_holds.false)
          (omega (arith, w.ports-is, some_one (get_or owners l.port 0) said.0))
          (omega (arith, w.pairs-is, said.1, outlet_wired (get_or owners l.port 0) (get_or links l.port 0) said.0 w.if-links-port-ne0.true))
      | in-Some+else-not-mate_holds+else-links-port-ne0 w ↦
          let said = word_port _ _ (entry ∙ w.in-Some.is) in
          more (λ h. w.mate_holds.ensures.so w.if-not-mate_holds.false)
          (omega (arith, w.ports-is, some_one (get_or owners l.port 0) said.0))
          (omega (arith, w.pairs-is, outlet_loose (get_or owners l.port 0) (get_or links l.port 0) w.if-links-port-ne0.false))
      | in_default w ↦
          let none = word_free _ (entry ∙ w.in_default.is) in
          more (λ h. absurd (h none))
          (omega (arith, w.ports-is, some_none (get_or owners l.port 0) none))
          (omega (arith, w.pairs-is, outlet_free (get_or owners l.port 0) (get_or links l.port 0) none))
    ]

pub returns-then-counters-ports : goal.returns-then-counters-ports
returns-then-counters-ports c =
    let l = c.loop-port in
    let e : l.port ≡ c.args.counters.portmark = omega arith in
    decides_from (decides_eq _ _)
    (λ z. record { mates = rw (← e) l.invariant.mated; true_ports = c.if-counters-ports.true ∙ rw (← e) l.invariant.live; true_links = z ∙ rw (← e) l.invariant.wired })
    (λ h. h.true_links ∙ rw (← e) (sym l.invariant.wired))
