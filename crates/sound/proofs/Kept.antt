-- How a call goes, by its number and by whether it is done or refused; and stores that are sound for small reasons: a store of zeros,
-- what Clear leaves, and what a refused call leaves.
use Prim.Native.Nat.{ℕ, ◌<◌}
use mathlib.Core.Path.{◌≡◌, refl, ap, sym, ◌∙◌}
use mathlib.Core.List.{List, []}
use mathlib.Core.Bool.{Bool, true, false}
use native.Mathlib.Nat.{zero-add}
use native.Mathlib.Omega.{arith}
use native.Mathlib.Decide.{dec_lt}
use lib.ListN.{length, get_or, get_or-eq_default}
use lib.Dec.{eqb}
use borrow.Author.Tests.{le-ltb}
use Rattle.slabs.specs.Choice.{pick}
use Rattle.slabs.specs.Sums.{sum_of}
use Rattle.slabs.specs.Counters.{none_counted}
use Rattle.slabs.specs.Links.{pairs}
use Rattle.slabs.specs.Slab.{filled}
use Rattle.slabs.specs.Slabs.{free_at}
use Rattle.slabs.specs.declared.node_entry.NodeMeta.{NodeMeta}
use Rattle.slabs.specs.declared.node_entry.NodeEntry.{NodeEntry}
use Rattle.slabs.specs.declared.node_entry.NodeEntry.TheVariants.{Free, Node}
use Rattle.slabs.proofs.Shapes.{filled-length}
use Rattle.slabs.proofs.FillLaws.{filled_in}
use Rattle.slabs.proofs.SumLaws.{sum_zero}
use Rattle.edits.specs.Store.{Store, on_node}
use Rattle.edits.specs.Counts.{live_slots, live_ports}
use Rattle.edits.specs.Clear.{cleared}
use Rattle.edits.specs.Answer.{is_done, Answer}
use Rattle.renumber.specs.Records.{Rec}
use Rattle.calls.specs.Call.{After, decided, clear_call, add_call, remove_call, resize_call, link_call, unlink_call, swap_call, compact_nodes_call, compact_ports_call, question, call_of}
use Rattle.calls.specs.declared.Call.{Call}
use Rattle.sound.specs.Sound.{Sound, free_slots, held_at, held_in}

-- The two tests' values differ.
pub false_true : false ≡ true → ⊥
false_true e = let z : ◌≡◌ {A = ℕ} 0 1 = cc in omega arith

-- What holds of both values holds of the one that is picked,
pub pick_both : {A : Type 0} (P : A → Type 0) (t : Bool) (a b : A) → P a → P b → P (pick t a b)
pick_both P true a b ha hb = ha
pick_both P false a b ha hb = hb

-- and what holds for a live slot and otherwise holds of what goes by a slot.
pub node_both : {A : Type 0} (P : A → Type 0) (e : NodeEntry) (live : NodeMeta → A) (other : A) → ((m : NodeMeta) → P (live m)) → P other
    → P (on_node e live other)
node_both P (Node m) live other hm ho = hm m
node_both P (Free previous next) live other hm ho = ho

-- A value that is picked either way is that value,
pub pick_same : {A : Type 0} (t : Bool) (a : A) → pick t a a ≡ a
pick_same true a = refl
pick_same false a = refl

-- also by a slot.
pub node_same : {A : Type 0} (e : NodeEntry) (a : A) → on_node e (λ m. a) a ≡ a
node_same (Node m) a = refl
node_same (Free previous next) a = refl

-- something of each call
pub record EachCall (P : After → Type 0) (s : Store) (left : ℕ) (call : Call) : Type 0 where
  pub clear : P (clear_call s)
  pub add : P (add_call s call.a call.b)
  pub remove : P (remove_call s call.a)
  pub resize : P (resize_call s left call.a call.b call.c)
  pub link : P (link_call s call.a call.b)
  pub unlink : P (unlink_call s call.a)
  pub swap : P (swap_call s call.a call.b)
  pub compact_nodes : P (compact_nodes_call s left)
  pub compact_ports : P (compact_ports_call s left)
  pub asks : P (record { answer = question s call; store = s; records = [] })

-- What holds of each call holds of a call, whatever its number.
pub each_call : (P : After → Type 0) (s : Store) (left : ℕ) (call : Call) → EachCall P s left call → P (call_of s left call)
unfolding call_of
each_call P s left call each =
    by 0 each.clear
    (by 1 each.add
    (by 2 each.remove
    (by 3 each.resize
    (by 4 each.link
    (by 5 each.unlink (by 6 each.swap (by 7 each.compact_nodes (by 8 each.compact_ports each.asks))))))))
  where
    by : {a b : After} (n : ℕ) → P a → P b → P (pick (eqb call.n n) a b)
    by {a} {b} n = pick_both P (eqb call.n n) a b

-- A store of zeros is sound.
pub empty_sound : (s : Store) → ((i : ℕ) → get_or s.slots i 0 ≡ 0) → ((p : ℕ) → get_or s.links p 0 ≡ 0)
    → ((p : ℕ) → get_or s.owners p 0 ≡ 0)
    → ((i : ℕ) → get_or s.heads i 0 ≡ 0)
    → s.counters ≡ none_counted → Sound s
unfolding free_slots held_at free_at sum_of live_slots live_ports pairs
empty_sound s slots links owners heads e =
    record {
      marks =
          record {
            nodes_inside = omega (arith, no_nodes);
            ports_inside = omega (arith, no_ports);
            slots_blank = λ i h. slots i;
            links_blank = λ p h. links p;
            owners_blank = λ p h. owners p;
          };
      slots = λ k l. absurd (omega (arith, no_nodes));
      free_chain =
          record {
            chain = [];
            forward = ap (λ c. c.freeslot) e;
            backward = tt;
            each_once = λ k. simp (le-ltb k s.counters.nodemark (omega (arith, no_nodes)));
          };
      tiled =
          record {
            chains = λ i. [];
            chained = λ i l. heads i;
            once = λ p l. absurd (omega (arith, no_ports));
            within = λ p l. omega (arith, unheld p, sum_zero (λ i. 0) (length s.heads) (λ i k. refl));
          };
      owners = record { live = λ k l. absurd (omega (arith, no_nodes)); free = λ p h. owners p };
      links = record { wiring = λ p q h. absurd (omega (arith, unheld p)); loose = λ p h k. links p };
      counted =
          record {
            nodes = ap (λ c. c.nodes) e ∙ sym (sum_zero _ s.counters.nodemark (λ i l. absurd (omega (arith, no_nodes))));
            ports = ap (λ c. c.ports) e ∙ sym (sum_zero _ s.counters.portmark (λ i l. absurd (omega (arith, no_ports))));
            links = ap (λ c. c.links) e ∙ sym (sum_zero _ s.counters.portmark (λ i l. absurd (omega (arith, no_ports))));
          };
    }
  where
    no_nodes : s.counters.nodemark ≡ 0
    no_nodes = ap (λ c. c.nodemark) e

    no_ports : s.counters.portmark ≡ 0
    no_ports = ap (λ c. c.portmark) e

    unheld : (p : ℕ) → held_in s p ≡ 0
    unheld p = sum_zero _ s.counters.nodemark (λ k l. absurd (omega (arith, no_nodes)))

-- A table that is filled with zeros reads 0 everywhere.
pub zeros : (table : List ℕ) (i : ℕ) → get_or (filled table 0 (length table) 0) i 0 ≡ 0
zeros table i = go (dec_lt i (length table))
  where
    go : Dec (i < length table) → get_or (filled table 0 (length table) 0) i 0 ≡ 0
    go (yes l) = rw zero-add at (filled_in table 0 (length table) 0 i l (omega arith))
    go (no l) = get_or-eq_default (filled table 0 (length table) 0) 0 (omega (arith, filled-length table 0 (length table) 0))

-- Clear leaves a sound store, whatever it finds.
pub clear_sound : (s : Store) → Sound (cleared s)
unfolding cleared
clear_sound s = empty_sound (cleared s) (zeros s.slots) (zeros s.links) (zeros s.owners) (zeros s.heads) refl

module _ (answer : Answer) (before after : Store) (rs : List Rec) where
  -- A refused call leaves the store as it was,
  pub refused : is_done answer ≡ false → (decided answer before after rs).store ≡ before
  unfolding decided
  refused e = rw e

  -- and has no records.
  pub refused_records : is_done answer ≡ false → (decided answer before after rs).records ≡ []
  unfolding decided
  refused_records e = rw e

  -- A call that is done leaves its store.
  pub done : is_done answer ≡ true → (decided answer before after rs).store ≡ after
  unfolding decided
  done e = rw e

  -- Done or refused, the answer is given.
  pub decided_answer : (decided answer before after rs).answer ≡ answer
  unfolding decided
  decided_answer = go (is_done answer)
    where
      go : (t : Bool) → (pick {A = After} t (record { answer = answer; store = after; records = rs }) (record { answer = answer; store = before; records = [] })).answer ≡ answer
      go true = refl
      go false = refl

  -- What holds of the store as it was, and of the new one where the call is done, holds of the store that is left.
  pub decided_store : (P : Store → Type 0) → P before → (is_done answer ≡ true → P after) → P (decided answer before after rs).store
  decided_store P refusal doing = go (is_done answer) refl
    where
      go : (t : Bool) → is_done answer ≡ t → P (decided answer before after rs).store
      go true e = rw (done e) (doing e)
      go false e = rw (refused e) refusal

-- An answer that is done passed each test that refuses,
pub done_past : (t : Bool) (refused rest : Answer) → is_done refused ≡ false → is_done (pick t refused rest) ≡ true → (t ≡ false) × (is_done rest ≡ true)
done_past true refused rest no-go done = absurd (false_true (sym no-go ∙ done))
done_past false refused rest no-go done = (refl, done)

-- and met each one that allows.
pub done_by : (t : Bool) (rest refused : Answer) → is_done refused ≡ false → is_done (pick t rest refused) ≡ true → (t ≡ true) × (is_done rest ≡ true)
done_by true rest refused no-go done = (refl, done)
done_by false rest refused no-go done = absurd (false_true (sym no-go ∙ done))
