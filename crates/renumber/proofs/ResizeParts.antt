-- How the parts of a resize fit together: what a store that fits and each part give is what the next part asks, and what they make of
-- the words is what the whole is said to make.
use Prim.Native.Nat.{ℕ, ◌+◌, ◌*◌, ◌≤◌, ◌<◌}
use mathlib.Core.Path.{◌≡◌, refl, sym, ap, ◌∙◌}
use mathlib.Core.Bool.{true, false}
use mathlib.Core.List.{List}
use native.Mathlib.Omega.{arith}
use lib.ListN.{length}
use Rattle.slabs.specs.NodeEntry.{width}
use Rattle.slabs.specs.Counters.{links_uncounted, ports_recounted}
use Rattle.slabs.specs.Slab.{CanTake, TookSlab}
use Rattle.slabs.specs.declared.counters.Counters.{Counters}
use Rattle.slabs.proofs.FillLaws.{written_length}
use Rattle.edits.specs.Store.{Store}
use Rattle.edits.specs.Fit.{Fit, SlotFits}
use Rattle.renumber.specs.Records.{logged, later}
use Rattle.renumber.specs.Moves.{moved_run, moved_records}
use Rattle.renumber.specs.Resize.{is_in_place, inlets_kept, outlets_kept, inlets_removed, outlets_removed, inlets_from, outlets_from, cut_inlets, cut_removed, cut_wires, cut_records, inlets_into, outlets_into, moved_into, new_size, changed_slots, changed_owners, recounted, resized_in_place, resized_into, resized, resize_records, reallocated_links, reallocated_records}
use Rattle.renumber.specs.Room.{CutPorts, SmallChange, CanChange, CanCutRemoved, CutRemoved, CanShift, Shifted, CanMoveKept, MovedKept, CanFreeOld, FreedOld, CanReallocate, Reallocated, Resized}
use Rattle.renumber.specs.declared.log.LogPlace.{LogPlace}
use Rattle.renumber.specs.declared.resize.Change.{Change}
use Rattle.renumber.proofs.RecordLaws.{logged-length, removed_records-length, moved_records-length}
use Rattle.renumber.proofs.PackLaws.{fits_wider}
use Rattle.edits.proofs.CountLaws.{live_ports_le}
use Rattle.edits.proofs.TakeLaws.{head_inside, taken_ends}
use Rattle.renumber.proofs.ResizeLaws.{slab_size_some, slab_size_covers, in_place_fits, records_in_place, records_into, records_removed, cut_removed-length, cut_removed_inside, cut_records-length, logged_after, taken_links-length, taken_links_inside, taken_heads-length, moved_into-length, moved_into_inside}

-- Cutting the removed inlets and then the removed outlets, with their records, is cutting the removed ports.
pub cut_both : {links log links' log' links'' log'' : List ℕ} {to : LogPlace} {ch : Change} {wires wires' : ℕ}
    → CutPorts links log to (inlets_from ch) (inlets_removed ch) links' log' wires
    → CutPorts links' log' (later to (inlets_removed ch)) (outlets_from ch) (outlets_removed ch) links'' log'' wires'
    → CutRemoved links log to ch links'' log'' (wires + wires')
unfolding cut_wires cut_removed cut_inlets cut_records
cut_both first second = record {
  cut = rw (first.cut, second.cut, first.links_after);
  links_after = rw (second.links_after, first.links_after);
  log_after = rw (second.log_after, first.log_after, first.links_after) (logged_after _ _ _ _ _ _ (removed_records-length _ _ _));
}

-- Moving the kept inlets and then the kept outlets, with their records, is moving the kept ports.
pub moved_both : {links log links' log' links'' log'' : List ℕ} {to : LogPlace} {ch : Change} {first : ℕ}
    → links' ≡ moved_run links (inlets_into ch first) (inlets_kept ch)
    → links'' ≡ moved_run links' (outlets_into ch first) (outlets_kept ch)
    → log' ≡ logged log to.at to.place (moved_records (inlets_into ch first))
    → log'' ≡ logged log' (to.at + inlets_kept ch) to.place (moved_records (outlets_into ch first))
    → MovedKept links log to ch first links'' log''
unfolding moved_into
moved_both ins outs ins-logged outs-logged = record {
  links_after = rw (outs, ins);
  log_after = rw (outs-logged, ins-logged) (logged_after _ _ _ _ _ _ (moved_records-length _));
}

module _ {slots links owners heads log : List ℕ} {c : Counters} {to : LogPlace} {ch : Change}
    (can : CanReallocate slots links owners heads log c to ch) {size : ℕ} (is : size ≡ new_size ch) where
  -- The new slab can be taken.
  pub can_take : CanTake links heads c size
  can_take = rw is (record {
    some = slab_size_some _;
    sized = can.sized;
    small = can.small;
    head_inside = head_inside _ (new_size ch) _ (slab_size_some _) can.head_inside;
    had = can.slab;
  })

  module _ {links' heads' : List ℕ} {taken : ℕ} {after : Counters} (took-size : TookSlab links heads c size links' heads' taken after) where
    took : TookSlab links heads c (new_size ch) links' heads' taken after
    took = rw is at took-size

    -- The changed step's ports lie in it.
    pub taken_holds : taken + ch.inlets + ch.outlets ≤ length links
    taken_holds =
        rw took.first
        (omega (arith, can.small_change, taken_ends heads c.portmark (length links) (new_size ch) can.slab can.head_inside, slab_size_covers (ch.inlets + ch.outlets) (omega (arith, can.small_change))))

    taken_length : length links' ≡ length links
    taken_length = ap length took.links_after ∙ taken_links-length links heads (new_size ch)

    -- The kept ports can move there.
    pub can_move_kept : CanMoveKept links' log to ch taken
    can_move_kept = record {
      small_change = can.small_change;
      from_inside = omega (arith, taken_length, can.ends);
      to_inside = omega (arith, taken_length, taken_holds);
      small = omega (arith, taken_length, can.small);
      links_inside = rw took.links_after (taken_links_inside links heads (new_size ch) can.links_inside);
      recorded = can.recorded;
    }

    module _ {owners' links'' log' : List ℕ} (owned : owners' ≡ changed_owners owners ch taken)
        (kept : MovedKept links' log to ch taken links'' log') where
      moved_length : length links'' ≡ length links
      moved_length = ap length kept.links_after ∙ moved_into-length links' ch taken ∙ taken_length

      -- Then the old slab can be freed.
      pub can_free_old : CanFreeOld links'' owners' heads' ch.meta
      can_free_old = record {
        sized = rw took.heads_after (rw taken_heads-length can.old_sized);
        inside = omega (arith, moved_length, can.ends);
        owned = rw owned (rw written_length (omega (arith, can.ends, can.equal)));
        small = omega (arith, moved_length, can.small);
        links_inside = rw kept.links_after (moved_into_inside links' ch taken can_move_kept.to_inside can_move_kept.links_inside);
      }

      -- And that is all of it.
      pub reallocated_parts : {slots' links''' owners'' heads'' : List ℕ} → slots' ≡ changed_slots slots ch taken size
          → FreedOld links'' owners' heads' ch.meta links''' owners'' heads''
          → Reallocated slots links owners heads log c to ch slots' links''' owners'' heads'' log' after
      unfolding reallocated_links reallocated_records
      reallocated_parts written freed = record {
        counters_after = took.counters;
        slots_after = rw (written, is, took.first);
        links_after = rw (freed.links_after, kept.links_after, took.links_after, took.heads_after, took.first);
        owners_after = rw (freed.owners_after, owned, took.first);
        heads_after = rw (freed.heads_after, took.heads_after);
        log_after = rw (kept.log_after, took.first);
      }

module _ {s : Store} {log : List ℕ} {to : LogPlace} {ch : Change} (fit : Fit s) (can : CanChange s log to ch) where
  -- The changed step's slab lies in the tables.
  slot_fits : SlotFits (length s.heads) (length s.links) ch.meta
  slot_fits = fit.live ch.node ch.meta can.below can.is

  -- No sum of its counts wraps.
  pub small_change : SmallChange ch
  small_change = record {
    few_inlets = can.few_inlets;
    few_outlets = can.few_outlets;
    meta_fits = fits_wider _ _ _ _ 32768 1048576 fit.few_heads fit.few_ports fit.live ch.node ch.meta can.below can.is;
  }

  -- Its number fits an owner word,
  pub few_nodes : ch.node < 65536
  few_nodes = omega (arith, can.below, fit.node_room, fit.few_slots)

  -- and its slot lies in the table.
  pub slot_inside : width * ch.node + width ≤ length s.slots
  slot_inside = omega (arith, can.below, fit.node_room)

  -- Nor does the count of ports wrap.
  pub few_live : s.counters.ports ≤ 1048576
  few_live = omega (arith, fit.true_ports, live_ports_le s.owners s.counters.portmark, fit.port_room, fit.few_ports)

  -- The removed ports can be cut.
  pub can_cut : CanCutRemoved s.links log to ch
  can_cut = record {
    small_change = small_change;
    ends = slot_fits.ends;
    small = fit.few_ports;
    links_inside = fit.links_inside;
    recorded = (omega (arith, can.recorded.0, records_removed ch), can.recorded.1);
  }

  module _ {links log' : List ℕ} {wires : ℕ} (cut : CutRemoved s.links log to ch links log' wires) where
    cut_length : length links ≡ length s.links
    cut_length = ap length cut.links_after ∙ cut_removed-length s.links ch

    log_length : length log' ≡ length log
    log_length = ap length cut.log_after ∙ logged-length _ _ _ _

    -- Then in place the kept outlets can move,
    pub can_shift : is_in_place ch ≡ true → CanShift links s.owners log' (later to (inlets_removed ch + outlets_removed ch)) ch
    can_shift e = record {
      small_change = small_change;
      few = few_nodes;
      in_place = omega (arith, in_place_fits ch e);
      ends = omega (arith, cut_length, slot_fits.ends);
      equal = fit.equal ∙ sym cut_length;
      small = omega (arith, cut_length, fit.few_ports);
      links_inside = rw cut.links_after (cut_removed_inside s.links ch fit.links_inside);
      recorded = (omega (arith, log_length, can.recorded.0, records_in_place ch e), omega (arith, log_length, can.recorded.1));
    }

    -- and that is all of it,
    pub resized_in_place_lem : is_in_place ch ≡ true → {slots' links' owners' log'' : List ℕ} {c : Counters}
        → c ≡ ports_recounted (links_uncounted s.counters wires) (ch.meta.inlets + ch.meta.outlets) (ch.inlets + ch.outlets)
        → Shifted links s.owners log' (later to (inlets_removed ch + outlets_removed ch)) ch links' owners' log''
        → slots' ≡ changed_slots s.slots ch ch.meta.first ch.meta.capacity
        → Resized s log to ch slots' links' owners' s.heads log'' c
    unfolding resized resized_in_place resize_records recounted
    resized_in_place_lem e counted shifted written =
        record {
          store_after = rw e (record {
            slots_after = written;
            links_after = rw (shifted.links_after, cut.links_after);
            owners_after = shifted.owners_after;
            heads_after = refl;
            counters_after = rw (counted, cut.cut);
          });
          log_after = rw (e, shifted.log_after, cut.log_after) (logged_after _ _ _ _ _ _ (cut_records-length s.links ch));
        }

    module _ {c : Counters} (counted : c ≡ ports_recounted (links_uncounted s.counters wires) (ch.meta.inlets + ch.meta.outlets) (ch.inlets + ch.outlets))
        (e : is_in_place ch ≡ false) where
      -- or else the kept ports can move into a new slab,
      pub can_reallocate : CanReallocate s.slots links s.owners s.heads log' c (later to (inlets_removed ch + outlets_removed ch)) ch
      can_reallocate = record {
        small_change = small_change;
        few = few_nodes;
        slot_inside = slot_inside;
        ends = omega (arith, cut_length, slot_fits.ends);
        equal = fit.equal ∙ sym cut_length;
        small = omega (arith, cut_length, fit.few_ports);
        links_inside = rw cut.links_after (cut_removed_inside s.links ch fit.links_inside);
        old_sized = slot_fits.sized;
        sized = can.sized e;
        slab = rw (counted, cut_length) (can.slab e);
        head_inside = λ first h. rw cut_length (fit.heads_inside (new_size ch) first (slab_size_some _) (can.sized e) h);
        recorded = (omega (arith, log_length, can.recorded.0, records_into ch e), omega (arith, log_length, can.recorded.1));
      }

      -- and that is all of it.
      pub resized_into_lem : {slots' links' owners' heads' log'' : List ℕ} {r : Counters}
          → Reallocated s.slots links s.owners s.heads log' c (later to (inlets_removed ch + outlets_removed ch)) ch slots' links' owners' heads' log'' r
          → Resized s log to ch slots' links' owners' heads' log'' r
      unfolding resized resized_into resize_records recounted
      resized_into_lem done =
          record {
            store_after = rw e (record {
              slots_after = rw (done.slots_after, counted);
              links_after = rw (done.links_after, counted, cut.links_after);
              owners_after = rw (done.owners_after, counted);
              heads_after = rw (done.heads_after, cut.links_after);
              counters_after = rw (done.counters_after, counted, cut.cut);
            });
            log_after = rw (e, done.log_after, cut.log_after, counted) (logged_after _ _ _ _ _ _ (cut_records-length s.links ch));
          }
