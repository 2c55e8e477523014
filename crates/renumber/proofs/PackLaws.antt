-- What the compactions do turn by turn: how many live slots and ports there are below a number, that a turn reads words which no
-- turn before it wrote, and what is kept of each table's shape.
use Prim.Native.Nat.{ℕ, suc, zero, ◌+◌, ◌*◌, ◌≤◌, ◌<◌}
use native.Mathlib.Omega.{arith}
use native.Mathlib.Decide.{ℕ_discrete}
use native.Mathlib.Numerals.{add-one}
use borrow.Author.Tests.{eq-eqb, ne_eqb}
use lib.ListN.{length, get_or, set, length-set, length-append}
use lib.Seq.{get_or-set_other}
use lib.Dec.{eqb}
use mathlib.Core.List.{List, [], ◌∷◌}
use mathlib.Core.Path.{◌≡◌, refl, sym, ap, subst, ◌∙◌}
use mathlib.Core.Bool.{Bool, true, false}
use Rattle.slabs.specs.Choice.{pick}
use Rattle.slabs.specs.Sums.{sum}
use Rattle.slabs.specs.PortEntry.{Live, node_of, port_entry}
use Rattle.slabs.specs.Links.{Inside}
use Rattle.std.specs.Prelude.{Some, None}
use Rattle.slabs.specs.declared.port_entry.PortMeta.{PortMeta}
use Rattle.slabs.specs.Slab.{owners_written}
use Rattle.slabs.specs.NodeEntry.{width, slot_word, node_entry, set_entry}
use Rattle.slabs.specs.declared.node_entry.NodeMeta.{NodeMeta}
use Rattle.slabs.specs.declared.node_entry.NodeEntry.{NodeEntry}
use Rattle.slabs.specs.declared.node_entry.NodeEntry.TheVariants.{Free, Node}
use Rattle.std.proofs.lemmas.Option.{same_Some}
use Rattle.slabs.proofs.EntryLaws.{word_apart, set_entry-length, word_above, entry_ext, entry_same, entry_other}
use Rattle.slabs.proofs.SumLaws.{sum_ext}
use Rattle.slabs.proofs.FillLaws.{written_length}
use Rattle.edits.specs.Store.{on_node}
use Rattle.edits.specs.Counts.{some, live_slots, live_ports}
use Rattle.edits.specs.Fit.{SlotFits, SlotsFit}
use Rattle.renumber.specs.Records.{Rec, rec, set_record, logged}
use Rattle.renumber.specs.Moves.{moved}
use Rattle.renumber.specs.Compact.{packed_slots, renamed_owners, node_records, packed_links, packed_owners, followed, followed_slots, port_records, slab_dropped, slabs_dropped}
use Rattle.renumber.specs.Packing.{PackedNodes, PackedPorts}
use Rattle.renumber.specs.declared.log.LogPlace.{LogPlace}
use Rattle.renumber.proofs.RecordLaws.{logged-length, logged_snoc}
use Rattle.renumber.proofs.MoveLaws.{moved_length, moved_inside}
use Rattle.edits.proofs.CountLaws.{live_slots_le, live_ports_le}

-- What holds in both cases of a choice by an entry holds of the choice,
on_entry_lem : {A : Type 0} (P : A → Type 0) (e : NodeEntry) (live : NodeMeta → A) (other : A)
    → ((m : NodeMeta) → e ≡ Node m → P (live m)) → ((previous next : ℕ) → e ≡ Free previous next → P other) → P (on_node e live other)
on_entry_lem P (Node m) live other h k = h m refl
on_entry_lem P (Free previous next) live other h k = k previous next refl

-- and so of a choice by a test of two numbers.
on_equal : {A : Type 0} (P : A → Type 0) (x y : ℕ) (a b : A) → (x ≡ y → P a) → ((x ≡ y → ⊥) → P b) → P (pick (eqb x y) a b)
on_equal P x y a b h k = go (ℕ_discrete x y)
  where
    go : Dec (x ≡ y) → P (pick (eqb x y) a b)
    go (yes e) = rw (eq-eqb x y e) (h e)
    go (no d) = rw (ne_eqb x y d) (k d)

-- An owner word that says a port is not 0 and names its node,
pub port_named : (w : ℕ) (m : PortMeta) → port_entry w ≡ Some m → (w ≡ 0 → ⊥) × (node_of w ≡ m.node)
unfolding port_entry
port_named w m e = go (ℕ_discrete w 0)
  where
    go : Dec (w ≡ 0) → (w ≡ 0 → ⊥) × (node_of w ≡ m.node)
    go (yes z) = absurd (let c : ◌≡◌ {A = ℕ} 0 1 = cc (rw (eq-eqb w 0 z) at e) in omega arith)
    go (no d) = (d, ap (λ (n : PortMeta). n.node) (same_Some _ _ (rw (ne_eqb w 0 d) at e)))

-- and one that says none is 0.
pub port_none : (w : ℕ) → port_entry w ≡ None → w ≡ 0
unfolding port_entry
port_none w e = go (ℕ_discrete w 0)
  where
    go : Dec (w ≡ 0) → w ≡ 0
    go (yes z) = z
    go (no d) = absurd (let c : ◌≡◌ {A = ℕ} 0 1 = cc (rw (ne_eqb w 0 d) at e) in omega arith)

-- A count over more numbers is no less.
pub sum_grows : (f : ℕ → ℕ) (n m : ℕ) → n ≤ m → sum f n ≤ sum f m
unfolding sum
sum_grows f n zero h = let e : n ≡ 0 = omega arith in rw e (omega arith)
sum_grows f n (suc m) h = go (ℕ_discrete n (suc m)) (λ (b : n ≤ m). sum_grows f n m b)
  where
    go : Dec (n ≡ suc m) → (n ≤ m → sum f n ≤ sum f m) → sum f n ≤ sum f m + f m
    go (yes e) below = rw e (omega arith)
    go (no d) below = omega (arith, below (omega arith))

-- The second word of a live slot counts 1,
pub live_word : (slots : List ℕ) (k : ℕ) (m : NodeMeta) → node_entry slots k ≡ Node m → some (slot_word slots k 1) ≡ 1
unfolding node_entry some
live_word slots k m e = go _ _ _ (eqb (slot_word slots k 1) 0) e
  where
    go : (a b : ℕ) (n : NodeMeta) (t : Bool) → pick t (Free a b) (Node n) ≡ Node m → pick {A = ℕ} t 0 1 ≡ 1
    go a b n true e = cc
    go a b n false e = refl

-- and that of a free one 0.
pub free_word : (slots : List ℕ) (k previous next : ℕ) → node_entry slots k ≡ Free previous next → some (slot_word slots k 1) ≡ 0
unfolding node_entry some
free_word slots k previous next e = go _ _ _ (eqb (slot_word slots k 1) 0) e
  where
    go : (a b : ℕ) (n : NodeMeta) (t : Bool) → pick t (Free a b) (Node n) ≡ Free previous next → pick {A = ℕ} t 0 1 ≡ 0
    go a b n true e = refl
    go a b n false e = cc

-- So a live slot is counted,
pub live_slot : (slots : List ℕ) (k : ℕ) (m : NodeMeta) → node_entry slots k ≡ Node m → live_slots slots (suc k) ≡ live_slots slots k + 1
unfolding live_slots sum
live_slot slots k m e = omega (arith, live_word slots k m e)

-- and a free one is not.
pub free_slot : (slots : List ℕ) (k previous next : ℕ) → node_entry slots k ≡ Free previous next → live_slots slots (suc k) ≡ live_slots slots k
unfolding live_slots sum
free_slot slots k previous next e = omega (arith, free_word slots k previous next e)

-- A live port is counted,
pub live_port : (owners : List ℕ) (p : ℕ) → Live owners p → live_ports owners (suc p) ≡ live_ports owners p + 1
unfolding live_ports sum some
live_port owners p live = rw (ne_eqb (get_or owners p 0) 0 live)

-- a free one is not.
pub free_port : (owners : List ℕ) (p : ℕ) → get_or owners p 0 ≡ 0 → live_ports owners (suc p) ≡ live_ports owners p
unfolding live_ports sum some
free_port owners p e = rw (eq-eqb (get_or owners p 0) 0 e) (omega arith)

-- Below more slots no fewer are live,
pub live_slots_grows : (slots : List ℕ) (j k : ℕ) → j ≤ k → live_slots slots j ≤ live_slots slots k
unfolding live_slots
live_slots_grows slots j k h = sum_grows (λ i. some (slot_word slots i 1)) j k h

-- and below more ports.
pub live_ports_grows : (owners : List ℕ) (p q : ℕ) → p ≤ q → live_ports owners p ≤ live_ports owners q
unfolding live_ports
live_ports_grows owners p q h = sum_grows (λ i. some (get_or owners i 0)) p q h

-- So a live slot below the mark gets a number below how many are live,
pub slot_number : (slots : List ℕ) (k mark : ℕ) (m : NodeMeta) → k < mark → node_entry slots k ≡ Node m → live_slots slots k < live_slots slots mark
slot_number slots k mark m b e = omega (arith, live_slot slots k m e, live_slots_grows slots (suc k) mark b)

-- and so does a live port.
pub port_number : (owners : List ℕ) (p mark : ℕ) → p < mark → Live owners p → live_ports owners p < live_ports owners mark
port_number owners p mark b live = omega (arith, live_port owners p live, live_ports_grows owners (suc p) mark b)

-- Moving slots down leaves the lengths of the slots
pub packed_slots-length : (slots : List ℕ) (k : ℕ) → length (packed_slots slots k) ≡ length slots
unfolding packed_slots
packed_slots-length slots zero = refl
packed_slots-length slots (suc k) =
    on_entry_lem (λ (l : List ℕ). length l ≡ length slots) (node_entry slots k) _ _ (λ m e. set_entry-length _ _ _ ∙ packed_slots-length slots k) (λ previous next e. packed_slots-length slots k)

-- and of the owners,
pub renamed_owners-length : (slots owners : List ℕ) (k : ℕ) → length (renamed_owners slots owners k) ≡ length owners
unfolding renamed_owners
renamed_owners-length slots owners zero = refl
renamed_owners-length slots owners (suc k) =
    on_entry_lem
    (λ (l : List ℕ). length l ≡ length owners)
    (node_entry slots k)
    _
    _
    (λ m e. written_length _ _ _ _ _ ∙ renamed_owners-length slots owners k)
    (λ previous next e. renamed_owners-length slots owners k)

-- and makes a record of each live slot.
pub node_records-length : (slots : List ℕ) (k : ℕ) → length (node_records slots k) ≡ live_slots slots k
unfolding node_records
node_records-length slots zero = unfold live_slots sum in refl
node_records-length slots (suc k) =
    on_entry_lem
    (λ (l : List Rec). length l ≡ live_slots slots (suc k))
    (node_entry slots k)
    _
    _
    (λ m e. length-append (node_records slots k) (rec 4 k (live_slots slots k) ∷ []) ∙ omega (arith, node_records-length slots k, live_slot slots k m e))
    (λ previous next e. node_records-length slots k ∙ sym (free_slot slots k previous next e))

-- No word of the slots from k on is written before turn k,
pub packed_slots_above : (slots : List ℕ) (k i : ℕ) → width * k ≤ i → get_or (packed_slots slots k) i 0 ≡ get_or slots i 0
unfolding packed_slots
packed_slots_above slots zero i h = refl
packed_slots_above slots (suc k) i h =
    on_entry_lem
    (λ (l : List ℕ). get_or l i 0 ≡ get_or slots i 0)
    (node_entry slots k)
    _
    _
    (λ m e. word_above _ _ _ i (omega (arith, live_slots_le slots k)) ∙ packed_slots_above slots k i (omega arith))
    (λ previous next e. packed_slots_above slots k i (omega arith))

-- so that turn reads what its slot said at the start.
pub packed_slots_entry : (slots : List ℕ) (k j : ℕ) → k ≤ j → node_entry (packed_slots slots k) j ≡ node_entry slots j
packed_slots_entry slots k j h = entry_ext (packed_slots slots k) slots j (λ i b. packed_slots_above slots k (width * j + i) (omega arith))

-- Before the first turn nothing has moved.
pub nodes_none : (slots owners log : List ℕ) (to : LogPlace) → PackedNodes slots owners log 0 to slots owners log 0
unfolding packed_slots renamed_owners node_records logged live_slots sum
nodes_none slots owners log to = record { counted = refl; slots_after = refl; owners_after = refl; log_after = refl }

module _ {slots owners log : List ℕ} {k : ℕ} {to : LogPlace} {slots' owners' log' : List ℕ} {live : ℕ} (done : PackedNodes slots owners log k to slots' owners' log' live) where
  -- Up to turn k the slots,
  pub nodes_slots : length slots' ≡ length slots
  nodes_slots = ap length done.slots_after ∙ packed_slots-length slots k

  -- the owners
  pub nodes_owners : length owners' ≡ length owners
  nodes_owners = ap length done.owners_after ∙ renamed_owners-length slots owners k

  -- and the log have kept their lengths,
  pub nodes_log : length log' ≡ length log
  nodes_log = ap length done.log_after ∙ logged-length log to.at to.place (node_records slots k)

  -- and slot k says what it said at the start.
  pub nodes_entry : node_entry slots' k ≡ node_entry slots k
  nodes_entry = ap (λ (t : List ℕ). node_entry t k) done.slots_after ∙ packed_slots_entry slots k k (omega arith)

  pub nodes_read : (entry : NodeEntry) → entry ≡ node_entry slots' k → node_entry slots k ≡ entry
  nodes_read entry read = sym nodes_entry ∙ sym read

  -- A turn at a free slot changes nothing,
  pub nodes_free : (previous next : ℕ) → Free previous next ≡ node_entry slots' k → PackedNodes slots owners log (k + 1) to slots' owners' log' live
  unfolding packed_slots renamed_owners node_records
  nodes_free previous next read =
      let e : node_entry slots k ≡ Free previous next = nodes_read _ read in
      rw
      add-one
      record {
        counted = done.counted ∙ sym (free_slot slots k previous next e);
        slots_after = rw e done.slots_after;
        owners_after = rw e done.owners_after;
        log_after = rw e done.log_after;
      }

  -- and at a live one it carries its slot down, with its owner words and a record.
  pub nodes_live : (m : NodeMeta) → Node m ≡ node_entry slots' k
      → PackedNodes slots owners log (k + 1) to (set_entry slots' live (Node m)) (owners_written owners' live m.first m.inlets m.outlets) (set_record log' (to.at + live) to.place (rec 4 k live)) (live + 1)
  unfolding packed_slots renamed_owners node_records
  nodes_live m read =
      let e : node_entry slots k ≡ Node m = nodes_read _ read in
      rw
      add-one
      record {
        counted = rw (live_slot slots k m e, done.counted);
        slots_after = rw (e, done.slots_after, done.counted);
        owners_after = rw (e, done.owners_after, done.counted);
        log_after =
            rw
            (e, done.log_after, done.counted, ← node_records-length slots k)
            (sym (logged_snoc log to.at to.place (node_records slots k) (rec 4 k (length (node_records slots k)))));
      }

-- Moving ports down leaves the lengths of the link words
pub packed_links-length : (owners links : List ℕ) (p : ℕ) → length (packed_links owners links p) ≡ length links
unfolding packed_links
packed_links-length owners links zero = refl
packed_links-length owners links (suc p) =
    on_equal
    (λ (l : List ℕ). length l ≡ length links)
    (get_or owners p 0)
    0
    _
    _
    (λ e. packed_links-length owners links p)
    (λ d. moved_length _ _ _ ∙ packed_links-length owners links p)

-- and of the owners,
pub packed_owners-length : (owners : List ℕ) (p : ℕ) → length (packed_owners owners p) ≡ length owners
unfolding packed_owners
packed_owners-length owners zero = refl
packed_owners-length owners (suc p) =
    on_equal
    (λ (l : List ℕ). length l ≡ length owners)
    (get_or owners p 0)
    0
    _
    _
    (λ e. packed_owners-length owners p)
    (λ d. length-set (packed_owners owners p) (live_ports owners p) (get_or owners p 0) ∙ packed_owners-length owners p)

-- and makes a record of each live port.
pub port_records-length : (owners : List ℕ) (p : ℕ) → length (port_records owners p) ≡ live_ports owners p
unfolding port_records
port_records-length owners zero = unfold live_ports sum in refl
port_records-length owners (suc p) =
    on_equal
    (λ (l : List Rec). length l ≡ live_ports owners (suc p))
    (get_or owners p 0)
    0
    _
    _
    (λ e. port_records-length owners p ∙ sym (free_port owners p e))
    (λ d. length-append (port_records owners p) (rec 3 p (live_ports owners p) ∷ []) ∙ omega (arith, port_records-length owners p, live_port owners p d))

-- The link words stay inside.
pub packed_links_inside : (owners links : List ℕ) (p : ℕ) → p ≤ length links → Inside links → Inside (packed_links owners links p)
unfolding packed_links
packed_links_inside owners links zero b h = h
packed_links_inside owners links (suc p) b h =
    let before : Inside (packed_links owners links p) = packed_links_inside owners links p (omega arith) h in
    on_equal
    Inside
    (get_or owners p 0)
    0
    (packed_links owners links p)
    (moved (packed_links owners links p) p (live_ports owners p))
    (λ e. before)
    (λ d. moved_inside (packed_links owners links p) p (live_ports owners p) (omega (arith, live_ports_le owners p, packed_links-length owners links p)) before)

-- No owner word from p on is written before turn p, so that turn reads the word of the start.
pub packed_owners_above : (owners : List ℕ) (p q : ℕ) → p ≤ q → get_or (packed_owners owners p) q 0 ≡ get_or owners q 0
unfolding packed_owners
packed_owners_above owners zero q h = refl
packed_owners_above owners (suc p) q h =
    on_equal
    (λ (l : List ℕ). get_or l q 0 ≡ get_or owners q 0)
    (get_or owners p 0)
    0
    _
    _
    (λ e. packed_owners_above owners p q (omega arith))
    (λ d. get_or-set_other (packed_owners owners p) (live_ports owners p) q (get_or owners p 0) 0 (omega (arith, live_ports_le owners p)) ∙ packed_owners_above owners p q (omega arith))

-- A slot that follows its first port leaves the table's length,
pub followed-length : (slots : List ℕ) (node old new : ℕ) → length (followed slots node old new) ≡ length slots
unfolding followed
followed-length slots node old new =
    on_entry_lem
    (λ (l : List ℕ). length l ≡ length slots)
    (node_entry slots node)
    _
    _
    (λ m e. on_equal (λ (l : List ℕ). length l ≡ length slots) m.first old _ _ (λ f. set_entry-length _ _ _) (λ d. refl))
    (λ previous next e. refl)

-- and so do all that follow.
pub followed_slots-length : (slots owners : List ℕ) (p : ℕ) → length (followed_slots slots owners p) ≡ length slots
unfolding followed_slots
followed_slots-length slots owners zero = refl
followed_slots-length slots owners (suc p) =
    on_equal
    (λ (l : List ℕ). length l ≡ length slots)
    (get_or owners p 0)
    0
    _
    _
    (λ e. followed_slots-length slots owners p)
    (λ d. followed-length _ _ _ _ ∙ followed_slots-length slots owners p)

-- A live slot that is written with another live entry stays counted,
pub written_counted : (slots : List ℕ) (k : ℕ) (m n : NodeMeta) (mark : ℕ) → width * k + width ≤ length slots → node_entry slots k ≡ Node m
    → live_slots (set_entry slots k (Node n)) mark ≡ live_slots slots mark
unfolding live_slots
written_counted slots k m n mark b e =
    sum_ext (λ j. some (slot_word (set_entry slots k (Node n)) j 1)) (λ j. some (slot_word slots j 1)) mark (λ j l. go j (ℕ_discrete j k))
  where
    go : (j : ℕ) → Dec (j ≡ k) → some (slot_word (set_entry slots k (Node n)) j 1) ≡ some (slot_word slots j 1)
    go j (yes i) = rw i (live_word (set_entry slots k (Node n)) k n (entry_same slots k (Node n) b) ∙ sym (live_word slots k m e))
    go j (no d) = ap some (word_apart slots k (Node n) (width * j + 1) (omega arith))

-- so following a first port leaves as many live slots,
pub followed_counted : (slots : List ℕ) (node old new mark : ℕ) → width * node + width ≤ length slots → live_slots (followed slots node old new) mark ≡ live_slots slots mark
unfolding followed
followed_counted slots node old new mark b =
    on_entry_lem
    (λ (s : List ℕ). live_slots s mark ≡ live_slots slots mark)
    (node_entry slots node)
    _
    slots
    (λ m e. on_equal (λ (s : List ℕ). live_slots s mark ≡ live_slots slots mark) m.first old _ slots (λ f. written_counted slots node m _ mark b e) (λ d. refl))
    (λ previous next e. refl)

-- and so does all following.
pub followed_slots_counted : (slots owners : List ℕ) (p nodes mark : ℕ) → width * nodes ≤ length slots
    → ((q : ℕ) → q < p → Live owners q → node_of (get_or owners q 0) < nodes)
    → live_slots (followed_slots slots owners p) mark ≡ live_slots slots mark
unfolding followed_slots
followed_slots_counted slots owners zero nodes mark b own = refl
followed_slots_counted slots owners (suc p) nodes mark b own =
    let before : live_slots (followed_slots slots owners p) mark ≡ live_slots slots mark = followed_slots_counted slots owners p nodes mark b (λ q l. own q (omega arith)) in
    on_equal
    (λ (s : List ℕ). live_slots s mark ≡ live_slots slots mark)
    (get_or owners p 0)
    0
    (followed_slots slots owners p)
    _
    (λ e. before)
    (λ d. followed_counted (followed_slots slots owners p) (node_of (get_or owners p 0)) p (live_ports owners p) mark (omega (arith, followed_slots-length slots owners p, own p (omega arith) d)) ∙ before)

-- Slots that fit some sizes and some room fit more of both.
pub fits_wider : (slots : List ℕ) (mark heads room heads' room' : ℕ) → heads ≤ heads' → room ≤ room' → SlotsFit slots mark heads room → SlotsFit slots mark heads' room'
fits_wider slots mark heads room heads' room' a b h k m l e =
    let f : SlotFits heads room m = h k m l e in
    record { few_inlets = f.few_inlets; few_outlets = f.few_outlets; fit = f.fit; sized = omega arith; ends = omega arith }

-- Slots that fit below a mark fit below a lower one.
pub fits_below : (slots : List ℕ) (low mark heads room : ℕ) → low ≤ mark → SlotsFit slots mark heads room → SlotsFit slots low heads room
fits_below slots low mark heads room b h k m l e = h k m (omega arith) e

-- An entry that fits, written to a table of slots that fit, leaves slots that fit.
pub written_fit : (slots : List ℕ) (k : ℕ) (n : NodeMeta) (mark heads room : ℕ) → width * mark ≤ length slots → SlotFits heads room n
    → SlotsFit slots mark heads room → SlotsFit (set_entry slots k (Node n)) mark heads room
written_fit slots k n mark heads room b f h j m l e = go (ℕ_discrete j k)
  where
    same : {a b : NodeMeta} → Node a ≡ Node b → a ≡ b
    same p = cc

    go : Dec (j ≡ k) → SlotFits heads room m
    go (yes i) = subst (SlotFits heads room) (same (sym (entry_same slots k (Node n) (omega arith)) ∙ rw i at e)) f
    go (no d) = h j m l (sym (entry_other slots k j (Node n) d) ∙ e)

-- So does one that follows its first port down,
pub followed_fit : (slots : List ℕ) (node old new mark heads room : ℕ) → width * mark ≤ length slots → node < mark → new ≤ old
    → SlotsFit slots mark heads room → SlotsFit (followed slots node old new) mark heads room
unfolding followed
followed_fit slots node old new mark heads room b l d h =
    on_entry_lem
    (λ (s : List ℕ). SlotsFit s mark heads room)
    (node_entry slots node)
    _
    slots
    (λ m e. on_equal (λ (s : List ℕ). SlotsFit s mark heads room) m.first old _ slots (λ f. written_fit slots node _ mark heads room b (smaller m (h node m l e) f) h) (λ f. h))
    (λ previous next e. h)
  where
    smaller : (m : NodeMeta) → SlotFits heads room m → m.first ≡ old → SlotFits heads room (record { first = new; inlets = m.inlets; outlets = m.outlets; capacity = m.inlets + m.outlets })
    smaller m f e = record { few_inlets = f.few_inlets; few_outlets = f.few_outlets; fit = omega arith; sized = omega arith; ends = omega arith }

-- and all that follow.
pub followed_slots_fit : (slots owners : List ℕ) (p mark heads room : ℕ) → width * mark ≤ length slots
    → ((q : ℕ) → q < p → Live owners q → node_of (get_or owners q 0) < mark)
    → SlotsFit slots mark heads room → SlotsFit (followed_slots slots owners p) mark heads room
unfolding followed_slots
followed_slots_fit slots owners zero mark heads room b own h = h
followed_slots_fit slots owners (suc p) mark heads room b own h =
    let before : SlotsFit (followed_slots slots owners p) mark heads room = followed_slots_fit slots owners p mark heads room b (λ q l. own q (omega arith)) h in
    on_equal
    (λ (s : List ℕ). SlotsFit s mark heads room)
    (get_or owners p 0)
    0
    (followed_slots slots owners p)
    _
    (λ e. before)
    (λ d. followed_fit (followed_slots slots owners p) (node_of (get_or owners p 0)) p (live_ports owners p) mark heads room (omega (arith, followed_slots-length slots owners p)) (own p (omega arith) d) (live_ports_le owners p) before)

-- A step without ports that gives up its slab leaves the table's length,
pub slab_dropped-length : (slots : List ℕ) (k : ℕ) → length (slab_dropped slots k) ≡ length slots
unfolding slab_dropped
slab_dropped-length slots k =
    on_entry_lem
    (λ (l : List ℕ). length l ≡ length slots)
    (node_entry slots k)
    _
    _
    (λ m e. on_equal (λ (l : List ℕ). length l ≡ length slots) (m.inlets + m.outlets) 0 _ _ (λ f. set_entry-length _ _ _) (λ d. refl))
    (λ previous next e. refl)

-- and so do all below a mark.
pub slabs_dropped-length : (slots : List ℕ) (k : ℕ) → length (slabs_dropped slots k) ≡ length slots
unfolding slabs_dropped
slabs_dropped-length slots zero = refl
slabs_dropped-length slots (suc k) = slab_dropped-length (slabs_dropped slots k) k ∙ slabs_dropped-length slots k

-- As many slots are live after one,
pub slab_dropped_counted : (slots : List ℕ) (k mark : ℕ) → width * k + width ≤ length slots → live_slots (slab_dropped slots k) mark ≡ live_slots slots mark
unfolding slab_dropped
slab_dropped_counted slots k mark b =
    on_entry_lem
    (λ (s : List ℕ). live_slots s mark ≡ live_slots slots mark)
    (node_entry slots k)
    _
    slots
    (λ m e. on_equal (λ (s : List ℕ). live_slots s mark ≡ live_slots slots mark) (m.inlets + m.outlets) 0 _ slots (λ f. written_counted slots k m _ mark b e) (λ d. refl))
    (λ previous next e. refl)

-- and after all.
pub slabs_dropped_counted : (slots : List ℕ) (k mark : ℕ) → width * k ≤ length slots → live_slots (slabs_dropped slots k) mark ≡ live_slots slots mark
unfolding slabs_dropped
slabs_dropped_counted slots zero mark b = refl
slabs_dropped_counted slots (suc k) mark b =
    slab_dropped_counted (slabs_dropped slots k) k mark (omega (arith, slabs_dropped-length slots k)) ∙ slabs_dropped_counted slots k mark (omega arith)

-- The slots still fit after one,
pub slab_dropped_fit : (slots : List ℕ) (k mark heads room : ℕ) → width * mark ≤ length slots → SlotsFit slots mark heads room → SlotsFit (slab_dropped slots k) mark heads room
unfolding slab_dropped
slab_dropped_fit slots k mark heads room b h =
    on_entry_lem
    (λ (s : List ℕ). SlotsFit s mark heads room)
    (node_entry slots k)
    _
    slots
    (λ m e. on_equal (λ (s : List ℕ). SlotsFit s mark heads room) (m.inlets + m.outlets) 0 _ slots (λ f. written_fit slots k _ mark heads room b none h) (λ f. h))
    (λ previous next e. h)
  where
    none : SlotFits heads room (record { first = 0; inlets = 0; outlets = 0; capacity = 0 })
    none = record { few_inlets = omega arith; few_outlets = omega arith; fit = omega arith; sized = omega arith; ends = omega arith }

-- and after all.
pub slabs_dropped_fit : (slots : List ℕ) (k mark heads room : ℕ) → width * mark ≤ length slots → SlotsFit slots mark heads room → SlotsFit (slabs_dropped slots k) mark heads room
unfolding slabs_dropped
slabs_dropped_fit slots zero mark heads room b h = h
slabs_dropped_fit slots (suc k) mark heads room b h =
    slab_dropped_fit (slabs_dropped slots k) k mark heads room (omega (arith, slabs_dropped-length slots k)) (slabs_dropped_fit slots k mark heads room b h)

-- Before the first turn nothing has moved.
pub ports_none : (slots links owners log : List ℕ) (to : LogPlace) → PackedPorts slots links owners log 0 to slots links owners log 0
unfolding packed_links packed_owners followed_slots port_records logged live_ports sum
ports_none slots links owners log to = record { counted = refl; slots_after = refl; links_after = refl; owners_after = refl; log_after = refl }

module _ {slots links owners log : List ℕ} {p : ℕ} {to : LogPlace} {slots' links' owners' log' : List ℕ} {live : ℕ} (done : PackedPorts slots links owners log p to slots' links' owners' log' live) where
  -- Up to turn p the slots,
  pub ports_slots : length slots' ≡ length slots
  ports_slots = ap length done.slots_after ∙ followed_slots-length slots owners p

  -- the link words,
  pub ports_links : length links' ≡ length links
  ports_links = ap length done.links_after ∙ packed_links-length owners links p

  -- the owners
  pub ports_owners : length owners' ≡ length owners
  ports_owners = ap length done.owners_after ∙ packed_owners-length owners p

  -- and the log have kept their lengths,
  pub ports_log : length log' ≡ length log
  ports_log = ap length done.log_after ∙ logged-length log to.at to.place (port_records owners p)

  -- and the owner word of port p is that of the start.
  pub ports_word : get_or owners' p 0 ≡ get_or owners p 0
  ports_word = ap (λ (t : List ℕ). get_or t p 0) done.owners_after ∙ packed_owners_above owners p p (omega arith)

  -- So a port that turn p reads was live at the start, and named the same step,
  pub ports_read : (m : PortMeta) → Some m ≡ port_entry (get_or owners' p 0) → Live owners p × (node_of (get_or owners p 0) ≡ m.node)
  ports_read m read = port_named (get_or owners p 0) m (ap port_entry (sym ports_word) ∙ sym read)

  -- A turn at a free port changes nothing,
  pub ports_free : None ≡ port_entry (get_or owners' p 0) → PackedPorts slots links owners log (p + 1) to slots' links' owners' log' live
  unfolding packed_links packed_owners followed_slots port_records
  ports_free read =
      let e : get_or owners p 0 ≡ 0 = port_none (get_or owners p 0) (ap port_entry (sym ports_word) ∙ sym read) in
      let t : eqb (get_or owners p 0) 0 ≡ true = eq-eqb _ _ e in
      rw
      add-one
      record {
        counted = done.counted ∙ sym (free_port owners p e);
        slots_after = rw t done.slots_after;
        links_after = rw t done.links_after;
        owners_after = rw t done.owners_after;
        log_after = rw t done.log_after;
      }

  -- and at a live one it carries its port down, with its owner word, its step's slot and a record.
  pub ports_live : (m : PortMeta) → Some m ≡ port_entry (get_or owners' p 0)
      → PackedPorts slots links owners log (p + 1) to (followed slots' m.node p live) (moved links' p live) (set owners' live (get_or owners' p 0)) (set_record log' (to.at + live) to.place (rec 3 p live)) (live + 1)
  unfolding packed_links packed_owners followed_slots port_records
  ports_live m read =
      let named = ports_read m read in
      let t : eqb (get_or owners p 0) 0 ≡ false = ne_eqb _ _ named.0 in
      rw
      (add-one, ← named.1, ports_word)
      record {
        counted = rw (live_port owners p named.0, done.counted);
        slots_after = rw (t, done.slots_after, done.counted);
        links_after = rw (t, done.links_after, done.counted);
        owners_after = rw (t, done.owners_after, done.counted);
        log_after =
            rw
            (t, done.log_after, done.counted, ← port_records-length owners p)
            (sym (logged_snoc log to.at to.place (port_records owners p) (rec 3 p (length (port_records owners p)))));
      }

-- What a compaction needs of the slots, or of the ports, that it has packed.
pub ruleset node_laws = (nodes_slots, live_slots_le)

pub ruleset port_laws = (ports_slots, ports_links, ports_owners, live_ports_le)
