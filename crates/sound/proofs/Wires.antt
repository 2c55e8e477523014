-- Link and unlink keep a store sound: they change link words of held ports alone, and count the wires.
use Prim.Native.Nat.{ℕ, suc, ◌+◌, ◌-◌, ◌≤◌, ◌<◌}
use mathlib.Core.Path.{◌≡◌, refl, sym, ap, ◌∙◌}
use mathlib.Core.List.{List}
use mathlib.Core.Bool.{Bool, true, false}
use native.Mathlib.Numerals.{add-one}
use native.Mathlib.Omega.{arith}
use native.Mathlib.Decide.{ℕ_discrete}
use lib.ListN.{length, get_or, set, length-set}
use lib.Seq.{get_or-set_same, get_or-set_other, set-set, set-get_or}
use lib.Dec.{eqb, ltb}
use borrow.Author.Tests.{ltb-true, eqb-true, eqb-false}
use Rattle.slabs.specs.Choice.{pick}
use Rattle.slabs.specs.PortEntry.{Live, direction_word, node_of, direction_of, facing, port_entry}
use Rattle.slabs.specs.Links.{Wiring, Mate, pairs, cut_at, wired_at, link_at}
use Rattle.slabs.specs.declared.counters.Counters.{Counters}
use Rattle.slabs.specs.declared.port_entry.Direction.{Direction}
use Rattle.slabs.specs.declared.port_entry.PortMeta.{PortMeta}
use Rattle.slabs.proofs.Shapes.{cut_at_length}
use Rattle.slabs.proofs.EntryLaws.{direction_le, facing_word}
use Rattle.slabs.proofs.SlabLaws.{slabs_kept}
use Rattle.slabs.proofs.WireLaws.{pairs_cleared, cut_at_other, cut_at_wiring, cut_at_pairs}
use Rattle.edits.specs.Store.{Store, port_at, on_port, on_link}
use Rattle.edits.specs.Answer.{is_done, done}
use Rattle.edits.specs.Linking.{pair_answer, link_answer, joined, unlink_answer}
use Rattle.edits.specs.declared.answer.Refusal.TheVariants.{NoPort, SameDirection, AlreadyLinked, NotLinked}
use Rattle.std.specs.Prelude.{Option, Some, None, Err}
use Rattle.std.proofs.lemmas.Option.{same_Some}
use Rattle.calls.specs.Call.{rewired, link_call, unlink_call}
use Rattle.sound.specs.Sound.{Shaped, Sound, held_in}
use Rattle.sound.proofs.Parts.{Parts, parts_of, sound_of, unheld, slot_table, chain_of, parts_by}
use Rattle.sound.proofs.Fits.{live_held}
use Rattle.sound.proofs.Kept.{decided_store, false_true}

-- the counters with another count of wires
abbrev pub relinked : Counters → ℕ → Counters
relinked c wires = record { nodemark = c.nodemark; portmark = c.portmark; freeslot = c.freeslot; nodes = c.nodes; ports = c.ports; links = wires }

-- Other link words of held ports leave a sound store, where they are wires and are counted.
pub rewired_sound : (s : Store) → Shaped s → Sound s → (links : List ℕ) (wires : ℕ) → length links ≡ length s.links
    → ((p : ℕ) → held_in s p ≡ 0 → get_or links p 0 ≡ get_or s.links p 0)
    → Wiring s.owners links (held_in s)
    → wires ≡ pairs s.owners links s.counters.portmark
    → Sound (rewired s links (relinked s.counters wires))
rewired_sound s shaped sound links wires long still wiring count =
    let P : Parts s = parts_of s shaped sound in
    sound_of _
    (parts_by (rewired s links (relinked s.counters wires)) (slot_table s P) (chain_of s P)
    (record {
      slabs = slabs_kept P.slabs links s.owners long refl still (λ p h. refl);
      wiring = wiring;
      ports_counted = P.counted.ports;
      wires_counted = count;
    })
    P.owned)

-- What a number says as a port below the mark, it is.
pub port_live : (owners : List ℕ) (mark p : ℕ) (m : PortMeta) → port_at owners mark p ≡ Some m
    → (p < mark) × Live owners p × (m.node ≡ node_of (get_or owners p 0)) × (direction_word m.direction ≡ direction_of (get_or owners p 0))
unfolding port_at port_entry
port_live owners mark p m e = go (ltb p mark) refl (eqb (get_or owners p 0) 0) refl e
  where
    go : (below : Bool) → ltb p mark ≡ below → (none : Bool) → eqb (get_or owners p 0) 0 ≡ none
        → pick below (pick none None (Some (record { node = node_of (get_or owners p 0); direction = facing (get_or owners p 0) }))) None ≡ Some m
        → (p < mark) × Live owners p × (m.node ≡ node_of (get_or owners p 0)) × (direction_word m.direction ≡ direction_of (get_or owners p 0))
    go true l false w e =
        let is : m ≡ record { node = node_of (get_or owners p 0); direction = facing (get_or owners p 0) } = sym (same_Some _ _ e) in
        (ltb-true p mark l, eqb-false (get_or owners p 0) 0 w, ap (λ (x : PortMeta). x.node) is, ap (λ (x : PortMeta). direction_word x.direction) is ∙ facing_word (get_or owners p 0))
    go true l true w e = absurd (cc e)
    go false l none w e = absurd (cc e)

-- two live ports without a wire that face opposite ways
pub record CanJoin (owners links : List ℕ) (mark a b : ℕ) : Type 0 where
  pub a_below : a < mark
  pub b_below : b < mark
  pub a_live : Live owners a
  pub b_live : Live owners b
  pub across : direction_of (get_or owners a 0) ≡ direction_of (get_or owners b 0) → ⊥
  pub a_loose : get_or links a 0 ≡ 0
  pub b_loose : get_or links b 0 ≡ 0

-- Only such a pair can be linked.
pub link_done : (owners links : List ℕ) (mark a b : ℕ) → is_done (link_answer owners links mark a b) ≡ true → CanJoin owners links mark a b
unfolding link_answer
link_done owners links mark a b e = go (port_at owners mark a) refl (port_at owners mark b) refl e
  where
    pair : (d f : Direction) (same : Bool) → eqb (direction_word d) (direction_word f) ≡ same → (la : Bool) → eqb (get_or links a 0) 0 ≡ la → (lb : Bool) → eqb (get_or links b 0) 0 ≡ lb
        → is_done (pick same (Err (SameDirection a b (direction_word d))) (pick la (pick lb (done a b 0) (Err (AlreadyLinked b))) (Err (AlreadyLinked a)))) ≡ true
        → (direction_word d ≡ direction_word f → ⊥) × (get_or links a 0 ≡ 0) × (get_or links b 0 ≡ 0)
    pair d f false n true la true lb e = (eqb-false (direction_word d) (direction_word f) n, eqb-true (get_or links a 0) 0 la, eqb-true (get_or links b 0) 0 lb)
    pair d f false n true la false lb e = absurd (false_true e)
    pair d f false n false la lb lb' e = absurd (false_true e)
    pair d f true n la la' lb lb' e = absurd (false_true e)

    go : (here : Option PortMeta) → port_at owners mark a ≡ here → (there : Option PortMeta) → port_at owners mark b ≡ there
        → is_done (on_port here (λ m. on_port there (λ n. pair_answer links a b m.direction n.direction) (Err (NoPort a))) (Err (NoPort a))) ≡ true
        → CanJoin owners links mark a b
    go (Some m) is (Some n) is' e =
        let (below, live, k, faces) = port_live owners mark a m is in
        let (below', live', k', faces') = port_live owners mark b n is' in
        let (across, loose, loose') = pair m.direction n.direction (eqb (direction_word m.direction) (direction_word n.direction)) refl (eqb (get_or links a 0) 0) refl (eqb (get_or links b 0) 0) refl e in
        record {
          a_below = below;
          b_below = below';
          a_live = live;
          b_live = live';
          across = λ same. across (faces ∙ same ∙ sym faces');
          a_loose = loose;
          b_loose = loose';
        }
    go (Some m) is None is' e = absurd (false_true e)
    go None is there is' e = absurd (false_true e)

-- A live port that gets a wire adds its direction to the count.
pub pairs_set : (owners links : List ℕ) (p q m : ℕ) → p < m → m ≤ length links → Live owners p → get_or links p 0 ≡ 0
    → pairs owners (set links p (suc q)) m ≡ pairs owners links m + direction_of (get_or owners p 0)
pairs_set owners links p q m b inside live e =
    let back : set (set links p (suc q)) p 0 ≡ links = set-set links p (suc q) 0 ∙ rw (← e) (set-get_or links p 0) in
    sym (rw back at (pairs_cleared owners (set links p (suc q)) p q m b live (get_or-set_same links p (suc q) 0 (omega arith))))

module _ (owners links : List ℕ) (mark a b : ℕ) (inside : mark ≤ length links) (can : CanJoin owners links mark a b) where
  -- The two ports differ.
  join_apart : a ≡ b → ⊥
  join_apart e = can.across (rw e)

  -- After a join a's word names b,
  joined_a : get_or (joined links a b) a 0 ≡ suc b
  unfolding joined
  joined_a = get_or-set_other (set links a (b + 1)) b a (a + 1) 0 join_apart ∙ get_or-set_same links a (b + 1) 0 (omega arith) ∙ add-one b

  -- b's word names a,
  joined_b : get_or (joined links a b) b 0 ≡ suc a
  unfolding joined
  joined_b = get_or-set_same (set links a (b + 1)) b (a + 1) 0 (omega (arith, length-set links a (b + 1))) ∙ add-one a

  -- and no other word changes.
  joined_other : (p : ℕ) → (p ≡ a → ⊥) → (p ≡ b → ⊥) → get_or (joined links a b) p 0 ≡ get_or links p 0
  unfolding joined
  joined_other p na nb = get_or-set_other (set links a (b + 1)) b p (a + 1) 0 nb ∙ get_or-set_other links a p (b + 1) 0 na

  -- Rule 6 stays true,
  joined_wiring : (held : ℕ → ℕ) → Wiring owners links held → Wiring owners (joined links a b) held
  joined_wiring held wiring p q h e = go (ℕ_discrete p a) (ℕ_discrete p b)
    where
      go : Dec (p ≡ a) → Dec (p ≡ b) → Mate owners (joined links a b) p q
      go (yes here) d =
          let there : q ≡ b = omega (arith, joined_a, rw here at e) in
          rw (here, there) (record { here = can.a_live; there = can.b_live; across = can.across; back = joined_b })
      go (no na) (yes here) =
          let there : q ≡ a = omega (arith, joined_b, rw here at e) in
          rw (here, there) (record { here = can.b_live; there = can.a_live; across = λ same. can.across (sym same); back = joined_a })
      go (no na) (no nb) =
          let mate = wiring p q h (sym (joined_other p na nb) ∙ e) in
          record {
            here = mate.here;
            there = mate.there;
            across = mate.across;
            back = joined_other q (λ x. omega (arith, can.a_loose, rw x at mate.back)) (λ x. omega (arith, can.b_loose, rw x at mate.back)) ∙ mate.back;
          }

  -- and there is one wire more.
  joined_pairs : pairs owners (joined links a b) mark ≡ pairs owners links mark + 1
  unfolding joined
  joined_pairs =
      let loose : get_or (set links a (suc b)) b 0 ≡ 0 = get_or-set_other links a b (suc b) 0 (λ e. join_apart (sym e)) ∙ can.b_loose in
      rw (add-one b, add-one a)
      (omega (
        arith,
        can.across,
        direction_le (get_or owners a 0),
        direction_le (get_or owners b 0),
        pairs_set owners links a b mark can.a_below inside can.a_live can.a_loose,
        pairs_set owners (set links a (suc b)) b a mark can.b_below (omega (arith, length-set links a (suc b))) can.b_live loose,
      ))

-- A join leaves the length of the table.
pub joined_length : (links : List ℕ) (a b : ℕ) → length (joined links a b) ≡ length links
unfolding joined
joined_length links a b = simp length-set

-- Link keeps a store sound.
pub link_sound : (s : Store) → Shaped s → Sound s → (a b : ℕ) → Sound (link_call s a b).store
unfolding link_call
link_sound s shaped sound a b = decided_store _ s _ _ Sound sound doing
  where
    doing : is_done (link_answer s.owners s.links s.counters.portmark a b) ≡ true
        → Sound (rewired s (joined s.links a b) (relinked s.counters (s.counters.links + 1)))
    doing e =
        let can = link_done s.owners s.links s.counters.portmark a b e in
        let inside = sound.marks.ports_inside in
        let apart : (c : ℕ) → Live s.owners c → (p : ℕ) → held_in s p ≡ 0 → p ≡ c → ⊥ = λ c live p h x. live (rw x at (sound.owners.free p h)) in
        rewired_sound s shaped sound (joined s.links a b) (s.counters.links + 1) (joined_length s.links a b)
        (λ p h. joined_other s.owners s.links s.counters.portmark a b inside can p (apart a can.a_live p h) (apart b can.b_live p h))
        (joined_wiring s.owners s.links s.counters.portmark a b inside can (held_in s) sound.links.wiring)
        (omega (arith, sound.counted.links, joined_pairs s.owners s.links s.counters.portmark a b inside can))

-- Only a live port can be unlinked.
pub unlink_done : (owners links : List ℕ) (mark port : ℕ) → is_done (unlink_answer owners links mark port) ≡ true
    → (port < mark) × Live owners port
unfolding unlink_answer
unlink_done owners links mark port e = go (port_at owners mark port) refl e
  where
    go : (here : Option PortMeta) → port_at owners mark port ≡ here
        → is_done (on_port here (λ m. on_link (link_at links port) (λ partner. done partner 0 0) (Err (NotLinked port))) (Err (NoPort port))) ≡ true
        → (port < mark) × Live owners port
    go (Some m) is e = let (below, live, k, faces) = port_live owners mark port m is in (below, live)
    go None is e = absurd (false_true e)

-- Unlink keeps a store sound.
pub unlink_sound : (s : Store) → Shaped s → Sound s → (port : ℕ) → Sound (unlink_call s port).store
unfolding unlink_call
unlink_sound s shaped sound port = decided_store _ s _ _ Sound sound doing
  where
    bare : (p : ℕ) → held_in s p ≡ 0 → get_or s.owners p 0 ≡ 0
    bare = sound.owners.free

    doing : is_done (unlink_answer s.owners s.links s.counters.portmark port) ≡ true
        → Sound (rewired s (cut_at s.links port) (relinked s.counters (s.counters.links - wired_at s.links port)))
    doing e =
        let (below, live) = unlink_done s.owners s.links s.counters.portmark port e in
        let held : 1 ≤ held_in s port = live_held s sound port live in
        let wiring = sound.links.wiring in
        let top : (r : ℕ) → s.counters.portmark ≤ r → held_in s r ≡ 0 = unheld s (parts_of s shaped sound) in
        rewired_sound s shaped sound (cut_at s.links port) (s.counters.links - wired_at s.links port) (cut_at_length s.links port)
        (λ p h. cut_at_other s.links port p (λ x. live (rw x at (bare p h))) (λ x. (wiring port p held x).there (bare p h)))
        (cut_at_wiring s.owners s.links (held_in s) wiring bare port held)
        (omega (arith, sound.counted.links, cut_at_pairs s.owners s.links (held_in s) wiring bare port held s.counters.portmark top))
