-- The tables of ports when the live ports go down to the number of live ports below them: each takes its owner word and its wire with it,
-- and what is left above them is 0.
use Prim.Native.Nat.{ℕ, suc, zero, ◌+◌, ◌-◌, ◌≤◌, ◌<◌}
use mathlib.Core.Path.{◌≡◌, refl, sym, ap, ◌∙◌}
use mathlib.Core.List.{List}
use native.Mathlib.Omega.{arith}
use native.Mathlib.Decide.{ℕ_discrete, dec_lt}
use lib.ListN.{length, get_or, set}
use lib.Seq.{get_or-set_same, get_or-set_other, ext_get_or}
use lib.Dec.{eqb}
use mathlib.Core.Bool.{Bool, true, false}
use borrow.Author.Tests.{eq-eqb, ne_eqb}
use Rattle.slabs.specs.Choice.{pick}
use Rattle.slabs.specs.PortEntry.{Live}
use Rattle.slabs.specs.Links.{wired_outlet, pairs}
use Rattle.slabs.proofs.Shapes.{filled-length}
use Rattle.slabs.proofs.FillLaws.{filled_in, filled_below, filled_above}
use Rattle.slabs.proofs.SumLaws.{sum_ext}
use Rattle.edits.specs.Counts.{some, live_ports}
use Rattle.renumber.specs.Compact.{packed_links, packed_owners, emptied_above}
use Rattle.sound.proofs.OwnerLaws.{pairs_more}
use Rattle.sound.proofs.CountLaws.{some_le, sum_rises, sum_next, sum_past, sum_apart, sum_consecutive, sum_low, sum_onto, sum_ones, some_none, some_one}
use Rattle.sound.proofs.MoveLaws.{LiveWiring, Rekeyed, rekeyed_live, rekeyed_as, rekeyed_wiring, moved_self, owner_moved, owner_moved_self, owner_moved_old, owner_moved_other, placed_here, placed_other, moved_other, Movable, Carried, moved_by, owners_by, placed_by, moves_carried, placed_by_out, owners_by_length, owners_by_other}
use Rattle.sound.proofs.Shapes.{packed_owners_length, links_length}

module _ (owners : List ℕ) where
  -- A port's new number is no greater than its old one,
  pub port_low : (p : ℕ) → live_ports owners p ≤ p
  unfolding live_ports
  port_low p = sum_low (λ q. some (get_or owners q 0)) (λ q. some_le (get_or owners q 0)) p

  -- and no greater than that of a later port,
  pub port_rises : (p q : ℕ) → p ≤ q → live_ports owners p ≤ live_ports owners q
  unfolding live_ports
  port_rises p q = sum_rises (λ r. some (get_or owners r 0)) p q

  -- and a live port's is less.
  pub port_past : (p q : ℕ) → Live owners p → p < q → live_ports owners p < live_ports owners q
  unfolding live_ports
  port_past p q live = sum_past (λ r. some (get_or owners r 0)) p q (some_one (get_or owners p 0) live)

  -- Past a port that is not live the number stays,
  pub past_dead : (p : ℕ) → get_or owners p 0 ≡ 0 → live_ports owners (suc p) ≡ live_ports owners p
  unfolding live_ports
  past_dead p e = omega (arith, sum_next (λ r. some (get_or owners r 0)) p, some_none (get_or owners p 0) e)

  -- and past a live one it is one more.
  pub past_live : (p : ℕ) → Live owners p → live_ports owners (suc p) ≡ suc (live_ports owners p)
  unfolding live_ports
  past_live p n = omega (arith, sum_next (λ r. some (get_or owners r 0)) p, some_one (get_or owners p 0) n)

  -- No two live ports have the same number,
  pub port_apart : (p q : ℕ) → Live owners p → Live owners q → live_ports owners p ≡ live_ports owners q → p ≡ q
  unfolding live_ports
  port_apart p q live live' = sum_apart (λ r. some (get_or owners r 0)) p q (some_one (get_or owners p 0) live) (some_one (get_or owners q 0) live')

  -- each number below the count is a live port's,
  pub port_onto : (mark i : ℕ) → i < live_ports owners mark → (p : ℕ) × (p < mark) × Live owners p × (live_ports owners p ≡ i)
  unfolding live_ports
  port_onto mark i l =
      let (p, b, one, e) = sum_onto (λ r. some (get_or owners r 0)) (λ r. some_le (get_or owners r 0)) mark i l in
      (p, b, (λ z. omega (arith, some_none (get_or owners p 0) z)), e)

  -- and a run of live ports has consecutive numbers.
  pub port_run : (first n : ℕ) → ((i : ℕ) → i < n → Live owners (first + i)) → live_ports owners (first + n) ≡ live_ports owners first + n
  unfolding live_ports
  port_run first n live = sum_consecutive (λ r. some (get_or owners r 0)) first n (λ i l. some_one (get_or owners (first + i) 0) (live i l))

-- where port p goes when its turn comes: a port that is not live stays
unfoldable pub goes_to : List ℕ → ℕ → ℕ
goes_to owners p = pick (eqb (get_or owners p 0) 0) p (live_ports owners p)

-- the owner words once the ports below p have gone down, each taking its own with it
abbrev pub down_owners : List ℕ → ℕ → List ℕ
down_owners owners p = owners_by owners (λ i. i) (goes_to owners) p

module _ (owners : List ℕ) where
  -- A port that is not live stays,
  stays : (p : ℕ) → get_or owners p 0 ≡ 0 → goes_to owners p ≡ p
  unfolding goes_to
  stays p e = rw (eq-eqb (get_or owners p 0) 0 e)

  -- and a live one goes to its new number.
  goes : (p : ℕ) → Live owners p → goes_to owners p ≡ live_ports owners p
  unfolding goes_to
  goes p n = rw (ne_eqb (get_or owners p 0) 0 n)

  -- No port goes up.
  goes_low : (p : ℕ) → goes_to owners p ≤ p
  goes_low p = go (ℕ_discrete (get_or owners p 0) 0)
    where
      go : Dec (get_or owners p 0 ≡ 0) → goes_to owners p ≤ p
      go (yes e) = omega (arith, stays p e)
      go (no n) = omega (arith, goes p n, port_low owners p)

  -- So the packing of the link words is a sequence of moves.
  pub packed_is : (links : List ℕ) (p : ℕ) → packed_links owners links p ≡ moved_by links (λ i. i) (goes_to owners) p
  unfolding packed_links moved_by
  packed_is links zero = refl
  packed_is links (suc p) = go (ℕ_discrete (get_or owners p 0) 0) (packed_is links p)
    where
      go : Dec (get_or owners p 0 ≡ 0) → packed_links owners links p ≡ moved_by links (λ i. i) (goes_to owners) p
          → packed_links owners links (suc p) ≡ moved_by links (λ i. i) (goes_to owners) (suc p)
      go (yes e) below = rw (eq-eqb (get_or owners p 0) 0 e, stays p e, moved_self (moved_by links (λ i. i) (goes_to owners) p) p) below
      go (no n) below = rw (ne_eqb (get_or owners p 0) 0 n, goes p n, below)

  -- A port whose turn has not come has its owner word,
  down_ahead : (n p : ℕ) → n ≤ p → get_or (down_owners owners n) p 0 ≡ get_or owners p 0
  down_ahead n p h = owners_by_other owners (λ i. i) (goes_to owners) n p (λ j l e. omega arith) (λ j l e. omega (arith, goes_low j))

  -- and between the ports that have gone down and it nobody owns a place.
  down_gap : (n p : ℕ) → live_ports owners n ≤ p → p < n → get_or (down_owners owners n) p 0 ≡ 0
  unfolding owners_by
  down_gap zero p h l = absurd (omega arith)
  down_gap (suc n) p h l = go (ℕ_discrete (get_or owners n 0) 0) (ℕ_discrete p n) (down_gap n p)
    where
      go : Dec (get_or owners n 0 ≡ 0) → Dec (p ≡ n) → (live_ports owners n ≤ p → p < n → get_or (down_owners owners n) p 0 ≡ 0)
          → get_or (owner_moved (down_owners owners n) n (goes_to owners n)) p 0 ≡ 0
      go (yes e) (yes here) below = rw (stays n e, owner_moved_self (down_owners owners n) n, here) (down_ahead n n (omega arith) ∙ e)
      go (yes e) (no d) below = rw (stays n e, owner_moved_self (down_owners owners n) n) (below (omega (arith, past_dead owners n e)) (omega arith))
      go (no live) (yes here) below =
          rw here (owner_moved_old (down_owners owners n) n (goes_to owners n) (omega (arith, goes n live, past_live owners n live)))
      go (no live) (no d) below =
          owner_moved_other (down_owners owners n) n (goes_to owners n) p d
          (omega (arith, goes n live, past_live owners n live))
          ∙ below (omega (arith, past_live owners n live)) (omega arith)

  -- So each port can go when its turn comes.
  down_movable : (n m : ℕ) → n < m → Movable (down_owners owners n) n (goes_to owners n) m
  down_movable n m l =
      record {
        live = λ d. rw (down_ahead n n (omega arith)) (λ e. d (sym (stays n e)));
        dead = λ d. dead d (ℕ_discrete (get_or owners n 0) 0);
        from_below = l;
        to_below = omega (arith, goes_low n);
      }
    where
      dead : (n ≡ goes_to owners n → ⊥) → Dec (get_or owners n 0 ≡ 0) → get_or (down_owners owners n) (goes_to owners n) 0 ≡ 0
      dead d (yes e) = absurd (d (sym (stays n e)))
      dead d (no live) = rw (goes n live) (down_gap n (live_ports owners n) (omega arith) (omega (arith, goes n live, port_low owners n)))

  -- A live port has its new number once its turn has come.
  down_placed : (n p : ℕ) → p < n → Live owners p → placed_by (λ i. i) (goes_to owners) n p ≡ live_ports owners p
  unfolding placed_by
  down_placed zero p l live = absurd (omega arith)
  down_placed (suc n) p l live = go (ℕ_discrete p n) (λ b. down_placed n p b live)
    where
      go : Dec (p ≡ n) → (p < n → placed_by (λ i. i) (goes_to owners) n p ≡ live_ports owners p)
          → placed_by (λ i. i) (goes_to owners) (suc n) p ≡ live_ports owners p
      go (yes e) below =
          rw (← e, placed_by_out (λ i. i) (goes_to owners) p p (λ j b z. omega arith)) (placed_here p (goes_to owners p) ∙ goes p live)
      go (no d) below =
          rw (below (omega arith)) (placed_other n (goes_to owners n) (live_ports owners p) (omega (arith, port_low owners p)))

-- What is left above the live ports is 0:
module _ (table : List ℕ) (live mark : ℕ) where
  -- the words below them stay,
  pub emptied_below : (p : ℕ) → p < live → get_or (emptied_above table live mark) p 0 ≡ get_or table p 0
  unfolding emptied_above
  emptied_below p l = filled_below table live (mark - live) 0 p l

  -- those below the mark are 0,
  pub emptied_in : (p : ℕ) → mark ≤ length table → live ≤ p → p < mark → get_or (emptied_above table live mark) p 0 ≡ 0
  unfolding emptied_above
  emptied_in p room h l =
      let e : p ≡ live + (p - live) = omega arith in
      rw e (filled_in table live (mark - live) 0 (p - live) (omega arith) (omega arith))

  -- and those above it stay.
  pub emptied_above_lem : (p : ℕ) → live ≤ mark → mark ≤ p → get_or (emptied_above table live mark) p 0 ≡ get_or table p 0
  unfolding emptied_above
  emptied_above_lem p low h = filled_above table live (mark - live) 0 p (omega arith)

  -- The table is as long.
  pub emptied_length : length (emptied_above table live mark) ≡ length table
  unfolding emptied_above
  emptied_length = filled-length table live (mark - live) 0

module _ (owners : List ℕ) where
  -- The owner words of ports whose turn has not come are as they were,
  owners_ahead : (n p : ℕ) → n ≤ p → get_or (packed_owners owners n) p 0 ≡ get_or owners p 0
  unfolding packed_owners
  owners_ahead zero p h = refl
  owners_ahead (suc n) p h = go (eqb (get_or owners n 0) 0) (owners_ahead n p (omega arith))
    where
      go : (t : Bool) → get_or (packed_owners owners n) p 0 ≡ get_or owners p 0
          → get_or (pick t (packed_owners owners n) (set (packed_owners owners n) (live_ports owners n) (get_or owners n 0))) p 0 ≡ get_or owners p 0
      go true below = below
      go false below =
          get_or-set_other (packed_owners owners n) (live_ports owners n) p (get_or owners n 0) 0 (omega (arith, port_low owners n)) ∙ below

  -- and a port that has gone down has its owner word.
  owners_down : (n p : ℕ) → n ≤ length owners → p < n → Live owners p → get_or (packed_owners owners n) (live_ports owners p) 0 ≡ get_or owners p 0
  unfolding packed_owners
  owners_down zero p room l live = absurd (omega arith)
  owners_down (suc n) p room l live = go (ℕ_discrete p n) (ℕ_discrete (get_or owners n 0) 0) (λ b. owners_down n p (omega arith) b live)
    where
      go : Dec (p ≡ n) → Dec (get_or owners n 0 ≡ 0) → (p < n → get_or (packed_owners owners n) (live_ports owners p) 0 ≡ get_or owners p 0)
          → get_or (packed_owners owners (suc n)) (live_ports owners p) 0 ≡ get_or owners p 0
      go (yes here) (yes e) below = absurd (live (rw here e))
      go (yes here) (no k) below =
          rw (here, ne_eqb (get_or owners n 0) 0 k)
          (get_or-set_same (packed_owners owners n) (live_ports owners n) (get_or owners n 0) 0
          (omega (arith, port_low owners n, packed_owners_length owners n)))
      go (no d) (yes e) below = rw (eq-eqb (get_or owners n 0) 0 e) (below (omega arith))
      go (no d) (no k) below =
          rw (ne_eqb (get_or owners n 0) 0 k)
          (get_or-set_other (packed_owners owners n) (live_ports owners n) (live_ports owners p) (get_or owners n 0) 0
          (omega (arith, port_past owners p n live (omega arith)))
          ∙ below (omega arith))

-- What the tables of ports are once the live ports below the mark have gone down.
pub record PortsDown (owners links owners' links' : List ℕ) (mark : ℕ) : Type 0 where
  pub rekeyed : Rekeyed owners links owners' links' (live_ports owners)
  pub owners_above : (p : ℕ) → live_ports owners mark ≤ p → get_or owners' p 0 ≡ 0
  pub links_above : (p : ℕ) → live_ports owners mark ≤ p → get_or links' p 0 ≡ 0
  pub wires : pairs owners' links' (live_ports owners mark) ≡ pairs owners links mark

module _ (owners links : List ℕ) (mark : ℕ) (wiring : LiveWiring owners links) (equal : length owners ≡ length links)
    (inside : mark ≤ length links) (owners_blank : (p : ℕ) → mark ≤ p → get_or owners p 0 ≡ 0)
    (links_blank : (p : ℕ) → mark ≤ p → get_or links p 0 ≡ 0) where
  -- After each step the live ports are rekeyed,
  down_carried : (n : ℕ) → n ≤ mark
      → Carried owners links (down_owners owners n) (packed_links owners links n) (placed_by (λ i. i) (goes_to owners) n) mark
  down_carried n h =
      rw (packed_is owners links n)
      (moves_carried owners links (λ i. i) (goes_to owners) mark wiring equal inside n (λ i l. down_movable owners i mark (omega arith)))

  -- and no word above the mark changes.
  down_above : (n : ℕ) → n ≤ mark → (p : ℕ) → mark ≤ p → get_or (packed_links owners links n) p 0 ≡ 0
  unfolding packed_links
  down_above zero h p l = links_blank p l
  down_above (suc n) h p l = go (ℕ_discrete (get_or owners n 0) 0) (ℕ_discrete n (live_ports owners n)) (down_above n (omega arith) p l)
    where
      so_far : Carried owners links (down_owners owners n) (packed_links owners links n) (placed_by (λ i. i) (goes_to owners) n) mark
      so_far = down_carried n (omega arith)

      wired : LiveWiring (down_owners owners n) (packed_links owners links n)
      wired = rekeyed_wiring so_far.rekeyed wiring

      here : Live owners n → Live (down_owners owners n) n
      here live = rw (down_ahead owners n n (omega arith)) live

      go : Dec (get_or owners n 0 ≡ 0) → Dec (n ≡ live_ports owners n) → get_or (packed_links owners links n) p 0 ≡ 0
          → get_or (packed_links owners links (suc n)) p 0 ≡ 0
      go (yes e) d below = rw (eq-eqb (get_or owners n 0) 0 e) below
      go (no live) (yes e) below = rw (ne_eqb (get_or owners n 0) 0 live, ← e, moved_self (packed_links owners links n) n) below
      go (no live) (no d) below =
          rw (ne_eqb (get_or owners n 0) 0 live)
          (moved_other (down_owners owners n) (packed_links owners links n) n (live_ports owners n) d (here live)
          (down_gap owners n (live_ports owners n) (omega arith) (omega (arith, port_low owners n))) wired
          (omega (arith, so_far.owners_length, so_far.links_length)) (omega (arith, so_far.links_length, port_low owners n)) p (omega arith)
          (omega (arith, port_low owners n))
          (λ e. (wired n p (here live) e).there (down_ahead owners n p (omega arith) ∙ owners_blank p l))
          ∙ below)

  -- A live port is below the mark.
  live_below : (p : ℕ) → Live owners p → p < mark
  live_below p live = let out : mark ≤ p → ⊥ = λ h. live (owners_blank p h) in omega arith

  -- So in the end each live port has its new number,
  down_rekeyed : Rekeyed owners links (down_owners owners mark) (packed_links owners links mark) (live_ports owners)
  down_rekeyed =
      rekeyed_as (live_ports owners) wiring (λ p live. down_placed owners mark p (live_below p live) live) (down_carried mark (omega arith)).rekeyed

  -- and the owner words are those of the ports that have gone down.
  down_owners_lem : emptied_above (packed_owners owners mark) (live_ports owners mark) mark ≡ down_owners owners mark
  down_owners_lem =
      ext_get_or 0 table (down_owners owners mark) (long ∙ sym (owners_by_length owners (λ i. i) (goes_to owners) mark))
      (λ i l. go i (dec_lt i (live_ports owners mark)) (dec_lt i mark))
    where
      table : List ℕ
      table = emptied_above (packed_owners owners mark) (live_ports owners mark) mark

      long : length table ≡ length owners
      long = emptied_length (packed_owners owners mark) (live_ports owners mark) mark ∙ packed_owners_length owners mark

      go : (i : ℕ) → Dec (i < live_ports owners mark) → Dec (i < mark) → get_or table i 0 ≡ get_or (down_owners owners mark) i 0
      go i (yes l) d =
          let (p, b, live, e) = port_onto owners mark i l in
          emptied_below (packed_owners owners mark) (live_ports owners mark) mark i l
          ∙ rw (← e) (owners_down owners mark p (omega arith) b live ∙ sym (down_rekeyed.owner p live))
      go i (no l) (yes b) =
          emptied_in (packed_owners owners mark) (live_ports owners mark) mark i (omega (arith, packed_owners_length owners mark)) (omega arith) b
          ∙ sym (down_gap owners mark i (omega arith) b)
      go i (no l) (no b) =
          emptied_above_lem (packed_owners owners mark) (live_ports owners mark) mark i (port_low owners mark) (omega arith)
          ∙ owners_ahead owners mark i (omega arith)
          ∙ sym (down_ahead owners mark i (omega arith))

  -- The tables of ports once the live ports have gone down.
  pub ports_down : PortsDown owners links (emptied_above (packed_owners owners mark) (live_ports owners mark) mark)
      (emptied_above (packed_links owners links mark) (live_ports owners mark) mark) mark
  unfolding pairs
  ports_down =
      rw down_owners_lem
      (record {
        rekeyed =
            record {
              owner = down_rekeyed.owner;
              link = λ p live. same (live_ports owners p) (port_past owners p mark live (live_below p live)) ∙ down_rekeyed.link p live;
              apart = down_rekeyed.apart;
              onto = down_rekeyed.onto;
            };
        owners_above = bare;
        links_above = λ p h. above p h (dec_lt p mark);
        wires =
            fewer ∙ sym (pairs_more (down_owners owners mark) (packed_links owners links mark) live mark (port_low owners mark) bare)
            ∙ (down_carried mark (omega arith)).wires;
      })
    where
      live : ℕ
      live = live_ports owners mark

      links' : List ℕ
      links' = emptied_above (packed_links owners links mark) live mark

      same : (p : ℕ) → p < live → get_or links' p 0 ≡ get_or (packed_links owners links mark) p 0
      same p l = emptied_below (packed_links owners links mark) live mark p l

      bare : (p : ℕ) → live ≤ p → get_or (down_owners owners mark) p 0 ≡ 0
      bare p h = go (dec_lt p mark)
        where
          go : Dec (p < mark) → get_or (down_owners owners mark) p 0 ≡ 0
          go (yes l) = down_gap owners mark p h l
          go (no l) = down_ahead owners mark p (omega arith) ∙ owners_blank p (omega arith)

      above : (p : ℕ) → live ≤ p → Dec (p < mark) → get_or links' p 0 ≡ 0
      above p h (yes l) = emptied_in (packed_links owners links mark) live mark p (omega (arith, links_length owners links mark)) h l
      above p h (no l) =
          emptied_above_lem (packed_links owners links mark) live mark p (port_low owners mark) (omega arith) ∙ down_above mark (omega arith) p (omega arith)

      fewer : pairs (down_owners owners mark) links' live ≡ pairs (down_owners owners mark) (packed_links owners links mark) live
      fewer = sum_ext _ _ live (λ p l. ap (wired_outlet (get_or (down_owners owners mark) p 0)) (same p l))

module _ (owners links owners' links' : List ℕ) (mark : ℕ) (down : PortsDown owners links owners' links' mark) where
  -- Then every port below the new mark is live,
  pub down_live : (p : ℕ) → p < live_ports owners mark → Live owners' p
  down_live p l =
      let (q, b, live, e) = port_onto owners mark p l in
      rw (← e) (rekeyed_live down.rekeyed q live)

  -- and they are as many.
  pub down_ports : live_ports owners' (live_ports owners mark) ≡ live_ports owners mark
  unfolding live_ports
  down_ports = sum_ones (λ p. some (get_or owners' p 0)) (live_ports owners mark) (λ p l. some_one (get_or owners' p 0) (down_live p l))
