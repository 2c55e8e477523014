-- Ports that get new numbers: a port that moves takes its owner word and its link word with it, and its mate's word follows. What that
-- leaves of rules 6 and 7, for one move and for a sequence of moves.
use Prim.Native.Nat.{ℕ, suc, zero, ◌+◌, ◌-◌, ◌≤◌, ◌<◌}
use mathlib.Core.List.{List}
use mathlib.Core.Logic.{◌⊎◌, inl, inr}
use mathlib.Core.Path.{◌≡◌, refl, sym, ap, ◌∙◌}
use mathlib.Core.Bool.{Bool, true, false}
use native.Mathlib.Omega.{arith}
use native.Mathlib.Numerals.{add-one}
use native.Mathlib.Decide.{ℕ_discrete}
use lib.ListN.{length, get_or, set, length-set, get_or-eq_default}
use lib.Seq.{get_or-set_same, get_or-set_other}
use lib.Dec.{eqb}
use borrow.Author.Tests.{eq-eqb, ne_eqb}
use Rattle.slabs.specs.Choice.{pick}
use Rattle.slabs.specs.PortEntry.{Live}
use Rattle.slabs.specs.Links.{Mate, Wiring, wired_outlet, pairs}
use Rattle.slabs.proofs.WireLaws.{set_zero}
use Rattle.edits.specs.Counts.{some, live_ports}
use Rattle.renumber.specs.Moves.{carried, moved, turn, moved_run}
use Rattle.renumber.specs.declared.moves.Run.{Run}
use Rattle.sound.proofs.CountLaws.{sum_swap}

-- rule 6 over the live ports
abbrev pub LiveWiring : List ℕ → List ℕ → Type 0
LiveWiring owners links = (p q : ℕ) → Live owners p → get_or links p 0 ≡ suc q → Mate owners links p q

-- a port's new number, where the port old gets the number new
unfoldable pub placed : ℕ → ℕ → ℕ → ℕ
placed old new p = pick (eqb p old) new p

-- the owner words where a port takes its own with it
unfoldable pub owner_moved : List ℕ → ℕ → ℕ → List ℕ
owner_moved owners old new = pick (eqb old new) owners (set (set owners old 0) new (get_or owners old 0))

-- a word that names a port or a slot, or none, once that has a new number
abbrev pub carry : (ℕ → ℕ) → ℕ → ℕ
carry ρ zero = 0
carry ρ (suc q) = suc (ρ q)

-- The live ports have new numbers, each with its owner word and with its link word carried; no two have the same, and no other port is live.
pub record Rekeyed (owners links owners' links' : List ℕ) (ρ : ℕ → ℕ) : Type 0 where
  pub owner : (p : ℕ) → Live owners p → get_or owners' (ρ p) 0 ≡ get_or owners p 0
  pub link : (p : ℕ) → Live owners p → get_or links' (ρ p) 0 ≡ carry ρ (get_or links p 0)
  pub apart : (p q : ℕ) → Live owners p → Live owners q → ρ p ≡ ρ q → p ≡ q
  pub onto : (p : ℕ) → Live owners' p → (q : ℕ) × Live owners q × (ρ q ≡ p)

-- The other ports: a port that is live neither before nor after keeps its link word, one that is live no more has none, and one that is
-- live now had none.
pub record Quiet (owners links owners' links' : List ℕ) : Type 0 where
  pub still : (p : ℕ) → get_or owners p 0 ≡ 0 → get_or owners' p 0 ≡ 0 → get_or links' p 0 ≡ get_or links p 0
  pub left : (p : ℕ) → Live owners p → get_or owners' p 0 ≡ 0 → get_or links' p 0 ≡ 0
  pub taken : (p : ℕ) → get_or owners p 0 ≡ 0 → Live owners' p → get_or links p 0 ≡ 0

-- A number carried twice is carried once by both.
carry_then : (ρ σ : ℕ → ℕ) (w : ℕ) → carry σ (carry ρ w) ≡ carry (λ p. σ (ρ p)) w
carry_then ρ σ zero = refl
carry_then ρ σ (suc q) = refl

-- What a word names alone says how it is carried,
pub carry_as : (ρ σ : ℕ → ℕ) (w : ℕ) → ((q : ℕ) → w ≡ suc q → ρ q ≡ σ q) → carry ρ w ≡ carry σ w
carry_as ρ σ zero same = refl
carry_as ρ σ (suc q) same = ap suc (same q refl)

-- and where that stays the word stays.
pub carry_still : (ρ : ℕ → ℕ) (w : ℕ) → ((q : ℕ) → w ≡ suc q → ρ q ≡ q) → carry ρ w ≡ w
carry_still ρ zero same = refl
carry_still ρ (suc q) same = ap suc (same q refl)

-- Nothing moves.
pub rekeyed_refl : (owners links : List ℕ) → Rekeyed owners links owners links (λ p. p)
rekeyed_refl owners links =
    record {
      owner = λ p live. refl;
      link = λ p live. sym (carry_still (λ q. q) (get_or links p 0) (λ q e. refl));
      apart = λ p q lp lq e. e;
      onto = λ p live. (p, live, refl);
    }

-- A port that moves is live at its new number.
pub rekeyed_live : {owners links owners' links' : List ℕ} {ρ : ℕ → ℕ} → Rekeyed owners links owners' links' ρ
    → (p : ℕ) → Live owners p → Live owners' (ρ p)
rekeyed_live r p live e = live (sym (r.owner p live) ∙ e)

-- New numbers, and new numbers again.
pub rekeyed_then : {o l o' l' o'' l'' : List ℕ} {ρ σ : ℕ → ℕ} → Rekeyed o l o' l' ρ → Rekeyed o' l' o'' l'' σ
    → Rekeyed o l o'' l'' (λ p. σ (ρ p))
rekeyed_then {l = l} {ρ = ρ} {σ = σ} r s =
    record {
      owner = λ p live. s.owner (ρ p) (rekeyed_live r p live) ∙ r.owner p live;
      link = λ p live. s.link (ρ p) (rekeyed_live r p live) ∙ ap (carry σ) (r.link p live) ∙ carry_then ρ σ (get_or l p 0);
      apart = λ p q lp lq e. r.apart p q lp lq (s.apart (ρ p) (ρ q) (rekeyed_live r p lp) (rekeyed_live r q lq) e);
      onto = λ p live.
          let (q, lq, e) = s.onto p live in
          let (x, lx, f) = r.onto q lq in
          (x, lx, ap σ f ∙ e);
    }

-- The numbers matter at live ports alone.
pub rekeyed_as : {o l o' l' : List ℕ} {ρ : ℕ → ℕ} (σ : ℕ → ℕ) → LiveWiring o l → ((p : ℕ) → Live o p → ρ p ≡ σ p)
    → Rekeyed o l o' l' ρ → Rekeyed o l o' l' σ
rekeyed_as {o = o} {l = l} {l' = l'} {ρ = ρ} σ wiring same r =
    record {
      owner = λ p live. rw (← same p live) (r.owner p live);
      link = λ p live. rw (← same p live) (r.link p live ∙ carry_as ρ σ (get_or l p 0) (λ q e. same q (wiring p q live e).there));
      apart = λ p q lp lq e. r.apart p q lp lq (same p lp ∙ e ∙ sym (same q lq));
      onto = λ p live. let (q, lq, e) = r.onto p live in (q, lq, sym (same q lq) ∙ e);
    }

-- The tables matter by their words alone, and the link words at live ports alone.
pub rekeyed_same : {o l o' l' : List ℕ} {ρ : ℕ → ℕ} (o'' l'' : List ℕ) → ((p : ℕ) → get_or o'' p 0 ≡ get_or o' p 0)
    → ((p : ℕ) → Live o' p → get_or l'' p 0 ≡ get_or l' p 0) → Rekeyed o l o' l' ρ → Rekeyed o l o'' l'' ρ
rekeyed_same {ρ = ρ} o'' l'' owners links r =
    record {
      owner = λ p live. owners (ρ p) ∙ r.owner p live;
      link = λ p live. links (ρ p) (rekeyed_live r p live) ∙ r.link p live;
      apart = r.apart;
      onto = λ p live. r.onto p (λ e. live (owners p ∙ e));
    }

-- Mates are mates at their new numbers,
pub rekeyed_mate : {o l o' l' : List ℕ} {ρ : ℕ → ℕ} → Rekeyed o l o' l' ρ → (p q : ℕ) → Mate o l p q → Mate o' l' (ρ p) (ρ q)
rekeyed_mate {ρ = ρ} r p q mate =
    record {
      here = rekeyed_live r p mate.here;
      there = rekeyed_live r q mate.there;
      across = rw (r.owner p mate.here, r.owner q mate.there) mate.across;
      back = r.link q mate.there ∙ ap (carry ρ) mate.back;
    }

-- so rule 6 stays true of the live ports.
pub rekeyed_wiring : {o l o' l' : List ℕ} {ρ : ℕ → ℕ} → Rekeyed o l o' l' ρ → LiveWiring o l → LiveWiring o' l'
rekeyed_wiring {o = o} {l = l} {o' = o'} {l' = l'} {ρ = ρ} r wiring p q live e =
    let (x, lx, f) = r.onto p live in
    go x lx f (get_or l x 0) refl
  where
    go : (x : ℕ) → Live o x → ρ x ≡ p → (w : ℕ) → get_or l x 0 ≡ w → Mate o' l' p q
    go x lx f zero g = absurd (omega (arith, sym (ap (λ y. get_or l' y 0) f) ∙ r.link x lx ∙ ap (carry ρ) g))
    go x lx f (suc y) g =
        let h : ρ y ≡ q = omega (arith, sym (ap (λ z. get_or l' z 0) f) ∙ r.link x lx ∙ ap (carry ρ) g) in
        rw (← f, ← h) (rekeyed_mate r x y (wiring x y lx g))

-- Quiet twice is quiet.
pub quiet_then : {o l o' l' o'' l'' : List ℕ} → Quiet o l o' l' → Quiet o' l' o'' l'' → Quiet o l o'' l''
quiet_then {o = o} {l = l} {o' = o'} {l' = l'} {o'' = o''} {l'' = l''} a b =
    record {
      still = λ p d e. still p d e (ℕ_discrete (get_or o' p 0) 0);
      left = λ p d e. left p d e (ℕ_discrete (get_or o' p 0) 0);
      taken = λ p d e. taken p d e (ℕ_discrete (get_or o' p 0) 0);
    }
  where
    still : (p : ℕ) → get_or o p 0 ≡ 0 → get_or o'' p 0 ≡ 0 → Dec (get_or o' p 0 ≡ 0) → get_or l'' p 0 ≡ get_or l p 0
    still p d e (yes k) = b.still p k e ∙ a.still p d k
    still p d e (no k) = b.left p k e ∙ sym (a.taken p d k)

    left : (p : ℕ) → Live o p → get_or o'' p 0 ≡ 0 → Dec (get_or o' p 0 ≡ 0) → get_or l'' p 0 ≡ 0
    left p d e (yes k) = b.still p k e ∙ a.left p d k
    left p d e (no k) = b.left p k e

    taken : (p : ℕ) → get_or o p 0 ≡ 0 → Live o'' p → Dec (get_or o' p 0 ≡ 0) → get_or l p 0 ≡ 0
    taken p d e (yes k) = sym (a.still p d k) ∙ b.taken p k e
    taken p d e (no k) = a.taken p d k

-- Where nothing moves all is quiet.
pub quiet_refl : (owners links : List ℕ) → Quiet owners links owners links
quiet_refl owners links =
    record { still = λ p d e. refl; left = λ p d e. absurd (d e); taken = λ p d e. absurd (e d) }

-- Where the other ports are quiet, rule 6 stays true of all that is held.
pub quiet_wiring : {o l o' l' : List ℕ} {ρ held : ℕ → ℕ} → Rekeyed o l o' l' ρ → Quiet o l o' l' → LiveWiring o l → Wiring o l held
    → Wiring o' l' held
quiet_wiring {o = o} {l = l} {o' = o'} {l' = l'} {held = held} r s live wiring p q h e = go (ℕ_discrete (get_or o' p 0) 0) (ℕ_discrete (get_or o p 0) 0)
  where
    go : Dec (get_or o' p 0 ≡ 0) → Dec (get_or o p 0 ≡ 0) → Mate o' l' p q
    go (no k) d = rekeyed_wiring r live p q k e
    go (yes k) (yes d) = absurd ((wiring p q h (sym (s.still p d k) ∙ e)).here d)
    go (yes k) (no d) = absurd (omega (arith, s.left p d k))

-- Where every live port is held, rule 6 of what is held is rule 6 of the live ports.
pub live_wiring : {o l : List ℕ} {held : ℕ → ℕ} → Wiring o l held → ((p : ℕ) → held p ≡ 0 → get_or o p 0 ≡ 0) → LiveWiring o l
live_wiring {o = o} {l = l} {held = held} wiring bare p q live e = go (ℕ_discrete (held p) 0)
  where
    go : Dec (held p ≡ 0) → Mate o l p q
    go (yes k) = absurd (live (bare p k))
    go (no k) = wiring p q (omega arith) e

-- A held port that nobody owns has no wire.
pub dead_loose : {o l : List ℕ} {held : ℕ → ℕ} → Wiring o l held → (p : ℕ) → 1 ≤ held p → get_or o p 0 ≡ 0 → get_or l p 0 ≡ 0
dead_loose {l = l} wiring p h dead = go (get_or l p 0) refl
  where
    go : (w : ℕ) → get_or l p 0 ≡ w → get_or l p 0 ≡ 0
    go zero e = e
    go (suc q) e = absurd ((wiring p q h e).here dead)

-- Rule 6 speaks of who holds only by the count at each port.
pub held_wiring : {o l : List ℕ} {held held' : ℕ → ℕ} → Wiring o l held → ((p : ℕ) → held p ≡ held' p) → Wiring o l held'
held_wiring wiring same p q h e = wiring p q (rw (same p) h) e

-- A port that moves onto itself changes nothing.
pub moved_self : (links : List ℕ) (p : ℕ) → moved links p p ≡ links
unfolding moved
moved_self links p = rw (eq-eqb p p refl)

-- The same of owner words,
pub owner_moved_self : (owners : List ℕ) (p : ℕ) → owner_moved owners p p ≡ owners
unfolding owner_moved
owner_moved_self owners p = rw (eq-eqb p p refl)

-- and of numbers.
pub placed_self : (old p : ℕ) → placed old old p ≡ p
unfolding placed
placed_self old p = go (ℕ_discrete p old)
  where
    go : Dec (p ≡ old) → pick (eqb p old) old p ≡ p
    go (yes e) = rw (eq-eqb p old e) (sym e)
    go (no n) = rw (ne_eqb p old n)

-- The port that moves has the new number.
pub placed_here : (old new : ℕ) → placed old new old ≡ new
unfolding placed
placed_here old new = rw (eq-eqb old old refl)

-- And the others keep theirs.
pub placed_other : (old new p : ℕ) → (p ≡ old → ⊥) → placed old new p ≡ p
unfolding placed
placed_other old new p n = rw (ne_eqb p old n)

-- A table keeps its length when words move.
pub moved_length : (links : List ℕ) (old new : ℕ) → length (moved links old new) ≡ length links
unfolding moved carried
moved_length links old new = go (eqb old new) (eqb (get_or links old 0) 0)
  where
    go : (s t : Bool)
        → length (pick s links (pick t (set (set links old 0) new (get_or links old 0)) (set (set (set links old 0) new (get_or links old 0)) (get_or links old 0 - 1) (new + 1))))
        ≡ length links
    go true t = refl
    go false true = simp length-set
    go false false = simp length-set

-- So does the table of owners.
pub owner_moved_length : (owners : List ℕ) (old new : ℕ) → length (owner_moved owners old new) ≡ length owners
unfolding owner_moved
owner_moved_length owners old new = go (eqb old new)
  where
    go : (t : Bool) → length (pick t owners (set (set owners old 0) new (get_or owners old 0))) ≡ length owners
    go true = refl
    go false = simp length-set

-- A move in owner words: nobody owns the old place where it is another,
pub owner_moved_old : (owners : List ℕ) (old new : ℕ) → (old ≡ new → ⊥) → get_or (owner_moved owners old new) old 0 ≡ 0
unfolding owner_moved
owner_moved_old owners old new apart =
    rw (ne_eqb old new apart) (get_or-set_other (set owners old 0) new old (get_or owners old 0) 0 apart ∙ set_zero owners old)

module _ (owners : List ℕ) (old new : ℕ) where
  -- the new place has the word,
  pub owner_moved_new : new < length owners → get_or (owner_moved owners old new) new 0 ≡ get_or owners old 0
  unfolding owner_moved
  owner_moved_new h = go (ℕ_discrete old new)
    where
      go : Dec (old ≡ new) → get_or (owner_moved owners old new) new 0 ≡ get_or owners old 0
      go (yes e) = rw (eq-eqb old new e, e)
      go (no n) = rw (ne_eqb old new n) (get_or-set_same (set owners old 0) new (get_or owners old 0) 0 (rw length-set h))

  -- and no other place changes.
  pub owner_moved_other : (p : ℕ) → (p ≡ old → ⊥) → (p ≡ new → ⊥) → get_or (owner_moved owners old new) p 0 ≡ get_or owners p 0
  unfolding owner_moved
  owner_moved_other p n k = go (eqb old new)
    where
      go : (t : Bool) → get_or (pick t owners (set (set owners old 0) new (get_or owners old 0))) p 0 ≡ get_or owners p 0
      go true = refl
      go false = get_or-set_other (set owners old 0) new p (get_or owners old 0) 0 k ∙ get_or-set_other owners old p 0 0 n

-- A move to another place, in link words. A port without a wire:
pub moved_loose : (links : List ℕ) (old new : ℕ) → (old ≡ new → ⊥) → get_or links old 0 ≡ 0 → moved links old new ≡ set (set links old 0) new 0
unfolding moved carried
moved_loose links old new apart e = rw (ne_eqb old new apart, e)

-- a port with one:
pub moved_wired : (links : List ℕ) (old new q : ℕ) → (old ≡ new → ⊥) → get_or links old 0 ≡ suc q
    → moved links old new ≡ set (set (set links old 0) new (suc q)) q (suc new)
unfolding moved carried
moved_wired links old new q apart e =
    let d : suc q - 1 ≡ q = omega arith in rw (ne_eqb old new apart, e, ne_eqb (suc q) 0 (omega arith), d, add-one)

-- A live port is a port of the table.
pub live_inside : (owners : List ℕ) (p : ℕ) → Live owners p → p < length owners
live_inside owners p live = let out : length owners ≤ p → ⊥ = λ h. live (get_or-eq_default owners 0 h) in omega arith

-- A live port moves to another place, which nobody owns:
module _ (owners links : List ℕ) (old new : ℕ) (apart : old ≡ new → ⊥) (live : Live owners old) (dead : get_or owners new 0 ≡ 0)
    (wiring : LiveWiring owners links) (equal : length owners ≡ length links) (inside : new < length links) where
  -- its mate is not itself,
  mate_old : (q : ℕ) → get_or links old 0 ≡ suc q → q ≡ old → ⊥
  mate_old q e k = (wiring old q live e).across (rw k)

  -- nor the new place, which nobody owns.
  mate_new : (q : ℕ) → get_or links old 0 ≡ suc q → q ≡ new → ⊥
  mate_new q e k = (wiring old q live e).there (rw k dead)

  -- So the old place has no wire,
  pub moved_old : get_or (moved links old new) old 0 ≡ 0
  moved_old = go (get_or links old 0) refl
    where
      go : (w : ℕ) → get_or links old 0 ≡ w → get_or (moved links old new) old 0 ≡ 0
      go zero e = rw (moved_loose links old new apart e) (get_or-set_other (set links old 0) new old 0 0 apart ∙ set_zero links old)
      go (suc q) e =
          rw
          (moved_wired links old new q apart e)
          (get_or-set_other (set (set links old 0) new (suc q)) q old (suc new) 0 (λ k. mate_old q e (sym k))
          ∙ get_or-set_other (set links old 0) new old (suc q) 0 apart
          ∙ set_zero links old)

  -- the new place has its wire,
  pub moved_new : get_or (moved links old new) new 0 ≡ get_or links old 0
  moved_new = go (get_or links old 0) refl
    where
      there : (w : ℕ) → get_or (set (set links old 0) new w) new 0 ≡ w
      there w = get_or-set_same (set links old 0) new w 0 (rw length-set inside)

      go : (w : ℕ) → get_or links old 0 ≡ w → get_or (moved links old new) new 0 ≡ get_or links old 0
      go zero e = rw (moved_loose links old new apart e) (there 0 ∙ sym e)
      go (suc q) e =
          rw
          (moved_wired links old new q apart e)
          (get_or-set_other (set (set links old 0) new (suc q)) q new (suc new) 0 (λ k. mate_new q e (sym k)) ∙ there (suc q) ∙ sym e)

  -- its mate names the new place,
  pub moved_mate : (q : ℕ) → get_or links old 0 ≡ suc q → get_or (moved links old new) q 0 ≡ suc new
  moved_mate q e =
      let short : q < length links = omega (arith, live_inside owners q (wiring old q live e).there) in
      rw
      (moved_wired links old new q apart e)
      (get_or-set_same (set (set links old 0) new (suc q)) q (suc new) 0 (simp length-set short))

  -- and no other word changes.
  pub moved_other : (p : ℕ) → (p ≡ old → ⊥) → (p ≡ new → ⊥) → (get_or links old 0 ≡ suc p → ⊥) → get_or (moved links old new) p 0 ≡ get_or links p 0
  moved_other p n m none = go (get_or links old 0) refl
    where
      rest : (w : ℕ) → get_or (set (set links old 0) new w) p 0 ≡ get_or links p 0
      rest w = get_or-set_other (set links old 0) new p w 0 m ∙ get_or-set_other links old p 0 0 n

      go : (w : ℕ) → get_or links old 0 ≡ w → get_or (moved links old new) p 0 ≡ get_or links p 0
      go zero e = rw (moved_loose links old new apart e) (rest 0)
      go (suc q) e =
          rw
          (moved_wired links old new q apart e)
          (get_or-set_other (set (set links old 0) new (suc q)) q p (suc new) 0 (λ k. none (rw k e)) ∙ rest (suc q))

  -- A word that does not name the port that moves is carried to itself.
  carry_other : (w : ℕ) → (w ≡ suc old → ⊥) → carry (placed old new) w ≡ w
  carry_other w n = carry_still (placed old new) w (λ q e. placed_other old new q (λ k. n (e ∙ ap suc k)))

  -- One port moves, and the live ports are rekeyed;
  move_away : Rekeyed owners links (owner_moved owners old new) (moved links old new) (placed old new)
  move_away =
      record {
        owner = λ p lp. owner p lp (ℕ_discrete p old);
        link = λ p lp. link p lp (ℕ_discrete p old) (ℕ_discrete (get_or links old 0) (suc p));
        apart = λ p q lp lq e. separate p q lp lq e (ℕ_discrete p old) (ℕ_discrete q old);
        onto = λ p lp. onto p lp (ℕ_discrete p old) (ℕ_discrete p new);
      }
    where
      owner : (p : ℕ) → Live owners p → Dec (p ≡ old) → get_or (owner_moved owners old new) (placed old new p) 0 ≡ get_or owners p 0
      owner p lp (yes e) = rw (e, placed_here old new) (owner_moved_new owners old new (omega arith))
      owner p lp (no n) = rw (placed_other old new p n) (owner_moved_other owners old new p n (λ e. lp (rw e dead)))

      link : (p : ℕ) → Live owners p → Dec (p ≡ old) → Dec (get_or links old 0 ≡ suc p)
          → get_or (moved links old new) (placed old new p) 0 ≡ carry (placed old new) (get_or links p 0)
      link p lp (yes e) d = rw (e, placed_here old new) (moved_new ∙ sym (carry_other (get_or links old 0) (λ k. mate_old old k refl)))
      link p lp (no n) (yes e) =
          rw
          (placed_other old new p n, (wiring old p live e).back, placed_here old new)
          (moved_mate p e)
      link p lp (no n) (no m) =
          rw
          (placed_other old new p n)
          (moved_other p n (λ e. lp (rw e dead)) m ∙ sym (carry_other (get_or links p 0) (λ e. m (wiring p old lp e).back)))

      separate : (p q : ℕ) → Live owners p → Live owners q → placed old new p ≡ placed old new q → Dec (p ≡ old) → Dec (q ≡ old) → p ≡ q
      separate p q lp lq e (yes a) (yes b) = a ∙ sym b
      separate p q lp lq e (yes a) (no b) = absurd (lq (rw (sym (placed_other old new q b) ∙ sym e ∙ ap (placed old new) a ∙ placed_here old new) dead))
      separate p q lp lq e (no a) (yes b) = absurd (lp (rw (sym (placed_other old new p a) ∙ e ∙ ap (placed old new) b ∙ placed_here old new) dead))
      separate p q lp lq e (no a) (no b) = sym (placed_other old new p a) ∙ e ∙ placed_other old new q b

      onto : (p : ℕ) → Live (owner_moved owners old new) p → Dec (p ≡ old) → Dec (p ≡ new)
          → (q : ℕ) × Live owners q × (placed old new q ≡ p)
      onto p lp (yes e) d = absurd (lp (rw e (owner_moved_old owners old new apart)))
      onto p lp (no n) (yes e) = (old, live, placed_here old new ∙ sym e)
      onto p lp (no n) (no m) = (p, rw (owner_moved_other owners old new p n m) at lp, placed_other old new p n)

  -- the others are quiet, where the new place had no link word;
  quiet_away : get_or links new 0 ≡ 0 → Quiet owners links (owner_moved owners old new) (moved links old new)
  quiet_away bare =
      record {
        still = λ p d e. still p d e (ℕ_discrete p old) (ℕ_discrete p new);
        left = λ p d e. left p d e (ℕ_discrete p old) (ℕ_discrete p new);
        taken = λ p d e. taken p d e (ℕ_discrete p old) (ℕ_discrete p new);
      }
    where
      still : (p : ℕ) → get_or owners p 0 ≡ 0 → get_or (owner_moved owners old new) p 0 ≡ 0 → Dec (p ≡ old) → Dec (p ≡ new)
          → get_or (moved links old new) p 0 ≡ get_or links p 0
      still p d e (yes k) n = absurd (live (rw k at d))
      still p d e (no k) (yes n) = absurd (live (sym (owner_moved_new owners old new (omega arith)) ∙ rw n at e))
      still p d e (no k) (no n) = moved_other p k n (λ f. (wiring old p live f).there d)

      left : (p : ℕ) → Live owners p → get_or (owner_moved owners old new) p 0 ≡ 0 → Dec (p ≡ old) → Dec (p ≡ new) → get_or (moved links old new) p 0 ≡ 0
      left p d e (yes k) n = rw k moved_old
      left p d e (no k) (yes n) = absurd (d (rw n dead))
      left p d e (no k) (no n) = absurd (d (sym (owner_moved_other owners old new p k n) ∙ e))

      taken : (p : ℕ) → get_or owners p 0 ≡ 0 → Live (owner_moved owners old new) p → Dec (p ≡ old) → Dec (p ≡ new) → get_or links p 0 ≡ 0
      taken p d e (yes k) n = absurd (live (rw k at d))
      taken p d e (no k) (yes n) = rw n bare
      taken p d e (no k) (no n) = absurd (e (owner_moved_other owners old new p k n ∙ d))

  -- rule 7's wires are as many,
  pairs_away : (m : ℕ) → old < m → new < m → pairs (owner_moved owners old new) (moved links old new) m ≡ pairs owners links m
  unfolding pairs wired_outlet
  pairs_away m lo ln =
      sum_swap (at (owner_moved owners old new) (moved links old new)) (at owners links) m old new lo ln apart
      (rw (owner_moved_old owners old new apart, dead))
      (rw (owner_moved_new owners old new (omega arith), moved_new))
      (λ p n k. rest p n k (ℕ_discrete (get_or links old 0) (suc p)))
    where
      at : List ℕ → List ℕ → ℕ → ℕ
      at o l p = wired_outlet (get_or o p 0) (get_or l p 0)

      rest : (p : ℕ) → (p ≡ old → ⊥) → (p ≡ new → ⊥) → Dec (get_or links old 0 ≡ suc p)
          → at (owner_moved owners old new) (moved links old new) p ≡ at owners links p
      rest p n k (yes e) =
          let mate = wiring old p live e in
          rw (owner_moved_other owners old new p n k, moved_mate p e, mate.back, ne_eqb (suc new) 0 (omega arith), ne_eqb (suc old) 0 (omega arith))
      rest p n k (no e) = rw (owner_moved_other owners old new p n k, moved_other p n k e)

-- and so are the live ports.
ports_away : (owners : List ℕ) (old new : ℕ) → (old ≡ new → ⊥) → get_or owners new 0 ≡ 0 → new < length owners
    → (m : ℕ) → old < m → new < m → live_ports (owner_moved owners old new) m ≡ live_ports owners m
unfolding live_ports
ports_away owners old new apart dead inside m lo ln =
    sum_swap (λ p. some (get_or (owner_moved owners old new) p 0)) (λ p. some (get_or owners p 0)) m old new lo ln apart
    (rw (owner_moved_old owners old new apart, dead))
    (rw (owner_moved_new owners old new inside))
    (λ p n k. rw (owner_moved_other owners old new p n k))

-- What one move asks: it is onto the port itself, or of a live port to a place that nobody owns, both below m.
pub record Movable (owners : List ℕ) (old new m : ℕ) : Type 0 where
  pub live : (old ≡ new → ⊥) → Live owners old
  pub dead : (old ≡ new → ⊥) → get_or owners new 0 ≡ 0
  pub from_below : old < m
  pub to_below : new < m

-- What a move of ports, or many, leaves: the live ports are rekeyed, the tables are as long, the ports and the wires below m are as many.
pub record Carried (owners links owners' links' : List ℕ) (ρ : ℕ → ℕ) (m : ℕ) : Type 0 where
  pub rekeyed : Rekeyed owners links owners' links' ρ
  pub owners_length : length owners' ≡ length owners
  pub links_length : length links' ≡ length links
  pub wires : pairs owners' links' m ≡ pairs owners links m
  pub ports : live_ports owners' m ≡ live_ports owners m

-- Nothing moves.
pub carried_refl : (owners links : List ℕ) (m : ℕ) → Carried owners links owners links (λ p. p) m
carried_refl owners links m =
    record { rekeyed = rekeyed_refl owners links; owners_length = refl; links_length = refl; wires = refl; ports = refl }

-- Moves, and moves again.
pub carried_then : {o l o' l' o'' l'' : List ℕ} {ρ σ : ℕ → ℕ} {m : ℕ} → Carried o l o' l' ρ m → Carried o' l' o'' l'' σ m
    → Carried o l o'' l'' (λ p. σ (ρ p)) m
carried_then a b =
    record {
      rekeyed = rekeyed_then a.rekeyed b.rekeyed;
      owners_length = b.owners_length ∙ a.owners_length;
      links_length = b.links_length ∙ a.links_length;
      wires = b.wires ∙ a.wires;
      ports = b.ports ∙ a.ports;
    }

module _ (owners links : List ℕ) (old new m : ℕ) (wiring : LiveWiring owners links) (equal : length owners ≡ length links)
    (inside : m ≤ length links) (can : Movable owners old new m) where
  -- One move of a port.
  pub move_carried : Carried owners links (owner_moved owners old new) (moved links old new) (placed old new) m
  move_carried = go (ℕ_discrete old new)
    where
      go : Dec (old ≡ new) → Carried owners links (owner_moved owners old new) (moved links old new) (placed old new) m
      go (yes e) =
          rw
          (← e, owner_moved_self owners old, moved_self links old)
          (record {
            rekeyed = rekeyed_as (placed old old) wiring (λ p live. sym (placed_self old p)) (rekeyed_refl owners links);
            owners_length = refl;
            links_length = refl;
            wires = refl;
            ports = refl;
          })
      go (no n) =
          let short : new < length links = omega (arith, can.to_below) in
          record {
            rekeyed = move_away owners links old new n (can.live n) (can.dead n) wiring equal short;
            owners_length = owner_moved_length owners old new;
            links_length = moved_length links old new;
            wires = pairs_away owners links old new n (can.live n) (can.dead n) wiring equal short m can.from_below can.to_below;
            ports = ports_away owners old new n (can.dead n) (omega arith) m can.from_below can.to_below;
          }

  -- It is quiet where the new place had no link word.
  pub move_quiet : ((old ≡ new → ⊥) → get_or links new 0 ≡ 0) → Quiet owners links (owner_moved owners old new) (moved links old new)
  move_quiet bare = go (ℕ_discrete old new)
    where
      go : Dec (old ≡ new) → Quiet owners links (owner_moved owners old new) (moved links old new)
      go (yes e) = rw (← e, owner_moved_self owners old, moved_self links old) (quiet_refl owners links)
      go (no n) =
          quiet_away owners links old new n (can.live n) (can.dead n) wiring equal (omega (arith, can.to_below)) (bare n)

-- the link words after the first steps of a sequence of moves, of the port old i to the place new i at step i
unfoldable pub moved_by : List ℕ → (ℕ → ℕ) → (ℕ → ℕ) → ℕ → List ℕ
moved_by links old new zero = links
moved_by links old new (suc i) = moved (moved_by links old new i) (old i) (new i)

-- the same of owner words
unfoldable pub owners_by : List ℕ → (ℕ → ℕ) → (ℕ → ℕ) → ℕ → List ℕ
owners_by owners old new zero = owners
owners_by owners old new (suc i) = owner_moved (owners_by owners old new i) (old i) (new i)

-- the number that a port has then
unfoldable pub placed_by : (ℕ → ℕ) → (ℕ → ℕ) → ℕ → ℕ → ℕ
placed_by old new zero p = p
placed_by old new (suc i) p = placed (old i) (new i) (placed_by old new i p)

module _ (owners links : List ℕ) (old new : ℕ → ℕ) (m : ℕ) (wiring : LiveWiring owners links) (equal : length owners ≡ length links)
    (inside : m ≤ length links) where
  -- A sequence of moves, of which each can be made when its turn comes.
  pub moves_carried : (n : ℕ) → ((i : ℕ) → i < n → Movable (owners_by owners old new i) (old i) (new i) m)
      → Carried owners links (owners_by owners old new n) (moved_by links old new n) (placed_by old new n) m
  unfolding moved_by owners_by placed_by
  moves_carried zero can = carried_refl owners links m
  moves_carried (suc n) can =
      let so_far = moves_carried n (λ i l. can i (omega arith)) in
      carried_then so_far
      (move_carried (owners_by owners old new n) (moved_by links old new n) (old n) (new n) m (rekeyed_wiring so_far.rekeyed wiring)
      (so_far.owners_length ∙ equal ∙ sym so_far.links_length) (omega (arith, so_far.links_length)) (can n (omega arith)))

  -- The other ports are quiet, where each place that is taken and that was nobody's at first had no link word.
  pub moves_quiet : (n : ℕ) → ((i : ℕ) → i < n → Movable (owners_by owners old new i) (old i) (new i) m)
      → ((i : ℕ) → i < n → get_or owners (new i) 0 ≡ 0 → get_or links (new i) 0 ≡ 0)
      → Quiet owners links (owners_by owners old new n) (moved_by links old new n)
  unfolding moved_by owners_by
  moves_quiet zero can bare = quiet_refl owners links
  moves_quiet (suc n) can bare =
      let so_far = moves_carried n (λ i l. can i (omega arith)) in
      let quiet = moves_quiet n (λ i l. can i (omega arith)) (λ i l. bare i (omega arith)) in
      quiet_then quiet
      (move_quiet (owners_by owners old new n) (moved_by links old new n) (old n) (new n) m (rekeyed_wiring so_far.rekeyed wiring)
      (so_far.owners_length ∙ equal ∙ sym so_far.links_length) (omega (arith, so_far.links_length)) (can n (omega arith))
      (λ d. go quiet ((can n (omega arith)).dead d) (ℕ_discrete (get_or owners (new n) 0) 0)))
    where
      go : Quiet owners links (owners_by owners old new n) (moved_by links old new n) → get_or (owners_by owners old new n) (new n) 0 ≡ 0
          → Dec (get_or owners (new n) 0 ≡ 0) → get_or (moved_by links old new n) (new n) 0 ≡ 0
      go quiet dead (yes e) = quiet.still (new n) e dead ∙ bare n (omega arith) e
      go quiet dead (no k) = quiet.left (new n) k dead

-- A port that is none of the sequence keeps its number.
pub placed_by_out : (old new : ℕ → ℕ) (i p : ℕ) → ((j : ℕ) → j < i → p ≡ old j → ⊥) → placed_by old new i p ≡ p
unfolding placed_by
placed_by_out old new zero p none = refl
placed_by_out old new (suc i) p none =
    let e : placed_by old new i p ≡ p = placed_by_out old new i p (λ j l. none j (omega arith)) in
    rw e (placed_other (old i) (new i) p (none i (omega arith)))

-- A sequence of moves of live ports, no two from or to one place, in which no place is taken before its port has left: each goes to a
-- place that is nobody's, or that a port of the sequence has left.
pub record InTurn (owners : List ℕ) (old new : ℕ → ℕ) (n m : ℕ) : Type 0 where
  pub live : (i : ℕ) → i < n → Live owners (old i)
  pub target : (i : ℕ) → i < n → (get_or owners (new i) 0 ≡ 0) ⊎ ((j : ℕ) × (j ≤ i) × (new i ≡ old j))
  pub left_first : (i j : ℕ) → i < n → j < i → new j ≡ old i → ⊥
  pub apart_old : (i j : ℕ) → i < n → j < i → old j ≡ old i → ⊥
  pub apart_new : (i j : ℕ) → i < n → j < i → new j ≡ new i → ⊥
  pub from_below : (i : ℕ) → i < n → old i < m
  pub to_below : (i : ℕ) → i < n → new i < m

module _ (owners : List ℕ) (old new : ℕ → ℕ) where
  -- The table of owners is as long.
  pub owners_by_length : (i : ℕ) → length (owners_by owners old new i) ≡ length owners
  unfolding owners_by
  owners_by_length zero = refl
  owners_by_length (suc i) = owner_moved_length (owners_by owners old new i) (old i) (new i) ∙ owners_by_length i

  -- A place that is neither left nor taken keeps its owner word.
  pub owners_by_other : (i p : ℕ) → ((j : ℕ) → j < i → p ≡ old j → ⊥) → ((j : ℕ) → j < i → p ≡ new j → ⊥)
      → get_or (owners_by owners old new i) p 0 ≡ get_or owners p 0
  unfolding owners_by
  owners_by_other zero p a b = refl
  owners_by_other (suc i) p a b =
      owner_moved_other (owners_by owners old new i) (old i) (new i) p (a i (omega arith)) (b i (omega arith))
      ∙ owners_by_other i p (λ j l. a j (omega arith)) (λ j l. b j (omega arith))

  module _ (n m : ℕ) (turns : InTurn owners old new n m) (inside : m ≤ length owners) where
    -- When a port's turn comes, its place is as it was at first.
    here_still : (i : ℕ) → i < n → get_or (owners_by owners old new i) (old i) 0 ≡ get_or owners (old i) 0
    here_still i l =
        owners_by_other i (old i) (λ j k e. turns.apart_old i j l k (sym e)) (λ j k e. turns.left_first i j l k (sym e))

    -- A place that is taken has the owner word of the port that came,
    pub owners_by_new : (i j : ℕ) → i ≤ n → j < i → get_or (owners_by owners old new i) (new j) 0 ≡ get_or owners (old j) 0
    unfolding owners_by
    owners_by_new zero j l k = absurd (omega arith)
    owners_by_new (suc i) j l k = go (ℕ_discrete j i) (λ b. owners_by_new i j (omega arith) b)
      where
        go : Dec (j ≡ i) → (j < i → get_or (owners_by owners old new i) (new j) 0 ≡ get_or owners (old j) 0)
            → get_or (owner_moved (owners_by owners old new i) (old i) (new i)) (new j) 0 ≡ get_or owners (old j) 0
        go (yes e) below =
            rw e
            (owner_moved_new (owners_by owners old new i) (old i) (new i) (omega (arith, owners_by_length i, turns.to_below i (omega arith)))
            ∙ here_still i (omega arith))
        go (no d) below =
            let b : j < i = omega arith in
            owner_moved_other (owners_by owners old new i) (old i) (new i) (new j) (turns.left_first i j (omega arith) b) (turns.apart_new i j (omega arith) b)
            ∙ below b

    -- and one that is left, and not taken, has none.
    pub owners_by_old : (i j : ℕ) → i ≤ n → j < i → ((k : ℕ) → k < i → old j ≡ new k → ⊥) → get_or (owners_by owners old new i) (old j) 0 ≡ 0
    unfolding owners_by
    owners_by_old zero j l k free = absurd (omega arith)
    owners_by_old (suc i) j l k free = go (ℕ_discrete j i) (λ b. owners_by_old i j (omega arith) b (λ x y. free x (omega arith)))
      where
        go : Dec (j ≡ i) → (j < i → get_or (owners_by owners old new i) (old j) 0 ≡ 0)
            → get_or (owner_moved (owners_by owners old new i) (old i) (new i)) (old j) 0 ≡ 0
        go (yes e) below = rw e (owner_moved_old (owners_by owners old new i) (old i) (new i) (λ d. free i (omega arith) (ap old e ∙ d)))
        go (no d) below =
            let b : j < i = omega arith in
            owner_moved_other (owners_by owners old new i) (old i) (new i) (old j) (turns.apart_old i j (omega arith) b) (free i (omega arith)) ∙ below b

    -- So each move can be made when its turn comes.
    pub turns_movable : (i : ℕ) → i < n → Movable (owners_by owners old new i) (old i) (new i) m
    turns_movable i l =
        record {
          live = λ d. rw (here_still i l) (turns.live i l);
          dead = λ d. go d (turns.target i l);
          from_below = turns.from_below i l;
          to_below = turns.to_below i l;
        }
      where
        go : (old i ≡ new i → ⊥) → (get_or owners (new i) 0 ≡ 0) ⊎ ((j : ℕ) × (j ≤ i) × (new i ≡ old j)) → get_or (owners_by owners old new i) (new i) 0 ≡ 0
        go d (inl e) =
            owners_by_other i (new i) (λ j k f. turns.live j (omega arith) (rw (← f) e)) (λ j k f. turns.apart_new i j l k (sym f)) ∙ e
        go d (inr (j, k, f)) = at (ℕ_discrete j i)
          where
            at : Dec (j ≡ i) → get_or (owners_by owners old new i) (new i) 0 ≡ 0
            at (yes e) = absurd (d (sym (f ∙ ap old e)))
            at (no e) = rw f (owners_by_old i j (omega arith) (omega arith) (λ x y g. turns.apart_new i x l y (sym (f ∙ g))))

    -- A port of the sequence gets its new number.
    pub placed_by_in : (i j : ℕ) → i ≤ n → j < i → placed_by old new i (old j) ≡ new j
    unfolding placed_by
    placed_by_in zero j l k = absurd (omega arith)
    placed_by_in (suc i) j l k = go (ℕ_discrete j i) (λ b. placed_by_in i j (omega arith) b)
      where
        go : Dec (j ≡ i) → (j < i → placed_by old new i (old j) ≡ new j) → placed (old i) (new i) (placed_by old new i (old j)) ≡ new j
        go (yes e) below =
            rw (e, placed_by_out old new i (old i) (λ x y f. turns.apart_old i x (omega arith) y (sym f))) (placed_here (old i) (new i))
        go (no d) below =
            let b : j < i = omega arith in
            rw (below b) (placed_other (old i) (new i) (new j) (turns.left_first i j (omega arith) b))

-- the port that a run carries at step i
abbrev pub run_old : Run → ℕ → ℕ
run_old run i = run.from + turn run i

-- and its place afterwards
abbrev pub run_new : Run → ℕ → ℕ
run_new run i = run.to + turn run i

-- A run is a sequence of moves.
pub run_is : (links : List ℕ) (run : Run) (i : ℕ) → moved_run links run i ≡ moved_by links (run_old run) (run_new run) i
unfolding moved_run moved_by
run_is links run zero = refl
run_is links run (suc i) = rw (run_is links run i)

-- Which port goes at a step: by rising number,
turn_rising : (run : Run) (i : ℕ) → run.rising ≡ true → turn run i ≡ i
unfolding turn
turn_rising run i e = rw e

-- or by falling number.
turn_falling : (run : Run) (i : ℕ) → run.rising ≡ false → turn run i ≡ run.n - 1 - i
unfolding turn
turn_falling run i e = rw e

-- A run of live ports below m goes in turn where it goes down by rising number, up by falling number, or to quite other places: each place
-- that it takes is nobody's, or one of its own.
pub record Runs (owners : List ℕ) (run : Run) (m : ℕ) : Type 0 where
  pub live : (i : ℕ) → i < run.n → Live owners (run.from + i)
  pub target : (i : ℕ) → i < run.n → (get_or owners (run.to + i) 0 ≡ 0) ⊎ ((run.from ≤ run.to + i) × (run.to + i < run.from + run.n))
  pub down : run.rising ≡ true → (run.to ≤ run.from) ⊎ (run.from + run.n ≤ run.to)
  pub up : run.rising ≡ false → run.from ≤ run.to
  pub from_below : run.from + run.n ≤ m
  pub to_below : run.to + run.n ≤ m

-- Each step carries a port of the run.
turn_less : (run : Run) (i : ℕ) → i < run.n → turn run i < run.n
turn_less run i l = go run.rising refl
  where
    go : (t : Bool) → run.rising ≡ t → turn run i < run.n
    go true e = omega (arith, turn_rising run i e)
    go false e = omega (arith, turn_falling run i e)

module _ (owners : List ℕ) (run : Run) (m : ℕ) (runs : Runs owners run m) where
  -- what the two directions share
  in_turn : ((i j : ℕ) → i < run.n → j < i → turn run j ≡ turn run i → ⊥)
      → ((i : ℕ) → i < run.n → run.from ≤ run.to + turn run i → run.to + turn run i < run.from + run.n → (j : ℕ) × (j ≤ i) × (run_new run i ≡ run_old run j))
      → ((i j : ℕ) → i < run.n → j < i → run_new run j ≡ run_old run i → ⊥)
      → InTurn owners (run_old run) (run_new run) run.n m
  in_turn once back first =
      record {
        live = λ i l. runs.live (turn run i) (turn_less run i l);
        target = λ i l. go i l (runs.target (turn run i) (turn_less run i l));
        left_first = first;
        apart_old = λ i j l k e. once i j l k (omega arith);
        apart_new = λ i j l k e. once i j l k (omega arith);
        from_below = λ i l. omega (arith, turn_less run i l, runs.from_below);
        to_below = λ i l. omega (arith, turn_less run i l, runs.to_below);
      }
    where
      go : (i : ℕ) → i < run.n
          → (get_or owners (run.to + turn run i) 0 ≡ 0) ⊎ ((run.from ≤ run.to + turn run i) × (run.to + turn run i < run.from + run.n))
          → (get_or owners (run_new run i) 0 ≡ 0) ⊎ ((j : ℕ) × (j ≤ i) × (run_new run i ≡ run_old run j))
      go i l (inl e) = inl e
      go i l (inr b) = inr (back i l b.0 b.1)

  -- Such a run goes in turn.
  pub runs_in_turn : InTurn owners (run_old run) (run_new run) run.n m
  runs_in_turn = go run.rising refl
    where
      down : (e : run.rising ≡ true) → (run.to ≤ run.from) ⊎ (run.from + run.n ≤ run.to) → InTurn owners (run_old run) (run_new run) run.n m
      down e (inl d) =
          in_turn (λ i j l k f. omega (arith, turn_rising run i e, turn_rising run j e))
          (λ i l a b. (run.to + i - run.from, omega arith, omega (arith, turn_rising run i e, turn_rising run (run.to + i - run.from) e)))
          (λ i j l k f. omega (arith, turn_rising run i e, turn_rising run j e))
      down e (inr d) =
          in_turn (λ i j l k f. omega (arith, turn_rising run i e, turn_rising run j e))
          (λ i l a b. absurd (omega arith))
          (λ i j l k f. omega (arith, turn_rising run i e, turn_rising run j e))

      up : (e : run.rising ≡ false) → run.from ≤ run.to → InTurn owners (run_old run) (run_new run) run.n m
      up e d =
          in_turn (λ i j l k f. omega (arith, turn_falling run i e, turn_falling run j e))
          (λ i l a b.
          (run.from + i - run.to, omega arith, omega (arith, turn_falling run i e, turn_falling run (run.from + i - run.to) e)))
          (λ i j l k f. omega (arith, turn_falling run i e, turn_falling run j e))

      go : (t : Bool) → run.rising ≡ t → InTurn owners (run_old run) (run_new run) run.n m
      go true e = down e (runs.down e)
      go false e = up e (runs.up e)

  -- The steps of a run come to each of its ports.
  pub turn_onto : (i : ℕ) → i < run.n → (j : ℕ) × (j < run.n) × (turn run j ≡ i)
  turn_onto i l = go run.rising refl
    where
      go : (t : Bool) → run.rising ≡ t → (j : ℕ) × (j < run.n) × (turn run j ≡ i)
      go true e = (i, l, turn_rising run i e)
      go false e = (run.n - 1 - i, omega arith, omega (arith, turn_falling run (run.n - 1 - i) e))

-- the owner words after i steps of a run
abbrev pub owners_run : List ℕ → Run → ℕ → List ℕ
owners_run owners run i = owners_by owners (run_old run) (run_new run) i

-- and the number that a port has then
abbrev pub placed_run : Run → ℕ → ℕ → ℕ
placed_run run i p = placed_by (run_old run) (run_new run) i p

-- A port outside a run keeps its number.
pub placed_run_out : (run : Run) (p : ℕ) → ((i : ℕ) → i < run.n → p ≡ run.from + i → ⊥) → placed_run run run.n p ≡ p
placed_run_out run p none = placed_by_out (run_old run) (run_new run) run.n p (λ j l. none (turn run j) (turn_less run j l))

-- A place outside a run and outside where it goes keeps its owner word.
pub owners_run_other : (owners : List ℕ) (run : Run) (p : ℕ) → ((i : ℕ) → i < run.n → p ≡ run.from + i → ⊥)
    → ((i : ℕ) → i < run.n → p ≡ run.to + i → ⊥) → get_or (owners_run owners run run.n) p 0 ≡ get_or owners p 0
owners_run_other owners run p a b =
    owners_by_other owners (run_old run) (run_new run) run.n p (λ j l. a (turn run j) (turn_less run j l)) (λ j l. b (turn run j) (turn_less run j l))

module _ (owners links : List ℕ) (run : Run) (m : ℕ) (runs : Runs owners run m) (wiring : LiveWiring owners links)
    (equal : length owners ≡ length links) (inside : m ≤ length links) where
  -- After each step of a run the live ports are rekeyed, and the ports and the wires are as many;
  pub run_carried : (i : ℕ) → i ≤ run.n → Carried owners links (owners_run owners run i) (moved_run links run i) (placed_run run i) m
  run_carried i l =
      rw
      (run_is links run i)
      (moves_carried owners links (run_old run) (run_new run) m wiring equal inside i
      (λ j k. turns_movable owners (run_old run) (run_new run) run.n m (runs_in_turn owners run m runs) (omega arith) j (omega arith)))

  -- the other ports are quiet, where each place that the run takes and that was nobody's had no link word;
  pub run_quiet : ((i : ℕ) → i < run.n → get_or owners (run.to + i) 0 ≡ 0 → get_or links (run.to + i) 0 ≡ 0)
      → (i : ℕ) → i ≤ run.n → Quiet owners links (owners_run owners run i) (moved_run links run i)
  run_quiet bare i l =
      rw
      (run_is links run i)
      (moves_quiet owners links (run_old run) (run_new run) m wiring equal inside i
      (λ j k. turns_movable owners (run_old run) (run_new run) run.n m (runs_in_turn owners run m runs) (omega arith) j (omega arith))
      (λ j k. bare (turn run j) (turn_less run j (omega arith))))

  -- the ports of the run have their new numbers,
  pub placed_run_in : (i : ℕ) → i < run.n → placed_run run run.n (run.from + i) ≡ run.to + i
  placed_run_in i l =
      let (j, k, e) = turn_onto owners run m runs i l in
      rw (← e) (placed_by_in owners (run_old run) (run_new run) run.n m (runs_in_turn owners run m runs) (omega arith) run.n j (omega arith) k)

  -- where their owner words are,
  pub owners_run_new : (i : ℕ) → i < run.n → get_or (owners_run owners run run.n) (run.to + i) 0 ≡ get_or owners (run.from + i) 0
  owners_run_new i l =
      let (j, k, e) = turn_onto owners run m runs i l in
      rw (← e) (owners_by_new owners (run_old run) (run_new run) run.n m (runs_in_turn owners run m runs) (omega arith) run.n j (omega arith) k)

  -- and nobody owns a place that the run has left and not taken.
  pub owners_run_old : (i : ℕ) → i < run.n → ((j : ℕ) → j < run.n → run.from + i ≡ run.to + j → ⊥)
      → get_or (owners_run owners run run.n) (run.from + i) 0 ≡ 0
  owners_run_old i l free =
      let (j, k, e) = turn_onto owners run m runs i l in
      rw
      (← e)
      (owners_by_old owners (run_old run) (run_new run) run.n m (runs_in_turn owners run m runs) (omega arith) run.n j (omega arith) k
      (λ x y. rw (← e) at (free (turn run x) (turn_less run x y))))
