-- Owner words that name other nodes: where each port is live as before and faces the same way, rules 6 and 7 stay true of it.
use Prim.Native.Nat.{ℕ}
use mathlib.Core.Path.{◌≡◌, refl}
use mathlib.Core.List.{List}
use native.Mathlib.Decide.{ℕ_discrete}
use lib.ListN.{get_or}
use borrow.Author.Tests.{eq-eqb, ne_eqb}
use Rattle.slabs.specs.PortEntry.{direction_of}
use Rattle.slabs.specs.Links.{Wiring, wired_outlet, pairs}
use Rattle.slabs.proofs.SumLaws.{sum_ext}
use Rattle.edits.specs.Counts.{some, live_ports}

-- two owner words of a port that is live by both or by neither, in the same direction
pub record SamePort (word word' : ℕ) : Type 0 where
  pub dead : word ≡ 0 → word' ≡ 0
  pub live : (word ≡ 0 → ⊥) → word' ≡ 0 → ⊥
  pub faces : direction_of word' ≡ direction_of word

-- A word is one of the same port as itself.
pub same_port : (word : ℕ) → SamePort word word
same_port word = record { dead = λ e. e; live = λ n. n; faces = refl }

-- what is so of two words and of the second and a third is so of the first and the third
pub same_port_then : {a b c : ℕ} → SamePort a b → SamePort b c → SamePort a c
same_port_then ab bc = record { dead = λ e. bc.dead (ab.dead e); live = λ n. bc.live (ab.live n); faces = rw bc.faces ab.faces }

-- every port is live as before and faces the same way
abbrev pub Renamed : List ℕ → List ℕ → Type 0
Renamed owners owners' = (p : ℕ) → SamePort (get_or owners p 0) (get_or owners' p 0)

-- The word of the same port is as much, 0 or 1.
pub some_same : (word word' : ℕ) → SamePort word word' → some word' ≡ some word
unfolding some
some_same word word' same = go (ℕ_discrete word 0)
  where
    go : Dec (word ≡ 0) → some word' ≡ some word
    go (yes e) = simp (eq-eqb word 0 e, eq-eqb word' 0 (same.dead e))
    go (no n) = simp (ne_eqb word 0 n, ne_eqb word' 0 (same.live n))

-- It is a wired outlet or not, as before.
pub wired_same : (word word' link : ℕ) → SamePort word word' → wired_outlet word' link ≡ wired_outlet word link
unfolding wired_outlet
wired_same word word' link same = go (ℕ_discrete word 0)
  where
    go : Dec (word ≡ 0) → wired_outlet word' link ≡ wired_outlet word link
    go (yes e) = simp (eq-eqb word 0 e, eq-eqb word' 0 (same.dead e))
    go (no n) = simp (ne_eqb word 0 n, ne_eqb word' 0 (same.live n), same.faces)

module _ (owners owners' : List ℕ) (same : Renamed owners owners') where
  -- Rule 6 stays true when nodes are renamed,
  pub renamed_wiring : (links : List ℕ) (held : ℕ → ℕ) → Wiring owners links held → Wiring owners' links held
  renamed_wiring links held wiring p q h e =
      let mate = wiring p q h e in
      record {
        here = (same p).live mate.here;
        there = (same q).live mate.there;
        across = rw ((same p).faces, (same q).faces) mate.across;
        back = mate.back;
      }

  -- the wires are as many,
  pub renamed_pairs : (links : List ℕ) (m : ℕ) → pairs owners' links m ≡ pairs owners links m
  unfolding pairs
  renamed_pairs links m = sum_ext _ _ m (λ p l. wired_same (get_or owners p 0) (get_or owners' p 0) (get_or links p 0) (same p))

  -- and so are the live ports.
  pub renamed_ports : (m : ℕ) → live_ports owners' m ≡ live_ports owners m
  unfolding live_ports
  renamed_ports m = sum_ext _ _ m (λ p l. some_same (get_or owners p 0) (get_or owners' p 0) (same p))
