-- What an entry that was read tells of its owner word.
use Prim.Native.Nat.{ℕ}
use mathlib.Core.Path.{◌≡◌, sym, ap, ◌∙◌}
use native.Mathlib.Decide.{ℕ_discrete}
use borrow.Author.Tests.{eq-eqb, ne_eqb}
use Rattle.std.specs.Prelude.{Some, None}
use Rattle.std.proofs.lemmas.Option.{same_Some}
use Rattle.slabs.specs.PortEntry.{direction_word, direction_of, port_entry}
use Rattle.slabs.specs.declared.port_entry.PortMeta.{PortMeta}
use Rattle.slabs.proofs.EntryLaws.{facing_word}

-- An owner word that says free is 0,
pub word_free : (word : ℕ) → port_entry word ≡ None → word ≡ 0
unfolding port_entry
word_free word e = go (ℕ_discrete word 0)
  where
    go : Dec (word ≡ 0) → word ≡ 0
    go (yes z) = z
    go (no n) = absurd (cc (rw (ne_eqb word 0 n) at e))

-- and one that says a port is not, and gives that direction.
pub word_port : (word : ℕ) (m : PortMeta) → port_entry word ≡ Some m
    → (word ≡ 0 → ⊥) × (direction_word m.direction ≡ direction_of word)
unfolding port_entry
word_port word m e = go (ℕ_discrete word 0)
  where
    go : Dec (word ≡ 0) → (word ≡ 0 → ⊥) × (direction_word m.direction ≡ direction_of word)
    go (yes z) = absurd (cc (rw (eq-eqb word 0 z) at e))
    go (no n) =
        (n, ap (λ (x : PortMeta). direction_word x.direction) (sym (same_Some _ _ (rw (ne_eqb word 0 n) at e))) ∙ facing_word word)
