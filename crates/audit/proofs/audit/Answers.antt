-- `audit` decides whether the words are a sound store: it hands a scratch of zeros to `holds`, and leaves one.
use Prim.Native.Nat.{ℕ, ◌<◌}
use mathlib.Core.Path.{◌≡◌, sym, ◌∙◌}
use mathlib.Core.List.{List}
use native.Mathlib.Nat.{zero-add}
use native.Mathlib.Omega.{arith}
use native.Mathlib.Decide.{dec_lt}
use borrow.Author.Rules.{rules}
use lib.ListN.{length, get_or, get_or-eq_default}
use lib.Seq.{ext_get_or}
use Rattle.slabs.specs.Slab.{filled}
use Rattle.slabs.proofs.Shapes.{filled-length}
use Rattle.slabs.proofs.FillLaws.{filled_in, fill_whole}
use Rattle.audit.specs.Parts.{BlankFrom}
use Rattle.audit.proofs.audit.Goals as goal

-- a table that is filled holds the word at each place
filled_whole : (table : List ℕ) (w i : ℕ) → i < length table → get_or (filled table 0 (length table) w) i 0 ≡ w
filled_whole table w i l = rw zero-add at (filled_in table 0 (length table) w i l (omega arith))

-- filled with zeros it is blank
filled_blank : (table : List ℕ) → BlankFrom (filled table 0 (length table) 0) 0
filled_blank table i h = go (dec_lt i (length table))
  where
    go : Dec (i < length table) → get_or (filled table 0 (length table) 0) i 0 ≡ 0
    go (yes l) = filled_whole table 0 i l
    go (no l) = get_or-eq_default (filled table 0 (length table) 0) 0 (omega (arith, filled-length table 0 (length table) 0))

-- what it held before does not matter
filled_alike : (a b : List ℕ) → length a ≡ length b → filled a 0 (length a) 0 ≡ filled b 0 (length b) 0
filled_alike a b e =
    ext_get_or 0 (filled a 0 (length a) 0) (filled b 0 (length b) 0)
    (filled-length a 0 (length a) 0 ∙ e ∙ sym (filled-length b 0 (length b) 0))
    (λ i l. filled_blank a i (omega arith) ∙ sym (filled_blank b i (omega arith)))

pub holds-sound-requires : goal.holds-sound-requires
holds-sound-requires c =
    (c.requires.0, search rules, rw (c.fill.ensures.after (λ y e. e) ∙ fill_whole c.args.scratch.now 0) (filled_blank c.args.scratch.now))

pub returns : goal.returns
returns c =
    record {
      verdict = c.holds-sound.ensures;
      scratch_after = (c.fill-2.ensures.after (λ y e. e) ∙ fill_whole _ 0) ∙ filled_alike _ _ (search rules);
    }
