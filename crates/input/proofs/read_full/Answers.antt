-- What stood at the buffer's start and what the read put behind it are together what the input gave.
use Rattle.std.proofs.Common.{◌≡◌, ℕ, ◌+◌, ◌-◌, ◌≤◌, List, ◌++◌, rules, length, take, subst, sym, ap, ◌∙◌, length-take-le}
use Rattle.std.proofs.Math.Seq.{take-append-add, take-append-le}
use Rattle.std.proofs.KnownBytes.{Consumes-trans}
use Rattle.std.specs.Io.KnownBytes.{Consumes}
use borrow.Rule.Slice.PartMut.{put_mid, post_of}
use Rattle.input.proofs.read_full.Goals as goal

-- The first bytes of a buffer into whose rest, from `at` on, `part` was put.
take-put_mid : (at room n : ℕ) (buf part : List ℕ) → at ≤ length buf → n ≤ length part → take (at + n) (put_mid at room buf part) ≡ take at buf ++ take n part
take-put_mid at room n buf part within fits =
    let behind = part ++ post_of at room buf in
    ap (λ k. take (k + n) (take at buf ++ behind)) (sym (length-take-le at buf within))
    ∙ take-append-add (take at buf) behind n
    ∙ ap (λ l. take at buf ++ l) (take-append-le n part (post_of at room buf) fits)

pub loop-done-preserved : goal.loop-done-preserved
loop-done-preserved g c =
    let before = c.loop-done.invariant in
    let read = c.in_ok-n.ensures in
    let joined = take-put_mid c.loop-done.done (length c.loop-done.buf - c.loop-done.done) c.in_ok-n.n c.loop-done.buf c.read.new.buf before.within read.bound.0 in
    record {
      same_room = search rules;
      within = search rules;
      bytes = subst (Consumes _ _) (sym joined) (Consumes-trans _ _ _ _ _ before.bytes read.bytes.0);
    }
