-- What slots say of steps when words of the table of slots change: one slot changes the sums over the slots by one term, and the words
-- that chain the free slots change nothing.
use Prim.Native.Nat.{ℕ, suc, zero, ◌+◌, ◌-◌, ◌*◌, ◌≤◌, ◌<◌}
use mathlib.Core.Path.{◌≡◌, refl, sym, ap, ◌∙◌}
use mathlib.Core.List.{List}
use native.Mathlib.Omega.{arith}
use native.Mathlib.Decide.{ℕ_discrete, dec_lt}
use lib.ListN.{length, get_or, set, length-set}
use lib.Seq.{get_or-set_same, get_or-set_other}
use lib.Dec.{eqb, ltb}
use borrow.Author.Tests.{eq-eqb, ne_eqb, lt-ltb, le-ltb}
use Rattle.slabs.specs.Choice.{pick}
use Rattle.slabs.specs.Sums.{sum}
use Rattle.slabs.specs.NodeEntry.{width, slot_word, node_entry}
use Rattle.slabs.specs.Slabs.{in_slab}
use Rattle.slabs.specs.declared.node_entry.NodeMeta.{NodeMeta}
use Rattle.slabs.specs.declared.node_entry.NodeEntry.{NodeEntry}
use Rattle.slabs.specs.declared.node_entry.NodeEntry.TheVariants.{Free, Node}
use Rattle.slabs.proofs.SumLaws.{sum_change, sum_term, sum_two}
use Rattle.edits.specs.Store.{on_node, node_at}
use Rattle.edits.specs.FreeSlots.{set_previous, set_next}
use Rattle.edits.specs.Counts.{some, live_slots}
use Rattle.sound.specs.Sound.{SlotSays, held_at}

-- what an entry says of a step: its place on the free chain left out
abbrev pub step_of : NodeEntry → NodeEntry
step_of (Free previous next) = Free 0 0
step_of (Node m) = Node m

-- A free entry is no live one,
pub free_node : {previous next : ℕ} {m : NodeMeta} → Free previous next ≡ Node m → ⊥
free_node e = let z : ◌≡◌ {A = ℕ} 0 1 = cc in omega arith

-- and a live one is of one step.
pub node_is : {m n : NodeMeta} → Node m ≡ Node n → m ≡ n
node_is e = cc

-- 1 where port p lies in the slab of a live entry
abbrev pub slab_of : NodeEntry → ℕ → ℕ
slab_of e p = on_node e (λ m. in_slab m.first m.capacity p) 0

-- 1 for a live entry
abbrev pub live_of : NodeEntry → ℕ
live_of e = on_node e (λ m. 1) 0

-- 1 for a free slot below the mark
unfoldable pub free_one : List ℕ → ℕ → ℕ → ℕ
free_one slots mark k = pick (ltb k mark) (on_node (node_entry slots k) (λ m. 0) 1) 0

-- What is said of a live entry is said of what it says of a step.
pub on_node_step : (e : NodeEntry) (f : NodeMeta → ℕ) (other : ℕ) → on_node (step_of e) f other ≡ on_node e f other
on_node_step (Free previous next) f other = refl
on_node_step (Node m) f other = refl

-- So two entries that say the same of a step are said the same of.
pub on_node_same : (e e' : NodeEntry) (f : NodeMeta → ℕ) (other : ℕ) → step_of e' ≡ step_of e → on_node e' f other ≡ on_node e f other
on_node_same e e' f other same = sym (on_node_step e' f other) ∙ ap (λ x. on_node x f other) same ∙ on_node_step e f other

-- An entry that says the same of a step as a live one is that one.
pub step_node : (e e' : NodeEntry) (m : NodeMeta) → step_of e' ≡ step_of e → e' ≡ Node m → e ≡ Node m
step_node (Free previous next) e' m same is = absurd (free_node (sym same ∙ ap step_of is))
step_node (Node n) e' m same is = sym same ∙ ap step_of is

-- A slot whose second word is 0 is free.
pub entry_free : (slots : List ℕ) (k : ℕ) → slot_word slots k 1 ≡ 0 → node_entry slots k ≡ Free (slot_word slots k 0) (slot_word slots k 2)
unfolding node_entry
entry_free slots k e = simp (eq-eqb _ _ e)

-- Another one is live.
pub entry_live : (slots : List ℕ) (k : ℕ) → (slot_word slots k 1 ≡ 0 → ⊥)
    → node_entry slots k
    ≡ Node (record { first = slot_word slots k 0; inlets = slot_word slots k 1 - 1; outlets = slot_word slots k 2; capacity = slot_word slots k 3 })
unfolding node_entry
entry_live slots k n = simp (ne_eqb _ _ n)

-- A free slot's words are 0 in the second place, its previous and its next.
pub free_says : (slots : List ℕ) (k previous next : ℕ) → node_entry slots k ≡ Free previous next
    → (slot_word slots k 1 ≡ 0) × (slot_word slots k 0 ≡ previous) × (slot_word slots k 2 ≡ next)
free_says slots k previous next is = go (ℕ_discrete (slot_word slots k 1) 0)
  where
    go : Dec (slot_word slots k 1 ≡ 0) → (slot_word slots k 1 ≡ 0) × (slot_word slots k 0 ≡ previous) × (slot_word slots k 2 ≡ next)
    go (yes e) =
        let same : Free (slot_word slots k 0) (slot_word slots k 2) ≡ Free previous next = sym (entry_free slots k e) ∙ is in
        (e, cc, cc)
    go (no n) = absurd (free_node (sym is ∙ entry_live slots k n))

-- the words of a free slot
abbrev pub FreeWords : List ℕ → ℕ → ℕ → ℕ → Type 0
FreeWords slots k previous next =
    (slot_word slots k 0 ≡ previous) × (slot_word slots k 1 ≡ 0) × (slot_word slots k 2 ≡ next) × (slot_word slots k 3 ≡ 0)

-- They are its own as long as they stay.
pub words_kept : (slots slots' : List ℕ) (k : ℕ) {previous next : ℕ} → ((l : ℕ) → l < width → slot_word slots' k l ≡ slot_word slots k l)
    → FreeWords slots k previous next → FreeWords slots' k previous next
words_kept slots slots' k same words =
    (same 0 (omega arith) ∙ words.0, same 1 (omega arith) ∙ words.1, same 2 (omega arith) ∙ words.2, same 3 (omega arith) ∙ words.3)

-- A live slot's second word is not 0,
pub live_says : (slots : List ℕ) (k : ℕ) (m : NodeMeta) → node_entry slots k ≡ Node m → slot_word slots k 1 ≡ 0 → ⊥
live_says slots k m is e = free_node (sym (entry_free slots k e) ∙ is)

-- and its four words are its first port, its counts and its capacity.
pub live_words : (slots : List ℕ) (k : ℕ) (m : NodeMeta) → node_entry slots k ≡ Node m
    → (slot_word slots k 0 ≡ m.first) × (slot_word slots k 1 - 1 ≡ m.inlets) × (slot_word slots k 2 ≡ m.outlets) × (slot_word slots k 3 ≡ m.capacity)
live_words slots k m is =
    let there : NodeMeta =
    record { first = slot_word slots k 0; inlets = slot_word slots k 1 - 1; outlets = slot_word slots k 2; capacity = slot_word slots k 3 }
    in
    let e : there ≡ m = node_is (sym (entry_live slots k (live_says slots k m is)) ∙ is) in
    (ap (λ x. x.first) e, ap (λ x. x.inlets) e, ap (λ x. x.outlets) e, ap (λ x. x.capacity) e)

-- What a number says to be a step is a live slot below the mark.
pub node_at_live : (slots : List ℕ) (mark k : ℕ) (m : NodeMeta) → node_at slots mark k ≡ Node m → (k < mark) × (node_entry slots k ≡ Node m)
unfolding node_at
node_at_live slots mark k m is = go (dec_lt k mark)
  where
    go : Dec (k < mark) → (k < mark) × (node_entry slots k ≡ Node m)
    go (yes l) = (l, rw (lt-ltb k mark l) at is)
    go (no n) = absurd (free_node (rw (le-ltb k mark (omega arith)) at is))

-- A slot's second word is not 0 where it is live.
pub some_live : (slots : List ℕ) (k : ℕ) → some (slot_word slots k 1) ≡ live_of (node_entry slots k)
unfolding some
some_live slots k = go (ℕ_discrete (slot_word slots k 1) 0)
  where
    go : Dec (slot_word slots k 1 ≡ 0) → some (slot_word slots k 1) ≡ live_of (node_entry slots k)
    go (yes e) = rw (entry_free slots k e, eq-eqb _ _ e)
    go (no n) = rw (entry_live slots k n, ne_eqb _ _ n)

-- Where the live slots keep their words and no slot becomes live or free, a slot says the same of a step.
pub step_ext : (slots slots' : List ℕ) (k : ℕ) → slot_word slots' k 1 ≡ slot_word slots k 1
    → ((slot_word slots k 1 ≡ 0 → ⊥) → (j : ℕ) → j < width → slot_word slots' k j ≡ slot_word slots k j)
    → step_of (node_entry slots' k) ≡ step_of (node_entry slots k)
step_ext slots slots' k second words = go (ℕ_discrete (slot_word slots k 1) 0)
  where
    go : Dec (slot_word slots k 1 ≡ 0) → step_of (node_entry slots' k) ≡ step_of (node_entry slots k)
    go (yes e) = rw (entry_free slots k e, entry_free slots' k (second ∙ e))
    go (no n) =
        rw
        (entry_live slots k n, entry_live slots' k (λ e. n (sym second ∙ e)), words n 0 (omega arith), words n 1 (omega arith), words n 2 (omega arith), words n 3 (omega arith))

-- slot k' of the second table says of a step what slot k of the first one says, and its fourth word is the same
pub record SaysAs (slots : List ℕ) (k : ℕ) (slots' : List ℕ) (k' : ℕ) : Type 0 where
  pub step : step_of (node_entry slots' k') ≡ step_of (node_entry slots k)
  pub fourth : slot_word slots' k' 3 ≡ slot_word slots k 3

-- slot k does in both tables
abbrev pub Alike : List ℕ → List ℕ → ℕ → Type 0
Alike slots slots' k = SaysAs slots k slots' k

-- A change and one more.
pub alike_then : {a b c : List ℕ} {k : ℕ} → Alike a b k → Alike b c k → Alike a c k
alike_then ab bc = record { step = bc.step ∙ ab.step; fourth = bc.fourth ∙ ab.fourth }

-- A slot whose four words stay is alike.
pub alike_ext : (slots slots' : List ℕ) (k : ℕ) → ((j : ℕ) → j < width → slot_word slots' k j ≡ slot_word slots k j) → Alike slots slots' k
alike_ext slots slots' k words =
    record { step = step_ext slots slots' k (words 1 (omega arith)) (λ n. words); fourth = words 3 (omega arith) }

-- A free slot's second and fourth words are all that it says of a step.
pub alike_free : (slots slots' : List ℕ) (k : ℕ) → slot_word slots k 1 ≡ 0 → slot_word slots' k 1 ≡ 0 → slot_word slots' k 3 ≡ slot_word slots k 3
    → Alike slots slots' k
alike_free slots slots' k e e' fourth = record { step = step_ext slots slots' k (e' ∙ sym e) (λ n. absurd (n e)); fourth = fourth }

-- Rule 2 of a slot is that of one that says the same.
pub says_as : (slots : List ℕ) (k : ℕ) (slots' : List ℕ) (k' heads : ℕ) → SaysAs slots k slots' k' → SlotSays heads (slot_word slots k 3) (node_entry slots k)
    → SlotSays heads (slot_word slots' k' 3) (node_entry slots' k')
says_as slots k slots' k' heads a h = go (node_entry slots k) (node_entry slots' k') a.step h
  where
    go : (e e' : NodeEntry) → step_of e' ≡ step_of e → SlotSays heads (slot_word slots k 3) e → SlotSays heads (slot_word slots' k' 3) e'
    go (Free previous next) (Free previous' next') same h = a.fourth ∙ h
    go (Free previous next) (Node m') same h = absurd (free_node (sym same))
    go (Node m) (Free previous' next') same h = absurd (free_node same)
    go (Node m) (Node m') same h = rw (node_is same) h

-- A slot at the mark, its words 0, is free.
pub blank_entry : (slots : List ℕ) (k : ℕ) → ((j : ℕ) → j < width → slot_word slots k j ≡ 0) → node_entry slots k ≡ Free 0 0
blank_entry slots k blank = entry_free slots k (blank 1 (omega arith)) ∙ rw (blank 0 (omega arith), blank 2 (omega arith))

-- One slot more below the mark adds the slab that it holds,
pub held_at_raise : (slots : List ℕ) (mark p : ℕ) → held_at slots (suc mark) p ≡ held_at slots mark p + slab_of (node_entry slots mark) p
unfolding held_at sum
held_at_raise slots mark p = refl

-- and itself where it is live.
pub live_slots_raise : (slots : List ℕ) (mark : ℕ) → live_slots slots (suc mark) ≡ live_slots slots mark + live_of (node_entry slots mark)
unfolding live_slots sum
live_slots_raise slots mark = rw (← some_live slots mark)

-- A live slot below the mark holds its slab,
pub slab_held : (slots : List ℕ) (mark k : ℕ) (m : NodeMeta) (p : ℕ) → k < mark → node_entry slots k ≡ Node m
    → in_slab m.first m.capacity p ≤ held_at slots mark p
unfolding held_at
slab_held slots mark k m p l is = rw is at (sum_term (λ j. slab_of (node_entry slots j) p) mark k l)

-- and is counted,
pub live_counted : (slots : List ℕ) (mark k : ℕ) → k < mark → live_of (node_entry slots k) ≤ live_slots slots mark
unfolding live_slots
live_counted slots mark k l = rw (← some_live slots k) (sum_term (λ j. some (slot_word slots j 1)) mark k l)

-- and two of them hold two slabs.
pub slabs_two : (slots : List ℕ) (mark k j : ℕ) (m n : NodeMeta) (p : ℕ) → k < mark → j < mark → (k ≡ j → ⊥)
    → node_entry slots k ≡ Node m → node_entry slots j ≡ Node n
    → in_slab m.first m.capacity p + in_slab n.first n.capacity p ≤ held_at slots mark p
unfolding held_at
slabs_two slots mark k j m n p lk lj d is is' = rw (is, is') at (sum_two (λ i. slab_of (node_entry slots i) p) mark k j lk lj d)

module _ (slots slots' : List ℕ) (k : ℕ) (others : (j : ℕ) → (j ≡ k → ⊥) → Alike slots slots' j) where
  -- One slot that changes changes one term: in how many slabs a port lies,
  pub held_at_change : (mark p : ℕ) → k < mark
      → held_at slots' mark p + slab_of (node_entry slots k) p ≡ held_at slots mark p + slab_of (node_entry slots' k) p
  unfolding held_at
  held_at_change mark p l =
      sum_change (λ j. slab_of (node_entry slots' j) p) (λ j. slab_of (node_entry slots j) p) mark k l
      (λ j b d. on_node_same (node_entry slots j) (node_entry slots' j) _ 0 (others j d).step)

  -- and how many slots are live.
  pub live_slots_change : (mark : ℕ) → k < mark
      → live_slots slots' mark + live_of (node_entry slots k) ≡ live_slots slots mark + live_of (node_entry slots' k)
  unfolding live_slots
  live_slots_change mark l =
      rw (← some_live slots k, ← some_live slots' k)
      (sum_change (λ j. some (slot_word slots' j 1)) (λ j. some (slot_word slots j 1)) mark k l
      (λ j b d. some_live slots' j ∙ on_node_same (node_entry slots j) (node_entry slots' j) _ 0 (others j d).step ∙ sym (some_live slots j)))

-- A free slot stays one where it says the same of a step.
pub free_one_alike : (slots slots' : List ℕ) (mark k : ℕ) → Alike slots slots' k → free_one slots' mark k ≡ free_one slots mark k
unfolding free_one
free_one_alike slots slots' mark k a = rw (on_node_same (node_entry slots k) (node_entry slots' k) (λ m. 0) 1 a.step)

-- A word that is written is the only one that changes,
pub word_other : (slots : List ℕ) (k j v i l : ℕ) → j < width → l < width → (i ≡ k → l ≡ j → ⊥)
    → slot_word (set slots (width * k + j) v) i l ≡ slot_word slots i l
word_other slots k j v i l bj bl d = get_or-set_other slots (width * k + j) (width * i + l) v 0 (go (ℕ_discrete i k))
  where
    go : Dec (i ≡ k) → width * i + l ≡ width * k + j → ⊥
    go (yes e) = let n : l ≡ j → ⊥ = d e in omega arith
    go (no n) = omega arith

-- and is read back.
pub word_same : (slots : List ℕ) (k j v : ℕ) → j < width → width * k + width ≤ length slots → slot_word (set slots (width * k + j) v) k j ≡ v
word_same slots k j v b h = get_or-set_same slots (width * k + j) v 0 (omega arith)

-- the slots once this word of the slot that w names is v; 0 names none
unfoldable pub set_word : List ℕ → ℕ → ℕ → ℕ → List ℕ
set_word slots j w v = pick (eqb w 0) slots (set slots (width * (w - 1) + j) v)

-- A free slot's previous is its first word,
pub previous_word : (slots : List ℕ) (w v : ℕ) → set_previous slots w v ≡ set_word slots 0 w v
unfolding set_previous set_word
previous_word slots w v = refl

-- and its next the third.
pub next_word : (slots : List ℕ) (w v : ℕ) → set_next slots w v ≡ set_word slots 2 w v
unfolding set_next set_word
next_word slots w v = refl

-- Nothing is written where w names none, and else one word of the slot that it names.
pub set_word_cases : (P : List ℕ → Type 0) (slots : List ℕ) (j w v : ℕ) → (w ≡ 0 → P slots)
    → ((k : ℕ) → w ≡ suc k → P (set slots (width * k + j) v)) → P (set_word slots j w v)
unfolding set_word
set_word_cases P slots j zero v none named = none refl
set_word_cases P slots j (suc k) v none named = let e : suc k - 1 ≡ k = omega arith in rw (e, ne_eqb (suc k) 0 (omega arith)) (named k refl)

-- The table keeps its length,
pub set_word_length : (slots : List ℕ) (j w v : ℕ) → length (set_word slots j w v) ≡ length slots
set_word_length slots j w v = set_word_cases (λ t. length t ≡ length slots) slots j w v (λ e. refl) (λ k e. length-set slots (width * k + j) v)

-- the words of other slots and the other words of this slot,
pub set_word_other : (slots : List ℕ) (j w v i l : ℕ) → j < width → l < width → (w ≡ suc i → l ≡ j → ⊥)
    → slot_word (set_word slots j w v) i l ≡ slot_word slots i l
set_word_other slots j w v i l bj bl d =
    set_word_cases (λ t. slot_word t i l ≡ slot_word slots i l) slots j w v (λ e. refl)
    (λ k e. word_other slots k j v i l bj bl (λ same z. d (rw same e) z))

-- every word above the slots below a mark,
pub set_word_above : (slots : List ℕ) (j w v mark i : ℕ) → j < width → w ≤ mark → width * mark ≤ i → get_or (set_word slots j w v) i 0 ≡ get_or slots i 0
set_word_above slots j w v mark i b low h =
    set_word_cases (λ t. get_or t i 0 ≡ get_or slots i 0) slots j w v (λ e. refl)
    (λ k e. get_or-set_other slots (width * k + j) i v 0 (omega arith))

-- and has the word that is written.
pub set_word_same : (slots : List ℕ) (j w k v : ℕ) → w ≡ suc k → j < width → width * k + width ≤ length slots → slot_word (set_word slots j w v) k j ≡ v
set_word_same slots j w k v e b h =
    set_word_cases (λ t. slot_word t k j ≡ v) slots j w v (λ z. absurd (omega arith))
    (λ i is. let same : i ≡ k = omega arith in rw same (word_same slots k j v b h))

-- Where the slot that w names is free, every slot stays alike if a word of its place on the chain is written.
pub set_word_alike : (slots : List ℕ) (j w v : ℕ) → j < width → (j ≡ 1 → ⊥) → (j ≡ 3 → ⊥) → ((k : ℕ) → w ≡ suc k → slot_word slots k 1 ≡ 0)
    → (i : ℕ) → Alike slots (set_word slots j w v) i
set_word_alike slots j w v b not-1 not-3 free i = go (ℕ_discrete w (suc i))
  where
    words : (l : ℕ) → l < width → (w ≡ suc i → l ≡ j → ⊥) → slot_word (set_word slots j w v) i l ≡ slot_word slots i l
    words l bl d = set_word_other slots j w v i l b bl d

    go : Dec (w ≡ suc i) → Alike slots (set_word slots j w v) i
    go (yes e) =
        alike_free slots (set_word slots j w v) i (free i e) (words 1 (omega arith) (λ k z. omega arith) ∙ free i e)
        (words 3 (omega arith) (λ k z. omega arith))
    go (no n) = alike_ext slots (set_word slots j w v) i (λ l bl. words l bl (λ e z. n e))
