-- Laws of chains, for any `next` and any `previous`: how often a number stands on one, where its numbers lead, and what is left of it
-- when words change, when a number is put in front, and when all its numbers are renamed.
use Prim.Native.Nat.{ℕ, suc, ◌+◌, ◌≤◌, ◌<◌}
use mathlib.Core.Path.{◌≡◌, refl, ap, sym, ◌∙◌}
use mathlib.Core.List.{List, [], ◌∷◌, ◌++◌, map}
use mathlib.Core.Logic.{◌⊎◌, inl, inr}
use native.Mathlib.Omega.{arith}
use native.Mathlib.Decide.{ℕ_discrete}
use Rattle.slabs.specs.Sums.{sum_of}
use Rattle.slabs.specs.Slabs.{is_port, Chain}
use Rattle.slabs.proofs.SlabLaws.{is_port_yes, is_port_no}
use Rattle.slabs.proofs.SumLaws.{sum_of_append}
use Rattle.sound.specs.Sound.{Backed}

-- how often number k stands on a chain
abbrev pub times_on : List ℕ → ℕ → ℕ
times_on ks k = sum_of (λ j. is_port j k) ks

-- A chain's first number stands on it,
pub first_on : (k : ℕ) (ks : List ℕ) → 1 ≤ times_on (k ∷ ks) k
unfolding sum_of
first_on k ks = omega (arith, is_port_yes k k refl)

-- and so do those after it.
pub later_on : (j : ℕ) (ks : List ℕ) (k : ℕ) → 1 ≤ times_on ks k → 1 ≤ times_on (j ∷ ks) k
unfolding sum_of
later_on j ks k h = omega arith

-- A number of a chain is its first, or comes later.
pub on_cases : (j : ℕ) (ks : List ℕ) (k : ℕ) → 1 ≤ times_on (j ∷ ks) k → (j ≡ k) ⊎ (1 ≤ times_on ks k)
unfolding sum_of
on_cases j ks k h = go (ℕ_discrete j k)
  where
    go : Dec (j ≡ k) → (j ≡ k) ⊎ (1 ≤ times_on ks k)
    go (yes e) = inl e
    go (no d) = inr (omega (arith, is_port_no j k d))

-- No number stands on the empty chain.
pub none_on : (k : ℕ) → times_on [] k ≡ 0
unfolding sum_of
none_on k = refl

-- A number in front adds one to its own count and nothing to others'.
pub cons_on : (j : ℕ) (ks : List ℕ) (k : ℕ) → times_on (j ∷ ks) k ≡ is_port j k + times_on ks k
unfolding sum_of
cons_on j ks k = refl

-- A chain splits at each of its numbers.
pub on_split : (ks : List ℕ) (k : ℕ) → 1 ≤ times_on ks k → (before : List ℕ) × (after : List ℕ) × (ks ≡ before ++ (k ∷ after))
on_split [] k h = absurd (omega (arith, none_on k))
on_split (j ∷ ks) k h = go (on_cases j ks k h) (on_split ks k)
  where
    go : (j ≡ k) ⊎ (1 ≤ times_on ks k) → (1 ≤ times_on ks k → (before : List ℕ) × (after : List ℕ) × (ks ≡ before ++ (k ∷ after)))
        → (before : List ℕ) × (after : List ℕ) × (j ∷ ks ≡ before ++ (k ∷ after))
    go (inl e) later = ([], ks, ap (λ x. x ∷ ks) e)
    go (inr h') later = let (before, after, e) = later h' in (j ∷ before, after, ap (λ xs. j ∷ xs) e)

-- A number that stands on a chain once at most stands on neither side of itself.
pub not_twice : (before : List ℕ) (k : ℕ) (after : List ℕ) → times_on (before ++ (k ∷ after)) k ≤ 1
    → (times_on before k ≡ 0) × (times_on after k ≡ 0)
not_twice before k after h =
    let e : times_on (before ++ (k ∷ after)) k ≡ times_on before k + times_on (k ∷ after) k = sum_of_append _ before (k ∷ after) in
    (omega (arith, cons_on k after k, is_port_yes k k refl), omega (arith, cons_on k after k, is_port_yes k k refl))

-- A chain of numbers below b starts with a word of at most b,
pub chain_word : (next : ℕ → ℕ) (b word : ℕ) (ks : List ℕ) → ((k : ℕ) → 1 ≤ times_on ks k → k < b) → Chain next word ks → word ≤ b
chain_word next b word [] low c = omega arith
chain_word next b word (k ∷ ks) low c = omega (arith, low k (first_on k ks))

-- each of its numbers leads on by such a word,
pub chain_next : (next : ℕ → ℕ) (b word : ℕ) (ks : List ℕ) → ((k : ℕ) → 1 ≤ times_on ks k → k < b) → Chain next word ks
    → (k : ℕ) → 1 ≤ times_on ks k → next k ≤ b
chain_next next b word [] low c k h = absurd (omega (arith, none_on k))
chain_next next b word (j ∷ ks) low c k h = go (on_cases j ks k h) (chain_next next b (next j) ks later c.1 k)
  where
    later : (q : ℕ) → 1 ≤ times_on ks q → q < b
    later q m = low q (later_on j ks q m)

    go : (j ≡ k) ⊎ (1 ≤ times_on ks k) → (1 ≤ times_on ks k → next k ≤ b) → next k ≤ b
    go (inl e) below = rw (← e) (chain_word next b (next j) ks later c.1)
    go (inr m) below = below m

-- and back by such a word.
pub backed_previous : (previous : ℕ → ℕ) (b before : ℕ) (ks : List ℕ) → before ≤ b → ((k : ℕ) → 1 ≤ times_on ks k → k < b)
    → Backed previous before ks
    → (k : ℕ) → 1 ≤ times_on ks k → previous k ≤ b
backed_previous previous b before [] h low c k m = absurd (omega (arith, none_on k))
backed_previous previous b before (j ∷ ks) h low c k m =
    go (on_cases j ks k m)
    (backed_previous previous b (suc j) ks (omega (arith, low j (first_on j ks))) (λ q l. low q (later_on j ks q l)) c.1 k)
  where
    go : (j ≡ k) ⊎ (1 ≤ times_on ks k) → (1 ≤ times_on ks k → previous k ≤ b) → previous k ≤ b
    go (inl e) below = rw (← e) (omega arith)
    go (inr l) below = below l

-- Where a chain's word leads to a number, the chain is that number and a chain from its word on.
pub chain_first : (next : ℕ → ℕ) (k : ℕ) (ks : List ℕ) → Chain next (suc k) ks
    → (rest : List ℕ) × (ks ≡ k ∷ rest) × Chain next (next k) rest
chain_first next k [] c = absurd (omega arith)
chain_first next k (j ∷ ks) c = let e : j ≡ k = omega arith in (ks, ap (λ q. q ∷ ks) e, rw e at c.1)

-- What a chain's word leads to stands on it,
pub word_on : (next : ℕ → ℕ) (word : ℕ) (ks : List ℕ) → Chain next word ks → (k : ℕ) → word ≡ suc k → 1 ≤ times_on ks k
word_on next word [] c k e = absurd (omega arith)
word_on next word (j ∷ ks) c k e = let same : k ≡ j = omega arith in rw same (first_on j ks)

-- and names what comes before the chain as its previous.
pub first_backed : (next previous : ℕ → ℕ) (word before : ℕ) (ks : List ℕ) → Chain next word ks → Backed previous before ks
    → (k : ℕ) → word ≡ suc k → previous k ≡ before
first_backed next previous word before [] c b k e = absurd (omega arith)
first_backed next previous word before (j ∷ ks) c b k e = let same : k ≡ j = omega arith in rw same b.0

-- What a number of a chain leads to stands on it,
pub next_on : (next : ℕ → ℕ) (word : ℕ) (ks : List ℕ) → Chain next word ks → (q k : ℕ) → 1 ≤ times_on ks q → next q ≡ suc k
    → 1 ≤ times_on ks k
next_on next word [] c q k h e = absurd (omega (arith, none_on q))
next_on next word (j ∷ ks) c q k h e = go (on_cases j ks q h) (λ l. next_on next (next j) ks c.1 q k l e)
  where
    go : (j ≡ q) ⊎ (1 ≤ times_on ks q) → (1 ≤ times_on ks q → 1 ≤ times_on ks k) → 1 ≤ times_on (j ∷ ks) k
    go (inl i) later = later_on j ks k (word_on next (next j) ks c.1 k (ap next i ∙ e))
    go (inr l) later = later_on j ks k (later l)

-- and names it as its previous.
pub next_backed : (next previous : ℕ → ℕ) (word before : ℕ) (ks : List ℕ) → Chain next word ks → Backed previous before ks
    → (q k : ℕ) → 1 ≤ times_on ks q → next q ≡ suc k → previous k ≡ suc q
next_backed next previous word before [] c b q k h e = absurd (omega (arith, none_on q))
next_backed next previous word before (j ∷ ks) c b q k h e =
    go (on_cases j ks q h) (λ l. next_backed next previous (next j) (suc j) ks c.1 b.1 q k l e)
  where
    go : (j ≡ q) ⊎ (1 ≤ times_on ks q) → (1 ≤ times_on ks q → previous k ≡ suc q) → previous k ≡ suc q
    go (inl i) later = first_backed next previous (next j) (suc j) ks c.1 b.1 k (ap next i ∙ e) ∙ ap suc i
    go (inr l) later = later l

-- What a number of a chain names as its previous is what comes before the chain, or stands on it,
pub previous_on : (previous : ℕ → ℕ) (before : ℕ) (ks : List ℕ) → Backed previous before ks → (k q : ℕ) → 1 ≤ times_on ks k
    → previous k ≡ suc q → (before ≡ suc q) ⊎ (1 ≤ times_on ks q)
previous_on previous before [] b k q h e = absurd (omega (arith, none_on k))
previous_on previous before (j ∷ ks) b k q h e = go (on_cases j ks k h) (λ l. previous_on previous (suc j) ks b.1 k q l e)
  where
    last : (suc j ≡ suc q) ⊎ (1 ≤ times_on ks q) → 1 ≤ times_on (j ∷ ks) q
    last (inl i) = let same : j ≡ q = omega arith in rw same (first_on q ks)
    last (inr l) = later_on j ks q l

    go : (j ≡ k) ⊎ (1 ≤ times_on ks k) → (1 ≤ times_on ks k → (suc j ≡ suc q) ⊎ (1 ≤ times_on ks q)) → (before ≡ suc q) ⊎ (1 ≤ times_on (j ∷ ks) q)
    go (inl i) later = inl (sym b.0 ∙ ap previous i ∙ e)
    go (inr l) later = inr (last (later l))

-- and leads to it.
pub previous_leads : (next previous : ℕ → ℕ) (word before : ℕ) (ks : List ℕ) → ((q : ℕ) → before ≡ suc q → next q ≡ word)
    → Chain next word ks → Backed previous before ks
    → (k q : ℕ) → 1 ≤ times_on ks k → previous k ≡ suc q → next q ≡ suc k
previous_leads next previous word before [] from c b k q h e = absurd (omega (arith, none_on k))
previous_leads next previous word before (j ∷ ks) from c b k q h e =
    go (on_cases j ks k h)
    (λ l. previous_leads next previous (next j) (suc j) ks (λ i same. ap next (omega arith)) c.1 b.1 k q l e)
  where
    go : (j ≡ k) ⊎ (1 ≤ times_on ks k) → (1 ≤ times_on ks k → next q ≡ suc k) → next q ≡ suc k
    go (inl i) later = from q (sym b.0 ∙ ap previous i ∙ e) ∙ c.0 ∙ ap suc i
    go (inr l) later = later l

-- No later number of a chain names none as its previous,
later_backed : (previous : ℕ → ℕ) (j : ℕ) (ks : List ℕ) → Backed previous (suc j) ks → (k : ℕ) → 1 ≤ times_on ks k → previous k ≡ 0 → ⊥
later_backed previous j [] b k h e = omega (arith, none_on k)
later_backed previous j (i ∷ ks) b k h e = go (on_cases i ks k h) (λ l. later_backed previous i ks b.1 k l e)
  where
    go : (i ≡ k) ⊎ (1 ≤ times_on ks k) → (1 ≤ times_on ks k → ⊥) → ⊥
    go (inl same) later = omega (arith, ap previous same)
    go (inr l) later = later l

-- so the one that names none is the first.
pub first_alone : (next previous : ℕ → ℕ) (word before : ℕ) (ks : List ℕ) → Chain next word ks → Backed previous before ks
    → (k : ℕ) → 1 ≤ times_on ks k → previous k ≡ 0 → word ≡ suc k
first_alone next previous word before [] c b k h e = absurd (omega (arith, none_on k))
first_alone next previous word before (j ∷ ks) c b k h e = go (on_cases j ks k h)
  where
    go : (j ≡ k) ⊎ (1 ≤ times_on ks k) → word ≡ suc k
    go (inl i) = c.0 ∙ ap suc i
    go (inr l) = absurd (later_backed previous j ks b.1 k l e)

-- A chain's numbers name the ones before them as long as their words stay.
pub backed_kept : (previous previous' : ℕ → ℕ) (before : ℕ) (ks : List ℕ) → ((k : ℕ) → 1 ≤ times_on ks k → previous k ≡ previous' k)
    → Backed previous before ks → Backed previous' before ks
backed_kept previous previous' before [] same c = c
backed_kept previous previous' before (k ∷ ks) same c =
    (sym (same k (first_on k ks)) ∙ c.0, backed_kept previous previous' (suc k) ks (λ q h. same q (later_on k ks q h)) c.1)

-- What comes before a chain changes with the word of its first number alone.
pub backed_from : (next previous previous' : ℕ → ℕ) (word before before' : ℕ) (ks : List ℕ) → ((k : ℕ) → times_on ks k ≤ 1)
    → ((k : ℕ) → word ≡ suc k → previous' k ≡ before')
    → ((k : ℕ) → 1 ≤ times_on ks k → (word ≡ suc k → ⊥) → previous k ≡ previous' k)
    → Chain next word ks → Backed previous before ks → Backed previous' before' ks
backed_from next previous previous' word before before' [] once first others c b = b
backed_from next previous previous' word before before' (k ∷ ks) once first others c b =
    (first k c.0, backed_kept previous previous' (suc k) ks (λ q h. others q (later_on k ks q h) (apart q h)) b.1)
  where
    apart : (q : ℕ) → 1 ≤ times_on ks q → word ≡ suc q → ⊥
    apart q h e = let same : k ≡ q = omega arith in omega (arith, once q, cons_on k ks q, is_port_yes k q same)

-- All numbers of a chain renamed by f, and with them the words, by g: the chain still stands,
pub chain_renamed : (f g next next' : ℕ → ℕ) (word : ℕ) (ks : List ℕ) → g 0 ≡ 0 → ((k : ℕ) → 1 ≤ times_on ks k → g (suc k) ≡ suc (f k))
    → ((k : ℕ) → 1 ≤ times_on ks k → next' (f k) ≡ g (next k))
    → Chain next word ks → Chain next' (g word) (map f ks)
chain_renamed f g next next' word [] z names leads c = ap g c ∙ z
chain_renamed f g next next' word (k ∷ ks) z names leads c = (
  ap g c.0 ∙ names k (first_on k ks),
  rw (leads k (first_on k ks))
      (chain_renamed f g next next' (next k) ks z (λ q h. names q (later_on k ks q h)) (λ q h. leads q (later_on k ks q h)) c.1),
)

-- and its numbers name the ones before them.
pub backed_renamed : (f g previous previous' : ℕ → ℕ) (before : ℕ) (ks : List ℕ) → ((k : ℕ) → 1 ≤ times_on ks k → g (suc k) ≡ suc (f k))
    → ((k : ℕ) → 1 ≤ times_on ks k → previous' (f k) ≡ g (previous k))
    → Backed previous before ks → Backed previous' (g before) (map f ks)
backed_renamed f g previous previous' before [] names leads c = c
backed_renamed f g previous previous' before (k ∷ ks) names leads c = (
  leads k (first_on k ks) ∙ ap g c.0,
  rw (← names k (first_on k ks))
      (backed_renamed f g previous previous' (suc k) ks (λ q h. names q (later_on k ks q h)) (λ q h. leads q (later_on k ks q h)) c.1),
)

-- By a renaming that f and back undo each other, a number stands on the renamed chain as often as the one that it was.
pub renamed_on : (f back : ℕ → ℕ) → ((k : ℕ) → back (f k) ≡ k) → ((k : ℕ) → f (back k) ≡ k) → (ks : List ℕ) (k : ℕ)
    → times_on (map f ks) k ≡ times_on ks (back k)
renamed_on f back there here [] k = none_on k ∙ sym (none_on (back k))
renamed_on f back there here (j ∷ ks) k =
    cons_on (f j) (map f ks) k ∙ rw (same (ℕ_discrete (f j) k), renamed_on f back there here ks k) (sym (cons_on j ks (back k)))
  where
    same : Dec (f j ≡ k) → is_port (f j) k ≡ is_port j (back k)
    same (yes e) = is_port_yes (f j) k e ∙ sym (is_port_yes j (back k) (sym (there j) ∙ ap back e))
    same (no d) = is_port_no (f j) k d ∙ sym (is_port_no j (back k) (λ e. d (ap f e ∙ here k)))
