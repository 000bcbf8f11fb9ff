-- Laws of the pair that stands at a byte: where its key and value stand.
use mathlib.Core.Path.{◌≡◌}
use mathlib.Core.Bool.{true, false≢true}
use mathlib.Core.List.{List}
use mathlib.Core.Option.{none, some}
use Prim.Native.Nat.{ℕ, ◌+◌, ◌≤◌}
use native.Mathlib.Omega.{arith}
use lib.Dec.{ltb}
use lib.ListN.{length, drop, drop_of_length-le}
use borrow.Author.Tests.{ltb-true, ltb-false}
use borrow.Table.Steps.{cases}
use Rattle.text.specs.Parts.{part}
use Rattle.rules.specs.Items.{is_some}
use Rattle.sheet.specs.Buffer.{Cut, cut_as, pair_cut, cut, low_first, sized, pair_in}
use Rattle.sheet.specs.Spans.{HasPair}
use Rattle.sheet.proofs.Laws.Buffer.{sized-cut, sized-yes, sized-no}

-- ---- one pair

module _ (y : List ℕ) where
  pub pair_in-keyless : sized 1 y ≡ none → pair_in y ≡ none
  unfolding pair_in
  pair_in-keyless h = rw h

  pub pair_in-cut : (k : Cut) → sized 1 y ≡ some k → sized 2 k.rest ≡ none → pair_in y ≡ none
  unfolding pair_in
  pair_in-cut k h i = rw (h, i)

  pub pair_in-yes : (k v : Cut) → sized 1 y ≡ some k → sized 2 k.rest ≡ some v → pair_in y ≡ some (pair_cut k.bytes v.bytes v.rest)
  unfolding pair_in
  pair_in-yes k v h i = rw (h, i)

  -- where a pair stands its parts are not missing
  pair_in-not : is_some (pair_in y) ≡ true → pair_in y ≡ none → ⊥
  unfolding is_some
  pair_in-not h i = false≢true (rw i at h)

past_end : (x : List ℕ) (p : ℕ) → length x ≤ p → pair_in (drop p x) ≡ none
unfolding pair_in sized cut
past_end x p h = rw (drop_of_length-le x h)

-- the key's length is m, the value's n
module _ (x : List ℕ) (p : ℕ) (h : HasPair x p) where
  pub has_pair-key : p + 1 ≤ length x
  has_pair-key = cases (ltb p (length x))
      (λ i. omega (arith, ltb-true p (length x) i))
      (λ i. absurd (pair_in-not (drop p x) h (past_end x p (ltb-false p (length x) i))))

  module _ (m : ℕ) (a : m ≡ low_first (part x p (p + 1))) where
    key : p + 1 + m ≤ length x → sized 1 (drop p x) ≡ some (cut_as (part x (p + 1) (p + 1 + m)) (drop (p + 1 + m) x))
    key i = sized-yes x p 1 has_pair-key m a i

    has_pair-to : p + 1 + m ≤ length x
    has_pair-to = cases (ltb (length x) (p + 1 + m))
        (λ i. absurd (pair_in-not (drop p x) h (pair_in-keyless (drop p x) (sized-no x p 1 has_pair-key m a (ltb-true _ _ i)))))
        (λ i. ltb-false _ _ i)

    pub has_pair-value : p + 1 + m + 2 ≤ length x
    has_pair-value = cases (ltb (length x) (p + 1 + m + 2))
        (λ i. absurd (pair_in-not (drop p x) h (pair_in-cut (drop p x) _ (key has_pair-to) (sized-cut x (p + 1 + m) 2 has_pair-to (ltb-true _ _ i)))))
        (λ i. ltb-false _ _ i)

    module _ (n : ℕ) (b : n ≡ low_first (part x (p + 1 + m) (p + 1 + m + 2))) where
      pub has_pair-end : p + 1 + m + 2 + n ≤ length x
      has_pair-end = cases (ltb (length x) (p + 1 + m + 2 + n))
          (λ i. absurd (pair_in-not (drop p x) h (pair_in-cut (drop p x) _ (key has_pair-to) (sized-no x (p + 1 + m) 2 has_pair-value n b (ltb-true _ _ i)))))
          (λ i. ltb-false _ _ i)

      pub has_pair-is : pair_in (drop p x) ≡ some (pair_cut (part x (p + 1) (p + 1 + m)) (part x (p + 1 + m + 2) (p + 1 + m + 2 + n)) (drop (p + 1 + m + 2 + n) x))
      has_pair-is = pair_in-yes (drop p x) _ _ (key has_pair-to) (sized-yes x (p + 1 + m) 2 has_pair-value n b has_pair-end)
