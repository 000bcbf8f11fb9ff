-- Laws of the pairs that stand from a byte on: the first of them, and what is left.
use mathlib.Core.Path.{◌≡◌, refl, sym, ◌∙◌}
use mathlib.Core.Bool.{Bool, true, false, false≢true}
use mathlib.Core.List.{List, [], ◌∷◌}
use mathlib.Core.Option.{Option, none, some}
use Prim.Native.Nat.{ℕ, zero, suc, ◌+◌, ◌≤◌, ◌<◌}
use native.Mathlib.Omega.{arith}
use lib.Dec.{eqb, eqb-zero-suc, eqb-suc-suc}
use lib.ListN.{length, drop}
use borrow.Table.Steps.{cases}
use Rattle.text.specs.Runs.{is_empty, same}
use Rattle.rules.specs.Items as Items
use Rattle.rules.proofs.Basics.{options}
use Rattle.std.specs.declared.option.Option as Options
use Rattle.std.specs.Option.{is_some}
use Rattle.sheet.specs.declared.buffer.Part.{Part}
use Rattle.sheet.specs.declared.pairs.PairSpan.{PairSpan}
use Rattle.sheet.specs.Order.{Pair, some_pair, has_key, value_for}
use Rattle.sheet.specs.Buffer.{PairCut, pair_in, pairs_in}
use Rattle.sheet.specs.Faults.{repeats}
use Rattle.sheet.specs.Spans.{HasPair, PairAt, pair_of, are_pairs, pairs_at, HasPairs, ValueAt}

-- ---- so many pairs, one at a time

module _ (n : ℕ) (y : List ℕ) where
  pairs_in-no : pair_in y ≡ none → pairs_in (suc n) y ≡ none
  unfolding pairs_in
  pairs_in-no h = rw h

  pairs_in-yes : (c : PairCut) (ps : List Pair) → pair_in y ≡ some c → pairs_in n c.rest ≡ some ps → pairs_in (suc n) y ≡ some (c.first ∷ ps)
  unfolding pairs_in
  pairs_in-yes c ps h i = rw (h, i)

  pairs_in-cut : (c : PairCut) → pair_in y ≡ some c → pairs_in n c.rest ≡ none → pairs_in (suc n) y ≡ none
  unfolding pairs_in
  pairs_in-cut c h i = rw (h, i)

is_empty-drop : (x : List ℕ) (p : ℕ) → p ≤ length x → is_empty (drop p x) ≡ eqb p (length x)
unfolding is_empty
is_empty-drop [] p h = let e : p ≡ 0 = omega arith in rw e
is_empty-drop (b ∷ x) zero h = rw eqb-zero-suc
is_empty-drop (b ∷ x) (suc p) h = rw eqb-suc-suc (is_empty-drop x p (omega arith))

module _ (x : List ℕ) (p : ℕ) where
  pub are_pairs-none : (n : ℕ) → n ≤ 0 → p ≤ length x → are_pairs x p n ≡ eqb p (length x)
  unfolding are_pairs pairs_in Items.is_some
  are_pairs-none (suc n) i h = absurd (omega arith)
  are_pairs-none zero i h =
      let last = is_empty-drop x p h in
      cases (is_empty (drop p x)) (λ e. rw (e, pairs_in) (sym e ∙ last)) (λ e. rw (e, pairs_in) (sym e ∙ last))

  pub pairs_at-none : (n : ℕ) → n ≤ 0 → pairs_at x p n ≡ []
  unfolding pairs_at pairs_in
  pairs_at-none zero h = cases (is_empty (drop p x)) (λ e. rw (e, pairs_in)) (λ e. rw (e, pairs_in))
  pairs_at-none (suc n) h = absurd (omega arith)

  pub are_pairs-no : (n : ℕ) → 0 < n → pair_in (drop p x) ≡ none → are_pairs x p n ≡ false
  unfolding are_pairs Items.is_some
  are_pairs-no zero h i = absurd (omega arith)
  are_pairs-no (suc n) h i = rw (pairs_in-no n (drop p x) i)

  pub are_pairs-step : (n m : ℕ) → n ≡ m + 1 → (c : PairCut) (e : ℕ) → pair_in (drop p x) ≡ some c → c.rest ≡ drop e x
      → are_pairs x p n ≡ are_pairs x e m
  unfolding are_pairs Items.is_some
  are_pairs-step zero m h c e i j = absurd (omega arith)
  are_pairs-step (suc n) m h c e i j =
      let k : m ≡ n = omega arith in
      options (pairs_in n (drop e x))
      (λ l. rw (k, l, pairs_in-cut n (drop p x) c i (rw j l)))
      (λ ps l. rw (k, l, pairs_in-yes n (drop p x) c ps i (rw j l)))

  pub pairs-step : (n m : ℕ) → HasPairs x p n → n ≡ m + 1 → (r : PairSpan) → PairAt x p r → pairs_at x p n ≡ pair_of x r ∷ pairs_at x r.end m
  unfolding pairs_at are_pairs Items.is_some
  pairs-step zero m h k r a = absurd (omega arith)
  pairs-step (suc n) m h k r a =
      let e : m ≡ n = omega arith in
      options (pairs_in n (drop r.end x))
      (λ l. absurd (false≢true (rw (pairs_in-cut n (drop p x) _ a.is l) at h)))
      (λ ps l. rw (e, l, pairs_in-yes n (drop p x) _ ps a.is l))

  pub pairs_first : (n : ℕ) → HasPairs x p n → 0 < n → HasPair x p
  unfolding Items.is_some
  pairs_first n h k = options (pair_in (drop p x)) (λ e. absurd (false≢true (sym (are_pairs-no n k e) ∙ h))) (λ c e. rw e)

  pub pairs-left : (n m : ℕ) → HasPairs x p n → n ≡ m + 1 → (r : PairSpan) → PairAt x p r → HasPairs x r.end m
  pairs-left n m h k r a = sym (are_pairs-step n m k _ r.end a.is refl) ∙ h

-- ---- a pair sought by its key

pub has_key-value_for : (k : List ℕ) (ps : List Pair) → has_key k ps ≡ Items.is_some (value_for k ps)
unfolding has_key some_pair value_for Items.is_some
has_key-value_for k [] = refl
has_key-value_for k (p ∷ ps) = cases (same p.key k) (λ h. rw (h, value_for)) (λ h. rw (h, value_for) (has_key-value_for k ps))

-- the code finds a value just where there is one
pub is_some-value : (x : List ℕ) (v : Option (List ℕ)) (r : Options.Option Part) → ValueAt x v r → is_some r ≡ Items.is_some v
unfolding Items.is_some
is_some-value x v Options.TheVariants.None h = rw h
is_some-value x v (Options.TheVariants.Some a) h = rw h.2

-- ---- a test of the pairs, one at a time

module _ (x : List ℕ) (p n : ℕ) where
  pub some-none : (f : Pair → Bool) → n ≤ 0 → some_pair f (pairs_at x p n) ≡ false
  unfolding some_pair
  some-none f h = rw (pairs_at-none x p n h)

  pub value_for-none : (k : List ℕ) → n ≤ 0 → value_for k (pairs_at x p n) ≡ none
  unfolding value_for
  value_for-none k h = rw (pairs_at-none x p n h)

  pub repeats-none : n ≤ 0 → repeats (pairs_at x p n) ≡ false
  unfolding repeats
  repeats-none h = rw (pairs_at-none x p n h)

  module _ (m : ℕ) (h : HasPairs x p n) (k : n ≡ m + 1) (r : PairSpan) (a : PairAt x p r) where
    pub some-here : (f : Pair → Bool) → f (pair_of x r) ≡ true → some_pair f (pairs_at x p n) ≡ true
    unfolding some_pair
    some-here f i = rw (pairs-step x p n m h k r a, i)

    pub some-skip : (f : Pair → Bool) → f (pair_of x r) ≡ false → some_pair f (pairs_at x p n) ≡ some_pair f (pairs_at x r.end m)
    unfolding some_pair
    some-skip f i = rw (pairs-step x p n m h k r a, i)

    pub value_for-here : (w : List ℕ) → same (pair_of x r).key w ≡ true → value_for w (pairs_at x p n) ≡ some (pair_of x r).value
    unfolding value_for
    value_for-here w i = rw (pairs-step x p n m h k r a, i, value_for)

    pub value_for-skip : (w : List ℕ) → same (pair_of x r).key w ≡ false → value_for w (pairs_at x p n) ≡ value_for w (pairs_at x r.end m)
    unfolding value_for
    value_for-skip w i = rw (pairs-step x p n m h k r a, i, value_for)

    pub repeats-here : has_key (pair_of x r).key (pairs_at x r.end m) ≡ true → repeats (pairs_at x p n) ≡ true
    unfolding repeats
    repeats-here i = rw (pairs-step x p n m h k r a, i)

    pub repeats-skip : has_key (pair_of x r).key (pairs_at x r.end m) ≡ false → repeats (pairs_at x p n) ≡ repeats (pairs_at x r.end m)
    unfolding repeats
    repeats-skip i = rw (pairs-step x p n m h k r a, i)
