-- Laws of the order in a buffer whose title ends at a byte: the count byte, and the pairs after it.
use mathlib.Core.Path.{◌≡◌, ◌∙◌}
use mathlib.Core.Bool.{true, false, true≢false, false≢true}
use mathlib.Core.List.{List}
use mathlib.Core.Option.{none, some}
use Prim.Native.Nat.{ℕ, ◌+◌, ◌≤◌, ◌<◌}
use native.Mathlib.Omega.{arith}
use lib.ListN.{length, drop, get_or}
use borrow.Author.Tests.{lt-leb}
use Rattle.text.specs.Parts.{part}
use Rattle.rules.specs.Items.{is_some}
use Rattle.rules.proofs.Basics.{options}
use Rattle.sheet.specs.Buffer.{pair_limit, text_width, cut_as, and_then, sized, pairs_in, few_pairs_in, order_in}
use Rattle.sheet.specs.Spans.{are_pairs, pairs_at}
use Rattle.sheet.proofs.Laws.Buffer.{cut-yes, cut-no, low_byte}
use Rattle.sheet.proofs.Laws.Forms.{few_pairs_in-given}

pub order_in-titleless : (x : List ℕ) → sized text_width x ≡ none → order_in x ≡ none
unfolding order_in
order_in-titleless x h = rw h

few_pairs_in-many : (n : ℕ) (y : List ℕ) → pair_limit < n → few_pairs_in n y ≡ none
unfolding few_pairs_in
few_pairs_in-many n y h = rw (lt-leb n pair_limit h, few_pairs_in)

module _ (x : List ℕ) (e : ℕ) (t : sized text_width x ≡ some (cut_as (part x text_width e) (drop e x))) where
  pub order_in-countless : e ≤ length x → length x ≤ e → order_in x ≡ none
  unfolding order_in
  order_in-countless h k = rw (t, cut-no x e 1 h (omega arith))

  module _ (h : e < length x) where
    order_in-count : (n : ℕ) → n ≡ get_or x e 0
        → order_in x ≡ and_then (few_pairs_in n (drop (e + 1) x)) (λ ps. some (record { title = part x text_width e; pairs = ps }))
    unfolding order_in
    order_in-count n i = rw (t, cut-yes x e 1 (omega arith) (omega arith), low_byte x e h, ← i)

    module _ (n : ℕ) (i : n ≡ get_or x e 0) where
      pub order_in-many : pair_limit < n → order_in x ≡ none
      order_in-many k = order_in-count n i ∙ rw (few_pairs_in-many n (drop (e + 1) x) k)

      module _ (k : n ≤ pair_limit) where
        pub order_in-cut : are_pairs x (e + 1) n ≡ false → order_in x ≡ none
        unfolding are_pairs is_some
        order_in-cut l = options (pairs_in n (drop (e + 1) x))
            (λ j. order_in-count n i ∙ rw (few_pairs_in-given n (drop (e + 1) x) k, j))
            (λ ps j. absurd (true≢false (rw j at l)))

        pub order_in-yes : are_pairs x (e + 1) n ≡ true → order_in x ≡ some (record { title = part x text_width e; pairs = pairs_at x (e + 1) n })
        unfolding are_pairs pairs_at is_some
        order_in-yes l = options (pairs_in n (drop (e + 1) x))
            (λ j. absurd (false≢true (rw j at l)))
            (λ ps j. order_in-count n i ∙ rw (few_pairs_in-given n (drop (e + 1) x) k, j))
