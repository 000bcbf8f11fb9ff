-- The orders of a log from a byte on: one order and those after it. How far the recursion may go does not matter where it may go far enough.
use mathlib.Core.Path.{◌≡◌, refl, sym, ap, ◌∙◌}
use mathlib.Core.Bool.{true, false, false≢true}
use mathlib.Core.List.{List, [], ◌∷◌, ◌++◌}
use mathlib.Core.Option.{Option, none, some}
use Prim.Native.Nat.{ℕ, zero, suc, ◌+◌, ◌-◌, ◌≤◌, ◌<◌}
use native.Mathlib.Omega.{arith}
use lib.Dec.{ltb}
use lib.ListN.{length, drop, length-append, length-drop}
use borrow.Author.Tests.{ltb-true, ltb-false}
use borrow.Table.Steps.{cases}
use Rattle.text.specs.Parts.{part}
use Rattle.text.specs.Runs.{is_empty}
use Rattle.dates.proofs.Laws.Reads.{empty-yes, empty-no}
use Rattle.rules.specs.Items.{is_some}
use Rattle.rules.proofs.Basics.{options}
use Rattle.sheet.specs.Buffer.{Cut, cut_as, and_then, low_first, sized}
use Rattle.sheet.proofs.Laws.Buffer.{sized-cut, sized-yes, sized-no}
use Rattle.sheet.proofs.Laws.Forms.{sized-only}
use Rattle.intake.specs.Log.{log_width, orders_from, orders_in}

-- an order before others
abbrev pub before : List ℕ → Option (List (List ℕ)) → Option (List (List ℕ))
before y m = and_then m (λ os. some (y ∷ os))

module _ (n : ℕ) (x : List ℕ) where
  pub from_end : is_empty x ≡ true → orders_from n x ≡ some []
  unfolding orders_from
  from_end h = elim n as (λ k. orders_from k x ≡ some []) [ zero ↦ rw (h, orders_from) | suc m ↦ rw (h, orders_from) ]

  pub from_step : is_empty x ≡ false → orders_from (suc n) x ≡ and_then (sized log_width x) (λ c. before c.bytes (orders_from n c.rest))
  unfolding orders_from
  from_step h = rw (h, orders_from)

pub from_cut : (x : List ℕ) → is_empty x ≡ false → orders_from zero x ≡ none
unfolding orders_from
from_cut x h = rw (h, orders_from)

-- ---- far enough

-- what is left after an order is shorter
sized-rest : (x : List ℕ) (c : Cut) → sized log_width x ≡ some c → length c.rest < length x
sized-rest x c h =
    let (a, (i, j)) = sized-only log_width x c h in
    omega (arith, ap length i, a.size, length-append a.head (a.bytes ++ c.rest), length-append a.bytes c.rest)

from-enough : (n m : ℕ) (x : List ℕ) → length x ≤ n → length x ≤ m → orders_from n x ≡ orders_from m x
from-enough zero m x h i = let e = empty-yes x (omega arith) in from_end zero x e ∙ sym (from_end m x e)
from-enough (suc n) zero x h i = let e = empty-yes x (omega arith) in from_end (suc n) x e ∙ sym (from_end zero x e)
from-enough (suc n) (suc m) x h i = cases (is_empty x)
    (λ e. from_end (suc n) x e ∙ sym (from_end (suc m) x e))
    (λ e. from_step n x e
    ∙ options (sized log_width x)
    (λ z. rw z)
    (λ c z. let r = sized-rest x c z in rw (z, from-enough n m c.rest (omega arith) (omega arith)))
    ∙ sym (from_step m x e))

-- ---- from a byte on

module _ (x : List ℕ) (p : ℕ) where
  pub orders-end : length x ≤ p → orders_in (drop p x) ≡ some []
  unfolding orders_in
  orders-end h = from_end (length (drop p x)) (drop p x) (empty-yes (drop p x) (omega (arith, length-drop p x)))

  module _ (h : p < length x) where
    some_left : is_empty (drop p x) ≡ false
    some_left = empty-no (drop p x) (omega (arith, length-drop p x))

    from-length : orders_from (length (drop p x)) (drop p x)
        ≡ and_then (sized log_width (drop p x)) (λ c. before c.bytes (orders_from (length (drop p x) - 1) c.rest))
    from-length =
        let n : length (drop p x) ≡ suc (length (drop p x) - 1) = omega (arith, length-drop p x) in
        ap (λ (k : ℕ). orders_from k (drop p x)) n ∙ from_step (length (drop p x) - 1) (drop p x) some_left

    pub orders-cut : sized log_width (drop p x) ≡ none → orders_in (drop p x) ≡ none
    unfolding orders_in
    orders-cut i = from-length ∙ rw i

    pub orders-step : (y : List ℕ) (e : ℕ) → sized log_width (drop p x) ≡ some (cut_as y (drop e x)) → orders_in (drop p x) ≡ before y (orders_in (drop e x))
    unfolding orders_in
    orders-step y e i =
        let r = sized-rest (drop p x) (cut_as y (drop e x)) i in
        from-length ∙ rw i (ap (before y) (from-enough (length (drop p x) - 1) (length (drop e x)) (drop e x) (omega arith) (omega arith)))

    -- a whole log has an order there
    module _ (w : is_some (orders_in (drop p x)) ≡ true) where
      none-no : orders_in (drop p x) ≡ none → ⊥
      unfolding is_some
      none-no i = false≢true (rw i at w)

      pub orders-width : p + log_width ≤ length x
      orders-width = cases (ltb (length x) (p + log_width))
          (λ i. absurd (none-no (orders-cut (sized-cut x p log_width (omega arith) (ltb-true _ _ i)))))
          (λ i. ltb-false _ _ i)

      module _ (m : ℕ) (e : m ≡ low_first (part x p (p + log_width))) where
        pub orders-to : p + log_width + m ≤ length x
        orders-to = cases (ltb (length x) (p + log_width + m))
            (λ i. absurd (none-no (orders-cut (sized-no x p log_width orders-width m e (ltb-true _ _ i)))))
            (λ i. ltb-false _ _ i)

        pub orders-first : orders_in (drop p x) ≡ before (part x (p + log_width) (p + log_width + m)) (orders_in (drop (p + log_width + m) x))
        orders-first = orders-step (part x (p + log_width) (p + log_width + m)) (p + log_width + m) (sized-yes x p log_width orders-width m e orders-to)

pub is_some-before : (y : List ℕ) (m : Option (List (List ℕ))) → is_some (before y m) ≡ is_some m
unfolding is_some
is_some-before y none = refl
is_some-before y (some os) = refl
