-- Laws of a buffer's judgement: which it is, by 12, 13, 14 and 15 in turn; and what it says: a refusal's number is 12 or more, and a good order
-- has no bad text, no bad name and no repeated key.
use mathlib.Core.Path.{◌≡◌, refl, sym}
use mathlib.Core.Bool.{Bool, true, false}
use mathlib.Core.List.{List, [], ◌∷◌}
use mathlib.Core.Option.{none, some}
use Prim.Native.Nat.{ℕ, ◌≤◌}
use native.Mathlib.Omega.{arith}
use Rattle.text.specs.Number
use Rattle.text.specs.Runs.{word, same}
use Rattle.rules.proofs.Basics.{or_no, options, All, all_nil, all_cons}
use Rattle.lookup.specs.Stages.{is_bad_key}
use Rattle.sheet.specs.Order.{Pair, Order, some_pair}
use Rattle.sheet.specs.Buffer.{order_in}
use Rattle.sheet.specs.Faults.{is_bad_text, has_bad_text, is_bad_name, has_bad_name, repeats, Judged, Refused, Good, refuse_if, judged_order, judged}

-- ---- each in its turn

pub judged-none : (x : List ℕ) → order_in x ≡ none → judged x ≡ Refused Number.bad_order
unfolding judged
judged-none x h = rw (h, judged)

module _ (x : List ℕ) (o : Order) (h : order_in x ≡ some o) where
  pub judged-title : is_bad_text o.title ≡ true → judged x ≡ Refused Number.bad_text
  unfolding judged judged_order has_bad_text
  judged-title i = rw (h, judged, i)

  module _ (i : is_bad_text o.title ≡ false) where
    pub judged-value : some_pair (λ p. is_bad_text p.value) o.pairs ≡ true → judged x ≡ Refused Number.bad_text
    unfolding judged judged_order has_bad_text
    judged-value j = rw (h, judged, i, j)

    module _ (j : some_pair (λ p. is_bad_text p.value) o.pairs ≡ false) where
      pub judged-name : some_pair (λ p. is_bad_name p.key) o.pairs ≡ true → judged x ≡ Refused Number.bad_name
      unfolding judged judged_order has_bad_text has_bad_name
      judged-name k = rw (h, judged, i, j, k)

      module _ (k : some_pair (λ p. is_bad_name p.key) o.pairs ≡ false) where
        pub judged-repeated : repeats o.pairs ≡ true → judged x ≡ Refused Number.repeated_key
        unfolding judged judged_order has_bad_text has_bad_name
        judged-repeated l = rw (h, judged, i, j, k, l)

        pub judged-accepted : repeats o.pairs ≡ false → judged x ≡ Good o
        unfolding judged judged_order has_bad_text has_bad_name
        judged-accepted l = rw (h, judged, i, j, k, l)

-- ---- a refusal

refused-good : (n : ℕ) (o : Order) → Refused n ≡ Good o → ⊥
refused-good n o h = let z : ◌≡◌ {A = ℕ} 0 1 = cc in omega arith

refuse_if-number : (b : Bool) (m : ℕ) (j : Judged) (n : ℕ) → Number.bad_order ≤ m → (j ≡ Refused n → Number.bad_order ≤ n) → refuse_if b m j ≡ Refused n
    → Number.bad_order ≤ n
refuse_if-number true m j n h f i = let k : m ≡ n = cc in omega arith
refuse_if-number false m j n h f i = f i

judged_order-number : (o : Order) (n : ℕ) → judged_order o ≡ Refused n → Number.bad_order ≤ n
unfolding judged_order
judged_order-number o n = refuse_if-number (has_bad_text o) _ _ n (omega arith)
    (refuse_if-number (has_bad_name o) _ _ n (omega arith)
    (refuse_if-number (repeats o.pairs) _ (Good o) n (omega arith) (λ h. absurd (refused-good n o (sym h)))))

pub judged-number : (x : List ℕ) (n : ℕ) → judged x ≡ Refused n → Number.bad_order ≤ n
unfolding judged
judged-number x n h = options (order_in x)
    (λ e. let i : Refused Number.bad_order ≡ Refused n = rw (e, judged) at h in let j : Number.bad_order ≡ n = cc in omega arith)
    (λ o e. judged_order-number o n (rw (e, judged) at h))

-- ---- a good order

pub record GoodPair (p : Pair) : Type 0 where
  pub key : is_bad_key p.key ≡ false
  pub other : same p.key (word "END") ≡ false
  pub value : is_bad_text p.value ≡ false

pub record GoodOrder (o : Order) : Type 0 where
  pub title : is_bad_text o.title ≡ false
  pub pairs : All GoodPair o.pairs
  pub once : repeats o.pairs ≡ false

good-pairs : (ps : List Pair) → some_pair (λ p. is_bad_text p.value) ps ≡ false → some_pair (λ p. is_bad_name p.key) ps ≡ false → All GoodPair ps
unfolding some_pair is_bad_name
good-pairs [] h i = all_nil
good-pairs (p ∷ ps) h i =
    let (a0, a1) = or_no (is_bad_text p.value) _ h in
    let (b0, b1) = or_no (is_bad_name p.key) _ i in
    let (c0, c1) = or_no (is_bad_key p.key) _ b0 in
    all_cons (record { key = c0; other = c1; value = a0 }) (good-pairs ps a1 b1)

refuse_if-good : (b : Bool) (n : ℕ) (j : Judged) (o : Order) → refuse_if b n j ≡ Good o → (b ≡ false) × (j ≡ Good o)
refuse_if-good true n j o h = absurd (refused-good n o h)
refuse_if-good false n j o h = (refl, h)

judged_order-good : (a o : Order) → judged_order a ≡ Good o → GoodOrder o
unfolding judged_order has_bad_text has_bad_name
judged_order-good a o h =
    let (t, i) = refuse_if-good (has_bad_text a) _ _ o h in
    let (n, j) = refuse_if-good (has_bad_name a) _ _ o i in
    let (r, k) = refuse_if-good (repeats a.pairs) _ (Good a) o j in
    let (t0, t1) = or_no (is_bad_text a.title) _ t in
    let e : a ≡ o = cc in
    let g : GoodOrder a = record { title = t0; pairs = good-pairs a.pairs t1 n; once = r } in
    rw e at g

pub judged-good : (x : List ℕ) (o : Order) → judged x ≡ Good o → GoodOrder o
unfolding judged
judged-good x o h = options (order_in x)
    (λ e. absurd (refused-good Number.bad_order o (rw (e, judged) at h)))
    (λ a e. judged_order-good a o (rw (e, judged) at h))
