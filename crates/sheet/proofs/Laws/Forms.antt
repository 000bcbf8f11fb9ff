-- What is read of a buffer is what it is made of, and nothing else is read. Each reader of the buffer has two laws: what it gives for the bytes of an
-- entry, and that it gives nothing but the bytes of one.
use mathlib.Core.Path.{◌≡◌, refl, sym, ap, ◌∙◌}
use mathlib.Core.List.{List, [], ◌∷◌, ◌++◌}
use mathlib.Core.Option.{Option, none, some}
use Prim.Native.Nat.{ℕ, zero, suc, ◌≤◌}
use native.Mathlib.Omega.{arith}
use lib.Dec.{leb}
use lib.ListN.{length, take, drop, length-append, take-append-drop}
use lib.Seq.{take_at, drop_at, length-take-le}
use borrow.Author.Tests.{le-leb, leb-true}
use borrow.Table.Steps.{cases}
use Rattle.text.specs.Runs.{is_empty}
use Rattle.rules.proofs.Basics.{some-none}
use Rattle.sheet.specs.Order.{Pair, pair, Order}
use Rattle.sheet.specs.Buffer.{pair_limit, text_width, key_width, Cut, cut_as, and_then, cut, low_first, sized, PairCut, pair_in, pairs_in, few_pairs_in, order_in}
use Rattle.sheet.specs.Form.{Entry, PairEntry, pair_bytes, pairs_of, Form, form_bytes, order_of}

-- what gives something was given something first
pub and_then-only : {A B : Type 0} (o : Option A) (f : A → Option B) (b : B) → and_then o f ≡ some b → (a : A) × ((o ≡ some a) × (f a ≡ some b))
and_then-only none f b h = absurd (some-none b (sym h))
and_then-only (some a) f b h = (a, (refl, h))

-- ---- bytes after their length

cut-given : (n : ℕ) (x y : List ℕ) → length x ≡ n → cut n (x ++ y) ≡ some (cut_as x y)
unfolding cut
cut-given n x y h = rw (le-leb n (length (x ++ y)) (omega (arith, length-append x y)), cut) (rw (take_at x y n h, drop_at x y n h))

cut-only : (n : ℕ) (x : List ℕ) (c : Cut) → cut n x ≡ some c → (c.bytes ++ c.rest ≡ x) × (length c.bytes ≡ n)
unfolding cut
cut-only n x c h = cases (leb n (length x))
    (λ e. let i : some (cut_as (take n x) (drop n x)) ≡ some c = rw (e, cut) at h in
    let j : cut_as (take n x) (drop n x) ≡ c = cc in
    rw (← j) (take-append-drop n x, length-take-le n x (leb-true n (length x) e)))
    (λ e. absurd (some-none c (sym (rw (e, cut) at h))))

pub sized-given : (n : ℕ) (e : Entry n) (y : List ℕ) → sized n (e.head ++ (e.bytes ++ y)) ≡ some (cut_as e.bytes y)
unfolding sized
sized-given n e y = rw (cut-given n e.head (e.bytes ++ y) e.size, e.counted) (cut-given (length e.bytes) e.bytes y refl)

pub sized-only : (n : ℕ) (x : List ℕ) (c : Cut) → sized n x ≡ some c → (e : Entry n) × ((e.head ++ (e.bytes ++ c.rest) ≡ x) × (e.bytes ≡ c.bytes))
unfolding sized
sized-only n x c h =
    let (d, (i, j)) = and_then-only (cut n x) _ c h in
    let (a0, a1) = cut-only n x d i in
    let (b0, b1) = cut-only (low_first d.bytes) d.rest c j in
    (record { head = d.bytes; bytes = c.bytes; size = a1; counted = sym b1 }, (ap (λ (y : List ℕ). d.bytes ++ y) b0 ∙ a0, refl))

-- ---- the pairs

pairs_in-given : (ps : List PairEntry) → pairs_in (length ps) (pair_bytes ps) ≡ some (pairs_of ps)
unfolding pairs_in pair_bytes pairs_of is_empty
pairs_in-given [] = refl
pairs_in-given (p ∷ ps) =
    let v = p.value in
    rw (sized-given key_width p.key (v.head ++ (v.bytes ++ pair_bytes ps)), sized-given text_width v (pair_bytes ps), pairs_in-given ps)

-- a pair, and the bytes after it, which are pairs again
pair_in-only : (x : List ℕ) (c : PairCut) (ps : List PairEntry) → pair_in x ≡ some c → pair_bytes ps ≡ c.rest
    → (p : PairEntry) × ((pair_bytes (p ∷ ps) ≡ x) × (pair p.key.bytes p.value.bytes ≡ c.first))
unfolding pair_in pair_bytes
pair_in-only x c ps h i =
    let (k, (j, l)) = and_then-only (sized key_width x) _ c h in
    let (v, (m, n)) = and_then-only (sized text_width k.rest) _ c l in
    let (a, (a0, a1)) = sized-only key_width x k j in
    let (b, (b0, b1)) = sized-only text_width k.rest v m in
    let r : pair_bytes ps ≡ v.rest = cc in
    (record { key = a; value = b }, (rw (r, b0) a0, cc))

pairs_in-only : (n : ℕ) (x : List ℕ) (qs : List Pair) → pairs_in n x ≡ some qs
    → (ps : List PairEntry) × ((pair_bytes ps ≡ x) × (pairs_of ps ≡ qs) × (length ps ≡ n))
unfolding pairs_in pair_bytes pairs_of is_empty
pairs_in-only zero [] qs h = ([], (refl, (cc), refl))
pairs_in-only zero (b ∷ x) qs h = absurd (some-none qs (sym h))
pairs_in-only (suc n) x qs h =
    let (c, (i, j)) = and_then-only (pair_in x) _ qs h in
    let (rs, (k, l)) = and_then-only (pairs_in n c.rest) _ qs j in
    let (ps, (p0, p1, p2)) = pairs_in-only n c.rest rs k in
    let (p, (a0, a1)) = pair_in-only x c ps i p0 in
    (p ∷ ps, (a0, (cc), ap suc p2))

-- ---- the buffer

pub few_pairs_in-given : (n : ℕ) (x : List ℕ) → n ≤ pair_limit → few_pairs_in n x ≡ pairs_in n x
unfolding few_pairs_in
few_pairs_in-given n x h = rw (le-leb n pair_limit h, few_pairs_in)

few_pairs_in-only : (n : ℕ) (x : List ℕ) (qs : List Pair) → few_pairs_in n x ≡ some qs → (n ≤ pair_limit) × (pairs_in n x ≡ some qs)
unfolding few_pairs_in
few_pairs_in-only n x qs h = cases (leb n pair_limit)
    (λ e. (leb-true n pair_limit e, rw (e, few_pairs_in) at h))
    (λ e. absurd (some-none qs (sym (rw (e, few_pairs_in) at h))))

pub order_in-given : (f : Form) → order_in (form_bytes f) ≡ some (order_of f)
unfolding order_in form_bytes order_of
order_in-given f =
    let ps = f.pairs in
    rw (
      sized-given text_width f.title (f.count ++ pair_bytes ps),
      cut-given 1 f.count (pair_bytes ps) f.one,
      f.counted,
      few_pairs_in-given (length ps) (pair_bytes ps) f.few,
      pairs_in-given ps,
    )

pub order_in-only : (x : List ℕ) (o : Order) → order_in x ≡ some o → (f : Form) × ((form_bytes f ≡ x) × (order_of f ≡ o))
unfolding order_in form_bytes order_of
order_in-only x o h =
    let (t, (i, j)) = and_then-only (sized text_width x) _ o h in
    let (c, (k, l)) = and_then-only (cut 1 t.rest) _ o j in
    let (qs, (m, n)) = and_then-only (few_pairs_in (low_first c.bytes) c.rest) _ o l in
    let (a, (a0, a1)) = sized-only text_width x t i in
    let (b0, b1) = cut-only 1 t.rest c k in
    let (f0, f1) = few_pairs_in-only (low_first c.bytes) c.rest qs m in
    let (ps, (p0, p1, p2)) = pairs_in-only (low_first c.bytes) c.rest qs f1 in
    (record { title = a; count = c.bytes; one = b1; pairs = ps; counted = sym p2; few = omega arith }, (rw (p0, b0) a0, cc))
