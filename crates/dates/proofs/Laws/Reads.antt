-- Laws of the smallest readings, in a part of a text: a word, blank bytes, bytes of a shape, the value of digits.
-- Assumes nothing.
use mathlib.Core.Path.{◌≡◌, refl, sym, ap, ◌∙◌}
use mathlib.Core.Bool.{Bool, true, false, ◌&&◌, and-false, false≢true}
use mathlib.Core.List.{List, [], ◌∷◌}
use mathlib.Core.Option.{Option, none, some}
use Prim.Native.Nat.{ℕ, suc, ◌+◌, ◌*◌, ◌-◌, ◌^◌, ◌≤◌, ◌<◌}
use native.Mathlib.Omega.{arith}
use native.Mathlib.Nat.{pow-suc, pow-le-pow_right}
use native.Mathlib.Numerals.{add-one}
use lib.Dec.{ltb}
use lib.ListN.{length, get_or, take, drop, drop_of_length-le}
use lib.Seq.{drop-cons}
use borrow.Table.Steps.{cases}
use borrow.Author.Tests.{ltb-true, ltb-false}
use Rattle.text.specs.Bytes.{is_blank}
use Rattle.text.specs.Runs.{is_empty, run, after_run, begins}
use Rattle.text.specs.Parts.{part}
use Rattle.text.proofs.Laws.Parts.{part-cons, part_length, part-drop, part-take}
use Rattle.text.proofs.Laws.Runs.{after_run-drop, run-part-to, begins-short}
use Rattle.dates.specs.Reads.{expect, gap, fits, shaped, digit, value_from, Ends, Reads}

-- ---- no bytes, or some

pub empty-yes : (x : List ℕ) → length x ≡ 0 → is_empty x ≡ true
unfolding is_empty
empty-yes [] h = refl
empty-yes (b ∷ x) h = absurd (omega arith)

pub empty-no : (x : List ℕ) → 1 ≤ length x → is_empty x ≡ false
unfolding is_empty
empty-no [] h = absurd (omega arith)
empty-no (b ∷ x) h = refl

-- ---- a test that fails where the bytes are too few has room where it holds

room : (f : List ℕ → Bool) (n : ℕ) (s : List ℕ) (p e : ℕ) → ((x : List ℕ) → length x < n → f x ≡ false) → e ≤ length s → f (part s p e) ≡ true → n ≤ e - p
room f n s p e short k h = cases (ltb (e - p) n)
    (λ l. absurd (false≢true (sym (short (part s p e) (rw (part_length s p e k) (ltb-true _ _ l))) ∙ h)))
    (λ l. ltb-false _ _ l)

pub begins-room : (s : List ℕ) (p e : ℕ) (w : List ℕ) → e ≤ length s → begins (part s p e) w ≡ true → length w ≤ e - p
begins-room s p e w = room (λ x. begins x w) (length w) s p e (λ x. begins-short x w)

-- ---- bytes of a shape

pub shaped-short : (w x : List ℕ) → length x < length w → shaped w x ≡ false
unfolding shaped
shaped-short [] x h = absurd (omega arith)
shaped-short (c ∷ w) [] h = refl
shaped-short (c ∷ w) (b ∷ x) h = rw (shaped-short w x (omega arith), and-false)

pub shaped-room : (s : List ℕ) (p e : ℕ) (w : List ℕ) → e ≤ length s → shaped w (part s p e) ≡ true → length w ≤ e - p
shaped-room s p e w = room (shaped w) (length w) s p e (shaped-short w)

module _ (s w : List ℕ) (p e j : ℕ) where
  pub shaped-nil : length w ≤ j → shaped (drop j w) (part s p e) ≡ true
  unfolding shaped
  shaped-nil h = rw (drop_of_length-le w h)

  -- one byte more of the shape, which stands at place j
  pub shaped-cons : j < length w → p < e → e ≤ length s → shaped (drop j w) (part s p e) ≡ (fits (get_or w j 0) (get_or s p 0) && shaped (drop (j + 1) w) (part s (p + 1) e))
  unfolding shaped
  shaped-cons h k l = rw (add-one j, part-cons s p e k l, drop-cons w j 0 h)

-- ---- what was found from a later byte on

pub ends-from : {A : Type 0} (p a e : ℕ) (o : Option (A × ℕ)) → p ≤ a → Ends a e o → Ends p e o
ends-from p a e none h i = tt
ends-from p a e (some r) h i = (omega arith, i.1)

-- ---- in a part of a text

module _ (s : List ℕ) (p e : ℕ) where
  -- n bytes from place m on, bytes a to q
  pub take_part : (m n a q : ℕ) → a ≡ p + m → q ≡ a + n → q ≤ e → take n (drop m (part s p e)) ≡ part s a q
  take_part m n a q i j h = rw (i, j, i, part-drop s m p e) (part-take s n (p + m) e (omega arith))

  -- what follows a run that ends at byte q
  pub after_run-part : (f : ℕ → Bool) (q : ℕ) → q ≡ p + length (run f (part s p e)) → after_run f (part s p e) ≡ part s q e
  after_run-part f q i = after_run-drop f (part s p e) ∙ part-drop s (length (run f (part s p e))) p e ∙ ap (λ (k : ℕ). part s k e) (sym i)

  -- a word
  pub expect-some : (w : List ℕ) → p ≤ e → e ≤ length s → begins (part s p e) w ≡ true → Reads {A = Unit {0}} s p e (expect w) (some (tt, p + length w))
  unfolding expect
  expect-some w i k h = record { is = rw (h, part-drop s (length w) p e); within = (omega arith, omega (arith, begins-room s p e w k h)) }

  pub expect-none : (w : List ℕ) → begins (part s p e) w ≡ false → Reads {A = Unit {0}} s p e (expect w) none
  unfolding expect
  expect-none w h = record { is = rw h; within = tt }

  -- blank bytes, a run that ends at byte q
  module _ (h : p ≤ e) (k : e ≤ length s) (q : ℕ) (i : q ≡ p + length (run is_blank (part s p e))) where
    pub gap-none : q ≡ p → Reads {A = Unit {0}} s p e gap none
    unfolding gap
    gap-none j = record { is = rw (empty-yes (run is_blank (part s p e)) (omega arith)); within = tt }

    pub gap-some : (q ≡ p → ⊥) → Reads {A = Unit {0}} s p e gap (some (tt, q))
    unfolding gap
    gap-some j =
        record {
          is = rw (empty-no (run is_blank (part s p e)) (omega arith), after_run-part is_blank q i);
          within = (omega arith, run-part-to s p e is_blank h k q i);
        }

-- ---- digits: their value from place k on

pub value-nil : (x : List ℕ) (k v : ℕ) → length x ≤ k → value_from v (drop k x) ≡ v
unfolding value_from
value-nil x k v h = rw (drop_of_length-le x h)

pub value-cons : (x : List ℕ) (k v : ℕ) → k < length x → value_from v (drop k x) ≡ value_from (v * 10 + digit (get_or x k 0)) (drop (k + 1) x)
unfolding value_from
value-cons x k v h = rw (add-one k, drop-cons x k 0 h)

-- one digit more
pub value-bound : (v k d : ℕ) → v < 10 ^ k → d ≤ 9 → v * 10 + d < 10 ^ (k + 1)
value-bound v k d h i = let e = pow-suc 10 k in let n : k + 1 ≡ suc k = omega arith in rw n (omega (arith, e))

-- so eight digits leave room for one more
pub value-small : (v k : ℕ) → v < 10 ^ k → k ≤ 8 → v < 100000000
value-small v k h i = omega (arith, pow-le-pow_right {n = 10} (omega arith) {i = k} {j = 8} i)
