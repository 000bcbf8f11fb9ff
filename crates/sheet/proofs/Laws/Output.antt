-- Laws of bytes laid over an output: byte by byte, and one piece after another.
use mathlib.Core.Path.{◌≡◌, refl, sym, ap, ◌∙◌}
use mathlib.Core.List.{List, [], ◌∷◌, ◌++◌, append_assoc, append-nil}
use Prim.Native.Nat.{ℕ, suc, ◌+◌, ◌-◌, ◌≤◌, ◌<◌}
use native.Mathlib.Omega.{arith}
use native.Mathlib.Nat.{zero-add}
use native.Mathlib.Numerals.{add-one}
use lib.ListN.{length, take, drop, set, get_or, length-append, length-drop, drop_of_length-le}
use lib.Seq.{length-take-le, take-length, take_at, drop_at, drop-drop, paste, paste-zero, paste-suc}
use borrow.Rule.Slice.PartMut.{mid_of, post_of, put_mid}
use Rattle.sheet.specs.Output.{laid, Puts}

laid-is : (d : List ℕ) (a : ℕ) (x : List ℕ) → laid d a x ≡ take a d ++ (x ++ drop (a + length x) d)
unfolding laid
laid-is d a x = refl

module _ (d : List ℕ) (a : ℕ) (x : List ℕ) where
  -- the first n bytes of x
  laid-paste : (n : ℕ) → n ≤ length x → laid d a (take n x) ≡ paste d a x n
  unfolding laid
  laid-paste n h = rw (length-take-le n x h) (sym (append_assoc (take a d) (take n x) (drop (a + n) d)))

  pub laid_none : d ≡ laid d a (take 0 x)
  laid_none = paste-zero d a x ∙ sym (laid-paste 0 (omega arith))

  pub laid-turn : (n : ℕ) → n < length x → a + length x ≤ length d → set (laid d a (take n x)) (a + n) (get_or x n 0) ≡ laid d a (take (n + 1) x)
  laid-turn n h k =
      rw (laid-paste n (omega arith), add-one n, laid-paste (suc n) (omega arith)) (paste-suc d a x n 0 (omega arith) h)

  module _ (h : a + length x ≤ length d) where
    front_length : length (take a d ++ x) ≡ a + length x
    front_length = omega (arith, length-append (take a d) x, length-take-le a d (omega arith))

    abbrev rest : List ℕ
    rest = drop (a + length x) d

    pub laid-take : take (a + length x) (laid d a x) ≡ take a d ++ x
    laid-take = rw (laid-is d a x, ← append_assoc (take a d) x rest) (take_at (take a d ++ x) rest (a + length x) front_length)

    pub laid-drop : drop (a + length x) (laid d a x) ≡ rest
    laid-drop = rw (laid-is d a x, ← append_assoc (take a d) x rest) (drop_at (take a d ++ x) rest (a + length x) front_length)

    -- one piece after another
    laid-append : (y : List ℕ) → laid (laid d a x) (a + length x) y ≡ laid d a (x ++ y)
    laid-append y =
        let past : drop (a + length x + length y) (laid d a x) ≡ drop (a + length x + length y) d
        = sym (drop-drop (length y) (a + length x) (laid d a x)) ∙ ap (drop (length y)) laid-drop ∙ drop-drop (length y) (a + length x) d in
        let n : a + length x + length y ≡ a + length (x ++ y) = omega (arith, length-append x y) in
        laid-is (laid d a x) (a + length x) y ∙ rw (laid-take, past, n, laid-is d a (x ++ y)) (simp append_assoc)

-- at the front
pub laid-front : (d x : List ℕ) → laid d 0 x ≡ x ++ drop (length x) d
unfolding laid
laid-front d x = rw (zero-add (length x))

-- at the front of the part from byte a on, which is lent and put back
pub laid-lent : (d : List ℕ) (a : ℕ) (x : List ℕ) → a ≤ length d → put_mid a (length d - a) d (laid (mid_of a (length d - a) d) 0 x) ≡ laid d a x
laid-lent d a x h =
    let n : length (drop a d) ≡ length d - a = length-drop a d in
    let whole : mid_of a (length d - a) d ≡ drop a d = ap (λ (k : ℕ). take k (drop a d)) (sym n) ∙ take-length (drop a d) in
    let past : post_of a (length d - a) d ≡ [] = drop_of_length-le (drop a d) {i = length d - a} (omega arith) in
    rw (whole, past, laid-front (drop a d) x, append-nil, drop-drop (length x) a d, laid-is d a x)

-- a byte, and the rest after it
pub laid-first : (d : List ℕ) (b : ℕ) (x : List ℕ) → 0 < length d → laid (set d 0 b) 1 x ≡ laid d 0 (b ∷ x)
unfolding laid
laid-first [] b x h = absurd (omega arith)
laid-first (c ∷ d) b x h = let m : 1 + length x ≡ suc (length x) = omega arith in rw (zero-add (suc (length x)), m)

pub laid-length : (d : List ℕ) (a : ℕ) (x : List ℕ) → a + length x ≤ length d → length (laid d a x) ≡ length d
laid-length d a x h =
    let r = drop (a + length x) d in
    rw (laid-is d a x)
    (omega (arith, length-append (take a d) (x ++ r), length-append x r, length-take-le a d (omega arith), length-drop (a + length x) d))

-- nothing
pub puts-nil : (d : List ℕ) (a : ℕ) → Puts d a [] d a
puts-nil d a = record { output = laid_none d a []; next = omega arith }

pub puts-append : {d d' d'' x y : List ℕ} {a b e : ℕ} → Puts d a x d' b → Puts d' b y d'' e → a + length x ≤ length d
    → Puts d a (x ++ y) d'' e
puts-append {d} {d'} {d''} {x} {y} {a} p q h = record {
  output = q.output ∙ rw (p.output, p.next) (laid-append d a x h y);
  next = omega (arith, p.next, q.next, length-append x y);
}
