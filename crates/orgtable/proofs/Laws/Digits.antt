-- A number's digits are those of its tenth and one more, and a number below a power of ten has no more digits than that.
-- By induction on how many there are. Assumes nothing.
use mathlib.Core.Path.{◌≡◌, refl, sym, ◌∙◌}
use mathlib.Core.List.{List, [], ◌∷◌, ◌++◌, append_assoc}
use Prim.Native.Nat.{ℕ, zero, suc, ◌/◌, ◌%◌, ◌^◌, ◌≤◌, ◌<◌}
use native.Mathlib.Omega.{arith}
use lib.ListN.{length, length-append}
use borrow.Author.Tests.{lt-ltb, le-ltb}
use Rattle.table.proofs.Basics.{split}
use Rattle.orgtable.specs.Printed.{digit, digits_up_to, decimal}

digits-here : (k n : ℕ) → n < 10 → digits_up_to k n ≡ digit n ∷ []
unfolding digits_up_to
digits-here zero n h = refl
digits-here (suc k) n h = rw (lt-ltb n 10 h, digits_up_to)

digits_more : (k n : ℕ) → 10 ≤ n → digits_up_to (suc k) n ≡ digits_up_to k (n / 10) ++ digit (n % 10) ∷ []
unfolding digits_up_to
digits_more k n h = rw (le-ltb n 10 h, digits_up_to)

-- Room for more digits changes nothing.
digits-room : (k m n : ℕ) → n ≤ k → n ≤ m → digits_up_to k n ≡ digits_up_to m n
digits-room zero m n h l = digits-here zero n (omega arith) ∙ sym (digits-here m n (omega arith))
digits-room (suc k) zero n h l = digits-here (suc k) n (omega arith) ∙ sym (digits-here zero n (omega arith))
digits-room (suc k) (suc m) n h l =
    split n 10
    (λ few. digits-here (suc k) n few ∙ sym (digits-here (suc m) n few))
    (λ many. rw (digits_more k n many, digits_more m n many, digits-room k m (n / 10) (omega arith) (omega arith)))

pub decimal-one : (n : ℕ) → n < 10 → decimal n ≡ digit n ∷ []
unfolding decimal
decimal-one n h = digits-here n n h

pub decimal-more : (n : ℕ) → 10 ≤ n → decimal n ≡ decimal (n / 10) ++ digit (n % 10) ∷ []
unfolding decimal
decimal-more n h =
    rw (digits-room n (suc n) n (omega arith) (omega arith), digits_more n n h, digits-room n (n / 10) (n / 10) (omega arith) (omega arith))

digits-length : (m k n : ℕ) → n < 10 ^ suc m → length (digits_up_to k n) ≤ suc m
unfolding digits_up_to
digits-length zero k n h = rw (digits-here k n (omega arith)) (omega arith)
digits-length (suc m) zero n h = omega arith
digits-length (suc m) (suc k) n h =
    split n 10
    (λ l. rw (digits-here (suc k) n l) (omega arith))
    (λ l. rw (digits_more k n l, length-append) (omega (arith, digits-length m k (n / 10) (omega arith))))

pub decimal-length : (m n : ℕ) → n < 10 ^ suc m → length (decimal n) ≤ suc m
unfolding decimal
decimal-length m n h = digits-length m n n h

-- of a number n, the digits of its tenth are put after w; x₁ with its last
pub decimal-turn : (n : ℕ) (w x x₁ : List ℕ) → 10 ≤ n → x ≡ w ++ decimal (n / 10) → x₁ ≡ x ++ digit (n % 10) ∷ [] → x₁ ≡ w ++ decimal n
decimal-turn n w x x₁ h tenth last = rw (last, tenth, decimal-more n h) (append_assoc w (decimal (n / 10)) (digit (n % 10) ∷ []))
