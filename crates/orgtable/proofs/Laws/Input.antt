-- What a read's answer means, and what reads do to the bytes that a reader has left. Assumes nothing.
use mathlib.Core.Path.{◌≡◌, refl, sym, ◌∙◌, ap}
use mathlib.Core.List.{List, [], ◌++◌, append_assoc, append-nil}
use Prim.Native.Nat.{ℕ, zero, suc, ◌+◌, ◌-◌, ◌≤◌, ◌<◌}
use native.Mathlib.Omega.{arith}
use lib.ListN.{length, take, drop, length-append}
use lib.Seq.{take-take, take-append-add, length-take-le}
use borrow.Rule.Slice.PartMut.{put_mid}
use Rattle.std.specs.Prelude.{Ok, Err, Result, IfOk, IfSome, Some, None}
use Rattle.std.specs.Io.{ReadsAtMost}
use Rattle.std.specs.Io.KnownBytes.{Consumes, IsAtEnd, ReadConsumes}
use Rattle.std.proofs.lemmas.List.{length-drop}
use Rattle.std.proofs.lemmas.Slice.{take-put_mid}
use Rattle.std.specs.declared.option.Option.{Option}
use Rattle.orgtable.specs.Input.{step_of, input_of, InputHolds}

pub no_bytes : {E : Type 0} (k : ℕ) → k ≡ 0 → Ok None ≡ step_of {E = E} (Ok k)
unfolding step_of
no_bytes zero h = refl
no_bytes (suc k) h = absurd (omega arith)

pub some_bytes : {E : Type 0} (k : ℕ) → (k ≡ 0 → ⊥) → Ok (Some k) ≡ step_of {E = E} (Ok k)
unfolding step_of
some_bytes zero h = absurd (h refl)
some_bytes (suc k) h = refl

-- One read after others.
pub consumes-more : (a b c : Option (List ℕ)) (xs ys : List ℕ) → Consumes a b xs → Consumes b c ys → Consumes a c (xs ++ ys)
consumes-more None b c xs ys p q = tt
consumes-more (Some a) None c xs ys p q = absurd p
consumes-more (Some a) (Some b) None xs ys p q = absurd q
consumes-more (Some a) (Some b) (Some c) xs ys p q = p ∙ ap (λ l. xs ++ l) q ∙ sym (append_assoc xs ys c)

-- What follows the first i bytes.
pub length-rest : (b : List ℕ) (i : ℕ) → length (take (length b - i) (drop i b)) ≡ length b - i
length-rest b i = length-take-le (length b - i) (drop i b) (omega (arith, length-drop i b))

-- In use after a read into what followed the first i bytes: these, and the k that it moved.
pub take-moved : (b p : List ℕ) (i j k : ℕ) → i ≤ length b → k ≤ length p → take (i + k) (put_mid i j b p) ≡ take i b ++ take k p
take-moved b p i j k used moved =
    let all = take-put_mid i j b p (i + length p) refl used in
    let front : length (take i b) ≡ i = length-take-le i b used in
    sym (take-take (i + k) (i + length p) (put_mid i j b p) (omega arith)) ∙ ap (take (i + k)) all
    ∙ ap (λ n. take (n + k) (take i b ++ p)) (sym front) ∙ take-append-add (take i b) p k

-- Of a reader that had the bytes of `all` and has given the first i of the buffer b: it has no more, or one more than there is room for.
all-read : (E : Type 0) (all left after : Option (List ℕ)) (i : ℕ) (b : List ℕ) → Consumes all left (take i b) → Consumes left after [] → IsAtEnd after
    → InputHolds {E = E} (Ok (Some i)) all b
unfolding InputHolds
all-read E None left after i b given took ends = tt
all-read E (Some x) None after i b given took ends = absurd given
all-read E (Some x) (Some y) None i b given took ends = absurd took
all-read E (Some x) (Some y) (Some z) i b given took ends = sym (given ∙ ap (λ l. take i b ++ l) (took ∙ ends) ∙ append-nil (take i b))

more-left : (E : Type 0) (all left after : Option (List ℕ)) (i k : ℕ) (b p : List ℕ) → i ≤ length b → length b ≤ i → k ≤ length p → 0 < k
    → Consumes all left (take i b) → Consumes left after (take k p) → InputHolds {E = E} (Ok None) all b
unfolding InputHolds
more-left E None left after i k b p fits full most some given took = tt
more-left E (Some x) None after i k b p fits full most some given took = absurd given
more-left E (Some x) (Some y) None i k b p fits full most some given took = absurd took
more-left E (Some x) (Some y) (Some z) i k b p fits full most some given took =
    let front = length-take-le i b fits in
    let moved = length-take-le k p most in
    let whole = given ∙ ap (λ l. take i b ++ l) took in
    omega (arith, ap length whole, length-append (take i b) (take k p ++ z), length-append (take k p) z)

-- A read that failed.
not-read : {E : Type 0} (e : E) (all : Option (List ℕ)) (b : List ℕ) → InputHolds (Err e) all b
unfolding InputHolds
not-read e None b = tt
not-read e (Some x) b = tt

holds : {E : Type 0} (r : Result ℕ E) (all left after : Option (List ℕ)) (i : ℕ) (b p : List ℕ) → i ≤ length b
    → ((k : ℕ) → step_of r ≡ Ok (Some k) → length b ≤ i) → 0 < length p → Consumes all left (take i b) → ReadsAtMost r p → ReadConsumes left after r p
    → InputHolds (input_of (step_of r) i) all b
unfolding step_of input_of
holds (Ok zero) all left after i b p fits full room given most took = all-read _ all left after i b given took.0 (took.1 refl room)
holds (Ok (suc k)) all left after i b p fits full room given most took =
    more-left _ all left after i (suc k) b p fits (full (suc k) refl) most.0 (omega arith) given took.0
holds (Err e) all left after i b p fits full room given most took = not-read e all b

-- The last read tells what the input came to, of a reader that had the bytes of `all` and has given the first i of the buffer b.
pub input-holds : {E : Type 0} (w : Result (Option ℕ) E) (s : Result (Option ℕ) E) (r : Result ℕ E) (all left after : Option (List ℕ)) (i n : ℕ) (b p : List ℕ)
    → w ≡ input_of s i → s ≡ step_of r → length p ≡ n → i ≤ length b → ((k : ℕ) → s ≡ Ok (Some k) → length b ≤ i) → 0 < n → Consumes all left (take i b)
    → ReadsAtMost r p → ReadConsumes left after r p → InputHolds w all b
input-holds w s r all left after i n b p e d long fits full room given most took =
    rw (e, d) (holds r all left after i b p fits (rw d at full) (omega (arith, long, room)) given most took)

-- The input that a step comes to is within what the bytes in use are within.
within : {E : Type 0} (s : Result (Option ℕ) E) (i n : ℕ) → i ≤ n → IfOk (input_of s i) (λ o. IfSome o (λ k. k ≤ n))
unfolding input_of
within (Ok None) i n h = h
within (Ok (Some k)) i n h = tt
within (Err e) i n h = tt

pub input-within : {E : Type 0} (w s : Result (Option ℕ) E) (i n : ℕ) → w ≡ input_of s i → i ≤ n → IfOk w (λ o. IfSome o (λ k. k ≤ n))
input-within w s i n e h = rw e (within s i n h)

moved : {E : Type 0} (r : Result ℕ E) (k : ℕ) → step_of r ≡ Ok (Some k) → (r ≡ Ok k) × (0 < k)
unfolding step_of
moved (Ok zero) k e = absurd (cc)
moved (Ok (suc n)) k e = let h : suc n ≡ k = cc in (ap Ok h, omega (arith, h))
moved (Err x) k e = absurd (cc)

-- A step that goes on is a read that moved so many bytes, one at least and no more than there was room for.
pub moves : {E : Type 0} (s : Result (Option ℕ) E) (r : Result ℕ E) (o : Option ℕ) (k : ℕ) (p : List ℕ) → s ≡ step_of r → s ≡ Ok o → o ≡ Some k
    → ReadsAtMost r p → (r ≡ Ok k) × (0 < k) × (k ≤ length p)
moves s r o k p d e i most =
    let m = moved r k (sym d ∙ e ∙ ap Ok i) in
    (m.0, m.1, (rw m.0 at most).0)
