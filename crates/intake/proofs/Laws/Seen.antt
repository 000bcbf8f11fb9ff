-- A value is seen just where `REQUEST` gives it at some byte; and what is given is given inside the text.
use mathlib.Core.Path.{◌≡◌, refl, sym, ap, ◌∙◌}
use mathlib.Core.Bool.{Bool, true, false, or-true, true≢false, false≢true}
use mathlib.Core.List.{List}
use Prim.Native.Nat.{ℕ, zero, suc, ◌≤◌, ◌<◌}
use native.Mathlib.Omega.{arith, not-le}
use lib.Dec.{eqb}
use lib.ListN.{length}
use borrow.Author.Tests.{eqb-true, eq-eqb}
use borrow.Table.Steps.{cases}
use Rattle.text.specs.Number
use Rattle.text.specs.Limits.{text_limit}
use Rattle.text.specs.Runs.{equal}
use Rattle.text.proofs.Laws.Runs.{equal-refl, equal-true}
use Rattle.rules.proofs.Basics.{and_yes}
use Rattle.lookup.specs.Stages.{is_bad_key}
use Rattle.lookup.specs.Lookup.{lookup, number, part_of}
use Rattle.lookup.proofs.Laws.Local.{lookup-past}
use Rattle.sheet.specs.Promises.{Gives}
use Rattle.intake.specs.Required.{request_key, OpenRequired}
use Rattle.intake.specs.Seen.{looks_up, some_below, seen}

-- ---- at one byte

module _ (s k v : List ℕ) (p : ℕ) where
  looks_up-gives : looks_up s k v p ≡ true → Gives s p k v
  unfolding looks_up
  looks_up-gives h =
      let (h0, h1) = and_yes (eqb (number (lookup s p k)) Number.done) (equal (part_of (lookup s p k) s) v) h in
      record { found = eqb-true (number (lookup s p k)) Number.done h0; bytes = equal-true (part_of (lookup s p k) s) v h1 }

  gives-looks_up : Gives s p k v → looks_up s k v p ≡ true
  unfolding looks_up
  gives-looks_up g = rw (eq-eqb (number (lookup s p k)) Number.done g.found, g.bytes) (equal-refl v)

-- ---- at some byte

pub some-yes : (n : ℕ) (f : ℕ → Bool) (p : ℕ) → p < n → f p ≡ true → some_below n f ≡ true
unfolding some_below
some-yes zero f p h i = absurd (omega arith)
some-yes (suc n) f p h i = cases (f n)
    (λ e. rw e (or-true (some_below n f)))
    (λ e. rw (some-yes n f p (not-le n p (λ l. let q : p ≡ n = omega arith in true≢false (sym i ∙ rw q e))) i))

some-where : {A : Type 0} (n : ℕ) (f : ℕ → Bool) → some_below n f ≡ true → ((p : ℕ) → p < n → f p ≡ true → A) → A
unfolding some_below
some-where zero f h g = absurd (false≢true h)
some-where (suc n) f h g = cases (f n)
    (λ e. g n (omega arith) e)
    (λ e. cases (some_below n f)
    (λ i. some-where n f i (λ p j. g p (omega arith)))
    (λ i. absurd (false≢true (rw (e, i) at h))))

-- ---- what is seen

pub request-good : is_bad_key request_key ≡ false
unfolding OpenRequired
request-good = refl

pub gives-inside : (s : List ℕ) (p : ℕ) (k v : List ℕ) → length s ≤ text_limit → is_bad_key k ≡ false → Gives s p k v → p < length s
gives-inside s p k v h i g = not-le (length s) p (λ l. omega (arith, g.found, ap number (lookup-past s p k h i l)))

module _ (s v : List ℕ) where
  pub gives-seen : length s ≤ text_limit → (p : ℕ) → Gives s p request_key v → seen s v ≡ true
  unfolding seen
  gives-seen h p g =
      some-yes (length s) (looks_up s request_key v) p (gives-inside s p request_key v h request-good g) (gives-looks_up s request_key v p g)

  pub seen-where : {A : Type 0} → seen s v ≡ true → ((p : ℕ) → Gives s p request_key v → A) → A
  unfolding seen
  seen-where h g = some-where (length s) (looks_up s request_key v) h (λ p i e. g p (looks_up-gives s request_key v p e))
