-- Laws of a lookup with defaults: whose answer it is, and that its part lies in that text.
-- Assumes nothing.
use mathlib.Core.Path.{◌≡◌}
use mathlib.Core.Bool.{true, false}
use mathlib.Core.List.{List}
use Prim.Native.Nat.{ℕ, ◌<◌}
use native.Mathlib.Omega.{arith}
use lib.ListN.{length}
use borrow.Table.Steps.{cases}
use Rattle.text.specs.Limits.{text_limit}
use Rattle.text.specs.Parts.{next_line}
use Rattle.rules.specs.Headings.{is_heading_up_to}
use Rattle.rules.proofs.Laws.Headings.{next_line-up_to}
use Rattle.std.specs.declared.result.Result.TheVariants.{Err}
use Rattle.lookup.specs.declared.lookup.Refusal.TheVariants.{TooLong}
use Rattle.lookup.specs.declared.defaults.Sourced.{Sourced}
use Rattle.lookup.specs.declared.defaults.Sourced.TheVariants.{Order, Defaults}
use Rattle.lookup.specs.Lookup.{Answer, lookup, Inside}
use Rattle.lookup.specs.Defaults.{first_heading, of_defaults, asks_defaults, with_defaults}
use Rattle.lookup.proofs.Laws.Lookup.{lookup-long, lookup-inside}

-- ---- the defaults' own answer

module _ (d k : List ℕ) where
  pub of_defaults-long : text_limit < length d → of_defaults d k ≡ Err TooLong
  unfolding of_defaults
  of_defaults-long h = lookup-long d (first_heading d) k h

  -- their first heading line is at byte q, where `next_heading` finds it
  pub of_defaults-at : (q : ℕ) → q ≡ next_line (is_heading_up_to (length d)) d 0 → of_defaults d k ≡ lookup d q k
  unfolding of_defaults first_heading
  of_defaults-at q h = rw (h, next_line-up_to d (length d) 0 (omega arith) (omega arith))

-- ---- whose answer it is

module _ (s : List ℕ) (p : ℕ) (d k : List ℕ) where
  pub with_defaults-order : asks_defaults (lookup s p k) k ≡ false → with_defaults s p d k ≡ Order (lookup s p k)
  unfolding with_defaults
  with_defaults-order h = rw (h, with_defaults)

  pub with_defaults-defaults : asks_defaults (lookup s p k) k ≡ true → with_defaults s p d k ≡ Defaults (of_defaults d k)
  unfolding with_defaults
  with_defaults-defaults h = rw (h, with_defaults)

  -- ---- its part lies in that text

  InsideOne : Sourced → Type 0
  InsideOne (Order r) = Inside s r
  InsideOne (Defaults r) = Inside d r

  with_defaults-inside : InsideOne (with_defaults s p d k)
  unfolding InsideOne of_defaults
  with_defaults-inside = cases (asks_defaults (lookup s p k) k)
      (λ h. rw (with_defaults-defaults h) (lookup-inside d (first_heading d) k))
      (λ h. rw (with_defaults-order h) (lookup-inside s p k))

  pub order-inside : (r : Answer) → with_defaults s p d k ≡ Order r → Inside s r
  unfolding InsideOne
  order-inside r h = rw h at with_defaults-inside

  pub defaults-inside : (r : Answer) → with_defaults s p d k ≡ Defaults r → Inside d r
  unfolding InsideOne
  defaults-inside r h = rw h at with_defaults-inside
