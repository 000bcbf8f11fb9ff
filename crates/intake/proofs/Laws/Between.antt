-- Between heading lines a lookup finds nothing: no line that starts there is a heading line.
use mathlib.Core.Path.{◌≡◌, ◌∙◌}
use mathlib.Core.Bool.{false}
use mathlib.Core.List.{List}
use Prim.Native.Nat.{ℕ, zero, suc, ◌+◌, ◌≤◌, ◌<◌}
use native.Mathlib.Omega.{arith}
use lib.ListN.{length, take}
use Rattle.text.specs.Limits.{text_limit}
use Rattle.text.specs.Lines.{size}
use Rattle.text.specs.Parts.{lines_in, line_in, next_line, LineStart}
use Rattle.text.proofs.Laws.LinesIn.{lines_in-step, next_line-before}
use Rattle.text.proofs.Laws.LineStarts.{line_start-after}
use Rattle.rules.specs.Headings.{is_heading}
use Rattle.std.specs.declared.result.Result.TheVariants.{Err}
use Rattle.lookup.specs.declared.lookup.Refusal.TheVariants.{NoHeading}
use Rattle.lookup.specs.Stages.{is_bad_key}
use Rattle.lookup.specs.Lookup.{lookup}
use Rattle.lookup.proofs.Laws.Local.{lookup-nothing}

module _ (s : List ℕ) (p : ℕ) where
  abbrev here : ℕ → ℕ
  here n = p + size (take n (lines_in s p (length s)))

  abbrev next : ℕ
  next = p + length (line_in s p (length s))

  none_here : (r : ℕ) → r ≡ here 0 → r ≡ p
  unfolding size
  none_here r h = omega arith

  -- the lines after the first are the lines from its end on
  more-here : (n : ℕ) → p < length s → here (suc n) ≡ next + size (take n (lines_in s next (length s)))
  unfolding size
  more-here n h = rw (lines_in-step s p (length s) h (omega arith)) (omega arith)

  past-line : (n r : ℕ) → p < length s → r ≡ here n → p < r → r < next_line is_heading s next → is_heading (line_in s r (length s)) ≡ false
  past-line zero r h e i j = absurd (omega (arith, none_here r e))
  past-line (suc n) r h e i j = let q = e ∙ more-here n h in rw q (next_line-before s is_heading next n (rw q at j))

  module _ (start : LineStart s p) (k : List ℕ) (long : length s ≤ text_limit) (good : is_bad_key k ≡ false) (r : ℕ) where
    -- from a line's start on
    pub lookup-between : p ≤ r → r < next_line is_heading s p → lookup s r k ≡ Err NoHeading
    lookup-between i j = lookup-nothing s r k long good (λ l.
        let (n, e) = line_start-after s p r start l i in rw e (next_line-before s is_heading p n (rw e at j)))

    -- past a line
    pub lookup-past_line : p < length s → p < r → r < next_line is_heading s next → lookup s r k ≡ Err NoHeading
    lookup-past_line h i j = lookup-nothing s r k long good (λ l.
        let (n, e) = line_start-after s p r start l (omega arith) in past-line n r h e i j)
