-- Past lines that are none of a heading, to the next that starts with a star, or to the piece's end.
use mathlib.Core.Path.{◌≡◌, sym, ◌∙◌}
use mathlib.Core.List.{List}
use Prim.Native.Nat.{ℕ, ◌+◌, ◌-◌, ◌≤◌, ◌<◌}
use native.Mathlib.Omega.{arith}
use lib.ListN.{length}
use Rattle.rules.specs.Headings.{NextStarLine}
use Rattle.stream.specs.declared.state.Stream.{Stream}
use Rattle.std.specs.declared.option.Option.TheVariants.{None}
use Rattle.stream.specs.Spans.{Within, Bare, LastLine, Advances}
use Rattle.stream.proofs.Laws.BareLines.{starless, lines-finished, lines-plain, lines-last}
use Rattle.stream.proofs.Laws.Advance.{progress, advance-past}

module _ (c : Stream) (x : List ℕ) (i : ℕ) (w : Within c x i) (k : i < length x) (b : Bare c x i) (e : ℕ) (h : NextStarLine x (i + 1) e) (q : ℕ)
    (l : LastLine x i e q) where
  from : i ≤ e
  from = omega (arith, h.from)

  further : i < e
  further = omega (arith, h.from)

  pub advance-plain : q ≤ i → {r : Stream} → r ≡ starless c (c.total + (e - i)) (c.line + (e - i)) c.title → Advances c x i (progress r e None)
  advance-plain m u =
      let here : q ≡ i = omega (arith, m, l.from) in
      let is = lines-plain c x i e b.stars b.front from h.to h.none (rw here at l.plain) in
      advance-past c x i e from h.to (u ∙ sym is) (lines-finished c x i e b.stars b.front from h.to h.none) further
      (rw u (record { stars = omega arith; line = omega (arith, w.line); total = omega (arith, w.total, h.to, from) }))

  pub advance-lines : i < q → {r : Stream} → r ≡ starless c (c.total + (e - i)) (e - q) 0 → Advances c x i (progress r e None)
  advance-lines m u =
      let is = lines-last c x i e b.stars b.front from h.to h.none q l m in
      advance-past c x i e from h.to (u ∙ sym is) (lines-finished c x i e b.stars b.front from h.to h.none) further
      (rw u (record { stars = omega arith; line = omega (arith, l.from, l.to); total = omega (arith, w.total, h.to, from) }))
