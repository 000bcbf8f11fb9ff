-- What is left on an item's first line: a paragraph, after which the place is elsewhere. From Ranges.
-- Assumes nothing.
use mathlib.Core.Path.{◌≡◌, refl, sym, ap, ◌∙◌}
use mathlib.Core.Bool.{Bool, true, false}
use mathlib.Core.List.{List}
use Prim.Native.Nat.{ℕ, ◌+◌, ◌-◌, ◌<◌}
use native.Mathlib.Omega.{arith}
use lib.ListN.{length, take, drop}
use Rattle.text.specs.Lines.{size, blanks}
use Rattle.text.specs.Parts.{lines_in, first_line}
use Rattle.rules.specs.Kind
use Rattle.rules.specs.Kind.{counts_depth}
use Rattle.rules.specs.Elements.{Found}
use Rattle.rules.specs.FirstRule.{paragraph, element_at}
use Rattle.rules.specs.Findings.{spanned}
use Rattle.rules.specs.Places.{is_in_line, place_at, next_place}
use Rattle.rules.specs.declared.rule.Element.{Element}
use Rattle.rules.specs.declared.place.Place.TheVariants.{Elsewhere}
use Rattle.rules.proofs.Laws.LineRules.{Fine}
use Rattle.rules.proofs.Laws.Elements.{fine-element}
use Rattle.rules.proofs.Laws.InLine.{is_in_line-yes, element-in_line}
use Rattle.reading.specs.Walk.{lines_to, holds_run, Range, InItemLine}
use Rattle.reading.proofs.Laws.Ranges.{Held, item-place, same_size, next-size}

module _ (s : List ℕ) (p e : ℕ) (R : Range s p e) (h : p < e) (inside : InItemLine s R.line p e) where
  in-line : is_in_line s p ≡ true
  in-line =
      let q = R.line in
      let j = p - q in
      let at : q + j ≡ p = omega (arith, inside.from) in
      rw at at (is_in_line-yes s q e j (omega (arith, inside.from, inside.to)) (omega (arith, inside.from)) R.text (omega (arith, inside.from)))

  abbrev f : Found
  f = element_at s p e

  pub fine : Fine (lines_in s p e) f
  unfolding element_at
  fine = fine-element (lines_in s p e) (place_at s p)

  abbrev x : Element
  x = spanned p (lines_in s p e) f

  abbrev b : ℕ
  b = first_line s x.end e

  kind-is : f.kind ≡ Kind.paragraph
  unfolding paragraph
  kind-is = ap (λ (g : Found). g.kind) (element-in_line s p e in-line)

  pub left-place : (t : Bool) → place_at s b ≡ next_place (place_at s p) x.kind t
  unfolding spanned next_place
  left-place t =
      let m = f.own + blanks (drop f.own (lines_in s p e)) in
      let at : b ≡ R.line + size (take m (lines_in s R.line e)) =
      sym (next-size s p e R h f fine) ∙ same_size s p e R h m (omega (arith, fine.own)) in
      rw at (item-place s p e R h inside.item m (omega (arith, fine.own))) ∙ go t
    where
      go : (t : Bool) → Elsewhere ≡ next_place (place_at s p) f.kind t
      go true = rw kind-is
      go false = refl

  pub left-held : Held s p e R h f fine
  unfolding holds_run counts_depth
  left-held =
      record {
        counted = lines;
        line = λ k. absurd (omega (arith, kind-is));
        run = λ k. absurd (rw kind-is at k);
        inner = λ k. absurd (rw kind-is at k);
        place = λ k. absurd (rw kind-is at k);
        items = λ k. absurd (omega (arith, kind-is));
      }
    where
      lines : (rows : Bool) → f.kind ≡ (lines_to rows x.to).kind → x.lines ≡ length (lines_in s (first_line s x.from x.to) x.to)
      lines true k = absurd (omega (arith, kind-is))
      lines false k = absurd (omega (arith, kind-is))
