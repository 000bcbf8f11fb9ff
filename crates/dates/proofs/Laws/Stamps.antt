-- Laws of an optional day name, of an interval and of a delay's mark, in a part of a text.
-- Assumes nothing.
use mathlib.Core.Path.{◌≡◌, ap, ◌∙◌}
use mathlib.Core.Bool.{true, false, and-false}
use mathlib.Core.List.{List}
use mathlib.Core.Option.{none, some}
use Rattle.std.specs.Option.{option_map}
use Rattle.std.specs.declared.option.Option.{Option}
use Rattle.std.specs.declared.option.Option.TheVariants.{None, Some}
use Prim.Native.Nat.{ℕ, ◌+◌, ◌-◌, ◌≤◌, ◌<◌}
use native.Mathlib.Omega.{arith}
use lib.ListN.{length, get_or}
use Rattle.text.specs.Bytes.{is_day_name_byte, is_digit, lower}
use Rattle.text.specs.Runs.{word, run, begins}
use Rattle.text.specs.Parts.{part}
use Rattle.text.proofs.Basics.{range-in, range-below, range-above}
use Rattle.text.proofs.Laws.Parts.{part-nil, part-cons}
use Rattle.text.proofs.Laws.Runs.{run-part}
use Rattle.dates.specs.Reads.{Reads, pick, gap, value}
use Rattle.dates.specs.Stamps.{after_day_name, is_day_name, is_unit, interval_of, unit_after, interval, bracketed, timestamp, stamp}
use Rattle.dates.specs.Found.{spanned, SpanOf, end_of, stamp_in, stamp_at}
use Rattle.dates.specs.declared.span.Span.{Span}
use Rattle.dates.specs.declared.span.Span.TheVariants.{One, Two}
use Rattle.dates.specs.declared.stamp.Bracket.{Bracket}
use Rattle.dates.specs.declared.stamp.Timestamp.{Timestamp}
use Rattle.dates.proofs.Laws.Reads.{empty-yes, empty-no, after_run-part}

-- ---- an optional day name: after blank bytes that end at byte a, a run of its bytes that ends at byte q

module _ (s : List ℕ) (p e a q : ℕ) (g : Reads s p e gap (some (tt, a))) (i : q ≡ a + length (run is_day_name_byte (part s a e))) where
  pub day_name-none : q ≡ a → after_day_name (part s p e) ≡ part s p e
  unfolding after_day_name is_day_name
  day_name-none h = rw (g.is, empty-yes (run is_day_name_byte (part s a e)) (omega arith))

  pub day_name-mark : begins (part s a e) (word ".+") ≡ true → after_day_name (part s p e) ≡ part s p e
  unfolding after_day_name is_day_name
  day_name-mark h = rw (g.is, h, and-false)

  pub day_name-some : (q ≡ a → ⊥) → begins (part s a e) (word ".+") ≡ false → after_day_name (part s p e) ≡ part s q e
  unfolding after_day_name is_day_name
  day_name-some h k =
      rw (g.is, k, empty-no (run is_day_name_byte (part s a e)) (omega arith), after_run-part s a e is_day_name_byte q i)

-- ---- one to nine digits, a run that ends at byte q, and a unit

module _ (s : List ℕ) (p e : ℕ) (h : p ≤ e) (k : e ≤ length s) (q : ℕ) (i : q ≡ p + length (run is_digit (part s p e))) where
  pub interval-few : q ≡ p → interval (part s p e) ≡ none
  unfolding interval
  interval-few j = rw (range-below 1 9 (length (run is_digit (part s p e))) (omega arith))

  pub interval-many : 9 < q - p → interval (part s p e) ≡ none
  unfolding interval
  interval-many j = rw (range-above 1 9 (length (run is_digit (part s p e))) (omega arith) (omega arith))

  module _ (j : q ≡ p → ⊥) (l : q - p ≤ 9) where
    pub interval-end : e ≤ q → interval (part s p e) ≡ none
    unfolding interval unit_after
    interval-end m = rw (range-in 1 9 (length (run is_digit (part s p e))) (omega arith) (omega arith), after_run-part s p e is_digit q i, part-nil s q e m)

    pub interval-unit : q < e → interval (part s p e) ≡ pick (is_unit (lower (get_or s q 0))) (some (interval_of (value (part s p q)) (lower (get_or s q 0)), part s (q + 1) e)) none
    unfolding interval unit_after
    interval-unit m =
        rw (
          range-in 1 9 (length (run is_digit (part s p e))) (omega arith) (omega arith),
          after_run-part s p e is_digit q i,
          run-part s p e is_digit h k q i,
          part-cons s q e m k,
        )

-- ---- a timestamp that is found by its places is one

module _ (s : List ℕ) (p e : ℕ) (b : Bracket) (o c : List ℕ) (h : timestamp (part s p e) ≡ bracketed b o c (part s p e)) where
  stamp_in-span : (r : Option Span) → SpanOf s p e o c r → stamp_in s p e ≡ spanned b s p e r
  unfolding stamp_in
  stamp_in-span r i = ap (λ (x : Option Timestamp × List ℕ). x.0) (h ∙ (i.takes b).is)

  pub span-stamp : (r : Option Span) → SpanOf s p e o c r → Reads s p e stamp (stamp_at s p e (option_map end_of r))
  unfolding stamp
  span-stamp None i = record { is = rw (h, (i.takes b).is); within = tt }
  span-stamp (Some (One q)) i =
      let t = i.takes b in
      record { is = rw (stamp_in-span (Some (One q)) i, h, t.is); within = (t.from, t.to) }
  span-stamp (Some (Two a q)) i =
      let t = i.takes b in
      record { is = rw (stamp_in-span (Some (Two a q)) i, h, t.is); within = (t.from, t.to) }
