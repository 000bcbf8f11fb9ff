-- The search for a seen request goes from heading line to heading line. What it keeps: no byte before the one it stands at looks the value up,
-- since between heading lines a lookup finds nothing.
use mathlib.Core.Path.{◌≡◌, refl, ◌∙◌}
use mathlib.Core.Bool.{Bool, true, false}
use mathlib.Core.List.{List}
use Prim.Native.Nat.{ℕ, zero, suc, ◌+◌, ◌≤◌, ◌<◌}
use native.Mathlib.Omega.{arith}
use lib.Dec.{eqb, ltb}
use lib.ListN.{length}
use borrow.Author.Tests.{ltb-true, ltb-false, eqb-true, eqb-false}
use borrow.Table.Steps.{cases}
use Rattle.text.specs.Limits.{text_limit}
use Rattle.text.specs.Parts.{lines_in, line_in, next_line, LineStart}
use Rattle.text.proofs.Laws.Lines.{size-head_line}
use Rattle.text.proofs.Laws.LinesIn.{line_in-to, line_in-some, next_line-from}
use Rattle.text.proofs.Laws.LineStarts.{line_start-zero, line_start-more, line_start-next}
use Rattle.rules.specs.Headings.{is_heading, is_heading_up_to}
use Rattle.rules.proofs.Laws.Headings.{next_line-up_to}
use Rattle.std.specs.declared.result.Result.TheVariants.{Err}
use Rattle.lookup.specs.declared.lookup.Refusal.TheVariants.{NoHeading}
use Rattle.lookup.specs.Lookup.{lookup}
use Rattle.intake.specs.Required.{request_key}
use Rattle.intake.specs.Seen.{looks_up, some_below, seen}
use Rattle.intake.proofs.Laws.Between.{lookup-between, lookup-past_line}
use Rattle.intake.proofs.Laws.Seen.{request-good, some-yes}

some-no : (n : ℕ) (f : ℕ → Bool) → ((r : ℕ) → r < n → f r ≡ false) → some_below n f ≡ false
unfolding some_below
some-no zero f h = refl
some-no (suc n) f h = rw (some-no n f (λ r i. h r (omega arith))) (h n (omega arith))

-- no byte before p looks the value up
abbrev pub NoneBefore : List ℕ → List ℕ → ℕ → Type 0
NoneBefore s v p = (r : ℕ) → r < p → looks_up s request_key v r ≡ false

-- the search has come to byte p: a line starts there, or the text ends
pub record Searched (s v : List ℕ) (p : ℕ) : Type 0 where
  pub start : LineStart s p
  pub none : NoneBefore s v p

-- ---- the next byte

-- after the line at byte p, which ends at byte a
module _ (s : List ℕ) (p : ℕ) (h : p < length s) (a : ℕ) (i : a ≡ p + length (line_in s p (length s))) where
  pub search-line : (p < a) × (a ≤ length s)
  search-line =
      let some = line_in-some s p (length s) h (omega arith) in
      let to = line_in-to s p (length s) (omega arith) (omega arith) in
      (omega arith, omega arith)

  line-start : LineStart s p → LineStart s a
  unfolding line_in
  line-start l = rw (i, size-head_line (lines_in s p (length s))) (line_start-more s p l 1)

pub search-further : (s : List ℕ) (p : ℕ) → p < length s → (a q : ℕ)
    → a ≡ p + length (line_in s p (length s)) → q ≡ next_line (is_heading_up_to (length s)) s a → p < q
search-further s p h a q i j = omega (arith, (search-line s p h a i).0, next_line-from s (is_heading_up_to (length s)) a)

module _ (s v : List ℕ) where
  none_found : (r : ℕ) → lookup s r request_key ≡ Err NoHeading → looks_up s request_key v r ≡ false
  unfolding looks_up
  none_found r e = rw e

  module _ (long : length s ≤ text_limit) where
    -- it starts at the first heading line
    pub search-first : (p : ℕ) → p ≡ next_line (is_heading_up_to (length s)) s 0 → Searched s v p
    search-first p h =
        let e = h ∙ next_line-up_to s (length s) 0 (omega arith) (omega arith) in
        let zero = line_start-zero s in
        record {
          start = rw e (line_start-next s 0 zero is_heading);
          none = λ r i. none_found r (lookup-between s 0 zero request_key long request-good r (omega arith) (rw e at i));
        }

    -- from a heading line that does not look the value up to the next
    pub search-next : (p : ℕ) → p < length s → (a q : ℕ) → a ≡ p + length (line_in s p (length s))
        → q ≡ next_line (is_heading_up_to (length s)) s a → Searched s v p → looks_up s request_key v p ≡ false → Searched s v q
    search-next p h a q i j before miss =
        let e = j ∙ next_line-up_to s (length s) a (search-line s p h a i).1 (omega arith) in
        record {
          start = rw e (line_start-next s a (line-start s p h a i before.start) is_heading);
          none = λ r l. cases (ltb r p)
              (λ m. before.none r (ltb-true r p m))
              (λ m. let from = ltb-false r p m in
              cases (eqb r p)
              (λ n. rw (eqb-true r p n) miss)
              (λ n. let other = eqb-false r p n in
              none_found r (lookup-past_line s p before.start request_key long request-good r h (omega arith) (rw (e, i) at l))));
        }

  -- ---- found, or not at all

  pub search-hit : (p : ℕ) → p < length s → looks_up s request_key v p ≡ true → seen s v ≡ true
  unfolding seen
  search-hit p h i = some-yes (length s) (looks_up s request_key v) p h i

  pub search-end : (p : ℕ) → length s ≤ p → Searched s v p → seen s v ≡ false
  unfolding seen
  search-end p h n = some-no (length s) (looks_up s request_key v) (λ r i. n.none r (omega arith))
