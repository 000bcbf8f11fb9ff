-- Laws of how long the lines of a sheet are.
use mathlib.Core.Path.{◌≡◌, refl, sym, ap, ◌∙◌}
use mathlib.Core.List.{List, [], ◌∷◌, ◌++◌, append-nil, append_assoc}
use Prim.Native.Nat.{ℕ, ◌+◌, ◌-◌, ◌≤◌, ◌<◌}
use native.Mathlib.Omega.{arith}
use lib.ListN.{length, length-append}
use Rattle.text.specs.Lines.{Line}
use Rattle.text.specs.Runs.{word}
use Rattle.text.specs.Parts.{part}
use Rattle.text.proofs.Laws.Parts.{part_length}
use Rattle.sheet.specs.declared.pairs.PairSpan.{PairSpan}
use Rattle.sheet.specs.Order.{Pair, Order}
use Rattle.sheet.specs.Sheet.{title_line, marked_key, spaced, pair_line, pair_lines, open_line, close_line, sheet_lines, join, sheet}
use Rattle.sheet.specs.Spans.{PairIn, PairAt, pair_of, pairs_at, HasPairs}
use Rattle.sheet.proofs.Laws.Pairs.{pairs_at-none, pairs-step}

pub spaced-none : (v : List ℕ) → length v ≡ 0 → spaced v ≡ []
unfolding spaced
spaced-none [] h = refl
spaced-none (b ∷ v) h = absurd (omega arith)

pub spaced-some : (v : List ℕ) → 0 < length v → spaced v ≡ 32 ∷ v
unfolding spaced
spaced-some [] h = absurd (omega arith)
spaced-some (b ∷ v) h = refl

pub marked_key-length : (k : List ℕ) → length (marked_key k) ≡ length k + 2
unfolding marked_key word
marked_key-length k = omega (arith, length-append k (58 ∷ []))

pub pair_line-length : (p : Pair) → length (pair_line p) ≡ length p.key + 3 + length (spaced p.value)
unfolding pair_line word
pair_line-length p =
    let v = length-append (spaced p.value) (10 ∷ []) in
    omega (arith, length-append (marked_key p.key) (spaced p.value ++ (10 ∷ [])), marked_key-length p.key)

module _ (x : List ℕ) (r : PairSpan) (h : PairIn x r) where
  pub pair_line-empty : r.end ≤ r.value → length (pair_line (pair_of x r)) ≡ r.to - r.from + 3
  pair_line-empty i =
      let k = part_length x r.from r.to (omega arith) in
      let v = part_length x r.value r.end (omega arith) in
      rw (pair_line-length (pair_of x r), spaced-none (part x r.value r.end) (omega arith)) (omega arith)

  pub pair_line-full : r.value < r.end → length (pair_line (pair_of x r)) ≡ r.to - r.from + 3 + 1 + (r.end - r.value)
  pair_line-full i =
      let k = part_length x r.from r.to (omega arith) in
      let v = part_length x r.value r.end (omega arith) in
      rw (pair_line-length (pair_of x r), spaced-some (part x r.value r.end) (omega arith)) (omega arith)

-- ---- one line after another

join-append : (ls : List Line) (l : Line) → join (ls ++ (l ∷ [])) ≡ join ls ++ l
unfolding join
join-append [] l = append-nil l
join-append (k ∷ ls) l = ap (λ (y : List ℕ). k ++ y) (join-append ls l) ∙ sym (append_assoc k (join ls) l)

pub sheet-is : (o : Order) → sheet o ≡ title_line o.title ++ (open_line ++ (join (pair_lines o.pairs) ++ close_line))
unfolding sheet join sheet_lines
sheet-is o = rw (join-append (pair_lines o.pairs) close_line)

pub title_line-length : (t : List ℕ) → length (title_line t) ≡ length t + 3
unfolding title_line word
title_line-length t = let h = length-append t (10 ∷ []) in omega arith

pub open_line-length : length open_line ≡ 13
unfolding open_line word
open_line-length = refl

close_line-length : length close_line ≡ 6
unfolding close_line word
close_line-length = refl

pub sheet-length : (o : Order) → length (sheet o) ≡ length o.title + 3 + 19 + length (join (pair_lines o.pairs))
sheet-length o =
    let pairs = join (pair_lines o.pairs) in
    rw (sheet-is o) (omega (
      arith,
      length-append (title_line o.title) (open_line ++ (pairs ++ close_line)),
      length-append open_line (pairs ++ close_line),
      length-append pairs close_line,
      title_line-length o.title,
      open_line-length,
      close_line-length,
    ))

module _ (x : List ℕ) (p n : ℕ) where
  pub lines_none : n ≤ 0 → join (pair_lines (pairs_at x p n)) ≡ []
  unfolding pair_lines join
  lines_none h = rw (pairs_at-none x p n h)

  pub lines_step : (m : ℕ) → HasPairs x p n → n ≡ m + 1 → (r : PairSpan) → PairAt x p r
      → join (pair_lines (pairs_at x p n)) ≡ pair_line (pair_of x r) ++ join (pair_lines (pairs_at x r.end m))
  unfolding pair_lines join
  lines_step m h k r a = rw (pairs-step x p n m h k r a)
