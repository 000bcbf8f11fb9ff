-- The shape of a reading's headings: one at each heading line, each followed by its section. Where they start, and which parents they may have.
-- Assumes nothing.
use mathlib.Core.Path.{◌≡◌, refl, sym}
use mathlib.Core.Logic.{◌⊎◌, inr}
use mathlib.Core.Bool.{true}
use mathlib.Core.List.{List, [], ◌∷◌, ◌++◌}
use Prim.Native.Nat.{ℕ, zero, suc, ◌+◌, ◌-◌, ◌≤◌, ◌<◌}
use native.Mathlib.Omega.{arith}
use lib.ListN.{length}
use Rattle.text.specs.Parts.{lines_in, line_in, next_line, LineStart}
use Rattle.text.proofs.Laws.Lines.{size-head_line}
use Rattle.text.proofs.Laws.LineStarts.{line_start-more, line_start-next}
use Rattle.text.proofs.Laws.LinesIn.{line_in-to, line_in-some, next_line-from, next_line-to, next_line-passes}
use Rattle.rules.specs.Headings.{is_heading}
use Rattle.rules.specs.Kind.{holds_sections}
use Rattle.rules.proofs.Basics.{All, all_nil, all_cons, all_append, all_map}
use Rattle.rules.proofs.Laws.Headings.{stars-some, stars-le}
use Rattle.table.specs.Proper.{heading_starts}
use Rattle.table.specs.Reading.{nearest, headings}
use Rattle.table.specs.Sections.{line_at}
use Rattle.table.proofs.Basics.{split}
use Rattle.table.proofs.Laws.Proper.{heading_starts-append, heading_starts-none, heading_lines_from, heading_lines_from-end, heading_lines_from-here}
use Rattle.table.proofs.Laws.Proper.{heading_lines_from-next}
use Rattle.table.proofs.Laws.Reading.{Earlier, nearest-here, nearest-skip, stars_at, next_heading, heading_at, group_at, headings-none, headings-step}
use Rattle.table.proofs.Proper.Sections.{Top, InGroup, section-own}
use Rattle.table.proofs.Proper.Stands.{Outside}
use Rattle.table.specs.declared.record.Record.{Record}

-- a line starts at byte p
pub record Begins (s : List ℕ) (p : ℕ) : Type 0 where
  pub inside : p < length s
  pub start : LineStart s p

-- the headings from byte p on: the first has index k, and hs are the headings before it
pub data Heads (s : List ℕ) : Earlier → ℕ → ℕ → List Record → Type 0 where
  heads-none : {hs : Earlier} {p k : ℕ} → p ≡ length s → Heads s hs p k []
  heads-step : {hs : Earlier} {p k : ℕ} {H : List Record} → Begins s p → is_heading (line_at s p) ≡ true
      → Heads s ((k, stars_at s p) ∷ hs) (next_heading s p) (suc k + length (group_at s hs p k)) H
      → Heads s hs p k (heading_at s hs p ∷ (group_at s hs p k ++ H))

-- ---- the heading at p

module _ (s : List ℕ) (p : ℕ) (l : p < length s) where
  pub line_at-to : p + length (line_at s p) ≤ length s
  line_at-to = line_in-to s p (length s) (omega arith) (omega arith)

  pub line_at-some : 0 < length (line_at s p)
  line_at-some = line_in-some s p (length s) l (omega arith)

  pub stars_at-le : stars_at s p ≤ length s
  stars_at-le = omega (arith, stars-le (line_at s p), line_at-to)

module _ (s : List ℕ) (p : ℕ) (l : Begins s p) where
  line_at-start : LineStart s (p + length (line_at s p))
  unfolding line_in
  line_at-start = rw (size-head_line (lines_in s p (length s))) (line_start-more s p l.start 1)

  pub heading-top : (hs : Earlier) → Top s (heading_at s hs p)
  unfolding holds_sections
  heading-top hs = record { kind = tt; start = line_at-start; text = line_at-to s p l.inside; end = refl }

  pub group-own : (hs : Earlier) (k : ℕ) → All (InGroup k) (group_at s hs p k)
  group-own hs k = section-own s (heading_at s hs p) (heading-top hs) k

-- ---- the reading's headings have this shape

heads-end : (n : ℕ) (s : List ℕ) (hs : Earlier) (p k : ℕ) → p ≤ length s → length s ≤ p → Heads s hs p k (headings n s hs p k)
heads-end n s hs p k a b = rw (headings-none n s hs p k b) (heads-none {p = p} (omega arith))

-- from the first heading line at or after byte b on
pub headings-heads : (n : ℕ) (s : List ℕ) (hs : Earlier) (b k : ℕ) → LineStart s b → b ≤ length s → length s - b ≤ n
    → let p = next_line is_heading s b in Heads s hs p k (headings n s hs p k)
headings-heads zero s hs b k start h c = heads-end zero s hs _ k (next_line-to s is_heading b h) (omega (arith, next_line-from s is_heading b))
headings-heads (suc n) s hs b k start h c =
    let p = next_line is_heading s b in
    let i = p + length (line_at s p) in
    split p (length s)
    (λ l. let begins : Begins s p = record { inside = l; start = line_start-next s b start is_heading } in
    rw (headings-step n s hs p k l)
    (heads-step begins (next_line-passes s is_heading b h l)
    (headings-heads n s ((k, stars_at s p) ∷ hs) i _ (line_at-start s p begins) (line_at-to s p l)
    (omega (arith, next_line-from s is_heading b, line_at-some s p l)))))
    (heads-end (suc n) s hs p k (next_line-to s is_heading b h))

-- ---- they start at the text's heading lines

pub heads-starts : {s : List ℕ} {hs : Earlier} {p k : ℕ} {H : List Record} → Heads s hs p k H → heading_starts H ≡ heading_lines_from s p
unfolding heading_starts
heads-starts {s = s} (heads-none e) = rw e (sym (heading_lines_from-end s))
heads-starts {s = s} {hs = hs} {p = p} {k = k} (heads-step {H = H} l y hd) =
    let none = heading_starts-none (all_map (λ r o e. omega arith) (group-own s p l hs k)) in
    rw (heading_starts-append (group_at s hs p k) H, none, heads-starts hd)
    (sym (rw (heading_lines_from-here s p l.inside y, heading_lines_from-next s (p + length (line_at s p)))))

-- ---- their parents

-- the parents that headings may get are before a, or from b on
abbrev pub Apart : ℕ → ℕ → Earlier → Type 0
Apart a b hs = (x : ℕ) → 0 < x → (nearest x hs < a) ⊎ (b ≤ nearest x hs)

apart_more : (a b k m : ℕ) (hs : Earlier) → b ≤ k → Apart a b hs → Apart a b ((k, m) ∷ hs)
apart_more a b k m hs h f x z =
    split m x (λ i. rw (nearest-here x k m hs i) (inr h)) (λ i. rw (nearest-skip x k m hs i) (f x z))

pub heads-outside : {s : List ℕ} {hs : Earlier} {p k : ℕ} {H : List Record} (a b : ℕ) → Heads s hs p k H → b ≤ k → Apart a b hs
    → All (Outside a b) H
heads-outside a b (heads-none e) h f = all_nil
heads-outside {s = s} {hs = hs} {p = p} {k = k} a b (heads-step l y hd) h f =
    let m = stars_at s p in
    all_cons {a = heading_at s hs p} (f m (stars-some (line_at s p) y))
    (all_append (all_map (λ r o. inr (omega arith)) (group-own s p l hs k)) (heads-outside a b hd (omega arith) (apart_more a b k m hs h f)))
