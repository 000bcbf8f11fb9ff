-- Laws of what the reading puts where: the contents of a container, sections, and headings with their parents.
-- Assumes nothing.
use mathlib.Core.Path.{◌≡◌, refl}
use mathlib.Core.Bool.{true, false}
use mathlib.Core.List.{List, [], ◌∷◌, ◌++◌}
use Prim.Native.Nat.{ℕ, zero, suc, ◌+◌, ◌-◌, ◌*◌, ◌≤◌, ◌<◌}
use lib.ListN.{length}
use borrow.Author.Tests.{lt-ltb, le-ltb}
use Rattle.text.specs.LineNumbers.{line_number}
use Rattle.text.specs.Parts.{first_line, next_line}
use Rattle.rules.specs.Headings.{stars, is_heading, is_heading_up_to}
use Rattle.rules.specs.Kind
use Rattle.rules.specs.Kind.{is_holder}
use Rattle.table.specs.Makers.{heading_record, section_record, child_record}
use Rattle.table.specs.Reading.{contents, section, nearest, headings}
use Rattle.table.specs.Records.{rec}
use Rattle.table.specs.Sections.{line_at, section_end, section_start}
use Rattle.table.specs.declared.record.Record.{Record}

-- ---- contents

-- what record r, of index k, holds
pub held : ℕ → List ℕ → Record → ℕ → List Record
held n s r k = elim (is_holder r.kind) [ true ↦ contents n s r k (first_line s r.from r.to) (suc k) | false ↦ [] ]

module _ (n : ℕ) (s : List ℕ) (r : Record) (k : ℕ) where
  pub held-yes : is_holder r.kind ≡ true → held n s r k ≡ contents n s r k (first_line s r.from r.to) (suc k)
  unfolding held
  held-yes h = rw (h, held)

  pub held-no : is_holder r.kind ≡ false → held n s r k ≡ []
  unfolding held
  held-no h = rw (h, held)

pub contents-none : (n : ℕ) (s : List ℕ) (c : Record) (q p k : ℕ) → c.to ≤ p → contents n s c q p k ≡ []
unfolding contents
contents-none zero s c q p k h = refl
contents-none (suc n) s c q p k h = rw (le-ltb p c.to h, contents)

pub contents-step : (n : ℕ) (s : List ℕ) (c : Record) (q p k : ℕ) → p < c.to
    → let r = child_record s c q p in
    contents (suc n) s c q p k ≡ r ∷ (held n s r k ++ contents n s c q r.end (suc k + length (held n s r k)))
unfolding contents held
contents-step n s c q p k h = rw (lt-ltb p c.to h, contents)

-- ---- sections

-- the record of the section of c, by its numbers
abbrev pub section_of : List ℕ → Record → ℕ → Record
section_of s c q =
    let a = section_start s c in
    rec Kind.section a (section_end s c) a (section_end s c) q 0 (line_number s a)

-- what the section of c, of index k, holds
abbrev pub section_contents : List ℕ → Record → ℕ → ℕ → List Record
section_contents s c q k =
    let a = section_start s c in
    let e = section_end s c in
    contents (suc (2 * (e - a))) s (section_of s c q) k (first_line s a e) (suc k)

module _ (s : List ℕ) (c : Record) (q k : ℕ) where
  pub section-yes : section_start s c < section_end s c → section s c q k ≡ section_of s c q ∷ section_contents s c q k
  unfolding section section_record
  section-yes h = rw (lt-ltb (section_start s c) (section_end s c) h, section)

  pub section-no : section_end s c ≤ section_start s c → section s c q k ≡ []
  unfolding section section_record
  section-no h = rw (le-ltb (section_start s c) (section_end s c) h, section)

-- ---- headings

-- earlier headings' indexes and stars, the nearest first
abbrev pub Earlier : Type 0
Earlier = List (ℕ × ℕ)

module _ (x k m : ℕ) (hs : Earlier) where
  pub nearest-here : m < x → nearest x ((k, m) ∷ hs) ≡ k
  unfolding nearest
  nearest-here h = rw (lt-ltb m x h, nearest)

  pub nearest-skip : x ≤ m → nearest x ((k, m) ∷ hs) ≡ nearest x hs
  unfolding nearest
  nearest-skip h = rw (le-ltb m x h, nearest)

-- the stars of the line at byte p, and the heading line after it
abbrev pub stars_at : List ℕ → ℕ → ℕ
stars_at s p = stars (line_at s p)

abbrev pub next_heading : List ℕ → ℕ → ℕ
next_heading s p = next_line is_heading s (p + length (line_at s p))

-- the next heading line with n stars or fewer, from byte p on
abbrev pub next_up_to : List ℕ → ℕ → ℕ → ℕ
next_up_to s n p = next_line (is_heading_up_to n) s p

-- the record of the heading at byte p, by its numbers, and its section; it has index k
abbrev pub heading_at : List ℕ → Earlier → ℕ → Record
heading_at s hs p =
    let m = stars_at s p in
    let i = p + length (line_at s p) in
    rec Kind.heading p (next_up_to s m i) i (next_up_to s m i) (nearest m hs) m (line_number s p)

abbrev pub group_at : List ℕ → Earlier → ℕ → ℕ → List Record
group_at s hs p k = section s (heading_at s hs p) k (suc k)

module _ (n : ℕ) (s : List ℕ) (hs : Earlier) (p k : ℕ) where
  pub headings-none : length s ≤ p → headings n s hs p k ≡ []
  unfolding headings
  headings-none h =
      elim n as (λ n. headings n s hs p k ≡ []) [ zero ↦ refl | suc m ↦ rw (le-ltb p (length s) h, headings) ]

  pub headings-step : p < length s → let g = group_at s hs p k in
      headings (suc n) s hs p k ≡ heading_at s hs p ∷ (g ++ headings n s ((k, stars_at s p) ∷ hs) (next_heading s p) (suc k + length g))
  unfolding headings heading_record section_end
  headings-step h = rw (lt-ltb p (length s) h, headings)
