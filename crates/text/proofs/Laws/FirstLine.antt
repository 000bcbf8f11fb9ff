-- What the loop that looks for the first non-blank line keeps: the first non-blank line from start on is the one asked for, n blank lines stand
-- before start, and the bytes from start to i are blank, so the line at start is blank where what is left of it at i is, and ends there.
-- Assumes nothing.
use mathlib.Core.Path.{◌≡◌, refl, sym, ◌∙◌}
use mathlib.Core.Bool.{true, false}
use mathlib.Core.List.{List}
use Prim.Native.Nat.{ℕ, ◌≤◌, ◌<◌, ◌+◌}
use native.Mathlib.Omega.{arith}
use lib.ListN.{length, get_or}
use Rattle.text.specs.Bytes.{is_non_blank}
use Rattle.text.specs.Lines.{blank_line, blanks}
use Rattle.text.specs.Parts.{lines_in, line_in, first_line}
use Rattle.text.proofs.Laws.LinesIn.{line_in-newline, line_in-next, line_in-end, line_in-blank-end, line_in-blank-no, line_in-blank-newline, line_in-blank-next}
use Rattle.text.proofs.Laws.LinesIn.{first_line-here, first_line-skip, first_line-none, blanks-none, blanks-here, blanks-skip}

-- the line at start is the first that may be asked for, n lines stand before it, and it is blank up to i
pub record Passed (s : List ℕ) (at to start i n : ℕ) : Type 0 where
  pub within : i ≤ to
  pub order : start ≤ i
  pub fits : to ≤ length s
  pub few : n ≤ i
  pub asked : first_line s start to ≡ first_line s at to
  pub count : n + blanks (lines_in s start to) ≡ blanks (lines_in s at to)
  pub blank : blank_line (line_in s start to) ≡ blank_line (line_in s i to)
  pub ends : start + length (line_in s start to) ≡ i + length (line_in s i to)

module _ (s : List ℕ) (at to start i n : ℕ) (v : Passed s at to start i n) where
  pub end : to ≤ i → to ≡ first_line s at to
  end h =
      let q = start + length (line_in s start to) in
      omega (
        arith,
        line_in-end s i to h,
        first_line-skip s start to (v.blank ∙ line_in-blank-end s i to h),
        first_line-none s q to (omega (arith, v.ends)),
        v.asked,
      )

  -- the last line lacks its byte 10, or there is none
  pub end_line : to ≤ i → start < to → n + 1 ≡ blanks (lines_in s at to)
  end_line h l =
      let q = start + length (line_in s start to) in
      omega (
        arith,
        line_in-end s i to h,
        blanks-skip s start to l v.fits (v.blank ∙ line_in-blank-end s i to h),
        blanks-none s q to (omega (arith, v.ends)),
        v.count,
      )

  pub end_none : to ≤ start → n ≡ blanks (lines_in s at to)
  end_none h = omega (arith, blanks-none s start to h, v.count)

  module _ (h : i < to) where
    pub found : is_non_blank (get_or s i 0) ≡ true → (start ≡ first_line s at to) × (n ≡ blanks (lines_in s at to))
    found b =
        let no = v.blank ∙ line_in-blank-no s i to h v.fits b in
        (sym (first_line-here s start to no) ∙ v.asked, omega (arith, blanks-here s start to no, v.count))

    pub turn : get_or s i 0 ≡ 10 → Passed s at to (i + 1) (i + 1) (n + 1)
    turn b =
        let yes = v.blank ∙ line_in-blank-newline s i to h v.fits b in
        let one = line_in-newline s i to h v.fits b in
        record {
          within = omega arith;
          order = omega arith;
          fits = v.fits;
          few = omega (arith, v.few);
          asked = rw (v.ends, one) at (sym (first_line-skip s start to yes)) ∙ v.asked;
          count = omega (arith, v.count, rw (v.ends, one) at (blanks-skip s start to (omega (arith, v.order)) v.fits yes));
          blank = refl;
          ends = refl;
        }

    pub next : is_non_blank (get_or s i 0) ≡ false → (get_or s i 0 ≡ 10 → ⊥) → Passed s at to start (i + 1) n
    next b m = record {
      within = omega arith;
      order = omega (arith, v.order);
      fits = v.fits;
      few = omega (arith, v.few);
      asked = v.asked;
      count = v.count;
      blank = v.blank ∙ line_in-blank-next s i to h v.fits b m;
      ends = omega (arith, v.ends, line_in-next s i to h v.fits m);
    }
