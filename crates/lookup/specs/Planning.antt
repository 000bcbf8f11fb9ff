-- The stamps of a heading's planning line  [02 order 1].
use Rattle.std.specs.Prelude.{◌≡◌, Bool, true, false, List, ℕ, ◌≤◌, length, ltb}
use Rattle.std.specs.declared.option.Option.{Option}
use Rattle.std.specs.declared.option.Option.TheVariants.{None, Some}
use Rattle.std.specs.declared.result.Result.{Result}
use Rattle.std.specs.declared.result.Result.TheVariants.{Ok, Err}
use Rattle.text.specs.Number
use Rattle.text.specs.Limits.{text_limit}
use Rattle.text.specs.Lines.{body}
use Rattle.text.specs.Parts.{part, line_in, next_line}
use Rattle.dates.specs.Planning.{no_stamps, planning_stamps}
use Rattle.dates.specs.declared.planning.Planning.{Planning}
use Rattle.rules.specs.Headings.{is_heading}
use Rattle.lookup.specs.declared.span.Span.{Span}
use Rattle.lookup.specs.declared.planning.Refusal.{Refusal}
use Rattle.lookup.specs.declared.planning.Refusal.TheVariants.{TooLong, NoHeading}
use Rattle.lookup.specs.Stages.{heading_at}

-- the body of the line right after a heading line, which ends at byte p
unfoldable pub body_after : List ℕ → ℕ → List ℕ
body_after s p = body (line_in s p (next_line is_heading s p))

-- the stamps, or why there are none
abbrev pub Answer : Type 0
Answer = Result Planning Refusal

abbrev pub with_heading : Option ℕ → (ℕ → Planning) → Answer
with_heading None f = Err NoHeading
with_heading (Some p) f = Ok (f p)

abbrev pub unless_long : Bool → Answer → Answer
unless_long true rest = Err TooLong
unless_long false rest = rest

-- 1, then 4; no stamps where that line is no planning line
unfoldable pub planning : List ℕ → ℕ → Answer
planning s p = unless_long (ltb text_limit (length s)) (with_heading (heading_at s p) (λ a. planning_stamps (body_after s a)))

abbrev pub number : Answer → ℕ
number (Ok a) = Number.done
number (Err TooLong) = Number.too_long
number (Err NoHeading) = Number.no_heading

abbrev pub stamps : Answer → Planning
stamps (Ok a) = a
stamps (Err r) = no_stamps

-- for a contract: that body lies from a byte to a byte
pub record BodyAfter (s : List ℕ) (p : ℕ) (b : Span) : Type 0 where
  pub is : part s b.start b.end ≡ body_after s p
  pub order : b.start ≤ b.end
  pub within : b.end ≤ length s
