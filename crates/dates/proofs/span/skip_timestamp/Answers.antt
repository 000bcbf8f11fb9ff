-- `dates::span::skip_timestamp` meets its contract: a bracket in turn.
-- Assumes nothing.
use Rattle.std.proofs.Common.{◌≡◌, ◌-◌, ◌≤◌, ℕ, ap, sym, arith}
use Rattle.std.specs.Option.{MatchOption, IsSomeAnd, option_map}
use Rattle.std.specs.declared.option.Option.{Option}
use Rattle.std.specs.declared.option.Option.TheVariants.{None, Some}
use Rattle.text.specs.Runs.{word}
use Rattle.dates.specs.Stamps.{timestamp, stamp}
use Rattle.dates.specs.Found.{end_of}
use Rattle.dates.specs.declared.span.Span.{Span}
use Rattle.dates.specs.declared.stamp.Bracket.TheVariants.{Active, Inactive}
use Rattle.dates.proofs.Laws.Reads.{begins-room}
use Rattle.dates.proofs.Laws.Stamps.{span-stamp}
use Rattle.dates.proofs.span.skip_timestamp.Goals as goal

-- what `map` gives
mapped : (o : Option Span) (r : Option ℕ) (P : Span → ℕ → Type 0) → ((x : Span) (q : ℕ) → P x q → q ≡ end_of x) → MatchOption o (r ≡ None) (λ x. IsSomeAnd r (P x)) → r ≡ option_map end_of o
mapped None r P f h = h
mapped (Some x) None P f h = absurd h
mapped (Some x) (Some q) P f h = ap Some (f x q h)

pub skip_bracketed-requires : goal.skip_bracketed-requires
unfolding word
skip_bracketed-requires c =
    let r : 1 ≤ c.args.to - c.args.at = begins-room _ _ _ (word "<") c.requires.1 (sym c.if-begins_with.ensures) in
    omega arith

pub returns-then-begins_with : goal.returns-then-begins_with
unfolding timestamp word
returns-then-begins_with c =
    rw (mapped _ _ _ (λ x q e. e) c.map.ensures.cases) (span-stamp _ _ _ Active _ _ (rw (sym c.if-begins_with.ensures)) _ c.skip_bracketed.ensures)

pub skip_bracketed-requires-then-begins_with-2 : goal.skip_bracketed-requires-then-begins_with-2
unfolding word
skip_bracketed-requires-then-begins_with-2 c =
    let r : 1 ≤ c.args.to - c.args.at = begins-room _ _ _ (word "[") c.requires.1 (sym c.if-begins_with-2.ensures) in
    omega arith

pub returns-then-begins_with-2 : goal.returns-then-begins_with-2
unfolding timestamp word
returns-then-begins_with-2 c =
    rw (mapped _ _ _ (λ x q e. e) c.map-then-begins_with-2.ensures.cases)
    (span-stamp _ _ _ Inactive _ _ (rw (sym c.if-begins_with.ensures, sym c.if-begins_with-2.ensures)) _
    c.skip_bracketed-then-begins_with-2.ensures)

pub returns : goal.returns
unfolding stamp timestamp word
returns c = record { is = rw (sym c.if-begins_with.ensures, sym c.if-begins_with-2.ensures); within = tt }
