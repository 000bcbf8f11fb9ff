-- What the code's answers stand for: a value and the byte after it, or nothing.
use Rattle.std.specs.Prelude.{◌≡◌, Bool, List, ℕ, ◌+◌, ◌≤◌, ◌<◌, drop}
use Rattle.std.specs.Option.{is_some}
use Rattle.std.specs.declared.option.Option as Options
use Rattle.std.specs.declared.option.Option.TheVariants.{None, Some}
use Rattle.std.proofs.Math.Option.{Option, none, some}
use Rattle.text.specs.Parts.{part}
use Rattle.dates.specs.Reads.{Takes}
use Rattle.dates.specs.Stamps.{date_in, times, after_day_name, repeater, half_of, alone, both, bracketed, timestamp}
use Rattle.dates.specs.Planning.{planning_in}
use Rattle.dates.specs.declared.stamp.Half.{Half}
use Rattle.dates.specs.declared.stamp.Bracket.{Bracket}
use Rattle.dates.specs.declared.stamp.Timestamp.{Timestamp}
use Rattle.dates.specs.declared.span.Span as Spans
use Rattle.dates.specs.declared.planning.Keyword.{Keyword}
use Rattle.dates.specs.declared.planning.Keyword.TheVariants.{Closed, Deadline, Scheduled}
use Rattle.dates.specs.declared.planning.Part.{Part}
use Rattle.dates.specs.declared.planning.Places.{Places}
use Rattle.dates.specs.declared.planning.Planning.{Planning}

-- what is passed has no value
abbrev pub past_at : Options.Option ℕ → Option (Unit {0} × ℕ)
past_at None = none
past_at (Some q) = some (tt, q)

-- what stands after an opening bracket, where a date does
abbrev pub half_in : List ℕ → Half
half_in x = let t = times (after_day_name (drop 10 x)) in half_of (date_in x) t.0 (repeater t.1).0

-- one pair of brackets is found with the byte after it, and with whether it has a time range
abbrev pub half_at : List ℕ → ℕ → ℕ → Options.Option (ℕ × Bool) → Option (Half × ℕ)
half_at s p e None = none
half_at s p e (Some f) = some (half_in (part s p e), f.0)

abbrev pub HasRange : List ℕ → ℕ → ℕ → Options.Option (ℕ × Bool) → Type 0
HasRange s p e None = Unit {0}
HasRange s p e (Some f) = (f.1 ≡ is_some (half_in (part s p e)).until) × (p + 10 ≤ e)

-- a second half is found with the byte at which it starts, which has room for its date
abbrev pub second_at : List ℕ → ℕ → Options.Option (ℕ × ℕ) → Option (Half × ℕ)
second_at s e None = none
second_at s e (Some f) = some (half_in (part s f.0 e), f.1)

abbrev pub HasDate : ℕ → Options.Option (ℕ × ℕ) → Type 0
HasDate e None = Unit {0}
HasDate e (Some f) = f.0 + 10 ≤ e

-- a timestamp is found with the byte after it, and with that at which its second half starts
abbrev pub end_of : Spans.Span → ℕ
end_of (Spans.TheVariants.One q) = q
end_of (Spans.TheVariants.Two a q) = q

abbrev pub spanned : Bracket → List ℕ → ℕ → ℕ → Options.Option Spans.Span → Options.Option Timestamp
spanned b s p e None = None
spanned b s p e (Some (Spans.TheVariants.One q)) = Some (alone b (half_in (part s (p + 1) e)))
spanned b s p e (Some (Spans.TheVariants.Two a q)) = Some (both b (half_in (part s (p + 1) e)) (half_in (part s a e)))

abbrev pub span_end : ℕ → Options.Option Spans.Span → ℕ
span_end p None = p
span_end p (Some r) = end_of r

-- the halves of a span have room for their dates
abbrev pub HasDates : ℕ → ℕ → Options.Option Spans.Span → Type 0
HasDates p e None = Unit {0}
HasDates p e (Some (Spans.TheVariants.One q)) = p + 11 ≤ e
HasDates p e (Some (Spans.TheVariants.Two a q)) = (p + 11 ≤ e) × (a + 10 ≤ e)

pub record SpanOf (s : List ℕ) (p e : ℕ) (o c : List ℕ) (r : Options.Option Spans.Span) : Type 0 where
  pub takes : (b : Bracket) → Takes s p e (bracketed b o c) (spanned b s p e r) (span_end p r)
  pub dates : HasDates p e r

-- the timestamp from byte p on, up to byte e
unfoldable pub stamp_in : List ℕ → ℕ → ℕ → Options.Option Timestamp
stamp_in s p e = (timestamp (part s p e)).0

abbrev pub stamp_at : List ℕ → ℕ → ℕ → Options.Option ℕ → Option (Options.Option Timestamp × ℕ)
stamp_at s p e None = none
stamp_at s p e (Some q) = some (stamp_in s p e, q)

-- a part of a planning line is found with the byte at which its stamp starts
abbrev pub part_at : List ℕ → ℕ → Options.Option Part → Option ((Keyword × Options.Option Timestamp) × ℕ)
part_at s e None = none
part_at s e (Some a) = some ((a.keyword, stamp_in s a.stamp e), a.end)

abbrev pub PartEnds : ℕ → ℕ → Options.Option Part → Type 0
PartEnds p e None = Unit {0}
PartEnds p e (Some a) = (a.stamp ≤ e) × (p < a.end) × (a.end ≤ e)

-- the stamps that start at three bytes, and one of these bytes changed
abbrev pub stamps_in : List ℕ → ℕ → Places → Planning
stamps_in s e p = record { closed = stamp_in s p.closed e; deadline = stamp_in s p.deadline e; scheduled = stamp_in s p.scheduled e }

abbrev pub placed : Keyword → ℕ → Places → Places
placed Closed q p = record { closed = q; deadline = p.deadline; scheduled = p.scheduled }
placed Deadline q p = record { closed = p.closed; deadline = q; scheduled = p.scheduled }
placed Scheduled q p = record { closed = p.closed; deadline = p.deadline; scheduled = q }

abbrev pub PlacesIn : ℕ → Places → Type 0
PlacesIn e p = (p.closed ≤ e) × (p.deadline ≤ e) × (p.scheduled ≤ e)

-- the parts of the body from byte p up to byte e
abbrev pub stamps_of : List ℕ → ℕ → Options.Option Places → Option Planning
stamps_of s e None = none
stamps_of s e (Some p) = some (stamps_in s e p)

abbrev pub PartsEnd : ℕ → Options.Option Places → Type 0
PartsEnd e None = Unit {0}
PartsEnd e (Some p) = PlacesIn e p

pub record PartsIn (s : List ℕ) (p e : ℕ) (r : Options.Option Places) : Type 0 where
  pub is : planning_in (part s p e) ≡ stamps_of s e r
  pub within : PartsEnd e r
