-- A part of a text, from a byte to a byte.
use Rattle.std.specs.Prelude.{ℕ}
use Rattle.lookup.specs.declared.span.Span.{Span}

abbrev pub span : ℕ → ℕ → Span
span a e = record { start = a; end = e }
