-- Answers of a lookup in the numbers of the C interface.
use Rattle.std.specs.Prelude.{ℕ}
use Rattle.lookup.specs.declared.defaults.Sourced.{Sourced}
use Rattle.lookup.specs.Lookup.{Answer, number, start, end, further}
use Rattle.lookup.specs.Defaults.{whose, answer}
use Rattle.comaltzex.specs.declared.value.Value.{Value}
use Rattle.comaltzex.specs.declared.value.SourcedValue.{SourcedValue}

-- the number, the part and the further number
abbrev pub value_numbers : Answer → Value
value_numbers a = record { number = number a; start = start a; end = end a; further = further a }

-- and whose answer it is  [02 order 13]
abbrev pub sourced_value : ℕ → Value → SourcedValue
sourced_value w v = record { number = v.number; whose = w; start = v.start; end = v.end; further = v.further }

abbrev pub sourced_numbers : Sourced → SourcedValue
sourced_numbers r = sourced_value (whose r) (value_numbers (answer r))
